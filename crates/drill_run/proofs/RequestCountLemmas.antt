-- What players say weighs no more than the steps that they took; so a player asks at most seven times.
use Rattle.std.proofs.Common.{◌≡◌, ℕ, zero, suc, ◌+◌, ◌*◌, ◌^◌, ◌≤◌, ◌<◌, Bool, true, false, List, [], ◌∷◌, ◌++◌, length, map, Option, Some, None, Result, Ok, Err, IfSome, unwrap_or, refl, sym, ap, ◌∙◌, subst, arith}
use Rattle.std.specs.Prelude.{codes, replicate, slice_set, take}
use Rattle.std.specs.List.{AllByRecursion}
use Rattle.std.specs.Option.{option_map, option_and_then}
use Rattle.rtsp_head.specs.declared.fault.HeadFault.{HeadFault}
use Rattle.rtsp_head.specs.declared.head.Head.{Head}
use Rattle.rtsp_head.specs.Headers.{field_of}
use Rattle.rtsp_head.specs.Heads.{head_of}
use Rattle.rtsp_head.specs.HeadText.{is_value}
use Rattle.rtsp_head.specs.Items.{Shape, items_of}
use Rattle.rtsp_small.specs.Sessions.{SessionParts, is_session_id, session_of}
use Rattle.translate_up.proofs.SoundLemmas.{session_value}
use Rattle.client_machine.proofs.SeenReplyLemmas.{id_told}
use Rattle.gateway_claim.specs.declared.event.ToClient.{ToClient}
use Rattle.gateway_claim.specs.Happenings.{Happening, takes, hears, HistoryEntry, happened}
use Rattle.drill_server.specs.ServerSteps.{is_request_kind, next_answer}
use Rattle.drill_run.specs.declared.player.Player.{Player}
use Rattle.drill_run.specs.declared.step.PlayerStep.{PlayerStep}
use Rattle.drill_run.specs.declared.step.PlayerStep.TheVariants as steps
use Rattle.drill_run.specs.declared.turn.Who.{Who}
use Rattle.drill_run.specs.declared.turn.Who.TheVariants.{Client, Server}
use Rattle.drill_run.specs.CountSteps.{count_if, counts_of}
use Rattle.drill_run.specs.Players.{new_player, is_response_kind, session_in_head, session_replied, heard_kind, heard_player, player_at, handed_players, stepped_by, stepped_player, player_said}
use Rattle.drill_run.specs.Steps.{step_after, requests_of_step, step_text, said_at, end_told}
use Rattle.drill_run.specs.TurnCounts.{requests_before, over_players, requests_sent}
use Rattle.drill_run.specs.Turns.{Drilled, DrillRun, begins, goes_on, Turn, entered_below, after_draw, after_saying, after_entries, turn_told}
use Rattle.drill_run.proofs.WeighLemmas.{weighed}
use Rattle.drill_run.proofs.UpstreamLemmas.{told_of, told_in, asked_item, requests_told_in}
use Rattle.drill_run.proofs.ScriptLemmas.{WeighsMost, step_most, script_weighed}
use Rattle.drill_run.proofs.OneDrillLemmas.{turn_history}
use Rattle.drill_run.proofs.TurnCountLemmas.{over_set, handed_over, MayTake, chosen_may, client_may, run_counted}

-- After a step its requests are sent.
step_asks : (step : PlayerStep) → requests_before (step_after step) ≡ requests_before (Some step) + requests_of_step step
step_asks steps.Options = refl
step_asks steps.Describe = refl
step_asks steps.SetupFirst = refl
step_asks steps.SetupSecond = refl
step_asks steps.Play = refl
step_asks steps.Frame = refl
step_asks steps.Teardown = refl
step_asks steps.End = refl

most_requests : (next : Option PlayerStep) → requests_before next ≤ 7
most_requests None = omega arith
most_requests (Some steps.Options) = omega arith
most_requests (Some steps.Describe) = omega arith
most_requests (Some steps.SetupFirst) = omega arith
most_requests (Some steps.SetupSecond) = omega arith
most_requests (Some steps.Play) = omega arith
most_requests (Some steps.Frame) = omega arith
most_requests (Some steps.Teardown) = omega arith
most_requests (Some steps.End) = omega arith

few_sent : (players : List Player) → requests_sent players ≤ 7 * length players
few_sent [] = omega arith
few_sent (player ∷ players) = omega (arith, most_requests player.next, few_sent players)

-- A player's session is a value that a request can name.
abbrev HasValue : Player → Type 0
HasValue player = is_value player.session ≡ true

value_at : (players : List Player) (i : ℕ) → AllByRecursion HasValue players → HasValue (player_at i players)
value_at [] i all = refl
value_at (first ∷ players) zero all = all.0
value_at (first ∷ players) (suc i) all = value_at players i all.1

value_set : (players : List Player) (i : ℕ) (player : Player) → HasValue player → AllByRecursion HasValue players → AllByRecursion HasValue (slice_set players i player)
value_set [] i player value all = tt
value_set (first ∷ players) zero player value all = (value, all.1)
value_set (first ∷ players) (suc i) player value all = (all.0, value_set players i player value all.1)

new_values : (n : ℕ) → AllByRecursion HasValue (replicate n new_player)
new_values zero = tt
new_values (suc n) = (refl, new_values n)

id_value : (session : Option SessionParts) → IfSome session (λ one. is_session_id one.id ≡ true) → IfSome (option_map (λ (one : SessionParts). one.id) session) (λ id. is_value id ≡ true)
id_value None valid = tt
id_value (Some one) valid = session_value (Some one.id) valid

named_value : (value : Option (List ℕ)) → IfSome (option_and_then session_of value) (λ one. is_session_id one.id ≡ true)
    → IfSome (option_and_then (λ text. option_map (λ (one : SessionParts). one.id) (session_of text)) value) (λ id. is_value id ≡ true)
named_value None valid = tt
named_value (Some text) valid = id_value (session_of text) valid

head_value : (read : Result Head HeadFault) → IfSome (session_in_head read) (λ id. is_value id ≡ true)
head_value (Ok head) = named_value (field_of head.headers (codes "Session")) (id_told (record { code = 0; fields = head.headers; body = [] }))
head_value (Err fault) = tt

kept_value : (named : Option (List ℕ)) (session : List ℕ) → IfSome named (λ id. is_value id ≡ true) → is_value session ≡ true → is_value (unwrap_or named session) ≡ true
kept_value None session valid value = value
kept_value (Some id) session valid value = valid

kind_value : (reply : Bool) (player : Player) (shape : Shape) → HasValue player → HasValue (heard_kind reply player shape)
kind_value true player shape value = kept_value (session_replied shape) player.session (head_value (head_of (take shape.head shape.bytes))) value
kind_value false player shape value = value

heard_value : (player : Player) (items : List Shape) → HasValue player → HasValue (heard_player player items)
heard_value player [] value = value
heard_value player (shape ∷ items) value =
    heard_value (heard_kind (is_response_kind shape.kind) player shape) items (kind_value (is_response_kind shape.kind) player shape value)

handed_values : (piece : Option ToClient) (players : List Player) → AllByRecursion HasValue players → AllByRecursion HasValue (handed_players piece players)
handed_values None players all = all
handed_values (Some piece) players all =
    value_set players piece.conn (heard_player (player_at piece.conn players) (items_of piece.bytes)) (heard_value (player_at piece.conn players) (items_of piece.bytes) (value_at players piece.conn all)) all

-- What happenings weigh.
abbrev told_all : (Shape → ℕ) → List Happening → ℕ
told_all weigh [] = 0
told_all weigh (happening ∷ more) = told_of weigh happening + told_all weigh more

told_both : (weigh : Shape → ℕ) (one other : List Happening) → told_all weigh (one ++ other) ≡ told_all weigh one + told_all weigh other
told_both weigh [] other = omega arith
told_both weigh (happening ∷ one) other = let rest = told_both weigh one other in omega (arith, rest)

taken_told : (weigh : Shape → ℕ) (i : ℕ) (items : List Shape) → told_all weigh (map (λ shape. takes i shape) items) ≡ weighed weigh items
taken_told weigh i [] = refl
taken_told weigh i (item ∷ items) = let rest = taken_told weigh i items in omega (arith, rest)

heard_told : (weigh : Shape → ℕ) (items : List Shape) → told_all weigh (map (λ shape. hears shape) items) ≡ 0
heard_told weigh [] = refl
heard_told weigh (item ∷ items) = let rest = heard_told weigh items in omega (arith, rest)

ended_told : (weigh : Shape → ℕ) (last : Bool) (i : ℕ) → told_all weigh (end_told last i) ≡ 0
ended_told weigh true i = refl
ended_told weigh false i = refl

entries_told : (weigh : Shape → ℕ) (more earlier : List HistoryEntry) → told_in weigh (more ++ earlier) ≡ told_in weigh earlier + told_all weigh (happened more)
entries_told weigh [] earlier = omega arith
entries_told weigh (e ∷ more) earlier = let both = told_both weigh (happened more) (e.happening ∷ []) in let rest = entries_told weigh more earlier in omega (arith, both, rest)

entered_told : (weigh : Shape → ℕ) (n : ℕ) → told_in weigh (entered_below n) ≡ 0
entered_told weigh zero = refl
entered_told weigh (suc n) = let rest = entered_told weigh n in omega (arith, rest)

entries_sent : (before : Option PlayerStep → ℕ) (more : List HistoryEntry) (drilled : Drilled) → over_players before (after_entries more drilled).players ≡ over_players before drilled.players
entries_sent before [] drilled = refl
entries_sent before (e ∷ more) drilled = handed_over before e.outcome.to_client (after_entries more drilled).players ∙ entries_sent before more drilled

entries_values : (more : List HistoryEntry) (drilled : Drilled) → AllByRecursion HasValue drilled.players → AllByRecursion HasValue (after_entries more drilled).players
entries_values [] drilled all = all
entries_values (e ∷ more) drilled all = handed_values e.outcome.to_client (after_entries more drilled).players (entries_values more drilled all)

stepped_value : (next : Option PlayerStep) (player : Player) → HasValue player → HasValue (stepped_by next player)
stepped_value None player value = value
stepped_value (Some step) player value = value

saying_values : (who : Who) (drilled : Drilled) → AllByRecursion HasValue drilled.players → AllByRecursion HasValue (after_saying who (after_draw drilled)).players
saying_values (Client i) drilled all =
    let player = player_at i drilled.players in
    value_set drilled.players i (stepped_player player) (stepped_value player.next player (value_at drilled.players i all)) all
saying_values Server drilled all = all

-- A count over the steps before a step grows by what the step weighs, or more.
abbrev pub IsWeighed : (Shape → ℕ) → (Option PlayerStep → ℕ) → Type 0
IsWeighed weigh before = (step : PlayerStep) (i : ℕ) (id : List ℕ) → i < 2 ^ 64 → is_value id ≡ true → weighed weigh (items_of (step_text step i id)) + before (Some step) ≤ before (step_after step)

-- What was said weighs no more than the steps that were taken.
record IsSaid (weigh : Shape → ℕ) (before : Option PlayerStep → ℕ) (drilled : Drilled) : Type 0 where
  few : told_in weigh drilled.history ≤ over_players before drilled.players
  values : AllByRecursion HasValue drilled.players

module _ (weigh : Shape → ℕ) (before : Option PlayerStep → ℕ) (is_weighed : IsWeighed weigh before) where
  said_few : (next : Option PlayerStep) (i : ℕ) (player : Player) → i < 2 ^ 64 → player.next ≡ next → HasValue player
      → weighed weigh (items_of (said_at next i player.session).text) + before next ≤ before (stepped_by next player).next
  said_few None i player below is value = let none : weighed weigh (items_of (said_at None i player.session).text) ≡ 0 = refl in let same = ap before is in omega (arith, none, same)
  said_few (Some step) i player below is value = is_weighed step i player.session below value

  saying_weighs : (who : Who) (drilled : Drilled) → length drilled.players < 2 ^ 32 → MayTake 0 drilled.players drilled.server.waiting who → AllByRecursion HasValue drilled.players
      → told_all weigh (turn_told who drilled) + over_players before drilled.players ≤ over_players before (after_saying who (after_draw drilled)).players
  saying_weighs (Client i) drilled small may all =
      let player = player_at i drilled.players in
      let said = player_said i player in
      let within = (client_may drilled.players drilled.server.waiting i may).0 in
      let both = told_both weigh (map (λ shape. takes i shape) (items_of said.text)) (end_told said.last i) in
      let taken = taken_told weigh i (items_of said.text) in
      let ended = ended_told weigh said.last i in
      let few = said_few player.next i player (omega (arith, small, within)) refl (value_at drilled.players i all) in
      let set = over_set before drilled.players i (stepped_player player) within in
      omega (arith, both, taken, ended, few, set)
  saying_weighs Server drilled small may all = let none = heard_told weigh (items_of (next_answer drilled.server).text) in omega (arith, none)

  turn_said : (drilled next : Drilled) → length drilled.players < 2 ^ 32 → Turn drilled next → IsSaid weigh before drilled → IsSaid weigh before next
  turn_said drilled next small turn is =
      let spoken = after_saying turn.who (after_draw drilled) in
      let told : told_in weigh next.history ≡ told_in weigh drilled.history + told_all weigh (turn_told turn.who drilled) =
      ap (told_in weigh) (turn_history drilled next turn)
      ∙ entries_told weigh turn.more drilled.history
      ∙ ap (λ (all : List Happening). told_in weigh drilled.history + told_all weigh all) turn.told in
      let sent : over_players before next.players ≡ over_players before spoken.players = ap (λ (d : Drilled). over_players before d.players) turn.after ∙ entries_sent before turn.more spoken in
      let weighs = saying_weighs turn.who drilled small (chosen_may drilled turn.who turn.drawn) is.values in
      let few = is.few in
      record {
        few = omega (arith, told, sent, weighs, few);
        values = subst (λ (d : Drilled). AllByRecursion HasValue d.players) (sym turn.after) (entries_values turn.more spoken (saying_values turn.who drilled is.values));
      }

  run_said : (players number : ℕ) (drilled : Drilled) → players < 2 ^ 32 → DrillRun players number drilled → IsSaid weigh before drilled
  run_said players number drilled small begins = record { few = let none = entered_told weigh players in omega (arith, none); values = new_values players }
  run_said players number drilled small (goes_on earlier next ran turn) =
      let many = (run_counted players number earlier ran).many in turn_said earlier next (omega (arith, small, many)) turn (run_said players number earlier small ran)

pub said_within : (weigh : Shape → ℕ) (before : Option PlayerStep → ℕ) → IsWeighed weigh before → (players number : ℕ) (drilled : Drilled) → players < 2 ^ 32 → DrillRun players number drilled
    → told_in weigh drilled.history ≤ over_players before drilled.players
said_within weigh before is players number drilled small ran = (run_said weigh before is players number drilled small ran).few

-- Each request is one.
asks_one : WeighsMost asked_item (λ method headers. 1)
asks_one = record { other = λ shape is. ap count_if is; request = λ shape method uri headers read. one_most (is_request_kind shape.kind) }
  where
    one_most : (request : Bool) → count_if request ≤ 1
    one_most true = omega arith
    one_most false = omega arith

requests_most : (step : PlayerStep) (id : List ℕ) → step_most (λ method headers. 1) step id ≡ requests_of_step step
requests_most steps.Options id = refl
requests_most steps.Describe id = refl
requests_most steps.SetupFirst id = refl
requests_most steps.SetupSecond id = refl
requests_most steps.Play id = refl
requests_most steps.Frame id = refl
requests_most steps.Teardown id = refl
requests_most steps.End id = refl

requests_weighed : IsWeighed asked_item requests_before
requests_weighed step i id below value =
    let few = script_weighed asked_item (λ method headers. 1) asks_one step i id below value in let most = requests_most step id in let asks = step_asks step in omega (arith, few, most, asks)

pub requests_few : (players number : ℕ) (drilled : Drilled) → players < 2 ^ 32 → DrillRun players number drilled → (counts_of drilled.history).requests ≤ 7 * players
requests_few players number drilled small ran =
    let few = said_within asked_item requests_before requests_weighed players number drilled small ran in
    let same = requests_told_in drilled.history in
    let most = few_sent drilled.players in
    let many = (run_counted players number drilled ran).many in
    omega (arith, few, same, most, many)
