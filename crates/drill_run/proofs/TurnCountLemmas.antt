-- How many turns a drill has.
use Rattle.std.proofs.Common.{◌≡◌, ℕ, zero, suc, ◌+◌, ◌-◌, ◌*◌, ◌≤◌, ◌<◌, Bool, true, false, cond, List, [], ◌∷◌, ◌++◌, length, drop, Option, Some, None, refl, sym, ap, ◌∙◌, subst, append_assoc, arith}
use Rattle.std.specs.Prelude.{replicate, slice_get, slice_set}
use Rattle.std.proofs.lemmas.List.{length-append, length-set, length-replicate}
use Rattle.std.proofs.lemmas.List.Elements.{filter-append}
use Rattle.std.proofs.Math.Seq.{drop-append_seam}
use Rattle.rtsp_head.specs.Items.{Shape, items_of}
use Rattle.rtsp_frame.proofs.CutLemmas.{items_append}
use Rattle.gateway_claim.specs.Happenings.{HistoryEntry}
use Rattle.gateway_claim.specs.declared.event.ToClient.{ToClient}
use Rattle.gateway_claim.specs.declared.event.ToUp.{ToUp}
use Rattle.gateway_claim.specs.declared.event.UpMessage.{UpMessage}
use Rattle.gateway_claim.specs.declared.event.UpMessage.TheVariants.{Request, Frame}
use Rattle.drill_server.specs.Draws.{next_draw, drawn_below}
use Rattle.drill_server.specs.ServerSteps.{Serving, is_request_kind, requests_among, items_added, serving_fed}
use Rattle.drill_run.specs.declared.player.Player.{Player}
use Rattle.drill_run.specs.declared.step.PlayerStep.{PlayerStep}
use Rattle.drill_run.specs.declared.step.PlayerStep.TheVariants as steps
use Rattle.drill_run.specs.declared.turn.Who.{Who}
use Rattle.drill_run.specs.declared.turn.Who.TheVariants.{Client, Server}
use Rattle.drill_run.specs.Steps.{step_after}
use Rattle.drill_run.specs.Players.{new_player, is_ready_player, is_response_kind, heard_kind, heard_player, player_at, handed_players, stepped_by, stepped_player}
use Rattle.drill_run.specs.Turns.{Drilled, DrillRun, begins, goes_on, Turn, ready_one, ready_from, server_ready, candidates_among, candidates, chosen, after_draw, after_saying, after_entry, after_entries, fed_answer, fed_message, fed_up}
use Rattle.drill_run.specs.TurnCounts.{steps_before, over_players, steps_taken, requests_heard}

-- A step is one more.
step_more : (step : PlayerStep) → steps_before (step_after step) ≡ steps_before (Some step) + 1
step_more steps.Options = refl
step_more steps.Describe = refl
step_more steps.SetupFirst = refl
step_more steps.SetupSecond = refl
step_more steps.Play = refl
step_more steps.Frame = refl
step_more steps.Teardown = refl
step_more steps.End = refl

most_steps : (next : Option PlayerStep) → steps_before next ≤ 8
most_steps None = omega arith
most_steps (Some steps.Options) = omega arith
most_steps (Some steps.Describe) = omega arith
most_steps (Some steps.SetupFirst) = omega arith
most_steps (Some steps.SetupSecond) = omega arith
most_steps (Some steps.Play) = omega arith
most_steps (Some steps.Frame) = omega arith
most_steps (Some steps.Teardown) = omega arith
most_steps (Some steps.End) = omega arith

-- so for all players
pub few_steps : (players : List Player) → steps_taken players ≤ 8 * length players
few_steps [] = omega arith
few_steps (player ∷ players) = omega (arith, most_steps player.next, few_steps players)

-- Nobody took a step yet: a count that begins with nothing is nothing.
pub over_none : (count : Option PlayerStep → ℕ) (n : ℕ) → count (Some steps.Options) ≡ 0 → over_players count (replicate n new_player) ≡ 0
over_none count zero none = refl
over_none count (suc n) none = let rest = over_none count n none in omega (arith, none, rest)

-- one of the players is another then
pub over_set : (count : Option PlayerStep → ℕ) (players : List Player) (i : ℕ) (player : Player) → i < length players → over_players count (slice_set players i player) + count (player_at i players).next ≡ over_players count players + count player.next
over_set count [] i player within = absurd (omega (arith, within))
over_set count (first ∷ players) zero player within = omega arith
over_set count (first ∷ players) (suc i) player within = let rest = over_set count players i player (omega (arith, within)) in omega (arith, rest)

-- one whose step is the same
over_kept : (count : Option PlayerStep → ℕ) (players : List Player) (i : ℕ) (player : Player) → count player.next ≡ count (player_at i players).next → over_players count (slice_set players i player) ≡ over_players count players
over_kept count [] i player same = refl
over_kept count (first ∷ players) zero player same = ap (λ n. n + over_players count players) same
over_kept count (first ∷ players) (suc i) player same = ap (λ n. count first.next + n) (over_kept count players i player same)

-- What a player hears is no step.
kind_next : (reply : Bool) (player : Player) (shape : Shape) → (heard_kind reply player shape).next ≡ player.next
kind_next true player shape = refl
kind_next false player shape = refl

heard_next : (player : Player) (items : List Shape) → (heard_player player items).next ≡ player.next
heard_next player [] = refl
heard_next player (shape ∷ items) = heard_next (heard_kind (is_response_kind shape.kind) player shape) items ∙ kind_next (is_response_kind shape.kind) player shape

pub handed_over : (count : Option PlayerStep → ℕ) (piece : Option ToClient) (players : List Player) → over_players count (handed_players piece players) ≡ over_players count players
handed_over count None players = refl
handed_over count (Some piece) players =
    over_kept count players piece.conn (heard_player (player_at piece.conn players) (items_of piece.bytes)) (ap count (heard_next (player_at piece.conn players) (items_of piece.bytes)))

handed_length : (piece : Option ToClient) (players : List Player) → length (handed_players piece players) ≡ length players
handed_length None players = refl
handed_length (Some piece) players = length-set players piece.conn (heard_player (player_at piece.conn players) (items_of piece.bytes))

-- What comes to the server waits there.
abbrev HearsAll : Serving → Serving → Type 0
HearsAll before now = requests_heard now + length before.waiting ≡ requests_heard before + length now.waiting

added : (stream piece : List ℕ) → items_of (stream ++ piece) ≡ items_of stream ++ items_added stream piece
added stream piece =
    let later = items_append stream piece in
    later.1 ∙ ap (λ (l : List Shape). items_of stream ++ l) (sym (drop-append_seam (items_of stream) later.0) ∙ ap (λ (l : List Shape). drop (length (items_of stream)) l) (sym later.1))

hears_fed : (serving : Serving) (piece : List ℕ) → HearsAll serving (serving_fed serving piece)
hears_fed serving piece =
    let more = requests_among (items_added serving.heard piece) in
    let heard : requests_heard (serving_fed serving piece) ≡ requests_heard serving + length more =
    ap (λ (l : List Shape). length (requests_among l)) (added serving.heard piece)
    ∙ ap length (filter-append (λ (shape : Shape). is_request_kind shape.kind) (items_of serving.heard) (items_added serving.heard piece))
    ∙ length-append (requests_among (items_of serving.heard)) more in
    let waits : length (serving_fed serving piece).waiting ≡ length serving.waiting + length more = length-append serving.waiting more in
    omega (arith, heard, waits)

hears_same : (serving : Serving) → HearsAll serving serving
hears_same serving = refl

hears_answer : (answer : Option (List ℕ)) (serving : Serving) → HearsAll serving (fed_answer answer serving)
hears_answer None serving = hears_same serving
hears_answer (Some text) serving = hears_fed serving text

hears_message : (message : Option UpMessage) (serving : Serving) → HearsAll serving (fed_message message serving)
hears_message None serving = hears_same serving
hears_message (Some (Request text)) serving = hears_fed serving text
hears_message (Some (Frame text)) serving = hears_fed serving text

hears_up : (up : ToUp) (serving : Serving) → HearsAll serving (fed_up up serving)
hears_up up serving =
    let first = hears_answer up.answer serving in
    let second = hears_message up.message (fed_answer up.answer serving) in
    omega (arith, first, second)

-- Every turn is a step of a player, or answers a request.
pub record IsCounted (players : ℕ) (drilled : Drilled) : Type 0 where
  pub turns : drilled.turns + length drilled.server.waiting ≡ steps_taken drilled.players + requests_heard drilled.server
  pub many : length drilled.players ≡ players

entry_counted : (players : ℕ) (drilled : Drilled) (entry : HistoryEntry) → IsCounted players drilled → IsCounted players (after_entry drilled entry)
entry_counted players drilled entry is = record {
  turns =
      let same = handed_over steps_before entry.outcome.to_client drilled.players in
      let hears = hears_up entry.outcome.to_up drilled.server in
      let counted = is.turns in
      omega (arith, same, hears, counted);
  many = handed_length entry.outcome.to_client drilled.players ∙ is.many;
}

entries_counted : (players : ℕ) (more : List HistoryEntry) (drilled : Drilled) → IsCounted players drilled → IsCounted players (after_entries more drilled)
entries_counted players [] drilled is = is
entries_counted players (e ∷ more) drilled is = entry_counted players (after_entries more drilled) e (entries_counted players more drilled is)

-- Who may take a turn: a player that is ready, where the first of these has a number, or the server that a request waits for.
abbrev pub MayTake : ℕ → List Player → List Shape → Who → Type 0
MayTake first players waiting (Client i) = (first ≤ i) × (i - first < length players) × (is_ready_player (player_at (i - first) players) ≡ true)
MayTake first players waiting Server = 0 < length waiting

-- each one of these may
abbrev MayAll : ℕ → List Player → List Shape → List Who → Type 0
MayAll first players waiting whos = (k : ℕ) (who : Who) → slice_get whos k ≡ Some who → MayTake first players waiting who

-- one player more in front
may_behind : (first : ℕ) (player : Player) (players : List Player) (waiting : List Shape) (who : Who) → MayTake (first + 1) players waiting who → MayTake first (player ∷ players) waiting who
may_behind first player players waiting (Client i) may =
    let next : i - first ≡ suc (i - (first + 1)) = omega (arith, may.0) in (
      omega (arith, may.0),
      subst (λ n. n < length (player ∷ players)) (sym next) (omega (arith, may.1)),
      subst (λ n. is_ready_player (player_at n (player ∷ players)) ≡ true) (sym next) may.2,
    )
may_behind first player players waiting Server may = may

may_one : (first : ℕ) (player : Player) (players : List Player) (waiting : List Shape) (rest : List Who) (ready : Bool) → ready ≡ is_ready_player player → MayAll (first + 1) players waiting rest
    → MayAll first (player ∷ players) waiting (cond ready (Client first ∷ []) [] ++ rest)
may_one first player players waiting rest false is later k who at = may_behind first player players waiting who (later k who at)
may_one first player players waiting rest true is later zero who at =
    let same : Client first ≡ who = cc in
    let none : first - first ≡ 0 = omega arith in
    subst (λ (w : Who). MayTake first (player ∷ players) waiting w) same
    (omega arith, omega arith, subst (λ n. is_ready_player (player_at n (player ∷ players)) ≡ true) (sym none) (sym is))
may_one first player players waiting rest true is later (suc k) who at = may_behind first player players waiting who (later k who at)

may_server : (first : ℕ) (waiting : List Shape) → MayAll first [] waiting (server_ready waiting)
may_server first [] k who at = cc
may_server first (shape ∷ waiting) zero who at =
    let same : Server ≡ who = cc in
    subst (λ (w : Who). MayTake first [] (shape ∷ waiting) w) same (omega arith)
may_server first (shape ∷ waiting) (suc k) who at = cc

may_all : (first : ℕ) (players : List Player) (waiting : List Shape) → MayAll first players waiting (ready_from first players ++ server_ready waiting)
may_all first [] waiting = may_server first waiting
may_all first (player ∷ players) waiting =
    subst (λ (whos : List Who). MayAll first (player ∷ players) waiting whos)
    (sym (append_assoc (ready_one first player) (ready_from (first + 1) players) (server_ready waiting)))
    (may_one first player players waiting (ready_from (first + 1) players ++ server_ready waiting) (is_ready_player player) refl (may_all (first + 1) players waiting))

pub chosen_may : (drilled : Drilled) (who : Who) → chosen drilled ≡ Some who → MayTake 0 drilled.players drilled.server.waiting who
chosen_may drilled who drawn =
    may_all 0 drilled.players drilled.server.waiting (drawn_below (next_draw drilled.draw) (length (candidates drilled))) who drawn

-- with no number before
pub client_may : (players : List Player) (waiting : List Shape) (i : ℕ) → MayTake 0 players waiting (Client i) → (i < length players) × (is_ready_player (player_at i players) ≡ true)
client_may players waiting i may =
    let same : i - 0 ≡ i = omega arith in
    subst (λ n. (n < length players) × (is_ready_player (player_at n players) ≡ true)) same (may.1, may.2)

-- A player that is ready takes a step.
stepped_more : (player : Player) (next : Option PlayerStep) → player.next ≡ next → is_ready_player player ≡ true → steps_before (stepped_by next player).next ≡ steps_before player.next + 1
stepped_more player None is ready = absurd (grind (arith, is, ready))
stepped_more player (Some step) is ready = step_more step ∙ ap (λ (o : Option PlayerStep). steps_before o + 1) (sym is)

-- A turn was drawn, and who has it said what it says.
said_counted : (players : ℕ) (drilled : Drilled) (who : Who) → MayTake 0 drilled.players drilled.server.waiting who → IsCounted players drilled → IsCounted players (after_saying who (after_draw drilled))
said_counted players drilled (Client i) may is = record {
  turns =
      let player = player_at i drilled.players in
      let ready = client_may drilled.players drilled.server.waiting i may in
      let set = over_set steps_before drilled.players i (stepped_player player) ready.0 in
      let more = stepped_more player player.next refl ready.1 in
      let counted = is.turns in
      omega (arith, set, more, counted);
  many = length-set drilled.players i (stepped_player (player_at i drilled.players)) ∙ is.many;
}
said_counted players drilled Server may is = record {
  turns = let fewer = one_fewer drilled.server.waiting may in let counted = is.turns in omega (arith, fewer, counted);
  many = is.many;
}
  where
    one_fewer : (waiting : List Shape) → 0 < length waiting → length (drop 1 waiting) + 1 ≡ length waiting
    one_fewer [] some = absurd (omega (arith, some))
    one_fewer (shape ∷ waiting) some = omega arith

turn_counted : (players : ℕ) (drilled next : Drilled) → Turn drilled next → IsCounted players drilled → IsCounted players next
turn_counted players drilled next turn is =
    subst (IsCounted players) (sym turn.after)
    (entries_counted players turn.more (after_saying turn.who (after_draw drilled)) (said_counted players drilled turn.who (chosen_may drilled turn.who turn.drawn) is))

pub run_counted : (players number : ℕ) (drilled : Drilled) → DrillRun players number drilled → IsCounted players drilled
run_counted players number drilled begins = record { turns = sym (ap (λ n. n + 0) (over_none steps_before players refl)); many = length-replicate players new_player }
run_counted players number drilled (goes_on before next ran turn) = turn_counted players before next turn (run_counted players number before ran)

pub turns_counted : (players number : ℕ) (drilled : Drilled) → DrillRun players number drilled → drilled.turns + length drilled.server.waiting ≡ steps_taken drilled.players + requests_heard drilled.server
turns_counted players number drilled ran = (run_counted players number drilled ran).turns

-- once nobody can have a turn
none_waits : (waiting : List Shape) (players : List Player) → candidates_among players waiting ≡ [] → length waiting ≡ 0
none_waits [] players none = refl
none_waits (shape ∷ waiting) players none = absurd (let some = length-append (ready_from 0 players) (Server ∷ []) in let all = ap (λ (l : List Who). length l) none in omega (arith, some, all))

pub ended_counted : (players number : ℕ) (drilled : Drilled) → DrillRun players number drilled → candidates drilled ≡ [] → drilled.turns ≡ steps_taken drilled.players + requests_heard drilled.server
ended_counted players number drilled ran ended = omega (arith, turns_counted players number drilled ran, none_waits drilled.server.waiting drilled.players ended)

pub steps_counted : (players number : ℕ) (drilled : Drilled) → DrillRun players number drilled → steps_taken drilled.players ≤ 8 * players
steps_counted players number drilled ran = omega (arith, few_steps drilled.players, (run_counted players number drilled ran).many)
