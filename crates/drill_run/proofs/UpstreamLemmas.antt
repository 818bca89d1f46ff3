-- No more requests go up in a history than players sent, and four more for each player; and no more than the most for what
-- they sent, where the server grants what it answers.
use Rattle.std.proofs.Common.{◌≡◌, ℕ, zero, suc, ◌+◌, ◌*◌, ◌≤◌, ◌<◌, ◌==◌, Bool, true, false, cond, List, [], ◌∷◌, ◌++◌, map, Option, Some, None, Result, Ok, Err, inl, inr, refl, sym, ap, ◌∙◌, subst, arith}
use Rattle.std.specs.Prelude.{is_some}
use Rattle.std.specs.List.{AllByRecursion}
use Rattle.std.specs.Option.{option_map, option_to_list}
use Rattle.std.proofs.lemmas.Bool.{cases_Bool, cases_eq, cases_lt, or_parts, eq-eqb, eqb-true}
use Rattle.rtsp_head.specs.Items.{Shape}
use Rattle.rtsp_head.specs.declared.item.ItemKind.{ItemKind}
use Rattle.rtsp_head.specs.declared.item.ItemKind.TheVariants as kind
use Rattle.rtsp_uri.specs.declared.base.Bases.{Bases}
use Rattle.client_machine.specs.Alone.{asked_in, private_after, effect_alone}
use Rattle.client_machine.specs.AskCounts.{request_arrived, request_brought, requests_brought}
use Rattle.client_machine.specs.Events.{Outgoing, asks, carries, PrivateEvent, arrive, answer, note, media, end, slow, up_end}
use Rattle.client_machine.proofs.AskCountLemmas.{few_asked}
use Rattle.gateway_claim.specs.Books.{Books}
use Rattle.gateway_claim.specs.ServerItems.{Heard, replies, requests, frames, faults, heard, HeardNotice, notice_of}
use Rattle.gateway_claim.specs.Happenings.{Happening, enters, takes, ends, lags, hears, up_ends, HistoryEntry, fault_in, entered, nothing_up}
use Rattle.gateway_claim.specs.Cores.{ever_entered}
use Rattle.gateway_claim.specs.OwnEvents.{turn, is_turn, settled_by, books_of, heard_event, notice_event, event_of, own_here, own}
use Rattle.gateway_claim.specs.Follows.{effect_of_turn, message_due, up_due, IsHistory}
use Rattle.gateway_claim.specs.OnePlayer.{OwnMessage, asked_alone, asked_for, asked_up, spelled_for, spelled_up}
use Rattle.gateway_claim.specs.declared.event.ToUp.{ToUp}
use Rattle.gateway_claim.specs.declared.event.UpCause.{UpCause}
use Rattle.gateway_claim.specs.declared.event.UpMessage.{UpMessage}
use Rattle.gateway_claim.proofs.AgreeLemmas.{effect_absent}
use Rattle.gateway_claim.proofs.AskLemmas.{asked, never_part}
use Rattle.drill_server.specs.ServerSteps.{is_request_kind}
use Rattle.drill_run.specs.CountSteps.{count_if, requests_told, requests_up, counts_of}
use Rattle.drill_run.proofs.WeighLemmas.{brought_by, brought, brought_both}
use Rattle.drill_run.proofs.MostLemmas.{most_item}
use Rattle.drill_run.proofs.DebtLemmas.{IsGranted, few_granted}

-- The sum over the numbers below n.
abbrev sum_below : (ℕ → ℕ) → ℕ → ℕ
sum_below f zero = 0
sum_below f (suc n) = f n + sum_below f n

sum_both : (f g h : ℕ → ℕ) (n : ℕ) → ((i : ℕ) → h i ≡ f i + g i) → sum_below h n ≡ sum_below f n + sum_below g n
sum_both f g h zero each = refl
sum_both f g h (suc n) each = let here = each n in let rest = sum_both f g h n each in omega (arith, here, rest)

sum_most : (f g : ℕ → ℕ) (n : ℕ) → ((i : ℕ) → f i ≤ g i) → sum_below f n ≤ sum_below g n
sum_most f g zero each = omega arith
sum_most f g (suc n) each = let here = each n in let rest = sum_most f g n each in omega (arith, here, rest)

sum_more : (f g : ℕ → ℕ) (n : ℕ) → ((i : ℕ) → f i ≤ g i + 4) → sum_below f n ≤ sum_below g n + 4 * n
sum_more f g zero each = omega arith
sum_more f g (suc n) each = let here = each n in let rest = sum_more f g n each in omega (arith, here, rest)

sum_none : (f : ℕ → ℕ) (n : ℕ) → ((i : ℕ) → f i ≡ 0) → sum_below f n ≡ 0
sum_none f zero each = refl
sum_none f (suc n) each = let here = each n in let rest = sum_none f n each in omega (arith, here, rest)

-- one number has all of it
sum_holds : (f : ℕ → ℕ) (n j : ℕ) → j < n → f j ≤ sum_below f n
sum_holds f zero j within = absurd (omega (arith, within))
sum_holds f (suc n) j within = elim (cases_lt j n) [
  | inl less ↦ (let rest = sum_holds f n j less in omega (arith, rest))
  | inr more ↦ (let same : j ≡ n = omega (arith, within, more) in let here : f j ≡ f n = ap f same in omega (arith, here))
]

-- or no other one has any
one_here : (j i x : ℕ) → (j ≡ i → ⊥) → cond (j == i) x 0 ≡ 0
one_here j i x other = elim (cases_Bool (j == i)) [
  | inl same ↦ absurd (other (eqb-true j i same))
  | inr differs ↦ ap (λ b. cond b x 0) differs
]

none_below : (j x n : ℕ) → n ≤ j → sum_below (λ i. cond (j == i) x 0) n ≡ 0
none_below j x zero above = refl
none_below j x (suc n) above =
    let here = one_here j n x (λ same. omega (arith, above, same)) in
    let rest = none_below j x n (omega (arith, above)) in omega (arith, here, rest)

cond_most : (b : Bool) (x : ℕ) → cond b x 0 ≤ x
cond_most b x = grind arith

one_below : (j x n : ℕ) → sum_below (λ i. cond (j == i) x 0) n ≤ x
one_below j x zero = omega arith
one_below j x (suc n) = elim (cases_eq j n) [
  | inl same ↦ (let here = cond_most (j == n) x in let rest = none_below j x n (omega (arith, same)) in omega (arith, here, rest))
  | inr other ↦ (let here = one_here j n x other in let rest = one_below j x n in omega (arith, here, rest))
]

turn_below : (who : Option ℕ) (x n : ℕ) → sum_below (λ i. cond (is_turn i who) x 0) n ≤ x
turn_below None x n = let none = sum_none (λ i. cond false x 0) n (λ i. refl) in omega (arith, none)
turn_below (Some j) x n = one_below j x n

-- How many requests are among some messages.
abbrev requests_in : List UpMessage → ℕ
requests_in [] = 0
requests_in (message ∷ messages) = requests_up (Some message) + requests_in messages

in_both : (one other : List UpMessage) → requests_in (one ++ other) ≡ requests_in one + requests_in other
in_both [] other = omega arith
in_both (message ∷ one) other = let rest = in_both one other in omega (arith, rest)

in_one : (message : Option UpMessage) → requests_in (option_to_list message) ≡ requests_up message
in_one None = refl
in_one (Some message) = omega arith

-- A connection alone counts its requests.
one_spelled : (books : Books) (i own_number : ℕ) (message : Option Outgoing) → requests_in (map (spelled_for books i) (option_to_list (option_map (λ one. record { number = own_number; message = one }) message))) ≡ asked_in message
one_spelled books i own_number None = refl
one_spelled books i own_number (Some (asks request pair)) = refl
one_spelled books i own_number (Some (carries pair half rest)) = refl

spelled_both : (books : Books) (i : ℕ) (one other : List OwnMessage) → requests_in (map (spelled_for books i) (one ++ other)) ≡ requests_in (map (spelled_for books i) one) + requests_in (map (spelled_for books i) other)
spelled_both books i [] other = omega arith
spelled_both books i (message ∷ one) other = let rest = spelled_both books i one other in omega (arith, rest)

spelled_count : (books : Books) (i : ℕ) (bases : Bases) (events : List PrivateEvent) → requests_in (spelled_up books i bases events) ≡ (private_after bases events).count
spelled_count books i bases [] = refl
spelled_count books i bases (event ∷ events) =
    let message = (effect_alone bases (private_after bases events) event).message in
    let first : List OwnMessage = option_to_list (option_map (λ one. record { number = (private_after bases events).count + 1; message = one }) message) in
    let both = spelled_both books i first (asked_alone bases events) in
    let here = one_spelled books i ((private_after bases events).count + 1) message in
    let rest = spelled_count books i bases events in
    omega (arith, both, here, rest)

-- Nobody entered but those below a number.
abbrev pub EntersBelow : ℕ → List HistoryEntry → Type 0
EntersBelow n T = (i : ℕ) → n ≤ i → ever_entered i T ≡ false

enters_before : (n : ℕ) (e : HistoryEntry) (T : List HistoryEntry) → EntersBelow n (e ∷ T) → EntersBelow n T
enters_before n e T below i above = (or_parts _ (ever_entered i T) (below i above)).1

part_below : (n j : ℕ) (T : List HistoryEntry) → EntersBelow n T → entered j T ≡ true → j < n
part_below n j T below part = elim (cases_lt j n) [
  | inl less ↦ less
  | inr more ↦ absurd (let never : entered j T ≡ false = never_part T j (below j more) in cc)
]

-- A message goes up in somebody's turn.
due_below : (bases : Bases) (T : List HistoryEntry) (happening : Happening) (books settled : Books) (who : Option ℕ) (n : ℕ) → EntersBelow n T
    → requests_up (message_due books settled who (effect_of_turn bases T who happening).message)
    ≤ sum_below (λ i. requests_in (cond (is_turn i who) (option_to_list (message_due books settled who (effect_of_turn bases T who happening).message)) [])) n
due_below bases T happening books settled None n below = omega arith
due_below bases T happening books settled (Some j) n below =
    let due = message_due books settled (Some j) (effect_of_turn bases T (Some j) happening).message in
    elim (cases_Bool (entered j T)) [
      | inl part ↦ (
          let here : requests_in (cond (j == j) (option_to_list due) []) ≡ requests_up due =
          ap (λ b. requests_in (cond b (option_to_list due) [])) (eq-eqb j j refl) ∙ in_one due in
          let holds = sum_holds (λ i. requests_in (cond (j == i) (option_to_list due) [])) n j (part_below n j T below part) in
          omega (arith, here, holds)
          )
      | inr absent ↦ (
          let none : requests_up due ≡ 0 = ap (λ m. requests_up (message_due books settled (Some j) m)) (effect_absent bases T happening j absent) in
          omega (arith, none)
          )
    ]

up_below : (bases : Bases) (T : List HistoryEntry) (happening : Happening) (over : Bool) (up : ToUp) (n : ℕ) → EntersBelow n T → up ≡ cond over nothing_up (up_due bases T happening)
    → requests_up up.message ≤ sum_below (λ i. requests_in (asked_for i (turn (books_of T) happening) up)) n
up_below bases T happening true up n below is =
    let none : requests_up up.message ≡ 0 = ap (λ (one : ToUp). requests_up one.message) is in omega (arith, none)
up_below bases T happening false up n below is =
    subst (λ (one : ToUp). requests_up one.message ≤ sum_below (λ i. requests_in (asked_for i (turn (books_of T) happening) one)) n) (sym is)
    (due_below bases T happening (books_of T) (settled_by (books_of T) happening) (turn (books_of T) happening) n below)

all_asked_below : (bases : Bases) (T : List HistoryEntry) (n : ℕ) → IsHistory bases T → EntersBelow n T → (counts_of T).upstream ≤ sum_below (λ i. requests_in (asked_up i T)) n
all_asked_below bases [] n is below = omega arith
all_asked_below bases (e ∷ T) n is below =
    let before = enters_before n e T below in
    let here = up_below bases T e.happening (is_some (fault_in (e ∷ T))) e.outcome.to_up n before is.1.spelled in
    let rest = all_asked_below bases T n is.0 before in
    let both =
    sum_both (λ i. requests_in (asked_for i (turn (books_of T) e.happening) e.outcome.to_up)) (λ i. requests_in (asked_up i T)) (λ i. requests_in (asked_up i (e ∷ T))) n
    (λ i. in_both (asked_for i (turn (books_of T) e.happening) e.outcome.to_up) (asked_up i T)) in
    omega (arith, here, rest, both)

-- how much the items of players in a history weigh
abbrev pub told_of : (Shape → ℕ) → Happening → ℕ
told_of weigh (enters conn) = 0
told_of weigh (takes conn shape) = weigh shape
told_of weigh (ends conn) = 0
told_of weigh (lags conn) = 0
told_of weigh (hears shape) = 0
told_of weigh (up_ends cause) = 0

abbrev pub told_in : (Shape → ℕ) → List HistoryEntry → ℕ
told_in weigh [] = 0
told_in weigh (e ∷ T) = told_of weigh e.happening + told_in weigh T

-- An item is an event of its player alone, so all players together are brought no more.
module _ (weigh : Shape → ℕ) where
  notice_brings : (books : Books) (i : ℕ) (notice : Result HeardNotice ℕ) → brought weigh (option_to_list (notice_event books i notice)) ≡ 0
  notice_brings books i (Ok notice) = refl
  notice_brings books i (Err code) = refl

  heard_brings : (books settled : Books) (i : ℕ) (waiting : List Shape) (said : Heard) → brought weigh (option_to_list (heard_event books settled i waiting said)) ≡ 0
  heard_brings books settled i waiting (replies reply) = refl
  heard_brings books settled i waiting (requests request) = notice_brings books i (notice_of books.holder request)
  heard_brings books settled i waiting (frames channel rest) = refl
  heard_brings books settled i waiting (faults fault) = refl

  event_brings : (books : Books) (i : ℕ) (waiting : List Shape) (happening : Happening) → brought weigh (option_to_list (event_of books i waiting happening)) ≤ told_of weigh happening
  event_brings books i waiting (enters conn) = omega arith
  event_brings books i waiting (takes conn shape) = omega arith
  event_brings books i waiting (ends conn) = omega arith
  event_brings books i waiting (lags conn) = omega arith
  event_brings books i waiting (hears shape) = let none = heard_brings books (settled_by books (hears shape)) i waiting (heard shape) in omega (arith, none)
  event_brings books i waiting (up_ends cause) = omega arith

  turn_brings : (here : Bool) (event : Option PrivateEvent) (most : ℕ) → brought weigh (option_to_list event) ≤ most → brought weigh (cond here (option_to_list event) []) ≤ cond here most 0
  turn_brings true event most few = few
  turn_brings false event most few = omega arith

  own_brings : (part : Bool) (books : Books) (i : ℕ) (waiting : List Shape) (fault : Option UpCause) (happening : Happening)
      → brought weigh (cond part (own_here books i waiting fault happening) []) ≤ cond (is_turn i (turn books happening)) (told_of weigh happening) 0
  own_brings false books i waiting fault happening = omega arith
  own_brings true books i waiting (Some cause) happening = omega arith
  own_brings true books i waiting None happening = turn_brings (is_turn i (turn books happening)) (event_of books i waiting happening) (told_of weigh happening) (event_brings books i waiting happening)

  all_brought_below : (bases : Bases) (T : List HistoryEntry) (n : ℕ) → sum_below (λ i. brought weigh (own bases i T)) n ≤ told_in weigh T
  all_brought_below bases [] n = let none = sum_none (λ i. brought weigh (own bases i [])) n (λ i. refl) in omega (arith, none)
  all_brought_below bases (e ∷ T) n =
      let here : ℕ → List PrivateEvent = λ i. cond (entered i T) (own_here (books_of T) i (private_after bases (own bases i T)).client.waiting e.outcome.fault e.happening) [] in
      let both = sum_both (λ i. brought weigh (here i)) (λ i. brought weigh (own bases i T)) (λ i. brought weigh (own bases i (e ∷ T))) n (λ i. brought_both weigh (here i) (own bases i T)) in
      let few =
      sum_most (λ i. brought weigh (here i)) (λ i. cond (is_turn i (turn (books_of T) e.happening)) (told_of weigh e.happening) 0) n
      (λ i. own_brings (entered i T) (books_of T) i (private_after bases (own bases i T)).client.waiting e.outcome.fault e.happening) in
      let one = turn_below (turn (books_of T) e.happening) (told_of weigh e.happening) n in
      let rest = all_brought_below bases T n in
      omega (arith, both, few, one, rest)

-- what the server is asked for a player
asked_same : (bases : Bases) (T : List HistoryEntry) → IsHistory bases T → (i : ℕ) → requests_in (asked_up i T) ≡ (private_after bases (own bases i T)).count
asked_same bases T is i = ap requests_in (asked bases T i is) ∙ spelled_count (books_of T) i bases (own bases i T)

-- Each request weighs one.
abbrev pub asked_item : Shape → ℕ
asked_item shape = count_if (is_request_kind shape.kind)

arrived_told : (one : ItemKind) → request_arrived one ≡ count_if (is_request_kind one)
arrived_told kind.Request = refl
arrived_told kind.Response = refl
arrived_told kind.Frame = refl
arrived_told (kind.Bad fault) = refl

event_asks : (event : PrivateEvent) → request_brought event ≡ brought_by asked_item event
event_asks (arrive shape full) = arrived_told shape.kind
event_asks (answer told ssrc full) = refl
event_asks (note id reason names) = refl
event_asks (media pair half rest) = refl
event_asks end = refl
event_asks slow = refl
event_asks up_end = refl

events_ask : (events : List PrivateEvent) → requests_brought events ≡ brought asked_item events
events_ask [] = refl
events_ask (event ∷ events) = let here = event_asks event in let rest = events_ask events in omega (arith, here, rest)

happening_asks : (happening : Happening) → requests_told happening ≡ told_of asked_item happening
happening_asks (enters conn) = refl
happening_asks (takes conn shape) = refl
happening_asks (ends conn) = refl
happening_asks (lags conn) = refl
happening_asks (hears shape) = refl
happening_asks (up_ends cause) = refl

pub requests_told_in : (T : List HistoryEntry) → (counts_of T).requests ≡ told_in asked_item T
requests_told_in [] = refl
requests_told_in (e ∷ T) = let here = happening_asks e.happening in let rest = requests_told_in T in omega (arith, here, rest)

pub upstream_few : (bases : Bases) (T : List HistoryEntry) (n : ℕ) → IsHistory bases T → EntersBelow n T → (counts_of T).upstream ≤ (counts_of T).requests + 4 * n
upstream_few bases T n is below =
    let up = all_asked_below bases T n is below in
    let each =
    sum_more (λ i. requests_in (asked_up i T)) (λ i. brought asked_item (own bases i T)) n
    (λ i. let same = asked_same bases T is i in let few = few_asked bases (own bases i T) in let events = events_ask (own bases i T) in omega (arith, same, few, events)) in
    let down = all_brought_below asked_item bases T n in
    let told = requests_told_in T in
    omega (arith, up, each, down, told)

-- no more than the most for what players sent, where the server grants all
pub upstream_most : (bases : Bases) (T : List HistoryEntry) (n : ℕ) → IsHistory bases T → EntersBelow n T → ((i : ℕ) → AllByRecursion IsGranted (own bases i T)) → (counts_of T).upstream ≤ told_in most_item T
upstream_most bases T n is below granted =
    let up = all_asked_below bases T n is below in
    let each =
    sum_most (λ i. requests_in (asked_up i T)) (λ i. brought most_item (own bases i T)) n
    (λ i. let same = asked_same bases T is i in let few = few_granted bases (own bases i T) (granted i) in omega (arith, same, few)) in
    let down = all_brought_below most_item bases T n in
    omega (arith, up, each, down)
