-- The server of a drill grants all that it answers, in the whole history and in what each player hears of it.
use Rattle.std.proofs.Common.{ℕ, zero, suc, ◌+◌, ◌≤◌, ◌<◌, ◌^◌, Bool, true, false, cond, List, [], ◌∷◌, map, Option, Some, None, Result, Ok, Err, sym, subst, arith}
use Rattle.std.specs.List.{AllByRecursion}
use Rattle.std.specs.Option.{option_to_list}
use Rattle.rtsp_head.specs.Items.{Shape, items_of}
use Rattle.rtsp_uri.specs.declared.base.Bases.{Bases}
use Rattle.client_machine.specs.Alone.{private_after}
use Rattle.client_machine.specs.Events.{PrivateEvent}
use Rattle.client_machine.proofs.EachLemmas.{both_so, parts_so}
use Rattle.gateway_claim.specs.declared.event.UpCause.{UpCause}
use Rattle.gateway_claim.specs.declared.event.UpMessage.{UpMessage}
use Rattle.gateway_claim.specs.declared.event.UpMessage.TheVariants.{Request, Frame}
use Rattle.gateway_claim.specs.Books.{Books}
use Rattle.gateway_claim.specs.ServerItems.{Heard, replies, requests, frames, faults, heard, HeardNotice, notice_of}
use Rattle.gateway_claim.specs.Happenings.{Happening, enters, takes, ends, lags, hears, up_ends, HistoryEntry, happened, entered}
use Rattle.gateway_claim.specs.OwnEvents.{turn, is_turn, settled_by, books_of, heard_event, notice_event, event_of, own_here, own}
use Rattle.drill_server.specs.ServerSteps.{Serving, counted, next_answer}
use Rattle.drill_run.specs.declared.turn.Who.{Who}
use Rattle.drill_run.specs.declared.turn.Who.TheVariants.{Client, Server}
use Rattle.drill_run.specs.Players.{player_at, player_said}
use Rattle.drill_run.specs.Steps.{end_told}
use Rattle.drill_run.specs.Turns.{Drilled, DrillRun, begins, goes_on, entered_below, after_draw, after_saying, after_entries, turn_told, fed_answer, fed_message}
use Rattle.drill_run.proofs.AnswerLemmas.{GrantsHeard, GrantsItem, answer_grants}
use Rattle.drill_run.proofs.OneDrillLemmas.{turn_history, turn_turns}
use Rattle.drill_run.proofs.DebtLemmas.{IsGranted}

-- What the server says in a history is granted.
abbrev pub GrantsHappening : Happening → Type 0
GrantsHappening (enters conn) = Unit {0}
GrantsHappening (takes conn shape) = Unit {0}
GrantsHappening (ends conn) = Unit {0}
GrantsHappening (lags conn) = Unit {0}
GrantsHappening (hears shape) = GrantsItem shape
GrantsHappening (up_ends cause) = Unit {0}

abbrev pub GrantsEntry : HistoryEntry → Type 0
GrantsEntry entry = GrantsHappening entry.happening

-- So is what a connection hears of it.
notice_granted : (books : Books) (i : ℕ) (notice : Result HeardNotice ℕ) → AllByRecursion IsGranted (option_to_list (notice_event books i notice))
notice_granted books i (Ok notice) = (tt, tt)
notice_granted books i (Err code) = tt

heard_granted : (books settled : Books) (i : ℕ) (waiting : List Shape) (said : Heard) → GrantsHeard said → AllByRecursion IsGranted (option_to_list (heard_event books settled i waiting said))
heard_granted books settled i waiting (replies reply) grants = (grants, tt)
heard_granted books settled i waiting (requests request) grants = notice_granted books i (notice_of books.holder request)
heard_granted books settled i waiting (frames channel rest) grants = (tt, tt)
heard_granted books settled i waiting (faults fault) grants = tt

event_granted : (books : Books) (i : ℕ) (waiting : List Shape) (happening : Happening) → GrantsHappening happening → AllByRecursion IsGranted (option_to_list (event_of books i waiting happening))
event_granted books i waiting (enters conn) grants = tt
event_granted books i waiting (takes conn shape) grants = (tt, tt)
event_granted books i waiting (ends conn) grants = (tt, tt)
event_granted books i waiting (lags conn) grants = (tt, tt)
event_granted books i waiting (hears shape) grants = heard_granted books (settled_by books (hears shape)) i waiting (heard shape) grants
event_granted books i waiting (up_ends cause) grants = tt

if_granted : (here : Bool) (events : List PrivateEvent) → AllByRecursion IsGranted events → AllByRecursion IsGranted (cond here events [])
if_granted true events granted = granted
if_granted false events granted = tt

here_granted : (books : Books) (i : ℕ) (waiting : List Shape) (fault : Option UpCause) (happening : Happening) → GrantsHappening happening → AllByRecursion IsGranted (own_here books i waiting fault happening)
here_granted books i waiting (Some cause) happening grants = (tt, tt)
here_granted books i waiting None happening grants =
    if_granted (is_turn i (turn books happening)) (option_to_list (event_of books i waiting happening)) (event_granted books i waiting happening grants)

pub own_granted : (bases : Bases) (T : List HistoryEntry) (i : ℕ) → AllByRecursion GrantsEntry T → AllByRecursion IsGranted (own bases i T)
own_granted bases [] i grants = tt
own_granted bases (e ∷ T) i grants =
    let here = own_here (books_of T) i (private_after bases (own bases i T)).client.waiting e.outcome.fault e.happening in
    both_so IsGranted (cond (entered i T) here []) (own bases i T)
    (if_granted (entered i T) here (here_granted (books_of T) i (private_after bases (own bases i T)).client.waiting e.outcome.fault e.happening grants.0)) (own_granted bases T i grants.1)

-- The server made no more sessions and sent no more notifies than there were turns, so their numbers can be written.
record IsSmall (turns : ℕ) (serving : Serving) : Type 0 where
  sessions : serving.sessions ≤ turns
  notifies : serving.notifies ≤ turns

answer_small : (turns : ℕ) (answer : Option (List ℕ)) (serving : Serving) → IsSmall turns serving → IsSmall turns (fed_answer answer serving)
answer_small turns None serving is = is
answer_small turns (Some text) serving is = record { sessions = is.sessions; notifies = is.notifies }

message_small : (turns : ℕ) (message : Option UpMessage) (serving : Serving) → IsSmall turns serving → IsSmall turns (fed_message message serving)
message_small turns None serving is = is
message_small turns (Some (Request text)) serving is = record { sessions = is.sessions; notifies = is.notifies }
message_small turns (Some (Frame text)) serving is = record { sessions = is.sessions; notifies = is.notifies }

entries_small : (turns : ℕ) (more : List HistoryEntry) (drilled : Drilled) → IsSmall turns drilled.server → IsSmall turns (after_entries more drilled).server
entries_small turns [] drilled is = is
entries_small turns (e ∷ more) drilled is =
    let server = (after_entries more drilled).server in
    message_small turns e.outcome.to_up.message (fed_answer e.outcome.to_up.answer server) (answer_small turns e.outcome.to_up.answer server (entries_small turns more drilled is))

counted_most : (more : Bool) (count : ℕ) → counted more count ≤ count + 1
counted_most true count = omega arith
counted_most false count = omega arith

saying_small : (who : Who) (drilled : Drilled) → IsSmall drilled.turns drilled.server → IsSmall (drilled.turns + 1) (after_saying who (after_draw drilled)).server
saying_small (Client i) drilled is = let sessions = is.sessions in let notifies = is.notifies in record { sessions = omega (arith, sessions); notifies = omega (arith, notifies) }
saying_small Server drilled is = record {
  sessions = let most = counted_most (next_answer drilled.server).session drilled.server.sessions in let sessions = is.sessions in omega (arith, most, sessions);
  notifies = let most = counted_most (next_answer drilled.server).notify drilled.server.notifies in let notifies = is.notifies in omega (arith, most, notifies);
}

run_small : (players number : ℕ) (drilled : Drilled) → DrillRun players number drilled → IsSmall drilled.turns drilled.server
run_small players number drilled begins = record { sessions = omega arith; notifies = omega arith }
run_small players number drilled (goes_on before next ran made) =
    subst (λ n. IsSmall n next.server) (sym (turn_turns before next made))
    (subst (λ (d : Drilled). IsSmall (before.turns + 1) d.server) (sym made.after)
    (entries_small (before.turns + 1) made.more (after_saying made.who (after_draw before)) (saying_small made.who before (run_small players number before ran))))

-- What is said at a turn is granted.
taken_grant : (i : ℕ) (items : List Shape) → AllByRecursion GrantsHappening (map (λ shape. takes i shape) items)
taken_grant i [] = tt
taken_grant i (item ∷ items) = (tt, taken_grant i items)

heard_grant : (items : List Shape) → AllByRecursion GrantsItem items → AllByRecursion GrantsHappening (map (λ shape. hears shape) items)
heard_grant [] grants = tt
heard_grant (item ∷ items) grants = (grants.0, heard_grant items grants.1)

end_grant : (last : Bool) (i : ℕ) → AllByRecursion GrantsHappening (end_told last i)
end_grant true i = (tt, tt)
end_grant false i = tt

turn_grant : (who : Who) (drilled : Drilled) → drilled.turns + 1 < 2 ^ 63 → IsSmall drilled.turns drilled.server → AllByRecursion GrantsHappening (turn_told who drilled)
turn_grant (Client i) drilled few is =
    let said = player_said i (player_at i drilled.players) in
    both_so GrantsHappening (map (λ shape. takes i shape) (items_of said.text)) (end_told said.last i) (taken_grant i (items_of said.text)) (end_grant said.last i)
turn_grant Server drilled few is =
    let sessions = is.sessions in
    let notifies = is.notifies in
    heard_grant (items_of (next_answer drilled.server).text) (answer_grants drilled.server (omega (arith, few, sessions)) (omega (arith, few, notifies)))

entries_grant : (more : List HistoryEntry) → AllByRecursion GrantsHappening (happened more) → AllByRecursion GrantsEntry more
entries_grant [] all = tt
entries_grant (e ∷ more) all = let parts = parts_so GrantsHappening (happened more) (e.happening ∷ []) all in (parts.1.0, entries_grant more parts.0)

entered_grant : (n : ℕ) → AllByRecursion GrantsEntry (entered_below n)
entered_grant zero = tt
entered_grant (suc n) = (tt, entered_grant n)

pub run_grants : (players number : ℕ) (drilled : Drilled) → DrillRun players number drilled → drilled.turns < 2 ^ 63 → AllByRecursion GrantsEntry drilled.history
run_grants players number drilled begins few = entered_grant players
run_grants players number drilled (goes_on before next ran made) few =
    let turns = turn_turns before next made in
    subst (AllByRecursion GrantsEntry) (sym (turn_history before next made))
    (both_so GrantsEntry made.more before.history
    (entries_grant made.more (subst (AllByRecursion GrantsHappening) (sym made.told) (turn_grant made.who before (omega (arith, few, turns)) (run_small players number before ran))))
    (run_grants players number before ran (omega (arith, few, turns))))
