-- The server of a drill hears what goes up, and no more requests than that has.
use Rattle.std.proofs.Common.{◌≡◌, ℕ, zero, suc, ◌+◌, ◌≤◌, Bool, true, false, cond, List, [], ◌∷◌, ◌++◌, map, Option, Some, None, unwrap_or, refl, sym, ap, ◌∙◌, subst, append_assoc, arith}
use Rattle.std.specs.Prelude.{is_some}
use Rattle.std.specs.List.{AllByRecursion}
use Rattle.std.proofs.lemmas.List.{append-nil}
use Rattle.rtsp_head.specs.Items.{Shape, is_bad, items_of}
use Rattle.rtsp_head.specs.Spellings.{IsItem, EndsAtBad, AreItems}
use Rattle.rtsp_frame.proofs.AreItemsLemmas.{items_are}
use Rattle.rtsp_uri.specs.declared.base.Bases.{Bases}
use Rattle.client_machine.specs.Events.{Outgoing, asks, carries}
use Rattle.client_machine.proofs.EachLemmas.{both_so, parts_so}
use Rattle.gateway_claim.specs.declared.event.ToUp.{ToUp}
use Rattle.gateway_claim.specs.declared.event.UpMessage.{UpMessage}
use Rattle.gateway_claim.specs.declared.event.UpMessage.TheVariants.{Request, Frame}
use Rattle.gateway_claim.specs.Books.{Books}
use Rattle.gateway_claim.specs.ServerItems.{Heard, replies, requests, frames, faults, heard}
use Rattle.gateway_claim.specs.Happenings.{Happening, enters, takes, ends, lags, hears, up_ends, HistoryEntry, happened, fault_in, nothing_up}
use Rattle.gateway_claim.specs.OwnEvents.{turn, settled_by, books_of}
use Rattle.gateway_claim.specs.Follows.{effect, message_due, up_due, IsHistory}
use Rattle.upward_law.specs.ServerStream.{ServerRead}
use Rattle.upward_law.specs.Due.{message_bytes, bytes_up, stream_up, heard_due, answers_due, messages_due, meant_next, meant_for, all_meant, IsItemTaken, AreItemsTaken}
use Rattle.upward_law.proofs.EntryLemmas.{history_read}
use Rattle.drill_server.specs.ServerSteps.{Serving, next_answer}
use Rattle.drill_run.specs.declared.turn.Who.{Who}
use Rattle.drill_run.specs.declared.turn.Who.TheVariants.{Client, Server}
use Rattle.drill_run.specs.CountSteps.{requests_up, counts_of}
use Rattle.drill_run.specs.Players.{player_at, player_said}
use Rattle.drill_run.specs.Steps.{end_told}
use Rattle.drill_run.specs.TurnCounts.{requests_heard}
use Rattle.drill_run.specs.Turns.{Drilled, DrillRun, begins, goes_on, entered_below, after_draw, after_saying, after_entries, turn_told, fed_answer, fed_message, fed_up}
use Rattle.drill_run.proofs.OneDrillLemmas.{turn_history}
use Rattle.drill_run.proofs.FramerCountLemmas.{asked_among, requests_framed, framed_read}

-- It hears the answer, and then the message.
hears_answer : (answer : Option (List ℕ)) (serving : Serving) → (fed_answer answer serving).heard ≡ serving.heard ++ unwrap_or answer []
hears_answer None serving = sym (append-nil serving.heard)
hears_answer (Some text) serving = refl

hears_message : (message : Option UpMessage) (serving : Serving) → (fed_message message serving).heard ≡ serving.heard ++ message_bytes message
hears_message None serving = sym (append-nil serving.heard)
hears_message (Some (Request text)) serving = refl
hears_message (Some (Frame text)) serving = refl

hears_up : (up : ToUp) (serving : Serving) → (fed_up up serving).heard ≡ serving.heard ++ bytes_up up
hears_up up serving =
    hears_message up.message (fed_answer up.answer serving)
    ∙ ap (λ (l : List ℕ). l ++ message_bytes up.message) (hears_answer up.answer serving)
    ∙ append_assoc serving.heard (unwrap_or up.answer []) (message_bytes up.message)

-- The server heard all that went up.
abbrev HearsStream : Drilled → Type 0
HearsStream drilled = drilled.server.heard ≡ stream_up drilled.history

entries_hear : (more : List HistoryEntry) (drilled : Drilled) → HearsStream drilled → HearsStream (after_entries more drilled)
entries_hear [] drilled is = is
entries_hear (e ∷ more) drilled is =
    hears_up e.outcome.to_up (after_entries more drilled).server ∙ ap (λ (l : List ℕ). l ++ bytes_up e.outcome.to_up) (entries_hear more drilled is)

saying_hears : (who : Who) (drilled : Drilled) → HearsStream drilled → HearsStream (after_saying who (after_draw drilled))
saying_hears (Client i) drilled is = is
saying_hears Server drilled is = is

entered_hear : (n : ℕ) → [] ≡ stream_up (entered_below n)
entered_hear zero = refl
entered_hear (suc n) = entered_hear n ∙ sym (append-nil (stream_up (entered_below n)))

run_hears : (players number : ℕ) (drilled : Drilled) → DrillRun players number drilled → HearsStream drilled
run_hears players number drilled begins = entered_hear players
run_hears players number drilled (goes_on before next ran made) =
    subst HearsStream (sym made.after) (entries_hear made.more (after_saying made.who (after_draw before)) (saying_hears made.who before (run_hears players number before ran)))

-- What comes of a player in a drill is one item at a time.
abbrev IsWhole : Shape → Type 0
IsWhole shape = IsItem shape.kind shape.bytes shape.head

ends_whole : (bad : Bool) (items : List Shape) (more : Type 0) → (more → AllByRecursion IsWhole items) → EndsAtBad bad items more → AllByRecursion IsWhole items
ends_whole true items more again none = subst (AllByRecursion IsWhole) (sym none) tt
ends_whole false items more again later = again later

are_whole : (items : List Shape) (stream : List ℕ) → AreItems stream items → AllByRecursion IsWhole items
are_whole [] stream are = tt
are_whole (item ∷ items) stream are = (are.spelled.is_item, ends_whole (is_bad item.kind) items (AreItems are.rest items) (are_whole items are.rest) are.later)

taken_each : (i : ℕ) (items : List Shape) → AllByRecursion IsWhole items → AllByRecursion IsItemTaken (map (λ shape. takes i shape) items)
taken_each i [] whole = tt
taken_each i (item ∷ items) whole = (whole.0, taken_each i items whole.1)

heard_each : (items : List Shape) → AllByRecursion IsItemTaken (map (λ shape. hears shape) items)
heard_each [] = tt
heard_each (item ∷ items) = (tt, heard_each items)

end_each : (last : Bool) (i : ℕ) → AllByRecursion IsItemTaken (end_told last i)
end_each true i = (tt, tt)
end_each false i = tt

turn_taken : (who : Who) (drilled : Drilled) → AllByRecursion IsItemTaken (turn_told who drilled)
turn_taken (Client i) drilled =
    let said = player_said i (player_at i drilled.players) in
    both_so IsItemTaken (map (λ shape. takes i shape) (items_of said.text)) (end_told said.last i)
    (taken_each i (items_of said.text) (are_whole (items_of said.text) said.text (items_are said.text))) (end_each said.last i)
turn_taken Server drilled = heard_each (items_of (next_answer drilled.server).text)

entries_taken : (more : List HistoryEntry) → AllByRecursion IsItemTaken (happened more) → AreItemsTaken more
entries_taken [] all = tt
entries_taken (e ∷ more) all = let parts = parts_so IsItemTaken (happened more) (e.happening ∷ []) all in (parts.1.0, entries_taken more parts.0)

entered_taken : (n : ℕ) → AreItemsTaken (entered_below n)
entered_taken zero = tt
entered_taken (suc n) = (tt, entered_taken n)

run_taken : (players number : ℕ) (drilled : Drilled) → DrillRun players number drilled → AreItemsTaken drilled.history
run_taken players number drilled begins = entered_taken players
run_taken players number drilled (goes_on before next ran made) =
    subst AreItemsTaken (sym (turn_history before next made))
    (both_so (λ (entry : HistoryEntry). IsItemTaken entry.happening) made.more before.history
    (entries_taken made.more (subst (AllByRecursion IsItemTaken) (sym made.told) (turn_taken made.who before)))
    (run_taken players number before ran))

-- The requests that are meant are those that are counted.
asked_both : (one other : List ServerRead) → asked_among (one ++ other) ≡ asked_among one + asked_among other
asked_both [] other = omega arith
asked_both (item ∷ one) other = let rest = asked_both one other in omega (arith, rest)

heard_asks : (books : Books) (said : Heard) → asked_among (heard_due books said) ≡ 0
heard_asks books (replies reply) = refl
heard_asks books (requests request) = refl
heard_asks books (frames channel rest) = refl
heard_asks books (faults fault) = refl

answers_ask : (books : Books) (happening : Happening) → asked_among (answers_due books happening) ≡ 0
answers_ask books (enters conn) = refl
answers_ask books (takes conn shape) = refl
answers_ask books (ends conn) = refl
answers_ask books (lags conn) = refl
answers_ask books (hears shape) = heard_asks books (heard shape)
answers_ask books (up_ends cause) = refl

messages_ask : (books settled : Books) (who : Option ℕ) (message : Option Outgoing) → asked_among (messages_due books settled who message) ≡ requests_up (message_due books settled who message)
messages_ask books settled None message = refl
messages_ask books settled (Some i) None = refl
messages_ask books settled (Some i) (Some (asks request named)) = refl
messages_ask books settled (Some i) (Some (carries pair half rest)) = refl

entry_asks : (bases : Bases) (earlier : List HistoryEntry) (happening : Happening) (over : Bool) (up : ToUp) → up ≡ cond over nothing_up (up_due bases earlier happening)
    → asked_among (cond over [] (meant_next bases earlier happening)) ≡ requests_up up.message
entry_asks bases earlier happening true up is = sym (ap (λ (one : ToUp). requests_up one.message) is)
entry_asks bases earlier happening false up is =
    let books = books_of earlier in
    let settled = settled_by books happening in
    let who = turn books happening in
    let message = (effect bases earlier happening).message in
    let both = asked_both (answers_due books happening) (messages_due books settled who message) in
    let none = answers_ask books happening in
    let some = messages_ask books settled who message in
    let same : requests_up up.message ≡ requests_up (message_due books settled who message) = ap (λ (one : ToUp). requests_up one.message) is in
    omega (arith, both, none, some, same)

history_asks : (bases : Bases) (history : List HistoryEntry) → IsHistory bases history → asked_among (all_meant bases history) ≡ (counts_of history).upstream
history_asks bases [] is = refl
history_asks bases (e ∷ earlier) is =
    let both = asked_both (all_meant bases earlier) (meant_for bases earlier e) in
    let rest = history_asks bases earlier is.0 in
    let here = entry_asks bases earlier e.happening (is_some (fault_in (e ∷ earlier))) e.outcome.to_up is.1.spelled in
    omega (arith, both, rest, here)

pub heard_few : (bases : Bases) (players number : ℕ) (drilled : Drilled) → DrillRun players number drilled → IsHistory bases drilled.history → requests_heard drilled.server ≤ (counts_of drilled.history).upstream
heard_few bases players number drilled ran is =
    let same : requests_heard drilled.server ≡ requests_framed (stream_up drilled.history) = ap requests_framed (run_hears players number drilled ran) in
    let few = framed_read (all_meant bases drilled.history) (stream_up drilled.history) (history_read bases drilled.history is (run_taken players number drilled ran)) in
    let meant = history_asks bases drilled.history is in
    omega (arith, same, few, meant)
