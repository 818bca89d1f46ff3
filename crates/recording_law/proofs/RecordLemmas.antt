-- The notes of a history are told as its events.
use Rattle.std.proofs.Common.{◌≡◌, ◌∙◌, ℕ, ◌==◌, Bool, true, false, cond, List, [], ◌∷◌, ◌++◌, length, drop, map, refl, sym, ap, subst, append_assoc}
use Rattle.std.proofs.lemmas.List.{append-nil}
use Rattle.std.proofs.Math.Seq.{drop-append_seam}
use Rattle.gate_transcript.specs.declared.entry.Entry.{Entry as Noted}
use Rattle.rtsp_head.specs.Items.{Shape, is_bad, items_of}
use Rattle.rtsp_head.specs.Spellings.{IsItem, EndsAtBad, AreItems}
use Rattle.rtsp_frame.proofs.AreItemsLemmas.{one_reading, items_are}
use Rattle.gate_transcript.specs.declared.entry.UpWhy.{UpWhy}
use Rattle.gate_transcript.specs.declared.entry.UpWhy.TheVariants as whys
use Rattle.gateway_claim.specs.Happenings.{Happening, enters, takes, ends, lags, hears, up_ends, HistoryEntry, happened}
use Rattle.gateway_replay.specs.declared.streams.Speaker.{Speaker}
use Rattle.gateway_replay.specs.declared.streams.Speaker.TheVariants.{Client, Server}
use Rattle.gateway_replay.specs.Events.{bytes_here, stream_of, new_items, said_by, events_by, events_of}
use Rattle.gateway_hub.specs.Notes.{note_of, notes}
use Rattle.recording_law.specs.RecordedHistory.{said_in, all_said, AreSoundBefore, IsSaidWhole, IsToldWhole, AreToldWhole}

-- the bytes of items in a row
abbrev joined : List Shape → List ℕ
joined [] = []
joined (item ∷ items) = item.bytes ++ joined items

joined_both : (xs ys : List Shape) → joined (xs ++ ys) ≡ joined xs ++ joined ys
joined_both [] ys = refl
joined_both (x ∷ xs) ys = ap (λ (l : List ℕ). x.bytes ++ l) (joined_both xs ys) ∙ sym (append_assoc x.bytes (joined xs) (joined ys))

-- each is an item, and nothing follows a bad one
abbrev AreInRow : List Shape → Type 0
AreInRow [] = Unit {0}
AreInRow (item ∷ items) = IsItem item.kind item.bytes item.head × EndsAtBad (is_bad item.kind) items (AreInRow items)

abbrev AreAllItems : List Shape → Type 0
AreAllItems [] = Unit {0}
AreAllItems (item ∷ items) = IsItem item.kind item.bytes item.head × AreAllItems items

ends_alike : (A B : Type 0) (bad : Bool) (items : List Shape) → (A → B) → EndsAtBad bad items A → EndsAtBad bad items B
ends_alike A B true items f done = done
ends_alike A B false items f done = f done

-- such a row is read as these items
row_items : (items : List Shape) → AreInRow items → AreItems (joined items) items
row_items [] row = items_are []
row_items (item ∷ items) row = record {
  front = item.bytes;
  rest = joined items;
  split = refl;
  spelled = record { lines = []; empty = record { ends = []; spelled = refl }; spelled = refl; is_item = row.0 };
  later = ends_alike (AreInRow items) (AreItems (joined items) items) (is_bad item.kind) items (row_items items) row.1;
}

row_read : (items : List Shape) → AreInRow items → items_of (joined items) ≡ items
row_read items row = one_reading (joined items) (items_of (joined items)) items (items_are (joined items)) (row_items items row)

-- one more behind sound ones
row_of_one : (item : Shape) → IsItem item.kind item.bytes item.head → AreInRow (item ∷ [])
row_of_one item is = (is, by (is_bad item.kind))
  where
    by : (bad : Bool) → EndsAtBad bad [] (Unit {0})
    by true = refl
    by false = tt

sound_row : (items more : List Shape) → AreAllItems items → AreSoundBefore items → AreInRow more → AreInRow (items ++ more)
sound_row [] more all sound row = row
sound_row (item ∷ items) more all sound row = (all.0, subst (λ (bad : Bool). EndsAtBad bad (items ++ more) (AreInRow (items ++ more))) (sym sound.0) (sound_row items more all.1 sound.1 row))

all_both : (xs ys : List Shape) → AreAllItems xs → AreAllItems ys → AreAllItems (xs ++ ys)
all_both [] ys one other = other
all_both (x ∷ xs) ys one other = (one.0, all_both xs ys one.1 other)

-- what is said is items
said_items : (who : Speaker) (happening : Happening) (earlier : List HistoryEntry) → IsToldWhole happening earlier → AreAllItems (said_in who happening)
said_items (Client i) (enters conn) earlier whole = tt
said_items Server (enters conn) earlier whole = tt
said_items (Client i) (takes conn shape) earlier whole = by (conn == i)
  where
    by : (here : Bool) → AreAllItems (cond here (shape ∷ []) [])
    by true = (whole.item, tt)
    by false = tt
said_items Server (takes conn shape) earlier whole = tt
said_items (Client i) (ends conn) earlier whole = tt
said_items Server (ends conn) earlier whole = tt
said_items (Client i) (lags conn) earlier whole = tt
said_items Server (lags conn) earlier whole = tt
said_items (Client i) (hears shape) earlier whole = tt
said_items Server (hears shape) earlier whole = (whole.item, tt)
said_items (Client i) (up_ends why) earlier whole = tt
said_items Server (up_ends why) earlier whole = tt

all_items : (who : Speaker) (history : List HistoryEntry) → AreToldWhole history → AreAllItems (all_said who history)
all_items who [] whole = tt
all_items who (entry ∷ earlier) whole = all_both (all_said who earlier) (said_in who entry.happening) (all_items who earlier whole.0) (said_items who entry.happening earlier whole.1)

-- The bytes of a speaker in the notes are those of its items.
note_bytes : (who : Speaker) (happening : Happening) → bytes_here who (note_of happening) ≡ joined (said_in who happening)
note_bytes (Client i) (enters conn) = refl
note_bytes Server (enters conn) = refl
note_bytes (Client i) (takes conn shape) = by (conn == i)
  where
    by : (here : Bool) → cond here shape.bytes [] ≡ joined (cond here (shape ∷ []) [])
    by true = sym (append-nil shape.bytes)
    by false = refl
note_bytes Server (takes conn shape) = refl
note_bytes (Client i) (ends conn) = refl
note_bytes Server (ends conn) = refl
note_bytes (Client i) (lags conn) = refl
note_bytes Server (lags conn) = refl
note_bytes (Client i) (hears shape) = refl
note_bytes Server (hears shape) = sym (append-nil shape.bytes)
note_bytes (Client i) (up_ends why) = refl
note_bytes Server (up_ends why) = refl

stream_joined : (who : Speaker) (history : List HistoryEntry) → stream_of who (notes history) ≡ joined (all_said who history)
stream_joined who [] = refl
stream_joined who (entry ∷ earlier) =
    ap (λ (l : List ℕ). l ++ bytes_here who (note_of entry.happening)) (stream_joined who earlier)
    ∙ ap (λ (l : List ℕ). joined (all_said who earlier) ++ l) (note_bytes who entry.happening)
    ∙ sym (joined_both (all_said who earlier) (said_in who entry.happening))

-- An item that was noted alone is that item again.
item_again : (who : Speaker) (shape : Shape) (history : List HistoryEntry) → AreToldWhole history → IsSaidWhole shape (all_said who history) → new_items (stream_of who (notes history)) shape.bytes ≡ shape ∷ []
item_again who shape history whole said =
    let before = all_said who history in
    let all = all_items who history whole in
    let old : items_of (joined before) ≡ before = row_read before (subst AreInRow (append-nil before) (sound_row before [] all said.sound tt)) in
    let one : joined before ++ shape.bytes ≡ joined (before ++ shape ∷ []) =
    ap (λ (l : List ℕ). joined before ++ l) (sym (append-nil shape.bytes)) ∙ sym (joined_both before (shape ∷ [])) in
    let new : items_of (joined before ++ shape.bytes) ≡ before ++ shape ∷ [] = ap items_of one ∙ row_read (before ++ shape ∷ []) (sound_row before (shape ∷ []) all said.sound (row_of_one shape said.item)) in
    ap (λ (l : List ℕ). drop (length (items_of l)) (items_of (l ++ shape.bytes))) (stream_joined who history)
    ∙ ap (λ (l : List Shape). drop (length l) (items_of (joined before ++ shape.bytes))) old
    ∙ ap (λ (l : List Shape). drop (length before) l) new
    ∙ drop-append_seam before (shape ∷ [])

up_end_again : (why : UpWhy) (earlier : List Noted) → events_by (note_of (up_ends why)).kind (note_of (up_ends why)) earlier ≡ up_ends why ∷ []
up_end_again whys.Ended earlier = refl
up_end_again whys.ReadFault earlier = refl
up_end_again whys.WriteFault earlier = refl
up_end_again whys.UpFull earlier = refl

-- the note of an event tells it
note_tells : (happening : Happening) (earlier : List HistoryEntry) → AreToldWhole earlier → IsToldWhole happening earlier → events_by (note_of happening).kind (note_of happening) (notes earlier) ≡ happening ∷ []
note_tells (enters conn) earlier whole told = refl
note_tells (takes conn shape) earlier whole told = ap (map (said_by (Client conn))) (item_again (Client conn) shape earlier whole told)
note_tells (ends conn) earlier whole told = refl
note_tells (lags conn) earlier whole told = refl
note_tells (hears shape) earlier whole told = ap (map (said_by Server)) (item_again Server shape earlier whole told)
note_tells (up_ends why) earlier whole told = up_end_again why (notes earlier)

pub retold : (history : List HistoryEntry) → AreToldWhole history → events_of (notes history) ≡ happened history
retold [] whole = refl
retold (entry ∷ earlier) whole =
    ap (λ (l : List Happening). l ++ events_by (note_of entry.happening).kind (note_of entry.happening) (notes earlier)) (retold earlier whole.0)
    ∙ ap (λ (l : List Happening). happened earlier ++ l) (note_tells entry.happening earlier whole.0 whole.1)
