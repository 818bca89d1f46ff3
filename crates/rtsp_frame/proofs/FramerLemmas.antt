-- What a framer owes to a stream, when a piece comes.
use Rattle.std.proofs.Common.{◌≡◌, ℕ, Bool, true, false, not, List, [], ◌∷◌, ◌++◌, Option, Some, None, sym, ap, ◌∙◌, append_assoc}
use Rattle.std.proofs.lemmas.List.{append-nil}
use Rattle.rtsp_head.specs.Items.{Shape, Cut, is_bad, cut}
use Rattle.rtsp_head.specs.declared.item.Span.{Span}
use Rattle.rtsp_frame.specs.CutItems.{Fed, IsHeldOn, left_if}
use Rattle.rtsp_frame.specs.FramerState.{HeldBytes, Framed, IsAlone, HoldsPiece}
use Rattle.rtsp_frame.proofs.CutLemmas.{joined_rest, cut_append}
use Rattle.rtsp_frame.proofs.CutStepLemmas.{whole_cut}

-- behind a bad item nothing is added
pub framed_done : (held : HeldBytes) (stream piece : List ℕ) (given : List Shape) → held.rest ≡ None → Framed held stream given → Framed held (stream ++ piece) given
framed_done held stream piece given none h =
    let done : (cut stream).rest ≡ None = sym h.rest ∙ none in
    let same : cut (stream ++ piece) ≡ record { items = (cut stream).items; rest = None } =
    cut_append stream piece ∙ ap (λ (rest : Option (List ℕ)). joined_rest (cut stream).items rest piece) done in
    record {
      items = h.items ∙ ap (λ (c : Cut). c.items) (sym same);
      rest = none ∙ ap (λ (c : Cut). c.rest) (sym same);
    }

-- otherwise the items of the rest and of the piece are added
pub framed_more : (old new : HeldBytes) (stream piece rest : List ℕ) (given : List Shape) → old.rest ≡ Some rest → new.waiting ≡ old.waiting ++ (cut (rest ++ piece)).items → new.rest ≡ (cut (rest ++ piece)).rest → Framed old stream given → Framed new (stream ++ piece) given
framed_more old new stream piece rest given some items left h =
    let held : (cut stream).rest ≡ Some rest = sym h.rest ∙ some in
    let more : cut (stream ++ piece) ≡ joined_rest (cut stream).items (Some rest) piece =
    cut_append stream piece ∙ ap (λ (rest : Option (List ℕ)). joined_rest (cut stream).items rest piece) held in
    record {
      items =
          ap (λ (l : List Shape). given ++ l) items
          ∙ sym (append_assoc given old.waiting (cut (rest ++ piece)).items)
          ∙ ap (λ (l : List Shape). l ++ (cut (rest ++ piece)).items) h.items
          ∙ ap (λ (c : Cut). c.items) (sym more);
      rest = left ∙ ap (λ (c : Cut). c.rest) (sym more);
    }

-- a piece that is one whole item, where nothing is held, is the next item
pub framed_whole : (old new : HeldBytes) (stream piece : List ℕ) (span : Span) (given : List Shape) → IsAlone old piece span → new.waiting ≡ [] → new.rest ≡ left_if (not (is_bad span.kind)) []
    → Framed old stream given → Framed new (stream ++ piece) (given ++ record { kind = span.kind; bytes = piece; head = span.head } ∷ [])
framed_whole old new stream piece span given alone waiting rest h =
    let shape : Shape = record { kind = span.kind; bytes = piece; head = span.head } in
    let is = whole_cut piece span alone.whole in
    let more : Framed (record { waiting = shape ∷ []; rest = left_if (not (is_bad span.kind)) [] }) (stream ++ piece) given =
    framed_more old _ stream piece [] given (ap (λ (held : HeldBytes). held.rest) alone.nothing)
    (is.items ∙ ap (λ (held : HeldBytes). held.waiting ++ (cut piece).items) (sym alone.nothing)) is.rest h in
    record {
      items = ap (λ (l : List Shape). (given ++ shape ∷ []) ++ l) waiting ∙ append-nil (given ++ shape ∷ []) ∙ more.items;
      rest = rest ∙ more.rest;
    }

-- a piece that was put behind what is held, where no item waits
held_on : (old new : HeldBytes) (piece rest left : List ℕ) → old.waiting ≡ [] → old.rest ≡ Some rest → new.waiting ≡ [] → new.rest ≡ Some left → Fed [] [] rest left piece true → HoldsPiece old new piece true
held_on old new piece rest left idle some waiting kept fed stream given h =
    let none : (cut (rest ++ piece)).items ≡ [] = sym fed.items in
    let more : Framed new (stream ++ piece) given =
    framed_more old new stream piece rest given some
    (waiting ∙ sym none ∙ ap (λ (l : List Shape). l ++ (cut (rest ++ piece)).items) (sym idle)) (kept ∙ fed.rest) h in
    (more, sym (append-nil given) ∙ ap (λ (l : List Shape). given ++ l) (sym waiting) ∙ more.items)

-- the same, or nothing changed
pub holds_piece : (held : Bool) (old new : HeldBytes) (piece rest left : List ℕ) → old ≡ record { waiting = []; rest = Some rest } → new ≡ record { waiting = []; rest = Some left } → IsHeldOn rest left piece held → HoldsPiece old new piece held
holds_piece true old new piece rest left before now h =
    held_on old new piece rest left (ap (λ (held : HeldBytes). held.waiting) before) (ap (λ (held : HeldBytes). held.rest) before)
    (ap (λ (held : HeldBytes). held.waiting) now) (ap (λ (held : HeldBytes). held.rest) now) h
holds_piece false old new piece rest left before now h =
    now ∙ ap (λ (l : List ℕ). let held : HeldBytes = record { waiting = []; rest = Some l } in held) h ∙ sym before
