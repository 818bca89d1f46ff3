-- An item that a piece ends, and then the items of the rest of the piece.
use Rattle.std.proofs.Common.{◌≡◌, ℕ, ◌+◌, ◌≤◌, Bool, true, false, not, List, [], ◌∷◌, ◌++◌, length, take, drop, Option, Some, refl, sym, ap, ◌∙◌, subst, arith, append_assoc, take-append-drop}
use Rattle.std.proofs.lemmas.List.{take-take, take_at, length-append, length-take-le}
use Rattle.std.specs.Option.{option_map}
use Rattle.rtsp_head.specs.Items.{Shape, Cut, is_bad, behind, cut}
use Rattle.rtsp_head.specs.Shapes.{shape_of, shapes}
use Rattle.rtsp_head.specs.declared.item.Item.{Item}
use Rattle.rtsp_head.specs.declared.item.Span.{Span}
use Rattle.rtsp_frame.specs.CutItems.{Joined, Fed, IsWhole, left_if}
use Rattle.rtsp_frame.specs.Fronts.{IsItemFront}
use Rattle.rtsp_frame.proofs.ExtentLemmas.{when_whole_from, extent_at}
use Rattle.rtsp_frame.proofs.CutLemmas.{joined_rest, cut_append}
use Rattle.rtsp_frame.proofs.CutStepLemmas.{joins, whole_cut}

-- the shape of an item with these bytes
abbrev pub shape_with : List ℕ → Span → Shape
shape_with bytes span = record { kind = span.kind; bytes = bytes; head = span.head }

goes_on_from : (bad : Bool) (shape : Shape) (more : List ℕ) → joined_rest (shape ∷ []) (left_if (not bad) []) more ≡ behind bad shape (cut more)
goes_on_from true shape more = refl
goes_on_from false shape more = refl

-- the front of an item and the bytes that it lacks are this item
pub end_whole : (held ends : List ℕ) (span : Span) → IsItemFront held span → length held + length ends ≡ span.len
    → IsWhole (held ++ ends) (record { kind = span.kind; len = length (held ++ ends); head = span.head })
end_whole held ends span h come =
    let len : span.len ≡ length (held ++ ends) = omega (arith, come, length-append held ends) in
    record {
      first =
          h.first ends
          ∙ ap (option_map (extent_at 0)) (when_whole_from (length (held ++ ends)) span (omega (arith, len)))
          ∙ ap (λ (k : ℕ). Some (record { skipped = 0; span = record { kind = span.kind; len = k; head = span.head } })) len;
      all = refl;
    }

-- what was held and the first bytes of the piece are one item, behind which the rest of the piece is cut
pub ended_first : (front held piece : List ℕ) (n : ℕ) (span : Span) → front ≡ held ++ take n piece → IsWhole front span
    → cut (held ++ piece) ≡ behind (is_bad span.kind) (shape_with front span) (cut (drop n piece))
ended_first front held piece n span split is =
    let alone = whole_cut front span is in
    ap (λ (l : List ℕ). cut (held ++ l)) (sym (take-append-drop n piece))
    ∙ ap cut (sym (append_assoc held (take n piece) (drop n piece)))
    ∙ ap (λ (l : List ℕ). cut (l ++ drop n piece)) (sym split)
    ∙ cut_append front (drop n piece)
    ∙ ap (λ (items : List Shape). joined_rest items (cut front).rest (drop n piece)) (sym alone.items)
    ∙ ap (λ (rest : Option (List ℕ)). joined_rest (shape_with front span ∷ []) rest (drop n piece)) (sym alone.rest)
    ∙ goes_on_from (is_bad span.kind) (shape_with front span) (drop n piece)

-- the same where the front of an item was held, and the piece has the bytes that it lacks
pub end_first : (held piece : List ℕ) (n : ℕ) (span : Span) → IsItemFront held span → n ≤ length piece → length held + n ≡ span.len
    → cut (held ++ piece) ≡ behind false (record { kind = span.kind; bytes = held ++ take n piece; head = span.head }) (cut (drop n piece))
end_first held piece n span h come sum =
    let ends = length-take-le n piece come in
    let shape : Shape = record { kind = span.kind; bytes = held ++ take n piece; head = span.head } in
    ended_first (held ++ take n piece) held piece n (record { kind = span.kind; len = length (held ++ take n piece); head = span.head }) refl
    (end_whole held (take n piece) span h (omega (arith, ends, sum)))
    ∙ ap (λ (b : Bool). behind b shape (cut (drop n piece))) h.sound

-- the items of the rest of the piece joined the queue too
pub ended_on : (old now : List Item) (held left piece more : List ℕ) (item : Item) (shape : Shape) (used : Option ℕ) (goes_on : Bool) → shape_of item ≡ shape
    → cut (held ++ piece) ≡ behind false shape (cut more) → Joined (old ++ item ∷ []) now more used → left_if goes_on left ≡ option_map (λ n. drop n more) used
    → Fed old now held left piece goes_on
ended_on old now held left piece more item shape used goes_on same first h rest = record {
  items =
      h.items
      ∙ joins old item shape (cut more).items same
      ∙ ap (λ (c : Cut). shapes old ++ c.items) (sym first);
  rest = rest ∙ h.rest ∙ ap (λ (c : Cut). c.rest) (sym first);
}

-- the same behind the item whose front was held
pub joined_on : (old pushed now : List Item) (held left piece more : List ℕ) (n : ℕ) (span : Span) (used : Option ℕ) (goes_on : Bool) (item : Item) → IsItemFront held span
    → n ≤ length piece → length held + n ≡ span.len → pushed ≡ old ++ item ∷ []
    → shape_of item ≡ record { kind = span.kind; bytes = held ++ take n piece; head = span.head } → more ≡ drop n piece
    → Joined pushed now more used → left_if goes_on left ≡ option_map (λ k. drop k more) used
    → Fed old now held left piece goes_on
joined_on old pushed now held left piece more n span used goes_on item h come sum is same split joined rest =
    let shape : Shape = record { kind = span.kind; bytes = held ++ take n piece; head = span.head } in
    ended_on old now held left piece more item shape used goes_on same
    (end_first held piece n span h come sum ∙ ap (λ (l : List ℕ). behind false shape (cut l)) (sym split))
    (subst (λ (items : List Item). Joined items now more used) is joined) rest

-- what was in the queue before an item stays in front
pub kept_less : (old now : List Item) (item : Item) → take (length (old ++ item ∷ [])) now ≡ old ++ item ∷ [] → take (length old) now ≡ old
kept_less old now item h =
    sym (take-take (length old) (length (old ++ item ∷ [])) now (omega (arith, length-append old (item ∷ []))))
    ∙ ap (take (length old)) h
    ∙ take_at old (item ∷ []) (length old) refl
