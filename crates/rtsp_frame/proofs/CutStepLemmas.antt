-- How a queue grows by the items that are cut.
use Rattle.std.proofs.Common.{◌≡◌, ℕ, ◌+◌, ◌≤◌, Bool, true, false, not, List, [], ◌∷◌, ◌++◌, length, take, drop, Option, Some, None, refl, sym, ap, ◌∙◌, arith, append_assoc}
use Rattle.std.proofs.lemmas.List.{append-nil, take-append-le, take_at, take_all, nil_from_length, length-take, length-drop, drop-drop, map_push}
use Rattle.rtsp_head.specs.Items.{Shape, Cut, blank_lines, shape_at, first_extent, with_item, is_bad, behind, cut_with, cut}
use Rattle.rtsp_head.specs.Shapes.{shape_of, shapes}
use Rattle.rtsp_head.specs.declared.item.Item.{Item}
use Rattle.rtsp_head.specs.declared.item.Extent.{Extent}
use Rattle.rtsp_head.specs.declared.item.Span.{Span}
use Rattle.rtsp_frame.specs.CutItems.{Joined, IsWhole, left_if}
use Rattle.rtsp_frame.proofs.HeadLemmas.{blank_lines_fit}
use Rattle.rtsp_frame.proofs.ExtentLemmas.{first_is}
use Rattle.rtsp_frame.proofs.CutLemmas.{cut_step}

-- Some items of the bytes joined the queue, and they took this many bytes.
pub record Cutting (old now : List Item) (bytes left : List ℕ) (used : ℕ) : Type 0 where
  pub kept : take (length old) now ≡ old
  pub place : left ≡ drop used bytes
  pub within : used ≤ length bytes
  pub items : shapes now ++ (cut left).items ≡ shapes old ++ (cut bytes).items
  pub rest : (cut left).rest ≡ (cut bytes).rest

pub cutting_begins : (old : List Item) (bytes : List ℕ) → Cutting old old bytes bytes 0
cutting_begins old bytes = record {
  kept = ap (take (length old)) (sym (append-nil old)) ∙ take_at old [] (length old) refl;
  place = refl;
  within = omega arith;
  items = refl;
  rest = refl;
}

-- what was in the queue stays in front
pub kept_more : (old now : List Item) (item : Item) → take (length old) now ≡ old → take (length old) (now ++ item ∷ []) ≡ old
kept_more old now item h =
    let within : length old ≤ length now = omega (arith, ap length h, length-take (length old) now) in
    take-append-le (length old) now (item ∷ []) within ∙ h

-- the cut of what is left, where an item stands first
cut_first : (left : List ℕ) (e : Extent) → first_extent left ≡ Some e → cut left ≡ behind (is_bad e.span.kind) (shape_at left e) (cut (drop (e.skipped + e.span.len) left))
cut_first left e h = cut_step left ∙ ap (λ (o : Option Extent). cut_with o left cut) h

-- an item at the end of the queue, and those behind it
pub joins : (now : List Item) (item : Item) (shape : Shape) (later : List Shape) → shape_of item ≡ shape → shapes (now ++ item ∷ []) ++ later ≡ shapes now ++ (shape ∷ later)
joins now item shape later h =
    ap (λ (front : List Shape). front ++ later) (map_push shape_of now item)
    ∙ append_assoc (shapes now) (shape_of item ∷ []) later
    ∙ ap (λ (s : Shape). shapes now ++ (s ∷ later)) h

pub cutting_more : (old now : List Item) (bytes left : List ℕ) (used : ℕ) (e : Extent) (item : Item) → Cutting old now bytes left used → first_extent left ≡ Some e → shape_of item ≡ shape_at left e → is_bad e.span.kind ≡ false → Cutting old (now ++ item ∷ []) bytes (drop (e.skipped + e.span.len) left) (used + (e.skipped + e.span.len))
cutting_more old now bytes left used e item h at same good =
    let first : cut left ≡ with_item (shape_at left e) (cut (drop (e.skipped + e.span.len) left)) =
    cut_first left e at ∙ ap (λ (b : Bool). behind b (shape_at left e) (cut (drop (e.skipped + e.span.len) left))) good in
    let fits = (first_is left e at).fits in
    record {
      kept = kept_more old now item h.kept;
      place = ap (drop (e.skipped + e.span.len)) h.place ∙ drop-drop (e.skipped + e.span.len) used bytes;
      within = omega (arith, fits, h.within, ap length h.place, length-drop used bytes);
      items =
          joins now item (shape_at left e) (cut (drop (e.skipped + e.span.len) left)).items same
          ∙ ap (λ (c : Cut). shapes now ++ c.items) (sym first)
          ∙ h.items;
      rest = ap (λ (c : Cut). c.rest) (sym first) ∙ h.rest;
    }

-- no item is left
pub cutting_ends : (old now : List Item) (bytes left : List ℕ) (used : ℕ) → Cutting old now bytes left used → first_extent left ≡ None → Joined old now bytes (Some (used + blank_lines left))
cutting_ends old now bytes left used h none =
    let nothing : cut left ≡ record { items = []; rest = Some (drop (blank_lines left) left) } =
    cut_step left ∙ ap (λ (o : Option Extent). cut_with o left cut) none in
    record {
      items = sym (append-nil (shapes now)) ∙ ap (λ (c : Cut). shapes now ++ c.items) (sym nothing) ∙ h.items;
      rest =
          ap (λ (l : List ℕ). Some l) (sym (ap (drop (blank_lines left)) h.place ∙ drop-drop (blank_lines left) used bytes))
          ∙ ap (λ (c : Cut). c.rest) (sym nothing)
          ∙ h.rest;
      within = omega (arith, blank_lines_fit left, h.within, ap length h.place, length-drop used bytes);
      kept = h.kept;
    }

-- the item that came last is bad
pub cutting_breaks : (old now : List Item) (bytes left : List ℕ) (used : ℕ) (e : Extent) (item : Item) → Cutting old now bytes left used → first_extent left ≡ Some e → shape_of item ≡ shape_at left e → is_bad e.span.kind ≡ true → Joined old (now ++ item ∷ []) bytes None
cutting_breaks old now bytes left used e item h at same bad =
    let last : cut left ≡ record { items = shape_at left e ∷ []; rest = None } =
    cut_first left e at ∙ ap (λ (b : Bool). behind b (shape_at left e) (cut (drop (e.skipped + e.span.len) left))) bad in
    record {
      items =
          sym (append-nil (shapes (now ++ item ∷ [])))
          ∙ joins now item (shape_at left e) [] same
          ∙ ap (λ (c : Cut). shapes now ++ c.items) (sym last)
          ∙ h.items;
      rest = ap (λ (c : Cut). c.rest) (sym last) ∙ h.rest;
      within = tt;
      kept = kept_more old now item h.kept;
    }

-- A piece that is one whole item, where nothing was held.
whole_rest : (bytes : List ℕ) (span : Span) → IsWhole bytes span → drop (0 + span.len) bytes ≡ []
whole_rest bytes span is = nil_from_length (drop (0 + span.len) bytes) (omega (arith, length-drop (0 + span.len) bytes, is.all))

whole_shape : (bytes : List ℕ) (span : Span) → IsWhole bytes span → record { kind = span.kind; bytes = bytes; head = span.head } ≡ shape_at bytes (record { skipped = 0; span = span })
whole_shape bytes span is = ap (λ (b : List ℕ). record { kind = span.kind; bytes = b; head = span.head }) (sym (take_all span.len bytes (omega (arith, is.all))))

-- That item is all that it is cut into, and nothing is left.
pub record IsCutAlone (bytes : List ℕ) (span : Span) (bad : Bool) : Type 0 where
  pub items : record { kind = span.kind; bytes = bytes; head = span.head } ∷ [] ≡ (cut bytes).items
  pub rest : left_if (not bad) [] ≡ (cut bytes).rest

pub whole_cut : (bytes : List ℕ) (span : Span) → IsWhole bytes span → IsCutAlone bytes span (is_bad span.kind)
whole_cut bytes span is = by (is_bad span.kind) refl
  where
    e : Extent
    e = record { skipped = 0; span = span }

    shape : record { kind = span.kind; bytes = bytes; head = span.head } ≡ shape_at bytes e
    shape = whole_shape bytes span is

    nothing : cut (drop (0 + span.len) bytes) ≡ record { items = []; rest = Some [] }
    nothing = ap cut (whole_rest bytes span is)

    by : (b : Bool) → is_bad span.kind ≡ b → IsCutAlone bytes span b
    by true bad =
        let first : cut bytes ≡ record { items = shape_at bytes e ∷ []; rest = None } =
        cut_first bytes e is.first ∙ ap (λ (b : Bool). behind b (shape_at bytes e) (cut (drop (0 + span.len) bytes))) bad in
        record {
          items = ap (λ (s : Shape). s ∷ []) shape ∙ ap (λ (c : Cut). c.items) (sym first);
          rest = ap (λ (c : Cut). c.rest) (sym first);
        }
    by false good =
        let first : cut bytes ≡ record { items = shape_at bytes e ∷ []; rest = Some [] } =
        cut_first bytes e is.first
        ∙ ap (λ (b : Bool). behind b (shape_at bytes e) (cut (drop (0 + span.len) bytes))) good
        ∙ ap (λ (c : Cut). with_item (shape_at bytes e) c) nothing in
        record {
          items = ap (λ (s : Shape). s ∷ []) shape ∙ ap (λ (c : Cut). c.items) (sym first);
          rest = ap (λ (c : Cut). c.rest) (sym first);
        }
