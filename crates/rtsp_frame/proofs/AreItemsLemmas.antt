-- The items of a stream are its one reading.
use Rattle.std.proofs.Common.{◌≡◌, ℕ, zero, suc, ◌+◌, ◌≤◌, Bool, true, false, List, [], ◌∷◌, ◌++◌, length, take, drop, Option, Some, None, refl, sym, ap, ◌∙◌, subst, arith, take-append-drop}
use Rattle.std.proofs.lemmas.List.{append-nil, take_all, nil_from_length}
use Rattle.rtsp_head.specs.Items.{Shape, Cut, shape_at, first_extent, is_bad, behind, cut_with, cut, items_of}
use Rattle.rtsp_head.specs.Spellings.{Spells, NoneBegins, EndsAtBad, AreItems, IsItem}
use Rattle.rtsp_head.specs.declared.item.ItemKind.{ItemKind}
use Rattle.rtsp_head.specs.declared.item.Extent.{Extent}
use Rattle.rtsp_frame.proofs.CutLemmas.{cut_step, left_shorter}
use Rattle.rtsp_frame.proofs.WholeLemmas.{StandsFirst, all_of, spelled_first}
use Rattle.rtsp_frame.proofs.SpellLemmas.{first_spelled}

-- what stands first, on a stream that is split
stands_first : (stream front rest : List ℕ) (item : Shape) → stream ≡ front ++ rest → Spells front item → StandsFirst stream front rest item
stands_first stream front rest item split h =
    subst (λ (l : List ℕ). StandsFirst l front rest item) (sym split) (spelled_first front rest item h)

-- where no item stands, none is spelled
none_spelled : (stream : List ℕ) → first_extent stream ≡ None → NoneBegins stream
none_spelled stream none = λ front rest item h split.
    let found = (stands_first stream front rest item split h).found in
    let never : None ≡ Some (stands_first stream front rest item split h).extent = sym none ∙ found in
    cc never

follow_items : (bad : Bool) (item : Shape) (items : List Shape) (rest : Cut) → EndsAtBad bad items (items ≡ rest.items) → item ∷ items ≡ (behind bad item rest).items
follow_items true item items rest h = ap (λ (l : List Shape). item ∷ l) h
follow_items false item items rest h = ap (λ (l : List Shape). item ∷ l) h

follow_map : (bad : Bool) (items : List Shape) (P Q : Type 0) → (P → Q) → EndsAtBad bad items P → EndsAtBad bad items Q
follow_map true items P Q f h = h
follow_map false items P Q f h = f h

none_cut : (stream : List ℕ) (o : Option Extent) → first_extent stream ≡ o → NoneBegins stream → [] ≡ (cut_with o stream cut).items
none_cut stream None at none = refl
none_cut stream (Some e) at none =
    absurd (none (take (e.skipped + e.span.len) stream) (drop (e.skipped + e.span.len) stream) (shape_at stream e)
    (first_spelled stream e at) (sym (take-append-drop (e.skipped + e.span.len) stream)))

-- a list of items of a stream is the computed one
pub are_items_of : (stream : List ℕ) (items : List Shape) → AreItems stream items → items ≡ items_of stream
are_items_of stream [] h =
    none_cut stream (first_extent stream) refl h ∙ ap (λ (c : Cut). c.items) (sym (cut_step stream))
are_items_of stream (item ∷ items) h =
    let first = stands_first stream h.front h.rest item h.split h.spelled in
    let kind : is_bad item.kind ≡ is_bad first.extent.span.kind = ap (λ (s : Shape). is_bad s.kind) (sym first.item_is) in
    follow_items (is_bad item.kind) item items (cut h.rest)
    (follow_map (is_bad item.kind) items (AreItems h.rest items) (items ≡ items_of h.rest) (are_items_of h.rest items) h.later)
    ∙ ap (λ (b : Bool). (behind b item (cut h.rest)).items) kind
    ∙ ap (λ (s : Shape). (behind (is_bad first.extent.span.kind) s (cut h.rest)).items) (sym first.item_is)
    ∙ ap (λ (l : List ℕ). (behind (is_bad first.extent.span.kind) (shape_at stream first.extent) (cut l)).items) (sym first.rest_is)
    ∙ ap (λ (o : Option Extent). (cut_with o stream cut).items) (sym first.found)
    ∙ ap (λ (c : Cut). c.items) (sym (cut_step stream))

-- a stream has at most one list of items
pub one_reading : (stream : List ℕ) (items others : List Shape) → AreItems stream items → AreItems stream others → items ≡ others
one_reading stream items others h k = are_items_of stream items h ∙ sym (are_items_of stream others k)

-- the first item and those behind it
behind_items : (stream : List ℕ) (e : Extent) (bad : Bool) → is_bad e.span.kind ≡ bad → first_extent stream ≡ Some e → AreItems (drop (e.skipped + e.span.len) stream) (items_of (drop (e.skipped + e.span.len) stream)) → AreItems stream (behind bad (shape_at stream e) (cut (drop (e.skipped + e.span.len) stream))).items
behind_items stream e true kind at more = record {
  front = take (e.skipped + e.span.len) stream;
  rest = drop (e.skipped + e.span.len) stream;
  split = sym (take-append-drop (e.skipped + e.span.len) stream);
  spelled = first_spelled stream e at;
  later = subst (λ (b : Bool). EndsAtBad b [] (AreItems (drop (e.skipped + e.span.len) stream) [])) (sym kind) refl;
}
behind_items stream e false kind at more = record {
  front = take (e.skipped + e.span.len) stream;
  rest = drop (e.skipped + e.span.len) stream;
  split = sym (take-append-drop (e.skipped + e.span.len) stream);
  spelled = first_spelled stream e at;
  later = subst (λ (b : Bool). EndsAtBad b (items_of (drop (e.skipped + e.span.len) stream)) (AreItems (drop (e.skipped + e.span.len) stream) (items_of (drop (e.skipped + e.span.len) stream)))) (sym kind) more;
}

turn_items : (stream : List ℕ) (o : Option Extent) → first_extent stream ≡ o → ((e : Extent) → first_extent stream ≡ Some e → AreItems (drop (e.skipped + e.span.len) stream) (items_of (drop (e.skipped + e.span.len) stream))) → AreItems stream (cut_with o stream cut).items
turn_items stream None at again = none_spelled stream at
turn_items stream (Some e) at again = behind_items stream e (is_bad e.span.kind) refl at (again e at)

items_by : (n : ℕ) (stream : List ℕ) → length stream ≤ n → AreItems stream (items_of stream)
items_by zero stream h =
    let nothing : stream ≡ [] = nil_from_length stream (omega arith) in
    subst (λ (l : List ℕ). AreItems l (items_of l)) (sym nothing) (none_spelled [] refl)
items_by (suc n) stream h =
    subst (λ (c : Cut). AreItems stream c.items) (sym (cut_step stream))
    (turn_items stream (first_extent stream) refl
    (λ e at. items_by n (drop (e.skipped + e.span.len) stream) (left_shorter stream e n at h)))

-- the computed items are such a list
pub items_are : (stream : List ℕ) → AreItems stream (items_of stream)
items_are stream = items_by (length stream) stream (omega arith)

same_first : (front more : List ℕ) (item other : Shape) → (a : StandsFirst (front ++ more) front more item) → (b : StandsFirst (front ++ more) (front ++ more) [] other) → a.extent ≡ b.extent → (more ≡ []) × (item ≡ other)
same_first front more item other a b same = (
  sym a.rest_is ∙ ap (λ (e : Extent). drop (e.skipped + e.span.len) (front ++ more)) same ∙ b.rest_is,
  sym a.item_is ∙ ap (shape_at (front ++ more)) same ∙ b.item_is,
)

-- no spelling is the front of a longer one, and none is that of two items
pub one_spelling : (front more : List ℕ) (item other : Shape) → Spells front item → Spells (front ++ more) other → (more ≡ []) × (item ≡ other)
one_spelling front more item other h k =
    let a = spelled_first front more item h in
    let b = stands_first (front ++ more) (front ++ more) [] other (sym (append-nil (front ++ more))) k in
    let found : Some a.extent ≡ Some b.extent = sym a.found ∙ b.found in
    let same : a.extent ≡ b.extent = cc found in
    same_first front more item other a b same

-- what is read as one item, all of the bytes, is one
pub one_item : (kind : ItemKind) (bytes : List ℕ) (head : ℕ) → first_extent bytes ≡ Some (all_of kind bytes head) → IsItem kind bytes head
one_item kind bytes head h =
    subst (λ (l : List ℕ). IsItem kind l head) (take_all (length bytes) bytes (omega arith))
    (first_spelled bytes (all_of kind bytes head) h).is_item
