-- How a stream is cut, turn by turn, and what a longer one gives.
use Rattle.std.proofs.Common.{◌≡◌, ℕ, zero, suc, Bool, true, false, cond, eqb, ◌&&◌, ◌||◌, ◌+◌, ◌≤◌, List, [], ◌∷◌, ◌++◌, length, take, drop, Option, Some, None, refl, sym, ap, ◌∙◌, subst, arith}
use Rattle.std.proofs.lemmas.List.{append-nil, take-append-le, drop-append-le, length-drop, nil_from_length}
use Rattle.gate_bytes.specs.Ascii as ascii
use Rattle.rtsp_head.specs.Items.{Shape, Cut, begins_with_lf, begins_blank, blank_lines, span_of, shape_at, first_extent, with_item, is_bad, behind, cut_with, cut_by, cut, items_of}
use Rattle.std.specs.Option.{option_map}
use Rattle.rtsp_head.specs.declared.item.Span.{Span}
use Rattle.rtsp_head.specs.declared.item.Extent.{Extent}
use Rattle.rtsp_frame.proofs.ExtentLemmas.{first_more, first_is, extent_at, behind_blank}

-- nothing is cut from nothing
cut_nothing : (n : ℕ) → cut_by n [] ≡ record { items = []; rest = Some [] }
cut_nothing zero = refl
cut_nothing (suc n) = refl

-- what stands behind the first item is shorter
pub left_shorter : (xs : List ℕ) (e : Extent) (n : ℕ) → first_extent xs ≡ Some e → length xs ≤ suc n → length (drop (e.skipped + e.span.len) xs) ≤ n
left_shorter xs e n h le =
    let is = first_is xs e h in
    let pos = is.not_empty in
    omega (arith, length-drop (e.skipped + e.span.len) xs)

-- the turn's item is the same where the turns behind it are
turn_same : (o : Option Extent) (xs : List ℕ) (f g : List ℕ → Cut) → ((e : Extent) → o ≡ Some e → f (drop (e.skipped + e.span.len) xs) ≡ g (drop (e.skipped + e.span.len) xs)) → cut_with o xs f ≡ cut_with o xs g
turn_same None xs f g h = refl
turn_same (Some e) xs f g h = ap (behind (is_bad e.span.kind) (shape_at xs e)) (h e refl)

-- enough turns are enough
pub enough : (n m : ℕ) (xs : List ℕ) → length xs ≤ n → length xs ≤ m → cut_by n xs ≡ cut_by m xs
enough zero m xs h k =
    let nothing : xs ≡ [] = nil_from_length xs (omega arith) in
    ap (cut_by zero) nothing ∙ sym (cut_nothing m) ∙ ap (cut_by m) (sym nothing)
enough (suc n) zero xs h k =
    let nothing : xs ≡ [] = nil_from_length xs (omega arith) in
    ap (cut_by (suc n)) nothing ∙ ap (cut_by zero) (sym nothing)
enough (suc n) (suc m) xs h k =
    turn_same (first_extent xs) xs (cut_by n) (cut_by m)
    (λ e at. enough n m (drop (e.skipped + e.span.len) xs) (left_shorter xs e n at h) (left_shorter xs e m at k))

-- the first item, and then the cut of what is left
pub cut_step : (xs : List ℕ) → cut xs ≡ cut_with (first_extent xs) xs cut
cut_step [] = refl
cut_step (x ∷ xs) =
    turn_same (first_extent (x ∷ xs)) (x ∷ xs) (cut_by (length xs)) cut
    (λ e at.
    let shorter = left_shorter (x ∷ xs) e (length xs) at (omega arith) in
    enough (length xs) (length (drop (e.skipped + e.span.len) (x ∷ xs))) (drop (e.skipped + e.span.len) (x ∷ xs)) shorter (omega arith))

-- what is cut already, and then the cut of the rest with what comes
abbrev pub joined_rest : List Shape → Option (List ℕ) → List ℕ → Cut
joined_rest items None ys = record { items = items; rest = None }
joined_rest items (Some rest) ys = record { items = items ++ (cut (rest ++ ys)).items; rest = (cut (rest ++ ys)).rest }

abbrev pub joined : Cut → List ℕ → Cut
joined c ys = joined_rest c.items c.rest ys

front_joined : (shape : Shape) (items : List Shape) (rest : Option (List ℕ)) (ys : List ℕ) → with_item shape (joined_rest items rest ys) ≡ joined_rest (shape ∷ items) rest ys
front_joined shape items None ys = refl
front_joined shape items (Some rest) ys = refl

pub behind_joined : (bad : Bool) (shape : Shape) (c : Cut) (ys : List ℕ) → behind bad shape (joined c ys) ≡ joined (behind bad shape c) ys
behind_joined true shape c ys = refl
behind_joined false shape c ys = front_joined shape c.items c.rest ys

pub shape_more : (xs ys : List ℕ) (e : Extent) → first_extent xs ≡ Some e → shape_at (xs ++ ys) e ≡ shape_at xs e
shape_more xs ys e h =
    let fits = (first_is xs e h).fits in
    let len_fits : e.span.len ≤ length (drop e.skipped xs) = omega (arith, length-drop e.skipped xs) in
    let skip_fits : e.skipped ≤ length xs = omega arith in
    let same : take e.span.len (drop e.skipped (xs ++ ys)) ≡ take e.span.len (drop e.skipped xs) =
    ap (take e.span.len) (drop-append-le e.skipped xs ys skip_fits) ∙ take-append-le e.span.len (drop e.skipped xs) ys len_fits in
    ap (λ (bytes : List ℕ). record { kind = e.span.kind; bytes = bytes; head = e.span.head }) same

-- Empty lines at the front change nothing.

lines_stay : (ten cr lf more : Bool) → (lf ≡ true → more ≡ true) → (ten || (cr && lf)) ≡ true → (ten || (cr && more)) ≡ true
lines_stay true cr lf more f h = refl
lines_stay false true lf more f h = f h
lines_stay false false lf more f h = cc

lf_stays : (xs ys : List ℕ) → begins_with_lf xs ≡ true → begins_with_lf (xs ++ ys) ≡ true
lf_stays [] ys h = cc
lf_stays (b ∷ xs) ys h = h

abbrev only_rest : List ℕ → Cut
only_rest bytes = record { items = []; rest = Some bytes }

skip_turn : (o : Option Span) (b k : ℕ) (xs : List ℕ) → blank_lines xs ≡ k → blank_lines (b ∷ xs) ≡ suc k → cut_with (option_map (extent_at (suc k)) o) (b ∷ xs) cut ≡ cut_with (option_map (extent_at k) o) xs cut
skip_turn None b k xs here before =
    ap (λ (n : ℕ). only_rest (drop n (b ∷ xs))) before ∙ ap (λ (n : ℕ). only_rest (drop n xs)) (sym here)
skip_turn (Some s) b k xs here before =
    let same : suc k + s.len ≡ suc (k + s.len) = omega arith in
    ap (λ (n : ℕ). behind (is_bad s.kind) (shape_at xs (extent_at k s)) (cut (drop n (b ∷ xs)))) same

skip_byte : (b : ℕ) (xs : List ℕ) → begins_blank (b ∷ xs) ≡ true → cut (b ∷ xs) ≡ cut xs
skip_byte b xs blank =
    let before : blank_lines (b ∷ xs) ≡ suc (blank_lines xs) = ap (λ (t : Bool). cond t (suc (blank_lines xs)) 0) blank in
    cut_step (b ∷ xs)
    ∙ ap (λ (n : ℕ). cut_with (option_map (extent_at n) (span_of (drop n (b ∷ xs)))) (b ∷ xs) cut) before
    ∙ skip_turn (span_of (drop (blank_lines xs) xs)) b (blank_lines xs) xs refl before
    ∙ sym (cut_step xs)

skip_line : (t : Bool) (b : ℕ) (xs ys : List ℕ) → begins_blank (b ∷ xs) ≡ t → cut (xs ++ ys) ≡ cut (behind_blank xs ++ ys) → cut (b ∷ (xs ++ ys)) ≡ cut (drop (cond t (suc (blank_lines xs)) 0) (b ∷ xs) ++ ys)
skip_line true b xs ys blank more =
    skip_byte b (xs ++ ys) (lines_stay (eqb b ascii.lf) (eqb b ascii.cr) (begins_with_lf xs) (begins_with_lf (xs ++ ys)) (lf_stays xs ys) blank) ∙ more
skip_line false b xs ys full more = refl

pub skip_lines : (xs ys : List ℕ) → cut (xs ++ ys) ≡ cut (behind_blank xs ++ ys)
skip_lines [] ys = refl
skip_lines (b ∷ xs) ys = skip_line (begins_blank (b ∷ xs)) b xs ys refl (skip_lines xs ys)

turn_joined : (o : Option Extent) (xs ys : List ℕ) → first_extent xs ≡ o → ((e : Extent) → first_extent xs ≡ Some e → cut (drop (e.skipped + e.span.len) xs ++ ys) ≡ joined (cut (drop (e.skipped + e.span.len) xs)) ys) → cut (xs ++ ys) ≡ joined (cut_with o xs cut) ys
turn_joined None xs ys h again = skip_lines xs ys
turn_joined (Some e) xs ys h again =
    let fits = (first_is xs e h).fits in
    cut_step (xs ++ ys)
    ∙ ap (λ (o : Option Extent). cut_with o (xs ++ ys) cut) (first_more xs ys e h)
    ∙ ap (λ (shape : Shape). behind (is_bad e.span.kind) shape (cut (drop (e.skipped + e.span.len) (xs ++ ys)))) (shape_more xs ys e h)
    ∙ ap (λ (left : List ℕ). behind (is_bad e.span.kind) (shape_at xs e) (cut left)) (drop-append-le (e.skipped + e.span.len) xs ys fits)
    ∙ ap (behind (is_bad e.span.kind) (shape_at xs e)) (again e h)
    ∙ behind_joined (is_bad e.span.kind) (shape_at xs e) (cut (drop (e.skipped + e.span.len) xs)) ys

cut_append_by : (n : ℕ) (xs ys : List ℕ) → length xs ≤ n → cut (xs ++ ys) ≡ joined (cut xs) ys
cut_append_by zero xs ys h =
    let nothing : xs ≡ [] = nil_from_length xs (omega arith) in
    subst (λ (l : List ℕ). cut (l ++ ys) ≡ joined (cut l) ys) (sym nothing) refl
cut_append_by (suc n) xs ys h =
    turn_joined (first_extent xs) xs ys refl
    (λ e at. cut_append_by n (drop (e.skipped + e.span.len) xs) ys (left_shorter xs e n at h))
    ∙ ap (λ (c : Cut). joined c ys) (sym (cut_step xs))

-- a longer stream is cut as the shorter one, and then goes on from its rest
pub cut_append : (xs ys : List ℕ) → cut (xs ++ ys) ≡ joined (cut xs) ys
cut_append xs ys = cut_append_by (length xs) xs ys (omega arith)

later_items : (items : List Shape) (rest : Option (List ℕ)) (ys : List ℕ) → (later : List Shape) × ((joined_rest items rest ys).items ≡ items ++ later)
later_items items None ys = ([], sym (append-nil items))
later_items items (Some rest) ys = ((cut (rest ++ ys)).items, refl)

-- the items of a longer stream begin with those of the shorter one
pub items_append : (xs ys : List ℕ) → (later : List Shape) × (items_of (xs ++ ys) ≡ items_of xs ++ later)
items_append xs ys =
    let more = later_items (cut xs).items (cut xs).rest ys in
    (more.0, ap (λ (c : Cut). c.items) (cut_append xs ys) ∙ more.1)
