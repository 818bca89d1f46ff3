-- Where a head ends, line by line.
use Rattle.std.proofs.Common.{◌≡◌, ℕ, zero, suc, ◌+◌, ◌<◌, Bool, true, false, cond, ◌&&◌, ◌||◌, eqb, List, [], ◌∷◌, ◌++◌, take, drop, Option, Some, None, refl, sym, ap, ◌∙◌, subst, arith}
use Rattle.std.specs.Option.{option_map}
use Rattle.gate_bytes.specs.Ascii as ascii
use Rattle.gate_bytes.specs.Places.{place_of}
use Rattle.rtsp_head.specs.Items.{begins_with_lf, head_from, head_len}
use Rattle.rtsp_head.specs.Lines.{is_empty_line}

-- a length behind so many bytes
abbrev pub later : ℕ → Option ℕ → Option ℕ
later n o = option_map (λ k. n + k) o

pub later_zero : (o : Option ℕ) → later 0 o ≡ o
later_zero None = refl
later_zero (Some k) = let e : 0 + k ≡ k = omega arith in ap (λ n. Some n) e

pub later_later : (m n : ℕ) (o : Option ℕ) → later m (later n o) ≡ later (m + n) o
later_later m n None = refl
later_later m n (Some k) = let e : m + (n + k) ≡ m + n + k = omega arith in ap (λ n. Some n) e

suc_later : (n : ℕ) (o : Option ℕ) → option_map suc (later n o) ≡ later (suc n) o
suc_later n None = refl
suc_later n (Some k) = let e : suc (n + k) ≡ suc n + k = omega arith in ap (λ n. Some n) e

suc_is_later : (o : Option ℕ) → option_map suc o ≡ later 1 o
suc_is_later None = refl
suc_is_later (Some k) = let e : suc k ≡ 1 + k = omega arith in ap (λ n. Some n) e

-- where the first place stands: at the first byte, or one further than in the rest
pub place_turn : (t : Bool) (o : Option ℕ) (end : ℕ) (P : Type 0) → (t ≡ true → end ≡ 0 → P) → ((k : ℕ) → t ≡ false → o ≡ Some k → suc k ≡ end → P) → cond t (Some 0) (option_map (λ k. k + 1) o) ≡ Some end → P
place_turn true o end P f g h = let e : end ≡ 0 = cc in f refl e
place_turn false None end P f g h = cc
place_turn false (Some k) end P f g h = let e : k + 1 ≡ end = cc in g k refl refl (omega arith)

front_more : (t : Bool) (o p : Option ℕ) (k n : ℕ) → k < suc n → ((j : ℕ) → o ≡ Some j → j < n → p ≡ Some j) → cond t (Some 0) (option_map (λ j. j + 1) o) ≡ Some k → cond t (Some 0) (option_map (λ j. j + 1) p) ≡ Some k
front_more true o p k n less f h = h
front_more false None p k n less f h = cc
front_more false (Some j) p k n less f h = let e : j + 1 ≡ k = cc in ap (option_map (λ j. j + 1)) (f j refl (omega arith)) ∙ ap (λ n. Some n) e

-- a place stays, whatever stands behind it
pub place_in_front : (byte : ℕ) (text more : List ℕ) (k n : ℕ) → place_of byte text ≡ Some k → k < n → place_of byte (take n text ++ more) ≡ Some k
place_in_front byte text more k zero at less = absurd (omega arith)
place_in_front byte [] more k (suc n) at less = cc
place_in_front byte (b ∷ text) more k (suc n) at less =
    front_more (eqb b byte) (place_of byte text) (place_of byte (take n text ++ more)) k n less (λ j there below. place_in_front byte text more j n there below) at

-- Within a line the head goes on to the line's end, and a line starts behind it.
within_line : (text : List ℕ) (end : ℕ) → place_of ascii.lf text ≡ Some end → head_from false text ≡ later (suc end) (head_from true (drop (suc end) text))
within_line [] end h = cc
within_line (b ∷ text) end h =
    place_turn (eqb b ascii.lf) (place_of ascii.lf text) end (head_from false (b ∷ text) ≡ later (suc end) (head_from true (drop (suc end) (b ∷ text))))
    (λ t e.
    subst (λ (n : ℕ). head_from false (b ∷ text) ≡ later (suc n) (head_from true (drop (suc n) (b ∷ text)))) (sym e)
    (within_at (eqb b ascii.lf) (begins_with_lf text) (eqb b ascii.cr) text t))
    (λ k t at e.
    subst (λ (n : ℕ). head_from false (b ∷ text) ≡ later (suc n) (head_from true (drop (suc n) (b ∷ text)))) e
    (within_past (eqb b ascii.lf) (eqb b ascii.cr) (begins_with_lf text) text k t (within_line text k at))) h
  where
    within_at : (ten lf cr : Bool) (text : List ℕ) → ten ≡ true → cond (ten && false) (Some 1) (option_map suc (head_from (ten || (false && (cr && lf))) text)) ≡ later 1 (head_from true text)
    within_at true lf cr text t = suc_is_later (head_from true text)
    within_at false lf cr text t = cc

    within_past : (ten cr lf : Bool) (text : List ℕ) (k : ℕ) → ten ≡ false → head_from false text ≡ later (suc k) (head_from true (drop (suc k) text)) → cond (ten && false) (Some 1) (option_map suc (head_from (ten || (false && (cr && lf))) text)) ≡ later (suc (suc k)) (head_from true (drop (suc k) text))
    within_past true cr lf text k t h = cc
    within_past false cr lf text k t h = ap (option_map suc) h ∙ suc_later (suc k) (head_from true (drop (suc k) text))

-- an LF comes next, or later
lf_next : (text : List ℕ) → place_of ascii.lf text ≡ Some 0 → begins_with_lf text ≡ true
lf_next [] h = cc
lf_next (b ∷ text) h =
    place_turn (eqb b ascii.lf) (place_of ascii.lf text) 0 (eqb b ascii.lf ≡ true) (λ t e. t) (λ k t at e. cc) h

lf_later : (text : List ℕ) (k : ℕ) → place_of ascii.lf text ≡ Some (suc k) → begins_with_lf text ≡ false
lf_later [] k h = cc
lf_later (b ∷ text) k h =
    place_turn (eqb b ascii.lf) (place_of ascii.lf text) (suc k) (eqb b ascii.lf ≡ false) (λ t e. cc) (λ j t at e. t) h

-- a line begins an empty line exactly where it is empty up to its LF
starts_empty : (b : ℕ) (text : List ℕ) (k : ℕ) → place_of ascii.lf text ≡ Some k → (eqb b ascii.cr && begins_with_lf text) ≡ is_empty_line (b ∷ take k text)
starts_empty b text zero h = and_true (eqb b ascii.cr) (begins_with_lf text) (lf_next text h)
  where
    and_true : (x y : Bool) → y ≡ true → (x && y) ≡ x
    and_true true y h = h
    and_true false y h = refl
starts_empty b [] (suc k) h = cc
starts_empty b (c ∷ text) (suc k) h = and_false (eqb b ascii.cr) (begins_with_lf (c ∷ text)) (lf_later (c ∷ text) k h)
  where
    and_false : (x y : Bool) → y ≡ false → (x && y) ≡ false
    and_false true y h = h
    and_false false y h = refl

ends_at : (ten : Bool) (o : Option ℕ) → ten ≡ true → cond (ten && true) (Some 1) o ≡ Some (0 + 1)
ends_at true o t = refl
ends_at false o t = cc

starts_line : (text : List ℕ) → begins_with_lf text ≡ true → head_from true text ≡ Some 1
starts_line [] h = cc
starts_line (b ∷ text) h = ends_at (eqb b ascii.lf) _ h

ends_past : (ten starts : Bool) (text : List ℕ) → ten ≡ false → starts ≡ true → begins_with_lf text ≡ true → cond (ten && true) (Some 1) (option_map suc (head_from (ten || (true && starts)) text)) ≡ Some (suc 0 + 1)
ends_past true starts text t s h = cc
ends_past false true text t s h = ap (option_map suc) (starts_line text h)
ends_past false false text t s h = cc

goes_past : (ten starts : Bool) (text : List ℕ) (k : ℕ) → ten ≡ false → starts ≡ false → head_from false text ≡ later (suc k) (head_from true (drop (suc k) text)) → cond (ten && true) (Some 1) (option_map suc (head_from (ten || (true && starts)) text)) ≡ later (suc (suc k)) (head_from true (drop (suc k) text))
goes_past true starts text k t s h = cc
goes_past false true text k t s h = cc
goes_past false false text k t s h = ap (option_map suc) h ∙ suc_later (suc k) (head_from true (drop (suc k) text))

none_past : (ten starts next : Bool) (text : List ℕ) → ten ≡ false → head_from (ten || (starts && next)) text ≡ None → cond (ten && starts) (Some 1) (option_map suc (head_from (ten || (starts && next)) text)) ≡ None
none_past true starts next text t h = cc
none_past false starts next text t h = ap (option_map suc) h

-- an empty line has nothing or a CR before its LF
only_cr : (b : ℕ) (text : List ℕ) (k : ℕ) → place_of ascii.lf text ≡ Some k → is_empty_line (b ∷ take k text) ≡ true → k ≡ 0
only_cr b text zero at h = refl
only_cr b [] (suc k) at h = cc
only_cr b (c ∷ text) (suc k) at h = cc

-- where a line ends that is empty, the head ends
pub head_ends : (text : List ℕ) (end : ℕ) → place_of ascii.lf text ≡ Some end → is_empty_line (take end text) ≡ true → head_len text ≡ Some (end + 1)
head_ends [] end h empty = cc
head_ends (b ∷ text) end h empty =
    place_turn (eqb b ascii.lf) (place_of ascii.lf text) end (head_len (b ∷ text) ≡ Some (end + 1))
    (λ t e. subst (λ (n : ℕ). head_len (b ∷ text) ≡ Some (n + 1)) (sym e) (ends_at (eqb b ascii.lf) _ t))
    (λ k t at e.
    let empty_here : is_empty_line (b ∷ take k text) ≡ true = subst (λ (n : ℕ). is_empty_line (take n (b ∷ text)) ≡ true) (sym e) empty in
    let starts : (eqb b ascii.cr && begins_with_lf text) ≡ true = starts_empty b text k at ∙ empty_here in
    let none_between : k ≡ 0 = only_cr b text k at empty_here in
    subst (λ (n : ℕ). head_len (b ∷ text) ≡ Some (n + 1)) e
    (subst (λ (n : ℕ). head_len (b ∷ text) ≡ Some (suc n + 1)) (sym none_between)
    (ends_past (eqb b ascii.lf) (eqb b ascii.cr && begins_with_lf text) text t starts (lf_next text (at ∙ ap (λ n. Some n) none_between))))) h

-- otherwise it goes on behind the line
pub head_goes_on : (text : List ℕ) (end : ℕ) → place_of ascii.lf text ≡ Some end → is_empty_line (take end text) ≡ false → head_len text ≡ later (suc end) (head_len (drop (suc end) text))
head_goes_on [] end h full = cc
head_goes_on (b ∷ text) end h full =
    place_turn (eqb b ascii.lf) (place_of ascii.lf text) end (head_len (b ∷ text) ≡ later (suc end) (head_len (drop (suc end) (b ∷ text))))
    (λ t e.
    let nothing : is_empty_line [] ≡ false = subst (λ (n : ℕ). is_empty_line (take n (b ∷ text)) ≡ false) e full in
    cc nothing)
    (λ k t at e.
    let full_here : is_empty_line (b ∷ take k text) ≡ false = subst (λ (n : ℕ). is_empty_line (take n (b ∷ text)) ≡ false) (sym e) full in
    let starts : (eqb b ascii.cr && begins_with_lf text) ≡ false = starts_empty b text k at ∙ full_here in
    subst (λ (n : ℕ). head_len (b ∷ text) ≡ later (suc n) (head_len (drop (suc n) (b ∷ text)))) e
    (goes_past (eqb b ascii.lf) (eqb b ascii.cr && begins_with_lf text) text k t starts (within_line text k at))) h

pub no_turn : (t : Bool) (o : Option ℕ) (P : Type 0) → (t ≡ false → o ≡ None → P) → cond t (Some 0) (option_map (λ k. k + 1) o) ≡ None → P
no_turn true o P f h = cc
no_turn false None P f h = f refl refl
no_turn false (Some k) P f h = cc

-- with no line end there is no head
pub head_needs_lf : (text : List ℕ) (starts : Bool) → place_of ascii.lf text ≡ None → head_from starts text ≡ None
head_needs_lf [] starts h = refl
head_needs_lf (b ∷ text) starts h =
    no_turn (eqb b ascii.lf) (place_of ascii.lf text) (head_from starts (b ∷ text) ≡ None)
    (λ t at. none_past (eqb b ascii.lf) starts _ text t (head_needs_lf text _ at)) h
