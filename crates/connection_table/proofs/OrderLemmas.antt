-- Lemmas on rising numbers and what stands beside them.
use Rattle.std.proofs.Common.{◌≡◌, ◌≢◌, ◌∙◌, ℕ, suc, zero, ◌+◌, ◌-◌, nat_lt, ◌<◌, ◌≤◌, ◌==◌, Bool, true, false, List, [], ◌∷◌, length, Option, Some, None, get_or, if◌then◌else◌, refl, sym, ap, arith}
use Rattle.std.specs.List.{insert, remove}
use Rattle.std.proofs.lemmas.Bool.{eqb-true, eqb-false}
use Rattle.std.proofs.lemmas.List.Edits.{length-insert, get_or-insert_below, get_or-insert_at, get_or-insert_above, length-remove, get_or-remove_below, get_or-remove_above}
use Rattle.connection_table.specs.RisingNumbers.{IsRising, key_beside}

-- what rises goes on rising behind its first number
rest_rises : (n : ℕ) (numbers : List ℕ) → IsRising (n ∷ numbers) → IsRising numbers
rest_rises n numbers rises i j before within = rises (suc i) (suc j) (omega (arith, before)) (omega (arith, within))

-- no number is i
abbrev pub IsAbsent : List ℕ → ℕ → Type 0
IsAbsent numbers i = (k : ℕ) → k < length numbers → get_or numbers k 0 ≢ i

beside_rest : (n key i : ℕ) (rest : Option ℕ) → n ≢ i → (if n == i then Some key else rest) ≡ rest
beside_rest n key i rest other = by (n == i) refl where
  by : (same : Bool) → (n == i) ≡ same → (if same then Some key else rest) ≡ rest
  by true e = absurd (other (eqb-true n i e))
  by false e = refl

pub absent_beside : (numbers keys : List ℕ) (i : ℕ) → IsAbsent numbers i → key_beside numbers keys i ≡ None
absent_beside [] keys i absent = refl
absent_beside (n ∷ numbers) [] i absent = refl
absent_beside (n ∷ numbers) (key ∷ keys) i absent =
    beside_rest n key i (key_beside numbers keys i) (absent zero (omega arith))
    ∙ absent_beside numbers keys i (λ k within. absent (suc k) (omega (arith, within)))

beside_here : (n key i : ℕ) (rest : Option ℕ) → n ≡ i → (if n == i then Some key else rest) ≡ Some key
beside_here n key i rest same = by (n == i) refl where
  by : (one : Bool) → (n == i) ≡ one → (if one then Some key else rest) ≡ Some key
  by true e = refl
  by false e = absurd (eqb-false n i e same)

-- where i stands in what rises, its key stands beside it
pub found_beside : (numbers keys : List ℕ) (i p : ℕ) → IsRising numbers → length keys ≡ length numbers → p < length numbers → get_or numbers p 0 ≡ i → key_beside numbers keys i ≡ Some (get_or keys p 0)
found_beside [] keys i p rises paired within is = absurd (omega (arith, within))
found_beside (n ∷ numbers) [] i p rises paired within is = absurd (omega (arith, paired))
found_beside (n ∷ numbers) (key ∷ keys) i zero rises paired within is = beside_here n key i (key_beside numbers keys i) is
found_beside (n ∷ numbers) (key ∷ keys) i (suc p) rises paired within is =
    let higher : n < get_or numbers p 0 = rises zero (suc p) (omega arith) within in
    beside_rest n key i (key_beside numbers keys i) (λ same. absurd (omega (arith, higher, is, same)))
    ∙ found_beside numbers keys i p (rest_rises n numbers rises) (omega (arith, paired)) (omega (arith, within)) is

-- one number more, with its key
not_first : (n k conn : ℕ) (rest : Option ℕ) → (if n == conn then Some k else rest) ≡ None → n ≢ conn
not_first n k conn rest none same = by (beside_here n k conn rest same ∙ refl) where
  by : (if n == conn then Some k else rest) ≡ Some k → ⊥
  by some = cc

swapped : (n conn i k key : ℕ) (rest : Option ℕ) → n ≢ conn → (if n == i then Some k else (if conn == i then Some key else rest)) ≡ (if conn == i then Some key else (if n == i then Some k else rest))
swapped n conn i k key rest apart = by (n == i) (conn == i) refl refl where
  by : (s t : Bool) → (n == i) ≡ s → (conn == i) ≡ t → (if s then Some k else (if t then Some key else rest)) ≡ (if t then Some key else (if s then Some k else rest))
  by true true d e = absurd (apart (eqb-true n i d ∙ sym (eqb-true conn i e)))
  by true false d e = refl
  by false true d e = refl
  by false false d e = refl

pub added_beside : (numbers keys : List ℕ) (conn key p i : ℕ) → length keys ≡ length numbers → p ≤ length numbers → key_beside numbers keys conn ≡ None
    → key_beside (insert numbers p conn) (insert keys p key) i ≡ (if conn == i then Some key else key_beside numbers keys i)
added_beside numbers keys conn key zero i paired within new = refl
added_beside [] keys conn key (suc p) i paired within new = absurd (omega (arith, within))
added_beside (n ∷ numbers) [] conn key (suc p) i paired within new = absurd (omega (arith, paired))
added_beside (n ∷ numbers) (k ∷ keys) conn key (suc p) i paired within new =
    let apart : n ≢ conn = not_first n k conn (key_beside numbers keys conn) new in
    ap (λ (rest : Option ℕ). if n == i then Some k else rest)
    (added_beside numbers keys conn key p i (omega (arith, paired)) (omega (arith, within)) (sym (beside_rest n k conn (key_beside numbers keys conn) apart) ∙ new))
    ∙ swapped n conn i k key (key_beside numbers keys i) apart

-- what rises does not fall
pub never_falls : (numbers : List ℕ) → IsRising numbers → (i j : ℕ) → i ≤ j → j < length numbers → get_or numbers i 0 ≤ get_or numbers j 0
never_falls numbers rises i j before within = by (i == j) refl where
  by : (same : Bool) → (i == j) ≡ same → get_or numbers i 0 ≤ get_or numbers j 0
  by true e = let at : get_or numbers i 0 ≡ get_or numbers j 0 = ap (λ k. get_or numbers k 0) (eqb-true i j e) in omega (arith, at)
  by false e = let apart : i ≢ j = eqb-false i j e in let higher = rises i j (omega (arith, before, apart)) within in omega (arith, higher)

-- A number between those that are lower and those that are higher goes on rising.
pub added_rises : (numbers : List ℕ) (conn p : ℕ) → IsRising numbers → p ≤ length numbers → ((k : ℕ) → k < p → get_or numbers k 0 < conn) → ((k : ℕ) → p ≤ k → k < length numbers → conn < get_or numbers k 0) → IsRising (insert numbers p conn)
added_rises numbers conn p rises within low high i j before bound = by (nat_lt i p) (nat_lt j p) (i == p) (j == p) refl refl refl refl where
  all : List ℕ
  all = insert numbers p conn

  longer : length all ≡ length numbers + 1
  longer = length-insert numbers p conn within

  below : (k : ℕ) → k < p → get_or all k 0 ≡ get_or numbers k 0
  below k under = get_or-insert_below numbers p conn 0 k under within

  here : (k : ℕ) → k ≡ p → get_or all k 0 ≡ conn
  here k is = ap (λ q. get_or all q 0) is ∙ get_or-insert_at numbers p conn 0 within

  above : (k : ℕ) → p < k → get_or all k 0 ≡ get_or numbers (k - 1) 0
  above k over = let next : k ≡ k - 1 + 1 = omega (arith, over) in ap (λ q. get_or all q 0) next ∙ get_or-insert_above numbers p conn 0 (k - 1) (omega (arith, over)) within

  by : (a b s t : Bool) → nat_lt i p ≡ a → nat_lt j p ≡ b → (i == p) ≡ s → (j == p) ≡ t → get_or all i 0 < get_or all j 0
  by true true s t x y v w =
      let i_low : i < p = grind (arith, x) in let j_low : j < p = grind (arith, y) in
      let up = rises i j before (omega (arith, j_low, within)) in omega (arith, below i i_low, below j j_low, up)
  by true false s true x y v w =
      let i_low : i < p = grind (arith, x) in let up = low i i_low in omega (arith, below i i_low, here j (eqb-true j p w), up)
  by true false s false x y v w =
      let i_low : i < p = grind (arith, x) in let apart : j ≢ p = eqb-false j p w in let not_low : p ≤ j = grind (arith, y) in let over : p < j = omega (arith, apart, not_low) in
      let up = rises i (j - 1) (omega (arith, i_low, over)) (omega (arith, bound, longer, over)) in omega (arith, below i i_low, above j over, up)
  by false true s t x y v w =
      let j_low : j < p = grind (arith, y) in let not_low : p ≤ i = grind (arith, x) in absurd (omega (arith, j_low, not_low, before))
  by false false true true x y v w = let one : i ≡ p = eqb-true i p v in let other : j ≡ p = eqb-true j p w in absurd (omega (arith, one, other, before))
  by false false true false x y v w =
      let one : i ≡ p = eqb-true i p v in let over : p < j = omega (arith, one, before) in
      let up = high (j - 1) (omega (arith, over)) (omega (arith, bound, longer, over)) in omega (arith, here i one, above j over, up)
  by false false false true x y v w =
      let other : j ≡ p = eqb-true j p w in let not_low : p ≤ i = grind (arith, x) in absurd (omega (arith, other, not_low, before))
  by false false false false x y v w =
      let not_low : p ≤ i = grind (arith, x) in let apart : i ≢ p = eqb-false i p v in let over : p < i = omega (arith, not_low, apart) in
      let up = rises (i - 1) (j - 1) (omega (arith, over, before)) (omega (arith, bound, longer, over, before)) in omega (arith, above i over, above j (omega (arith, over, before)), up)

-- one number less, with its key
higher_absent : (n : ℕ) (numbers : List ℕ) → IsRising (n ∷ numbers) → IsAbsent numbers n
higher_absent n numbers rises k within same =
    let higher : n < get_or numbers k 0 = rises zero (suc k) (omega arith) (omega (arith, within)) in omega (arith, higher, same)

pub removed_beside : (numbers keys : List ℕ) (conn p i : ℕ) → IsRising numbers → length keys ≡ length numbers → p < length numbers → get_or numbers p 0 ≡ conn
    → key_beside (remove numbers p) (remove keys p) i ≡ (if conn == i then None else key_beside numbers keys i)
removed_beside [] keys conn p i rises paired within is = absurd (omega (arith, within))
removed_beside (n ∷ numbers) [] conn p i rises paired within is = absurd (omega (arith, paired))
removed_beside (n ∷ numbers) (k ∷ keys) conn zero i rises paired within is =
    by (n == i) refl ∙ ap (λ (m : ℕ). if m == i then None else (if n == i then Some k else key_beside numbers keys i)) is
  where
    by : (same : Bool) → (n == i) ≡ same → key_beside numbers keys i ≡ (if n == i then None else (if n == i then Some k else key_beside numbers keys i))
    by true e =
        ap (key_beside numbers keys) (sym (eqb-true n i e)) ∙ absent_beside numbers keys n (higher_absent n numbers rises)
        ∙ sym (ap (λ (b : Bool). if b then None else (if b then Some k else key_beside numbers keys i)) e)
    by false e = sym (ap (λ (b : Bool). if b then None else (if b then Some k else key_beside numbers keys i)) e)
removed_beside (n ∷ numbers) (k ∷ keys) conn (suc p) i rises paired within is =
    ap (λ (rest : Option ℕ). if n == i then Some k else rest)
    (removed_beside numbers keys conn p i (rest_rises n numbers rises) (omega (arith, paired)) (omega (arith, within)) is)
    ∙ by (n == i) (conn == i) refl refl
  where
    apart : n ≢ conn
    apart same = let higher : n < get_or numbers p 0 = rises zero (suc p) (omega arith) within in omega (arith, higher, is, same)

    by : (s t : Bool) → (n == i) ≡ s → (conn == i) ≡ t → (if s then Some k else (if t then None else key_beside numbers keys i)) ≡ (if t then None else (if s then Some k else key_beside numbers keys i))
    by true true d e = absurd (apart (eqb-true n i d ∙ sym (eqb-true conn i e)))
    by true false d e = refl
    by false true d e = refl
    by false false d e = refl

pub removed_rises : (numbers : List ℕ) (p : ℕ) → IsRising numbers → p < length numbers → IsRising (remove numbers p)
removed_rises numbers p rises within i j before bound = by (nat_lt i p) (nat_lt j p) refl refl where
  shorter : length (remove numbers p) + 1 ≡ length numbers
  shorter = length-remove numbers p within

  below : (k : ℕ) → k < p → get_or (remove numbers p) k 0 ≡ get_or numbers k 0
  below k under = get_or-remove_below numbers p 0 k under within

  above : (k : ℕ) → p ≤ k → get_or (remove numbers p) k 0 ≡ get_or numbers (k + 1) 0
  above k over = get_or-remove_above numbers p 0 k over within

  by : (a b : Bool) → nat_lt i p ≡ a → nat_lt j p ≡ b → get_or (remove numbers p) i 0 < get_or (remove numbers p) j 0
  by true true x y =
      let i_low : i < p = grind (arith, x) in let j_low : j < p = grind (arith, y) in
      let up = rises i j before (omega (arith, bound, shorter)) in omega (arith, below i i_low, below j j_low, up)
  by true false x y =
      let i_low : i < p = grind (arith, x) in let not_low : p ≤ j = grind (arith, y) in
      let up = rises i (j + 1) (omega (arith, before)) (omega (arith, bound, shorter)) in omega (arith, below i i_low, above j not_low, up)
  by false true x y =
      let not_low : p ≤ i = grind (arith, x) in let j_low : j < p = grind (arith, y) in absurd (omega (arith, not_low, j_low, before))
  by false false x y =
      let i_high : p ≤ i = grind (arith, x) in let j_high : p ≤ j = grind (arith, y) in
      let up = rises (i + 1) (j + 1) (omega (arith, before)) (omega (arith, bound, shorter)) in omega (arith, above i i_high, above j j_high, up)
