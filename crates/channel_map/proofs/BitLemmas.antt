-- Lemmas on the bits of the pairs that are free.
use Rattle.std.proofs.Common.{◌≡◌, ◌≢◌, ◌∙◌, ℕ, suc, zero, ◌+◌, ◌-◌, ◌*◌, ◌%◌, ◌^◌, ◌<◌, ◌≤◌, ◌==◌, ◌||◌, Bool, true, false, List, [], ◌∷◌, length, map, Option, Some, None, is_some, if◌then◌else◌, refl, sym, ap, arith, bit_and, bit_or, count_by, count_ones, set, get_or-set_same, get_or-set_other}
use Rattle.std.specs.Int.{w128, bit_at, bit_not, trailing_zeros}
use Rattle.std.proofs.lemmas.Bool.{eqb-true, eqb-false}
use Rattle.std.proofs.lemmas.List.{get_or-map, length-map}
use Rattle.std.proofs.lemmas.List.Sums.{sum_by-cons}
use Rattle.std.specs.Simd.Lanes.{mask_l}
use Rattle.std.proofs.lemmas.Nat.Bits.{bit_at-zero, bit_at_ones, bit_at-trailing_zeros, bit_at_set_same, bit_at_set_other, bit_at_clear_same, bit_at_clear_other, same_from_bits_below}
use Rattle.std.proofs.lemmas.Simd.{bit_mask_l, mask_l-lt, ones-mask_l}
use Rattle.channel_map.specs.declared.map.Held.{Held}
use Rattle.channel_map.specs.declared.map.Freed.TheVariants.{Pair}
use Rattle.channel_map.specs.declared.map.TheConstants.{PAIRS}
use Rattle.channel_map.specs.Pairs.{held_at, is_free, kept, first_free, lowest_free, held_count, IsTable}
use Rattle.channel_map.specs.Bits.{HasBitWhere}
use Rattle.channel_map.proofs.PairLemmas.{kept-Pair_same, kept-Pair_other}

-- a bit tells its test
told : (b : Bool) (n : ℕ) → n ≡ (if b then 1 else 0) → n ≡ 1 → b ≡ true
told true n is one = refl
told false n is one = absurd (omega arith)

untold : (b : Bool) (n : ℕ) → n ≡ (if b then 1 else 0) → n ≡ 0 → b ≡ false
untold true n is none = absurd (omega arith)
untold false n is none = refl

-- the first number where a test holds, told by what it is
is_by : (same : Bool) (n at : ℕ) (free : ℕ → Bool) (p : ℕ) → (p == at) ≡ same → free p ≡ true → (p ≢ at → (free at ≡ false) × (first_free n (at + 1) free ≡ Some p))
    → (if free at then Some at else first_free n (at + 1) free) ≡ Some p
is_by true n at free p e here later = let equal : p ≡ at = eqb-true p at e in rw (← equal, here) refl
is_by false n at free p e here later = let rest = later (eqb-false p at e) in rw (rest.0) rest.1

pub first_free_is : (n at : ℕ) (free : ℕ → Bool) (p : ℕ) → at ≤ p → p < at + n → free p ≡ true → ((k : ℕ) → at ≤ k → k < p → free k ≡ false) → first_free n at free ≡ Some p
first_free_is zero at free p low high here before = absurd (omega arith)
first_free_is (suc n) at free p low high here before =
    is_by (p == at) n at free p refl here
    (λ apart. (before at (omega arith) (omega arith), first_free_is n (at + 1) free p (omega arith) (omega arith) here (λ k above below. before k (omega arith) below)))

pub first_free_absent : (n at : ℕ) (free : ℕ → Bool) → ((k : ℕ) → at ≤ k → k < at + n → free k ≡ false) → first_free n at free ≡ None
first_free_absent zero at free none = refl
first_free_absent (suc n) at free none =
    rw (none at (omega arith) (omega arith)) (first_free_absent n (at + 1) free (λ k above below. none k (omega arith) (omega arith)))

-- no bit is set where the test holds of no pair, and the lowest one that is set is the first pair of which it holds
pub bits-none : (bits : ℕ) (holds : ℕ → Bool) → bits ≡ 0 → HasBitWhere bits holds → lowest_free holds ≡ None
unfolding lowest_free
bits-none bits holds none is = first_free_absent PAIRS 0 holds (λ k above below. untold (holds k) _ (is.each k (omega arith)) (rw none (bit_at-zero k)))

pub bits-lowest : (bits : ℕ) (holds : ℕ → Bool) → 0 < bits → bits < 2 ^ 128 → HasBitWhere bits holds → lowest_free holds ≡ Some (trailing_zeros w128 bits)
unfolding lowest_free
bits-lowest bits holds some fits is =
    let facts = bit_at-trailing_zeros w128 bits some fits in
    let low : trailing_zeros w128 bits < 128 = facts.0 in
    first_free_is PAIRS 0 holds (trailing_zeros w128 bits) (omega arith) (omega arith)
    (told (holds (trailing_zeros w128 bits)) _ (is.each (trailing_zeros w128 bits) low) facts.1)
    (λ k above below. untold (holds k) _ (is.each k (omega arith)) (facts.2 k below))

-- all bits are set where the test holds of all pairs
pub bits-all : (holds : ℕ → Bool) → ((p : ℕ) → holds p ≡ true) → HasBitWhere (2 ^ 128 - 1) holds
bits-all holds all = record { each = λ p low. rw (all p) (bit_at_ones 128 p low) }

-- one bit more is set, or one less
pub bits-set : (bits pair : ℕ) (before after : ℕ → Bool) → pair < PAIRS → HasBitWhere bits before → after pair ≡ true → ((p : ℕ) → p ≢ pair → after p ≡ before p)
    → HasBitWhere (bit_or bits (1 * 2 ^ pair % 2 ^ 128)) after
bits-set bits pair before after low is here others = record { each = λ p within. set_by (p == pair) p within refl } where
  set_by : (same : Bool) (p : ℕ) → p < PAIRS → (p == pair) ≡ same → bit_at (bit_or bits (1 * 2 ^ pair % 2 ^ 128)) p ≡ (if after p then 1 else 0)
  set_by true p within e = let equal : p ≡ pair = eqb-true p pair e in rw (equal, here) (bit_at_set_same w128 bits pair low)
  set_by false p within e =
      let apart : p ≢ pair = eqb-false p pair e in rw (others p apart) (bit_at_set_other w128 bits pair low p apart ∙ is.each p within)

pub bits-clear : (bits pair : ℕ) (before after : ℕ → Bool) → pair < PAIRS → HasBitWhere bits before → after pair ≡ false → ((p : ℕ) → p ≢ pair → after p ≡ before p)
    → HasBitWhere (bit_and bits (bit_not w128 (1 * 2 ^ pair % 2 ^ 128))) after
bits-clear bits pair before after low is here others = record { each = λ p within. clear_by (p == pair) p within refl } where
  clear_by : (same : Bool) (p : ℕ) → p < PAIRS → (p == pair) ≡ same → bit_at (bit_and bits (bit_not w128 (1 * 2 ^ pair % 2 ^ 128))) p ≡ (if after p then 1 else 0)
  clear_by true p within e = let equal : p ≡ pair = eqb-true p pair e in rw (equal, here) (bit_at_clear_same w128 bits pair low)
  clear_by false p within e =
      let apart : p ≢ pair = eqb-false p pair e in rw (others p apart) (bit_at_clear_other w128 bits pair low p within apart ∙ is.each p within)

-- tests that agree have the same bits
pub bits-same : (bits : ℕ) (before after : ℕ → Bool) → HasBitWhere bits before → ((p : ℕ) → after p ≡ before p) → HasBitWhere bits after
bits-same bits before after is same = record { each = λ p low. rw (same p) (is.each p low) }

-- as many bits are set as pairs are free
free_and_held : (table : List (Option Held)) → count_by is_free table + held_count table ≡ length table
free_and_held [] = refl
free_and_held (None ∷ table) = omega (arith, free_and_held table, sum_by-cons (λ place. if is_free place then 1 else 0) None table, sum_by-cons (λ place. if is_some place then 1 else 0) None table)
free_and_held (Some held ∷ table) = omega (arith, free_and_held table, sum_by-cons (λ place. if is_free place then 1 else 0) (Some held) table, sum_by-cons (λ place. if is_some place then 1 else 0) (Some held) table)

pub bits-count : (bits : ℕ) (table : List (Option Held)) → length table ≡ PAIRS → bits < 2 ^ 128 → HasBitWhere bits (λ p. is_free (held_at p table)) → 128 - count_ones bits ≡ held_count table
bits-count bits table size fits is =
    let long : length (map is_free table) ≡ 128 = length-map table is_free ∙ size in
    let below : mask_l (map is_free table) < 2 ^ 128 = rw long at (mask_l-lt (map is_free table)) in
    let mask : bits ≡ mask_l (map is_free table) =
    same_from_bits_below 128 bits (mask_l (map is_free table)) fits below
    (λ p low. is.each p low ∙ sym (bit_mask_l (map is_free table) p ∙ ap (λ b. if b then 1 else 0) (get_or-map is_free table p None false (omega arith)))) in
    omega (arith, free_and_held table, ap count_ones mask ∙ ones-mask_l is_free table)

-- the bits after a pair is held, and after it is released
pub bits-hold : (bits : ℕ) (table : List (Option Held)) (pair : ℕ) (held : Held) → IsTable table → pair < PAIRS → HasBitWhere bits (λ p. is_free (held_at p table))
    → HasBitWhere (bit_and bits (bit_not w128 (1 * 2 ^ pair % 2 ^ 128))) (λ p. is_free (held_at p (set table pair (Some held))))
bits-hold bits table pair held is low has =
    let within : pair < length table = rw is.size low in
    bits-clear bits pair _ _ low has (ap is_free (get_or-set_same table pair (Some held) None within)) (λ p apart. ap is_free (get_or-set_other table pair p (Some held) None apart))

pub bits-release : (bits : ℕ) (table : List (Option Held)) (pair : ℕ) → IsTable table → pair < PAIRS → HasBitWhere bits (λ p. is_free (held_at p table))
    → HasBitWhere (bit_or bits (1 * 2 ^ pair % 2 ^ 128)) (λ p. is_free (held_at p (set table pair None)))
bits-release bits table pair is low has =
    let within : pair < length table = rw is.size low in
    bits-set bits pair _ _ low has (ap is_free (get_or-set_same table pair None None within)) (λ p apart. ap is_free (get_or-set_other table pair p None None apart))

-- the bits once a pair is freed
pub bits-freed : (bits : ℕ) (table : List (Option Held)) (pair : ℕ) → IsTable table → pair < PAIRS → HasBitWhere bits (λ p. is_free (held_at p table))
    → HasBitWhere (bit_or bits (1 * 2 ^ pair % 2 ^ 128)) (λ p. is_free (kept (Pair pair) (held_at p table)))
bits-freed bits table pair is low has =
    bits-set bits pair _ _ low has (ap is_free (kept-Pair_same table pair is)) (λ p apart. ap is_free (kept-Pair_other table pair p is apart))

-- a pair is put into a set
pub bit-put : (bits pair p : ℕ) → pair < PAIRS → p < PAIRS → (bit_at (bit_or bits (1 * 2 ^ pair % 2 ^ 128)) p == 1) ≡ (p == pair || (bit_at bits p == 1))
bit-put bits pair p low within = by (p == pair) refl
  where
    by : (same : Bool) → (p == pair) ≡ same → (bit_at (bit_or bits (1 * 2 ^ pair % 2 ^ 128)) p == 1) ≡ (same || (bit_at bits p == 1))
    by true e = let equal : p ≡ pair = eqb-true p pair e in ap (λ n. n == 1) (ap (bit_at (bit_or bits (1 * 2 ^ pair % 2 ^ 128))) equal ∙ bit_at_set_same w128 bits pair low)
    by false e = ap (λ n. n == 1) (bit_at_set_other w128 bits pair low p (eqb-false p pair e))
