-- Lemmas on the pairs that are freed one after another.
use Rattle.std.proofs.Common.{◌≡◌, ◌≢◌, ◌∙◌, ℕ, ◌-◌, ◌*◌, ◌%◌, ◌^◌, ◌<◌, ◌≤◌, ◌==◌, ◌&&◌, Bool, true, false, List, length, Option, Some, None, inl, inr, suc, zero, if◌then◌else◌, refl, sym, ap, arith, bit_and, min, ◌⊎◌}
use Rattle.std.specs.Int.{w128, bit_at, bit_not}
use Rattle.std.proofs.lemmas.Bool.{eqb-true, eqb-false, cases_lt, cases_eq}
use Rattle.std.proofs.lemmas.Nat.{and_le_l}
use Rattle.std.proofs.lemmas.Nat.Bits.{bit_at-lt, bit_at_and, bit_at_not, bit_at_above, bit_at_clear_same, bit_at_clear_other}
use Rattle.channel_map.specs.declared.map.Held.{Held}
use Rattle.channel_map.specs.declared.map.Freed.{Freed}
use Rattle.channel_map.specs.declared.map.Freed.TheVariants.{Granted}
use Rattle.channel_map.specs.declared.pair_set.PairSet.{PairSet}
use Rattle.channel_map.specs.PairSets.{is_in_set}
use Rattle.channel_map.specs.Pairs.{held_at, is_free, kept, lowest_free, IsTable}
use Rattle.channel_map.specs.Bits.{HasBitWhere}
use Rattle.channel_map.proofs.PairLemmas.{held_at-past, lowest_free_below, lowest_free_is_free, first_free_none}

-- the pairs whose bit is set are as they were, and of the others that is freed which is to be
pub record IsFreeing (freed : Freed) (left : ℕ) (before now : List (Option Held)) : Type 0 where
  pub done : (p : ℕ) → bit_at left p ≡ 0 → held_at p now ≡ kept freed (held_at p before)
  pub other : (p : ℕ) → bit_at left p ≡ 1 → held_at p now ≡ held_at p before

-- a number's bits tell themselves
itself : (n : ℕ) → n < 2 → n ≡ (if n == 1 then 1 else 0)
itself zero few = refl
itself (suc zero) few = refl
itself (suc (suc n)) few = absurd (omega arith)

pub bits-itself : (bits : ℕ) → HasBitWhere bits (λ p. bit_at bits p == 1)
bits-itself bits = record { each = λ p low. itself (bit_at bits p) (bit_at-lt bits p) }

-- a pair that is not in a set is not freed with it
not_in : (bits p : ℕ) → bit_at bits p ≡ 0 → (bit_at bits p == 1) ≡ false
not_in bits p none = rw none refl

never : (t granted : Bool) → t ≡ false → (granted && t) ≡ false
never t true out = out
never t false out = refl

stays : (pairs : PairSet) (p : ℕ) (place : Option Held) → bit_at pairs.bits p ≡ 0 → ((held : Held) → place ≡ Some held → held.pair ≡ p) → place ≡ kept (Granted pairs) place
stays pairs p None none own = refl
stays pairs p (Some held) none own =
    let out : is_in_set pairs held.pair ≡ false = rw (own held refl) (not_in pairs.bits p none) in
    sym (ap (λ t. if t then None else Some held) (never (is_in_set pairs held.pair) held.granted out))

-- nor is one that nobody holds
none_by : (freed : Freed) (place : Option Held) → is_free place ≡ true → place ≡ kept freed place
none_by freed None free = refl
none_by freed (Some held) free = cc

was_free : (b : Bool) (n : ℕ) → n ≡ (if b then 1 else 0) → 1 - n ≡ 0 → b ≡ true
was_free true n is none = refl
was_free false n is none = absurd (omega arith)

free_stays : (freed : Freed) (free : ℕ) (table : List (Option Held)) (p : ℕ) → IsTable table → free < 2 ^ 128 → HasBitWhere free (λ q. is_free (held_at q table)) → bit_at (bit_not w128 free) p ≡ 0
    → held_at p table ≡ kept freed (held_at p table)
free_stays freed free table p is fits has none = elim (cases_lt p 128) [
  | inl low ↦ none_by freed (held_at p table) (was_free (is_free (held_at p table)) (bit_at free p) (has.each p low) (sym (bit_at_not w128 free p fits low) ∙ none))
  | inr high ↦ let past : length table ≤ p = rw is.size high in none_by freed (held_at p table) (rw (held_at-past table p past) refl)
]

lesser_none : (a b : ℕ) → min a b ≡ 0 → (a ≡ 0) ⊎ (b ≡ 0)
lesser_none zero b none = inl refl
lesser_none (suc a) zero none = inr refl
lesser_none (suc a) (suc b) none = absurd (omega arith)

-- the pairs of the set that are held are yet to be looked at
pub freeing-init : (pairs : PairSet) (free : ℕ) (table : List (Option Held)) → IsTable table → free < 2 ^ 128 → HasBitWhere free (λ p. is_free (held_at p table))
    → IsFreeing (Granted pairs) (bit_and pairs.bits (bit_not w128 free)) table table
freeing-init pairs free table is fits has = record {
  done = λ p none. elim (lesser_none (bit_at pairs.bits p) (bit_at (bit_not w128 free) p) (sym (bit_at_and pairs.bits (bit_not w128 free) p) ∙ none)) [
    | inl out ↦ stays pairs p (held_at p table) out (is.own p)
    | inr nobody ↦ free_stays (Granted pairs) free table p is fits has nobody
  ];
  other = λ p one. refl;
}

-- the lowest bit that is set goes, and its pair is freed where it is to be
pub freeing-step : (freed : Freed) (left pair : ℕ) (before now next : List (Option Held)) → left < 2 ^ 128 → pair < 128 → bit_at left pair ≡ 1
    → IsFreeing freed left before now → ((p : ℕ) → held_at p next ≡ (if p == pair then kept freed (held_at p now) else held_at p now))
    → IsFreeing freed (bit_and left (bit_not w128 (1 * 2 ^ pair % 2 ^ 128))) before next
freeing-step freed left pair before now next fits low one is next_is = record { done = λ p none. done_by (p == pair) p refl none; other = λ p set. other_by (p == pair) p refl set } where
  after : ℕ
  after = bit_and left (bit_not w128 (1 * 2 ^ pair % 2 ^ 128))

  same_bit : (p : ℕ) → p ≢ pair → bit_at after p ≡ bit_at left p
  same_bit p apart = elim (cases_lt p 128) [
    | inl within ↦ bit_at_clear_other w128 left pair low p within apart
    | inr high ↦ bit_at_above after 128 p (omega (arith, and_le_l left (bit_not w128 (1 * 2 ^ pair % 2 ^ 128)))) high ∙ sym (bit_at_above left 128 p fits high)
  ]

  done_by : (same : Bool) (p : ℕ) → (p == pair) ≡ same → bit_at after p ≡ 0 → held_at p next ≡ kept freed (held_at p before)
  done_by true p e none =
      let here : p ≡ pair = eqb-true p pair e in
      next_is p ∙ rw e (ap (kept freed) (is.other p (rw here one)))
  done_by false p e none = next_is p ∙ rw e (is.done p (sym (same_bit p (eqb-false p pair e)) ∙ none))

  other_by : (same : Bool) (p : ℕ) → (p == pair) ≡ same → bit_at after p ≡ 1 → held_at p next ≡ held_at p before
  other_by true p e set =
      let here : p ≡ pair = eqb-true p pair e in
      let gone : bit_at after pair ≡ 0 = bit_at_clear_same w128 left pair low in
      let still : bit_at after pair ≡ 1 = rw here at set in absurd (omega arith)
  other_by false p e set = next_is p ∙ rw e (is.other p (sym (same_bit p (eqb-false p pair e)) ∙ set))

-- once no bit is left, all that is to be freed is
unset : (n : ℕ) → n < 2 → (n == 1) ≡ false → n ≡ 0
unset zero few not_one = refl
unset (suc zero) few not_one = cc
unset (suc (suc n)) few not_one = absurd (omega arith)

pub freeing-end : (freed : Freed) (left : ℕ) (before now : List (Option Held)) → left < 2 ^ 128 → lowest_free (λ p. bit_at left p == 1) ≡ None → IsFreeing freed left before now
    → (p : ℕ) → held_at p now ≡ kept freed (held_at p before)
unfolding lowest_free
freeing-end freed left before now fits none is p = elim (cases_lt p 128) [
  | inl low ↦ is.done p (unset (bit_at left p) (bit_at-lt left p) (first_free_none 128 0 (λ k. bit_at left k == 1) p none (omega arith) (omega arith)))
  | inr high ↦ is.done p (bit_at_above left 128 p fits high)
]

-- there are fewer bits each time
pub cleared-less : (left pair : ℕ) → pair < 128 → bit_at left pair ≡ 1 → bit_and left (bit_not w128 (1 * 2 ^ pair % 2 ^ 128)) < left
cleared-less left pair low one = elim (cases_eq (bit_and left (bit_not w128 (1 * 2 ^ pair % 2 ^ 128))) left) [
  | inl same ↦ let gone : bit_at left pair ≡ 0 = rw same at (bit_at_clear_same w128 left pair low) in absurd (omega arith)
  | inr apart ↦ omega (arith, and_le_l left (bit_not w128 (1 * 2 ^ pair % 2 ^ 128)))
]

-- the lowest pair of those whose bits are set has its bit set
pub lowest-set : (bits pair : ℕ) → lowest_free (λ p. bit_at bits p == 1) ≡ Some pair → (pair < 128) × (bit_at bits pair ≡ 1)
lowest-set bits pair is = (lowest_free_below _ pair is, eqb-true (bit_at bits pair) 1 (lowest_free_is_free _ pair is))
