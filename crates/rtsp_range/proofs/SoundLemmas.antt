-- What is read can be written: its fields are in range.
use Rattle.std.proofs.Common.{◌≡◌, ℕ, ◌^◌, ◌<◌, ◌≤◌, Bool, true, false, ◌==◌, ◌&&◌, nat_le, cond, List, [], ◌∷◌, length, take, drop, Option, None, Some, Ok, refl, sym, ◌∙◌, ap, arith}
use Rattle.std.specs.Prelude.{option_map, option_and_then}
use Rattle.std.specs.Option.{ok_or}
use Rattle.std.specs.List.{list_all}
use Rattle.std.specs.Char.{is_ascii_digit}
use Rattle.std.specs.Str.Parse.{digits_value}
use Rattle.std.proofs.lemmas.Bool.{and_parts}
use Rattle.std.proofs.lemmas.Option.{cond_some, same_Some}
use Rattle.gate_bytes.specs.Numbers.{number_in}
use Rattle.rtsp_range.specs.Parts.{within, short_number, front_number, counted_digits, nanos_of, fraction_of}
use Rattle.rtsp_range.proofs.DigitLemmas.{own, nine_all, nine_long}
use Rattle.std.proofs.lemmas.Str.Parse.{digits_value_short}

-- a number that was taken lies in its bounds
pub within_bounds : (least most : ℕ) (number : Option ℕ) (n : ℕ) → option_and_then (within least most) number ≡ Some n → (nat_le least n && nat_le n most) ≡ true
within_bounds least most None n h = cc
within_bounds least most (Some x) n h =
    let parts = cond_some (nat_le least x && nat_le x most) x n h in
    ap (λ y. nat_le least y && nat_le y most) (sym parts.1) ∙ parts.0

pub short_bound : (most : ℕ) (text : List ℕ) (n : ℕ) → short_number most text ≡ Some n → nat_le n most ≡ true
short_bound most text n h = (and_parts (nat_le 0 n) (nat_le n most) (within_bounds 0 most (number_in 2 text) n h)).1

front_with : (least most : ℕ) (rest : List ℕ) (fits : Bool) (number : Option ℕ) (p : ℕ × List ℕ) →
    ((n : ℕ) → number ≡ Some n → (nat_le least n && nat_le n most) ≡ true) →
    ◌≡◌ {A = Option (ℕ × List ℕ)} (cond fits (option_map (λ n. (n, rest)) number) None) (Some p) → (nat_le least p.0 && nat_le p.0 most) ≡ true
front_with least most rest false number p bound h = cc
front_with least most rest true None p bound h = cc
front_with least most rest true (Some n) p bound h =
    let same : ◌≡◌ {A = ℕ × List ℕ} (n, rest) p = same_Some _ _ h in
    ap (λ (q : ℕ × List ℕ). nat_le least q.0 && nat_le q.0 most) (sym same) ∙ bound n refl

pub front_bound : (width least most : ℕ) (text : List ℕ) (p : ℕ × List ℕ) → front_number width least most text ≡ Some p → (nat_le least p.0 && nat_le p.0 most) ≡ true
front_bound width least most text p h =
    front_with least most (drop width text) (nat_le width (length text)) (option_and_then (within least most) (number_in width (take width text))) p
    (within_bounds least most (number_in width (take width text))) h

-- a fraction is below one
nanos_with : (digits : List ℕ) (all : Bool) (n : ℕ) → list_all is_ascii_digit digits ≡ all → cond all (Some (digits_value 10 (counted_digits digits))) None ≡ Some n → nat_le n 999999999 ≡ true
nanos_with digits false n t h = cc
nanos_with digits true n t h =
    let small : digits_value 10 (counted_digits digits) < 10 ^ 9 = digits_value_short own (counted_digits digits) 9 (nine_all digits t) (omega (arith, nine_long digits)) in
    let same : digits_value 10 (counted_digits digits) ≡ n = same_Some _ _ h in
    let below : n ≤ 999999999 = omega (arith, same, small) in
    grind (arith, below)

fraction_with : (digits : List ℕ) (point : Bool) (n : ℕ) → cond point (nanos_of digits) None ≡ Some n → nat_le n 999999999 ≡ true
fraction_with digits true n h = nanos_with digits (list_all is_ascii_digit digits) n refl h
fraction_with digits false n h = cc

pub fraction_bound : (text : List ℕ) (n : ℕ) → fraction_of text ≡ Some n → nat_le n 999999999 ≡ true
fraction_bound [] n h = let same : 0 ≡ n = same_Some _ _ h in ap (λ m. nat_le m 999999999) (sym same)
fraction_bound (b ∷ digits) n h = fraction_with digits (b == 46) n h

-- what was found behind another fault is there
pub found_ok : {A E : Type 0} (o : Option A) (e : E) (x : A) → ok_or o e ≡ Ok x → o ≡ Some x
found_ok None e x h = cc
found_ok (Some y) e x h = cc
