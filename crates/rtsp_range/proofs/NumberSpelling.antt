-- Numbers and fractions that were read are spelled so.
use Rattle.std.proofs.Common.{◌≡◌, ℕ, ◌≤◌, Bool, true, false, ◌==◌, ◌&&◌, not, nat_le, cond, List, [], ◌∷◌, ◌++◌, length, take, drop, Option, None, Some, refl, sym, ◌∙◌, ap, arith}
use Rattle.std.specs.Prelude.{option_map, option_and_then}
use Rattle.std.specs.List.{list_all}
use Rattle.std.specs.Char.{is_ascii_digit}
use Rattle.std.specs.Str.Parse.{digits_value}
use Rattle.std.proofs.lemmas.Bool.{and_parts}
use Rattle.std.proofs.lemmas.List.{length-take, take-append-drop}
use Rattle.std.proofs.lemmas.Option.{option_and_then_some, cond_some, same_Some}
use Rattle.gate_bytes.specs.Numbers.{number_in}
use Rattle.rtsp_range.specs.Parts.{within, whole_number, short_number, front_number, counted_digits, nanos_of, fraction_of}
use Rattle.rtsp_range.specs.Spellings.{WritesNumber, WritesWhole, WritesShort, WritesFixed, WritesNanos, WritesFraction}

some_long : (n : ℕ) → not (n == 0) ≡ true → 1 ≤ n
some_long n h = grind (arith, h)

le_of : (m n : ℕ) → nat_le m n ≡ true → m ≤ n
le_of m n h = grind (arith, h)

pub whole_spelled : (text : List ℕ) (number : ℕ) → whole_number text ≡ Some number → WritesWhole text number
whole_spelled text number h =
    let read = cond_some (not (length text == 0) && list_all is_ascii_digit text) (digits_value 10 text) number h in
    let parts = and_parts (not (length text == 0)) (list_all is_ascii_digit text) read.0 in
    record { digits = parts.1; some = some_long (length text) parts.0; value = read.1 }

-- a number of a bounded number of digits, within bounds
bounded_spelled : (longest least most : ℕ) (text : List ℕ) (number : ℕ) → option_and_then (within least most) (number_in longest text) ≡ Some number → WritesNumber 1 longest least most text number
bounded_spelled longest least most text number h =
    option_and_then_some (within least most) (number_in longest text) number h (λ x there fits.
    let bounds = cond_some (nat_le least x && nat_le x most) x number fits in
    let low = and_parts (nat_le least x) (nat_le x most) bounds.0 in
    let read = cond_some ((not (length text == 0) && nat_le (length text) longest) && list_all is_ascii_digit text) (digits_value 10 text) x there in
    let parts = and_parts (not (length text == 0) && nat_le (length text) longest) (list_all is_ascii_digit text) read.0 in
    let long = and_parts (not (length text == 0)) (nat_le (length text) longest) parts.0 in
    record {
      digits = parts.1;
      long = some_long (length text) long.0;
      short = le_of (length text) longest long.1;
      value = read.1 ∙ bounds.1;
      low = omega (arith, le_of least x low.0, bounds.1);
      high = omega (arith, le_of x most low.1, bounds.1);
    })

pub short_spelled : (most : ℕ) (text : List ℕ) (number : ℕ) → short_number most text ≡ Some number → WritesShort most text number
short_spelled most text number h = bounded_spelled 2 0 most text number h

-- The digits at the front, and what they write.
pub record FrontSpelled (width least most : ℕ) (text : List ℕ) (found : ℕ × List ℕ) : Type 0 where
  pub front : List ℕ
  pub spelled : text ≡ front ++ found.1
  pub writes : WritesFixed width least most front found.0

front_with : (width least most : ℕ) (text : List ℕ) (fits : Bool) (number : Option ℕ) (found : ℕ × List ℕ) → nat_le width (length text) ≡ fits →
    option_and_then (within least most) (number_in width (take width text)) ≡ number →
    ◌≡◌ {A = Option (ℕ × List ℕ)} (cond fits (option_map (λ n. (n, drop width text)) number) None) (Some found) → FrontSpelled width least most text found
front_with width least most text false number found e r h = cc
front_with width least most text true None found e r h = cc
front_with width least most text true (Some n) found e r h =
    let same : ◌≡◌ {A = ℕ × List ℕ} (n, drop width text) found = same_Some _ _ h in
    let writes = bounded_spelled width least most (take width text) n r in
    let long : length (take width text) ≡ width = omega (arith, length-take width text, le_of width (length text) e) in
    record {
      front = take width text;
      spelled = sym (take-append-drop width text) ∙ ap (λ (p : ℕ × List ℕ). take width text ++ p.1) same;
      writes = record {
        digits = writes.digits;
        long = omega (arith, long);
        short = writes.short;
        value = writes.value ∙ ap (λ (p : ℕ × List ℕ). p.0) same;
        low = omega (arith, writes.low, ap (λ (p : ℕ × List ℕ). p.0) same);
        high = omega (arith, writes.high, ap (λ (p : ℕ × List ℕ). p.0) same);
      };
    }

pub front_spelled : (width least most : ℕ) (text : List ℕ) (found : ℕ × List ℕ) → front_number width least most text ≡ Some found → FrontSpelled width least most text found
front_spelled width least most text found h =
    front_with width least most text (nat_le width (length text)) (option_and_then (within least most) (number_in width (take width text))) found refl refl h

fraction_with : (b : ℕ) (digits : List ℕ) (point : Bool) (nanos : ℕ) → (b == 46) ≡ point → cond point (nanos_of digits) None ≡ Some nanos → (b ≡ 46) × WritesNanos digits nanos
fraction_with b digits true nanos e h =
    let read = cond_some (list_all is_ascii_digit digits) (digits_value 10 (counted_digits digits)) nanos h in
    (grind (arith, e), record { digits = read.0; value = read.1 })
fraction_with b digits false nanos e h = cc

pub fraction_spelled : (text : List ℕ) (nanos : ℕ) → fraction_of text ≡ Some nanos → WritesFraction text nanos
fraction_spelled [] nanos h = sym (same_Some _ _ h)
fraction_spelled (b ∷ digits) nanos h = fraction_with b digits (b == 46) nanos refl h
