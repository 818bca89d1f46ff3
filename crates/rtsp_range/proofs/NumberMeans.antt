-- Numbers and fractions that are spelled so are read.
use Rattle.std.proofs.Common.{◌≡◌, ℕ, ◌<◌, ◌≤◌, true, false, ◌==◌, ◌&&◌, not, nat_le, cond, List, [], ◌∷◌, ◌++◌, length, take, drop, Option, None, Some, refl, sym, ◌∙◌, ap, arith}
use Rattle.std.specs.Prelude.{option_map, option_and_then}
use Rattle.std.specs.List.{list_all}
use Rattle.std.specs.Char.{is_ascii_digit}
use Rattle.std.specs.Str.Parse.{digits_value}
use Rattle.std.proofs.lemmas.List.{length-append, append-nil}
use Rattle.std.proofs.Math.Seq.{take-append_seam, drop-append_seam}
use Rattle.gate_bytes.specs.Numbers.{number_in}
use Rattle.gate_bytes.proofs.SeamLemmas.{lacks, digits_lack}
use Rattle.rtsp_range.specs.Parts.{within, part_at, whole_number, short_number, front_number, counted_digits, nanos_of, fraction_of}
use Rattle.rtsp_range.specs.Smpte.{marked_number}
use Rattle.rtsp_range.specs.Spellings.{WritesWhole, WritesShort, WritesFixed, WritesFraction, WritesMarked}
use Rattle.rtsp_range.proofs.CutLemmas.{no_part, part_at_seam}

pub whole_means : (text : List ℕ) (number : ℕ) → WritesWhole text number → whole_number text ≡ Some number
whole_means text number w = grind (arith, w.digits, w.some, w.value)

number_with : (most : ℕ) (text : List ℕ) (number : ℕ) → 0 < length text → length text ≤ most → list_all is_ascii_digit text ≡ true → digits_value 10 text ≡ number → number_in most text ≡ Some number
number_with most text number some short digits value = grind (arith, some, short, digits, value)

in_bounds : (least most number : ℕ) → least ≤ number → number ≤ most → within least most number ≡ Some number
in_bounds least most number low high = grind (arith, low, high)

pub short_means : (most : ℕ) (text : List ℕ) (number : ℕ) → WritesShort most text number → short_number most text ≡ Some number
short_means most text number w =
    ap (option_and_then (within 0 most)) (number_with 2 text number (omega (arith, w.long)) w.short w.digits w.value) ∙ in_bounds 0 most number w.low w.high

pub front_means : (width least most : ℕ) (front rest : List ℕ) (number : ℕ) → 0 < width → WritesFixed width least most front number →
    ◌≡◌ {A = Option (ℕ × List ℕ)} (front_number width least most (front ++ rest)) (Some (number, rest))
front_means width least most front rest number some w =
    let text = front ++ rest in
    let long : length front ≡ width = omega (arith, w.long, w.short) in
    let enough : nat_le width (length text) ≡ true = grind (arith, length-append front rest, long) in
    let first : take width text ≡ front = ap (λ n. take n text) (sym long) ∙ take-append_seam front rest in
    let rest_after : drop width text ≡ rest = ap (λ n. drop n text) (sym long) ∙ drop-append_seam front rest in
    ap (λ t. cond t (option_map (λ n. (n, drop width text)) (option_and_then (within least most) (number_in width (take width text)))) None) enough
    ∙ ap (λ t. option_map (λ n. (n, drop width text)) (option_and_then (within least most) (number_in width t))) first
    ∙ ap (λ o. option_map (λ n. (n, drop width text)) (option_and_then (within least most) o)) (number_with width front number (omega (arith, long, some)) w.short w.digits w.value)
    ∙ ap (λ o. option_map (λ n. (n, drop width text)) o) (in_bounds least most number w.low w.high)
    ∙ ap (λ (t : List ℕ). Some (number, t)) rest_after

same_byte : (b c : ℕ) → b ≡ c → (b == c) ≡ true
same_byte b c h = grind (arith, h)

other_byte : (b c byte : ℕ) → b ≡ c → (c == byte) ≡ false → not (b == byte) ≡ true
other_byte b c byte h other = ap (λ x. not (x == byte)) h ∙ ap not other

pub fraction_means : (text : List ℕ) (nanos : ℕ) → WritesFraction text nanos → fraction_of text ≡ Some nanos
fraction_means [] nanos h = ap Some (sym h)
fraction_means (b ∷ digits) nanos h =
    ap (λ t. cond t (nanos_of digits) None) (same_byte b 46 h.0)
    ∙ ap (λ t. cond t (Some (digits_value 10 (counted_digits digits))) None) h.1.digits ∙ ap Some h.1.value

pub marked_means : (mark : ℕ) (text : List ℕ) (number : ℕ) → WritesMarked mark text number → marked_number mark text ≡ Some number
marked_means mark [] number h = ap Some (sym h)
marked_means mark (b ∷ digits) number h = ap (λ t. cond t (short_number 99 digits) None) (same_byte b mark h.0) ∙ short_means 99 digits number h.1

pub fraction_lacks : (byte : ℕ) (text : List ℕ) (nanos : ℕ) → WritesFraction text nanos → is_ascii_digit byte ≡ false → (46 == byte) ≡ false → lacks byte text ≡ true
fraction_lacks byte [] nanos h no_digit no_point = refl
fraction_lacks byte (b ∷ digits) nanos h no_digit no_point =
    ap (λ t. t && lacks byte digits) (other_byte b 46 byte h.0 no_point) ∙ digits_lack byte digits no_digit h.1.digits

pub marked_lacks : (byte mark : ℕ) (text : List ℕ) (number : ℕ) → WritesMarked mark text number → is_ascii_digit byte ≡ false → (mark == byte) ≡ false → lacks byte text ≡ true
marked_lacks byte mark [] number h no_digit no_mark = refl
marked_lacks byte mark (b ∷ digits) number h no_digit no_mark =
    ap (λ t. t && lacks byte digits) (other_byte b mark byte h.0 no_mark) ∙ digits_lack byte digits no_digit h.1.digits

-- nothing, or a text that begins with this mark
abbrev pub Begins : ℕ → List ℕ → Type 0
Begins mark [] = Unit {0}
Begins mark (b ∷ text) = b ≡ mark

pub fraction_begins : (text : List ℕ) (nanos : ℕ) → WritesFraction text nanos → Begins 46 text
fraction_begins [] nanos h = tt
fraction_begins (b ∷ digits) nanos h = h.0

pub marked_begins : (mark : ℕ) (text : List ℕ) (number : ℕ) → WritesMarked mark text number → Begins mark text
marked_begins mark [] number h = tt
marked_begins mark (b ∷ digits) number h = h.0

-- A part begins at the first of its marks.
pub part_means : (mark : ℕ) (text part : List ℕ) → lacks mark text ≡ true → Begins mark part → ◌≡◌ {A = List ℕ × List ℕ} (part_at mark (text ++ part)) (text, part)
part_means mark text [] h b = ap (part_at mark) (append-nil text) ∙ no_part mark text h
part_means mark text (c ∷ more) h b =
    ap (λ x. part_at mark (text ++ (x ∷ more))) b ∙ part_at_seam mark text more h ∙ ap (λ (x : ℕ). (text, x ∷ more)) (sym b)
