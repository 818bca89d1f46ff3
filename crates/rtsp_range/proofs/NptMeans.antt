-- Normal play times that are spelled so are read.
use Rattle.std.proofs.Common.{◌≡◌, inl, inr, ℕ, ◌<◌, true, false, ◌&&◌, ◌||◌, ◌==◌, nat_eq, cond, List, [], ◌∷◌, ◌++◌, length, Option, None, Some, Ok, Err, refl, ◌∙◌, ap, append_assoc, arith}
use Rattle.std.specs.Prelude.{codes, option_map}
use Rattle.std.specs.Option.{ok_or}
use Rattle.std.specs.List.{list_all}
use Rattle.std.specs.Char.{is_ascii_digit}
use Rattle.std.specs.Str.{bytes_eq}
use Rattle.std.proofs.lemmas.Bool.{and_parts}
use Rattle.std.proofs.lemmas.List.{length-append}
use Rattle.gate_bytes.specs.Places.{cut_at}
use Rattle.gate_bytes.proofs.SeamLemmas.{lacks, lacks_append, digits_lack, cut_at_seam, cut_nowhere}
use Rattle.rtsp_range.specs.declared.npt.NptTime.{NptTime}
use Rattle.rtsp_range.specs.declared.npt.NptTime.TheVariants.{Now, At}
use Rattle.rtsp_range.specs.declared.range.Range.TheVariants as ranges
use Rattle.rtsp_range.specs.declared.fault.RangeFault.TheVariants as faults
use Rattle.rtsp_range.specs.Parts.{part_at, whole_number, short_number, fraction_of}
use Rattle.rtsp_range.specs.Npt.{clocked_seconds, seconds_with, seconds_of, nanoseconds_of, npt_time, npt_part, is_too_large, npt_pair, npt_between, npt_with, npt_range}
use Rattle.rtsp_range.specs.Spellings.{WritesClock, WritesSeconds, WritesNanoseconds, IsNptTime, IsOptional, HasOne}
use Rattle.rtsp_range.proofs.CutLemmas.{bind_some, part_lacks}
use Rattle.rtsp_range.proofs.NumberMeans.{whole_means, short_means, fraction_means, fraction_lacks, fraction_begins, part_means}

-- digits at the front
record DigitsFirst (text : List ℕ) : Type 0 where
  pub front : List ℕ
  pub rest : List ℕ
  pub spelled : text ≡ front ++ rest
  pub some : 0 < length front
  pub digits : list_all is_ascii_digit front ≡ true

digits_first : (text fraction : List ℕ) (number : ℕ) → WritesSeconds text number → DigitsFirst (text ++ fraction)
digits_first text fraction number (inl w) = record { front = text; rest = fraction; spelled = refl; some = w.some; digits = w.digits }
digits_first text fraction number (inr c) = record {
  front = c.hours;
  rest = (58 ∷ (c.minutes ++ (58 ∷ c.seconds))) ++ fraction;
  spelled = ap (λ t. t ++ fraction) c.spelled ∙ append_assoc c.hours (58 ∷ (c.minutes ++ (58 ∷ c.seconds))) fraction;
  some = c.writes_hour.some;
  digits = c.writes_hour.digits;
}

-- no number is `now`
digits_differ : (front rest : List ℕ) → 0 < length front → list_all is_ascii_digit front ≡ true → bytes_eq (front ++ rest) (codes "now") ≡ false
digits_differ [] rest some h = absurd (omega (arith, some))
digits_differ (b ∷ front) rest some h =
    let parts = and_parts (is_ascii_digit b) (list_all is_ascii_digit front) h in
    let other : nat_eq b 110 ≡ false = grind (arith, parts.0) in
    ap (λ t. t && bytes_eq (front ++ rest) (codes "ow")) other

not_now : (text : List ℕ) → DigitsFirst text → bytes_eq text (codes "now") ≡ false
not_now text d = ap (λ t. bytes_eq t (codes "now")) d.spelled ∙ digits_differ d.front d.rest d.some d.digits

not_empty : (text : List ℕ) → DigitsFirst text → 0 < length text
not_empty text d = omega (arith, ap length d.spelled, length-append d.front d.rest, d.some)

seconds_lack : (byte : ℕ) (text : List ℕ) (number : ℕ) → WritesSeconds text number → is_ascii_digit byte ≡ false → (58 == byte) ≡ false → lacks byte text ≡ true
seconds_lack byte text number (inl w) no_digit no_colon = digits_lack byte text no_digit w.digits
seconds_lack byte text number (inr c) no_digit no_colon =
    ap (lacks byte) c.spelled
    ∙ lacks_append byte c.hours (58 ∷ (c.minutes ++ (58 ∷ c.seconds))) (digits_lack byte c.hours no_digit c.writes_hour.digits)
    (part_lacks byte 58 (c.minutes ++ (58 ∷ c.seconds)) false no_colon
    (lacks_append byte c.minutes (58 ∷ c.seconds) (digits_lack byte c.minutes no_digit c.writes_minute.digits)
    (part_lacks byte 58 c.seconds false no_colon (digits_lack byte c.seconds no_digit c.writes_second.digits))))

clock_means : (text : List ℕ) (number : ℕ) → (c : WritesClock text number) → clocked_seconds c.hours (c.minutes ++ (58 ∷ c.seconds)) ≡ Some number
unfolding clocked_seconds
clock_means text number c =
    bind_some _ (cut_at 58 (c.minutes ++ (58 ∷ c.seconds))) (c.minutes, c.seconds) _ (cut_at_seam 58 c.minutes c.seconds (digits_lack 58 c.minutes refl c.writes_minute.digits))
    (bind_some _ (whole_number c.hours) c.hour _ (whole_means c.hours c.hour c.writes_hour)
    (bind_some _ (short_number 59 c.minutes) c.minute _ (short_means 59 c.minutes c.minute c.writes_minute)
    (bind_some _ (short_number 59 c.seconds) c.second _ (short_means 59 c.seconds c.second c.writes_second)
    (ap Some c.total))))

seconds_mean : (text : List ℕ) (number : ℕ) → WritesSeconds text number → seconds_of text ≡ Some number
unfolding seconds_of
seconds_mean text number (inl w) = ap (seconds_with text) (cut_nowhere 58 text (digits_lack 58 text refl w.digits)) ∙ whole_means text number w
seconds_mean text number (inr c) =
    ap (λ t. seconds_with t (cut_at 58 t)) c.spelled
    ∙ ap (seconds_with (c.hours ++ (58 ∷ (c.minutes ++ (58 ∷ c.seconds))))) (cut_at_seam 58 c.hours (c.minutes ++ (58 ∷ c.seconds)) (digits_lack 58 c.hours refl c.writes_hour.digits))
    ∙ clock_means text number c

nanoseconds_mean : (text : List ℕ) (number : ℕ) → WritesNanoseconds text number → nanoseconds_of text ≡ Some number
unfolding nanoseconds_of
nanoseconds_mean text number w =
    let cut : ◌≡◌ {A = List ℕ × List ℕ} (part_at 46 text) (w.whole, w.fraction) =
    ap (part_at 46) w.spelled ∙ part_means 46 w.whole w.fraction (seconds_lack 46 w.whole w.seconds w.writes_seconds refl refl) (fraction_begins w.fraction w.nanos w.writes_fraction) in
    bind_some _ (seconds_of (part_at 46 text).0) w.seconds _ (ap (λ (p : List ℕ × List ℕ). seconds_of p.0) cut ∙ seconds_mean w.whole w.seconds w.writes_seconds)
    (bind_some _ (fraction_of (part_at 46 text).1) w.nanos _ (ap (λ (p : List ℕ × List ℕ). fraction_of p.1) cut ∙ fraction_means w.fraction w.nanos w.writes_fraction)
    (ap Some w.total))

number_first : (text : List ℕ) (number : ℕ) → WritesNanoseconds text number → DigitsFirst text
number_first text number w =
    let d = digits_first w.whole w.fraction w.seconds w.writes_seconds in
    record { front = d.front; rest = d.rest; spelled = w.spelled ∙ d.spelled; some = d.some; digits = d.digits }

time_means : (text : List ℕ) (time : NptTime) → IsNptTime text time → npt_time text ≡ Some time
time_means text Now h = ap npt_time h
time_means text (At n) h =
    ap (λ t. cond t (Some Now) (option_map At (nanoseconds_of text))) (not_now text (number_first text n h.0)) ∙ ap (option_map At) (nanoseconds_mean text n h.0)

part_there : (text : List ℕ) → 0 < length text → npt_part text ≡ option_map Some (npt_time text)
part_there [] h = absurd (omega (arith, h))
part_there (b ∷ text) h = refl

time_long : (text : List ℕ) (time : NptTime) → IsNptTime text time → 0 < length text
time_long text Now h = omega (arith, ap length h)
time_long text (At n) h = not_empty text (number_first text n h.0)

npt_part_means : (text : List ℕ) (time : Option NptTime) → IsOptional IsNptTime text time → npt_part text ≡ Some time
npt_part_means text None h = ap npt_part h
npt_part_means text (Some time) h = part_there text (time_long text time h) ∙ ap (option_map Some) (time_means text time h)

number_lacks : (byte : ℕ) (text : List ℕ) (number : ℕ) → WritesNanoseconds text number → is_ascii_digit byte ≡ false → (46 == byte) ≡ false → (58 == byte) ≡ false → lacks byte text ≡ true
number_lacks byte text number w no_digit no_point no_colon =
    ap (lacks byte) w.spelled
    ∙ lacks_append byte w.whole w.fraction (seconds_lack byte w.whole w.seconds w.writes_seconds no_digit no_colon) (fraction_lacks byte w.fraction w.nanos w.writes_fraction no_digit no_point)

-- It holds no byte but digits, its marks and letters.
pub npt_lacks : (byte : ℕ) (text : List ℕ) (time : Option NptTime) → IsOptional IsNptTime text time → is_ascii_digit byte ≡ false → (46 == byte) ≡ false → (58 == byte) ≡ false → lacks byte (codes "now") ≡ true →
    lacks byte text ≡ true
npt_lacks byte text None h no_digit no_point no_colon no_letter = ap (lacks byte) h
npt_lacks byte text (Some Now) h no_digit no_point no_colon no_letter = ap (lacks byte) h ∙ no_letter
npt_lacks byte text (Some (At n)) h no_digit no_point no_colon no_letter = number_lacks byte text n h.0 no_digit no_point no_colon

fits : (text : List ℕ) (time : Option NptTime) → IsOptional IsNptTime text time → is_too_large (Some time) ≡ false
fits text None h = refl
fits text (Some Now) h = refl
fits text (Some (At n)) h = grind (arith, h.1)

pair_means : (from to : Option NptTime) → HasOne from to → npt_pair (Some from) (Some to) ≡ Some (ranges.Npt from to)
pair_means None None h = absurd h
pair_means None (Some to) h = refl
pair_means (Some from) to h = refl

-- A range of normal play times that is spelled so is read.
pub npt_means : (begin end : List ℕ) (from to : Option NptTime) → HasOne from to → IsOptional IsNptTime begin from → IsOptional IsNptTime end to → npt_range (begin ++ (45 ∷ end)) ≡ Ok (ranges.Npt from to)
npt_means begin end from to one f t =
    ap npt_with (cut_at_seam 45 begin end (npt_lacks 45 begin from f refl refl refl refl))
    ∙ ap (λ p. npt_between p (npt_part end)) (npt_part_means begin from f) ∙ ap (npt_between (Some from)) (npt_part_means end to t)
    ∙ ap (λ large. cond (large || is_too_large (Some to)) (Err faults.TooLarge) (ok_or (npt_pair (Some from) (Some to)) faults.Time)) (fits begin from f)
    ∙ ap (λ large. cond large (Err faults.TooLarge) (ok_or (npt_pair (Some from) (Some to)) faults.Time)) (fits end to t)
    ∙ ap (λ pair. ok_or pair faults.Time) (pair_means from to one)
