-- Normal play times that were read are spelled so.
use Rattle.std.proofs.Common.{◌≡◌, inl, inr, ℕ, Bool, true, false, ◌||◌, nat_lt, cond, List, [], ◌∷◌, ◌++◌, Option, None, Some, Ok, Err, refl, sym, ◌∙◌, ap, subst, arith}
use Rattle.std.specs.Prelude.{codes, option_map}
use Rattle.std.specs.Option.{ok_or}
use Rattle.std.specs.Str.{bytes_eq}
use Rattle.std.proofs.lemmas.Option.{option_and_then_some, same_Some}
use Rattle.std.proofs.lemmas.Slice.Eq.{bytes_eq-Decides}
use Rattle.gate_bytes.specs.Places.{cut_at}
use Rattle.gate_bytes.proofs.SeamLemmas.{cut_joined}
use Rattle.rtsp_range.specs.declared.npt.NptTime.{NptTime}
use Rattle.rtsp_range.specs.declared.npt.NptTime.TheVariants.{Now, At}
use Rattle.rtsp_range.specs.declared.unit.TimeUnit.{TimeUnit}
use Rattle.rtsp_range.specs.declared.unit.TimeUnit.TheVariants as units
use Rattle.rtsp_range.specs.declared.range.Range.{Range}
use Rattle.rtsp_range.specs.declared.fault.RangeFault.TheVariants as faults
use Rattle.rtsp_range.specs.Parts.{part_at, whole_number, short_number, fraction_of}
use Rattle.rtsp_range.specs.Npt.{clocked_seconds, seconds_with, seconds_of, nanoseconds_of, npt_time, latest, npt_part, is_too_large, npt_pair, npt_with, npt_range}
use Rattle.rtsp_range.specs.Spellings.{WritesClock, WritesSeconds, WritesNanoseconds, IsNptTime, IsOptional, AreTimes}
use Rattle.rtsp_range.proofs.JoinLemmas.{part_joined}
use Rattle.rtsp_range.proofs.NumberSpelling.{whole_spelled, short_spelled, fraction_spelled}
use Rattle.rtsp_range.proofs.SoundLemmas.{found_ok}

clock_spelled : (hours rest : List ℕ) (number : ℕ) → clocked_seconds hours rest ≡ Some number → WritesClock (hours ++ (58 ∷ rest)) number
unfolding clocked_seconds
clock_spelled hours rest number h =
    option_and_then_some _ (cut_at 58 rest) number h (λ (parts : List ℕ × List ℕ) parts_are h1.
    option_and_then_some _ (whole_number hours) number h1 (λ hour hour_is h2.
    option_and_then_some _ (short_number 59 parts.0) number h2 (λ minute minute_is h3.
    option_and_then_some _ (short_number 59 parts.1) number h3 (λ second second_is h4.
    record {
      hours = hours;
      minutes = parts.0;
      seconds = parts.1;
      hour = hour;
      minute = minute;
      second = second;
      spelled = ap (λ t. hours ++ (58 ∷ t)) (cut_joined 58 rest parts parts_are);
      writes_hour = whole_spelled hours hour hour_is;
      writes_minute = short_spelled 59 parts.0 minute minute_is;
      writes_second = short_spelled 59 parts.1 second second_is;
      total = same_Some _ _ h4;
    }))))

seconds_apart : (text : List ℕ) (cut : Option (List ℕ × List ℕ)) (number : ℕ) → cut_at 58 text ≡ cut → seconds_with text cut ≡ Some number → WritesSeconds text number
seconds_apart text None number e h = inl (whole_spelled text number h)
seconds_apart text (Some parts) number e h =
    inr (subst (λ (t : List ℕ). WritesClock t number) (sym (cut_joined 58 text parts e)) (clock_spelled parts.0 parts.1 number h))

seconds_spelled : (text : List ℕ) (number : ℕ) → seconds_of text ≡ Some number → WritesSeconds text number
unfolding seconds_of
seconds_spelled text number h = seconds_apart text (cut_at 58 text) number refl h

nanoseconds_spelled : (text : List ℕ) (number : ℕ) → nanoseconds_of text ≡ Some number → WritesNanoseconds text number
unfolding nanoseconds_of
nanoseconds_spelled text number h =
    option_and_then_some _ (seconds_of (part_at 46 text).0) number h (λ seconds seconds_are h1.
    option_and_then_some _ (fraction_of (part_at 46 text).1) number h1 (λ nanos nanos_are h2.
    record {
      whole = (part_at 46 text).0;
      fraction = (part_at 46 text).1;
      seconds = seconds;
      nanos = nanos;
      spelled = part_joined 46 text;
      writes_seconds = seconds_spelled (part_at 46 text).0 seconds seconds_are;
      writes_fraction = fraction_spelled (part_at 46 text).1 nanos nanos_are;
      total = same_Some _ _ h2;
    }))

at_spelled : (text : List ℕ) (found : Option ℕ) (time : NptTime) → nanoseconds_of text ≡ found → option_map At found ≡ Some time → is_too_large (Some (Some time)) ≡ false → IsNptTime text time
at_spelled text None time e h small = cc
at_spelled text (Some n) time e h small =
    let same : At n ≡ time = same_Some _ _ h in
    let fits : nat_lt latest n ≡ false = ap (λ t. is_too_large (Some (Some t))) same ∙ small in
    subst (IsNptTime text) same (nanoseconds_spelled text n e, grind (arith, fits))

time_by : (text : List ℕ) (now : Bool) (time : NptTime) → bytes_eq text (codes "now") ≡ now → cond now (Some Now) (option_map At (nanoseconds_of text)) ≡ Some time →
    is_too_large (Some (Some time)) ≡ false → IsNptTime text time
time_by text true time e h small = subst (IsNptTime text) (same_Some _ _ h) ((bytes_eq-Decides text (codes "now")).0 e)
time_by text false time e h small = at_spelled text (nanoseconds_of text) time refl h small

part_with : (text : List ℕ) (found : Option NptTime) (time : Option NptTime) → npt_time text ≡ found → option_map Some found ≡ Some time → is_too_large (Some time) ≡ false → IsOptional IsNptTime text time
part_with text None time e h small = cc
part_with text (Some t) time e h small =
    let same : Some t ≡ time = same_Some _ _ h in
    let fits : is_too_large (Some (Some t)) ≡ false = ap (λ x. is_too_large (Some x)) same ∙ small in
    subst (IsOptional IsNptTime text) same (time_by text (bytes_eq text (codes "now")) t refl e fits)

part_spelled : (text : List ℕ) (time : Option NptTime) → npt_part text ≡ Some time → is_too_large (Some time) ≡ false → IsOptional IsNptTime text time
part_spelled [] time h small = subst (IsOptional IsNptTime []) (same_Some _ _ h) refl
part_spelled (b ∷ text) time h small = part_with (b ∷ text) (npt_time (b ∷ text)) time refl h small

pair_spelled : (begin end : List ℕ) (from to : Option (Option NptTime)) (range : Range) → npt_part begin ≡ from → npt_part end ≡ to → is_too_large from ≡ false → is_too_large to ≡ false →
    npt_pair from to ≡ Some range → AreTimes units.Npt begin end range
pair_spelled begin end None to range b e f t h = cc
pair_spelled begin end (Some from) None range b e f t h = cc
pair_spelled begin end (Some None) (Some None) range b e f t h = cc
pair_spelled begin end (Some (Some from)) (Some to) range b e f t h =
    subst (AreTimes units.Npt begin end) (same_Some _ _ h) (tt, (part_spelled begin (Some from) b f, part_spelled end to e t))
pair_spelled begin end (Some None) (Some (Some to)) range b e f t h =
    subst (AreTimes units.Npt begin end) (same_Some _ _ h) (tt, (part_spelled begin None b f, part_spelled end (Some to) e t))

between_with : (begin end : List ℕ) (range : Range) (f t : Bool) → is_too_large (npt_part begin) ≡ f → is_too_large (npt_part end) ≡ t →
    cond (f || t) (Err faults.TooLarge) (ok_or (npt_pair (npt_part begin) (npt_part end)) faults.Time) ≡ Ok range → AreTimes units.Npt begin end range
between_with begin end range true t ef et h = cc
between_with begin end range false true ef et h = cc
between_with begin end range false false ef et h =
    pair_spelled begin end (npt_part begin) (npt_part end) range refl refl ef et (found_ok (npt_pair (npt_part begin) (npt_part end)) faults.Time range h)

-- A begin, `-` and an end.
pub record Dashed (unit : TimeUnit) (text : List ℕ) (range : Range) : Type 0 where
  pub begin : List ℕ
  pub end : List ℕ
  pub spelled : text ≡ begin ++ (45 ∷ end)
  pub times : AreTimes unit begin end range

npt_apart : (text : List ℕ) (cut : Option (List ℕ × List ℕ)) (range : Range) → cut_at 45 text ≡ cut → npt_with cut ≡ Ok range → Dashed units.Npt text range
npt_apart text None range e h = cc
npt_apart text (Some parts) range e h =
    record { begin = parts.0; end = parts.1; spelled = cut_joined 45 text parts e; times = between_with parts.0 parts.1 range _ _ refl refl h }

pub npt_spelled : (text : List ℕ) (range : Range) → npt_range text ≡ Ok range → Dashed units.Npt text range
npt_spelled text range h = npt_apart text (cut_at 45 text) range refl h
