-- Absolute times that are spelled so are read.
use Rattle.std.proofs.Common.{◌≡◌, ℕ, ◌<◌, true, false, ◌==◌, List, [], ◌∷◌, ◌++◌, length, Option, None, Some, refl, ◌∙◌, ap, arith}
use Rattle.std.specs.Prelude.{option_map}
use Rattle.std.specs.List.{list_all}
use Rattle.std.specs.Char.{is_ascii_digit}
use Rattle.std.proofs.lemmas.List.{length-append}
use Rattle.gate_bytes.specs.Places.{cut_at}
use Rattle.gate_bytes.proofs.SeamLemmas.{lacks, lacks_append, digits_lack, cut_at_seam}
use Rattle.rtsp_range.specs.declared.clock.Moment.{Moment}
use Rattle.rtsp_range.specs.declared.range.Range.TheVariants as ranges
use Rattle.rtsp_range.specs.Parts.{front_number, fraction_of}
use Rattle.rtsp_range.specs.Clock.{moment_of, clock_end, clock_range}
use Rattle.rtsp_range.specs.Spellings.{IsMoment, IsOptional}
use Rattle.rtsp_range.proofs.CutLemmas.{part_lacks, bind_some}
use Rattle.rtsp_range.proofs.NumberMeans.{front_means, fraction_means, fraction_lacks}

-- the text from the hour on
abbrev clock_text : (text : List ℕ) (moment : Moment) → IsMoment text moment → List ℕ
clock_text text moment s = s.hour ++ (s.minute ++ (s.second ++ (s.fraction ++ (90 ∷ []))))

spelled_means : (text : List ℕ) (moment : Moment) (s : IsMoment text moment) → moment_of (s.year ++ (s.month ++ (s.day ++ (84 ∷ clock_text text moment s)))) ≡ Some moment
unfolding moment_of
spelled_means text moment s =
    let behind_second = s.fraction ++ (90 ∷ []) in
    let behind_minute = s.second ++ behind_second in
    let behind_hour = s.minute ++ behind_minute in
    let behind_month = s.day ++ (84 ∷ clock_text text moment s) in
    let behind_year = s.month ++ behind_month in
    bind_some _ (front_number 4 0 9999 (s.year ++ behind_year)) (moment.year, behind_year) _ (front_means 4 0 9999 s.year behind_year moment.year (omega arith) s.writes_year)
    (bind_some _ (front_number 2 1 12 behind_year) (moment.month, behind_month) _ (front_means 2 1 12 s.month behind_month moment.month (omega arith) s.writes_month)
    (bind_some _ (front_number 2 1 31 behind_month) (moment.day, 84 ∷ clock_text text moment s) _ (front_means 2 1 31 s.day (84 ∷ clock_text text moment s) moment.day (omega arith) s.writes_day)
    (bind_some _ (front_number 2 0 23 (clock_text text moment s)) (moment.hour, behind_hour) _ (front_means 2 0 23 s.hour behind_hour moment.hour (omega arith) s.writes_hour)
    (bind_some _ (front_number 2 0 59 behind_hour) (moment.minute, behind_minute) _ (front_means 2 0 59 s.minute behind_minute moment.minute (omega arith) s.writes_minute)
    (bind_some _ (front_number 2 0 60 behind_minute) (moment.second, behind_second) _ (front_means 2 0 60 s.second behind_second moment.second (omega arith) s.writes_second)
    (bind_some _ (cut_at 90 behind_second) (s.fraction, []) _ (cut_at_seam 90 s.fraction [] (fraction_lacks 90 s.fraction moment.nanos s.writes_fraction refl refl))
    (bind_some _ (fraction_of s.fraction) moment.nanos _ (fraction_means s.fraction moment.nanos s.writes_fraction)
    refl)))))))

moment_means : (text : List ℕ) (moment : Moment) → IsMoment text moment → moment_of text ≡ Some moment
moment_means text moment s = ap moment_of s.spelled ∙ spelled_means text moment s

end_there : (text : List ℕ) → 0 < length text → clock_end text ≡ option_map Some (moment_of text)
end_there [] h = absurd (omega (arith, h))
end_there (b ∷ text) h = refl

moment_long : (text : List ℕ) (moment : Moment) → IsMoment text moment → 0 < length text
moment_long text moment s =
    omega (arith, ap length s.spelled, length-append s.year (s.month ++ (s.day ++ (84 ∷ clock_text text moment s))), s.writes_year.long)

end_means : (text : List ℕ) (to : Option Moment) → IsOptional IsMoment text to → clock_end text ≡ Some to
end_means text None h = ap clock_end h
end_means text (Some moment) h = end_there text (moment_long text moment h) ∙ ap (option_map Some) (moment_means text moment h)

-- It holds no byte but digits and its marks.
pub moment_lacks : (byte : ℕ) (text : List ℕ) (moment : Moment) → IsMoment text moment → is_ascii_digit byte ≡ false → (46 == byte) ≡ false → (84 == byte) ≡ false → (90 == byte) ≡ false → lacks byte text ≡ true
moment_lacks byte text moment s no_digit no_point no_t no_z =
    let last = s.fraction ++ (90 ∷ []) in
    let seconds = s.second ++ last in
    let minutes = s.minute ++ seconds in
    let clock = clock_text text moment s in
    let days = s.day ++ (84 ∷ clock) in
    let number : (digits rest : List ℕ) → list_all is_ascii_digit digits ≡ true → lacks byte rest ≡ true → lacks byte (digits ++ rest) ≡ true =
    λ digits rest d r. lacks_append byte digits rest (digits_lack byte digits no_digit d) r in
    let last_lacks : lacks byte last ≡ true =
    lacks_append byte s.fraction (90 ∷ []) (fraction_lacks byte s.fraction moment.nanos s.writes_fraction no_digit no_point) (part_lacks byte 90 [] false no_z refl) in
    let clock_lacks : lacks byte clock ≡ true =
    number s.hour minutes s.writes_hour.digits (number s.minute seconds s.writes_minute.digits (number s.second last s.writes_second.digits last_lacks)) in
    ap (lacks byte) s.spelled ∙ number s.year (s.month ++ days) s.writes_year.digits (number s.month days s.writes_month.digits
    (number s.day (84 ∷ clock) s.writes_day.digits (part_lacks byte 84 clock false no_t clock_lacks)))

-- A range of times that is spelled so is read.
pub clock_means : (begin end : List ℕ) (from : Moment) (to : Option Moment) → IsMoment begin from → IsOptional IsMoment end to → clock_range (begin ++ (45 ∷ end)) ≡ Some (ranges.Clock from to)
unfolding clock_range
clock_means begin end from to f t =
    bind_some _ (cut_at 45 (begin ++ (45 ∷ end))) (begin, end) _ (cut_at_seam 45 begin end (moment_lacks 45 begin from f refl refl refl refl))
    (bind_some _ (moment_of begin) from _ (moment_means begin from f)
    (bind_some _ (clock_end end) to _ (end_means end to t)
    refl))

pub end_lacks : (byte : ℕ) (text : List ℕ) (to : Option Moment) → IsOptional IsMoment text to → is_ascii_digit byte ≡ false → (46 == byte) ≡ false → (84 == byte) ≡ false → (90 == byte) ≡ false → lacks byte text ≡ true
end_lacks byte text None h no_digit no_point no_t no_z = ap (lacks byte) h
end_lacks byte text (Some moment) h no_digit no_point no_t no_z = moment_lacks byte text moment h no_digit no_point no_t no_z
