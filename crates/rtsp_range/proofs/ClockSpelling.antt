-- Absolute times that were read are spelled so.
use Rattle.std.proofs.Common.{◌≡◌, ℕ, Bool, true, false, ◌==◌, cond, List, [], ◌∷◌, ◌++◌, length, Option, None, Some, refl, ◌∙◌, ap, subst, arith}
use Rattle.std.specs.Prelude.{option_map}
use Rattle.std.proofs.lemmas.Option.{option_and_then_some, cond_some, same_Some}
use Rattle.gate_bytes.specs.Places.{cut_at}
use Rattle.gate_bytes.proofs.SeamLemmas.{cut_joined}
use Rattle.rtsp_range.specs.declared.clock.Moment.{Moment}
use Rattle.rtsp_range.specs.declared.unit.TimeUnit.TheVariants as units
use Rattle.rtsp_range.specs.declared.range.Range.{Range}
use Rattle.rtsp_range.specs.Parts.{front_number, rest_after, fraction_of}
use Rattle.rtsp_range.specs.Clock.{moment_of, clock_end, clock_range}
use Rattle.rtsp_range.specs.Spellings.{IsMoment, IsOptional, AreTimes}
use Rattle.rtsp_range.proofs.NumberSpelling.{front_spelled, fraction_spelled}
use Rattle.rtsp_range.proofs.NptSpelling.{Dashed}

behind_with : (byte b : ℕ) (text rest : List ℕ) (same : Bool) → (b == byte) ≡ same → cond same (Some text) None ≡ Some rest → b ∷ text ≡ byte ∷ rest
behind_with byte b text rest true e h = let equal : b ≡ byte = grind (arith, e) in ap (λ c. c ∷ text) equal ∙ ap (λ t. byte ∷ t) (same_Some _ _ h)
behind_with byte b text rest false e h = cc

behind_joined : (byte : ℕ) (text rest : List ℕ) → rest_after byte text ≡ Some rest → text ≡ byte ∷ rest
behind_joined byte [] rest h = cc
behind_joined byte (b ∷ text) rest h = behind_with byte b text rest (b == byte) refl h

none_left : (text : List ℕ) → (length text == 0) ≡ true → text ≡ []
none_left [] h = refl
none_left (b ∷ text) h = absurd (grind (arith, h))

-- the text from the time on, and from the date on
clock_joined : (hour minute second fraction : List ℕ) (time rest_hour rest_minute rest_second last : List ℕ) → time ≡ hour ++ rest_hour → rest_hour ≡ minute ++ rest_minute → rest_minute ≡ second ++ rest_second →
    rest_second ≡ fraction ++ (90 ∷ last) → last ≡ [] → time ≡ hour ++ (minute ++ (second ++ (fraction ++ (90 ∷ []))))
clock_joined hour minute second fraction time rest_hour rest_minute rest_second last h m s f l =
    h ∙ ap (λ t. hour ++ t) (m ∙ ap (λ t. minute ++ t) (s ∙ ap (λ t. second ++ t) (f ∙ ap (λ t. fraction ++ (90 ∷ t)) l)))

date_joined : (year month day : List ℕ) (text rest_year rest_month rest_day time clock : List ℕ) → text ≡ year ++ rest_year → rest_year ≡ month ++ rest_month → rest_month ≡ day ++ rest_day →
    rest_day ≡ 84 ∷ time → time ≡ clock → text ≡ year ++ (month ++ (day ++ (84 ∷ clock)))
date_joined year month day text rest_year rest_month rest_day time clock y m d t c =
    y ∙ ap (λ x. year ++ x) (m ∙ ap (λ x. month ++ x) (d ∙ ap (λ x. day ++ x) (t ∙ ap (λ x. 84 ∷ x) c)))

moment_spelled : (text : List ℕ) (moment : Moment) → moment_of text ≡ Some moment → IsMoment text moment
unfolding moment_of
moment_spelled text moment h =
    option_and_then_some _ (front_number 4 0 9999 text) moment h (λ (year : ℕ × List ℕ) year_is h1.
    option_and_then_some _ (front_number 2 1 12 year.1) moment h1 (λ (month : ℕ × List ℕ) month_is h2.
    option_and_then_some _ (front_number 2 1 31 month.1) moment h2 (λ (day : ℕ × List ℕ) day_is h3.
    option_and_then_some _ (rest_after 84 day.1) moment h3 (λ time time_is h4.
    option_and_then_some _ (front_number 2 0 23 time) moment h4 (λ (hour : ℕ × List ℕ) hour_is h5.
    option_and_then_some _ (front_number 2 0 59 hour.1) moment h5 (λ (minute : ℕ × List ℕ) minute_is h6.
    option_and_then_some _ (front_number 2 0 60 minute.1) moment h6 (λ (second : ℕ × List ℕ) second_is h7.
    option_and_then_some _ (cut_at 90 second.1) moment h7 (λ (last : List ℕ × List ℕ) last_is h8.
    option_and_then_some _ (fraction_of last.0) moment h8 (λ nanos nanos_is h9.
    let made : Moment = record { year = year.0; month = month.0; day = day.0; hour = hour.0; minute = minute.0; second = second.0; nanos = nanos } in
    let ends = cond_some (length last.1 == 0) made moment h9 in
    let y = front_spelled 4 0 9999 text year year_is in
    let mo = front_spelled 2 1 12 year.1 month month_is in
    let d = front_spelled 2 1 31 month.1 day day_is in
    let ho = front_spelled 2 0 23 time hour hour_is in
    let mi = front_spelled 2 0 59 hour.1 minute minute_is in
    let s = front_spelled 2 0 60 minute.1 second second_is in
    let clock = clock_joined ho.front mi.front s.front last.0 time hour.1 minute.1 second.1 last.1 ho.spelled mi.spelled s.spelled (cut_joined 90 second.1 last last_is) (none_left last.1 ends.0) in
    subst (IsMoment text) ends.1 (record {
      year = y.front;
      month = mo.front;
      day = d.front;
      hour = ho.front;
      minute = mi.front;
      second = s.front;
      fraction = last.0;
      spelled = date_joined y.front mo.front d.front text year.1 month.1 day.1 time (ho.front ++ (mi.front ++ (s.front ++ (last.0 ++ (90 ∷ []))))) y.spelled mo.spelled d.spelled (behind_joined 84 day.1 time time_is) clock;
      writes_year = y.writes;
      writes_month = mo.writes;
      writes_day = d.writes;
      writes_hour = ho.writes;
      writes_minute = mi.writes;
      writes_second = s.writes;
      writes_fraction = fraction_spelled last.0 nanos nanos_is;
    }))))))))))

end_with : (text : List ℕ) (found : Option Moment) (to : Option Moment) → moment_of text ≡ found → option_map Some found ≡ Some to → IsOptional IsMoment text to
end_with text None to e h = cc
end_with text (Some moment) to e h = subst (IsOptional IsMoment text) (same_Some _ _ h) (moment_spelled text moment e)

end_spelled : (text : List ℕ) (to : Option Moment) → clock_end text ≡ Some to → IsOptional IsMoment text to
end_spelled [] to h = subst (IsOptional IsMoment []) (same_Some _ _ h) refl
end_spelled (b ∷ text) to h = end_with (b ∷ text) (moment_of (b ∷ text)) to refl h

pub clock_spelled : (text : List ℕ) (range : Range) → clock_range text ≡ Some range → Dashed units.Clock text range
unfolding clock_range
clock_spelled text range h =
    option_and_then_some _ (cut_at 45 text) range h (λ (parts : List ℕ × List ℕ) parts_are h1.
    option_and_then_some _ (moment_of parts.0) range h1 (λ from from_is h2.
    option_and_then_some _ (clock_end parts.1) range h2 (λ to to_is h3.
    record {
      begin = parts.0;
      end = parts.1;
      spelled = cut_joined 45 text parts parts_are;
      times = subst (AreTimes units.Clock parts.0 parts.1) (same_Some _ _ h3) (moment_spelled parts.0 from from_is, end_spelled parts.1 to to_is);
    })))
