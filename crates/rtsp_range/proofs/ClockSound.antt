-- An absolute time that was read has its fields in range.
use Rattle.std.proofs.Common.{◌≡◌, ℕ, Bool, true, ◌==◌, ◌&&◌, nat_le, List, [], ◌∷◌, length, Option, None, Some, refl, sym, ◌∙◌, ap, arith}
use Rattle.std.specs.Prelude.{option_map}
use Rattle.std.proofs.lemmas.Bool.{and_parts}
use Rattle.std.proofs.lemmas.Option.{option_and_then_some, cond_some, same_Some}
use Rattle.gate_bytes.specs.Places.{cut_at}
use Rattle.rtsp_range.specs.declared.clock.Moment.{Moment}
use Rattle.rtsp_range.specs.declared.range.Range.{Range}
use Rattle.rtsp_range.specs.declared.range.Range.TheVariants as ranges
use Rattle.rtsp_range.specs.Parts.{front_number, rest_after, fraction_of}
use Rattle.rtsp_range.specs.Clock.{moment_of, clock_end, clock_range}
use Rattle.rtsp_range.specs.Writable.{if_there, is_moment, can_be_written}
use Rattle.rtsp_range.proofs.SoundLemmas.{front_bound, fraction_bound}

seven : (a b c d e f g : Bool) → a ≡ true → b ≡ true → c ≡ true → d ≡ true → e ≡ true → f ≡ true → g ≡ true → ((a && (b && c)) && (d && (e && (f && g)))) ≡ true
seven a b c d e f g ha hb hc hd he hf hg = grind arith

most_bound : (width most : ℕ) (text : List ℕ) (p : ℕ × List ℕ) → front_number width 0 most text ≡ Some p → nat_le p.0 most ≡ true
most_bound width most text p h = (and_parts (nat_le 0 p.0) (nat_le p.0 most) (front_bound width 0 most text p h)).1

moment_sound : (text : List ℕ) (moment : Moment) → moment_of text ≡ Some moment → is_moment moment ≡ true
unfolding moment_of
moment_sound text moment h =
    option_and_then_some _ (front_number 4 0 9999 text) moment h (λ (year : ℕ × List ℕ) year_is h1.
    option_and_then_some _ (front_number 2 1 12 year.1) moment h1 (λ (month : ℕ × List ℕ) month_is h2.
    option_and_then_some _ (front_number 2 1 31 month.1) moment h2 (λ (day : ℕ × List ℕ) day_is h3.
    option_and_then_some _ (rest_after 84 day.1) moment h3 (λ time time_is h4.
    option_and_then_some _ (front_number 2 0 23 time) moment h4 (λ (hour : ℕ × List ℕ) hour_is h5.
    option_and_then_some _ (front_number 2 0 59 hour.1) moment h5 (λ (minute : ℕ × List ℕ) minute_is h6.
    option_and_then_some _ (front_number 2 0 60 minute.1) moment h6 (λ (second : ℕ × List ℕ) second_is h7.
    option_and_then_some _ (cut_at 90 second.1) moment h7 (λ (last : List ℕ × List ℕ) last_is h8.
    option_and_then_some _ (fraction_of last.0) moment h8 (λ nanos nanos_is h9.
    let made : Moment = record { year = year.0; month = month.0; day = day.0; hour = hour.0; minute = minute.0; second = second.0; nanos = nanos } in
    let same : made ≡ moment = (cond_some (length last.1 == 0) made moment h9).1 in
    ap is_moment (sym same) ∙ seven _ _ _ _ _ _ _ (most_bound 4 9999 text year year_is) (front_bound 2 1 12 year.1 month month_is) (front_bound 2 1 31 month.1 day day_is)
    (most_bound 2 23 time hour hour_is) (most_bound 2 59 hour.1 minute minute_is) (most_bound 2 60 minute.1 second second_is) (fraction_bound last.0 nanos nanos_is))))))))))

end_sound : (text : List ℕ) (to : Option Moment) → clock_end text ≡ Some to → if_there is_moment to ≡ true
end_sound [] to h = let same : None ≡ to = same_Some _ _ h in ap (if_there is_moment) (sym same)
end_sound (b ∷ text) to h = mapped (moment_of (b ∷ text)) to (moment_sound (b ∷ text)) h where
  mapped : (time : Option Moment) (to : Option Moment) → ((t : Moment) → time ≡ Some t → is_moment t ≡ true) → option_map Some time ≡ Some to → if_there is_moment to ≡ true
  mapped None to sound h = cc
  mapped (Some t) to sound h = let same : Some t ≡ to = same_Some _ _ h in ap (if_there is_moment) (sym same) ∙ sound t refl

pub clock_sound : (text : List ℕ) (range : Range) → clock_range text ≡ Some range → can_be_written range ≡ true
unfolding clock_range
clock_sound text range h =
    option_and_then_some _ (cut_at 45 text) range h (λ (parts : List ℕ × List ℕ) parts_is h1.
    option_and_then_some _ (moment_of parts.0) range h1 (λ from from_is h2.
    option_and_then_some _ (clock_end parts.1) range h2 (λ to to_is h3.
    let same : ranges.Clock from to ≡ range = same_Some _ _ h3 in
    ap can_be_written (sym same) ∙ ap (λ b. b && if_there is_moment to) (moment_sound parts.0 from from_is) ∙ end_sound parts.1 to to_is)))
