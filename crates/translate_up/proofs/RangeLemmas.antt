-- The written form of a range is visible.
use Rattle.std.proofs.Common.{◌≡◌, ℕ, ◌<◌, ◌^◌, ◌/◌, ◌%◌, ◌==◌, Bool, true, false, ◌&&◌, ◌||◌, cond, List, [], ◌∷◌, ◌++◌, Option, None, Some, refl, arith}
use Rattle.std.specs.Prelude.{decimal, IsTrue, nat_le}
use Rattle.std.specs.Option.{is_some}
use Rattle.std.proofs.lemmas.Bool.{and_parts}
use Rattle.rtsp_uri.specs.Uris.{is_rest_byte}
use Rattle.rtsp_range.specs.declared.npt.NptTime.{NptTime}
use Rattle.rtsp_range.specs.declared.npt.NptTime.TheVariants.{Now, At}
use Rattle.rtsp_range.specs.declared.smpte.Smpte.{Smpte}
use Rattle.rtsp_range.specs.declared.smpte.Rate.{Rate}
use Rattle.rtsp_range.specs.declared.smpte.Rate.TheVariants as rates
use Rattle.rtsp_range.specs.declared.clock.Moment.{Moment}
use Rattle.rtsp_range.specs.declared.range.Range.{Range}
use Rattle.rtsp_range.specs.declared.range.Range.TheVariants as ranges
use Rattle.rtsp_range.specs.Npt.{latest}
use Rattle.rtsp_range.specs.Writable.{if_there, is_npt_time, can_be_written}
use Rattle.rtsp_range.specs.RangeText.{padded, without_zeros, fraction_text, npt_text, frames_text, parts_text, smpte_main, smpte_text, clock_text, moment_text, text_if, rate_text, range_text}
use Rattle.rtsp_range.proofs.PadLemmas.{padded_digits}
use Rattle.rtsp_range.proofs.FractionLemmas.{nanos_digits}
use Rattle.translate_up.proofs.VisibleLemmas.{is_visible, all_joined, digits_visible, decimal_visible}

joined : (front back : List ℕ) → is_visible front ≡ true → is_visible back ≡ true → is_visible (front ++ back) ≡ true
joined front back f b = all_joined is_rest_byte front back f b

padded_visible : (width number : ℕ) → is_visible (padded width number) ≡ true
padded_visible width number = digits_visible (padded width number) (padded_digits width number)

unless_zero : (none : Bool) (text : List ℕ) → is_visible text ≡ true → is_visible (cond none [] text) ≡ true
unless_zero true text h = refl
unless_zero false text h = h

fraction_visible : (nanos : ℕ) → is_visible (fraction_text nanos) ≡ true
fraction_visible nanos = unless_zero (nanos == 0) (46 ∷ without_zeros (padded 9 nanos)) (digits_visible (without_zeros (padded 9 nanos)) (nanos_digits nanos))

low : (nanoseconds : ℕ) → nat_le nanoseconds latest ≡ true → nanoseconds / 10 ^ 9 < 2 ^ 64
low nanoseconds h = grind (arith, h)

npt_visible : (time : Option NptTime) → if_there is_npt_time time ≡ true → is_visible (text_if npt_text time) ≡ true
npt_visible None h = refl
npt_visible (Some Now) h = refl
npt_visible (Some (At nanoseconds)) h =
    joined (decimal (nanoseconds / 10 ^ 9)) (fraction_text (nanoseconds % 10 ^ 9)) (decimal_visible (nanoseconds / 10 ^ 9) (low nanoseconds h)) (fraction_visible (nanoseconds % 10 ^ 9))

smpte_visible : (time : Smpte) → is_visible (smpte_text time) ≡ true
smpte_visible time =
    let frames = unless_zero (time.frames == 0 && time.parts == 0) (58 ∷ padded 2 time.frames) (padded_visible 2 time.frames) in
    let seconds = joined (padded 2 time.seconds) (frames_text time.frames time.parts) (padded_visible 2 time.seconds) frames in
    let minutes = joined (padded 2 time.minutes) (58 ∷ (padded 2 time.seconds ++ frames_text time.frames time.parts)) (padded_visible 2 time.minutes) seconds in
    let main = joined (padded 2 time.hours) (58 ∷ (padded 2 time.minutes ++ (58 ∷ (padded 2 time.seconds ++ frames_text time.frames time.parts)))) (padded_visible 2 time.hours) minutes in
    joined (smpte_main time) (parts_text time.parts) main (unless_zero (time.parts == 0) (46 ∷ padded 2 time.parts) (padded_visible 2 time.parts))

clock_visible : (moment : Moment) → is_visible (clock_text moment) ≡ true
clock_visible moment =
    let fraction = joined (fraction_text moment.nanos) (90 ∷ []) (fraction_visible moment.nanos) refl in
    let second = joined (padded 2 moment.second) (fraction_text moment.nanos ++ (90 ∷ [])) (padded_visible 2 moment.second) fraction in
    let minute = joined (padded 2 moment.minute) (padded 2 moment.second ++ (fraction_text moment.nanos ++ (90 ∷ []))) (padded_visible 2 moment.minute) second in
    joined (padded 2 moment.hour) (padded 2 moment.minute ++ (padded 2 moment.second ++ (fraction_text moment.nanos ++ (90 ∷ [])))) (padded_visible 2 moment.hour) minute

moment_visible : (moment : Moment) → is_visible (moment_text moment) ≡ true
moment_visible moment =
    let day = joined (padded 2 moment.day) (84 ∷ clock_text moment) (padded_visible 2 moment.day) (clock_visible moment) in
    let month = joined (padded 2 moment.month) (padded 2 moment.day ++ (84 ∷ clock_text moment)) (padded_visible 2 moment.month) day in
    joined (padded 4 moment.year) (padded 2 moment.month ++ (padded 2 moment.day ++ (84 ∷ clock_text moment))) (padded_visible 4 moment.year) month

end_visible : {A : Type 0} → (text : A → List ℕ) → ((time : A) → is_visible (text time) ≡ true) → (time : Option A) → is_visible (text_if text time) ≡ true
end_visible text each None = refl
end_visible text each (Some time) = each time

rate_visible : (rate : Rate) → is_visible (rate_text rate) ≡ true
rate_visible rates.Thirty = refl
rate_visible rates.ThirtyDrop = refl
rate_visible rates.TwentyFive = refl

-- The written form of a range is visible.
pub range_visible : (range : Range) → IsTrue (can_be_written range) → is_visible (range_text range) ≡ true
range_visible (ranges.Npt from to) can =
    let parts = and_parts (is_some from || is_some to) (if_there is_npt_time from && if_there is_npt_time to) can in
    let times = and_parts (if_there is_npt_time from) (if_there is_npt_time to) parts.1 in
    joined (text_if npt_text from) (45 ∷ text_if npt_text to) (npt_visible from times.0) (npt_visible to times.1)
range_visible (ranges.Smpte rate from to) can =
    joined (rate_text rate) (smpte_text from ++ (45 ∷ text_if smpte_text to)) (rate_visible rate)
    (joined (smpte_text from) (45 ∷ text_if smpte_text to) (smpte_visible from) (end_visible smpte_text smpte_visible to))
range_visible (ranges.Clock from to) can =
    joined (moment_text from) (45 ∷ text_if moment_text to) (moment_visible from) (end_visible moment_text moment_visible to)
