-- How a range is written (this project's own normal form, in the grammar of both versions).
use Rattle.std.specs.Prelude.{ℕ, zero, suc, Bool, ◌+◌, ◌/◌, ◌%◌, ◌^◌, ◌==◌, ◌&&◌, codes, decimal, if◌then◌else◌, List, [], ◌∷◌, ◌++◌, Option, Some, None}
use Rattle.std.specs.List.{list_all}
use Rattle.gate_bytes.specs.Ascii.{hyphen, dot, digit_zero, colon, upper_t, upper_z}
use Rattle.rtsp_range.specs.declared.part.TheConstants.{SHORT_DIGITS, FRACTION_DIGITS}
use Rattle.rtsp_range.specs.declared.clock.TheConstants.{YEAR_DIGITS}
use Rattle.rtsp_range.specs.declared.npt.NptTime.{NptTime}
use Rattle.rtsp_range.specs.declared.npt.NptTime.TheVariants.{Now, At}
use Rattle.rtsp_range.specs.declared.smpte.Smpte.{Smpte}
use Rattle.rtsp_range.specs.declared.smpte.Rate.{Rate}
use Rattle.rtsp_range.specs.declared.smpte.Rate.TheVariants as rates
use Rattle.rtsp_range.specs.declared.clock.Moment.{Moment}
use Rattle.rtsp_range.specs.declared.range.Range.{Range}
use Rattle.rtsp_range.specs.declared.range.Range.TheVariants as ranges

-- A number with so many digits, its leading zeros among them.
unfoldable pub padded : ℕ → ℕ → List ℕ
padded zero number = []
padded (suc width) number = padded width (number / 10) ++ ((digit_zero + number % 10) ∷ [])

-- a text without the zeros at its end
abbrev pub is_zero_digit : ℕ → Bool
is_zero_digit b = b == digit_zero

-- digits without the zeros at their end
abbrev pub without_zeros : List ℕ → List ℕ
without_zeros [] = []
without_zeros (b ∷ text) = if list_all is_zero_digit (b ∷ text) then [] else b ∷ without_zeros text

-- A fraction by its billionths: a point and the digits without the zeros at the end, and nothing for 0.
abbrev pub fraction_text : ℕ → List ℕ
fraction_text nanos = if nanos == 0 then [] else dot ∷ without_zeros (padded FRACTION_DIGITS nanos)

-- `now`, or seconds without leading zeros and the fraction
abbrev pub npt_text : NptTime → List ℕ
npt_text Now = codes "now"
npt_text (At nanoseconds) = decimal (nanoseconds / 10 ^ FRACTION_DIGITS) ++ fraction_text (nanoseconds % 10 ^ FRACTION_DIGITS)

-- frames, where these or parts are not 0
abbrev pub frames_text : ℕ → ℕ → List ℕ
frames_text frames parts = if frames == 0 && parts == 0 then [] else colon ∷ padded SHORT_DIGITS frames

-- parts, where they are not 0
abbrev pub parts_text : ℕ → List ℕ
parts_text parts = if parts == 0 then [] else dot ∷ padded SHORT_DIGITS parts

-- `hh:mm:ss`, `:ff` and `.pp`, two digits each
abbrev pub smpte_main : Smpte → List ℕ
smpte_main time =
    padded SHORT_DIGITS time.hours ++ (colon ∷ (padded SHORT_DIGITS time.minutes ++ (colon ∷ (padded SHORT_DIGITS time.seconds ++ frames_text time.frames time.parts))))

-- a smpte time
abbrev pub smpte_text : Smpte → List ℕ
smpte_text time = smpte_main time ++ parts_text time.parts

-- `YYYYMMDDThhmmss`, the fraction and `Z`
abbrev pub clock_text : Moment → List ℕ
clock_text moment = padded SHORT_DIGITS moment.hour ++ (padded SHORT_DIGITS moment.minute ++ (padded SHORT_DIGITS moment.second ++ (fraction_text moment.nanos ++ (upper_z ∷ []))))

-- a clock time: date, T and time
abbrev pub moment_text : Moment → List ℕ
moment_text moment = padded YEAR_DIGITS moment.year ++ (padded SHORT_DIGITS moment.month ++ (padded SHORT_DIGITS moment.day ++ (upper_t ∷ clock_text moment)))

-- where there is a time, its text
abbrev pub text_if : {A : Type 0} → (A → List ℕ) → Option A → List ℕ
text_if text None = []
text_if text (Some time) = text time

-- the unit and the mark behind it
abbrev pub rate_text : Rate → List ℕ
rate_text rates.Thirty = codes "smpte="
rate_text rates.ThirtyDrop = codes "smpte-30-drop="
rate_text rates.TwentyFive = codes "smpte-25="

-- The value of a Range header: the unit in lower case, `=`, the begin, `-` and the end.
abbrev pub range_text : Range → List ℕ
range_text (ranges.Npt from to) = codes "npt=" ++ (text_if npt_text from ++ (hyphen ∷ text_if npt_text to))
range_text (ranges.Smpte rate from to) = rate_text rate ++ (smpte_text from ++ (hyphen ∷ text_if smpte_text to))
range_text (ranges.Clock from to) = codes "clock=" ++ (moment_text from ++ (hyphen ∷ text_if moment_text to))
