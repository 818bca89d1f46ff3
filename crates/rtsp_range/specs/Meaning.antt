-- What the value of a Range header means (RFC 2326, 12.29; RFC 7826, 18.40), or its first fault.
use Rattle.std.specs.Prelude.{◌≡◌, ℕ, Bool, false, ◌==◌, ◌&&◌, ◌||◌, codes, if◌then◌else◌, List, [], ◌∷◌, length, take, Option, Some, None, Result, Ok, Err}
use Rattle.std.specs.Option.{ok_or}
use Rattle.gate_bytes.specs.Ascii.{space, semicolon, equals_sign}
use Rattle.gate_bytes.specs.Places.{cut_at}
use Rattle.gate_bytes.specs.Tokens.{equal_fold}
use Rattle.rtsp_range.specs.declared.smpte.Rate.TheVariants as rates
use Rattle.rtsp_range.specs.declared.unit.TimeUnit.{TimeUnit}
use Rattle.rtsp_range.specs.declared.unit.TimeUnit.TheVariants as units
use Rattle.rtsp_range.specs.declared.range.Range.{Range}
use Rattle.rtsp_range.specs.declared.fault.RangeFault.{RangeFault}
use Rattle.rtsp_range.specs.declared.fault.RangeFault.TheVariants as faults
use Rattle.rtsp_range.specs.Parts.{◌>>=◌}
use Rattle.rtsp_range.specs.Npt.{npt_range}
use Rattle.rtsp_range.specs.Smpte.{smpte_range}
use Rattle.rtsp_range.specs.Clock.{clock_range}

-- the two versions of RTSP
pub data Version : Type 0 where
  One : Version
  Two : Version

-- The unit of this name, without ASCII case (this project's own in that; the names are those of RFC 2326, 3.5
-- to 3.7, and RFC 7826, 4.4).
abbrev pub unit_of : List ℕ → Option TimeUnit
unit_of name =
    if equal_fold name (codes "npt") then Some units.Npt
    else (if equal_fold name (codes "smpte") then Some (units.Smpte rates.Thirty)
    else (if equal_fold name (codes "smpte-30-drop") then Some (units.Smpte rates.ThirtyDrop)
    else (if equal_fold name (codes "smpte-25") then Some (units.Smpte rates.TwentyFive)
    else (if equal_fold name (codes "clock") then Some units.Clock else None))))

-- a text without the spaces at its front
abbrev pub without_spaces : List ℕ → List ℕ
without_spaces [] = []
without_spaces (b ∷ text) = if b == space then without_spaces text else b ∷ text

-- how the time parameter begins
abbrev pub time_parameter : List ℕ
time_parameter = codes "time="

-- whether it stands behind spaces, without ASCII case
abbrev pub names_time : List ℕ → Bool
names_time text = equal_fold (take (length time_parameter) (without_spaces text)) time_parameter

-- Whether a `;` stands anywhere with `time=` behind it (RFC 2326, 12.29). RTSP 2.0 has no such parameter.
abbrev pub has_time_parameter : List ℕ → Bool
has_time_parameter [] = false
has_time_parameter (b ∷ text) = (b == semicolon && names_time text) || has_time_parameter text

-- whether this version has the parameter, and the text names it
abbrev pub names_parameter : Version → List ℕ → Bool
names_parameter One text = has_time_parameter text
names_parameter Two text = false

-- the range that a text names, in this unit
abbrev pub range_in : TimeUnit → List ℕ → Result Range RangeFault
range_in units.Npt text = npt_range text
range_in (units.Smpte rate) text = ok_or (smpte_range rate text) faults.Time
range_in units.Clock text = ok_or (clock_range text) faults.Time

-- The unit, and the text behind the first `=`.
unfoldable pub unit_and_times : List ℕ → Option (TimeUnit × List ℕ)
unit_and_times value = do
  parts ← cut_at equals_sign value
  unit ← unit_of parts.0
  Some (unit, parts.1)

-- the range behind its unit; a time parameter is refused where the version has one
abbrev pub range_behind : Version → Option (TimeUnit × List ℕ) → Result Range RangeFault
range_behind version None = Err faults.Unit
range_behind version (Some found) = if names_parameter version found.1 then Err faults.TimeParameter else range_in found.0 found.1

-- What a value means. The order of the tests is the order of the faults.
abbrev pub meaning : Version → List ℕ → Result Range RangeFault
meaning version value = range_behind version (unit_and_times value)

-- A value means this range.
abbrev pub Means : Version → List ℕ → Range → Type 0
Means version value range = meaning version value ≡ Ok range
