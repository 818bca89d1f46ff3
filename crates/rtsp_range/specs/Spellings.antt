-- How ranges are spelled, by cases on what they mean (RFC 2326, 3.5 to 3.7; RFC 7826, 4.4). These definitions cut
-- no text: they say which pieces, one behind the other, are a spelling.
use Rattle.std.specs.Prelude.{◌≡◌, ℕ, ◌+◌, ◌*◌, ◌^◌, ◌<◌, ◌≤◌, ◌⊎◌, true, codes, List, [], ◌∷◌, ◌++◌, length, Option, Some, None}
use Rattle.std.specs.List.{list_all}
use Rattle.std.specs.Char.{is_ascii_digit}
use Rattle.std.specs.Str.Parse.{digits_value}
use Rattle.gate_bytes.specs.Ascii.{hyphen, dot, colon, equals_sign, upper_t, upper_z}
use Rattle.rtsp_range.specs.declared.part.TheConstants.{SHORT_DIGITS, LAST_MINUTE, LAST_SECOND, FRACTION_DIGITS}
use Rattle.rtsp_range.specs.declared.smpte.TheConstants.{LAST_SHORT}
use Rattle.rtsp_range.specs.declared.clock.TheConstants.{YEAR_DIGITS, LAST_YEAR, LAST_MONTH, LAST_DAY, LAST_HOUR, LEAP_SECOND}
use Rattle.rtsp_range.specs.declared.npt.NptTime.{NptTime}
use Rattle.rtsp_range.specs.declared.npt.NptTime.TheVariants.{Now, At}
use Rattle.rtsp_range.specs.declared.smpte.Smpte.{Smpte}
use Rattle.rtsp_range.specs.declared.clock.Moment.{Moment}
use Rattle.rtsp_range.specs.declared.unit.TimeUnit.{TimeUnit}
use Rattle.rtsp_range.specs.declared.unit.TimeUnit.TheVariants as units
use Rattle.rtsp_range.specs.declared.range.Range.{Range}
use Rattle.rtsp_range.specs.declared.range.Range.TheVariants as ranges
use Rattle.rtsp_range.specs.Parts.{counted_digits}
use Rattle.rtsp_range.specs.Npt.{latest}
use Rattle.rtsp_range.specs.Meaning.{unit_of}

-- Digits, as many as are between two numbers, that write a number up to the most that is allowed.
pub record WritesNumber (fewest longest least most : ℕ) (text : List ℕ) (number : ℕ) : Type 0 where
  pub digits : list_all is_ascii_digit text ≡ true
  pub long : fewest ≤ length text
  pub short : length text ≤ longest
  pub value : digits_value 10 text ≡ number
  pub low : least ≤ number
  pub high : number ≤ most

-- one or more digits
pub record WritesWhole (text : List ℕ) (number : ℕ) : Type 0 where
  pub digits : list_all is_ascii_digit text ≡ true
  pub some : 0 < length text
  pub value : digits_value 10 text ≡ number

-- one or more digits, up to the most of a short number
abbrev pub WritesShort : ℕ → List ℕ → ℕ → Type 0
WritesShort most = WritesNumber 1 SHORT_DIGITS 0 most

-- just so many digits
abbrev pub WritesFixed : ℕ → ℕ → ℕ → List ℕ → ℕ → Type 0
WritesFixed width least most = WritesNumber width width least most

-- the digits of a fraction, of which the first count
pub record WritesNanos (text : List ℕ) (nanos : ℕ) : Type 0 where
  pub digits : list_all is_ascii_digit text ≡ true
  pub value : digits_value 10 (counted_digits text) ≡ nanos

-- nothing for 0, or a point and digits
abbrev pub WritesFraction : List ℕ → ℕ → Type 0
WritesFraction [] nanos = nanos ≡ 0
WritesFraction (b ∷ digits) nanos = (b ≡ dot) × WritesNanos digits nanos

-- `h:mm:ss`
pub record WritesClock (text : List ℕ) (number : ℕ) : Type 0 where
  pub hours : List ℕ
  pub minutes : List ℕ
  pub seconds : List ℕ
  pub hour : ℕ
  pub minute : ℕ
  pub second : ℕ
  pub spelled : text ≡ hours ++ (colon ∷ (minutes ++ (colon ∷ seconds)))
  pub writes_hour : WritesWhole hours hour
  pub writes_minute : WritesShort LAST_MINUTE minutes minute
  pub writes_second : WritesShort LAST_SECOND seconds second
  pub total : hour * 3600 + minute * 60 + second ≡ number

-- how whole seconds are spelled
abbrev pub WritesSeconds : List ℕ → ℕ → Type 0
WritesSeconds text number = WritesWhole text number ⊎ WritesClock text number

-- whole seconds, and a fraction
pub record WritesNanoseconds (text : List ℕ) (number : ℕ) : Type 0 where
  pub whole : List ℕ
  pub fraction : List ℕ
  pub seconds : ℕ
  pub nanos : ℕ
  pub spelled : text ≡ whole ++ fraction
  pub writes_seconds : WritesSeconds whole seconds
  pub writes_fraction : WritesFraction fraction nanos
  pub total : seconds * 10 ^ FRACTION_DIGITS + nanos ≡ number

-- A normal play time (RFC 2326, 3.6; RFC 7826, 4.4.2).
abbrev pub IsNptTime : List ℕ → NptTime → Type 0
IsNptTime text Now = text ≡ codes "now"
IsNptTime text (At nanoseconds) = WritesNanoseconds text nanoseconds × (nanoseconds ≤ latest)

-- nothing for 0, or the mark and a short number
abbrev pub WritesMarked : ℕ → List ℕ → ℕ → Type 0
WritesMarked mark [] number = number ≡ 0
WritesMarked mark (b ∷ digits) number = (b ≡ mark) × WritesShort LAST_SHORT digits number

-- A SMPTE timestamp (RFC 2326, 3.5; RFC 7826, 4.4.1): `hh:mm:ss`, `:ff` and `.pp`.
pub record IsSmpteTime (text : List ℕ) (time : Smpte) : Type 0 where
  pub hours : List ℕ
  pub minutes : List ℕ
  pub seconds : List ℕ
  pub frames : List ℕ
  pub parts : List ℕ
  pub spelled : text ≡ (hours ++ (colon ∷ (minutes ++ (colon ∷ (seconds ++ frames))))) ++ parts
  pub writes_hours : WritesShort LAST_SHORT hours time.hours
  pub writes_minutes : WritesShort LAST_MINUTE minutes time.minutes
  pub writes_seconds : WritesShort LAST_SECOND seconds time.seconds
  pub writes_frames : WritesMarked colon frames time.frames
  pub writes_parts : WritesMarked dot parts time.parts

-- An absolute time (RFC 2326, 3.7; RFC 7826, 4.4.3): `YYYYMMDDThhmmss`, a fraction and `Z`.
pub record IsMoment (text : List ℕ) (moment : Moment) : Type 0 where
  pub year : List ℕ
  pub month : List ℕ
  pub day : List ℕ
  pub hour : List ℕ
  pub minute : List ℕ
  pub second : List ℕ
  pub fraction : List ℕ
  pub spelled : text ≡ year ++ (month ++ (day ++ (upper_t ∷ (hour ++ (minute ++ (second ++ (fraction ++ (upper_z ∷ []))))))))
  pub writes_year : WritesFixed YEAR_DIGITS 0 LAST_YEAR year moment.year
  pub writes_month : WritesFixed SHORT_DIGITS 1 LAST_MONTH month moment.month
  pub writes_day : WritesFixed SHORT_DIGITS 1 LAST_DAY day moment.day
  pub writes_hour : WritesFixed SHORT_DIGITS 0 LAST_HOUR hour moment.hour
  pub writes_minute : WritesFixed SHORT_DIGITS 0 LAST_MINUTE minute moment.minute
  pub writes_second : WritesFixed SHORT_DIGITS 0 LEAP_SECOND second moment.second
  pub writes_fraction : WritesFraction fraction moment.nanos

-- nothing where there is no time
abbrev pub IsOptional : {A : Type 0} → (List ℕ → A → Type 0) → List ℕ → Option A → Type 0
IsOptional spells text None = text ≡ []
IsOptional spells text (Some time) = spells text time

-- `npt=` may lack its begin or its end, and not both.
abbrev pub HasOne : Option NptTime → Option NptTime → Type 0
HasOne None None = ⊥
HasOne None (Some to) = Unit {0}
HasOne (Some from) to = Unit {0}

-- what stands in a unit on both sides of the `-`
abbrev pub AreTimes : TimeUnit → List ℕ → List ℕ → Range → Type 0
AreTimes units.Npt begin end (ranges.Npt from to) = HasOne from to × (IsOptional IsNptTime begin from × IsOptional IsNptTime end to)
AreTimes (units.Smpte rate) begin end (ranges.Smpte own from to) = (own ≡ rate) × (IsSmpteTime begin from × IsOptional IsSmpteTime end to)
AreTimes units.Clock begin end (ranges.Clock from to) = IsMoment begin from × IsOptional IsMoment end to
AreTimes unit begin end range = ⊥

-- The value of a Range header (RFC 2326, 12.29; RFC 7826, 18.40) that means a range: a unit, `=`, a begin, `-` and an end.
pub record SpellsRange (value : List ℕ) (range : Range) : Type 0 where
  pub name : List ℕ
  pub unit : TimeUnit
  pub begin : List ℕ
  pub end : List ℕ
  pub spelled : value ≡ name ++ (equals_sign ∷ (begin ++ (hyphen ∷ end)))
  pub named : unit_of name ≡ Some unit
  pub times : AreTimes unit begin end range
