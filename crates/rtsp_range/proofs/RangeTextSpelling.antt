-- What is written is a spelling of what was written.
use Rattle.std.proofs.Common.{◌≡◌, inl, ℕ, ◌^◌, ◌<◌, ◌≤◌, ◌/◌, ◌%◌, Bool, true, false, ◌&&◌, ◌||◌, ◌==◌, nat_le, cond, [], ◌∷◌, Option, None, Some, refl, arith}
use Rattle.std.specs.Prelude.{codes, decimal}
use Rattle.std.specs.Option.{is_some}
use Rattle.std.proofs.lemmas.Bool.{and_parts}
use Rattle.std.proofs.lemmas.Fmt.{digits_decimal, digits_value-decimal, decimal_nonempty}
use Rattle.rtsp_range.specs.declared.npt.NptTime.{NptTime}
use Rattle.rtsp_range.specs.declared.npt.NptTime.TheVariants.{Now, At}
use Rattle.rtsp_range.specs.declared.smpte.Smpte.{Smpte}
use Rattle.rtsp_range.specs.declared.smpte.Rate.{Rate}
use Rattle.rtsp_range.specs.declared.smpte.Rate.TheVariants as rates
use Rattle.rtsp_range.specs.declared.clock.Moment.{Moment}
use Rattle.rtsp_range.specs.declared.unit.TimeUnit.TheVariants as units
use Rattle.rtsp_range.specs.declared.range.Range.{Range}
use Rattle.rtsp_range.specs.declared.range.Range.TheVariants as ranges
use Rattle.rtsp_range.specs.Npt.{latest}
use Rattle.rtsp_range.specs.Spellings.{WritesWhole, WritesShort, WritesFixed, WritesFraction, WritesMarked, IsNptTime, IsSmpteTime, IsMoment, IsOptional, HasOne, AreTimes, SpellsRange}
use Rattle.rtsp_range.specs.Writable.{if_there, is_npt_time, is_smpte_time, is_moment, can_be_written}
use Rattle.rtsp_range.specs.RangeText.{padded, without_zeros, fraction_text, npt_text, frames_text, parts_text, smpte_text, moment_text, text_if, range_text}
use Rattle.rtsp_range.proofs.DigitLemmas.{own}
use Rattle.rtsp_range.proofs.PadLemmas.{padded_digits, padded_long, padded_value}
use Rattle.rtsp_range.proofs.FractionLemmas.{nanos_digits, nanos_again}

le_of : (m n : ℕ) → nat_le m n ≡ true → m ≤ n
le_of m n h = grind (arith, h)

-- just so many digits
fixed : (width least most number : ℕ) → number < 10 ^ width → least ≤ number → number ≤ most → WritesFixed width least most (padded width number) number
fixed width least most number small low high = record {
  digits = padded_digits width number;
  long = omega (arith, padded_long width number);
  short = omega (arith, padded_long width number);
  value = padded_value width number small;
  low = low;
  high = high;
}

-- two digits, from 0 on or from 1 on
two : (most number : ℕ) → most < 100 → nat_le number most ≡ true → WritesFixed 2 0 most (padded 2 number) number
two most number h fits = let high = le_of number most fits in fixed 2 0 most number (omega (arith, h, high)) (omega arith) high

two_from_one : (most number : ℕ) → most < 100 → (nat_le 1 number && nat_le number most) ≡ true → WritesFixed 2 1 most (padded 2 number) number
two_from_one most number h fits =
    let parts = and_parts (nat_le 1 number) (nat_le number most) fits in
    let high = le_of number most parts.1 in
    fixed 2 1 most number (omega (arith, h, high)) (le_of 1 number parts.0) high

short : (most number : ℕ) → most < 100 → nat_le number most ≡ true → WritesShort most (padded 2 number) number
short most number h fits =
    let w = two most number h fits in
    record { digits = w.digits; long = omega (arith, w.long); short = w.short; value = w.value; low = w.low; high = w.high }

-- a part behind a mark, where it is not left out
marked : (mark number : ℕ) (none : Bool) → (none ≡ true → number ≡ 0) → nat_le number 99 ≡ true → WritesMarked mark (cond none [] (mark ∷ padded 2 number)) number
marked mark number true e fits = e refl
marked mark number false e fits = (refl, short 99 number (omega arith) fits)

both_zero : (frames parts : ℕ) → (frames == 0 && parts == 0) ≡ true → frames ≡ 0
both_zero frames parts h = let zeros = and_parts (frames == 0) (parts == 0) h in grind (arith, zeros.0)

is_zero : (number : ℕ) → (number == 0) ≡ true → number ≡ 0
is_zero number h = grind (arith, h)

fraction_by : (nanos : ℕ) (none : Bool) → (nanos == 0) ≡ none → nanos < 10 ^ 9 → WritesFraction (cond none [] (46 ∷ without_zeros (padded 9 nanos))) nanos
fraction_by nanos true e small = is_zero nanos e
fraction_by nanos false e small = (refl, record { digits = nanos_digits nanos; value = nanos_again nanos small })

fraction : (nanos : ℕ) → nanos < 10 ^ 9 → WritesFraction (fraction_text nanos) nanos
fraction nanos small = fraction_by nanos (nanos == 0) refl small

whole : (seconds : ℕ) → seconds < 2 ^ 64 → WritesWhole (decimal seconds) seconds
whole seconds h = record { digits = digits_decimal own seconds h; some = decimal_nonempty seconds h; value = digits_value-decimal own seconds h }

npt_at : (n : ℕ) → n ≤ latest → IsNptTime (npt_text (At n)) (At n)
npt_at n h = (
  record {
    whole = decimal (n / 10 ^ 9);
    fraction = fraction_text (n % 10 ^ 9);
    seconds = n / 10 ^ 9;
    nanos = n % 10 ^ 9;
    spelled = refl;
    writes_seconds = inl (whole (n / 10 ^ 9) (omega (arith, h)));
    writes_fraction = fraction (n % 10 ^ 9) (omega arith);
    total = omega arith;
  },
  h,
)

npt : (time : Option NptTime) → if_there is_npt_time time ≡ true → IsOptional IsNptTime (text_if npt_text time) time
npt None h = refl
npt (Some Now) h = refl
npt (Some (At n)) h = npt_at n (le_of n latest h)

has_one : (from to : Option NptTime) → (is_some from || is_some to) ≡ true → HasOne from to
has_one None None h = cc
has_one None (Some to) h = tt
has_one (Some from) to h = tt

timestamp : (time : Smpte) → is_smpte_time time ≡ true → IsSmpteTime (smpte_text time) time
timestamp time h =
    let one = and_parts (nat_le time.hours 99) (nat_le time.minutes 59 && (nat_le time.seconds 59 && (nat_le time.frames 99 && nat_le time.parts 99))) h in
    let two = and_parts (nat_le time.minutes 59) (nat_le time.seconds 59 && (nat_le time.frames 99 && nat_le time.parts 99)) one.1 in
    let three = and_parts (nat_le time.seconds 59) (nat_le time.frames 99 && nat_le time.parts 99) two.1 in
    let four = and_parts (nat_le time.frames 99) (nat_le time.parts 99) three.1 in
    record {
      hours = padded 2 time.hours;
      minutes = padded 2 time.minutes;
      seconds = padded 2 time.seconds;
      frames = frames_text time.frames time.parts;
      parts = parts_text time.parts;
      spelled = refl;
      writes_hours = short 99 time.hours (omega arith) one.0;
      writes_minutes = short 59 time.minutes (omega arith) two.0;
      writes_seconds = short 59 time.seconds (omega arith) three.0;
      writes_frames = marked 58 time.frames (time.frames == 0 && time.parts == 0) (both_zero time.frames time.parts) four.0;
      writes_parts = marked 46 time.parts (time.parts == 0) (is_zero time.parts) four.1;
    }

smpte_end : (to : Option Smpte) → if_there is_smpte_time to ≡ true → IsOptional IsSmpteTime (text_if smpte_text to) to
smpte_end None h = refl
smpte_end (Some time) h = timestamp time h

moment_is : (moment : Moment) → is_moment moment ≡ true → IsMoment (moment_text moment) moment
moment_is moment h =
    let month = nat_le 1 moment.month && nat_le moment.month 12 in
    let day = nat_le 1 moment.day && nat_le moment.day 31 in
    let minute = nat_le moment.minute 59 && (nat_le moment.second 60 && nat_le moment.nanos 999999999) in
    let all = and_parts (nat_le moment.year 9999 && (month && day)) (nat_le moment.hour 23 && minute) h in
    let date = and_parts (nat_le moment.year 9999) (month && day) all.0 in
    let days = and_parts month day date.1 in
    let time = and_parts (nat_le moment.hour 23) minute all.1 in
    let later = and_parts (nat_le moment.minute 59) (nat_le moment.second 60 && nat_le moment.nanos 999999999) time.1 in
    let last = and_parts (nat_le moment.second 60) (nat_le moment.nanos 999999999) later.1 in
    let year = le_of moment.year 9999 date.0 in
    let nanos = le_of moment.nanos 999999999 last.1 in
    record {
      year = padded 4 moment.year;
      month = padded 2 moment.month;
      day = padded 2 moment.day;
      hour = padded 2 moment.hour;
      minute = padded 2 moment.minute;
      second = padded 2 moment.second;
      fraction = fraction_text moment.nanos;
      spelled = refl;
      writes_year = fixed 4 0 9999 moment.year (omega (arith, year)) (omega arith) year;
      writes_month = two_from_one 12 moment.month (omega arith) days.0;
      writes_day = two_from_one 31 moment.day (omega arith) days.1;
      writes_hour = two 23 moment.hour (omega arith) time.0;
      writes_minute = two 59 moment.minute (omega arith) later.0;
      writes_second = two 60 moment.second (omega arith) last.0;
      writes_fraction = fraction moment.nanos (omega (arith, nanos));
    }

clock_end : (to : Option Moment) → if_there is_moment to ≡ true → IsOptional IsMoment (text_if moment_text to) to
clock_end None h = refl
clock_end (Some moment) h = moment_is moment h

smpte_spells : (rate : Rate) (from : Smpte) (to : Option Smpte) → AreTimes (units.Smpte rate) (smpte_text from) (text_if smpte_text to) (ranges.Smpte rate from to) → SpellsRange (range_text (ranges.Smpte rate from to)) (ranges.Smpte rate from to)
smpte_spells rates.Thirty from to h =
    record { name = codes "smpte"; unit = units.Smpte rates.Thirty; begin = smpte_text from; end = text_if smpte_text to; spelled = refl; named = refl; times = h }
smpte_spells rates.ThirtyDrop from to h =
    record { name = codes "smpte-30-drop"; unit = units.Smpte rates.ThirtyDrop; begin = smpte_text from; end = text_if smpte_text to; spelled = refl; named = refl; times = h }
smpte_spells rates.TwentyFive from to h =
    record { name = codes "smpte-25"; unit = units.Smpte rates.TwentyFive; begin = smpte_text from; end = text_if smpte_text to; spelled = refl; named = refl; times = h }

pub written_spells : (range : Range) → can_be_written range ≡ true → SpellsRange (range_text range) range
written_spells (ranges.Npt from to) h =
    let all = and_parts (is_some from || is_some to) (if_there is_npt_time from && if_there is_npt_time to) h in
    let times = and_parts (if_there is_npt_time from) (if_there is_npt_time to) all.1 in
    record {
      name = codes "npt";
      unit = units.Npt;
      begin = text_if npt_text from;
      end = text_if npt_text to;
      spelled = refl;
      named = refl;
      times = (has_one from to all.0, (npt from times.0, npt to times.1));
    }
written_spells (ranges.Smpte rate from to) h =
    let times = and_parts (is_smpte_time from) (if_there is_smpte_time to) h in
    smpte_spells rate from to (refl, (timestamp from times.0, smpte_end to times.1))
written_spells (ranges.Clock from to) h =
    let times = and_parts (is_moment from) (if_there is_moment to) h in
    record {
      name = codes "clock";
      unit = units.Clock;
      begin = moment_text from;
      end = text_if moment_text to;
      spelled = refl;
      named = refl;
      times = (moment_is from times.0, clock_end to times.1);
    }
