-- What a value means can be written.
use Rattle.std.proofs.Common.{◌≡◌, ℕ, Bool, true, false, cond, List, Option, None, Some, Result, Ok, Err, sym}
use Rattle.std.specs.Prelude.{IfOk}
use Rattle.rtsp_range.specs.declared.unit.TimeUnit.{TimeUnit}
use Rattle.rtsp_range.specs.declared.unit.TimeUnit.TheVariants as units
use Rattle.rtsp_range.specs.declared.range.Range.{Range}
use Rattle.rtsp_range.specs.declared.fault.RangeFault.{RangeFault}
use Rattle.rtsp_range.specs.declared.fault.RangeFault.TheVariants as faults
use Rattle.rtsp_range.specs.Smpte.{smpte_range}
use Rattle.rtsp_range.specs.Clock.{clock_range}
use Rattle.rtsp_range.specs.Meaning.{Version, names_parameter, range_in, unit_and_times, range_behind, meaning}
use Rattle.rtsp_range.specs.Writable.{can_be_written}
use Rattle.rtsp_range.proofs.SoundLemmas.{found_ok}
use Rattle.rtsp_range.proofs.NptSound.{npt_sound}
use Rattle.rtsp_range.proofs.SmpteSound.{smpte_sound}
use Rattle.rtsp_range.proofs.ClockSound.{clock_sound}

in_unit : (unit : TimeUnit) (text : List ℕ) (range : Range) → range_in unit text ≡ Ok range → can_be_written range ≡ true
in_unit units.Npt text range h = npt_sound text range h
in_unit (units.Smpte rate) text range h = smpte_sound rate text range (found_ok (smpte_range rate text) faults.Time range h)
in_unit units.Clock text range h = clock_sound text range (found_ok (clock_range text) faults.Time range h)

unless : (named : Bool) (unit : TimeUnit) (text : List ℕ) (range : Range) → cond named (Err faults.TimeParameter) (range_in unit text) ≡ Ok range → can_be_written range ≡ true
unless true unit text range h = cc
unless false unit text range h = in_unit unit text range h

with_unit : (version : Version) (found : Option (TimeUnit × List ℕ)) (range : Range) → range_behind version found ≡ Ok range → can_be_written range ≡ true
with_unit version None range h = cc
with_unit version (Some found) range h = unless (names_parameter version found.1) found.0 found.1 range h

pub meaning_sound : (version : Version) (value : List ℕ) (range : Range) → meaning version value ≡ Ok range → can_be_written range ≡ true
meaning_sound version value range h = with_unit version (unit_and_times value) range h

-- what was read in a unit can be written
pub writable_in : (unit : TimeUnit) (text : List ℕ) (read : Result Range RangeFault) → read ≡ range_in unit text → IfOk read (λ range. can_be_written range ≡ true)
writable_in unit text (Ok range) h = in_unit unit text range (sym h)
writable_in unit text (Err fault) h = tt
