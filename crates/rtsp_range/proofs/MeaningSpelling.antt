-- What a value means is spelled by it.
use Rattle.std.proofs.Common.{◌≡◌, ℕ, Bool, true, false, cond, List, ◌∷◌, ◌++◌, Option, None, Some, Ok, Err, refl, ◌∙◌, ap}
use Rattle.std.proofs.lemmas.Option.{option_and_then_some, same_Some}
use Rattle.gate_bytes.specs.Places.{cut_at}
use Rattle.gate_bytes.proofs.SeamLemmas.{cut_joined}
use Rattle.rtsp_range.specs.declared.unit.TimeUnit.{TimeUnit}
use Rattle.rtsp_range.specs.declared.unit.TimeUnit.TheVariants as units
use Rattle.rtsp_range.specs.declared.range.Range.{Range}
use Rattle.rtsp_range.specs.declared.fault.RangeFault.TheVariants as faults
use Rattle.rtsp_range.specs.Smpte.{smpte_range}
use Rattle.rtsp_range.specs.Clock.{clock_range}
use Rattle.rtsp_range.specs.Meaning.{Version, unit_of, names_parameter, range_in, unit_and_times, range_behind, meaning}
use Rattle.rtsp_range.specs.Spellings.{SpellsRange}
use Rattle.rtsp_range.proofs.SoundLemmas.{found_ok}
use Rattle.rtsp_range.proofs.NptSpelling.{Dashed, npt_spelled}
use Rattle.rtsp_range.proofs.SmpteSpelling.{smpte_spelled}
use Rattle.rtsp_range.proofs.ClockSpelling.{clock_spelled}

in_unit : (unit : TimeUnit) (text : List ℕ) (range : Range) → range_in unit text ≡ Ok range → Dashed unit text range
in_unit units.Npt text range h = npt_spelled text range h
in_unit (units.Smpte rate) text range h = smpte_spelled rate text range (found_ok (smpte_range rate text) faults.Time range h)
in_unit units.Clock text range h = clock_spelled text range (found_ok (clock_range text) faults.Time range h)

unless : (named : Bool) (unit : TimeUnit) (text : List ℕ) (range : Range) → cond named (Err faults.TimeParameter) (range_in unit text) ≡ Ok range → Dashed unit text range
unless true unit text range h = cc
unless false unit text range h = in_unit unit text range h

-- the name of a unit, `=` and the text behind it
record Named (value : List ℕ) (found : TimeUnit × List ℕ) : Type 0 where
  pub name : List ℕ
  pub spelled : value ≡ name ++ (61 ∷ found.1)
  pub named : unit_of name ≡ Some found.0

unit_spelled : (value : List ℕ) (found : TimeUnit × List ℕ) → unit_and_times value ≡ Some found → Named value found
unfolding unit_and_times
unit_spelled value found h =
    option_and_then_some _ (cut_at 61 value) found h (λ (parts : List ℕ × List ℕ) parts_are h1.
    option_and_then_some _ (unit_of parts.0) found h1 (λ unit unit_is h2.
    let same : ◌≡◌ {A = TimeUnit × List ℕ} (unit, parts.1) found = same_Some _ _ h2 in
    record {
      name = parts.0;
      spelled = cut_joined 61 value parts parts_are ∙ ap (λ (p : TimeUnit × List ℕ). parts.0 ++ (61 ∷ p.1)) same;
      named = unit_is ∙ ap (λ (p : TimeUnit × List ℕ). Some p.0) same;
    }))

with_unit : (version : Version) (value : List ℕ) (found : Option (TimeUnit × List ℕ)) (range : Range) → unit_and_times value ≡ found → range_behind version found ≡ Ok range → SpellsRange value range
with_unit version value None range e h = cc
with_unit version value (Some found) range e h =
    let dashed = unless (names_parameter version found.1) found.0 found.1 range h in
    let unit = unit_spelled value found e in
    record {
      name = unit.name;
      unit = found.0;
      begin = dashed.begin;
      end = dashed.end;
      spelled = unit.spelled ∙ ap (λ t. unit.name ++ (61 ∷ t)) dashed.spelled;
      named = unit.named;
      times = dashed.times;
    }

pub meaning_spelled : (version : Version) (value : List ℕ) (range : Range) → meaning version value ≡ Ok range → SpellsRange value range
meaning_spelled version value range h = with_unit version value (unit_and_times value) range refl h
