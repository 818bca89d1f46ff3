-- A range of normal play times that was read has a begin or an end, neither too large.
use Rattle.std.proofs.Common.{◌≡◌, ℕ, Bool, true, false, ◌&&◌, ◌||◌, cond, List, Option, None, Some, Ok, Err, refl, sym, ◌∙◌, ap, arith}
use Rattle.std.specs.Option.{ok_or}
use Rattle.std.proofs.lemmas.Option.{same_Some}
use Rattle.gate_bytes.specs.Places.{cut_at}
use Rattle.rtsp_range.specs.declared.npt.NptTime.{NptTime}
use Rattle.rtsp_range.specs.declared.npt.NptTime.TheVariants.{Now, At}
use Rattle.rtsp_range.specs.declared.range.Range.{Range}
use Rattle.rtsp_range.specs.declared.range.Range.TheVariants as ranges
use Rattle.rtsp_range.specs.declared.fault.RangeFault.TheVariants as faults
use Rattle.rtsp_range.specs.Npt.{npt_part, is_too_large, npt_pair, npt_with, npt_range}
use Rattle.rtsp_range.specs.Writable.{if_there, is_npt_time, can_be_written}
use Rattle.rtsp_range.proofs.SoundLemmas.{found_ok}

time_fits : (time : Option NptTime) → is_too_large (Some time) ≡ false → if_there is_npt_time time ≡ true
time_fits None h = refl
time_fits (Some Now) h = refl
time_fits (Some (At n)) h = grind arith

pair_fits : (from to : Option (Option NptTime)) (range : Range) → is_too_large from ≡ false → is_too_large to ≡ false → npt_pair from to ≡ Some range → can_be_written range ≡ true
pair_fits None to range f t h = cc
pair_fits (Some from) None range f t h = cc
pair_fits (Some None) (Some None) range f t h = cc
pair_fits (Some (Some from)) (Some to) range f t h =
    let same : ranges.Npt (Some from) to ≡ range = same_Some _ _ h in
    ap can_be_written (sym same) ∙ ap (λ b. b && if_there is_npt_time to) (time_fits (Some from) f) ∙ time_fits to t
pair_fits (Some None) (Some (Some to)) range f t h =
    let same : ranges.Npt None (Some to) ≡ range = same_Some _ _ h in
    ap can_be_written (sym same) ∙ time_fits (Some to) t

between_with : (from to : Option (Option NptTime)) (range : Range) (f t : Bool) → is_too_large from ≡ f → is_too_large to ≡ t →
    cond (f || t) (Err faults.TooLarge) (ok_or (npt_pair from to) faults.Time) ≡ Ok range → can_be_written range ≡ true
between_with from to range true t ef et h = cc
between_with from to range false true ef et h = cc
between_with from to range false false ef et h = pair_fits from to range ef et (found_ok (npt_pair from to) faults.Time range h)

npt_sound_with : (parts : Option (List ℕ × List ℕ)) (range : Range) → npt_with parts ≡ Ok range → can_be_written range ≡ true
npt_sound_with None range h = cc
npt_sound_with (Some parts) range h = between_with (npt_part parts.0) (npt_part parts.1) range _ _ refl refl h

pub npt_sound : (text : List ℕ) (range : Range) → npt_range text ≡ Ok range → can_be_written range ≡ true
npt_sound text range h = npt_sound_with (cut_at 45 text) range h
