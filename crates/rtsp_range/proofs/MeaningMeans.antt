-- What is spelled so means that range.
use Rattle.std.proofs.Common.{◌≡◌, ℕ, ◌+◌, Bool, true, false, ◌&&◌, ◌==◌, not, nat_eq, nat_lt, cond, List, [], ◌∷◌, ◌++◌, Option, None, Some, Ok, Err, refl, sym, ◌∙◌, ap, arith}
use Rattle.std.specs.Prelude.{codes}
use Rattle.std.specs.Option.{ok_or}
use Rattle.std.specs.Char.{to_ascii_lowercase}
use Rattle.std.proofs.lemmas.Bool.{and_parts}
use Rattle.gate_bytes.specs.Tokens.{equal_fold}
use Rattle.gate_bytes.specs.Places.{cut_at}
use Rattle.gate_bytes.proofs.SeamLemmas.{lacks, lacks_append, cut_at_seam}
use Rattle.rtsp_range.specs.declared.smpte.Rate.TheVariants as rates
use Rattle.rtsp_range.specs.declared.unit.TimeUnit.{TimeUnit}
use Rattle.rtsp_range.specs.declared.unit.TimeUnit.TheVariants as units
use Rattle.rtsp_range.specs.declared.range.Range.{Range}
use Rattle.rtsp_range.specs.declared.range.Range.TheVariants as ranges
use Rattle.rtsp_range.specs.declared.fault.RangeFault.TheVariants as faults
use Rattle.rtsp_range.specs.Meaning.{Version, One, Two, unit_of, names_parameter, range_in, unit_and_times, range_behind, meaning}
use Rattle.rtsp_range.specs.Spellings.{AreTimes, SpellsRange}
use Rattle.rtsp_range.proofs.CutLemmas.{part_lacks, no_parameter, bind_some}
use Rattle.rtsp_range.proofs.NptMeans.{npt_means, npt_lacks}
use Rattle.rtsp_range.proofs.SmpteMeans as smpte
use Rattle.rtsp_range.proofs.ClockMeans as clock

-- only `=` is `=` without case
lower_by : (y : ℕ) (below upper : Bool) → nat_lt y 65 ≡ below → nat_lt y 91 ≡ upper → not (y == 61) ≡ true → (cond below y (cond upper (y + 32) y) == 61) ≡ false
lower_by y true upper b u h = grind (arith, h)
lower_by y false true b u h = grind (arith, b, u)
lower_by y false false b u h = grind (arith, h)

equals_by : (x y : ℕ) (same : Bool) → (x == 61) ≡ same → nat_eq (to_ascii_lowercase x) (to_ascii_lowercase y) ≡ true → (to_ascii_lowercase y == 61) ≡ false → not same ≡ true
equals_by x y true e fold other =
    let equal : x ≡ 61 = grind (arith, e) in
    let lower : nat_eq 61 (to_ascii_lowercase y) ≡ true = ap (λ z. nat_eq (to_ascii_lowercase z) (to_ascii_lowercase y)) (sym equal) ∙ fold in
    absurd (grind (arith, lower, other))
equals_by x y false e fold other = refl

fold_lacks : (a b : List ℕ) → equal_fold a b ≡ true → lacks 61 b ≡ true → lacks 61 a ≡ true
fold_lacks [] b fold h = refl
fold_lacks (x ∷ a) [] fold h = cc
fold_lacks (x ∷ a) (y ∷ b) fold h =
    let parts = and_parts (nat_eq (to_ascii_lowercase x) (to_ascii_lowercase y)) (equal_fold a b) fold in
    let others = and_parts (not (y == 61)) (lacks 61 b) h in
    ap (λ t. t && lacks 61 a) (equals_by x y (x == 61) refl parts.0 (lower_by y (nat_lt y 65) (nat_lt y 91) refl refl others.0)) ∙ fold_lacks a b parts.1 others.1

-- A unit's name holds no `=`.
name_by : (name : List ℕ) (unit : TimeUnit) (npt plain drop slow absolute : Bool) → equal_fold name (codes "npt") ≡ npt → equal_fold name (codes "smpte") ≡ plain →
    equal_fold name (codes "smpte-30-drop") ≡ drop → equal_fold name (codes "smpte-25") ≡ slow → equal_fold name (codes "clock") ≡ absolute →
    ◌≡◌ {A = Option TimeUnit} (cond npt (Some units.Npt) (cond plain (Some (units.Smpte rates.Thirty)) (cond drop (Some (units.Smpte rates.ThirtyDrop)) (cond slow (Some (units.Smpte rates.TwentyFive)) (cond absolute (Some units.Clock) None))))) (Some unit) →
    lacks 61 name ≡ true
name_by name unit true plain drop slow absolute n p d s a h = fold_lacks name (codes "npt") n refl
name_by name unit false true drop slow absolute n p d s a h = fold_lacks name (codes "smpte") p refl
name_by name unit false false true slow absolute n p d s a h = fold_lacks name (codes "smpte-30-drop") d refl
name_by name unit false false false true absolute n p d s a h = fold_lacks name (codes "smpte-25") s refl
name_by name unit false false false false true n p d s a h = fold_lacks name (codes "clock") a refl
name_by name unit false false false false false n p d s a h = cc

name_lacks : (name : List ℕ) (unit : TimeUnit) → unit_of name ≡ Some unit → lacks 61 name ≡ true
name_lacks name unit h = name_by name unit _ _ _ _ _ refl refl refl refl refl h

unit_means : (name text : List ℕ) (unit : TimeUnit) → unit_of name ≡ Some unit → ◌≡◌ {A = Option (TimeUnit × List ℕ)} (unit_and_times (name ++ (61 ∷ text))) (Some (unit, text))
unfolding unit_and_times
unit_means name text unit h =
    bind_some _ (cut_at 61 (name ++ (61 ∷ text))) (name, text) _ (cut_at_seam 61 name text (name_lacks name unit h))
    (bind_some _ (unit_of name) unit _ h
    refl)

-- a begin, `-` and an end without `;`
dashed : (begin end : List ℕ) → lacks 59 begin ≡ true → lacks 59 end ≡ true → lacks 59 (begin ++ (45 ∷ end)) ≡ true
dashed begin end b e = lacks_append 59 begin (45 ∷ end) b (part_lacks 59 45 end false refl e)

times_lack : (unit : TimeUnit) (begin end : List ℕ) (range : Range) → AreTimes unit begin end range → lacks 59 (begin ++ (45 ∷ end)) ≡ true
times_lack units.Npt begin end (ranges.Npt from to) h = dashed begin end (npt_lacks 59 begin from h.1.0 refl refl refl refl) (npt_lacks 59 end to h.1.1 refl refl refl refl)
times_lack units.Npt begin end (ranges.Smpte own from to) h = absurd h
times_lack units.Npt begin end (ranges.Clock from to) h = absurd h
times_lack (units.Smpte rate) begin end (ranges.Npt from to) h = absurd h
times_lack (units.Smpte rate) begin end (ranges.Smpte own from to) h = dashed begin end (smpte.time_lacks 59 begin from h.1.0 refl refl refl) (smpte.end_lacks 59 end to h.1.1 refl refl refl)
times_lack (units.Smpte rate) begin end (ranges.Clock from to) h = absurd h
times_lack units.Clock begin end (ranges.Npt from to) h = absurd h
times_lack units.Clock begin end (ranges.Smpte own from to) h = absurd h
times_lack units.Clock begin end (ranges.Clock from to) h = dashed begin end (clock.moment_lacks 59 begin from h.0 refl refl refl refl) (clock.end_lacks 59 end to h.1 refl refl refl refl)

times_mean : (unit : TimeUnit) (begin end : List ℕ) (range : Range) → AreTimes unit begin end range → range_in unit (begin ++ (45 ∷ end)) ≡ Ok range
times_mean units.Npt begin end (ranges.Npt from to) h = npt_means begin end from to h.0 h.1.0 h.1.1
times_mean units.Npt begin end (ranges.Smpte own from to) h = absurd h
times_mean units.Npt begin end (ranges.Clock from to) h = absurd h
times_mean (units.Smpte rate) begin end (ranges.Npt from to) h = absurd h
times_mean (units.Smpte rate) begin end (ranges.Smpte own from to) h =
    ap (λ o. ok_or o faults.Time) (smpte.smpte_means rate begin end from to h.1.0 h.1.1) ∙ ap (λ r. Ok (ranges.Smpte r from to)) (sym h.0)
times_mean (units.Smpte rate) begin end (ranges.Clock from to) h = absurd h
times_mean units.Clock begin end (ranges.Npt from to) h = absurd h
times_mean units.Clock begin end (ranges.Smpte own from to) h = absurd h
times_mean units.Clock begin end (ranges.Clock from to) h = ap (λ o. ok_or o faults.Time) (clock.clock_means begin end from to h.0 h.1)

unnamed : (version : Version) (text : List ℕ) → lacks 59 text ≡ true → names_parameter version text ≡ false
unnamed One text h = no_parameter text h
unnamed Two text h = refl

pub spelled_means : (version : Version) (value : List ℕ) (range : Range) → SpellsRange value range → meaning version value ≡ Ok range
spelled_means version value range s =
    let text = s.begin ++ (45 ∷ s.end) in
    ap (meaning version) s.spelled ∙ ap (range_behind version) (unit_means s.name text s.unit s.named)
    ∙ ap (λ named. cond named (Err faults.TimeParameter) (range_in s.unit text)) (unnamed version text (times_lack s.unit s.begin s.end range s.times))
    ∙ times_mean s.unit s.begin s.end range s.times
