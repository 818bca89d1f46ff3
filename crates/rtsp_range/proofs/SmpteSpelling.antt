-- SMPTE timestamps that were read are spelled so.
use Rattle.std.proofs.Common.{◌≡◌, ℕ, Bool, true, false, ◌==◌, cond, List, [], ◌∷◌, ◌++◌, Option, None, Some, refl, sym, ◌∙◌, ap, subst, arith}
use Rattle.std.specs.Prelude.{option_map}
use Rattle.std.proofs.lemmas.Option.{option_and_then_some, same_Some}
use Rattle.gate_bytes.specs.Places.{cut_at}
use Rattle.gate_bytes.proofs.SeamLemmas.{cut_joined}
use Rattle.rtsp_range.specs.declared.smpte.Smpte.{Smpte}
use Rattle.rtsp_range.specs.declared.smpte.Rate.{Rate}
use Rattle.rtsp_range.specs.declared.unit.TimeUnit.TheVariants as units
use Rattle.rtsp_range.specs.declared.range.Range.{Range}
use Rattle.rtsp_range.specs.Parts.{part_at, short_number}
use Rattle.rtsp_range.specs.Smpte.{marked_number, smpte_time, smpte_end, smpte_range}
use Rattle.rtsp_range.specs.Spellings.{WritesShort, WritesMarked, IsSmpteTime, IsOptional, AreTimes}
use Rattle.rtsp_range.proofs.JoinLemmas.{part_joined}
use Rattle.rtsp_range.proofs.NumberSpelling.{short_spelled}
use Rattle.rtsp_range.proofs.NptSpelling.{Dashed}

marked_with : (mark b : ℕ) (digits : List ℕ) (marked : Bool) (number : ℕ) → (b == mark) ≡ marked → cond marked (short_number 99 digits) None ≡ Some number → (b ≡ mark) × WritesShort 99 digits number
marked_with mark b digits true number e h = (grind (arith, e), short_spelled 99 digits number h)
marked_with mark b digits false number e h = cc

marked_spelled : (mark : ℕ) (text : List ℕ) (number : ℕ) → marked_number mark text ≡ Some number → WritesMarked mark text number
marked_spelled mark [] number h = sym (same_Some _ _ h)
marked_spelled mark (b ∷ digits) number h = marked_with mark b digits (b == mark) number refl h

time_spelled : (text : List ℕ) (time : Smpte) → smpte_time text ≡ Some time → IsSmpteTime text time
unfolding smpte_time
time_spelled text time h =
    option_and_then_some _ (marked_number 46 (part_at 46 text).1) time h (λ parts parts_is h1.
    option_and_then_some _ (cut_at 58 (part_at 46 text).0) time h1 (λ (first : List ℕ × List ℕ) first_is h2.
    option_and_then_some _ (cut_at 58 first.1) time h2 (λ (second : List ℕ × List ℕ) second_is h3.
    option_and_then_some _ (short_number 99 first.0) time h3 (λ hours hours_is h4.
    option_and_then_some _ (short_number 59 second.0) time h4 (λ minutes minutes_is h5.
    option_and_then_some _ (short_number 59 (part_at 58 second.1).0) time h5 (λ seconds seconds_is h6.
    option_and_then_some _ (marked_number 58 (part_at 58 second.1).1) time h6 (λ frames frames_is h7.
    let last : second.1 ≡ (part_at 58 second.1).0 ++ (part_at 58 second.1).1 = part_joined 58 second.1 in
    let rest : first.1 ≡ second.0 ++ (58 ∷ ((part_at 58 second.1).0 ++ (part_at 58 second.1).1)) = cut_joined 58 first.1 second second_is ∙ ap (λ t. second.0 ++ (58 ∷ t)) last in
    let main : (part_at 46 text).0 ≡ first.0 ++ (58 ∷ (second.0 ++ (58 ∷ ((part_at 58 second.1).0 ++ (part_at 58 second.1).1)))) =
    cut_joined 58 (part_at 46 text).0 first first_is ∙ ap (λ t. first.0 ++ (58 ∷ t)) rest in
    subst (IsSmpteTime text) (same_Some _ _ h7) (record {
      hours = first.0;
      minutes = second.0;
      seconds = (part_at 58 second.1).0;
      frames = (part_at 58 second.1).1;
      parts = (part_at 46 text).1;
      spelled = part_joined 46 text ∙ ap (λ t. t ++ (part_at 46 text).1) main;
      writes_hours = short_spelled 99 first.0 hours hours_is;
      writes_minutes = short_spelled 59 second.0 minutes minutes_is;
      writes_seconds = short_spelled 59 (part_at 58 second.1).0 seconds seconds_is;
      writes_frames = marked_spelled 58 (part_at 58 second.1).1 frames frames_is;
      writes_parts = marked_spelled 46 (part_at 46 text).1 parts parts_is;
    }))))))))

end_with : (text : List ℕ) (found : Option Smpte) (to : Option Smpte) → smpte_time text ≡ found → option_map Some found ≡ Some to → IsOptional IsSmpteTime text to
end_with text None to e h = cc
end_with text (Some time) to e h = subst (IsOptional IsSmpteTime text) (same_Some _ _ h) (time_spelled text time e)

end_spelled : (text : List ℕ) (to : Option Smpte) → smpte_end text ≡ Some to → IsOptional IsSmpteTime text to
end_spelled [] to h = subst (IsOptional IsSmpteTime []) (same_Some _ _ h) refl
end_spelled (b ∷ text) to h = end_with (b ∷ text) (smpte_time (b ∷ text)) to refl h

pub smpte_spelled : (rate : Rate) (text : List ℕ) (range : Range) → smpte_range rate text ≡ Some range → Dashed (units.Smpte rate) text range
unfolding smpte_range
smpte_spelled rate text range h =
    option_and_then_some _ (cut_at 45 text) range h (λ (parts : List ℕ × List ℕ) parts_are h1.
    option_and_then_some _ (smpte_time parts.0) range h1 (λ from from_is h2.
    option_and_then_some _ (smpte_end parts.1) range h2 (λ to to_is h3.
    record {
      begin = parts.0;
      end = parts.1;
      spelled = cut_joined 45 text parts parts_are;
      times = subst (AreTimes (units.Smpte rate) parts.0 parts.1) (same_Some _ _ h3) (refl, (time_spelled parts.0 from from_is, end_spelled parts.1 to to_is));
    })))
