-- A SMPTE timestamp that was read has its fields in range.
use Rattle.std.proofs.Common.{◌≡◌, ℕ, Bool, true, false, ◌==◌, ◌&&◌, nat_le, cond, List, [], ◌∷◌, Option, None, Some, refl, sym, ◌∙◌, ap, arith}
use Rattle.std.specs.Prelude.{option_map}
use Rattle.std.proofs.lemmas.Option.{option_and_then_some, same_Some}
use Rattle.gate_bytes.specs.Places.{cut_at}
use Rattle.rtsp_range.specs.declared.smpte.Smpte.{Smpte}
use Rattle.rtsp_range.specs.declared.smpte.Rate.{Rate}
use Rattle.rtsp_range.specs.declared.range.Range.{Range}
use Rattle.rtsp_range.specs.declared.range.Range.TheVariants as ranges
use Rattle.rtsp_range.specs.Parts.{part_at, short_number}
use Rattle.rtsp_range.specs.Smpte.{marked_number, smpte_time, smpte_end, smpte_range}
use Rattle.rtsp_range.specs.Writable.{if_there, is_smpte_time, can_be_written}
use Rattle.rtsp_range.proofs.SoundLemmas.{short_bound}

marked_with : (digits : List ℕ) (marked : Bool) (n : ℕ) → cond marked (short_number 99 digits) None ≡ Some n → nat_le n 99 ≡ true
marked_with digits true n h = short_bound 99 digits n h
marked_with digits false n h = cc

marked_bound : (mark : ℕ) (text : List ℕ) (n : ℕ) → marked_number mark text ≡ Some n → nat_le n 99 ≡ true
marked_bound mark [] n h = let same : 0 ≡ n = same_Some _ _ h in ap (λ m. nat_le m 99) (sym same)
marked_bound mark (b ∷ digits) n h = marked_with digits (b == mark) n h

five : (a b c d e : Bool) → a ≡ true → b ≡ true → c ≡ true → d ≡ true → e ≡ true → (a && (b && (c && (d && e)))) ≡ true
five a b c d e ha hb hc hd he = grind arith

time_sound : (text : List ℕ) (time : Smpte) → smpte_time text ≡ Some time → is_smpte_time time ≡ true
unfolding smpte_time
time_sound text time h =
    option_and_then_some _ (marked_number 46 (part_at 46 text).1) time h (λ parts parts_is h1.
    option_and_then_some _ (cut_at 58 (part_at 46 text).0) time h1 (λ (first : List ℕ × List ℕ) first_is h2.
    option_and_then_some _ (cut_at 58 first.1) time h2 (λ (second : List ℕ × List ℕ) second_is h3.
    option_and_then_some _ (short_number 99 first.0) time h3 (λ hours hours_is h4.
    option_and_then_some _ (short_number 59 second.0) time h4 (λ minutes minutes_is h5.
    option_and_then_some _ (short_number 59 (part_at 58 second.1).0) time h5 (λ seconds seconds_is h6.
    option_and_then_some _ (marked_number 58 (part_at 58 second.1).1) time h6 (λ frames frames_is h7.
    let same : record { hours = hours; minutes = minutes; seconds = seconds; frames = frames; parts = parts } ≡ time = same_Some _ _ h7 in
    ap is_smpte_time (sym same) ∙ five _ _ _ _ _ (short_bound 99 first.0 hours hours_is) (short_bound 59 second.0 minutes minutes_is) (short_bound 59 (part_at 58 second.1).0 seconds seconds_is)
    (marked_bound 58 (part_at 58 second.1).1 frames frames_is) (marked_bound 46 (part_at 46 text).1 parts parts_is))))))))

end_sound : (text : List ℕ) (to : Option Smpte) → smpte_end text ≡ Some to → if_there is_smpte_time to ≡ true
end_sound [] to h = let same : None ≡ to = same_Some _ _ h in ap (if_there is_smpte_time) (sym same)
end_sound (b ∷ text) to h = mapped (smpte_time (b ∷ text)) to (time_sound (b ∷ text)) h where
  mapped : (time : Option Smpte) (to : Option Smpte) → ((t : Smpte) → time ≡ Some t → is_smpte_time t ≡ true) → option_map Some time ≡ Some to → if_there is_smpte_time to ≡ true
  mapped None to sound h = cc
  mapped (Some t) to sound h = let same : Some t ≡ to = same_Some _ _ h in ap (if_there is_smpte_time) (sym same) ∙ sound t refl

pub smpte_sound : (rate : Rate) (text : List ℕ) (range : Range) → smpte_range rate text ≡ Some range → can_be_written range ≡ true
unfolding smpte_range
smpte_sound rate text range h =
    option_and_then_some _ (cut_at 45 text) range h (λ (parts : List ℕ × List ℕ) parts_is h1.
    option_and_then_some _ (smpte_time parts.0) range h1 (λ from from_is h2.
    option_and_then_some _ (smpte_end parts.1) range h2 (λ to to_is h3.
    let same : ranges.Smpte rate from to ≡ range = same_Some _ _ h3 in
    ap can_be_written (sym same) ∙ ap (λ b. b && if_there is_smpte_time to) (time_sound parts.0 from from_is) ∙ end_sound parts.1 to to_is)))
