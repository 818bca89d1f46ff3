-- SMPTE timestamps that are spelled so are read.
use Rattle.std.proofs.Common.{◌≡◌, ℕ, ◌<◌, true, false, ◌==◌, List, [], ◌∷◌, ◌++◌, length, Option, None, Some, refl, ◌∙◌, ap, arith}
use Rattle.std.specs.Prelude.{option_map}
use Rattle.std.specs.Char.{is_ascii_digit}
use Rattle.std.proofs.lemmas.List.{length-append}
use Rattle.gate_bytes.specs.Places.{cut_at}
use Rattle.gate_bytes.proofs.SeamLemmas.{lacks, lacks_append, digits_lack, cut_at_seam}
use Rattle.rtsp_range.specs.declared.smpte.Smpte.{Smpte}
use Rattle.rtsp_range.specs.declared.smpte.Rate.{Rate}
use Rattle.rtsp_range.specs.declared.range.Range.TheVariants as ranges
use Rattle.rtsp_range.specs.Parts.{part_at, short_number}
use Rattle.rtsp_range.specs.Smpte.{marked_number, smpte_time, smpte_end, smpte_range}
use Rattle.rtsp_range.specs.Spellings.{IsSmpteTime, IsOptional}
use Rattle.rtsp_range.proofs.CutLemmas.{part_lacks, bind_some}
use Rattle.rtsp_range.proofs.NumberMeans.{short_means, marked_means, marked_lacks, marked_begins, part_means}

-- a timestamp without its parts of a frame
abbrev main_of : (text : List ℕ) (time : Smpte) → IsSmpteTime text time → List ℕ
main_of text time s = s.hours ++ (58 ∷ (s.minutes ++ (58 ∷ (s.seconds ++ s.frames))))

main_lacks : (byte : ℕ) (text : List ℕ) (time : Smpte) (s : IsSmpteTime text time) → is_ascii_digit byte ≡ false → (58 == byte) ≡ false → lacks byte (main_of text time s) ≡ true
main_lacks byte text time s no_digit no_colon =
    let last = s.seconds ++ s.frames in
    lacks_append byte s.hours (58 ∷ (s.minutes ++ (58 ∷ last))) (digits_lack byte s.hours no_digit s.writes_hours.digits)
    (part_lacks byte 58 (s.minutes ++ (58 ∷ last)) false no_colon
    (lacks_append byte s.minutes (58 ∷ last) (digits_lack byte s.minutes no_digit s.writes_minutes.digits)
    (part_lacks byte 58 last false no_colon
    (lacks_append byte s.seconds s.frames (digits_lack byte s.seconds no_digit s.writes_seconds.digits) (marked_lacks byte 58 s.frames time.frames s.writes_frames no_digit no_colon)))))

-- It holds no byte but digits and its marks.
pub time_lacks : (byte : ℕ) (text : List ℕ) (time : Smpte) → IsSmpteTime text time → is_ascii_digit byte ≡ false → (46 == byte) ≡ false → (58 == byte) ≡ false → lacks byte text ≡ true
time_lacks byte text time s no_digit no_point no_colon =
    ap (lacks byte) s.spelled ∙ lacks_append byte (main_of text time s) s.parts (main_lacks byte text time s no_digit no_colon) (marked_lacks byte 46 s.parts time.parts s.writes_parts no_digit no_point)

time_means : (text : List ℕ) (time : Smpte) → IsSmpteTime text time → smpte_time text ≡ Some time
unfolding smpte_time
time_means text time s =
    let last = s.seconds ++ s.frames in
    let rest = s.minutes ++ (58 ∷ last) in
    let cut : ◌≡◌ {A = List ℕ × List ℕ} (part_at 46 text) (main_of text time s, s.parts) =
    ap (part_at 46) s.spelled ∙ part_means 46 (main_of text time s) s.parts (main_lacks 46 text time s refl refl) (marked_begins 46 s.parts time.parts s.writes_parts) in
    let seam : ◌≡◌ {A = List ℕ × List ℕ} (part_at 58 last) (s.seconds, s.frames) =
    part_means 58 s.seconds s.frames (digits_lack 58 s.seconds refl s.writes_seconds.digits) (marked_begins 58 s.frames time.frames s.writes_frames) in
    bind_some _ (marked_number 46 (part_at 46 text).1) time.parts _ (ap (λ (p : List ℕ × List ℕ). marked_number 46 p.1) cut ∙ marked_means 46 s.parts time.parts s.writes_parts)
    (bind_some _ (cut_at 58 (part_at 46 text).0) (s.hours, rest) _
    (ap (λ (p : List ℕ × List ℕ). cut_at 58 p.0) cut ∙ cut_at_seam 58 s.hours rest (digits_lack 58 s.hours refl s.writes_hours.digits))
    (bind_some _ (cut_at 58 rest) (s.minutes, last) _ (cut_at_seam 58 s.minutes last (digits_lack 58 s.minutes refl s.writes_minutes.digits))
    (bind_some _ (short_number 99 s.hours) time.hours _ (short_means 99 s.hours time.hours s.writes_hours)
    (bind_some _ (short_number 59 s.minutes) time.minutes _ (short_means 59 s.minutes time.minutes s.writes_minutes)
    (bind_some _ (short_number 59 (part_at 58 last).0) time.seconds _ (ap (λ (p : List ℕ × List ℕ). short_number 59 p.0) seam ∙ short_means 59 s.seconds time.seconds s.writes_seconds)
    (bind_some _ (marked_number 58 (part_at 58 last).1) time.frames _ (ap (λ (p : List ℕ × List ℕ). marked_number 58 p.1) seam ∙ marked_means 58 s.frames time.frames s.writes_frames)
    refl))))))

end_there : (text : List ℕ) → 0 < length text → smpte_end text ≡ option_map Some (smpte_time text)
end_there [] h = absurd (omega (arith, h))
end_there (b ∷ text) h = refl

time_long : (text : List ℕ) (time : Smpte) → IsSmpteTime text time → 0 < length text
time_long text time s =
    omega (arith, ap length s.spelled, length-append (main_of text time s) s.parts, length-append s.hours (58 ∷ (s.minutes ++ (58 ∷ (s.seconds ++ s.frames)))), s.writes_hours.long)

end_means : (text : List ℕ) (to : Option Smpte) → IsOptional IsSmpteTime text to → smpte_end text ≡ Some to
end_means text None h = ap smpte_end h
end_means text (Some time) h = end_there text (time_long text time h) ∙ ap (option_map Some) (time_means text time h)

-- A range of timestamps that is spelled so is read.
pub smpte_means : (rate : Rate) (begin end : List ℕ) (from : Smpte) (to : Option Smpte) → IsSmpteTime begin from → IsOptional IsSmpteTime end to →
    smpte_range rate (begin ++ (45 ∷ end)) ≡ Some (ranges.Smpte rate from to)
unfolding smpte_range
smpte_means rate begin end from to f t =
    bind_some _ (cut_at 45 (begin ++ (45 ∷ end))) (begin, end) _ (cut_at_seam 45 begin end (time_lacks 45 begin from f refl refl refl))
    (bind_some _ (smpte_time begin) from _ (time_means begin from f)
    (bind_some _ (smpte_end end) to _ (end_means end to t)
    refl))

pub end_lacks : (byte : ℕ) (text : List ℕ) (to : Option Smpte) → IsOptional IsSmpteTime text to → is_ascii_digit byte ≡ false → (46 == byte) ≡ false → (58 == byte) ≡ false → lacks byte text ≡ true
end_lacks byte text None h no_digit no_point no_colon = ap (lacks byte) h
end_lacks byte text (Some time) h no_digit no_point no_colon = time_lacks byte text time h no_digit no_point no_colon
