-- What is read is spelled.
use Rattle.std.proofs.Common.{◌≡◌, ℕ, zero, suc, ◌+◌, ◌*◌, ◌≤◌, Bool, true, false, cond, ◌&&◌, ◌||◌, eqb, ltb, List, [], ◌∷◌, length, take, drop, Option, Some, None, Result, Ok, Err, inl, inr, refl, sym, ap, ◌∙◌, subst, arith}
use Rattle.std.proofs.lemmas.List.{append-nil, take-take, length-take-le, length-drop}
use Rattle.std.proofs.lemmas.Bool.{eqb-true, ltb-true, ltb-false, cases_Bool, or_cases, and_parts}
use Rattle.gate_bytes.specs.Ascii as ascii
use Rattle.rtsp_head.specs.Heads.{facts_of}
use Rattle.rtsp_head.specs.Items.{begins_blank, blank_lines, head_len, bad_span, when_whole, body_span, judged_span, headed_span, message_span, frame_span, span_of, first_extent, message_kind, bad_kind, shape_at}
use Rattle.rtsp_head.specs.Spellings.{AreEmptyLines, begins_frame, BeginsMessage, EndsEmpty, IsHead, IsMessage, IsBad, IsItem, Spells}
use Rattle.rtsp_head.specs.declared.facts.Facts.{Facts}
use Rattle.rtsp_head.specs.declared.facts.Length.{Length}
use Rattle.rtsp_head.specs.declared.facts.Length.TheVariants as lengths
use Rattle.rtsp_head.specs.declared.fault.HeadFault.{HeadFault}
use Rattle.rtsp_head.specs.declared.fault.HeadFault.TheVariants as faults
use Rattle.rtsp_head.specs.declared.item.BadKind.{BadKind}
use Rattle.rtsp_head.specs.declared.item.BadKind.TheVariants as bad
use Rattle.rtsp_head.specs.declared.item.Span.{Span}
use Rattle.rtsp_head.specs.declared.item.Extent.{Extent}
use Rattle.rtsp_frame.proofs.AloneLemmas.{none_behind, none_in_front, either_is}
use Rattle.rtsp_frame.proofs.EndLemmas.{ends_found, none_endless, take_sum}
use Rattle.rtsp_frame.proofs.FaultLemmas.{facts_take_no_memory}
use Rattle.rtsp_head.specs.declared.item.TheConstants.{MOST_BODY, MOST_HEAD}
use Rattle.rtsp_frame.proofs.ExtentLemmas.{not_below, unless_below, when_whole_some, head_within, frame_of, behind_blank, extent_parts}

-- Empty lines

lf_first : (b : ℕ) (lines : List ℕ) → eqb b ascii.lf ≡ true → AreEmptyLines lines → AreEmptyLines (b ∷ lines)
lf_first b lines ten h = record {
  ends = false ∷ h.ends;
  spelled = ap (λ (n : ℕ). n ∷ lines) (eqb-true b ascii.lf ten) ∙ ap (λ (l : List ℕ). ascii.lf ∷ l) h.spelled;
}

cr_lf_first : (b c : ℕ) (lines : List ℕ) → eqb b ascii.cr ≡ true → eqb c ascii.lf ≡ true → AreEmptyLines lines → AreEmptyLines (b ∷ c ∷ lines)
cr_lf_first b c lines cr ten h = record {
  ends = true ∷ h.ends;
  spelled =
      ap (λ (n : ℕ). n ∷ c ∷ lines) (eqb-true b ascii.cr cr)
      ∙ ap (λ (n : ℕ). ascii.cr ∷ n ∷ lines) (eqb-true c ascii.lf ten)
      ∙ ap (λ (l : List ℕ). ascii.cr ∷ ascii.lf ∷ l) h.spelled;
}

nothing_empty : AreEmptyLines []
nothing_empty = record { ends = []; spelled = refl }

-- the lines that this many bytes are, where the first byte begins an empty line or does not
lines_at : (b : ℕ) (xs : List ℕ) (k : ℕ) → (begins_blank (b ∷ xs) ≡ true → AreEmptyLines (b ∷ take k xs)) → AreEmptyLines (take (cond (begins_blank (b ∷ xs)) (suc k) 0) (b ∷ xs))
lines_at b xs k f =
    elim (cases_Bool (begins_blank (b ∷ xs))) [
      | inl blank ↦ subst (λ (t : Bool). AreEmptyLines (take (cond t (suc k) 0) (b ∷ xs))) (sym blank) (f blank)
      | inr full ↦ subst (λ (t : Bool). AreEmptyLines (take (cond t (suc k) 0) (b ∷ xs))) (sym full) nothing_empty
    ]

ten_blank : (ten x : Bool) (k : ℕ) → ten ≡ true → cond (ten || x) (suc k) 0 ≡ suc k
ten_blank true x k h = refl
ten_blank false x k h = cc

lines_found : (xs : List ℕ) → AreEmptyLines (take (blank_lines xs) xs)
lines_found [] = nothing_empty
lines_found (b ∷ []) =
    lines_at b [] 0 (λ blank.
    elim (or_cases (eqb b ascii.lf) (eqb b ascii.cr && false) blank) [
      | inl ten ↦ lf_first b [] ten nothing_empty
      | inr cr ↦ let never : false ≡ true = (and_parts (eqb b ascii.cr) false cr).1 in cc never
    ])
lines_found (b ∷ c ∷ xs) =
    lines_at b (c ∷ xs) (blank_lines (c ∷ xs)) (λ blank.
    elim (or_cases (eqb b ascii.lf) (eqb b ascii.cr && eqb c ascii.lf) blank) [
      | inl ten ↦ lf_first b (take (blank_lines (c ∷ xs)) (c ∷ xs)) ten (lines_found (c ∷ xs))
      | inr both ↦
          let parts = and_parts (eqb b ascii.cr) (eqb c ascii.lf) both in
          subst (λ (n : ℕ). AreEmptyLines (b ∷ take n (c ∷ xs))) (sym (ten_blank (eqb c ascii.lf) _ (blank_lines xs) parts.1))
          (cr_lf_first b c (take (blank_lines xs) xs) parts.0 parts.1 (lines_found xs))
    ])

-- Frames

abbrev pub IsFound : List ℕ → Span → Type 0
IsFound bytes s = IsItem s.kind (take s.len bytes) s.head

four_front : (a b c d n : ℕ) (bytes : List ℕ) → take (4 + n) (a ∷ b ∷ c ∷ d ∷ bytes) ≡ a ∷ b ∷ c ∷ d ∷ take n bytes
four_front a b c d n bytes =
    let four : 4 + n ≡ suc (suc (suc (suc n))) = omega arith in
    ap (λ (k : ℕ). take k (a ∷ b ∷ c ∷ d ∷ bytes)) four

frame_found : (bytes : List ℕ) (s : Span) → begins_frame bytes ≡ true → frame_span bytes ≡ Some s → IsFound bytes s
frame_found [] s f h = cc
frame_found (a ∷ []) s f h = cc
frame_found (a ∷ b ∷ []) s f h = cc
frame_found (a ∷ b ∷ c ∷ []) s f h = cc
frame_found (a ∷ b ∷ c ∷ d ∷ bytes) s f h =
    let parts = not_below (ltb (length (a ∷ b ∷ c ∷ d ∷ bytes)) 4) (when_whole (length (a ∷ b ∷ c ∷ d ∷ bytes)) (frame_of c d)) s h in
    let whole = when_whole_some (length (a ∷ b ∷ c ∷ d ∷ bytes)) (frame_of c d) s parts.1 in
    let fits : 256 * c + d ≤ length bytes = omega (arith, whole.0) in
    subst (λ (x : Span). IsFound (a ∷ b ∷ c ∷ d ∷ bytes) x) whole.1 (
      record {
        channel = b;
        high = c;
        low = d;
        load = take (256 * c + d) bytes;
        spelled = four_front a b c d (256 * c + d) bytes ∙ ap (λ (n : ℕ). n ∷ b ∷ c ∷ d ∷ take (256 * c + d) bytes) (eqb-true a ascii.dollar f);
        counted = length-take-le (256 * c + d) bytes fits;
      },
      refl,
    )

-- Messages

message_item : (request : Bool) (bytes : List ℕ) (n : ℕ) → IsMessage request bytes n → IsItem (message_kind request) bytes n
message_item true bytes n h = h
message_item false bytes n h = h

some_same : (span s : Span) → Some span ≡ Some s → span ≡ s
some_same span s h = cc

fault_found : (fault : HeadFault) (head : List ℕ) → IsHead head → facts_of head ≡ Err fault → IsBad (bad_kind fault) head
fault_found faults.Control head h e = record { is_head = h; faulty = e }
fault_found faults.Start head h e = record { is_head = h; faulty = e }
fault_found faults.Colon head h e = record { is_head = h; faulty = e }
fault_found faults.Name head h e = record { is_head = h; faulty = e }
fault_found faults.Many head h e = record { is_head = h; faulty = e }
fault_found faults.Memory head h e = absurd (facts_take_no_memory head e)

module _ (bytes : List ℕ) (n : ℕ) (come : n ≤ length bytes) (is_head : IsHead (take n bytes)) where
  head_counted : n ≡ length (take n bytes)
  head_counted = sym (length-take-le n bytes come)

  bad_found : (kind : BadKind) (s : Span) → IsBad kind (take n bytes) → Some (bad_span kind n) ≡ Some s → IsFound bytes s
  bad_found kind s h e =
      subst (λ (x : Span). IsFound bytes x) (some_same (bad_span kind n) s e) (h, head_counted)

  body_found : (request : Bool) (named : Length) (s : Span) → facts_of (take n bytes) ≡ Ok (record { request = request; length = named }) → body_span (message_kind request) (length bytes) n named ≡ Some s → IsFound bytes s
  body_found request lengths.Absent s sound h =
      subst (λ (x : Span). IsFound bytes x) (when_whole_some (length bytes) (record { kind = message_kind request; len = n; head = n }) s h).1
      (message_item request (take n bytes) n (record {
        head = take n bytes;
        body = [];
        named = lengths.Absent;
        spelled = sym (append-nil (take n bytes));
        is_head = is_head;
        counted = head_counted;
        sound = sound;
        whole = refl;
      }))
  body_found request (lengths.Bytes named) s sound h =
      either_is (ltb MOST_BODY named) (Some (bad_span bad.Body n)) (when_whole (length bytes) (record { kind = message_kind request; len = n + named; head = n })) s (IsFound bytes s)
      (λ more e.
      bad_found bad.Body s (record { request = request; named = named; is_head = is_head; sound = sound; too_much = ltb-true MOST_BODY named more }) e)
      (λ few e.
      let whole = when_whole_some (length bytes) (record { kind = message_kind request; len = n + named; head = n }) s e in
      let fits : named ≤ length (drop n bytes) = omega (arith, whole.0, length-drop n bytes) in
      let counted : length (take named (drop n bytes)) ≡ named = length-take-le named (drop n bytes) fits in
      subst (λ (x : Span). IsFound bytes x) whole.1
      (message_item request (take (n + named) bytes) n (record {
        head = take n bytes;
        body = take named (drop n bytes);
        named = lengths.Bytes named;
        spelled = take_sum n named bytes;
        is_head = is_head;
        counted = head_counted;
        sound = sound;
        whole = (counted, ltb-false MOST_BODY named few);
      }))) h
  body_found request lengths.Bad s sound h =
      bad_found bad.Length s (record { request = request; is_head = is_head; sound = sound }) h

  judged_found : (facts : Result Facts HeadFault) (s : Span) → facts_of (take n bytes) ≡ facts → judged_span (length bytes) n facts ≡ Some s → IsFound bytes s
  judged_found (Ok facts) s e h = body_found facts.request facts.length s e h
  judged_found (Err fault) s e h = bad_found (bad_kind fault) s (fault_found fault (take n bytes) is_head e) h

frame_in_front : (n : ℕ) (xs : List ℕ) → begins_frame xs ≡ false → begins_frame (take n xs) ≡ false
frame_in_front zero xs h = refl
frame_in_front (suc n) [] h = refl
frame_in_front (suc n) (b ∷ xs) h = h

begins_in_front : (n : ℕ) (xs : List ℕ) → BeginsMessage xs → BeginsMessage (take n xs)
begins_in_front n xs h = record {
  no_frame = frame_in_front n xs h.no_frame;
  no_empty_line = none_in_front n xs h.no_empty_line;
}

headed_found : (bytes : List ℕ) (o : Option ℕ) (s : Span) → BeginsMessage bytes → head_len (take MOST_HEAD bytes) ≡ o → headed_span bytes o ≡ Some s → IsFound bytes s
headed_found bytes None s begins at h =
    let parts = unless_below (ltb (length bytes) MOST_HEAD) (bad_span bad.Head MOST_HEAD) s h in
    let full = length-take-le MOST_HEAD bytes (ltb-false (length bytes) MOST_HEAD parts.0) in
    subst (λ (x : Span). IsFound bytes x) parts.1
    (record { begins = begins_in_front MOST_HEAD bytes begins; endless = λ front rest. none_endless (take MOST_HEAD bytes) front rest at; full = full }, sym full)
headed_found bytes (Some n) s begins at h =
    let fits = head_within bytes n at in
    let counted : n ≡ length (take n bytes) = sym (length-take-le n bytes fits.0) in
    let ends : EndsEmpty (take n bytes) =
    subst (λ (l : List ℕ). EndsEmpty l) (take-take n MOST_HEAD bytes fits.1) (ends_found (take MOST_HEAD bytes) n at) in
    judged_found bytes n fits.0
    (record {
      begins = begins_in_front n bytes begins;
      ends = ends;
      fits = omega (arith, fits.1, counted);
    })
    (facts_of (take n bytes)) s refl h

span_found : (bytes : List ℕ) (s : Span) → begins_blank bytes ≡ false → span_of bytes ≡ Some s → IsFound bytes s
span_found [] s blank h = cc
span_found (b ∷ bytes) s blank h =
    either_is (eqb b ascii.dollar) (frame_span (b ∷ bytes)) (message_span (b ∷ bytes)) s (IsFound (b ∷ bytes) s)
    (λ dollar at. frame_found (b ∷ bytes) s dollar at)
    (λ other at.
    headed_found (b ∷ bytes) (head_len (take MOST_HEAD (b ∷ bytes))) s (record { no_frame = other; no_empty_line = blank }) refl at) h

-- The first item of a stream is spelled at its front.
pub first_spelled : (stream : List ℕ) (e : Extent) → first_extent stream ≡ Some e → Spells (take (e.skipped + e.span.len) stream) (shape_at stream e)
first_spelled stream e h =
    let parts = extent_parts stream e h in
    subst (λ (x : Extent). Spells (take (x.skipped + x.span.len) stream) (shape_at stream x)) parts.2
    (record {
      lines = take (blank_lines stream) stream;
      empty = lines_found stream;
      spelled = take_sum (blank_lines stream) parts.0.len stream;
      is_item = span_found (behind_blank stream) parts.0 (none_behind stream) parts.1;
    })
