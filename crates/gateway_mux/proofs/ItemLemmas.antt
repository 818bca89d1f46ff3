-- The bytes of an item that is a frame.
use Rattle.std.proofs.Common.{◌≡◌, ◌∙◌, ℕ, ◌+◌, ◌*◌, ◌≤◌, ◌<◌, ◌==◌, nat_lt, Bool, true, false, cond, List, [], ◌∷◌, length, drop, Option, Some, None, Result, Ok, Err, refl, sym, ap, subst, arith}
use Rattle.std.proofs.lemmas.List.{length-set}
use Rattle.std.specs.Prelude.{slice_index, slice_index_or, slice_set, take}
use Rattle.std.specs.Option.{option_map}
use Rattle.std.proofs.lemmas.Bool.{eqb-true, ltb-false}
use Rattle.gate_bytes.specs.Ascii.{dollar}
use Rattle.rtsp_head.specs.declared.item.ItemKind.{ItemKind}
use Rattle.rtsp_head.specs.declared.item.ItemKind.TheVariants.{Request, Response, Frame, Bad}
use Rattle.rtsp_head.specs.declared.item.BadKind.TheVariants as bad
use Rattle.rtsp_head.specs.declared.item.Extent.{Extent}
use Rattle.rtsp_head.specs.declared.item.Span.{Span}
use Rattle.rtsp_head.specs.declared.item.TheConstants.{MOST_HEAD, MOST_BODY}
use Rattle.rtsp_head.specs.Items.{blank_lines, when_whole, body_span, judged_span, headed_span, message_span, frame_span, span_of, first_extent}
use Rattle.rtsp_head.specs.declared.facts.Facts.{Facts}
use Rattle.rtsp_head.specs.declared.facts.Length.{Length}
use Rattle.rtsp_head.specs.declared.facts.Length.TheVariants as lengths
use Rattle.rtsp_head.specs.declared.fault.HeadFault.{HeadFault}
use Rattle.rtsp_head.specs.Heads.{facts_of}
use Rattle.client_machine.specs.Frames.{frame_text}
use Rattle.gateway_claim.specs.Tells.{is_frame}

-- whether a span is that of a frame
abbrev is_frame_at : Option Span → Bool
is_frame_at None = false
is_frame_at (Some span) = is_frame span.kind

-- A message is no frame.
when_no_frame : (come : ℕ) (span : Span) → is_frame span.kind ≡ false → is_frame_at (when_whole come span) ≡ false
when_no_frame come span none = by (nat_lt come span.len)
  where
    by : (t : Bool) → is_frame_at (cond t None (Some span)) ≡ false
    by true = refl
    by false = none

no_frame_unless : (t : Bool) (span : Span) (other : Option Span) → is_frame span.kind ≡ false → is_frame_at other ≡ false → is_frame_at (cond t (Some span) other) ≡ false
no_frame_unless true span other none rest = none
no_frame_unless false span other none rest = rest

body_no_frame : (kind : ItemKind) (come n : ℕ) (length : Length) → is_frame kind ≡ false → is_frame_at (body_span kind come n length) ≡ false
body_no_frame kind come n lengths.Absent none = when_no_frame come (record { kind = kind; len = n; head = n }) none
body_no_frame kind come n (lengths.Bytes body) none =
    no_frame_unless (nat_lt MOST_BODY body) (record { kind = Bad bad.Body; len = n; head = n }) (when_whole come (record { kind = kind; len = n + body; head = n })) refl
    (when_no_frame come (record { kind = kind; len = n + body; head = n }) none)
body_no_frame kind come n lengths.Bad none = refl

judged_no_frame : (come n : ℕ) (facts : Result Facts HeadFault) → is_frame_at (judged_span come n facts) ≡ false
judged_no_frame come n (Ok facts) = by facts.request
  where
    by : (request : Bool) → is_frame_at (body_span (cond request Request Response) come n facts.length) ≡ false
    by true = body_no_frame Request come n facts.length refl
    by false = body_no_frame Response come n facts.length refl
judged_no_frame come n (Err fault) = refl

headed_no_frame : (bytes : List ℕ) (head : Option ℕ) → is_frame_at (headed_span bytes head) ≡ false
headed_no_frame bytes None = by (nat_lt (length bytes) MOST_HEAD)
  where
    by : (t : Bool) → is_frame_at (cond t None (Some (record { kind = Bad bad.Head; len = MOST_HEAD; head = MOST_HEAD }))) ≡ false
    by true = refl
    by false = refl
headed_no_frame bytes (Some n) = judged_no_frame (length bytes) n (facts_of (take n bytes))

-- The length of a frame, which two bytes tell, and its first byte.
pub record IsFrameText (bytes : List ℕ) : Type 0 where
  pub long : 4 ≤ length bytes
  pub total : 4 + (256 * slice_index bytes 2 + slice_index bytes 3) ≡ length bytes
  pub first : slice_index bytes 0 ≡ dollar

same_span : (a b : Span) → Some a ≡ Some b → a ≡ b
same_span a b e = cc

none_some : (span : Span) → None ≡ Some span → ⊥
none_some span e = cc

false_true : false ≡ true → ⊥
false_true e = cc

frame_parts : (bytes : List ℕ) (s t : Bool) (span head : Span) → span.len ≡ length bytes → head.len ≡ 4 + (256 * slice_index bytes 2 + slice_index bytes 3) → slice_index bytes 0 ≡ dollar → nat_lt (length bytes) 4 ≡ s
    → cond s None (cond t None (Some head)) ≡ Some span → IsFrameText bytes
frame_parts bytes true t span head len told first short e = absurd (none_some span e)
frame_parts bytes false true span head len told first short e = absurd (none_some span e)
frame_parts bytes false false span head len told first short e = record {
  long = ltb-false (length bytes) 4 short;
  total = sym told ∙ ap (λ (one : Span). one.len) (same_span head span e) ∙ len;
  first = first;
}

span_parts : (bytes : List ℕ) (span : Span) → span_of bytes ≡ Some span → is_frame span.kind ≡ true → span.len ≡ length bytes → IsFrameText bytes
span_parts [] span e is len = absurd (none_some span e)
span_parts (b ∷ more) span e is len = by (b == dollar) refl e
  where
    by : (t : Bool) → (b == dollar) ≡ t → cond t (frame_span (b ∷ more)) (message_span (b ∷ more)) ≡ Some span → IsFrameText (b ∷ more)
    by true f e =
        frame_parts (b ∷ more) (nat_lt (length (b ∷ more)) 4) (nat_lt (length (b ∷ more)) (4 + (256 * slice_index (b ∷ more) 2 + slice_index (b ∷ more) 3))) span
        (record { kind = Frame; len = 4 + (256 * slice_index (b ∷ more) 2 + slice_index (b ∷ more) 3); head = 0 }) len refl (eqb-true b dollar f) refl e
    by false f e = absurd (false_true (sym (headed_no_frame (b ∷ more) _) ∙ ap is_frame_at e ∙ is))

pub frame_of_item : (bytes : List ℕ) (kind : ItemKind) (head : ℕ) → kind ≡ Frame → first_extent bytes ≡ Some (record { skipped = 0; span = record { kind = kind; len = length bytes; head = head } }) → IsFrameText bytes
frame_of_item bytes kind head is e = by (span_of (drop (blank_lines bytes) bytes)) refl e
  where
    extents : (a b : Extent) → Some a ≡ Some b → a ≡ b
    extents a b e = cc

    no_extent : (a : Extent) → None ≡ Some a → ⊥
    no_extent a e = cc

    by : (found : Option Span) → span_of (drop (blank_lines bytes) bytes) ≡ found
        → option_map (λ (span : Span). let one : Extent = record { skipped = blank_lines bytes; span = span } in one) found ≡ Some (record { skipped = 0; span = record { kind = kind; len = length bytes; head = head } })
        → IsFrameText bytes
    by None f e = absurd (no_extent _ e)
    by (Some span) f e =
        let same : record { skipped = blank_lines bytes; span = span } ≡ record { skipped = 0; span = record { kind = kind; len = length bytes; head = head } } = extents _ _ e in
        let here : span_of bytes ≡ Some (record { kind = kind; len = length bytes; head = head }) = ap (λ n. span_of (drop n bytes)) (sym (ap (λ (one : Extent). one.skipped) same)) ∙ f ∙ ap (λ (one : Extent). Some one.span) same in
        span_parts bytes (record { kind = kind; len = length bytes; head = head }) here (ap is_frame is) refl

-- On another channel.
pub on_channel : (bytes : List ℕ) (channel : ℕ) → IsFrameText bytes → slice_set bytes 1 channel ≡ frame_text channel (drop 2 bytes)
on_channel [] channel is = absurd (short is.long)
  where
    short : 4 ≤ 0 → ⊥
    short e = cc
on_channel (a ∷ []) channel is = absurd (short is.long)
  where
    short : 4 ≤ 1 → ⊥
    short e = cc
on_channel (a ∷ b ∷ more) channel is = ap (λ n. n ∷ channel ∷ more) is.first

-- A frame is short.
pub frame_short : (bytes : List ℕ) → IsFrameText bytes → ((i : ℕ) → slice_index_or bytes i 0 < 256) → length bytes < 2147483648
frame_short bytes is fits =
    let high : slice_index_or bytes 2 0 < 256 = fits 2 in
    let low : slice_index_or bytes 3 0 < 256 = fits 3 in
    let total : 4 + (256 * slice_index_or bytes 2 0 + slice_index_or bytes 3 0) ≡ length bytes = is.total in
    grind arith

pub set_length : (bytes now : List ℕ) (channel : ℕ) → now ≡ slice_set bytes 1 channel → length bytes < 2147483648 → length now < 2147483648
set_length bytes now channel is short = subst (λ (n : ℕ). n < 2147483648) (sym (ap length is ∙ length-set bytes 1 channel)) short
