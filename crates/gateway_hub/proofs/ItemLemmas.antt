-- An item is short enough for one entry.
use Rattle.std.proofs.Common.{◌≡◌, ◌∙◌, ℕ, ◌+◌, ◌*◌, ◌==◌, ◌≤◌, ◌<◌, Bool, true, false, cond, List, [], ◌∷◌, length, take, drop, Option, Some, None, Result, Ok, Err, refl, sym, ap, subst, arith, slice_index_or}
use Rattle.std.specs.Option.{option_map}
use Rattle.std.specs.Prelude.{nat_lt, slice_index, IfSome}
use Rattle.std.proofs.lemmas.Bool.Decides.{nat_tests}
use Rattle.std.proofs.lemmas.List.{length-take}
use Rattle.gate_bytes.specs.Ascii.{dollar}
use Rattle.rtsp_head.specs.declared.facts.Facts.{Facts}
use Rattle.rtsp_head.specs.declared.facts.Length.{Length}
use Rattle.rtsp_head.specs.declared.facts.Length.TheVariants as lengths
use Rattle.rtsp_head.specs.declared.fault.HeadFault.{HeadFault}
use Rattle.rtsp_head.specs.declared.item.BadKind.TheVariants as bad
use Rattle.rtsp_head.specs.declared.item.ItemKind.{ItemKind}
use Rattle.rtsp_head.specs.declared.item.ItemKind.TheVariants.{Frame}
use Rattle.rtsp_head.specs.declared.item.Span.{Span}
use Rattle.rtsp_head.specs.declared.item.Extent.{Extent}
use Rattle.rtsp_head.specs.Heads.{facts_of}
use Rattle.rtsp_head.specs.declared.item.TheConstants.{MOST_BODY, MOST_HEAD}
use Rattle.rtsp_head.specs.Items.{bad_span, message_kind, when_whole, body_span, judged_span, head_len, headed_span, message_span, frame_span, span_of, blank_lines, first_extent}
use Rattle.rtsp_frame.proofs.HeadLemmas.{head_from_fits}

abbrev IsEntrySpan : Option Span → Type 0
IsEntrySpan span = IfSome span (λ s. s.len ≤ 131072)

whole_fits : (come : ℕ) (span : Span) → span.len ≤ 131072 → IsEntrySpan (when_whole come span)
whole_fits come span h = at (nat_lt come span.len)
  where
    at : (b : Bool) → IsEntrySpan (cond b None (Some span))
    at true = tt
    at false = h

not_less : (m n : ℕ) → nat_lt m n ≡ false → n ≤ m
not_less m n is = grind (arith, nat_tests)

body_fits : (kind : ItemKind) (come n : ℕ) (length : Length) → n ≤ MOST_HEAD → IsEntrySpan (body_span kind come n length)
body_fits kind come n lengths.Absent h = whole_fits come (record { kind = kind; len = n; head = n }) (omega arith)
body_fits kind come n (lengths.Bytes body) h = at (nat_lt MOST_BODY body) refl
  where
    at : (b : Bool) → nat_lt MOST_BODY body ≡ b → IsEntrySpan (cond b (Some (bad_span bad.Body n)) (when_whole come (record { kind = kind; len = n + body; head = n })))
    at true is = let le : n ≤ 131072 = omega arith in le
    at false is = let small = not_less MOST_BODY body is in whole_fits come (record { kind = kind; len = n + body; head = n }) (omega arith)
body_fits kind come n lengths.Bad h = let le : n ≤ 131072 = omega arith in le

judged_fits : (come n : ℕ) (facts : Result Facts HeadFault) → n ≤ MOST_HEAD → IsEntrySpan (judged_span come n facts)
judged_fits come n (Ok facts) h = body_fits (message_kind facts.request) come n facts.length h
judged_fits come n (Err fault) h = let le : n ≤ 131072 = omega arith in le

headed_fits : (bytes : List ℕ) (len : Option ℕ) → IfSome len (λ n. n ≤ MOST_HEAD) → IsEntrySpan (headed_span bytes len)
headed_fits bytes None h = at (nat_lt (length bytes) MOST_HEAD)
  where
    at : (b : Bool) → IsEntrySpan (cond b None (Some (bad_span bad.Head MOST_HEAD)))
    at true = tt
    at false = let le : MOST_HEAD ≤ 131072 = omega arith in le
headed_fits bytes (Some n) h = judged_fits (length bytes) n (facts_of (take n bytes)) h

head_fits : (bytes : List ℕ) (found : Option ℕ) → head_len (take MOST_HEAD bytes) ≡ found → IfSome found (λ n. n ≤ MOST_HEAD)
head_fits bytes None is = tt
head_fits bytes (Some n) is = let h = (head_from_fits (take MOST_HEAD bytes) true n is).1 in omega (arith, length-take MOST_HEAD bytes)

either_fits : (b : Bool) (one other : Option Span) → IsEntrySpan one → IsEntrySpan other → IsEntrySpan (cond b one other)
either_fits true one other h g = h
either_fits false one other h g = g

frame_fits : (bytes : List ℕ) → slice_index_or bytes 2 0 < 256 → slice_index_or bytes 3 0 < 256 → IsEntrySpan (frame_span bytes)
frame_fits bytes high low =
    either_fits (nat_lt (length bytes) 4) None _ tt
    (whole_fits (length bytes) (record { kind = Frame; len = 4 + (256 * slice_index bytes 2 + slice_index bytes 3); head = 0 }) (omega arith))

span_fits : (bytes : List ℕ) → ((i : ℕ) → slice_index_or bytes i 0 < 256) → IsEntrySpan (span_of bytes)
span_fits [] fits = tt
span_fits (b ∷ bytes) fits =
    either_fits (b == dollar) (frame_span (b ∷ bytes)) (message_span (b ∷ bytes))
    (frame_fits (b ∷ bytes) (fits 2) (fits 3))
    (headed_fits (b ∷ bytes) (head_len (take MOST_HEAD (b ∷ bytes))) (head_fits (b ∷ bytes) (head_len (take MOST_HEAD (b ∷ bytes))) refl))

extents : (one other : Extent) → Some one ≡ Some other → one ≡ other
extents one other e = cc

found_fits : (bytes : List ℕ) (kind : ItemKind) (head : ℕ) (found : Option Span) → ((i : ℕ) → slice_index_or bytes i 0 < 256) → span_of (drop (blank_lines bytes) bytes) ≡ found
    → option_map {U = Extent} (λ span. record { skipped = blank_lines bytes; span = span }) found ≡ Some (record { skipped = 0; span = record { kind = kind; len = length bytes; head = head } }) → length bytes ≤ 131072
found_fits bytes kind head None fits is e = absurd (cc)
found_fits bytes kind head (Some span) fits is e =
    let same = extents (record { skipped = blank_lines bytes; span = span }) (record { skipped = 0; span = record { kind = kind; len = length bytes; head = head } }) e in
    let none : blank_lines bytes ≡ 0 = ap (λ (x : Extent). x.skipped) same in
    let here : span_of bytes ≡ Some span = ap (λ n. span_of (drop n bytes)) (sym none) ∙ is in
    let short : span.len ≤ 131072 = subst IsEntrySpan here (span_fits bytes fits) in
    let len : span.len ≡ length bytes = ap (λ (x : Extent). x.span.len) same in
    omega arith

-- The bytes of an item are no more than an entry may have.
pub item_fits : (bytes : List ℕ) (kind : ItemKind) (head : ℕ) → ((i : ℕ) → slice_index_or bytes i 0 < 256) → first_extent bytes ≡ Some (record { skipped = 0; span = record { kind = kind; len = length bytes; head = head } }) → length bytes ≤ 131072
item_fits bytes kind head fits e = found_fits bytes kind head (span_of (drop (blank_lines bytes) bytes)) fits refl e
