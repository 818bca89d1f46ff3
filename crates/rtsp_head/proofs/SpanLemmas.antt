-- The head of an item is part of it.
use Rattle.std.proofs.Common.{◌≡◌, ℕ, ◌+◌, ◌*◌, ◌==◌, ◌≤◌, Bool, true, false, cond, List, [], ◌∷◌, length, take, drop, Option, Some, None, Result, Ok, Err, subst, arith}
use Rattle.std.specs.Option.{option_map}
use Rattle.std.specs.Prelude.{nat_lt, slice_index, IfSome}
use Rattle.gate_bytes.specs.Ascii.{dollar}
use Rattle.rtsp_head.specs.declared.facts.Facts.{Facts}
use Rattle.rtsp_head.specs.declared.facts.Length.{Length}
use Rattle.rtsp_head.specs.declared.facts.Length.TheVariants as lengths
use Rattle.rtsp_head.specs.declared.fault.HeadFault.{HeadFault}
use Rattle.rtsp_head.specs.declared.item.BadKind.TheVariants as bad
use Rattle.rtsp_head.specs.declared.item.ItemKind.{ItemKind}
use Rattle.rtsp_head.specs.declared.item.ItemKind.TheVariants.{Frame}
use Rattle.rtsp_head.specs.declared.item.Span.{Span}
use Rattle.rtsp_head.specs.declared.item.Extent.{Extent}
use Rattle.rtsp_head.specs.Heads.{facts_of}
use Rattle.rtsp_head.specs.declared.item.TheConstants.{MOST_BODY, MOST_HEAD}
use Rattle.rtsp_head.specs.Items.{bad_span, message_kind, when_whole, body_span, judged_span, head_len, headed_span, message_span, frame_span, span_of, blank_lines, first_extent}

abbrev HasHead : Option Span → Type 0
HasHead span = IfSome span (λ s. s.head ≤ s.len)

abbrev frame_at : List ℕ → Span
frame_at bytes = record { kind = Frame; len = 4 + (256 * slice_index bytes 2 + slice_index bytes 3); head = 0 }

whole_has : (come : ℕ) (span : Span) → span.head ≤ span.len → HasHead (when_whole come span)
whole_has come span h = at (nat_lt come span.len)
  where
    at : (b : Bool) → HasHead (cond b None (Some span))
    at true = tt
    at false = h

body_has : (kind : ItemKind) (come n : ℕ) (length : Length) → HasHead (body_span kind come n length)
body_has kind come n lengths.Absent = whole_has come (record { kind = kind; len = n; head = n }) (omega arith)
body_has kind come n (lengths.Bytes body) = at (nat_lt MOST_BODY body)
  where
    at : (b : Bool) → HasHead (cond b (Some (bad_span bad.Body n)) (when_whole come (record { kind = kind; len = n + body; head = n })))
    at true = let le : n ≤ n = omega arith in le
    at false = whole_has come (record { kind = kind; len = n + body; head = n }) (omega arith)
body_has kind come n lengths.Bad = let le : n ≤ n = omega arith in le

judged_has : (come n : ℕ) (facts : Result Facts HeadFault) → HasHead (judged_span come n facts)
judged_has come n (Ok facts) = body_has (message_kind facts.request) come n facts.length
judged_has come n (Err fault) = let le : n ≤ n = omega arith in le

headed_has : (bytes : List ℕ) (len : Option ℕ) → HasHead (headed_span bytes len)
headed_has bytes None = at (nat_lt (length bytes) MOST_HEAD)
  where
    at : (b : Bool) → HasHead (cond b None (Some (bad_span bad.Head MOST_HEAD)))
    at true = tt
    at false = let le : MOST_HEAD ≤ MOST_HEAD = omega arith in le
headed_has bytes (Some n) = judged_has (length bytes) n (facts_of (take n bytes))

either_has : (b : Bool) (one other : Option Span) → HasHead one → HasHead other → HasHead (cond b one other)
either_has true one other h g = h
either_has false one other h g = g

frame_has : (bytes : List ℕ) → HasHead (frame_span bytes)
frame_has bytes =
    either_has (nat_lt (length bytes) 4) None (when_whole (length bytes) (frame_at bytes)) tt
    (whole_has (length bytes) (frame_at bytes) (omega arith))

span_has : (bytes : List ℕ) → HasHead (span_of bytes)
span_has [] = tt
span_has (b ∷ bytes) =
    either_has (b == dollar) (frame_span (b ∷ bytes)) (message_span (b ∷ bytes))
    (frame_has (b ∷ bytes))
    (headed_has (b ∷ bytes) (head_len (take MOST_HEAD (b ∷ bytes))))

found_has : (found : Option Span) (skipped : ℕ) (extent : Extent) → HasHead found
    → option_map (λ span. record { skipped = skipped; span = span }) found ≡ Some extent → extent.span.head ≤ extent.span.len
found_has None skipped extent h e = cc
found_has (Some span) skipped extent h e =
    let same : record { skipped = skipped; span = span } ≡ extent = cc in
    subst (λ (x : Extent). x.span.head ≤ x.span.len) same h

-- an item's head is no longer than the item
pub head_within : (bytes : List ℕ) (extent : Extent) → first_extent bytes ≡ Some extent → extent.span.head ≤ extent.span.len
head_within bytes extent e =
    found_has (span_of (drop (blank_lines bytes) bytes)) (blank_lines bytes) extent (span_has (drop (blank_lines bytes) bytes)) e
