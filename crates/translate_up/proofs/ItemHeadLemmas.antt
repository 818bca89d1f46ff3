-- The head of an item is no longer than the longest head.
use Rattle.std.proofs.Common.{◌≡◌, ℕ, suc, ◌+◌, ◌*◌, ◌==◌, ◌&&◌, ◌||◌, ◌≤◌, Bool, true, false, cond, List, [], ◌∷◌, length, take, drop, Option, Some, None, Result, Ok, Err, IfSome, subst, arith}
use Rattle.std.specs.Option.{option_map}
use Rattle.std.specs.Prelude.{nat_lt, slice_index}
use Rattle.std.proofs.lemmas.List.{length-take}
use Rattle.gate_bytes.specs.Ascii.{dollar, cr, lf}
use Rattle.rtsp_head.specs.declared.facts.Facts.{Facts}
use Rattle.rtsp_head.specs.declared.facts.Length.{Length}
use Rattle.rtsp_head.specs.declared.facts.Length.TheVariants as lengths
use Rattle.rtsp_head.specs.declared.fault.HeadFault.{HeadFault}
use Rattle.rtsp_head.specs.declared.item.BadKind.TheVariants as bad
use Rattle.rtsp_head.specs.declared.item.ItemKind.{ItemKind}
use Rattle.rtsp_head.specs.declared.item.ItemKind.TheVariants.{Frame}
use Rattle.rtsp_head.specs.declared.item.Span.{Span}
use Rattle.rtsp_head.specs.declared.item.Extent.{Extent}
use Rattle.rtsp_head.specs.declared.item.Item.{Item}
use Rattle.rtsp_head.specs.declared.item.TheConstants.{MOST_BODY, MOST_HEAD}
use Rattle.rtsp_head.specs.Heads.{facts_of}
use Rattle.rtsp_head.specs.Items.{begins_with_lf, bad_span, message_kind, when_whole, body_span, judged_span, head_from, head_len, headed_span, message_span, frame_span, span_of, blank_lines, first_extent}

-- A head ends within its bytes.
next_within : (found : Option ℕ) (n : ℕ) → IfSome found (λ k. k ≤ n) → IfSome (option_map suc found) (λ k. k ≤ suc n)
next_within None n within = tt
next_within (Some k) n within = omega (arith, within)

from_within : (starts : Bool) (bytes : List ℕ) → IfSome (head_from starts bytes) (λ n. n ≤ length bytes)
from_within starts [] = tt
from_within starts (b ∷ bytes) = by (b == lf && starts) (from_within (b == lf || (starts && (b == cr && begins_with_lf bytes))) bytes)
  where
    by : (ends : Bool) → IfSome (head_from (b == lf || (starts && (b == cr && begins_with_lf bytes))) bytes) (λ n. n ≤ length bytes)
        → IfSome (cond ends (Some 1) (option_map suc (head_from (b == lf || (starts && (b == cr && begins_with_lf bytes))) bytes))) (λ n. n ≤ suc (length bytes))
    by true later = let one : 1 ≤ suc (length bytes) = omega arith in one
    by false later = next_within (head_from (b == lf || (starts && (b == cr && begins_with_lf bytes))) bytes) (length bytes) later

abbrev IsHeadShort : Option Span → Type 0
IsHeadShort span = IfSome span (λ s. s.head ≤ MOST_HEAD)

whole_short : (come : ℕ) (span : Span) → span.head ≤ MOST_HEAD → IsHeadShort (when_whole come span)
whole_short come span h = at (nat_lt come span.len)
  where
    at : (b : Bool) → IsHeadShort (cond b None (Some span))
    at true = tt
    at false = h

body_short : (kind : ItemKind) (come n : ℕ) (length : Length) → n ≤ MOST_HEAD → IsHeadShort (body_span kind come n length)
body_short kind come n lengths.Absent h = whole_short come (record { kind = kind; len = n; head = n }) h
body_short kind come n (lengths.Bytes body) h = at (nat_lt MOST_BODY body)
  where
    at : (b : Bool) → IsHeadShort (cond b (Some (bad_span bad.Body n)) (when_whole come (record { kind = kind; len = n + body; head = n })))
    at true = h
    at false = whole_short come (record { kind = kind; len = n + body; head = n }) h
body_short kind come n lengths.Bad h = h

judged_short : (come n : ℕ) (facts : Result Facts HeadFault) → n ≤ MOST_HEAD → IsHeadShort (judged_span come n facts)
judged_short come n (Ok facts) h = body_short (message_kind facts.request) come n facts.length h
judged_short come n (Err fault) h = h

headed_short : (bytes : List ℕ) (len : Option ℕ) → IfSome len (λ n. n ≤ length (take MOST_HEAD bytes)) → IsHeadShort (headed_span bytes len)
headed_short bytes None h = at (nat_lt (length bytes) MOST_HEAD)
  where
    at : (b : Bool) → IsHeadShort (cond b None (Some (bad_span bad.Head MOST_HEAD)))
    at true = tt
    at false = let le : MOST_HEAD ≤ MOST_HEAD = omega arith in le
headed_short bytes (Some n) h = judged_short (length bytes) n (facts_of (take n bytes)) (omega (arith, h, length-take MOST_HEAD bytes))

either_short : (b : Bool) (one other : Option Span) → IsHeadShort one → IsHeadShort other → IsHeadShort (cond b one other)
either_short true one other h g = h
either_short false one other h g = g

frame_short : (bytes : List ℕ) → IsHeadShort (frame_span bytes)
frame_short bytes =
    either_short (nat_lt (length bytes) 4) None (when_whole (length bytes) (record { kind = Frame; len = 4 + (256 * slice_index bytes 2 + slice_index bytes 3); head = 0 })) tt
    (whole_short (length bytes) (record { kind = Frame; len = 4 + (256 * slice_index bytes 2 + slice_index bytes 3); head = 0 }) (omega arith))

span_short : (bytes : List ℕ) → IsHeadShort (span_of bytes)
span_short [] = tt
span_short (b ∷ bytes) =
    either_short (b == dollar) (frame_span (b ∷ bytes)) (message_span (b ∷ bytes)) (frame_short (b ∷ bytes))
    (headed_short (b ∷ bytes) (head_len (take MOST_HEAD (b ∷ bytes))) (from_within true (take MOST_HEAD (b ∷ bytes))))

found_short : (found : Option Span) (skipped : ℕ) (extent : Extent) → IsHeadShort found → option_map (λ span. record { skipped = skipped; span = span }) found ≡ Some extent → extent.span.head ≤ MOST_HEAD
found_short None skipped extent h e = cc
found_short (Some span) skipped extent h e =
    let same : record { skipped = skipped; span = span } ≡ extent = cc in
    subst (λ (x : Extent). x.span.head ≤ MOST_HEAD) same h

extent_short : (bytes : List ℕ) (extent : Extent) → first_extent bytes ≡ Some extent → extent.span.head ≤ MOST_HEAD
extent_short bytes extent e = found_short (span_of (drop (blank_lines bytes) bytes)) (blank_lines bytes) extent (span_short (drop (blank_lines bytes) bytes)) e

pub item_head : (item : Item) → item.head ≤ MOST_HEAD
item_head item = extent_short item.bytes (record { skipped = 0; span = record { kind = item.kind; len = length item.bytes; head = item.head } }) item.whole
