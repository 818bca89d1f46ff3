-- What stands first in a stream, and the steps that are to be paid for what follows it.
use Rattle.std.specs.Prelude.{◌≡◌, ℕ, ◌+◌, ◌*◌, ◌-◌, nat_lt, List, take, drop, Some, None, Result, Ok, Err, if◌then◌else◌}
use Rattle.rtsp_head.specs.Items.{blank_lines, bad_span, bad_kind, message_kind, span_of, first_extent}
use Rattle.rtsp_head.specs.declared.facts.Facts.{Facts}
use Rattle.rtsp_head.specs.declared.facts.Length.{Length}
use Rattle.rtsp_head.specs.declared.facts.Length.TheVariants as lengths
use Rattle.rtsp_head.specs.declared.fault.HeadFault.{HeadFault}
use Rattle.rtsp_head.specs.declared.item.BadKind.TheVariants as bad
use Rattle.rtsp_head.specs.declared.item.ItemKind.{ItemKind}
use Rattle.rtsp_head.specs.declared.item.TheConstants.{MOST_BODY}
use Rattle.rtsp_head.specs.declared.item.Span.{Span}
use Rattle.rtsp_head.specs.declared.marks.HeadMarks.{HeadMarks}
use Rattle.rtsp_head.specs.MarkedHeads.{IsMarkedHead}
use Rattle.rtsp_frame.specs.declared.item_front.ItemFront.{ItemFront}
use Rattle.rtsp_frame.specs.declared.item_front.ItemFront.TheVariants.{End}
use Rattle.rtsp_frame.specs.declared.item_front.StreamFront.{StreamFront}
use Rattle.rtsp_frame.specs.declared.item_front.StreamFront.TheVariants.{Whole, Begun}
use Rattle.rtsp_frame.specs.Fronts.{head_held, IsKnownFront}

-- the span, where so many bytes have come that it is whole
abbrev pub when_come : ℕ → Span → Result Span ItemFront
when_come come span = if nat_lt come span.len then Err (End span) else Ok span

-- the item whose head has n bytes and says this of its body
abbrev pub told_body : ItemKind → ℕ → Length → Span
told_body kind n lengths.Absent = record { kind = kind; len = n; head = n }
told_body kind n (lengths.Bytes body) = if nat_lt MOST_BODY body then bad_span bad.Body n else record { kind = kind; len = n + body; head = n }
told_body kind n lengths.Bad = bad_span bad.Length n

-- the item that a head of n bytes with these facts begins
abbrev pub told_span : ℕ → Result Facts HeadFault → Span
told_span n (Ok facts) = told_body (message_kind facts.request) n facts.length
told_span n (Err fault) = bad_span (bad_kind fault) n

-- what stands first where no empty line does
abbrev pub at_once : Result Span ItemFront → StreamFront
at_once (Ok span) = Whole (record { skipped = 0; span = span })
at_once (Err front) = Begun 0 front

-- the item at the front, or what is known of what has come of it
abbrev pub IsSpanFound : List ℕ → Result Span ItemFront → Type 0
IsSpanFound bytes (Ok span) = span_of bytes ≡ Some span
IsSpanFound bytes (Err front) = (span_of bytes ≡ None) × IsKnownFront bytes front

-- the first item behind empty lines, or what is known of what has come of it
abbrev pub IsStreamFront : List ℕ → StreamFront → Type 0
IsStreamFront stream (Whole extent) = first_extent stream ≡ Some extent
IsStreamFront stream (Begun skipped front) = (first_extent stream ≡ None) × (skipped ≡ blank_lines stream) × IsKnownFront (drop skipped stream) front

-- six steps a byte pay for an item, and for the front of one with four a byte of the head to come
abbrev pub span_cost : ℕ → Result Span ItemFront → ℕ
span_cost come (Ok span) = 6 * span.len
span_cost come (Err front) = 6 * come - 4 * head_held front come

-- where the first line and the headers of a whole item stand
abbrev pub IsMarkedFront : List ℕ → StreamFront → HeadMarks → Type 0
IsMarkedFront stream (Whole extent) marks = IsMarkedHead (take extent.span.head (drop extent.skipped stream)) marks
IsMarkedFront stream (Begun skipped front) marks = Unit {0}

-- The steps that are still to be paid: eight a byte behind a whole item, and four a byte of an unfinished head.
abbrev pub owed : StreamFront → ℕ → ℕ
owed (Whole extent) come = 8 * (come - (extent.skipped + extent.span.len))
owed (Begun skipped front) come = 4 * head_held front (come - skipped)
