-- The items of a stream of bytes, read from its front (RFC 2326, 4 and 10.12; RFC 7826, 5 and 14).
-- The limits on heads and bodies are this project's own.
use Rattle.std.specs.Prelude.{ℕ, suc, zero, ◌+◌, ◌*◌, ◌==◌, ◌&&◌, ◌||◌, nat_lt, Bool, true, false, List, [], ◌∷◌, length, take, drop, slice_index, Option, Some, None, Result, Ok, Err, if◌then◌else◌}
use Rattle.std.specs.Option.{option_map}
use Rattle.gate_bytes.specs.Ascii.{lf, cr, dollar}
use Rattle.rtsp_head.specs.declared.facts.Facts.{Facts}
use Rattle.rtsp_head.specs.declared.facts.Length.{Length}
use Rattle.rtsp_head.specs.declared.facts.Length.TheVariants as lengths
use Rattle.rtsp_head.specs.declared.fault.HeadFault.{HeadFault}
use Rattle.rtsp_head.specs.declared.fault.HeadFault.TheVariants as faults
use Rattle.rtsp_head.specs.declared.item.BadKind.{BadKind}
use Rattle.rtsp_head.specs.declared.item.BadKind.TheVariants as bad
use Rattle.rtsp_head.specs.declared.item.ItemKind.{ItemKind}
use Rattle.rtsp_head.specs.declared.item.ItemKind.TheVariants.{Request, Response, Frame, Bad}
use Rattle.rtsp_head.specs.declared.item.Span.{Span}
use Rattle.rtsp_head.specs.declared.item.Extent.{Extent}
use Rattle.rtsp_head.specs.declared.item.TheConstants.{MOST_BODY, MOST_HEAD}
use Rattle.rtsp_head.specs.Heads.{facts_of}

-- whether the next byte is LF
abbrev pub begins_with_lf : List ℕ → Bool
begins_with_lf [] = false
begins_with_lf (b ∷ bytes) = b == lf

-- whether the first byte belongs to an empty line: an LF, or a CR before an LF
abbrev pub begins_blank : List ℕ → Bool
begins_blank [] = false
begins_blank (b ∷ bytes) = b == lf || (b == cr && begins_with_lf bytes)

-- The length of the empty lines at the front.
abbrev pub blank_lines : List ℕ → ℕ
blank_lines [] = 0
blank_lines (b ∷ bytes) = if begins_blank (b ∷ bytes) then suc (blank_lines bytes) else 0

-- The length up to and with the first empty line. The first argument says whether a line starts here.
abbrev pub head_from : Bool → List ℕ → Option ℕ
head_from starts [] = None
head_from starts (b ∷ bytes) =
    if b == lf && starts then Some 1
    else option_map suc (head_from (b == lf || (starts && (b == cr && begins_with_lf bytes))) bytes)

-- The length of the head at the front: up to and with its first empty line.
abbrev pub head_len : List ℕ → Option ℕ
head_len bytes = head_from true bytes

-- A bad item is all head.
abbrev pub bad_span : BadKind → ℕ → Span
bad_span kind len = record { kind = Bad kind; len = len; head = len }

-- The kind of bad item that a fault of its head makes. (The facts of a head take no memory.)
abbrev pub bad_kind : HeadFault → BadKind
bad_kind faults.Control = bad.Control
bad_kind faults.Start = bad.Start
bad_kind faults.Colon = bad.Colon
bad_kind faults.Name = bad.Name
bad_kind faults.Many = bad.Many
bad_kind faults.Memory = bad.Head

-- a message is a request or a response
abbrev pub message_kind : Bool → ItemKind
message_kind request = if request then Request else Response

-- the span where so many bytes have come, nothing before
abbrev pub when_whole : ℕ → Span → Option Span
when_whole come span = if nat_lt come span.len then None else Some span

-- A message whose head has n bytes, where so many bytes have come.
abbrev pub body_span : ItemKind → ℕ → ℕ → Length → Option Span
body_span kind come n lengths.Absent = when_whole come (record { kind = kind; len = n; head = n })
body_span kind come n (lengths.Bytes body) =
    if nat_lt MOST_BODY body then Some (bad_span bad.Body n)
    else when_whole come (record { kind = kind; len = n + body; head = n })
body_span kind come n lengths.Bad = Some (bad_span bad.Length n)

-- where a message ends, by what its head says
abbrev pub judged_span : ℕ → ℕ → Result Facts HeadFault → Option Span
judged_span come n (Ok facts) = body_span (message_kind facts.request) come n facts.length
judged_span come n (Err fault) = Some (bad_span (bad_kind fault) n)

-- where a message ends whose head ends here, or doesn't yet
abbrev pub headed_span : List ℕ → Option ℕ → Option Span
headed_span bytes None = if nat_lt (length bytes) MOST_HEAD then None else Some (bad_span bad.Head MOST_HEAD)
headed_span bytes (Some n) = judged_span (length bytes) n (facts_of (take n bytes))

-- A head, found within the longest head, and its body.
abbrev pub message_span : List ℕ → Option Span
message_span bytes = headed_span bytes (head_len (take MOST_HEAD bytes))

-- `$`, the channel, and the length of the load, its greater byte first.
abbrev pub frame_span : List ℕ → Option Span
frame_span bytes =
    if nat_lt (length bytes) 4 then None
    else when_whole (length bytes) (record { kind = Frame; len = 4 + (256 * slice_index bytes 2 + slice_index bytes 3); head = 0 })

-- The item that begins with the first byte, where it is whole.
abbrev pub span_of : List ℕ → Option Span
span_of [] = None
span_of (b ∷ bytes) = if b == dollar then frame_span (b ∷ bytes) else message_span (b ∷ bytes)

-- Where the first item of a stream stands, behind its empty lines; none where no whole item stands there.
abbrev pub first_extent : List ℕ → Option Extent
first_extent stream =
    option_map (λ span. record { skipped = blank_lines stream; span = span }) (span_of (drop (blank_lines stream) stream))

-- An item without the fact that its type keeps.
pub record Shape : Type 0 where
  pub kind : ItemKind
  pub bytes : List ℕ
  pub head : ℕ

-- the item that stands there
abbrev pub shape_at : List ℕ → Extent → Shape
shape_at stream extent = record { kind = extent.span.kind; bytes = take extent.span.len (drop extent.skipped stream); head = extent.span.head }

-- The first item of a stream.
abbrev pub first_item : List ℕ → Option Shape
first_item stream = option_map (shape_at stream) (first_extent stream)

-- The items of a stream, and what has come of the next one behind its empty lines; no rest behind a bad
-- item.
pub record Cut : Type 0 where
  pub items : List Shape
  pub rest : Option (List ℕ)

-- one item more in front
abbrev pub with_item : Shape → Cut → Cut
with_item shape later = record { items = shape ∷ later.items; rest = later.rest }

-- whether an item is Bad
abbrev pub is_bad : ItemKind → Bool
is_bad (Bad kind) = true
is_bad Request = false
is_bad Response = false
is_bad Frame = false

-- Nothing is read behind a bad item.
abbrev pub behind : Bool → Shape → Cut → Cut
behind bad shape later = if bad then record { items = shape ∷ []; rest = None } else with_item shape later

-- the first item, and what is cut of the rest
abbrev pub cut_with : Option Extent → List ℕ → (List ℕ → Cut) → Cut
cut_with None bytes again = record { items = []; rest = Some (drop (blank_lines bytes) bytes) }
cut_with (Some extent) bytes again =
    behind (is_bad extent.span.kind) (shape_at bytes extent) (again (drop (extent.skipped + extent.span.len) bytes))

-- at most so many items
abbrev pub cut_by : ℕ → List ℕ → Cut
cut_by zero bytes = record { items = []; rest = Some bytes }
cut_by (suc n) bytes = cut_with (first_extent bytes) bytes (cut_by n)

-- The stream cut into its items. Each has a byte, so there are no more items than bytes.
abbrev pub cut : List ℕ → Cut
cut bytes = cut_by (length bytes) bytes

-- the items of a stream
abbrev pub items_of : List ℕ → List Shape
items_of bytes = (cut bytes).items
