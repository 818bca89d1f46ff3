-- No definition of a head answers want of memory.
use Rattle.std.proofs.Common.{◌≡◌, ℕ, Bool, true, false, cond, List, [], ◌∷◌, Option, None, Some, Result, Ok, Err, nat_lt, length, subst}
use Rattle.std.specs.Option.{ok_or}
use Rattle.gate_bytes.specs.Ascii.{colon}
use Rattle.gate_bytes.specs.Tokens.{is_token, trimmed}
use Rattle.gate_bytes.specs.Places.{cut_at}
use Rattle.rtsp_head.specs.HeadParts.{Start}
use Rattle.rtsp_head.specs.declared.header.Header.{Header}
use Rattle.rtsp_head.specs.declared.fault.HeadFault.{HeadFault}
use Rattle.rtsp_head.specs.declared.fault.HeadFault.TheVariants as faults
use Rattle.rtsp_head.specs.Lines.{and_then, result_map, has_control}
use Rattle.rtsp_head.specs.Starts.{names_protocol, status_of, request_of, start_of}
use Rattle.rtsp_head.specs.Headers.{header_limit, SoFar, Further, More, Begins, no_headers, headers_in, goes_on, header_from, header_of, continued, with_further, further_of, with_line, after_lines, headers_of}
use Rattle.rtsp_head.specs.declared.headers.TheConstants.{MOST_HEADERS}
use Rattle.rtsp_head.specs.Heads.{length_in_headers}

-- anything but want of memory
abbrev NeedsNoMemory : {A : Type 0} → Result A HeadFault → Type 0
NeedsNoMemory (Ok x) = Unit {0}
NeedsNoMemory (Err faults.Memory) = ⊥
NeedsNoMemory (Err fault) = Unit {0}

then_none : {A B : Type 0} (next : A → Result B HeadFault) (r : Result A HeadFault) → NeedsNoMemory r → ((x : A) → NeedsNoMemory (next x)) → NeedsNoMemory (and_then next r)
then_none next (Ok x) h later = later x
then_none next (Err faults.Control) h later = tt
then_none next (Err faults.Start) h later = tt
then_none next (Err faults.Colon) h later = tt
then_none next (Err faults.Name) h later = tt
then_none next (Err faults.Many) h later = tt
then_none next (Err faults.Memory) h later = h

map_none : {A B : Type 0} (f : A → B) (r : Result A HeadFault) → NeedsNoMemory r → NeedsNoMemory (result_map f r)
map_none f (Ok x) h = tt
map_none f (Err faults.Control) h = tt
map_none f (Err faults.Start) h = tt
map_none f (Err faults.Colon) h = tt
map_none f (Err faults.Name) h = tt
map_none f (Err faults.Many) h = tt
map_none f (Err faults.Memory) h = h

start_none : (control : Bool) (start : Option Start) → NeedsNoMemory (cond control (Err faults.Control) (ok_or start faults.Start))
start_none true start = tt
start_none false None = tt
start_none false (Some start) = tt

header_none : (parts : Option (List ℕ × List ℕ)) → NeedsNoMemory (header_from parts)
header_none None = tt
header_none (Some parts) = by_test (is_token parts.0)
  where
    by_test : (test : Bool) → NeedsNoMemory {A = Header} (cond test (Ok (record { name = parts.0; value = trimmed parts.1 })) (Err faults.Name))
    by_test true = tt
    by_test false = tt

further_none : (control more : Bool) (text : List ℕ) (header : Result Header HeadFault) → NeedsNoMemory header →
    NeedsNoMemory (cond control (Err faults.Control) (cond more (Ok (More text)) (result_map Begins header)))
further_none true more text header h = tt
further_none false true text header h = tt
further_none false false text header h = map_none Begins header h

more_none : (so_far : SoFar) (text : List ℕ) (last : Option Header) → NeedsNoMemory (continued so_far text last)
more_none so_far text None = tt
more_none so_far text (Some header) = tt

with_none : (so_far : SoFar) (further : Further) → NeedsNoMemory (with_further header_limit so_far further)
with_none so_far (More text) = more_none so_far text so_far.last
with_none so_far (Begins header) = by_room (nat_lt (length (headers_in so_far)) MOST_HEADERS)
  where
    by_room : (room : Bool) → NeedsNoMemory {A = SoFar} (cond room (Ok (record { above = headers_in so_far; last = Some header })) (Err faults.Many))
    by_room true = tt
    by_room false = tt

line_none : (so_far : SoFar) (line : List ℕ) → NeedsNoMemory (with_line header_limit so_far line)
line_none so_far line =
    then_none (with_further header_limit so_far) (further_of line) (further_none (has_control line) (goes_on line) (trimmed line) (header_of line) (header_none (cut_at colon line))) (with_none so_far)

lines_none : (lines : List (List ℕ)) (so_far : SoFar) → NeedsNoMemory (after_lines header_limit so_far lines)
lines_none [] so_far = tt
lines_none (line ∷ lines) so_far = then_none (λ next. after_lines header_limit next lines) (with_line header_limit so_far line) (line_none so_far line) (lines_none lines)

-- A first line's fault is never want of memory.
pub start_needs_none : (line : List ℕ) → start_of line ≡ Err faults.Memory → ⊥
start_needs_none line e = subst NeedsNoMemory e (start_none (has_control line) (cond (names_protocol line) (status_of line) (request_of line)))

-- The length that headers give is never want of memory.
pub length_needs_none : (lines : List (List ℕ)) → result_map length_in_headers (headers_of header_limit lines) ≡ Err faults.Memory → ⊥
length_needs_none lines e = subst NeedsNoMemory e (map_none length_in_headers (headers_of header_limit lines) (map_none headers_in (after_lines header_limit no_headers lines) (lines_none lines no_headers)))
