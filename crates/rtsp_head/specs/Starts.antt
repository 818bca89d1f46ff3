-- The first line of a head.
use Rattle.std.specs.Prelude.{ℕ, Bool, ◌==◌, ◌&&◌, not, nat_le, nat_eq, codes, if◌then◌else◌, List, [], length, Option, Some, None, Result, Err, unwrap_or, option_and_then}
use Rattle.std.specs.List.{list_all, starts_with}
use Rattle.std.specs.Option.{ok_or}
use Rattle.gate_bytes.specs.Ascii.{space}
use Rattle.gate_bytes.specs.Places.{cut_at}
use Rattle.gate_bytes.specs.Numbers.{number_in}
use Rattle.rtsp_head.specs.declared.start.TheConstants.{LEAST_CODE, CODE_DIGITS}
use Rattle.rtsp_head.specs.HeadParts.{Start, Request, Status}
use Rattle.rtsp_head.specs.declared.fault.HeadFault.{HeadFault}
use Rattle.rtsp_head.specs.declared.fault.HeadFault.TheVariants as faults
use Rattle.rtsp_head.specs.Lines.{has_control}

-- a text that begins with `RTSP/`
abbrev pub names_protocol : List ℕ → Bool
names_protocol text = starts_with nat_eq text (codes "RTSP/")

-- a text that holds no space; a tab is no space
abbrev pub is_unspaced : List ℕ → Bool
is_unspaced text = list_all (λ b. not (b == space)) text

-- Three parts that aren't empty with one space between them, of which the third begins with `RTSP/`
-- (RFC 2326, 6.1; RFC 7826, 20.2). The first two are cut off at a space, so only the third can hold one.
abbrev pub request_with : List ℕ → List ℕ → List ℕ → Option Start
request_with method uri version =
    if not (length method == 0) && not (length uri == 0) && (is_unspaced version && names_protocol version) then Some (Request method uri version) else None

-- a request line (RFC 7826, 20.2.2)
abbrev pub request_of : List ℕ → Option Start
request_of line = option_and_then (λ first. option_and_then (λ second. request_with first.0 second.0 second.1) (cut_at space first.1)) (cut_at space line)

-- three digits, of which the first is not 0
abbrev pub code_of : List ℕ → Option ℕ
code_of text = option_and_then (λ code. if nat_le LEAST_CODE code then Some code else None) (number_in CODE_DIGITS text)

-- A part that begins with `RTSP/`, a space, a code, and then nothing or a space and any text (RFC 2326, 7.1).
abbrev pub status_with : List ℕ → List ℕ × List ℕ → Option Start
status_with version rest = option_and_then (λ code. Some (Status version code rest.1)) (code_of rest.0)

-- a status line (RFC 7826, 20.2.2)
abbrev pub status_of : List ℕ → Option Start
status_of line = option_and_then (λ first. status_with first.0 (unwrap_or (cut_at space first.1) (first.1, []))) (cut_at space line)

-- A first line that begins with `RTSP/` is a status line, and any other a request line.
abbrev pub plain_start_of : List ℕ → Option Start
plain_start_of line = if names_protocol line then status_of line else request_of line

-- what a first line says, or its fault
abbrev pub start_of : List ℕ → Result Start HeadFault
start_of line =
    if has_control line then Err faults.Control
    else ok_or (plain_start_of line) faults.Start
