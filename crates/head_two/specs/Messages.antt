-- What every message of RTSP 2.0 says.
use Rattle.std.specs.Prelude.{ℕ, codes, List, Result, Err, Option, Some, None, if◌then◌else◌}
use Rattle.std.specs.Option.{option_and_then, ok_or}
use Rattle.std.specs.Str.{bytes_eq}
use Rattle.gate_bytes.specs.Numbers.{number_in}
use Rattle.rtsp_head.specs.declared.header.Header.{Header}
use Rattle.rtsp_head.specs.Headers.{field_of}
use Rattle.rtsp_small.specs.declared.cseq.TheConstants.{CSEQ_TWO_DIGITS}
use Rattle.head_two.specs.declared.fault.TwoFault.{TwoFault}
use Rattle.head_two.specs.declared.fault.TwoFault.TheVariants.{Version, Cseq, Memory}

-- the version (RFC 7826, 20.1)
abbrev pub version_two : List ℕ
version_two = codes "RTSP/2.0"

-- the number of a message (RFC 7826, 18.20)
abbrev pub server_cseq : List Header → Option ℕ
server_cseq headers = option_and_then (number_in CSEQ_TWO_DIGITS) (field_of headers (codes "CSeq"))

-- the number of a message with this version: the version is looked at before the number (this project's own order)
abbrev pub checked_cseq : List ℕ → List Header → Result ℕ TwoFault
checked_cseq version headers = if bytes_eq version version_two then ok_or (server_cseq headers) Cseq else Err Version

-- the fault of a message that could not be taken; none where memory was wanting
abbrev pub two_refusal : TwoFault → Option TwoFault
two_refusal Memory = None
two_refusal fault = Some fault
