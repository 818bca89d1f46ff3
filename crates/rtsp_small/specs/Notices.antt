-- The fields of a notification.
use Rattle.std.specs.Prelude.{ℕ, codes, if◌then◌else◌, List, Option, None, option_and_then}
use Rattle.std.specs.List.{find}
use Rattle.gate_bytes.specs.Ascii.{space, equals_sign}
use Rattle.gate_bytes.specs.Tokens.{equal_fold}
use Rattle.gate_bytes.specs.Numbers.{number_in}
use Rattle.gate_bytes.specs.Places.{cut_at, up_to}
use Rattle.rtsp_small.specs.declared.cseq.TheConstants.{CSEQ_TWO_DIGITS}
use Rattle.rtsp_small.specs.declared.notify.TheConstants.{NOTIFY_REASONS}
use Rattle.rtsp_small.specs.declared.notify.NotifyReason.{NotifyReason}
use Rattle.rtsp_small.specs.declared.notify.NotifyReason.TheVariants.{EndOfStream, MediaProperties, ScaleChange}

-- how a reason is spelled (RFC 7826, 18.32)
abbrev pub notify_reason_name : NotifyReason → List ℕ
notify_reason_name EndOfStream = codes "end-of-stream"
notify_reason_name MediaProperties = codes "media-properties-update"
notify_reason_name ScaleChange = codes "scale-change"

-- the reason with this name, without ASCII case; nothing for any other text
abbrev pub notify_reason_of : List ℕ → Option NotifyReason
notify_reason_of value = find (λ reason. equal_fold value (notify_reason_name reason)) NOTIFY_REASONS

-- the number of a request: `cseq=` without ASCII case, 1 to so many digits, and then the end, or a space and any
-- text (RFC 7826, 18.42; that nothing is asked of that text is this project's own)
abbrev pub request_status_of : List ℕ → Option ℕ
request_status_of value = option_and_then (λ parts. if equal_fold parts.0 (codes "cseq") then number_in CSEQ_TWO_DIGITS (up_to space parts.1) else None) (cut_at equals_sign value)
