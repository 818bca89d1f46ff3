use Rattle.std.proofs.Common.{◌≡◌, drop}
use Rattle.std.specs.List.{find}
use Rattle.gate_bytes.specs.Tokens.{equal_fold}
use Rattle.rtsp_small.specs.Notices.{notify_reason_name, notify_reason_of}
use Rattle.rtsp_small.specs.declared.notify.TheConstants.{NOTIFY_REASONS}
use Rattle.rtsp_small.proofs.notify.read_reason.Given as goal

-- the reason is among those that are left
abbrev pub invariant-loop-reason : goal.invariant-loop-reason
invariant-loop-reason l = find (λ reason. equal_fold l.value (notify_reason_name reason)) (drop l.reason-index NOTIFY_REASONS) ≡ notify_reason_of l.value
