-- Where a reply to a request leads a player's session (RFC 2326, A.2).
use Rattle.std.specs.Prelude.{ℕ, Option, Some, None, Result, Ok, Err, if◌then◌else◌}
use Rattle.std.specs.Option.{option_and_then}
use Rattle.rtsp_small.specs.declared.method.Method.{Method}
use Rattle.head_one.specs.declared.request.Request1.{Request1}
use Rattle.head_one.specs.declared.refusal.Refusal.{Refusal}
use Rattle.session_one.specs.declared.table.State.{State}
use Rattle.session_one.specs.Table.{next_of, is_success}

-- the method of a request that its head does not refuse
abbrev pub method_asked : Result Request1 Refusal → Option Method
method_asked (Ok request) = Some request.method
method_asked (Err refusal) = None

-- the number of a request, where it can be read (RFC 2326, 12.17)
abbrev pub number_asked : Result Request1 Refusal → Option ℕ
number_asked (Ok request) = Some request.cseq
number_asked (Err refusal) = refusal.cseq

-- The state after a reply with this code: a success goes by the table's row, and there is none where the table has none;
-- any other code leaves the state.
abbrev pub led_by : State → Option Method → ℕ → Option State
led_by state method code = if is_success code then option_and_then (next_of state) method else Some state
