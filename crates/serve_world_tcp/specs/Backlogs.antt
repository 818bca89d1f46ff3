-- The bytes that wait for a file. This project's own.
use Rattle.std.specs.Prelude.{ℕ, ◌-◌, min, Bool, if◌then◌else◌}
use Rattle.serve_world_tcp.specs.declared.backlog.TheConstants.{QUEUE_BYTES}

-- How many of so many bytes are put: as many as there is room for beside those that are held, and none once the thread that
-- writes is over.
abbrev pub count_put : Bool → ℕ → ℕ → ℕ
count_put over held count = if over then 0 else min count (QUEUE_BYTES - held)
