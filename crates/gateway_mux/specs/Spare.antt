-- What is spare beside what the next connection can ask for (this project's own).
use Rattle.std.specs.Prelude.{ℕ, ◌-◌, if◌then◌else◌}
use Rattle.connection_table.specs.declared.table.ConnectionTable.{ConnectionTable}
use Rattle.connection_table.specs.Tables.{is_ready}

-- how much of what is spare is left beside what the next connection can ask for, which is so much
abbrev pub left : ℕ → ℕ → ConnectionTable → ℕ
left each spare seats = spare - (if is_ready seats then each else 0)
