-- The bodies of entries (this project's own).
use Rattle.std.specs.Prelude.{ℕ, nat_le, ◌==◌, Bool, true, is_some, List, [], ◌∷◌, Option, Some, None, if◌then◌else◌}
use Rattle.gate_transcript.specs.declared.entry.EntryKind.{EntryKind}
use Rattle.gate_transcript.specs.declared.entry.EntryKind.TheVariants.{Enter, Client, Upstream, End, Slow, UpEnd}
use Rattle.gate_transcript.specs.declared.entry.UpWhy.{UpWhy}
use Rattle.gate_transcript.specs.declared.entry.UpWhy.TheVariants.{Ended, ReadFault, WriteFault, UpFull}
use Rattle.gate_transcript.specs.declared.entry.TheConstants.{ENDED_REASON, READ_FAULT_REASON, WRITE_FAULT_REASON, FULL_REASON}
use Rattle.gate_transcript.specs.declared.head.TheConstants.{LONGEST_BODY}

-- the byte of a reason for which the connection to the server ends
abbrev pub reason_byte : UpWhy → ℕ
reason_byte Ended = ENDED_REASON
reason_byte ReadFault = READ_FAULT_REASON
reason_byte WriteFault = WRITE_FAULT_REASON
reason_byte UpFull = FULL_REASON

-- why the connection to the server ends, as a byte tells it
abbrev pub end_reason_by : ℕ → Option UpWhy
end_reason_by b =
    if b == ENDED_REASON then Some Ended
    else (if b == READ_FAULT_REASON then Some ReadFault
    else (if b == WRITE_FAULT_REASON then Some WriteFault
    else (if b == FULL_REASON then Some UpFull else None)))

-- the same as a body tells it, which is that byte alone
abbrev pub end_reason_in : List ℕ → Option UpWhy
end_reason_in [] = None
end_reason_in (b ∷ []) = end_reason_by b
end_reason_in (b ∷ c ∷ more) = None

-- whether the body of an entry of this kind may have this length
abbrev pub may_have_length : EntryKind → ℕ → Bool
may_have_length Enter size = size == 0
may_have_length Client size = nat_le size LONGEST_BODY
may_have_length Upstream size = nat_le size LONGEST_BODY
may_have_length End size = size == 0
may_have_length Slow size = size == 0
may_have_length UpEnd size = size == 1

-- Whether bytes are the body of an entry of this kind. At the end of the connection to the server they tell why.
abbrev pub is_body : EntryKind → List ℕ → Bool
is_body Enter body = true
is_body Client body = true
is_body Upstream body = true
is_body End body = true
is_body Slow body = true
is_body UpEnd body = is_some (end_reason_in body)
