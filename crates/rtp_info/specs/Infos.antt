-- The list that an RTP-Info field is.
use Rattle.std.specs.Prelude.{ℕ, List, Option, Some, None}
use Rattle.gate_bytes.specs.Ascii.{comma}
use Rattle.gate_bytes.specs.Tokens.{trimmed}
use Rattle.gate_bytes.specs.Places.{parts_at}
use Rattle.rtp_info.specs.declared.entry.InfoEntry.{InfoEntry}
use Rattle.rtp_info.specs.declared.fault.InfoFault.{InfoFault}
use Rattle.rtp_info.specs.declared.fault.InfoFault.TheVariants.{Grammar, Memory}
use Rattle.rtp_info.specs.Parts.{each_read}
use Rattle.rtp_info.specs.Specs.{spec_of}

-- Commas part specs, with blanks round them (RFC 7826, 18.45); nothing where one part is none.
abbrev pub info_of : List ℕ → Option (List InfoEntry)
info_of value = each_read (λ part. spec_of (trimmed part)) (parts_at comma value)

-- the refusal that a fault tells; none for want of memory
abbrev pub info_refusal : InfoFault → Option InfoFault
info_refusal Grammar = Some Grammar
info_refusal Memory = None
