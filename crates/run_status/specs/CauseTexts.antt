-- The texts that tell why the connection to the server ended (this project's own).
use Rattle.std.specs.Prelude.{ℕ, List, [], ◌++◌, Option, Some, None, codes, decimal}
use Rattle.rtsp_head.specs.declared.item.BadKind.{BadKind}
use Rattle.rtsp_head.specs.declared.item.BadKind.TheVariants as bad
use Rattle.gateway_claim.specs.declared.event.FramingFault.{FramingFault}
use Rattle.gateway_claim.specs.declared.event.FramingFault.TheVariants as framing
use Rattle.gateway_claim.specs.declared.event.UpCause.{UpCause}
use Rattle.gateway_claim.specs.declared.event.UpCause.TheVariants as cause

-- the name of why an item can't be read
abbrev pub bad_name : BadKind → List ℕ
bad_name bad.Head = codes "Head"
bad_name bad.Control = codes "Control"
bad_name bad.Start = codes "Start"
bad_name bad.Colon = codes "Colon"
bad_name bad.Name = codes "Name"
bad_name bad.Many = codes "Many"
bad_name bad.Length = codes "Length"
bad_name bad.Body = codes "Body"

-- the name of why an item of the server can't be taken
abbrev pub framing_name : FramingFault → List ℕ
framing_name (framing.Bad kind) = bad_name kind
framing_name framing.Version = codes "Version"
framing_name framing.Cseq = codes "Cseq"

-- how a cause is spelled: the body of the record of a fault, and the end of a fault line
abbrev pub fault_text : UpCause → List ℕ
fault_text (cause.Framing fault) = codes "Framing " ++ framing_name fault
fault_text (cause.UnknownReply number) = codes "UnknownReply " ++ decimal number
fault_text (cause.BadGrant number) = codes "BadGrant " ++ decimal number
fault_text (cause.SessionTaken number) = codes "SessionTaken " ++ decimal number
fault_text cause.CseqSpent = codes "CseqSpent"
fault_text cause.UpFull = codes "UpFull"
fault_text cause.Ended = codes "Ended"
fault_text cause.ReadFault = codes "ReadFault"
fault_text cause.WriteFault = codes "WriteFault"

-- the digits behind the words of a cause; none where it has no number
abbrev pub number_text : Option ℕ → List ℕ
number_text None = []
number_text (Some number) = decimal number
