-- What a request says, without where it lies in memory.
use Rattle.std.specs.Prelude.{IfSome, IfOk, IsTrue}
use Rattle.std.specs.Option.{option_copied}
use Rattle.rtsp_range.specs.Writable.{can_be_written}
use Rattle.translate_up.specs.declared.field.SaidFields.{SaidFields}
use Rattle.translate_up.specs.declared.rule.Admission.{Admission}
use Rattle.translate_up.specs.declared.rule.Admission.TheVariants.{SetUp, Played, Other}
use Rattle.translate_up.specs.Fields.{Said}

-- what is said in fields that are borrowed
abbrev pub said_seen : SaidFields → Said
said_seen said = record { session = option_copied said.session; channels = said.channels; range = said.range }

-- The range that was read can be written.
abbrev pub HasWritableRange : SaidFields → Type 0
HasWritableRange said = IfSome said.range (λ read. IfOk read (λ range. IsTrue (can_be_written range)))

-- So can the range of a PLAY that is let through.
abbrev pub AdmitsWritable : Admission → Type 0
AdmitsWritable (SetUp pair) = Unit {0}
AdmitsWritable (Played range) = IfSome range (λ one. IsTrue (can_be_written one))
AdmitsWritable Other = Unit {0}
