-- The name of a header is shorter than its line.
use Rattle.std.proofs.Common.{Ok, ◌<◌, ◌∙◌, length, sym, ap, subst}
use Rattle.gate_bytes.specs.Tokens.{trimmed}
use Rattle.rtsp_head.specs.Views.{further_seen}
use Rattle.rtsp_head.specs.declared.further.FurtherLine.{FurtherLine}
use Rattle.rtsp_head.proofs.MarkLemmas.{begins_header}
use Rattle.rtsp_head.proofs.tally.Tally.with_line.Goals as goal

pub push-requires : goal.push-requires
push-requires c =
    let name = c.in-Begins.name.now in
    let begins = begins_header c.args.line (record { name = name; value = trimmed c.in-Begins.value.now }) (sym c.in_ok-text.ensures ∙ ap (λ (further : FurtherLine). Ok (further_seen further)) c.in-Begins.is) in
    subst (λ n. length name < n) (sym c.len-len.ensures) begins.longer
