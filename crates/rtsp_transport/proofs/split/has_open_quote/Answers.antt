use Rattle.std.proofs.Common.{is_some, sym, ◌∙◌, ap}
use Rattle.rtsp_transport.proofs.CleanLemmas.{none_open}
use Rattle.rtsp_transport.proofs.split.has_open_quote.Goals as goal

pub returns-else-is_some : goal.returns-else-is_some
returns-else-is_some c =
    c.if-is_some.false ∙ sym (none_open c.args.value.now (sym (c.is_some.ensures ∙ ap is_some c.find.ensures.place) ∙ c.if-is_some.false))
