use Rattle.std.proofs.Common.{◌∙◌}
use Rattle.rtsp_head.proofs.NameLemmas.{same_byte}
use Rattle.rtsp_head.proofs.further.is_token_byte.Goals as goal

pub returns : goal.returns
returns c = c.is_header_name_token.ensures ∙ same_byte c.args.byte
