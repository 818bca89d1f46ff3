use Rattle.translate_down.proofs.PlayerLemmas.{own_text, untransported_text}
use Rattle.translate_down.proofs.law.only_told_fields_count.Goals as goal

pub returns-clause-own : goal.returns-clause-own
returns-clause-own c setting asked code body headers = own_text setting asked code body headers

pub returns-clause-untransported : goal.returns-clause-untransported
returns-clause-untransported c setting asked code body headers = untransported_text setting asked code body headers
