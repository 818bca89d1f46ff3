use Rattle.upward_law.proofs.OnceLemmas.{answered_once}
use Rattle.upward_law.proofs.OpenLemmas.{request_once}
use Rattle.upward_law.proofs.laws.each_header_that_goes_up_stands_once.Goals as goal

pub returns-clause-request : goal.returns-clause-request
returns-clause-request c bases earlier entry text history follows is = request_once bases earlier entry text history follows is

pub returns-clause-answer : goal.returns-clause-answer
returns-clause-answer c bases earlier entry text follows is = answered_once bases earlier entry text follows is
