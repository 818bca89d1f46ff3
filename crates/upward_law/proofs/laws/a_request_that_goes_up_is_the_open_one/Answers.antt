use Rattle.upward_law.proofs.OpenLemmas.{open_request}
use Rattle.upward_law.proofs.laws.a_request_that_goes_up_is_the_open_one.Goals as goal

pub returns : goal.returns
returns c bases earlier entry text history follows is = open_request bases earlier entry text history follows is
