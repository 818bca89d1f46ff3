use Rattle.head_two.proofs.ReadLemmas.{request_read, request_told}
use Rattle.head_two.proofs.law.written_requests.Goals as goal

pub returns : goal.returns
returns c = record { one = request_read; told = request_told }
