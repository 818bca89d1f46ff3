use Rattle.gate_bytes.proofs.PlaceLemmas.{first_byte_place}
use Rattle.gate_bytes.proofs.place.find.Goals as goal

pub returns-clause-place : goal.returns-clause-place
returns-clause-place c = first_byte_place _ _ _ c.memchr.ensures
