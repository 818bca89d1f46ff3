use Rattle.rtsp_range.proofs.MeaningSound.{writable_in}
use Rattle.rtsp_range.proofs.range_read.read_two.Goals as goal

pub returns-clause-writable : goal.returns-clause-writable
returns-clause-writable c = writable_in c.in-Some.unit c.in-Some.text.now c.range_in.result c.range_in.ensures
