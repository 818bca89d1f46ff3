use Rattle.rtsp_range.proofs.MeaningSound.{meaning_sound}
use Rattle.rtsp_range.proofs.laws.stays_writable.Goals as goal

pub returns : goal.returns
returns c = meaning_sound
