use Rattle.std.proofs.Common.{ap}
use Rattle.rtsp_range.specs.RangeText.{range_text}
use Rattle.rtsp_range.proofs.MeaningSound.{meaning_sound}
use Rattle.rtsp_range.proofs.WrittenMeans.{written_alike}
use Rattle.rtsp_range.proofs.laws.one_form.Goals as goal

pub returns : goal.returns
returns c version other value another range second reads reads_too =
    (λ same. ap range_text same, λ alike. written_alike range second (meaning_sound version value range reads) (meaning_sound other another second reads_too) alike)
