-- What was written means what it was written for.
use Rattle.std.proofs.Common.{◌≡◌, true, Result, Ok, sym, ◌∙◌, ap}
use Rattle.rtsp_range.specs.declared.range.Range.{Range}
use Rattle.rtsp_range.specs.declared.fault.RangeFault.{RangeFault}
use Rattle.rtsp_range.specs.Meaning.{Version, One, meaning}
use Rattle.rtsp_range.specs.Writable.{can_be_written}
use Rattle.rtsp_range.specs.RangeText.{range_text}
use Rattle.rtsp_range.proofs.MeaningMeans.{spelled_means}
use Rattle.rtsp_range.proofs.RangeTextSpelling.{written_spells}

pub written_means : (version : Version) (range : Range) → can_be_written range ≡ true → meaning version (range_text range) ≡ Ok range
written_means version range h = spelled_means version (range_text range) range (written_spells range h)

same_ok : (range second : Range) → ◌≡◌ {A = Result Range RangeFault} (Ok range) (Ok second) → range ≡ second
same_ok range second h = cc

-- Ranges that are written alike are one.
pub written_alike : (range second : Range) → can_be_written range ≡ true → can_be_written second ≡ true → range_text range ≡ range_text second → range ≡ second
written_alike range second r s h = same_ok range second (sym (written_means One range r) ∙ ap (meaning One) h ∙ written_means One second s)
