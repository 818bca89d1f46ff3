use Rattle.std.proofs.Common.{◌≡◌, ◌∙◌, ap, rules}
use Rattle.rtsp_range.specs.Meaning.{One, Two, meaning}
use Rattle.rtsp_range.specs.RangeText.{range_text}
use Rattle.rtsp_range.proofs.WrittenMeans.{written_means}
use Rattle.rtsp_range.proofs.range_text.write.Goals as goal

pub returns-clause-read_one : goal.returns-clause-read_one
returns-clause-read_one c can =
    let text : c.push_range.new.text ≡ range_text c.args.range.now = search rules in
    ap (meaning One) text ∙ written_means One c.args.range.now can

pub returns-clause-read_two : goal.returns-clause-read_two
returns-clause-read_two c can =
    let text : c.push_range.new.text ≡ range_text c.args.range.now = search rules in
    ap (meaning Two) text ∙ written_means Two c.args.range.now can
