use Rattle.std.proofs.Common.{◌≡◌, ◌<◌, ◌≤◌, ◌∙◌, ap, rules, arith}
use Rattle.std.specs.Prelude.{IfSome}
use Rattle.rtsp_transport.specs.Grants.{grant_of}
use Rattle.rtsp_transport.specs.GrantText.{grant_text}
use Rattle.rtsp_transport.proofs.GrantTextLemmas.{grant_read}
use Rattle.rtsp_transport.proofs.write.write_one.Goals as goal

pub returns-clause-read : goal.returns-clause-read
returns-clause-read c =
    let text : c.push_ssrc.new.text ≡ grant_text (record { pair = c.args.pair.now; ssrc = c.args.ssrc }) = search rules in
    let a : c.args.pair.now.rtp ≤ 255 = omega arith in
    let b : c.args.pair.now.rtcp ≤ 255 = omega arith in
    let small : IfSome c.args.ssrc (λ n. n < 4294967296) = search (rules, c.well_formed) in
    ap grant_of text ∙ grant_read (record { pair = c.args.pair.now; ssrc = c.args.ssrc }) a b c.requires small
