use Rattle.std.proofs.Common.{◌≡◌, ◌+◌, ℕ, List, length, drop, ap, ◌∙◌, arith, rules}
use Rattle.std.proofs.lemmas.List.{length-drop}
use Rattle.rtsp_head.specs.Names.{token_len}
use Rattle.rtsp_head.proofs.NameLemmas.{four_tokens, four_less}
use Rattle.rtsp_head.proofs.further.token_len.Goals as goal

pub loop-left-preserved : goal.loop-left-preserved
loop-left-preserved c =
    let left : List ℕ = c.loop-left.left.now in
    let less = four_less left in
    let more : token_len left ≡ 4 + token_len (drop 4 left) = four_tokens left c.in-len4-up.len_at_least (search rules) in
    let counted : c.loop-left.count + 4 + token_len (drop 4 left) ≡ token_len c.args.line.now = omega (arith, more, c.loop-left.invariant.counted) in
    let whole : c.loop-left.count + 4 + length (drop 4 left) ≡ length c.args.line.now = omega (arith, length-drop 4 left, c.in-len4-up.len_at_least, c.loop-left.invariant.whole) in
    record {
      counted = ap (λ (l : List ℕ). c.loop-left.count + 4 + token_len l) less ∙ counted;
      whole = ap (λ (l : List ℕ). c.loop-left.count + 4 + length l) less ∙ whole;
    }
