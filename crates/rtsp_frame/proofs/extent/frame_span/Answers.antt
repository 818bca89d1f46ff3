use Rattle.std.proofs.Common.{ℕ, length, Result, get_or, sym, ap, ◌∙◌, subst, arith}
use Rattle.rtsp_head.specs.declared.item.Span.{Span}
use Rattle.rtsp_frame.specs.declared.item_front.ItemFront.{ItemFront}
use Rattle.rtsp_frame.specs.StreamFronts.{IsSpanFound, when_come}
use Rattle.rtsp_frame.proofs.ExtentLemmas.{frame_of}
use Rattle.rtsp_frame.proofs.FrontLemmas.{found_short, found_frame}
use Rattle.rtsp_frame.proofs.extent.frame_span.Goals as goal

pub returns-then-bytes-lt4-clause-found : goal.returns-then-bytes-lt4-clause-found
returns-then-bytes-lt4-clause-found g c = found_short c.args.bytes.now c.requires.begins c.requires.some c.if-bytes-lt4.true

pub returns-clause-found : goal.returns-clause-found
returns-clause-found g c =
    let high = c.from.ensures ∙ c.look.ensures.byte in
    let low = c.from-2.ensures ∙ c.look-2.ensures.byte in
    subst (λ (r : Result Span ItemFront). IsSpanFound c.args.bytes.now r)
    (sym (c.when_come.ensures ∙ ap (λ (n : ℕ). when_come (length c.args.bytes.now) (frame_of n c.from-2.result)) high ∙ ap (λ (n : ℕ). when_come (length c.args.bytes.now) (frame_of (get_or c.args.bytes.now 2 0) n)) low))
    (found_frame c.args.bytes.now c.requires.begins (omega (arith, c.if-bytes-lt4.false)))
