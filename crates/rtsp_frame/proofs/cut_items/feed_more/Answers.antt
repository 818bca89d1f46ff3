use Rattle.std.proofs.Common.{rules, ◌≡◌, ℕ, List, length, take, sym, ap, ◌∙◌, subst, arith}
use Rattle.std.proofs.lemmas.List.{take_all, take-append-le}
use Rattle.rtsp_frame.specs.Fronts.{IsKnownFront}
use Rattle.rtsp_frame.proofs.cut_items.feed_more.Goals as goal

pub feed_found-requires-clause-known : goal.feed_found-requires-clause-known
feed_found-requires-clause-known g c =
    let held : List ℕ = c.args.rest.now.items in
    let long : c.len-held.result ≡ length held = search rules in
    let same = ap (λ (n : ℕ). take n c.extend_from_slice.new.self.items) long
    ∙ ap (take (length held)) c.in_ok-extend_from_slice.ensures.items
    ∙ take-append-le (length held) held c.args.piece.now (omega arith)
    ∙ take_all (length held) held (omega arith) in
    subst (λ (l : List ℕ). IsKnownFront l c.args.front.now) (sym same) c.requires
