use Rattle.std.proofs.Common.{rules, ◌≡◌, ℕ, List, ◌+◌, ◌++◌, length, sym, ap, ◌∙◌, subst, arith}
use Rattle.std.proofs.lemmas.Result.{IfOk-weaker}
use Rattle.std.proofs.lemmas.List.{length-append}
use Rattle.rtsp_frame.specs.Fronts.{IsLineTo, head_held}
use Rattle.rtsp_frame.specs.StreamFronts.{at_once, owed}
use Rattle.rtsp_frame.specs.declared.item_front.ItemFront.{ItemFront}
use Rattle.rtsp_frame.specs.declared.item_front.StreamFront.{StreamFront}
use Rattle.rtsp_frame.proofs.RestLemmas.{line_clear, paid_once}
use Rattle.rtsp_frame.proofs.held_head.feed_line.Goals as goal

pub message_span-found-requires-clause-reached : goal.message_span-found-requires-clause-reached
message_span-found-requires-clause-reached g c =
    let held : List ℕ = c.args.rest.now.items in
    let long : c.len-held.result ≡ length held = search rules in
    let all = c.as_slice.ensures.value ∙ c.in_ok-extend_from_slice.ensures.items in
    subst (λ (l : List ℕ). IsLineTo l c.args.line (c.len-held.result + c.args.clear)) (sym all)
    (subst (λ (n : ℕ). IsLineTo (held ++ c.args.piece.now) c.args.line (n + c.args.clear)) (sym long)
    (line_clear held c.args.piece.now c.args.line c.args.clear c.requires.within c.requires.known.reached c.requires.clear))

pub returns-clause-steps : goal.returns-clause-steps
returns-clause-steps g c =
    let held : List ℕ = c.args.rest.now.items in
    let seen : List ℕ = c.as_slice.result.now in
    let items : List ℕ = c.extend_from_slice.new.self.items in
    let found = c.message_span-found.result in
    let long : c.len-held.result ≡ length held = search rules in
    let same : length seen ≡ length items = ap length c.as_slice.ensures.value in
    let come : length items ≡ length held + length c.args.piece.now = ap length c.in_ok-extend_from_slice.ensures.items ∙ length-append held c.args.piece.now in
    let fits = c.requires.within in
    let paid = paid_once seen found (c.len-held.result + c.args.clear) (omega arith) c.message_span-found.ensures.found c.message_span-found.ensures.more in
    let due = ap (λ (f : StreamFront). owed f (length items)) c.at_once-first.ensures ∙ ap (λ (n : ℕ). owed (at_once found) n) (sym same) in
    let credit = ap (λ (f : ItemFront). head_held f (length held)) c.requires.front in
    IfOk-weaker c.feed_found.result _ _ (λ goes_on h. omega (arith, h, paid, due, credit, c.message_span-found.ensures.steps)) c.feed_found.ensures.steps
