use Rattle.std.proofs.Common.{◌≡◌, ◌≤◌, ℕ, List, None, Some, ◌++◌, length, take, sym, ap, ◌∙◌, subst, arith}
use Rattle.std.proofs.lemmas.List.{append-nil, length-append, length-take}
use Rattle.gate_bytes.specs.Ascii.{lf}
use Rattle.gate_bytes.specs.Places.{place_of}
use Rattle.rtsp_head.specs.Items.{Cut}
use Rattle.rtsp_head.specs.Shapes.{shapes}
use Rattle.rtsp_frame.specs.Fronts.{IsHeadFront, IsKnownFront}
use Rattle.rtsp_frame.specs.declared.item_front.ItemFront.{ItemFront}
use Rattle.rtsp_frame.proofs.RestLemmas.{clear_all, head_clear, none_cut}
use Rattle.rtsp_frame.proofs.held_head.feed_head.Goals as goal

pub returns-clause-ok : goal.returns-clause-ok
returns-clause-ok g c =
    let held : List ℕ = c.args.rest.now.items in
    let piece : List ℕ = c.args.piece.now in
    let room = c.min-room.result in
    let clear = c.clear_run-clear.result in
    let whole : length piece ≤ clear = omega arith in
    let none : place_of lf (take clear (take room piece)) ≡ None = ap (λ (l : List ℕ). place_of lf (take clear l)) (sym c.before-2.ensures) ∙ c.clear_run-clear.ensures.clear in
    let fits : clear ≤ room = omega (arith, c.clear_run-clear.ensures.within, ap length c.before-2.ensures, length-take room piece) in
    let goes_on = head_clear held piece c.args.line c.requires.known (clear_all piece room clear whole none fits) (omega (arith, length-append held piece, c.min-room.ensures)) in
    let nothing = none_cut (held ++ piece) c.args.line goes_on in
    record {
      items = sym (append-nil (shapes c.args.queue.now.waiting.items)) ∙ ap (λ (cut : Cut). shapes c.args.queue.now.waiting.items ++ cut.items) (sym nothing);
      rest = ap (λ (l : List ℕ). Some l) c.in_ok-extend_from_slice.ensures.items ∙ ap (λ (cut : Cut). cut.rest) (sym nothing);
    }

pub returns-clause-known : goal.returns-clause-known
returns-clause-known g c =
    let held : List ℕ = c.args.rest.now.items in
    let piece : List ℕ = c.args.piece.now in
    let room = c.min-room.result in
    let clear = c.clear_run-clear.result in
    let whole : length piece ≤ clear = omega arith in
    let none : place_of lf (take clear (take room piece)) ≡ None = ap (λ (l : List ℕ). place_of lf (take clear l)) (sym c.before-2.ensures) ∙ c.clear_run-clear.ensures.clear in
    let fits : clear ≤ room = omega (arith, c.clear_run-clear.ensures.within, ap length c.before-2.ensures, length-take room piece) in
    let goes_on = head_clear held piece c.args.line c.requires.known (clear_all piece room clear whole none fits) (omega (arith, length-append held piece, c.min-room.ensures)) in
    subst (λ (front : ItemFront). IsKnownFront c.extend_from_slice.new.self.items front) (sym c.requires.front)
    (subst (λ (l : List ℕ). IsHeadFront l c.args.line) (sym c.in_ok-extend_from_slice.ensures.items) goes_on)
