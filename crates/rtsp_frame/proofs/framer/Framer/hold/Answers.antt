use Rattle.std.proofs.Common.{arith, length, ◌≡◌, ℕ, List, [], Some, sym, ap, ◌∙◌}
use Rattle.std.specs.Option.{option_map}
use Rattle.std.proofs.lemmas.List.{nil_from_length}
use Rattle.std.proofs.lemmas.Result.{IfOk-weaker}
use Rattle.rtsp_head.specs.Items.{Shape}
use Rattle.rtsp_head.specs.Shapes.{shapes}
use Rattle.rtsp_frame.specs.FramerState.{HeldBytes}
use Rattle.rtsp_frame.proofs.FramerLemmas.{holds_piece}
use Rattle.rtsp_frame.proofs.framer.Framer.hold.Goals as goal

pub returns-clause-ok : goal.returns-clause-ok
returns-clause-ok c =
    let rest : List ℕ = c.in-Some.rest.bytes.items in
    let none : length c.self.inside.queue.waiting.items ≡ 0 = grind (arith, c.is_empty.ensures, c.if-not-is_empty.false) in
    let idle : shapes c.self.inside.queue.waiting.items ≡ [] = ap shapes (nil_from_length c.self.inside.queue.waiting.items none) in
    let before : c.args.self.now ≡ record { waiting = []; rest = Some rest } =
    sym c.self.view_is
    ∙ ap (λ (waiting : List Shape). let held : HeldBytes = record { waiting = waiting; rest = option_map (λ rest. rest.bytes.items) c.self.inside.rest } in held) idle
    ∙ ap (λ (o : _). let held : HeldBytes = record { waiting = []; rest = option_map (λ rest. rest.bytes.items) o } in held) c.in-Some.is in
    IfOk-weaker c.hold.result _ _ (λ held h. holds_piece held c.args.self.now _ c.args.piece.now rest c.hold.new.rest.items before
    (ap (λ (waiting : List Shape). let held : HeldBytes = record { waiting = waiting; rest = Some c.hold.new.rest.items } in held) idle) h) c.hold.ensures.ok
