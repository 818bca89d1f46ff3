use Rattle.std.proofs.Common.{◌+◌, ℕ, List, Some, None, length, drop, sym, ap, ◌∙◌, subst, arith, length-drop}
use Rattle.rtsp_head.specs.declared.item.Item.{Item}
use Rattle.rtsp_frame.specs.declared.item_front.StreamFront.{StreamFront}
use Rattle.rtsp_frame.specs.CutItems.{Joined}
use Rattle.rtsp_frame.specs.StreamFronts.{IsStreamFront, owed}
use Rattle.rtsp_frame.proofs.HeadLemmas.{blank_lines_fit}
use Rattle.rtsp_frame.proofs.ExtentLemmas.{first_is}
use Rattle.rtsp_frame.proofs.CutStepLemmas.{Cutting, cutting_more, cutting_ends, cutting_breaks}
use Rattle.rtsp_frame.proofs.cut_items.cut_on.Goals as goal

pub returns-then-is_bad-clause-ok : goal.returns-then-is_bad-clause-ok
returns-then-is_bad-clause-ok g c =
    let left = c.items.left.now in
    let at = subst (λ (f : StreamFront). IsStreamFront left f) c.in-Whole.is c.items.invariant.next in
    subst (λ (items : List Item). Joined c.args.queue.now.waiting.items items c.args.bytes.now None) (sym {A = List Item} c.in_ok-push_back-in-Whole.ensures.items)
    (cutting_breaks c.args.queue.now.waiting.items c.items.queue.waiting.items c.args.bytes.now left c.items.used
    c.in-Whole.extent c.in_ok-item-in-Whole.item c.items.invariant.cutting at c.in_ok-item-in-Whole.ensures
    (sym c.is_bad.ensures ∙ c.if-is_bad.true))

pub overflow_add-taken : goal.overflow_add-taken
overflow_add-taken g c =
    let left = c.items.left.now in
    let at = subst (λ (f : StreamFront). IsStreamFront left f) c.in-Whole.is c.items.invariant.next in
    let fits = (first_is left c.in-Whole.extent at).fits in
    omega (arith, fits, ap length c.items.invariant.cutting.place, length-drop c.items.used c.args.bytes.now, c.items.invariant.cutting.within)

pub overflow_add-used : goal.overflow_add-used
overflow_add-used g c =
    let left = c.items.left.now in
    let at = subst (λ (f : StreamFront). IsStreamFront left f) c.in-Whole.is c.items.invariant.next in
    let fits = (first_is left c.in-Whole.extent at).fits in
    omega (arith, fits, ap length c.items.invariant.cutting.place, length-drop c.items.used c.args.bytes.now, c.items.invariant.cutting.within)

pub after-left-requires : goal.after-left-requires
after-left-requires g c =
    let left = c.items.left.now in
    (first_is left c.in-Whole.extent (subst (λ (f : StreamFront). IsStreamFront left f) c.in-Whole.is c.items.invariant.next)).fits

pub items-preserved : goal.items-preserved
items-preserved g c =
    let left = c.items.left.now in
    let at = subst (λ (f : StreamFront). IsStreamFront left f) c.in-Whole.is c.items.invariant.next in
    let taken = c.in-Whole.extent.skipped + c.in-Whole.extent.span.len in
    let due = ap (λ (f : StreamFront). owed f (length left)) c.in-Whole.is in
    record {
      cutting =
          subst (λ (rest : List ℕ). Cutting c.args.queue.now.waiting.items c.push_back.new.self.items c.args.bytes.now rest (c.items.used + taken)) (sym {A = List ℕ} c.after-left.ensures)
          (subst (λ (items : List Item). Cutting c.args.queue.now.waiting.items items c.args.bytes.now (drop taken left) (c.items.used + taken)) (sym {A = List Item} c.in_ok-push_back-in-Whole.ensures.items)
          (cutting_more c.args.queue.now.waiting.items c.items.queue.waiting.items c.args.bytes.now left c.items.used
          c.in-Whole.extent c.in_ok-item-in-Whole.item c.items.invariant.cutting at c.in_ok-item-in-Whole.ensures
          (sym c.is_bad.ensures ∙ c.if-is_bad.false)));
      next = c.stream_front-next.ensures.front;
      marks = c.stream_front-next.ensures.marks;
      steps = omega (arith, due, c.stream_front-next.ensures.steps, c.items.invariant.steps, ap length c.after-left.ensures, length-drop taken left);
    }

pub overflow_add-result : goal.overflow_add-result
overflow_add-result g c =
    let left = c.items.left.now in
    let here = subst (λ (f : StreamFront). IsStreamFront left f) c.in-Begun.is c.items.invariant.next in
    omega (arith, here.1, blank_lines_fit left, ap length c.items.invariant.cutting.place, length-drop c.items.used c.args.bytes.now, c.items.invariant.cutting.within)

pub returns-in-Begun-clause-ok : goal.returns-in-Begun-clause-ok
returns-in-Begun-clause-ok g c =
    let left = c.items.left.now in
    let here = subst (λ (f : StreamFront). IsStreamFront left f) c.in-Begun.is c.items.invariant.next in
    subst (λ (n : ℕ). Joined c.args.queue.now.waiting.items c.items.queue.waiting.items c.args.bytes.now (Some (c.items.used + n))) (sym here.1)
    (cutting_ends c.args.queue.now.waiting.items c.items.queue.waiting.items c.args.bytes.now left c.items.used c.items.invariant.cutting here.0)
