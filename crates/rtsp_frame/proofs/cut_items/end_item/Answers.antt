use Rattle.std.proofs.Common.{◌≡◌, ◌+◌, ◌-◌, ◌≤◌, ℕ, Bool, true, false, List, ◌∷◌, [], ◌++◌, take, length, Option, Some, None, Result, Ok, Err, refl, ap, ◌∙◌, subst, arith}
use Rattle.std.specs.Result.{OnErr}
use Rattle.gate_bytes.specs.declared.memory.Memory.{Memory}
use Rattle.rtsp_head.specs.declared.item.Item.{Item}
use Rattle.rtsp_frame.specs.declared.item_front.Leftover.{Leftover}
use Rattle.rtsp_frame.specs.CutItems.{Joined, used_of}
use Rattle.rtsp_frame.proofs.StreamEndLemmas.{joined_on, kept_less}
use Rattle.rtsp_frame.proofs.cut_items.end_item.Goals as goal
use Rattle.rtsp_frame.proofs.cut_items.end_item.Goals.{In_ok-bytes}

split : (g : _) (c : In_ok-bytes g) → c.in_ok-bytes.bytes ≡ c.args.rest.now.items ++ take (c.args.span.len - c.len.result) c.args.piece.now
split g c =
    c.in_ok-bytes.ensures.joined
    ∙ ap (λ (front : List ℕ). front ++ c.before-2.result.now) c.as_slice.ensures.value
    ∙ ap (λ (ends : List ℕ). c.args.rest.now.items ++ ends) c.before-2.ensures

lacks : (g : _) (c : In_ok-bytes g) → (c.args.span.len - c.len.result ≤ length c.args.piece.now) × (length c.args.rest.now.items + (c.args.span.len - c.len.result) ≡ c.args.span.len)
lacks g c =
    let len = c.len.ensures ∙ c.args.rest.now.ok.0 in
    let short = c.requires.known.short in
    let come = c.requires.come in
    (omega arith, omega arith)

undone : (old pushed now : List Item) (item : Item) → pushed ≡ old ++ item ∷ [] → take (length pushed) now ≡ pushed → take (length old) now ≡ old
undone old pushed now item is h = kept_less old now item (subst (λ (items : List Item). take (length items) now ≡ items) is h)

told : (r : Result Bool Memory) (P : Type 0) → P → OnErr r P
told (Ok goes_on) P h = tt
told (Err fault) P h = h

pub returns-in_default-clause-ok : goal.returns-in_default-clause-ok
returns-in_default-clause-ok g c =
    let here = (goal.at.returns-in_default-clause-ok g c).In_ok-bytes in
    let enough = lacks g here in
    joined_on c.args.queue.now.waiting.items c.push_back.new.self.items c.cut.new.queue.waiting.items c.args.rest.now.items c.clear.new.self.items c.args.piece.now c.after-more.result.now
    (c.args.span.len - c.len.result) c.args.span None false _ c.requires.known enough.0 enough.1
    c.in_ok-push_back.ensures.items
    (ap (λ (bytes : List ℕ). record { kind = c.args.span.kind; bytes = bytes; head = c.args.span.head }) (split g here))
    c.after-more.ensures
    (subst (λ (left : Option Leftover). Joined c.push_back.new.self.items c.cut.new.queue.waiting.items c.after-more.result.now (used_of left)) c.in_default.is c.in_ok-left.ensures.ok)
    refl

pub returns-in_err-rest-clause-err : goal.returns-in_err-rest-clause-err
returns-in_err-rest-clause-err g c =
    told c.from_residual-in_err-rest.result _
    (undone c.args.queue.now.waiting.items c.push_back.new.self.items c.cut.new.queue.waiting.items _ c.in_ok-push_back.ensures.items c.in_ok-left.ensures.ok.kept, refl)

pub returns-clause-ok : goal.returns-clause-ok
returns-clause-ok g c =
    let here = (goal.at.returns-clause-ok g c).In_ok-bytes in
    let enough = lacks g here in
    joined_on c.args.queue.now.waiting.items c.push_back.new.self.items c.cut.new.queue.waiting.items c.args.rest.now.items c.in_ok-rest.field-0.items c.args.piece.now c.after-more.result.now
    (c.args.span.len - c.len.result) c.args.span (Some c.in-Some.left.used) true _ c.requires.known enough.0 enough.1
    c.in_ok-push_back.ensures.items
    (ap (λ (bytes : List ℕ). record { kind = c.args.span.kind; bytes = bytes; head = c.args.span.head }) (split g here))
    c.after-more.ensures
    (subst (λ (left : Option Leftover). Joined c.push_back.new.self.items c.cut.new.queue.waiting.items c.after-more.result.now (used_of left)) c.in-Some.is c.in_ok-left.ensures.ok)
    (ap (λ (left : List ℕ). Some left) (c.in_ok-rest.ensures.items ∙ c.after.ensures))
