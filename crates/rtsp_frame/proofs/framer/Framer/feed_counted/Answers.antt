use Rattle.std.proofs.Common.{◌≡◌, ◌++◌, ℕ, List, Some, None, length, sym, ap, ◌∙◌, subst, refl, arith}
use Rattle.std.specs.Option.{option_map}
use Rattle.rtsp_head.specs.Items.{Shape, cut}
use Rattle.rtsp_head.specs.Shapes.{shapes}
use Rattle.rtsp_frame.specs.FramerState.{HeldBytes, Framed}
use Rattle.rtsp_frame.specs.CutItems.{left_if}
use Rattle.rtsp_frame.specs.Fronts.{unfinished_of, head_held}
use Rattle.rtsp_frame.proofs.FramerLemmas.{framed_done, framed_more}
use Rattle.rtsp_frame.proofs.RestLemmas.{front_unfinished}
use Rattle.rtsp_frame.proofs.framer.Framer.feed_counted.Goals as goal
use Rattle.rtsp_frame.proofs.framer.Framer.feed_counted.Goals.{In_ok-goes_on, in-Some-1, in-None-1}

pub returns-in_default-clause-ok : goal.returns-in_default-clause-ok
returns-in_default-clause-ok g c = λ stream given h.
    framed_done _ stream c.args.piece.now given (ap (option_map (λ rest. rest.bytes.items)) c.in_default.is)
    (subst (λ (held : HeldBytes). Framed held stream given) (sym c.self.view_is) h)

-- what was held before the call
held_before : (g : _) (c : In_ok-goes_on g) → c.args.self.now.rest ≡ Some c.in-Some.rest.bytes.items
held_before g c = ap (λ (held : HeldBytes). held.rest) (sym c.self.view_is) ∙ ap (option_map (λ rest. rest.bytes.items)) c.in-Some.is

-- what the fields say after the items joined the queue
fed : (g : _) (c : In_ok-goes_on g) (new : HeldBytes) → new.waiting ≡ shapes c.feed.new.queue.waiting.items → new.rest ≡ left_if c.in_ok-goes_on.goes_on c.feed.new.rest.items → (stream : List ℕ) (given : List Shape) → Framed c.args.self.now stream given → Framed new (stream ++ c.args.piece.now) given
fed g c new waiting rest stream given h =
    framed_more c.args.self.now new stream c.args.piece.now c.in-Some.rest.bytes.items given (held_before g c)
    (waiting ∙ c.in_ok-goes_on.ensures.ok.items ∙ ap (λ (held : HeldBytes). held.waiting ++ (cut (c.in-Some.rest.bytes.items ++ c.args.piece.now)).items) c.self.view_is)
    (rest ∙ c.in_ok-goes_on.ensures.ok.rest) h

-- four steps a byte of what was an unfinished head
credit : (g : _) (c : In_ok-goes_on g) → unfinished_of c.args.self.now.rest ≡ head_held c.in-Some.rest.front (length c.in-Some.rest.bytes.items)
credit g c = ap unfinished_of (held_before g c) ∙ front_unfinished c.in-Some.rest.bytes.items c.in-Some.rest.front c.in-Some.rest.known

pub returns-else-not-goes_on-clause-ok : goal.returns-else-not-goes_on-clause-ok
returns-else-not-goes_on-clause-ok g c = λ stream given h.
    fed g (goal.at.returns-else-not-goes_on-clause-ok g c).In_ok-goes_on _ refl
    (ap (λ goes_on. left_if goes_on c.feed.new.rest.items) (sym c.if-not-goes_on.false)) stream given h

pub returns-else-not-goes_on-clause-steps : goal.returns-else-not-goes_on-clause-steps
returns-else-not-goes_on-clause-steps g c =
    let before = credit g (goal.at.returns-else-not-goes_on-clause-steps g c).In_ok-goes_on in
    let after = front_unfinished c.feed.new.rest.items c.feed.new.front c.in_ok-goes_on.ensures.known in
    omega (arith, before, after, c.in_ok-goes_on.ensures.steps)

pub returns-then-not-goes_on-clause-ok : goal.returns-then-not-goes_on-clause-ok
returns-then-not-goes_on-clause-ok g c = λ stream given h.
    let bad : (new : HeldBytes) → new.waiting ≡ shapes c.feed.new.queue.waiting.items → new.rest ≡ None → Framed new (stream ++ c.args.piece.now) given =
    λ new waiting rest. fed g (goal.at.returns-then-not-goes_on-clause-ok g c).In_ok-goes_on new waiting
    (rest ∙ ap (λ goes_on. left_if goes_on c.feed.new.rest.items) (sym c.if-not-goes_on.true)) stream given h in
    elim c.match-self-2.branch [
      | in-Some-1 w ↦ bad _ (ap (λ (held : HeldBytes). held.waiting) w.self-is) (ap (λ (held : HeldBytes). held.rest) w.self-is)
      | in-None-1 w ↦ bad _ (ap (λ (held : HeldBytes). held.waiting) w.self-is) (ap (λ (held : HeldBytes). held.rest) w.self-is)
    ]

pub returns-then-not-goes_on-clause-steps : goal.returns-then-not-goes_on-clause-steps
returns-then-not-goes_on-clause-steps g c =
    let before = credit g (goal.at.returns-then-not-goes_on-clause-steps g c).In_ok-goes_on in
    elim c.match-self-2.branch [
      | in-Some-1 w ↦ let none = ap (λ (held : HeldBytes). unfinished_of held.rest) w.self-is in omega (arith, before, none, c.in_ok-goes_on.ensures.steps)
      | in-None-1 w ↦ let none = ap (λ (held : HeldBytes). unfinished_of held.rest) w.self-is in omega (arith, before, none, c.in_ok-goes_on.ensures.steps)
    ]
