use Rattle.std.proofs.Common.{ℕ, List, [], ◌∷◌, ◌++◌, not, sym, ap, ◌∙◌, subst}
use Rattle.rtsp_frame.specs.CutItems.{left_if}
use Rattle.rtsp_frame.specs.FramerState.{HeldBytes, Framed, IsAlone}
use Rattle.rtsp_frame.proofs.FramerLemmas.{framed_whole}
use Rattle.rtsp_frame.proofs.framer.Framer.take.Goals as goal
use Rattle.rtsp_frame.proofs.framer.Framer.take.Goals.{then-is_bad+in-Some-1, then-is_bad+in-None-1, else-is_bad}

pub returns-clause-ok : goal.returns-clause-ok
returns-clause-ok c stream given h =
    let bytes : List ℕ = c.args.piece.now in
    let alone : IsAlone c.args.self.now bytes c.in-Some.span = subst (λ (bytes : List ℕ). IsAlone c.args.self.now bytes c.in-Some.span) c.as_bytes.ensures c.in-Some.ensures.alone in
    let left = framed_whole c.args.self.now c.if-is_bad.self stream bytes c.in-Some.span given alone in
    let framed : Framed c.if-is_bad.self (stream ++ bytes) (given ++ record { kind = c.in-Some.span.kind; bytes = bytes; head = c.in-Some.span.head } ∷ []) =
    elim c.if-is_bad.branch [
      | then-is_bad+in-Some-1 w ↦ left (ap (λ (held : HeldBytes). held.waiting) w.self-is ∙ ap (λ (held : HeldBytes). held.waiting) (c.self.view_is ∙ alone.nothing))
          (ap (λ (held : HeldBytes). held.rest) w.self-is ∙ ap (λ bad. left_if (not bad) []) (sym w.if-is_bad.true ∙ c.is_bad.ensures)) h
      | then-is_bad+in-None-1 w ↦ left (ap (λ (held : HeldBytes). held.waiting) w.self-is ∙ ap (λ (held : HeldBytes). held.waiting) (c.self.view_is ∙ alone.nothing))
          (ap (λ (held : HeldBytes). held.rest) w.self-is ∙ ap (λ bad. left_if (not bad) []) (sym w.if-is_bad.true ∙ c.is_bad.ensures)) h
      | else-is_bad w ↦ left (ap (λ (held : HeldBytes). held.waiting) (w.self-is ∙ alone.nothing))
          (ap (λ (held : HeldBytes). held.rest) (w.self-is ∙ alone.nothing) ∙ ap (λ bad. left_if (not bad) []) (sym w.if-is_bad.false ∙ c.is_bad.ensures)) h
    ] in
    subst (λ (moved : List ℕ). Framed c.if-is_bad.self (stream ++ bytes) (given ++ record { kind = c.in-Some.span.kind; bytes = moved; head = c.in-Some.span.head } ∷ [])) (sym c.replace.ensures.value) framed
