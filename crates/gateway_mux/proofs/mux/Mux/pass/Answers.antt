use Rattle.std.proofs.Common.{◌∙◌, refl, sym}
use Rattle.gateway_claim.specs.Happenings.{happening_of}
use Rattle.gateway_claim.specs.declared.event.Outcome.{Outcome}
use Rattle.gateway_mux.specs.declared.mux.Mux.{Mux}
use Rattle.gateway_mux.proofs.MuxLemmas.{still_open, commit_drops, commit_stands, frame_dropped, client_handed, message_handed}
use Rattle.gateway_mux.proofs.mux.Mux.pass.Goals.{else-is_none-via-then-is_none+else-is_none-2, else-is_none-via-else-is_none}
use Rattle.gateway_mux.proofs.mux.Mux.pass.Goals as goal

pub returns-then-is_none-2-clause-stands : goal.returns-then-is_none-2-clause-stands
returns-then-is_none-2-clause-stands c =
    let old : Mux = c.args.self.now in
    let outcome : Outcome = c.pass-outcome.result in
    let new : Mux = record { connections = old.connections; ended = old.ended; dropped = c.saturating_add-self.result } in
    let stood = still_open old.ended c.requires.open in
    commit_drops old new c.args.event outcome stood (stood ∙ sym c.pass-outcome.ensures.open) refl c.pass-outcome.ensures.commits c.saturating_add-self.ensures
    (frame_dropped (happening_of c.args.event) outcome c.requires.frame c.if-is_none.ensures c.if-is_none-2.ensures)

pub returns-else-is_none-clause-stands : goal.returns-else-is_none-clause-stands
returns-else-is_none-clause-stands c =
    let old : Mux = c.args.self.now in
    let outcome : Outcome = c.pass-outcome.result in
    let stood = still_open old.ended c.requires.open in
    commit_stands old old c.args.event outcome stood (stood ∙ sym c.pass-outcome.ensures.open) refl c.pass-outcome.ensures.commits refl
    (elim c.else-is_none.branch [
      | else-is_none-via-then-is_none+else-is_none-2 w ↦ message_handed (happening_of c.args.event) outcome w.if-is_none-2.ensures
      | else-is_none-via-else-is_none w ↦ client_handed (happening_of c.args.event) outcome w.if-is_none.ensures
    ])
