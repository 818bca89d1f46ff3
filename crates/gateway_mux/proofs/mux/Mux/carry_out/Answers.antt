use Rattle.std.proofs.Common.{◌∙◌, refl, sym}
use Rattle.gateway_claim.specs.Happenings.{happening_of}
use Rattle.gateway_claim.specs.declared.event.Outcome.{Outcome}
use Rattle.gateway_mux.specs.declared.mux.Mux.{Mux}
use Rattle.gateway_mux.proofs.MuxLemmas.{silent_stands, still_open, planned, commit_drops, commit_stands, frame_dropped, other_item, client_handed, message_handed}
use Rattle.gateway_mux.proofs.mux.Mux.carry_out.Goals.{else-is_frame-via-then-is_frame+then-is_none+else-is_none-2, else-is_frame-via-then-is_frame+else-is_none, else-is_frame-via-else-is_frame}
use Rattle.gateway_mux.proofs.mux.Mux.carry_out.Goals as goal

-- src/mux.rt:87:13
pub returns-then-is_some-clause-stands : goal.returns-then-is_some-clause-stands
returns-then-is_some-clause-stands c = silent_stands c.args.self.now (happening_of c.args.event) c.nothing.result (sym c.if-is_some.ensures) c.nothing.ensures.silent

-- src/mux.rt:90:23
pub commit-outcome-requires : goal.commit-outcome-requires
commit-outcome-requires c =
    let is = planned c.args.self.now.ended c.args.self.now c.args.event c.args.act (sym c.if-is_some.ensures) c.requires in
    record { act = is.0; key = is.2 }

-- src/mux.rt:80:5
pub returns-then-is_none-2-clause-stands : goal.returns-then-is_none-2-clause-stands
returns-then-is_none-2-clause-stands c =
    let old : Mux = c.args.self.now in
    let outcome : Outcome = c.commit-outcome.result in
    let new : Mux = record { connections = c.commit-outcome.new.self; ended = outcome.fault; dropped = c.saturating_add-self.result } in
    commit_drops old new c.args.event outcome (still_open old.ended (sym c.if-is_some.ensures)) refl c.commit-outcome.ensures.bases c.commit-outcome.ensures.commits c.saturating_add-self.ensures
    (frame_dropped (happening_of c.args.event) outcome (sym c.is_frame-is_frame.ensures ∙ c.if-is_frame.true) c.if-is_none.ensures c.if-is_none-2.ensures)

-- src/mux.rt:80:5
pub returns-then-is_none-2-clause-short : goal.returns-then-is_none-2-clause-short
returns-then-is_none-2-clause-short c = c.commit-outcome.ensures.short (planned c.args.self.now.ended c.args.self.now c.args.event c.args.act (sym c.if-is_some.ensures) c.requires).1

-- src/mux.rt:80:5
pub returns-else-is_frame-clause-stands : goal.returns-else-is_frame-clause-stands
returns-else-is_frame-clause-stands c =
    let old : Mux = c.args.self.now in
    let outcome : Outcome = c.commit-outcome.result in
    let new : Mux = record { connections = c.commit-outcome.new.self; ended = outcome.fault; dropped = old.dropped } in
    commit_stands old new c.args.event outcome (still_open old.ended (sym c.if-is_some.ensures)) refl c.commit-outcome.ensures.bases c.commit-outcome.ensures.commits refl
    (elim c.else-is_frame.branch [
      | else-is_frame-via-then-is_frame+then-is_none+else-is_none-2 w ↦ message_handed (happening_of c.args.event) outcome w.if-is_none-2.ensures
      | else-is_frame-via-then-is_frame+else-is_none w ↦ client_handed (happening_of c.args.event) outcome w.if-is_none.ensures
      | else-is_frame-via-else-is_frame w ↦ other_item (happening_of c.args.event) outcome (sym c.is_frame-is_frame.ensures ∙ w.if-is_frame.false)
    ])

-- src/mux.rt:80:5
pub returns-else-is_frame-clause-short : goal.returns-else-is_frame-clause-short
returns-else-is_frame-clause-short c = c.commit-outcome.ensures.short (planned c.args.self.now.ended c.args.self.now c.args.event c.args.act (sym c.if-is_some.ensures) c.requires).1
