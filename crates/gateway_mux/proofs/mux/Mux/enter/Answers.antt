use Rattle.std.proofs.Common.{List, refl, sym}
use Rattle.std.proofs.Math.Logic.{∥∥₁_map}
use Rattle.gateway_claim.specs.Happenings.{HistoryEntry, enters, silent}
use Rattle.gateway_mux.specs.declared.mux.Mux.{Mux}
use Rattle.gateway_mux.specs.Stands.{Stands}
use Rattle.gateway_mux.proofs.MuxLemmas.{silent_stands, still_open, entered_stands, new_picture, unchanged_stands, on_err_always}
use Rattle.gateway_mux.proofs.mux.Mux.enter.Goals as goal

pub returns-then-is_some-clause-ok : goal.returns-then-is_some-clause-ok
returns-then-is_some-clause-ok c T stands never = silent_stands c.args.self.now (enters c.args.conn) silent (sym c.if-is_some.ensures) refl T stands

pub returns-in_err-prepare-clause-err : goal.returns-in_err-prepare-clause-err
returns-in_err-prepare-clause-err c =
    let old : Mux = c.args.self.now in
    let new : Mux = record { connections = c.prepare.new.self; ended = old.ended; dropped = old.dropped } in
    on_err_always c.from_residual.result ((T : List HistoryEntry) → Stands old T → Stands new T) (unchanged_stands old new refl refl c.prepare.ensures.bases c.prepare.ensures.same)

pub enter-requires-clause-new : goal.enter-requires-clause-new
enter-requires-clause-new c =
    let old : Mux = c.args.self.now in
    let mid : Mux = record { connections = c.prepare.new.self; ended = old.ended; dropped = old.dropped } in
    ∥∥₁_map c.requires (new_picture old mid c.args.conn (still_open old.ended (sym c.if-is_some.ensures)) c.prepare.ensures.bases c.prepare.ensures.same)

pub returns-clause-ok : goal.returns-clause-ok
returns-clause-ok c T stands =
    let old : Mux = c.args.self.now in
    let mid : Mux = record { connections = c.prepare.new.self; ended = old.ended; dropped = old.dropped } in
    let new : Mux = record { connections = c.enter.new.self; ended = old.ended; dropped = old.dropped } in
    entered_stands mid new c.args.conn (still_open old.ended (sym c.if-is_some.ensures)) refl refl c.enter.ensures.bases c.enter.ensures.entered T
    (unchanged_stands old mid refl refl c.prepare.ensures.bases c.prepare.ensures.same T stands)
