use Rattle.std.proofs.Common.{◌≡◌, ◌∙◌, ◌<◌, ◌≤◌, ◌++◌, ℕ, List, [], ◌∷◌, length, Option, Some, Ok, refl, ap, subst, inl, arith}
use Rattle.std.specs.Option.{option_or}
use Rattle.hub_queues.specs.declared.ending.Ending.{Ending}
use Rattle.hub_queues.specs.declared.ending.Ending.TheVariants.{Stopped}
use Rattle.hub_queues.specs.declared.ending.StopWhy.TheVariants as stops
use Rattle.hub_queues.specs.declared.line.HubConnection.{HubConnection}
use Rattle.hub_queues.specs.declared.line.Place.{Place}
use Rattle.hub_queues.specs.declared.line.Place.TheVariants.{Seated}
use Rattle.gateway_hub.specs.Enter.{Seats}
use Rattle.std.proofs.Math.Logic.{∥∥₁_map}
use Rattle.std.proofs.lemmas.Result.{err_from_is_err_and}
use Rattle.gate_transcript.specs.Notes.{NotesSo}
use Rattle.gateway_claim.specs.Happenings.{entering, enters}
use Rattle.gateway_hub.specs.Keeps.{Keeps, StandsIdle}
use Rattle.gateway_hub.specs.Notes.{note_of}
use Rattle.gateway_hub.proofs.IdleLemmas.{moved_keeps, entering_refused}
use Rattle.gateway_hub.proofs.WaitLemmas.{idle_still, idle_next}
use Rattle.gateway_hub.proofs.EnterLemmas.{entered_keeps, refused_enters, new_line, as_given}
use Rattle.gateway_hub.proofs.OweLemmas.{stop_keeps}
use Rattle.gateway_hub.proofs.TakeLemmas.{notes_kept, failed_note}
use Rattle.gateway_hub.proofs.EndLemmas.{other_ends, other_same, ends_same, ends_twice, stop_ends, refuse_ends, seat_ends}
use Rattle.gateway_hub.proofs.ShowLemmas.{shown_same, shown_stop, shown_refuses}
use Rattle.gateway_hub.proofs.state.HubState.enter.Goals as goal

pub enter-requires : goal.enter-requires
enter-requires g c = ∥∥₁_map c.requires (λ k.
    record {
      history = k.history;
      stood = c.prepare.ensures.stands k.history k.keeps.underway.stood.stood;
      never = k.keeps.underway.numbered.new c.len-conn.result (let e = c.len-conn.ensures in omega arith);
    })

pub returns-then-len-ge-MOST_CONNECTIONS-clause-enters : goal.returns-then-len-ge-MOST_CONNECTIONS-clause-enters
returns-then-len-ge-MOST_CONNECTIONS-clause-enters g c =
    let stands = StandsIdle g.M.Core.stands g.M.Core.waits g.M.Core.bases in
    let old = c.args.self.now in
    let many : 4294967295 ≤ length old.desk.places.items = (let e = c.len.ensures in let t = c.if-len-ge-MOST_CONNECTIONS.true in omega arith) in (
      inl (c.in_default.is, many),
      (λ T k. stop_keeps (stands old.core) (g.R.Recorder.entries old.recorder) (g.R.Recorder.faults old.recorder) old.desk c.stop.new.self stops.Spent c.stop.ensures (λ is. absurd (cc)) (λ is. many) T k),
      c.stop.ensures.ending ∙ ap (λ (e : Option Ending). option_or e (Some (Stopped stops.Spent))) c.in_default.is,
    )

pub returns-in_default-reserve-clause-enters : goal.returns-in_default-reserve-clause-enters
returns-in_default-reserve-clause-enters g c =
    let stands = StandsIdle g.M.Core.stands g.M.Core.waits g.M.Core.bases in
    let old = c.args.self.now in (
      c.in_default.is,
      (λ T k. moved_keeps (stands old.core) (stands old.core) (g.R.Recorder.entries old.recorder) (g.R.Recorder.entries old.recorder) (g.R.Recorder.faults old.recorder) (g.R.Recorder.faults old.recorder) old.desk (record old.desk { places = c.reserve.new.self }) T (λ s. s) (λ n. n) (omega arith)
          refl c.reserve.ensures.items refl refl k),
      c.in_default.is,
    )

pub returns-in_err-prepare-clause-enters : goal.returns-in_err-prepare-clause-enters
returns-in_err-prepare-clause-enters g c =
    let stands = StandsIdle g.M.Core.stands g.M.Core.waits g.M.Core.bases in
    let old = c.args.self.now in
    let still = idle_still g.M.Core.stands g.M.Core.waits g.M.Core.bases old.core c.prepare.new.self c.prepare.ensures.bases in
    let p = err_from_is_err_and c.from_residual-in_err-prepare.result c.from_residual-in_err-prepare.ensures.1 in
    rw (p.1, p.2) (
      c.in_default.is,
      (λ T k. moved_keeps (stands old.core) (stands c.prepare.new.self) (g.R.Recorder.entries old.recorder) (g.R.Recorder.entries old.recorder) (g.R.Recorder.faults old.recorder) (g.R.Recorder.faults old.recorder) old.desk (record old.desk { places = c.reserve.new.self }) T (still T (c.prepare.ensures.stands T))
          (λ n. n) (omega arith) refl c.reserve.ensures.items refl refl k),
      c.in_default.is,
    )

pub returns-in-Err-clause-enters : goal.returns-in-Err-clause-enters
returns-in-Err-clause-enters g c =
    let stands = StandsIdle g.M.Core.stands g.M.Core.waits g.M.Core.bases in
    let old = c.args.self.now in
    let still = idle_still g.M.Core.stands g.M.Core.waits g.M.Core.bases old.core c.prepare.new.self c.prepare.ensures.bases in
    let mid = record old.desk { places = c.reserve.new.self } in
    refused_enters c.in-Err.fault c.fault_of.result (Keeps (stands old.core) (g.R.Recorder.entries old.recorder) (g.R.Recorder.faults old.recorder) old.desk)
    (Keeps (stands c.prepare.new.self) (g.R.Recorder.entries c.note.new.self) (g.R.Recorder.faults c.note.new.self) c.fault_of.new.self) old.desk mid c.fault_of.new.self c.fault_of.ensures
    (entering_refused c.in-Err.fault c.fault_of.result (stands old.core) (stands c.prepare.new.self) (g.R.Recorder.entries old.recorder) (g.R.Recorder.entries c.note.new.self) (g.R.Recorder.faults old.recorder) (g.R.Recorder.faults c.note.new.self) old.desk mid c.fault_of.new.self
    (λ T. still T (c.prepare.ensures.stands T)) (notes_kept (g.R.Recorder.entries old.recorder) (g.R.Recorder.entries c.note.new.self) (note_of (enters c.len-conn.result)) c.in-Err.fault c.in-Err.ensures.entries) c.note.ensures.cause.later (λ is. c.in-Err.ensures.cause.failed (failed_note c.in-Err.fault is))
    refl c.reserve.ensures.items refl refl c.in_default.is c.fault_of.ensures)

pub returns-clause-enters : goal.returns-clause-enters
returns-clause-enters g c =
    let laws = g.met.M.Core g.world.𝓛 g.world.𝓜 g.world.𝓡 ((λ s x. x), (λ x. x), (λ x. x), λ x. x) in
    let stands = StandsIdle g.M.Core.stands g.M.Core.waits g.M.Core.bases in
    let old = c.args.self.now in
    let still = idle_still g.M.Core.stands g.M.Core.waits g.M.Core.bases old.core c.prepare.new.self c.prepare.ensures.bases in
    let now = record old.desk { places = c.push_reserved.new.self } in
    let n = length old.desk.places.items in
    let line = c.new.result in
    let e : c.len-conn.result ≡ n = (let is = c.len-conn.ensures in omega (arith, old.desk.places.ok.0)) in
    let fresh = new_line line c.in_ok-inward.items c.in_ok-pieces.pieces c.new.ensures c.in_ok-inward.ensures.taken c.in_ok-pieces.ensures.put c.in_ok-pieces.ensures.fulls in
    let below : n < 4294967295 = (let is = c.len.ensures in let few = c.if-len-ge-MOST_CONNECTIONS.false in omega (arith, old.desk.places.ok.0)) in
    let seats : Seats line old.desk now = record { server = refl; place = Seated c.in-Ok.line; is_line = ap (λ (l : HubConnection). Some l) c.in-Ok.ensures.ok; places = c.push_reserved.ensures.items ∙ ap (λ (l : List Place). l ++ Seated c.in-Ok.line ∷ []) c.reserve.ensures.items; fall = refl; ending = refl } in (
      c.in_default.is,
      below,
      e,
      (λ T k. entered_keeps (stands old.core) (stands c.enter.new.self) (g.R.Recorder.entries old.recorder) (g.R.Recorder.entries c.note.new.self) (g.R.Recorder.faults old.recorder) (g.R.Recorder.faults c.note.new.self) old.desk now line T below fresh seats
          (subst (λ (m : ℕ). stands c.enter.new.self (entering m ∷ T)) e (idle_next g.M.Core.stands g.M.Core.waits g.M.Core.bases g.M.Core.is_busy g.M.Core.follows laws.history laws.none_waits_next c.prepare.new.self c.enter.new.self c.enter.ensures.bases T (entering c.len-conn.result)
          (λ s. c.in-Ok-enter.ensures.ok T s (k.underway.numbered.new c.len-conn.result (omega arith))) (λ s. tt) (still T (c.prepare.ensures.stands T) k.underway.stood)))
          (subst (λ (m : ℕ). NotesSo (g.R.Recorder.entries old.recorder) (g.R.Recorder.entries c.note.new.self) (note_of (enters m)) (Ok tt)) e c.in-Ok-note.ensures.entries) c.in_default.is k),
      (
        line,
        fresh,
        seats,
        as_given (record { seat = record { conn = c.len-conn.result }; inward = c.in_ok-inward.inward; outward = c.in_ok-pieces.outward }) line c.in_ok-inward.items c.in_ok-pieces.pieces c.new.ensures c.in_ok-inward.ensures.one c.in_ok-pieces.ensures.one c.in_ok-inward.ensures.capacity c.in_ok-pieces.ensures.capacity
            c.in_ok-inward.ensures.put c.in_ok-pieces.ensures.taken,
      ),
    )

pub returns-then-len-ge-MOST_CONNECTIONS-clause-ends : goal.returns-then-len-ge-MOST_CONNECTIONS-clause-ends
returns-then-len-ge-MOST_CONNECTIONS-clause-ends g c = other_ends _ _ _ (stop_ends _ _ _ c.stop.ensures)

pub returns-in-Err-clause-ends : goal.returns-in-Err-clause-ends
returns-in-Err-clause-ends g c =
    let old = c.args.self.now.desk in
    let mid = record old { places = c.reserve.new.self } in
    other_ends (length old.places.items) old c.fault_of.new.self (ends_twice old mid c.fault_of.new.self (ends_same old mid refl c.reserve.ensures.items) (refuse_ends _ _ _ _ c.fault_of.ensures))

pub returns-clause-ends : goal.returns-clause-ends
returns-clause-ends g c =
    let old = c.args.self.now.desk in
    seat_ends c.new.result old (record old { places = c.push_reserved.new.self })
    (record { server = refl; place = Seated c.in-Ok.line; is_line = ap (λ (l : HubConnection). Some l) c.in-Ok.ensures.ok; places = c.push_reserved.ensures.items ∙ ap (λ (l : List Place). l ++ Seated c.in-Ok.line ∷ []) c.reserve.ensures.items; fall = refl; ending = refl })

pub returns-in-Some-clause-ends : goal.returns-in-Some-clause-ends
returns-in-Some-clause-ends g c =
    let old = c.args.self.now.desk in
    other_same (length old.places.items) old old refl refl

pub returns-in_err-inward-clause-ends : goal.returns-in_err-inward-clause-ends
returns-in_err-inward-clause-ends g c =
    let old = c.args.self.now.desk in
    other_same (length old.places.items) old old refl refl

pub returns-in_err-pieces-clause-ends : goal.returns-in_err-pieces-clause-ends
returns-in_err-pieces-clause-ends g c =
    let old = c.args.self.now.desk in
    other_same (length old.places.items) old old refl refl

pub returns-in_default-new-clause-ends : goal.returns-in_default-new-clause-ends
returns-in_default-new-clause-ends g c =
    let old = c.args.self.now.desk in
    other_same (length old.places.items) old old refl refl

pub returns-in_default-reserve-clause-ends : goal.returns-in_default-reserve-clause-ends
returns-in_default-reserve-clause-ends g c =
    let old = c.args.self.now.desk in
    other_same (length old.places.items) old (record old { places = c.reserve.new.self }) refl c.reserve.ensures.items

pub returns-in_err-prepare-clause-ends : goal.returns-in_err-prepare-clause-ends
returns-in_err-prepare-clause-ends g c =
    let old = c.args.self.now.desk in
    other_same (length old.places.items) old (record old { places = c.reserve.new.self }) refl c.reserve.ensures.items

pub returns-then-len-ge-MOST_CONNECTIONS-clause-shown : goal.returns-then-len-ge-MOST_CONNECTIONS-clause-shown
returns-then-len-ge-MOST_CONNECTIONS-clause-shown g c = shown_stop stops.Spent c.args.self.now.desk c.stop.new.self _ _ c.stop.ensures (λ is. absurd (cc))

pub returns-in-Err-clause-shown : goal.returns-in-Err-clause-shown
returns-in-Err-clause-shown g c =
    let old = c.args.self.now in
    shown_refuses c.in-Err.fault c.fault_of.result (record old.desk { places = c.reserve.new.self }) c.fault_of.new.self (g.R.Recorder.faults old.recorder) (g.R.Recorder.faults c.note.new.self) c.fault_of.ensures (λ is. c.in-Err.ensures.cause.failed (failed_note c.in-Err.fault is))

pub returns-in-Some-clause-shown : goal.returns-in-Some-clause-shown
returns-in-Some-clause-shown g c = shown_same _ _ _ _ refl

pub returns-in_err-inward-clause-shown : goal.returns-in_err-inward-clause-shown
returns-in_err-inward-clause-shown g c = shown_same _ _ _ _ refl

pub returns-in_err-pieces-clause-shown : goal.returns-in_err-pieces-clause-shown
returns-in_err-pieces-clause-shown g c = shown_same _ _ _ _ refl

pub returns-in_default-new-clause-shown : goal.returns-in_default-new-clause-shown
returns-in_default-new-clause-shown g c = shown_same _ _ _ _ refl

pub returns-in_default-reserve-clause-shown : goal.returns-in_default-reserve-clause-shown
returns-in_default-reserve-clause-shown g c = shown_same _ _ _ _ refl

pub returns-in_err-prepare-clause-shown : goal.returns-in_err-prepare-clause-shown
returns-in_err-prepare-clause-shown g c = shown_same _ _ _ _ refl

pub returns-clause-shown : goal.returns-clause-shown
returns-clause-shown g c = shown_same _ _ _ _ refl
