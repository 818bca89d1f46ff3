-- How a run ended, by what its hub kept and what its workers met.
use Rattle.std.proofs.Common.{◌≡◌, ◌<◌, ℕ, Bool, true, List, length, Option, Some, Result, Ok, Err, inl, inr, refl, sym, ◌∙◌, ap, subst}
use Rattle.std.specs.Prelude.{OnOk, OnErr}
use Rattle.std.proofs.Math.Logic.{∥∥₁_map, ∥∥₁_elim}
use Rattle.std.proofs.Math.Bridge.{le_prop}
use Rattle.gate_outside.specs.Causes.{Rose}
use Rattle.gate_outside.specs.Contents.{WritesAll}
use Rattle.rtsp_uri.specs.declared.base.Bases.{Bases}
use Rattle.rtsp_uri.specs.Bases.{AreSameAddresses}
use Rattle.gate_transcript.specs.declared.entry.Entry.{Entry as Noted}
use Rattle.serve_world.specs.declared.tally.WorldTally.{WorldTally}
use Rattle.gateway_claim.specs.declared.event.UpCause.{UpCause}
use Rattle.gateway_claim.specs.declared.event.UpCause.TheVariants as causes
use Rattle.gateway_claim.specs.Happenings.{HistoryEntry}
use Rattle.gateway_claim.specs.Cores.{IsCoreHistory}
use Rattle.run_status.specs.declared.status.Status.{Status}
use Rattle.run_status.specs.declared.status.Status.TheVariants.{Done, Usage, SourceFault, SinkFault, BadTranscript, Upstream, ListenFault, RecordFault, CrewRefused, Memory, TooLong, AcceptFault, DialFault, NumbersSpent}
use Rattle.gateway_hub.specs.declared.desk.Desk.{Desk}
use Rattle.gateway_hub.specs.declared.receipts.Receipts.{Receipts}
use Rattle.hub_queues.specs.declared.ending.Ending.{Ending}
use Rattle.hub_queues.specs.declared.ending.Ending.TheVariants as endings
use Rattle.hub_queues.specs.declared.ending.StopWhy.TheVariants as stops
use Rattle.gateway_hub.specs.Close.{TellsOver}
use Rattle.gateway_hub.specs.Keeps.{Keeps, KeepsSome, EndsRightly}
use Rattle.gateway_hub.specs.Receipts.{ClosesWith}
use Rattle.run_report.specs.declared.run_end.RunEnd.{RunEnd}
use Rattle.run_report.specs.Report.{report_text}
use Rattle.run_report.specs.Endings.{GoesWith, unrecorded, unreported, met_by}
use Rattle.gateway_run.specs.WholeRun.{RunSeen, EndsHistory, HasShown, HasLeftNone, NoneIsLeft, LinkShows, RanTo, WroteReport, TakesBack}

-- the history ends as the status says, before what is written last is looked at
ends_so : (status : Status) (told : RunEnd) (faults : ℕ) (desk : Desk) (history : List HistoryEntry) → GoesWith status told → told.ending ≡ desk.ending
    → EndsRightly faults (length desk.places.items) desk.ending history → TellsOver told.over desk.places.items history → EndsHistory status desk history
ends_so Done told faults desk history goes same right over = over.over goes.2
ends_so (Upstream cause) told faults desk history goes same right over =
    subst (λ (e : Option Ending). EndsRightly faults (length desk.places.items) e history) (sym same ∙ goes.0) right
ends_so NumbersSpent told faults desk history goes same right over =
    (subst (λ (e : Option Ending). EndsRightly faults (length desk.places.items) e history) (sym same ∙ goes) right).1 refl
ends_so RecordFault told faults desk history goes same right over = tt
ends_so AcceptFault told faults desk history goes same right over = tt
ends_so CrewRefused told faults desk history goes same right over = tt
ends_so Memory told faults desk history goes same right over = tt
ends_so (Usage place) told faults desk history goes same right over = absurd goes
ends_so SourceFault told faults desk history goes same right over = absurd goes
ends_so SinkFault told faults desk history goes same right over = absurd goes
ends_so (BadTranscript place fault) told faults desk history goes same right over = absurd goes
ends_so TooLong told faults desk history goes same right over = absurd goes
ends_so ListenFault told faults desk history goes same right over = absurd goes
ends_so DialFault told faults desk history goes same right over = absurd goes

-- it ends so too where what is written last fails
ends_unrecorded : (status : Status) (desk : Desk) (history : List HistoryEntry) → EndsHistory status desk history → EndsHistory (unrecorded status) desk history
ends_unrecorded Done desk history ends = tt
ends_unrecorded (Upstream cause) desk history ends = ends
ends_unrecorded NumbersSpent desk history ends = ends
ends_unrecorded RecordFault desk history ends = ends
ends_unrecorded AcceptFault desk history ends = ends
ends_unrecorded CrewRefused desk history ends = ends
ends_unrecorded Memory desk history ends = ends
ends_unrecorded (Usage place) desk history ends = ends
ends_unrecorded SourceFault desk history ends = ends
ends_unrecorded SinkFault desk history ends = ends
ends_unrecorded (BadTranscript place fault) desk history ends = ends
ends_unrecorded TooLong desk history ends = ends
ends_unrecorded ListenFault desk history ends = ends
ends_unrecorded DialFault desk history ends = ends

ends_unreported : (status : Status) (desk : Desk) (history : List HistoryEntry) → EndsHistory status desk history → EndsHistory (unreported status) desk history
ends_unreported Done desk history ends = ends
ends_unreported (Upstream cause) desk history ends = ends
ends_unreported NumbersSpent desk history ends = ends
ends_unreported RecordFault desk history ends = ends
ends_unreported AcceptFault desk history ends = ends
ends_unreported CrewRefused desk history ends = ends
ends_unreported Memory desk history ends = ends
ends_unreported (Usage place) desk history ends = ends
ends_unreported SourceFault desk history ends = ends
ends_unreported SinkFault desk history ends = ends
ends_unreported (BadTranscript place fault) desk history ends = ends
ends_unreported TooLong desk history ends = ends
ends_unreported ListenFault desk history ends = ends
ends_unreported DialFault desk history ends = ends

-- the status after the recording was written to its end, and after the report was written
after_both : {E F : Type 0} (status flushed_status last : Status) (flushed : Result (Unit {0}) E) (written : Result (Unit {0}) F) (desk : Desk) (history : List HistoryEntry)
    → OnOk flushed (flushed_status ≡ status) → OnErr flushed (flushed_status ≡ unrecorded status)
    → OnOk written (last ≡ flushed_status) → OnErr written (last ≡ unreported flushed_status) → EndsHistory status desk history → EndsHistory last desk history
after_both status flushed_status last (Ok u) (Ok v) desk history a b c d ends = subst (λ (s : Status). EndsHistory s desk history) (sym (c ∙ a)) ends
after_both status flushed_status last (Ok u) (Err v) desk history a b c d ends =
    subst (λ (s : Status). EndsHistory s desk history) (sym (d ∙ ap unreported a)) (ends_unreported status desk history ends)
after_both status flushed_status last (Err u) (Ok v) desk history a b c d ends = subst (λ (s : Status). EndsHistory s desk history) (sym (c ∙ b)) (ends_unrecorded status desk history ends)
after_both status flushed_status last (Err u) (Err v) desk history a b c d ends =
    subst (λ (s : Status). EndsHistory s desk history) (sym (d ∙ ap unreported b)) (ends_unreported (unrecorded status) desk history (ends_unrecorded status desk history ends))

-- the report was written, or the sink failed
pub wrote_report : {T E : Type 0} (seen : RunSeen) (text : List ℕ) (written : Result T E) → WritesAll seen.before seen.now text written
    → OnErr written (Rose seen.faults seen.later) → WroteReport seen text
wrote_report seen text (Ok u) wrote rose = inl wrote
wrote_report seen text (Err e) wrote rose = inr (rose, wrote)

-- What the workers met shows in the counts of what comes back: of the door, the two halves of the server's link, and the recorder.
pub record Met (told : RunEnd) (refused : Bool) (df de lf lo le rf : ℕ) : Type 0 where
  pub failed : told.failed ≡ true → 0 < df
  pub ended : told.ended ≡ true → 0 < de
  pub read : told.run.read_failed ≡ true → 0 < lf
  pub write : told.run.write_failed ≡ true → 0 < lo
  pub up_ended : told.run.ended ≡ true → 0 < le
  pub refused_so : told.refused ≡ refused
  pub recorder : told.ending ≡ Some (endings.Stopped stops.Record) → 0 < rf

-- the end of the server's connection shows at its link
link_shows : (cause : UpCause) (told : RunEnd) (refused : Bool) (df de lf lo le rf : ℕ) (before now : WorldTally) → met_by cause told.run ≡ true → Met told refused df de lf lo le rf
    → TakesBack refused df de lf lo le rf before now → LinkShows cause before now
link_shows causes.Ended told refused df de lf lo le rf before now met all back = back.inlet_end (all.up_ended met)
link_shows causes.ReadFault told refused df de lf lo le rf before now met all back = back.inlet (all.read met)
link_shows causes.WriteFault told refused df de lf lo le rf before now met all back = back.outlet (all.write met)
link_shows (causes.Framing fault) told refused df de lf lo le rf before now met all back = tt
link_shows (causes.UnknownReply number) told refused df de lf lo le rf before now met all back = tt
link_shows (causes.BadGrant number) told refused df de lf lo le rf before now met all back = tt
link_shows (causes.SessionTaken number) told refused df de lf lo le rf before now met all back = tt
link_shows causes.CseqSpent told refused df de lf lo le rf before now met all back = tt
link_shows causes.UpFull told refused df de lf lo le rf before now met all back = tt

-- the cause of a status shows, before what is written last is looked at
shows : (status : Status) (told : RunEnd) (refused : Bool) (df de lf lo le rf : ℕ) (seen : RunSeen) → GoesWith status told → Met told refused df de lf lo le rf
    → TakesBack refused df de lf lo le rf seen.opened seen.closed → HasShown status seen
shows Done told refused df de lf lo le rf seen goes all back = back.door_end (all.ended goes.1)
shows (Upstream cause) told refused df de lf lo le rf seen goes all back = link_shows cause told refused df de lf lo le rf seen.opened seen.closed goes.1 all back
shows NumbersSpent told refused df de lf lo le rf seen goes all back = tt
shows RecordFault told refused df de lf lo le rf seen goes all back = inr (back.recorder (all.recorder goes))
shows AcceptFault told refused df de lf lo le rf seen goes all back = back.door (all.failed goes)
shows CrewRefused told refused df de lf lo le rf seen goes all back = back.refusals (sym all.refused_so ∙ goes)
shows Memory told refused df de lf lo le rf seen goes all back = tt
shows (Usage place) told refused df de lf lo le rf seen goes all back = absurd goes
shows SourceFault told refused df de lf lo le rf seen goes all back = absurd goes
shows SinkFault told refused df de lf lo le rf seen goes all back = absurd goes
shows (BadTranscript place fault) told refused df de lf lo le rf seen goes all back = absurd goes
shows TooLong told refused df de lf lo le rf seen goes all back = absurd goes
shows ListenFault told refused df de lf lo le rf seen goes all back = absurd goes
shows DialFault told refused df de lf lo le rf seen goes all back = absurd goes

-- it shows so too where the recording could not be written to its end
shows_unrecorded : (status : Status) (seen : RunSeen) → Rose seen.opened.record_faults seen.closed.record_faults → HasShown status seen → HasShown (unrecorded status) seen
shows_unrecorded Done seen rose shown = inr rose
shows_unrecorded (Upstream cause) seen rose shown = shown
shows_unrecorded NumbersSpent seen rose shown = shown
shows_unrecorded RecordFault seen rose shown = shown
shows_unrecorded AcceptFault seen rose shown = shown
shows_unrecorded CrewRefused seen rose shown = shown
shows_unrecorded Memory seen rose shown = shown
shows_unrecorded (Usage place) seen rose shown = shown
shows_unrecorded SourceFault seen rose shown = shown
shows_unrecorded SinkFault seen rose shown = shown
shows_unrecorded (BadTranscript place fault) seen rose shown = shown
shows_unrecorded TooLong seen rose shown = shown
shows_unrecorded ListenFault seen rose shown = shown
shows_unrecorded DialFault seen rose shown = shown

-- and where the report could not be written
shows_unreported : (status : Status) (seen : RunSeen) → Rose seen.faults seen.later → HasShown status seen → HasShown (unreported status) seen
shows_unreported Done seen rose shown = rose
shows_unreported (Upstream cause) seen rose shown = shown
shows_unreported NumbersSpent seen rose shown = shown
shows_unreported RecordFault seen rose shown = shown
shows_unreported AcceptFault seen rose shown = shown
shows_unreported CrewRefused seen rose shown = shown
shows_unreported Memory seen rose shown = shown
shows_unreported (Usage place) seen rose shown = shown
shows_unreported SourceFault seen rose shown = shown
shows_unreported SinkFault seen rose shown = shown
shows_unreported (BadTranscript place fault) seen rose shown = shown
shows_unreported TooLong seen rose shown = shown
shows_unreported ListenFault seen rose shown = shown
shows_unreported DialFault seen rose shown = shown

shown_flushed : {E : Type 0} (status flushed_status : Status) (flushed : Result (Unit {0}) E) (seen : RunSeen) → OnOk flushed (flushed_status ≡ status)
    → OnErr flushed (flushed_status ≡ unrecorded status) → OnErr flushed (Rose seen.opened.record_faults seen.closed.record_faults) → HasShown status seen → HasShown flushed_status seen
shown_flushed status flushed_status (Ok u) seen ok err rose shown = subst (λ (s : Status). HasShown s seen) (sym ok) shown
shown_flushed status flushed_status (Err u) seen ok err rose shown = subst (λ (s : Status). HasShown s seen) (sym err) (shows_unrecorded status seen rose shown)

shown_reported : {E : Type 0} (status last : Status) (written : Result (Unit {0}) E) (seen : RunSeen) → OnOk written (last ≡ status)
    → OnErr written (last ≡ unreported status) → OnErr written (Rose seen.faults seen.later) → HasShown status seen → HasShown last seen
shown_reported status last (Ok u) seen ok err rose shown = subst (λ (s : Status). HasShown s seen) (sym ok) shown
shown_reported status last (Err u) seen ok err rose shown = subst (λ (s : Status). HasShown s seen) (sym err) (shows_unreported status seen rose shown)

-- The cause of the answer shows.
pub shown_last : {E F : Type 0} (status flushed_status last : Status) (told : RunEnd) (refused : Bool) (df de lf lo le rf : ℕ) (seen : RunSeen)
    (flushed : Result (Unit {0}) E) (written : Result (Unit {0}) F) → GoesWith status told → Met told refused df de lf lo le rf → TakesBack refused df de lf lo le rf seen.opened seen.closed
    → OnOk flushed (flushed_status ≡ status) → OnErr flushed (flushed_status ≡ unrecorded status) → OnErr flushed (Rose seen.opened.record_faults seen.closed.record_faults)
    → OnOk written (last ≡ flushed_status) → OnErr written (last ≡ unreported flushed_status) → OnErr written (Rose seen.faults seen.later) → HasShown last seen
shown_last status flushed_status last told refused df de lf lo le rf seen flushed written goes all back ok err flush_rose done undone rose =
    shown_reported flushed_status last written seen done undone rose
    (shown_flushed status flushed_status flushed seen ok err flush_rose (shows status told refused df de lf lo le rf seen goes all back))

-- where the run ended with the door, no link is left
left_so : (status : Status) (told : RunEnd) (left : Option ℕ) → GoesWith status told → (told.ended ≡ true → NoneIsLeft left) → HasLeftNone status left
left_so Done told left goes none = none goes.1
left_so (Upstream cause) told left goes none = tt
left_so NumbersSpent told left goes none = tt
left_so RecordFault told left goes none = tt
left_so AcceptFault told left goes none = tt
left_so CrewRefused told left goes none = tt
left_so Memory told left goes none = tt
left_so (Usage place) told left goes none = tt
left_so SourceFault told left goes none = tt
left_so SinkFault told left goes none = absurd goes
left_so (BadTranscript place fault) told left goes none = tt
left_so TooLong told left goes none = tt
left_so ListenFault told left goes none = tt
left_so DialFault told left goes none = tt

left_unrecorded : (status : Status) (left : Option ℕ) → HasLeftNone status left → HasLeftNone (unrecorded status) left
left_unrecorded Done left none = tt
left_unrecorded (Upstream cause) left none = tt
left_unrecorded NumbersSpent left none = tt
left_unrecorded RecordFault left none = tt
left_unrecorded AcceptFault left none = tt
left_unrecorded CrewRefused left none = tt
left_unrecorded Memory left none = tt
left_unrecorded (Usage place) left none = tt
left_unrecorded SourceFault left none = tt
left_unrecorded SinkFault left none = none
left_unrecorded (BadTranscript place fault) left none = tt
left_unrecorded TooLong left none = tt
left_unrecorded ListenFault left none = tt
left_unrecorded DialFault left none = tt

left_unreported : (status : Status) (left : Option ℕ) → HasLeftNone status left → HasLeftNone (unreported status) left
left_unreported Done left none = none
left_unreported (Upstream cause) left none = tt
left_unreported NumbersSpent left none = tt
left_unreported RecordFault left none = tt
left_unreported AcceptFault left none = tt
left_unreported CrewRefused left none = tt
left_unreported Memory left none = tt
left_unreported (Usage place) left none = tt
left_unreported SourceFault left none = tt
left_unreported SinkFault left none = none
left_unreported (BadTranscript place fault) left none = tt
left_unreported TooLong left none = tt
left_unreported ListenFault left none = tt
left_unreported DialFault left none = tt

left_flushed : {E : Type 0} (status flushed_status : Status) (flushed : Result (Unit {0}) E) (left : Option ℕ) → OnOk flushed (flushed_status ≡ status)
    → OnErr flushed (flushed_status ≡ unrecorded status) → HasLeftNone status left → HasLeftNone flushed_status left
left_flushed status flushed_status (Ok u) left ok err none = subst (λ (s : Status). HasLeftNone s left) (sym ok) none
left_flushed status flushed_status (Err u) left ok err none = subst (λ (s : Status). HasLeftNone s left) (sym err) (left_unrecorded status left none)

left_reported : {E : Type 0} (status last : Status) (written : Result (Unit {0}) E) (left : Option ℕ) → OnOk written (last ≡ status)
    → OnErr written (last ≡ unreported status) → HasLeftNone status left → HasLeftNone last left
left_reported status last (Ok u) left ok err none = subst (λ (s : Status). HasLeftNone s left) (sym ok) none
left_reported status last (Err u) left ok err none = subst (λ (s : Status). HasLeftNone s left) (sym err) (left_unreported status left none)

-- The answer tells no end of the door where a link is left.
pub left_last : {E F : Type 0} (status flushed_status last : Status) (told : RunEnd) (flushed : Result (Unit {0}) E) (written : Result (Unit {0}) F) (left : Option ℕ)
    → GoesWith status told → (told.ended ≡ true → NoneIsLeft left) → OnOk flushed (flushed_status ≡ status) → OnErr flushed (flushed_status ≡ unrecorded status)
    → OnOk written (last ≡ flushed_status) → OnErr written (last ≡ unreported flushed_status) → HasLeftNone last left
left_last status flushed_status last told flushed written left goes none ok err done undone =
    left_reported flushed_status last written left done undone
    (left_flushed status flushed_status flushed left ok err (left_so status told left goes none))

-- A recorder that stopped the hub has failed.
pub recorder_failed : (stands : List HistoryEntry → Type 0) (noted : Option (List Noted)) (faults : ℕ) (desk : Desk) → ∥ KeepsSome stands noted faults desk ∥₁
    → desk.ending ≡ Some (endings.Stopped stops.Record) → 0 < faults
recorder_failed stands noted faults desk keeps ending =
    ∥∥₁_elim keeps le_prop (λ (k : KeepsSome stands noted faults desk).
    (subst (λ (e : Option Ending). EndsRightly faults (length desk.places.items) e k.history) ending k.keeps.cause).0 refl)

-- The history of the run, its receipts and its report.
pub ran_to : {E F : Type 0} (follows : Bases → List HistoryEntry → HistoryEntry → Type 0) (kept_bases bases : Bases) (stands : List HistoryEntry → Type 0) (noted : Option (List Noted)) (faults : ℕ)
    (desk : Desk) (receipts : Receipts) (told : RunEnd) (status flushed_status last : Status) (flushed : Result (Unit {0}) E) (written : Result (Unit {0}) F) (seen : RunSeen)
    → ∥ KeepsSome stands noted faults desk ∥₁ → ((T : List HistoryEntry) → stands T → IsCoreHistory follows kept_bases T) → AreSameAddresses kept_bases bases
    → ((T : List HistoryEntry) → Keeps stands noted faults desk T → ClosesWith seen.recorded desk receipts T)
    → ((T : List HistoryEntry) → Keeps stands noted faults desk T → TellsOver told.over desk.places.items T)
    → told.ending ≡ desk.ending → GoesWith status told
    → OnOk flushed (flushed_status ≡ status) → OnErr flushed (flushed_status ≡ unrecorded status) → OnOk written (last ≡ flushed_status) → OnErr written (last ≡ unreported flushed_status)
    → WroteReport seen (report_text receipts) → ∥ RanTo follows bases last seen ∥₁
ran_to follows kept_bases bases stands noted faults desk receipts told status flushed_status last flushed written seen keeps law same closes over ending goes ok err done undone wrote =
    ∥∥₁_map keeps (λ k. record {
      between = kept_bases;
      addresses = same;
      history = k.history;
      is_history = law k.history k.keeps.underway.stood;
      desk = desk;
      receipts = receipts;
      closes = closes k.history k.keeps;
      ends =
          after_both status flushed_status last flushed written desk k.history ok err done undone
          (ends_so status told faults desk k.history goes ending k.keeps.cause (over k.history k.keeps));
      wrote = wrote;
    })
