-- What is said of a whole run over real links (this project's own).
use Rattle.std.specs.Prelude.{◌≡◌, ℕ, ◌<◌, ◌≤◌, ◌⊎◌, Bool, true, false, List, length, Option, Some, None}
use Rattle.gate_outside.specs.Causes.{Rose, counted_on}
use Rattle.gate_outside.specs.Contents.{Grows, GrowsByFront}
use Rattle.rtsp_uri.specs.declared.base.Bases.{Bases}
use Rattle.rtsp_uri.specs.Bases.{AreSameAddresses}
use Rattle.gate_transcript.specs.declared.entry.Entry.{Entry as Noted}
use Rattle.serve_world.specs.declared.tally.WorldTally.{WorldTally}
use Rattle.serve_world.specs.Tallies.{after_refusal}
use Rattle.gateway_claim.specs.declared.event.UpCause.{UpCause}
use Rattle.gateway_claim.specs.declared.event.UpCause.TheVariants as causes
use Rattle.gateway_claim.specs.Happenings.{HistoryEntry, fault_in}
use Rattle.gateway_claim.specs.Cores.{IsCoreHistory}
use Rattle.run_status.specs.declared.status.Status.{Status}
use Rattle.run_status.specs.declared.status.Status.TheVariants.{Done, SinkFault, Upstream, ListenFault, RecordFault, CrewRefused, Memory, AcceptFault, DialFault, NumbersSpent}
use Rattle.gateway_hub.specs.declared.desk.Desk.{Desk}
use Rattle.hub_queues.specs.declared.limits.TheConstants.{MOST_CONNECTIONS}
use Rattle.gateway_hub.specs.declared.receipts.Receipts.{Receipts}
use Rattle.gateway_hub.specs.Close.{AreOver}
use Rattle.gateway_hub.specs.Receipts.{ClosesWith}
use Rattle.run_report.specs.Report.{report_text}

-- What shows of a run from outside: what was recorded, the links that are left at the door, the world's counts and the
-- sink's text and faults, before it and after it.
pub record RunSeen : Type 0 where
  pub recorded : Option (List Noted)
  pub left : Option ℕ
  pub opened : WorldTally
  pub closed : WorldTally
  pub before : Option (List ℕ)
  pub now : Option (List ℕ)
  pub faults : ℕ
  pub later : ℕ

-- What the end of the server's connection shows at its link.
abbrev pub LinkShows : UpCause → WorldTally → WorldTally → Type 0
LinkShows causes.Ended before now = Rose before.link_ends now.link_ends
LinkShows causes.ReadFault before now = Rose before.link_faults now.link_faults
LinkShows causes.WriteFault before now = Rose before.link_faults now.link_faults
LinkShows other before now = Unit {0}

-- The count that tells of the answer's cause rose.
abbrev pub HasShown : Status → RunSeen → Type 0
HasShown Done seen = Rose seen.opened.door_ends seen.closed.door_ends
HasShown SinkFault seen = Rose seen.faults seen.later
HasShown (Upstream cause) seen = LinkShows cause seen.opened seen.closed
HasShown ListenFault seen = Rose seen.opened.listens_failed seen.closed.listens_failed
HasShown DialFault seen = Rose seen.opened.dials_failed seen.closed.dials_failed
HasShown RecordFault seen =
    Rose seen.opened.records_failed seen.closed.records_failed ⊎ Rose seen.opened.record_faults seen.closed.record_faults
HasShown CrewRefused seen = Rose seen.opened.crew_refusals seen.closed.crew_refusals
HasShown AcceptFault seen = Rose seen.opened.door_faults seen.closed.door_faults
HasShown NumbersSpent seen = Unit {0}
HasShown Memory seen = Unit {0}
HasShown other seen = ⊥

-- no link is left at the door, where that is told
abbrev pub NoneIsLeft : Option ℕ → Type 0
NoneIsLeft None = Unit {0}
NoneIsLeft (Some count) = count ≡ 0

-- Where the run ended with the door, no link is left there.
abbrev pub HasLeftNone : Status → Option ℕ → Type 0
HasLeftNone Done left = NoneIsLeft left
HasLeftNone SinkFault left = NoneIsLeft left
HasLeftNone other left = Unit {0}

-- The history ends as the answer says: with the cause of the server's end, with as many connections as can enter, or with
-- all connections over.
abbrev pub EndsHistory : Status → Desk → List HistoryEntry → Type 0
EndsHistory (Upstream cause) desk history = fault_in history ≡ Some cause
EndsHistory NumbersSpent desk history = MOST_CONNECTIONS ≤ length desk.places.items
EndsHistory Done desk history = AreOver desk.places.items history
EndsHistory SinkFault desk history = AreOver desk.places.items history
EndsHistory other desk history = Unit {0}

-- The text was written, or the sink failed and a front of it was.
abbrev pub WroteReport : RunSeen → List ℕ → Type 0
WroteReport seen text = Grows seen.before seen.now text ⊎ (Rose seen.faults seen.later × GrowsByFront seen.before seen.now text)

-- There is a history of the core between these addresses, which is that of the recorder's entries where these are told. It
-- ends as the answer says, and the report has a line for each connection that entered in it, which tells what is so.
pub record RanTo (follows : Bases → List HistoryEntry → HistoryEntry → Type 0) (bases : Bases) (status : Status) (seen : RunSeen) : Type 0 where
  pub between : Bases
  pub addresses : AreSameAddresses between bases
  pub history : List HistoryEntry
  pub is_history : IsCoreHistory follows between history
  pub desk : Desk
  pub receipts : Receipts
  pub closes : ClosesWith seen.recorded desk receipts history
  pub ends : EndsHistory status desk history
  pub wrote : WroteReport seen (report_text receipts)

-- What was opened, and what could not be, is as it was.
pub record OpensNothing (before now : WorldTally) : Type 0 where
  pub listens : now.listens ≡ before.listens
  pub listens_failed : now.listens_failed ≡ before.listens_failed
  pub dials : now.dials ≡ before.dials
  pub dials_failed : now.dials_failed ≡ before.dials_failed
  pub records : now.records ≡ before.records
  pub records_failed : now.records_failed ≡ before.records_failed

-- a thread was refused, or none was
abbrev pub counted_refusal : Bool → WorldTally → WorldTally
counted_refusal true tally = after_refusal tally
counted_refusal false tally = tally

-- The world took back what it had opened, and each fault and end of it shows in its counts.
pub record TakesBack (refused : Bool) (door_faults door_ends in_faults out_faults in_ends record_faults : ℕ) (before now : WorldTally) : Type 0 where
  pub opens : OpensNothing before now
  pub refusals : refused ≡ true → Rose before.crew_refusals now.crew_refusals
  pub door : 0 < door_faults → Rose before.door_faults now.door_faults
  pub door_end : 0 < door_ends → Rose before.door_ends now.door_ends
  pub inlet : 0 < in_faults → Rose before.link_faults now.link_faults
  pub outlet : 0 < out_faults → Rose before.link_faults now.link_faults
  pub inlet_end : 0 < in_ends → Rose before.link_ends now.link_ends
  pub recorder : 0 < record_faults → Rose before.record_faults now.record_faults

-- a count rose once, or not at all
abbrev pub AtMostOnce : ℕ → ℕ → Type 0
AtMostOnce before now = (now ≡ before) ⊎ (now ≡ counted_on before)

-- The door, the server's link and the recorder were opened once at most.
pub record OpensOnce (before now : WorldTally) : Type 0 where
  pub listens : AtMostOnce before.listens now.listens
  pub dials : AtMostOnce before.dials now.dials
  pub records : AtMostOnce before.records now.records

-- Each of them was opened.
pub record OpensEach (before now : WorldTally) : Type 0 where
  pub listens : now.listens ≡ counted_on before.listens
  pub dials : now.dials ≡ counted_on before.dials
  pub records : now.records ≡ counted_on before.records

-- What could not be opened, which shows in its count.
abbrev pub FailsToOpen : Status → RunSeen → Type 0
FailsToOpen status seen =
    ((status ≡ ListenFault) × Rose seen.opened.listens_failed seen.closed.listens_failed)
    ⊎ (((status ≡ RecordFault) × Rose seen.opened.records_failed seen.closed.records_failed)
    ⊎ ((status ≡ DialFault) × Rose seen.opened.dials_failed seen.closed.dials_failed))

-- Memory was wanting before the workers ran, and nothing was written; or they ran.
abbrev pub SaysRan : (Bases → List HistoryEntry → HistoryEntry → Type 0) → Bases → Status → RunSeen → Type 0
SaysRan follows bases status seen = ((status ≡ Memory) × (seen.now ≡ seen.before)) ⊎ ∥ RanTo follows bases status seen ∥₁

-- What the answer of a run says: something could not be opened, and nothing was written; or each was opened once, and then
-- the workers ran or memory was wanting.
abbrev pub ServeSays : (Bases → List HistoryEntry → HistoryEntry → Type 0) → Bases → Status → RunSeen → Type 0
ServeSays follows bases status seen =
    (FailsToOpen status seen × (seen.now ≡ seen.before))
    ⊎ (OpensEach seen.opened seen.closed × SaysRan follows bases status seen)

-- A run over what was opened: what it says, whose cause shows; nothing more was opened, and no link is left where the run
-- ended with the door.
pub record RanSo (follows : Bases → List HistoryEntry → HistoryEntry → Type 0) (bases : Bases) (status : Status) (seen : RunSeen) : Type 0 where
  pub says : SaysRan follows bases status seen
  pub shown : HasShown status seen
  pub opens : OpensNothing seen.opened seen.closed
  pub none_left : HasLeftNone status seen.left

-- A whole run: what it says, whose cause shows; nothing was opened twice, and no link is left where the run ended with the
-- door.
pub record ServedSo (follows : Bases → List HistoryEntry → HistoryEntry → Type 0) (bases : Bases) (status : Status) (seen : RunSeen) : Type 0 where
  pub says : ServeSays follows bases status seen
  pub shown : HasShown status seen
  pub once : OpensOnce seen.opened seen.closed
  pub none_left : HasLeftNone status seen.left
