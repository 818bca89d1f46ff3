-- What is said of a whole run, by what is said of it over what was opened.
use Rattle.std.proofs.Common.{◌≡◌, true, List, inl, inr, subst}
use Rattle.std.proofs.Math.Logic.{∥∥₁_map}
use Rattle.rtsp_uri.specs.declared.base.Bases.{Bases}
use Rattle.serve_world.specs.declared.tally.WorldTally.{WorldTally}
use Rattle.serve_world.specs.Tallies.{after_listen, after_dial, after_record}
use Rattle.gateway_claim.specs.declared.event.UpCause.{UpCause}
use Rattle.gateway_claim.specs.declared.event.UpCause.TheVariants as causes
use Rattle.gateway_claim.specs.Happenings.{HistoryEntry}
use Rattle.run_status.specs.declared.status.Status.{Status}
use Rattle.run_status.specs.declared.status.Status.TheVariants.{Upstream}
use Rattle.gateway_run.specs.WholeRun.{RunSeen, LinkShows, HasShown, RanTo, SaysRan, RanSo, ServedSo}

-- the counts once the door, the recorder and the server's link were opened
abbrev all_opened : WorldTally → WorldTally
all_opened tally = after_dial true (after_record true (after_listen true tally))

-- what the workers did says nothing of the counts before
ran_from : (follows : Bases → List HistoryEntry → HistoryEntry → Type 0) (bases : Bases) (status : Status) (seen : RunSeen) (ready : WorldTally)
    → RanTo follows bases status (record seen { opened = ready }) → RanTo follows bases status seen
ran_from follows bases status seen ready ran = record {
  between = ran.between;
  addresses = ran.addresses;
  history = ran.history;
  is_history = ran.is_history;
  desk = ran.desk;
  receipts = ran.receipts;
  closes = ran.closes;
  ends = ran.ends;
  wrote = ran.wrote;
}

says_from : (follows : Bases → List HistoryEntry → HistoryEntry → Type 0) (bases : Bases) (status : Status) (seen : RunSeen) (ready : WorldTally)
    → SaysRan follows bases status (record seen { opened = ready }) → SaysRan follows bases status seen
says_from follows bases status seen ready (inl wanting) = inl wanting
says_from follows bases status seen ready (inr ran) = inr (∥∥₁_map ran (ran_from follows bases status seen ready))

-- to open adds to no count that shows why the server's connection ended
link_from : (cause : UpCause) (before now : WorldTally) → LinkShows cause (all_opened before) now → LinkShows cause before now
link_from causes.Ended before now shown = shown
link_from other before now shown = shown

-- nor to one that shows another cause
shown_from : (status : Status) (seen : RunSeen) → HasShown status (record seen { opened = all_opened seen.opened }) → HasShown status seen
shown_from (Upstream cause) seen shown = link_from cause seen.opened seen.closed shown
shown_from other seen shown = shown

-- A run over what was opened is a whole run where each was opened once before.
pub served_so : (follows : Bases → List HistoryEntry → HistoryEntry → Type 0) (bases : Bases) (status : Status) (seen : RunSeen) (ready : WorldTally)
    → ready ≡ after_dial true (after_record true (after_listen true seen.opened)) → RanSo follows bases status (record seen { opened = ready })
    → ServedSo follows bases status seen
served_so follows bases status seen ready opened ran =
    let whole : RanSo follows bases status (record seen { opened = all_opened seen.opened }) =
    subst (λ (tally : WorldTally). RanSo follows bases status (record seen { opened = tally })) opened ran in
    record {
      says = inr (record { listens = whole.opens.listens; dials = whole.opens.dials; records = whole.opens.records }, says_from follows bases status seen (all_opened seen.opened) whole.says);
      shown = shown_from status seen whole.shown;
      once = record { listens = inr whole.opens.listens; dials = inr whole.opens.dials; records = inr whole.opens.records };
      none_left = whole.none_left;
    }
