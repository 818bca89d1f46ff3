-- The port for a client is looked at.
use Rattle.std.proofs.Common.{◌≡◌, ℕ, false, List, Option, None, sym, ap, subst}
use Rattle.gate_transcript.specs.declared.entry.Entry.{Entry as Noted}
use Rattle.gateway_claim.specs.Happenings.{HistoryEntry}
use Rattle.hub_queues.specs.declared.line.HubConnection.{HubConnection}
use Rattle.hub_queues.specs.declared.server.Server.{Server}
use Rattle.gateway_hub.specs.declared.desk.Desk.{Desk}
use Rattle.gateway_hub.specs.Keeps.{TookServerItems, Keeps}
use Rattle.hub_queues.specs.Room.{IsLookedAt}
use Rattle.gateway_hub.specs.Rooms.{LooksAt}
use Rattle.gateway_hub.proofs.LineLemmas.{part_kept}
use Rattle.gateway_hub.proofs.StepLemmas.{incoming, took_same}
use Rattle.gateway_hub.proofs.InwardLemmas.{put_and_fulls, OnlyInward, underway_inward, settled_inward, cause_inward}

same_incoming : (was now : HubConnection) → IsLookedAt was now → incoming now ≡ incoming was
same_incoming was now looked = cc (looked.inward, looked.first)

same_put : (was now : HubConnection) → IsLookedAt was now → put_and_fulls now ≡ put_and_fulls was
same_put was now looked = cc (looked.outward.put, looked.outward.fulls)

looked_inward : (conn : ℕ) (before now : Desk) → LooksAt conn before now → OnlyInward before now
looked_inward conn before now looks = record {
  arrived = part_kept (λ (l : HubConnection). l.arrived) conn IsLookedAt before.places.items now.places.items (λ w n l. l.arrived) looks.lines;
  close = part_kept (λ (l : HubConnection). l.close) conn IsLookedAt before.places.items now.places.items (λ w n l. l.close) looks.lines;
  outward = part_kept put_and_fulls conn IsLookedAt before.places.items now.places.items same_put looks.lines;
  receipts = looks.lines.receipts;
  size = looks.lines.size;
  server = ap (λ (s : Server). s.outward) looks.server;
  fall = looks.fall;
  ending = looks.ending;
}

-- What was kept is kept.
pub looked_keeps : (conn : ℕ) (stands : List HistoryEntry → Type 0) (told : Option (List Noted)) (faults : ℕ) (before now : Desk) → LooksAt conn before now → (T : List HistoryEntry) → Keeps stands told faults before T → Keeps stands told faults now T
looked_keeps conn stands told faults before now looks T k =
    let only = looked_inward conn before now looks in
    record {
      underway = underway_inward stands told before now T T T only (took_same before.places.items now.places.items T (part_kept incoming conn IsLookedAt before.places.items now.places.items same_incoming looks.lines) k.underway.took)
          (subst (λ (s : Server). TookServerItems s T) (sym looks.server) k.underway.took_up) k.underway;
      settled = settled_inward before now None false T only k.settled;
      cause = cause_inward faults before now T only k.cause;
      owed = λ c is. absurd (cc);
      owed_up = λ is. absurd (cc);
    }
