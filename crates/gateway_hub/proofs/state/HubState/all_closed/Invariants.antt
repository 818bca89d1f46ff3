-- Whether those from this one on are over tells whether all are.
use Rattle.std.proofs.Common.{◌≡◌, List, drop}
use Rattle.std.specs.List.{list_all}
use Rattle.gateway_claim.specs.Happenings.{HistoryEntry}
use Rattle.gateway_hub.specs.Close.{is_place_over}
use Rattle.gateway_hub.proofs.state.HubState.all_closed.Given as goal

abbrev pub invariant-loop-place : goal.invariant-loop-place
invariant-loop-place g l = (T : List HistoryEntry) → g.M.Core.stands l.self.core T → list_all (is_place_over T) l.self.desk.places.items ≡ list_all (is_place_over T) (drop l.place-index l.place-items)
