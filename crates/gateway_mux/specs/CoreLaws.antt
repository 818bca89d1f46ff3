-- The laws of a core, of the multiplexer.
use Rattle.std.specs.Prelude.{◌≡◌, List, [], ◌∷◌}
use Rattle.rtsp_uri.specs.declared.base.Bases.{Bases}
use Rattle.gateway_claim.specs.Happenings.{HistoryEntry}
use Rattle.gateway_claim.specs.Cores.{NoneWaits, IsTimely, IsOrderly}
use Rattle.gateway_claim.specs.Follows.{Follows, IsHistory}
use Rattle.gateway_claim.specs.Tells.{is_busy, requests_waiting}
use Rattle.gateway_claim.proofs.NextLemmas.{one_next}
use Rattle.gateway_claim.proofs.OrderLemmas.{follows_orderly}
use Rattle.gateway_claim.proofs.WaitLemmas.{none_waiting, none_waiting_next}
use Rattle.gateway_mux.specs.declared.mux.Mux.{Mux}
use Rattle.gateway_mux.specs.Stands.{Stands, bases_of}

-- what it stands for is a history of it
pub stands_for_history : (mux : Mux) (T : List HistoryEntry) → Stands mux T → IsHistory (bases_of mux) T
stands_for_history mux T stands = stands.is_history

-- at most one entry with a given happening follows
pub one_follows : (bases : Bases) (T : List HistoryEntry) (one other : HistoryEntry) → Follows bases T one → Follows bases T other → one.happening ≡ other.happening → one ≡ other
one_follows bases T one other = one_next bases T one other

-- and it hands out and closes what an entry may
pub follows_in_order : (bases : Bases) (T : List HistoryEntry) (entry : HistoryEntry) → IsHistory bases T → Follows bases T entry → IsOrderly T entry
follows_in_order bases T entry = follows_orderly bases T entry

-- no request waits before anything happened, nor after an event but an item of a busy client, where none waited before
pub waits_for_nothing : (bases : Bases) → NoneWaits (requests_waiting bases) []
waits_for_nothing bases = none_waiting bases

-- an event that is timely leaves no request waiting
pub treats_at_once : (bases : Bases) (T : List HistoryEntry) (entry : HistoryEntry) → IsHistory bases T → Follows bases T entry → IsTimely (is_busy bases) T entry.happening → NoneWaits (requests_waiting bases) T → NoneWaits (requests_waiting bases) (entry ∷ T)
treats_at_once bases T entry history follows = none_waiting_next bases T entry
