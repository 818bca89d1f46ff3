-- What a request that goes up is, and what is kept of it.
use Rattle.std.proofs.Common.{◌≡◌, ℕ, Bool, false, List, [], ◌∷◌, Option, Some, None, Result, arith}
use Rattle.std.specs.Prelude.{is_none}
use Rattle.rtsp_head.specs.Items.{Shape}
use Rattle.rtsp_small.specs.declared.method.Method.TheVariants.{Setup}
use Rattle.rtsp_small.specs.Methods.{method_name}
use Rattle.rtsp_transport.specs.declared.channels.Pair.{Pair}
use Rattle.rtsp_uri.specs.declared.base.Bases.{Bases}
use Rattle.head_two.specs.declared.request.Request2.{Request2}
use Rattle.session_one.specs.declared.parts.Asked.{Asked}
use Rattle.translate_up.specs.Fields.{is_setup}
use Rattle.translate_up.specs.Upward.{method_up}
use Rattle.head_one.specs.declared.request.Request1.{Request1}
use Rattle.head_one.specs.declared.refusal.Refusal.{Refusal}
use Rattle.head_one.specs.Requests.{request_of_item}
use Rattle.translate_up.specs.Views.{Given, Judged}
use Rattle.translate_up.specs.Decisions.{judged_read, judged_of}
use Rattle.translate_up.specs.declared.decision.Decision.{Decision}
use Rattle.translate_up.proofs.DecisionLemmas.{SpeaksAs, decide_speaks}
use Rattle.client_slot.specs.Client.{Client}
use Rattle.client_machine.specs.OpenRequests.{Asks}
use Rattle.client_machine.specs.Treatment.{given, decision_on, Going, Treated, treated_first, treated}
use Rattle.client_machine.specs.Step.{goes_with, NextPart, going_on}
use Rattle.client_machine.proofs.WayLemmas.{going_as}
use Rattle.client_machine.proofs.PlaceLemmas.{plays_idle}
use Rattle.client_machine.proofs.TreatLemmas.{decision_as}

-- A request that waited goes up as it was decided.
abbrev IsGoingBy : Bool → Request2 → Asked → Option Pair → Type 0
IsGoingBy full request asked None = (request.method ≡ method_name (method_up asked.method)) × (is_setup asked.method ≡ false)
IsGoingBy full request asked (Some channels) = (request.method ≡ method_name Setup) × (asked.method ≡ Setup) × (full ≡ false)

abbrev IsGoingAs : Bool → Option Going → Type 0
IsGoingAs full None = Unit {0}
IsGoingAs full (Some one) = IsGoingBy full one.request one.asked one.channels

pub decision_speaks : (given : Given) (shape : Shape) → SpeaksAs (judged_of given shape) (decision_on given shape)
decision_speaks given shape = decision_as (SpeaksAs (judged_of given shape)) given shape (decide_speaks given shape) tt

judged_full : (given : Given) (read : Result Request1 Refusal) → (judged_read given read).full ≡ given.full
judged_full given read = grind arith

asked_first : (decision : Decision) (judged : Judged) (given : Given) (more : List Shape) (again : Given → Treated) → SpeaksAs judged decision → judged.full ≡ given.full
    → ((one : Given) → IsGoingAs one.full (again one).going) → IsGoingAs given.full (treated_first decision given more again).going
asked_first decision judged given more again speaks full later = grind arith

treated_as : (shapes : List Shape) (given : Given) → IsGoingAs given.full (treated shapes given).going
treated_as [] given = tt
treated_as (shape ∷ more) given = asked_first (decision_on given shape) (judged_of given shape) given more (treated more) (decision_speaks given shape) (judged_full given (request_of_item shape)) (treated_as more)

with_asks : (all : Treated) (pair : Option ℕ) (client : Client) → IsGoingAs (is_none pair) all.going → client.pending ≡ None → Asks pair client.pending (goes_with all pair client)
with_asks all pair client speaks idle = grind (arith, plays_idle)

pub going_asks : (bases : Bases) (pair : Option ℕ) (next : NextPart) (client : Client) → Asks pair client.pending (going_on bases pair next client)
going_asks bases pair next client = grind (arith, going_as, with_asks, treated_as)
