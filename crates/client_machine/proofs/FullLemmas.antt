-- Whether a pair of channels is free matters to a SETUP that waits, and to nothing else.
use Rattle.std.proofs.Common.{◌≡◌, ◌∙◌, ℕ, Bool, true, false, cond, ◌||◌, List, [], ◌∷◌, Option, Some, None, refl, ap, arith}
use Rattle.rtsp_head.specs.Items.{Shape}
use Rattle.rtsp_uri.specs.declared.base.Bases.{Bases}
use Rattle.translate_up.specs.Setups.{is_setup_item}
use Rattle.translate_up.specs.Views.{Given}
use Rattle.translate_up.specs.declared.decision.Decision.{Decision}
use Rattle.translate_up.specs.declared.decision.Decision.TheVariants.{Answer}
use Rattle.translate_up.proofs.DecisionLemmas.{IsPlain, decide_plain, decide_marked}
use Rattle.client_slot.specs.Client.{Client}
use Rattle.client_machine.specs.OpenRequests.{has_setup}
use Rattle.client_machine.specs.Events.{PrivateEvent}
use Rattle.client_machine.specs.Treatment.{given, fits_memory, decision_on, Going, Treated, treated_first, treated}
use Rattle.client_machine.specs.Step as going
use Rattle.client_machine.specs.Step.{hear, step}
use Rattle.client_machine.proofs.TreatLemmas.{decision_as}

pub either_false : (a b : Bool) → (a || b) ≡ false → (a ≡ false) × (b ≡ false)
either_false a b e = grind arith

-- the same requests become the same
abbrev marked : Bool → Given → Given
marked full given = record given { full = full }

decision_marked : (full : Bool) (given : Given) (shape : Shape) → is_setup_item shape ≡ false → decision_on (marked full given) shape ≡ decision_on given shape
decision_marked full given shape other = ap (λ (decision : Decision). cond (fits_memory shape) decision (Answer [])) (decide_marked full given shape other)

first_marked : (full : Bool) (decision : Decision) (given : Given) (more : List Shape) (again : Given → Treated) → ((one : Given) → again (marked full one) ≡ again one)
    → treated_first decision (marked full given) more again ≡ treated_first decision given more again
first_marked full decision given more again same = grind arith

pub treated_marked : (full : Bool) (shapes : List Shape) (given : Given) → has_setup shapes ≡ false → treated shapes (record given { full = full }) ≡ treated shapes given
treated_marked full [] given none = refl
treated_marked full (shape ∷ more) given none =
    let parts = either_false (is_setup_item shape) (has_setup more) none in
    ap (λ (decision : Decision). treated_first decision (marked full given) more (treated more)) (decision_marked full given shape parts.0)
    ∙ first_marked full (decision_on given shape) given more (treated more) (λ one. treated_marked full more one parts.1)

-- none of them goes up as a SETUP
abbrev IsPlainGoing : Option Going → Type 0
IsPlainGoing None = Unit {0}
IsPlainGoing (Some one) = one.channels ≡ None

first_plain : (decision : Decision) (given : Given) (more : List Shape) (again : Given → Treated) → IsPlain decision → ((one : Given) → IsPlainGoing (again one).going)
    → IsPlainGoing (treated_first decision given more again).going
first_plain decision given more again h4 later = grind arith

treated_plain : (shapes : List Shape) (given : Given) → has_setup shapes ≡ false → IsPlainGoing (treated shapes given).going
treated_plain [] given none = tt
treated_plain (shape ∷ more) given none =
    let parts = either_false (is_setup_item shape) (has_setup more) none in
    first_plain (decision_on given shape) given more (treated more) (decision_as IsPlain given shape (decide_plain given shape parts.0) tt) (λ one. treated_plain more one parts.1)

goes_plain : (one : Option Going) (p : ℕ) (text : List ℕ) (client : Client) → IsPlainGoing one → going.goes_at one None text client ≡ going.goes_at one (Some p) text client
goes_plain one p text client h4 = grind arith

pub treat_unmarked : (bases : Bases) (p : ℕ) (client : Client) → has_setup client.waiting ≡ false → going.treat bases None client ≡ going.treat bases (Some p) client
treat_unmarked bases p client none =
    ap (λ (all : Treated). going.goes_with all None client) (treated_marked true client.waiting (given bases false client) none)
    ∙ goes_plain (treated client.waiting (given bases false client)).going p (treated client.waiting (given bases false client)).hand
    (going.after_plays (treated client.waiting (given bases false client)).plays (record client { waiting = (treated client.waiting (given bases false client)).left }))
    (treated_plain client.waiting (given bases false client) none)

pub step_unmarked : (bases : Bases) (number p : ℕ) (client : Client) (event : PrivateEvent) → has_setup (hear bases number client event).effect.client.waiting ≡ false
    → step bases number None client event ≡ step bases number (Some p) client event
step_unmarked bases number p client event none = grind (arith, treat_unmarked)
