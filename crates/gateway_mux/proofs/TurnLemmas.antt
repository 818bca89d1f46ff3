-- What a turn changes, by what it was planned on.
use Rattle.std.proofs.Common.{◌≡◌, ℕ, suc, zero, ◌+◌, Bool, cond, Option, Some, List, refl, sym, ◌∙◌, ap, subst}
use Rattle.channel_map.specs.declared.map.TheConstants.{PAIRS}
use Rattle.channel_map.specs.declared.map.Held.{Held}
use Rattle.channel_map.specs.Pairs.{is_free, first_free, lowest_free}
use Rattle.client_slot.specs.Client.{Client}
use Rattle.gateway_mux.specs.declared.settlement.Settlement.{Settlement}
use Rattle.gateway_mux.specs.Settlements.{held_settled, torn_of}
use Rattle.gateway_mux.specs.Upstream.{reserved_by}
use Rattle.gateway_mux.specs.Turn.{free_once}

first_free_same : (more at : ℕ) (f g : ℕ → Bool) → ((p : ℕ) → f p ≡ g p) → first_free more at f ≡ first_free more at g
first_free_same zero at f g same = refl
first_free_same (suc more) at f g same = ap (λ t. cond t (Some at) (first_free more (at + 1) f)) (same at) ∙ ap (λ (r : Option ℕ). cond (g at) (Some at) r) (first_free_same more (at + 1) f g same)

pub lowest_free_same : (f g : ℕ → Bool) → ((p : ℕ) → f p ≡ g p) → lowest_free f ≡ lowest_free g
unfolding lowest_free
lowest_free_same f g same = first_free_same PAIRS 0 f g same

-- A pair is reserved once the reply was settled.
pub reserved_settled : (old now new : ℕ → Option Held) (settled : Option Settlement) (is_for reserves : Bool) (conn : ℕ) → ((p : ℕ) → now p ≡ held_settled settled p (old p)) → is_for ≡ reserves
    → ((p : ℕ) → new p ≡ reserved_by is_for conn (lowest_free (λ q. is_free (now q))) p (now p))
    → (p : ℕ) → new p ≡ reserved_by reserves conn (free_once settled old) p (held_settled settled p (old p))
reserved_settled old now new settled is_for reserves conn settles is reserved p =
    reserved p
    ∙ ap (λ t. reserved_by t conn (lowest_free (λ q. is_free (now q))) p (now p)) is
    ∙ ap (λ (lowest : Option ℕ). reserved_by reserves conn lowest p (now p)) (lowest_free_same (λ q. is_free (now q)) (λ q. is_free (held_settled settled q (old q))) (λ q. ap is_free (settles q)))
    ∙ ap (λ (held : Option Held). reserved_by reserves conn (free_once settled old) p held) (settles p)

-- The session that ends is that of the connection's slot.
pub with_torn : (P : Option (List ℕ) → Type 0) (settled : Option Settlement) (client : Option Client) (slot : Client) (copied : Option (List ℕ)) → client ≡ Some slot → copied ≡ torn_of settled (Some slot) → P (torn_of settled client) → P copied
with_torn P settled client slot copied is same here = subst P (ap (torn_of settled) is ∙ sym same) here
