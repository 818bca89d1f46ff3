-- The turn of a connection, as the code has it (this project's own).
use Rattle.std.specs.Prelude.{ℕ, ◌+◌, ◌==◌, Bool, List, true, false, is_some, Option, Some, None, if◌then◌else◌}
use Rattle.std.specs.Option.{option_and_then}
use Rattle.rtsp_uri.specs.declared.base.Bases.{Bases}
use Rattle.client_slot.specs.Client.{Client}
use Rattle.channel_map.specs.declared.map.Held.{Held}
use Rattle.channel_map.specs.Pairs.{is_free, lowest_free}
use Rattle.client_machine.specs.declared.parts.PlannedStep.{PlannedStep}
use Rattle.client_machine.specs.Plans.{Comes, IsPlan}
use Rattle.gateway_claim.specs.Books.{RequestKind, plain, pair_asked}
use Rattle.gateway_claim.specs.Follows.{session_asked}
use Rattle.gateway_claim.specs.Turns.{kind_pending}
use Rattle.gateway_mux.specs.declared.settlement.Settlement.{Settlement}
use Rattle.gateway_mux.specs.Settlements.{held_settled}

-- the lowest pair that is free once that is settled, by who holds each pair before it
abbrev pub free_once : Option Settlement → (ℕ → Option Held) → Option ℕ
free_once settled held = lowest_free (λ pair. is_free (held_settled settled pair (held pair)))

-- A plan for a connection that entered.
abbrev pub IsPlanAt : Bases → ℕ → Option ℕ → Option Client → Comes → PlannedStep → Type 0
IsPlanAt bases next pair None comes plan = ⊥
IsPlanAt bases next pair (Some client) comes plan = IsPlan bases next pair client comes plan

-- the session that the open request of a connection named
abbrev pub named_by_client : Option Client → Option (List ℕ)
named_by_client client = option_and_then (λ client. session_asked client.sessions client.pending) client

-- the kind of its open request
abbrev pub kind_open : Option Client → RequestKind
kind_open None = plain
kind_open (Some client) = kind_pending client.sessions client.pending

-- whether its open request asks for a pair of channels
abbrev pub asks_pair : Option Client → Bool
asks_pair client = is_some (pair_asked (kind_open client))

-- who asked a request, once the next one went up for a connection
abbrev pub asker_lent : Bool → ℕ → ℕ → ℕ → Option ℕ → Option ℕ
asker_lent false conn next number asker = asker
asker_lent true conn next number asker = if number == next then Some conn else asker

-- how many numbers are issued once a request has gone up, or not
abbrev pub issued_then : Bool → ℕ → ℕ
issued_then false issued = issued
issued_then true issued = issued + 1

-- one place, where that is so
abbrev pub one_if : Bool → ℕ
one_if true = 1
one_if false = 0
