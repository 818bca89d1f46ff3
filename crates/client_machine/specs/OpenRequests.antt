-- What a request that goes up is, by what is kept of it until its reply comes (this project's own).
use Rattle.std.specs.Prelude.{◌≡◌, ℕ, Bool, false, ◌||◌, codes, List, [], ◌∷◌, Option, Some, None, IfSome}
use Rattle.rtsp_head.specs.Items.{Shape}
use Rattle.rtsp_small.specs.declared.method.Method.TheVariants.{Setup, Play}
use Rattle.rtsp_small.specs.Methods.{method_name}
use Rattle.head_two.specs.declared.request.Request2.{Request2}
use Rattle.translate_up.specs.Fields.{is_setup}
use Rattle.translate_up.specs.Setups.{is_setup_item}
use Rattle.translate_up.specs.Upward.{method_up}
use Rattle.client_slot.specs.declared.purpose.Purpose.{Purpose}
use Rattle.client_slot.specs.declared.purpose.Purpose.TheVariants as purposes
use Rattle.client_machine.specs.Events.{Outgoing, asks, carries, Effect}

-- A SETUP has the pair of its stream, and nothing else has one.
abbrev pub IsAskedAs : Purpose → Request2 → Option ℕ → Type 0
IsAskedAs (purposes.Client asked None) request pair = (pair ≡ None) × (request.method ≡ method_name (method_up asked.method)) × (is_setup asked.method ≡ false)
IsAskedAs (purposes.Client asked (Some track)) request pair = (pair ≡ Some track.pair) × (request.method ≡ method_name Setup) × (asked.method ≡ Setup)
IsAskedAs (purposes.Released play) request pair = (pair ≡ None) × (request.method ≡ method_name Play)
IsAskedAs (purposes.Closing place) request pair = (pair ≡ None) × (request.method ≡ codes "TEARDOWN")

-- The open request is this one.
abbrev pub IsOpenAs : Option Purpose → Request2 → Option ℕ → Type 0
IsOpenAs None request pair = ⊥
IsOpenAs (Some purpose) request pair = IsAskedAs purpose request pair

-- Where a request names a pair, that is the one that is free.
abbrev pub IsFreeFor : Option ℕ → Option ℕ → Type 0
IsFreeFor free named = IfSome named (λ pair. free ≡ Some pair)

-- a request that went up is open, with the pair that was free
pub record IsAsked (free : Option ℕ) (request : Request2) (pair : Option ℕ) (old new : Option Purpose) : Type 0 where
  pub before : old ≡ None
  pub after : IsOpenAs new request pair
  pub named : IsFreeFor free pair

-- By the pair that is free, what was open before, the message, and what is open after it: nothing goes up, and what is
-- open is as before; or a request goes up where none was open, and is open then.
abbrev pub AsksBy : Option ℕ → Option Purpose → Option Outgoing → Option Purpose → Type 0
AsksBy free old None new = new ≡ old
AsksBy free old (Some (asks request pair)) new = IsAsked free request pair old new
AsksBy free old (Some (carries pair half rest)) new = ⊥

-- what went up is what the connection has open
abbrev pub Asks : Option ℕ → Option Purpose → Effect → Type 0
Asks free old effect = AsksBy free old effect.message effect.client.pending

-- a SETUP waits
abbrev pub has_setup : List Shape → Bool
has_setup [] = false
has_setup (shape ∷ more) = is_setup_item shape || has_setup more
