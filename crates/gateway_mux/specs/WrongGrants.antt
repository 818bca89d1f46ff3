-- What is wrong with a grant, by who holds each session (this project's own).
use Rattle.std.specs.Prelude.{ℕ, ◌==◌, ◌*◌, ◌+◌, ◌<◌, Bool, false, ◌&&◌, not, is_none, is_some, List, Option, Some, None, if◌then◌else◌}
use Rattle.channel_map.specs.declared.map.TheConstants.{PAIRS}
use Rattle.client_slot.specs.declared.purpose.Purpose.{Purpose}
use Rattle.client_slot.specs.declared.purpose.Purpose.TheVariants as purposes
use Rattle.rtsp_transport.specs.declared.grant.Grant.{Grant}
use Rattle.head_two.specs.declared.reply.Reply2.{Reply2}
use Rattle.gateway_claim.specs.declared.event.UpCause.{UpCause}
use Rattle.gateway_claim.specs.declared.event.UpCause.TheVariants.{BadGrant, SessionTaken}
use Rattle.gateway_claim.specs.Books.{id_said}
use Rattle.gateway_claim.specs.Follows.{is_granted}

-- whether some connection has a session
abbrev pub is_taken_by : (List ℕ → Option ℕ) → Option (List ℕ) → Bool
is_taken_by holder None = false
is_taken_by holder (Some id) = is_some (holder id)

-- what is wrong with a grant (this project's own)
abbrev pub wrong_grant : (List ℕ → Option ℕ) → ℕ → Option (List ℕ) → Reply2 → Option UpCause
wrong_grant holder pair session reply =
    if not (is_granted pair session reply) then Some (BadGrant reply.cseq)
    else (if is_none session && is_taken_by holder (id_said reply) then Some (SessionTaken reply.cseq) else None)

-- A grant is of that pair.
abbrev pub grants_that : ℕ → Option Grant → Bool
grants_that pair None = false
grants_that pair (Some grant) = grant.pair.rtp == 2 * pair && grant.pair.rtcp == 2 * pair + 1

-- The pair that a SETUP asked for is one of all.
abbrev pub IsLowPurpose : Purpose → Type 0
IsLowPurpose (purposes.Client asked (Some track)) = track.pair < PAIRS
IsLowPurpose (purposes.Client asked None) = Unit {0}
IsLowPurpose (purposes.Released play) = Unit {0}
IsLowPurpose (purposes.Closing place) = Unit {0}
