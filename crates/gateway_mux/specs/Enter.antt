-- What the multiplexer has once a connection entered (this project's own).
use Rattle.std.specs.Prelude.{◌≡◌, ℕ, ◌==◌, false, List, Some, if◌then◌else◌}
use Rattle.rtsp_uri.specs.declared.base.Bases.{Bases}
use Rattle.client_slot.specs.Client.{new_client}
use Rattle.gateway_claim.specs.Happenings.{HistoryEntry, entered}
use Rattle.gateway_mux.specs.Pictures.{Picture, IsPictureOf}

-- What it has is what some history has in which the connection never entered.
pub record IsNewIn (bases : Bases) (one : Picture) (conn : ℕ) : Type 0 where
  pub history : List HistoryEntry
  pub is_of : IsPictureOf bases one history
  pub never : entered conn history ≡ false

-- all is as before
pub record IsAsBefore (one after : Picture) : Type 0 where
  pub clients : (i : ℕ) → after.clients i ≡ one.clients i
  pub asker : (n : ℕ) → after.asker n ≡ one.asker n
  pub held : (p : ℕ) → after.held p ≡ one.held p
  pub holder : (id : List ℕ) → after.holder id ≡ one.holder id
  pub issued : after.issued ≡ one.issued

-- The connection is there, and all else is as before.
pub record IsEntered (conn : ℕ) (one after : Picture) : Type 0 where
  pub clients : (i : ℕ) → after.clients i ≡ (if conn == i then Some new_client else one.clients i)
  pub asker : (n : ℕ) → after.asker n ≡ one.asker n
  pub held : (p : ℕ) → after.held p ≡ one.held p
  pub holder : (id : List ℕ) → after.holder id ≡ one.holder id
  pub issued : after.issued ≡ one.issued
