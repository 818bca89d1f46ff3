-- The room that a multiplexer keeps: for a request of each connection that has none open, and for a session at each place
-- that is empty (this project's own).
use Rattle.std.specs.Prelude.{◌≡◌, ℕ, ◌+◌, ◌==◌, ◌≤◌, ◌||◌, Bool, false, List, [], ◌∷◌, Option, Some, None, is_none, is_some, if◌then◌else◌}
use Rattle.client_slot.specs.Session.{PlayerSession}
use Rattle.client_slot.specs.Client.{Client}

-- numbers of connections, each once
abbrev pub is_in : ℕ → List ℕ → Bool
is_in i [] = false
is_in i (j ∷ more) = j == i || is_in i more

-- no number stands twice
abbrev pub IsOnce : List ℕ → Type 0
IsOnce [] = Unit {0}
IsOnce (i ∷ more) = (is_in i more ≡ false) × IsOnce more

-- what they count together
abbrev pub sum_of : (ℕ → ℕ) → List ℕ → ℕ
sum_of count [] = 0
sum_of count (i ∷ more) = count i + sum_of count more

-- how many requests a connection can have open yet: one, where it has none
abbrev pub idle_count : Option Client → ℕ
idle_count None = 0
idle_count (Some client) = if is_none client.pending then 1 else 0

-- how many places are empty
abbrev pub empty_places : List PlayerSession → ℕ
empty_places [] = 0
empty_places (one ∷ more) = (if is_none one.id then 1 else 0) + empty_places more

-- how many sessions a connection can have yet
abbrev pub unbound_count : Option Client → ℕ
unbound_count None = 0
unbound_count (Some client) = empty_places client.sessions

-- The connections that entered, and that the books have room for them.
pub record HasRoom (clients : ℕ → Option Client) (requests sessions : ℕ) : Type 0 where
  pub roster : List ℕ
  pub once : IsOnce roster
  pub all : (i : ℕ) → is_in i roster ≡ is_some (clients i)
  pub for_requests : sum_of (λ i. idle_count (clients i)) roster ≤ requests
  pub for_sessions : sum_of (λ i. unbound_count (clients i)) roster ≤ sessions
