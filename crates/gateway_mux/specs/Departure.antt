-- What is still kept of connections of which nothing need be (this project's own).
use Rattle.std.specs.Prelude.{◌≡◌, Bool, true, Option, Some, None}
use Rattle.client_slot.specs.Client.{Client}
use Rattle.connection_table.specs.Over.{is_over}

-- nothing need be kept of it: it never entered, or is over
abbrev pub is_gone : Option Client → Bool
is_gone None = true
is_gone (Some client) = is_over client

-- What is kept of a connection is what a history has of it, or nothing, where nothing need be.
abbrev pub IsKeptUnlessGone : Option Client → Option Client → Type 0
IsKeptUnlessGone None its = is_gone its ≡ true
IsKeptUnlessGone (Some client) its = its ≡ Some client
