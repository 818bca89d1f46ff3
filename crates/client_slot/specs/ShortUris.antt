-- URIs that are short enough to be kept (this project's own).
use Rattle.std.specs.Prelude.{ℕ, Bool, true, nat_le, List, length, Option, Some, None}
use Rattle.client_slot.specs.declared.limits.TheConstants.{LONGEST_URI}

-- a URI that goes up is, and so is one that stands for it
abbrev pub is_short_uri : List ℕ → Bool
is_short_uri uri = nat_le (length uri) LONGEST_URI

-- where there is one
abbrev pub is_short_where : Option (List ℕ) → Bool
is_short_where None = true
is_short_where (Some uri) = is_short_uri uri
