-- The texts of bases. This project's own.
use Rattle.std.specs.Prelude.{◌≡◌, ℕ, ◌+◌, ◌≤◌, ◌==◌, ◌&&◌, Bool, false, nat_le, List, ◌++◌, length, take, Option, Some, None}
use Rattle.rtsp_uri.specs.declared.grammar.TheConstants.{SCHEME_BYTES}
use Rattle.rtsp_uri.specs.declared.word.TheConstants.{LONGEST_BASE_TEXT}
use Rattle.rtsp_uri.specs.declared.grammar.UriPlaces.{UriPlaces}
use Rattle.rtsp_uri.specs.Uris.{scheme, places_of}

-- the URI ends where its rest would begin
abbrev pub ends_at : ℕ → Option UriPlaces → Bool
ends_at bytes None = false
ends_at bytes (Some places) = places.rest == bytes

-- "rtsp://" and this text are a URI without a rest, no longer than the longest base
abbrev pub is_base_text : List ℕ → Bool
is_base_text text = nat_le (length text) LONGEST_BASE_TEXT && ends_at (SCHEME_BYTES + length text) (places_of (scheme ++ text))

-- the text is such a one, and these are the host and the port of the URI
pub record IsBase (text host : List ℕ) (port : Option ℕ) : Type 0 where
  pub short : length text ≤ LONGEST_BASE_TEXT
  pub places : places_of (scheme ++ text) ≡ Some (record { host_end = SCHEME_BYTES + length host; port = port; rest = SCHEME_BYTES + length text })
  pub begins : take (length host) text ≡ host
