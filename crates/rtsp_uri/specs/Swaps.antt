-- The change of one authority for another. Bases stand here by their texts.
use Rattle.std.specs.Prelude.{ℕ, Bool, false, ◌==◌, ◌&&◌, List, ◌++◌, take, drop, Option, Some, None, unwrap_or, option_map, if◌then◌else◌}
use Rattle.gate_bytes.specs.Tokens.{equal_fold}
use Rattle.rtsp_uri.specs.declared.grammar.TheConstants.{SCHEME_BYTES}
use Rattle.rtsp_uri.specs.declared.swap.TheConstants.{DEFAULT_PORT}
use Rattle.rtsp_uri.specs.declared.grammar.UriPlaces.{UriPlaces}
use Rattle.rtsp_uri.specs.Uris.{scheme, places_of}

-- the port that an address means: the one that it names, or the default (RFC 2326, 3.2)
abbrev pub port_named : Option ℕ → ℕ
port_named port = unwrap_or port DEFAULT_PORT

-- the host of a URI with these places
abbrev pub host_at : List ℕ → UriPlaces → List ℕ
host_at uri places = drop SCHEME_BYTES (take places.host_end uri)

-- the authority of a URI: its host and the port that it means
abbrev pub authority_of : List ℕ → Option (List ℕ × ℕ)
authority_of uri = option_map (λ places. (host_at uri places, port_named places.port)) (places_of uri)

-- Two authorities are one where their hosts are equal without case and their ports are equal.
abbrev pub are_one : Option (List ℕ × ℕ) → Option (List ℕ × ℕ) → Bool
are_one None other = false
are_one (Some one) None = false
are_one (Some one) (Some other) = equal_fold one.0 other.0 && one.1 == other.1

-- a text has the authority of a base
abbrev pub has_authority : List ℕ → List ℕ → Bool
has_authority base uri = are_one (authority_of (scheme ++ base)) (authority_of uri)

-- what follows the authority of a URI
abbrev pub rest_of : List ℕ → Option (List ℕ)
rest_of uri = option_map (λ places. drop places.rest uri) (places_of uri)

-- what follows it, where it is the authority of a base
abbrev pub rest_behind : List ℕ → List ℕ → Option (List ℕ)
rest_behind base uri = if has_authority base uri then rest_of uri else None

-- the URI with this authority and rest, where there is a rest, and else the text as it was
abbrev pub with_rest : List ℕ → List ℕ → Option (List ℕ) → List ℕ
with_rest to uri None = uri
with_rest to uri (Some rest) = scheme ++ (to ++ rest)

-- the text with the authority of one base in the place of another's
abbrev pub swapped : List ℕ → List ℕ → List ℕ → List ℕ
swapped from to uri = with_rest to uri (rest_behind from uri)
