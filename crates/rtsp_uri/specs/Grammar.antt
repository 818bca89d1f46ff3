-- The grammar of URIs, as what stands in a row (RFC 2326, 3.2; RFC 3986, 3).
use Rattle.std.specs.Prelude.{◌≡◌, ℕ, ◌+◌, ◌<◌, ◌⊎◌, Bool, true, List, [], ◌∷◌, ◌++◌, length, Option, Some, None}
use Rattle.std.specs.List.{list_all}
use Rattle.gate_bytes.specs.Ascii.{colon, open_bracket, close_bracket}
use Rattle.gate_bytes.specs.Tokens.{equal_fold}
use Rattle.rtsp_uri.specs.declared.grammar.TheConstants.{SCHEME_BYTES}
use Rattle.rtsp_uri.specs.declared.grammar.UriPlaces.{UriPlaces}
use Rattle.rtsp_uri.specs.Uris.{scheme, is_name_byte, is_address_byte, port_of, is_rest}

-- one or more bytes of a kind
abbrev pub SomeOf : (ℕ → Bool) → List ℕ → Type 0
SomeOf kind text = (0 < length text) × (list_all kind text ≡ true)

-- a name, or an address in brackets
abbrev pub IsHost : List ℕ → Type 0
IsHost host = SomeOf is_name_byte host ⊎ ((inside : List ℕ) × SomeOf is_address_byte inside × (host ≡ open_bracket ∷ (inside ++ (close_bracket ∷ []))))

-- nothing, or a colon and a port
abbrev pub IsPort : List ℕ → Option ℕ → Type 0
IsPort text None = text ≡ []
IsPort text (Some port) = (digits : List ℕ) × (text ≡ colon ∷ digits) × (port_of digits ≡ Some port)

-- The text is "rtsp://" in any case, a host, a port or none, and a rest, and these are their places.
pub record Spelled (uri : List ℕ) (places : UriPlaces) : Type 0 where
  pub first : List ℕ
  pub host : List ℕ
  pub port : List ℕ
  pub rest : List ℕ
  pub whole : uri ≡ first ++ (host ++ (port ++ rest))
  pub is_scheme : equal_fold first scheme ≡ true
  pub is_host : IsHost host
  pub is_port : IsPort port places.port
  pub is_rest : is_rest rest ≡ true
  pub host_end : places.host_end ≡ SCHEME_BYTES + length host
  pub rest_at : places.rest ≡ SCHEME_BYTES + (length host + length port)
