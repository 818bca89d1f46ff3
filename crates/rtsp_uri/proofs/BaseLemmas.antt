-- What a base's own facts say of its authority.
use Rattle.std.proofs.Common.{◌≡◌, ℕ, ◌==◌, ◌&&◌, List, ◌++◌, length, Option, Some, ◌∙◌, ap}
use Rattle.gate_bytes.specs.Tokens.{equal_fold}
use Rattle.std.specs.Option.{option_map}
use Rattle.std.proofs.lemmas.List.{drop-take}
use Rattle.rtsp_uri.specs.Uris.{scheme}
use Rattle.rtsp_uri.specs.BaseTexts.{IsBase}
use Rattle.rtsp_uri.specs.Swaps.{port_named, host_at, authority_of, are_one}

-- the authority of a base is its host and its port
pub base_authority : (text host : List ℕ) (port : Option ℕ) → IsBase text host port → authority_of (scheme ++ text) ≡ Some (host, port_named port)
base_authority text host port is =
    ap (option_map (λ places. (host_at (scheme ++ text) places, port_named places.port))) is.places
    ∙ ap (λ h. Some (h, port_named port)) (drop-take 7 (length host) (scheme ++ text) ∙ is.begins)

-- whether another authority is a base's
pub is_base_authority : (text host : List ℕ) (port : Option ℕ) (other : List ℕ) (other_port : Option ℕ) → IsBase text host port
    → are_one (authority_of (scheme ++ text)) (Some (other, port_named other_port)) ≡ (equal_fold host other && (port_named port == port_named other_port))
is_base_authority text host port other other_port is = ap (λ a. are_one a (Some (other, port_named other_port))) (base_authority text host port is)
