-- The addresses that a gateway stands between. This project's own.
use Rattle.std.specs.Prelude.{◌≡◌, ℕ, true, false, List, Option, Some, None}
use Rattle.rtsp_uri.specs.declared.base.Base.{Base}
use Rattle.rtsp_uri.specs.declared.base.Bases.{Bases}
use Rattle.rtsp_uri.specs.BaseTexts.{is_base_text}

-- What was made of a text: the base with that text, or none where it names none.
abbrev pub MadeOf : List ℕ → Option Base → Type 0
MadeOf text None = is_base_text text ≡ false
MadeOf text (Some base) = (is_base_text text ≡ true) × (base.text ≡ text)

-- The addresses are the same: their texts, hosts and ports.
pub record IsSameAddress (one other : Base) : Type 0 where
  pub text : one.text ≡ other.text
  pub host : one.host ≡ other.host
  pub port : one.port ≡ other.port

-- both addresses are the same
pub record AreSameAddresses (one other : Bases) : Type 0 where
  pub front : IsSameAddress one.front other.front
  pub up : IsSameAddress one.up other.up
