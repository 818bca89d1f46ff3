-- The name of a header, where it stands first in its line.
use Rattle.std.specs.Prelude.{ℕ, suc, List, [], ◌∷◌, if◌then◌else◌}
use Rattle.gate_bytes.specs.Tokens.{is_token_byte}

-- how many bytes of a token stand first
abbrev pub token_len : List ℕ → ℕ
token_len [] = 0
token_len (b ∷ line) = if is_token_byte b then suc (token_len line) else 0
