-- Tokens of RTSP are those of HTTP.
use Rattle.std.proofs.Common.{◌≡◌, ℕ, ◌==◌, ◌||◌, Bool, true, false, not, nat_lt, codes, List, [], ◌∷◌, length, refl, sym, ◌∙◌, ap, arith}
use Rattle.std.specs.Char.{is_ascii_alphanumeric}
use Rattle.std.specs.List.{list_all, list_any}
use Rattle.gate_bytes.specs.Tokens.{is_token, is_token_byte, is_token_mark}
use Rattle.httparse.specs.Grammar.{is_token as is_http_token, is_token_byte as is_http_byte}

-- the answer so far, or that one of these is the byte
any_more : Bool → ℕ → List ℕ → Bool
any_more t b [] = t
any_more t b (c ∷ text) = any_more (t || b == c) b text

one_more : (t : Bool) (b c : ℕ) (rest : Bool) → ((t || b == c) || rest) ≡ (t || (c == b || rest))
one_more true b c rest = refl
one_more false b c rest = ap (λ same. same || rest) (grind arith)

no_more : (t : Bool) → t ≡ (t || false)
no_more true = refl
no_more false = refl

any_joined : (t : Bool) (b : ℕ) (text : List ℕ) → any_more t b text ≡ (t || list_any (λ c. c == b) text)
unfolding any_more
any_joined t b [] = no_more t
any_joined t b (c ∷ text) = any_joined (t || b == c) b text ∙ one_more t b c (list_any (λ c. c == b) text)

-- the same marks stand in both
same_mark : (b : ℕ) → list_any (λ c. c == b) (codes "!#$%&'*+-.^_`|~") ≡ is_token_mark b
unfolding any_more
same_mark b = sym (any_joined false b (codes "!#$%&'*+-.^_`|~"))

-- the same bytes stand in both
same_byte : (b : ℕ) → is_http_byte b ≡ is_token_byte b
unfolding is_http_byte
same_byte b = ap (λ t. is_ascii_alphanumeric b || t) (same_mark b)

same_bytes : (text : List ℕ) → list_all is_http_byte text ≡ list_all is_token_byte text
same_bytes [] = refl
same_bytes (b ∷ text) = rw (same_byte b, same_bytes text) refl

-- both need one byte at least
some_byte : (count : ℕ) → nat_lt 0 count ≡ not (count == 0)
some_byte count = grind arith

pub same_token : (text : List ℕ) → is_http_token text ≡ is_token text
same_token text = rw (some_byte (length text), same_bytes text) refl
