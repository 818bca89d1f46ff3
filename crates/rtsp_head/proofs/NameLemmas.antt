-- A name that stands first in a line, and the bytes of a name.
use Rattle.std.proofs.Common.{◌≡◌, ℕ, suc, ◌<◌, ◌≤◌, ◌==◌, ◌||◌, ◌&&◌, Bool, true, false, cond, not, codes, List, [], ◌∷◌, ◌++◌, length, take, drop, slice_index, ◌+◌, ◌-◌, Some, Ok, Err, refl, sym, ◌∙◌, ap, arith, take-append-drop}
use Rattle.std.specs.Char.{is_ascii_alphanumeric}
use Rattle.std.specs.List.{list_all, list_any}
use Rattle.std.proofs.lemmas.Bool.{and_parts}
use Rattle.std.proofs.lemmas.List.{length-take-le, length-drop, take_all}
use Rattle.gate_bytes.specs.Ascii.{colon}
use Rattle.gate_bytes.specs.Places.{cut_at}
use Rattle.gate_bytes.specs.Tokens.{is_token, is_token_byte, is_token_mark, trimmed}
use Rattle.gate_bytes.proofs.SeamLemmas.{cut_at_seam}
use Rattle.httparse.specs.Grammar.{is_token_byte as is_http_byte}
use Rattle.rtsp_head.specs.declared.fault.HeadFault.TheVariants as faults
use Rattle.rtsp_head.specs.Headers.{Begins, header_from, header_of}
use Rattle.rtsp_head.specs.Lines.{result_map}
use Rattle.rtsp_head.specs.Names.{token_len}

-- The bytes of tokens are those of HTTP

-- the answer so far, or that one of these is the byte
any_more : Bool → ℕ → List ℕ → Bool
any_more t b [] = t
any_more t b (c ∷ text) = any_more (t || b == c) b text

one_more : (t : Bool) (b c : ℕ) (rest : Bool) → ((t || b == c) || rest) ≡ (t || (c == b || rest))
one_more true b c rest = refl
one_more false b c rest = ap (λ same. same || rest) (grind arith)

no_more : (t : Bool) → t ≡ (t || false)
no_more true = refl
no_more false = refl

any_joined : (t : Bool) (b : ℕ) (text : List ℕ) → any_more t b text ≡ (t || list_any (λ c. c == b) text)
unfolding any_more
any_joined t b [] = no_more t
any_joined t b (c ∷ text) = any_joined (t || b == c) b text ∙ one_more t b c (list_any (λ c. c == b) text)

-- the same marks stand in both
same_mark : (b : ℕ) → list_any (λ c. c == b) (codes "!#$%&'*+-.^_`|~") ≡ is_token_mark b
unfolding any_more
same_mark b = sym (any_joined false b (codes "!#$%&'*+-.^_`|~"))

pub same_byte : (b : ℕ) → is_http_byte b ≡ is_token_byte b
unfolding is_http_byte
same_byte b = ap (λ t. is_ascii_alphanumeric b || t) (same_mark b)

-- Names

run_more : (b : ℕ) (line : List ℕ) (n : ℕ) (t : Bool) → is_token_byte b ≡ t → list_all is_token_byte (take n line) ≡ true → list_all is_token_byte (take (cond t (suc n) 0) (b ∷ line)) ≡ true
run_more b line n true e h = ap (λ u. u && list_all is_token_byte (take n line)) e ∙ h
run_more b line n false e h = refl

-- what stands first is bytes of a token
run_all : (line : List ℕ) → list_all is_token_byte (take (token_len line) line) ≡ true
run_all [] = refl
run_all (b ∷ line) = run_more b line (token_len line) (is_token_byte b) refl (run_all line)

-- one byte of a token more
one_token : (b : ℕ) (line : List ℕ) → is_token_byte b ≡ true → token_len (b ∷ line) ≡ suc (token_len line)
one_token b line h = ap (λ t. cond t (suc (token_len line)) 0) h

-- four of them
pub four_tokens : (line : List ℕ) → 4 ≤ length line → (is_token_byte (slice_index line 0) && is_token_byte (slice_index line 1) && is_token_byte (slice_index line 2) && is_token_byte (slice_index line 3)) ≡ true
    → token_len line ≡ 4 + token_len (drop 4 line)
four_tokens [] few all = absurd (omega (arith, few))
four_tokens (a ∷ []) few all = absurd (omega (arith, few))
four_tokens (a ∷ b ∷ []) few all = absurd (omega (arith, few))
four_tokens (a ∷ b ∷ c ∷ []) few all = absurd (omega (arith, few))
four_tokens (a ∷ b ∷ c ∷ d ∷ line) few all =
    let last = and_parts (is_token_byte a && is_token_byte b && is_token_byte c) (is_token_byte d) all in
    let third = and_parts (is_token_byte a && is_token_byte b) (is_token_byte c) last.0 in
    let pair = and_parts (is_token_byte a) (is_token_byte b) third.0 in
    let run : token_len (a ∷ b ∷ c ∷ d ∷ line) ≡ suc (suc (suc (suc (token_len line)))) =
    one_token a (b ∷ c ∷ d ∷ line) pair.0
    ∙ ap suc (one_token b (c ∷ d ∷ line) pair.1)
    ∙ ap (λ n. suc (suc n)) (one_token c (d ∷ line) third.1)
    ∙ ap (λ n. suc (suc (suc n))) (one_token d line last.1) in
    omega (arith, run)

-- what is left of a text behind four bytes
pub four_less : (line : List ℕ) → take (length line - 4) (drop 4 line) ≡ drop 4 line
four_less line = take_all (length line - 4) (drop 4 line) (omega (arith, length-drop 4 line))

-- no byte of a token is a colon
no_colon : (text : List ℕ) → list_all is_token_byte text ≡ true → list_all (λ b. not (b == colon)) text ≡ true
no_colon [] h = refl
no_colon (b ∷ text) h =
    let parts = and_parts (is_token_byte b) (list_all is_token_byte text) h in
    let rest : list_all (λ b. not (b == colon)) text ≡ true = no_colon text parts.1 in
    grind arith

-- A name and a colon that stand first begin a header.
pub named : (line : List ℕ) (len : ℕ) (rest name value : List ℕ) → len ≡ token_len line → 0 < len → len ≤ length line → drop len line ≡ colon ∷ rest → name ≡ take len line → value ≡ trimmed rest
    → result_map Begins (header_of line) ≡ Ok (Begins (record { name = name; value = value }))
named line len rest name value run some within stands is_name is_value =
    let all : list_all is_token_byte (take len line) ≡ true = ap (λ (n : ℕ). list_all is_token_byte (take n line)) run ∙ run_all line in
    let parts : line ≡ take len line ++ (colon ∷ rest) = sym (take-append-drop len line) ∙ ap (λ (l : List ℕ). take len line ++ l) stands in
    let cut : cut_at colon line ≡ Some (take len line, rest) = ap (cut_at colon) parts ∙ cut_at_seam colon (take len line) rest (no_colon (take len line) all) in
    let count : length (take len line) ≡ len = length-take-le len line within in
    let full : not (length (take len line) == 0) ≡ true = grind (arith, count, some) in
    let token : is_token (take len line) ≡ true = ap (λ t. t && list_all is_token_byte (take len line)) full ∙ all in
    ap (λ parts. result_map Begins (header_from parts)) cut
    ∙ ap (λ t. result_map Begins (cond t (Ok (record { name = take len line; value = trimmed rest })) (Err faults.Name))) token
    ∙ ap (λ (n : List ℕ). Ok (Begins (record { name = n; value = trimmed rest }))) (sym is_name)
    ∙ ap (λ (v : List ℕ). Ok (Begins (record { name = name; value = v }))) (sym is_value)
