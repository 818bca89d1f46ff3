-- Texts of visible bytes are values of headers as they stand: no blank is at their ends, and they hold no line end.
use Rattle.std.proofs.Common.{◌≡◌, ℕ, ◌<◌, ◌^◌, Bool, true, false, cond, ◌&&◌, ◌==◌, List, [], ◌∷◌, ◌++◌, length, refl, ◌∙◌, ap, arith}
use Rattle.std.specs.Prelude.{decimal}
use Rattle.std.specs.List.{list_all}
use Rattle.std.specs.Char.{is_ascii_digit}
use Rattle.std.proofs.lemmas.Bool.{and_parts}
use Rattle.std.proofs.lemmas.Fmt.{digits_decimal}
use Rattle.std.proofs.lemmas.List.Folds.{list_all-append}
use Rattle.gate_bytes.specs.Tokens.{is_blank, without_front, without_end, trimmed}
use Rattle.rtsp_head.specs.HeadText.{is_line_text, is_trimmed, is_value}
use Rattle.rtsp_head.proofs.DigitLemmas.{own}
use Rattle.rtsp_uri.specs.Uris.{is_rest_byte}

-- each byte is a visible one of ASCII
abbrev pub is_visible : List ℕ → Bool
is_visible text = list_all is_rest_byte text

unblank_end : (text : List ℕ) → is_visible text ≡ true → without_end text ≡ text
unblank_end [] h = refl
unblank_end (b ∷ text) h =
    let parts = and_parts (is_rest_byte b) (is_visible text) h in
    let rest : without_end text ≡ text = unblank_end text parts.1 in
    let first : is_blank b ≡ false = grind arith in
    grind arith

unblank : (text : List ℕ) → is_visible text ≡ true → trimmed text ≡ text
unblank [] h = refl
unblank (b ∷ text) h =
    let parts = and_parts (is_rest_byte b) (is_visible text) h in
    let first : is_blank b ≡ false = grind arith in
    ap (λ t. without_end (cond t (without_front text) (b ∷ text))) first ∙ unblank_end (b ∷ text) h

visible_line : (text : List ℕ) → is_visible text ≡ true → is_line_text text ≡ true
visible_line [] h = refl
visible_line (b ∷ text) h =
    let parts = and_parts (is_rest_byte b) (is_visible text) h in
    let rest : is_line_text text ≡ true = visible_line text parts.1 in
    grind arith

-- such a text is a value
pub visible_value : (text : List ℕ) → is_visible text ≡ true → is_value text ≡ true
visible_value text h =
    let kept : is_trimmed text ≡ true = ap (λ t. length t == length text) (unblank text h) ∙ grind arith in
    ap (λ t. t && is_line_text text) kept ∙ visible_line text h

-- two such texts in a row
pub visible_more : (front more : List ℕ) → is_visible front ≡ true → is_visible more ≡ true → is_visible (front ++ more) ≡ true
visible_more front more f m = list_all-append is_rest_byte front more ∙ ap (λ t. t && is_visible more) f ∙ m

-- bytes of a visible kind
pub kind_visible : (kind : ℕ → Bool) (text : List ℕ) → ((b : ℕ) → kind b ≡ true → is_rest_byte b ≡ true) → list_all kind text ≡ true → is_visible text ≡ true
kind_visible kind [] seen h = refl
kind_visible kind (b ∷ text) seen h =
    let parts = and_parts (kind b) (list_all kind text) h in
    ap (λ t. t && is_visible text) (seen b parts.0) ∙ kind_visible kind text seen parts.1

-- digits
pub digits_visible : (text : List ℕ) → list_all is_ascii_digit text ≡ true → is_visible text ≡ true
digits_visible text h = kind_visible is_ascii_digit text (λ b d. grind arith) h

-- a number
pub decimal_visible : (n : ℕ) → n < 2 ^ 64 → is_visible (decimal n) ≡ true
decimal_visible n high = digits_visible (decimal n) (digits_decimal own n high)
