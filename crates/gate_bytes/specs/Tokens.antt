-- Tokens, blanks and comparison without case.
use Rattle.std.specs.Prelude.{ℕ, Bool, ◌==◌, ◌&&◌, ◌||◌, not, List, [], ◌∷◌, length, if◌then◌else◌}
use Rattle.std.specs.List.{list_all}
use Rattle.std.specs.Char.{is_ascii_alphanumeric}
use Rattle.std.specs.Str.{str_eq_ignore_ascii_case}
use Rattle.gate_bytes.specs.Ascii.{tab, space, exclamation_mark, number_sign, dollar, percent_sign, ampersand, apostrophe, asterisk, plus_sign, hyphen, dot, caret, underscore, backtick, vertical_bar, tilde}

-- a byte of a token that is neither a letter nor a digit: one of !#$%&'*+-.^_`|~ (RFC 7826, 20.1)
abbrev pub is_token_mark : ℕ → Bool
is_token_mark b =
    b == exclamation_mark || b == number_sign || b == dollar || b == percent_sign || b == ampersand || b == apostrophe
    || b == asterisk || b == plus_sign || b == hyphen || b == dot || b == caret || b == underscore || b == backtick
    || b == vertical_bar || b == tilde

-- a byte of a token (RFC 7826, 20.1)
abbrev pub is_token_byte : ℕ → Bool
is_token_byte b = is_ascii_alphanumeric b || is_token_mark b

-- one or more bytes of tokens (RFC 2326, 15.1; RFC 7826, 20.1)
abbrev pub is_token : List ℕ → Bool
is_token text = not (length text == 0) && list_all is_token_byte text

-- a space or a tab
abbrev pub is_blank : ℕ → Bool
is_blank b = b == space || b == tab

-- without the blanks at the front
abbrev pub without_front : List ℕ → List ℕ
without_front [] = []
without_front (b ∷ text) = if is_blank b then without_front text else b ∷ text

-- without the blanks at the end
abbrev pub without_end : List ℕ → List ℕ
without_end [] = []
without_end (b ∷ text) = if list_all is_blank (b ∷ text) then [] else b ∷ without_end text

-- without the blanks at both ends
abbrev pub trimmed : List ℕ → List ℕ
trimmed text = without_end (without_front text)

-- whether two texts are equal without ASCII case
abbrev pub equal_fold : List ℕ → List ℕ → Bool
equal_fold a b = str_eq_ignore_ascii_case a b
