-- Texts of visible bytes: they can be values and parts of a request line.
use Rattle.std.proofs.Common.{◌≡◌, ℕ, zero, suc, ◌<◌, ◌^◌, ◌==◌, Bool, true, ◌&&◌, not, List, [], ◌∷◌, ◌++◌, length, drop, None, refl, ◌∙◌, ap, arith}
use Rattle.std.specs.Prelude.{codes, decimal, nat_le}
use Rattle.std.specs.List.{list_all}
use Rattle.std.specs.Char.{is_ascii_digit}
use Rattle.std.proofs.lemmas.Bool.{and_parts}
use Rattle.std.proofs.lemmas.Fmt.{digits_decimal}
use Rattle.std.proofs.lemmas.List.Folds.{list_all-append}
use Rattle.gate_bytes.specs.Tokens.{is_blank, without_front, without_end, trimmed}
use Rattle.rtsp_head.specs.Starts.{is_unspaced}
use Rattle.rtsp_head.specs.HeadText.{is_line_text, is_value}
use Rattle.rtsp_head.proofs.DigitLemmas.{own}
use Rattle.rtsp_small.specs.Sessions.{is_session_byte, is_session_id}
use Rattle.rtsp_transport.specs.declared.channels.Pair.{Pair}
use Rattle.rtsp_transport.specs.GrantText.{grant_text}
use Rattle.rtsp_transport.proofs.CleanLemmas.{end_kept}
use Rattle.rtsp_small.specs.declared.session.TheConstants.{LONGEST_SESSION_ID}
use Rattle.rtsp_uri.specs.Uris.{is_rest_byte}

-- visible bytes of ASCII alone
abbrev pub is_visible : List ℕ → Bool
is_visible text = list_all is_rest_byte text

pub all_weaker : (p q : ℕ → Bool) → ((b : ℕ) → p b ≡ true → q b ≡ true) → (text : List ℕ) → list_all p text ≡ true → list_all q text ≡ true
all_weaker p q weaker [] h = refl
all_weaker p q weaker (b ∷ text) h =
    let parts = and_parts (p b) (list_all p text) h in
    ap (λ t. t && list_all q text) (weaker b parts.0) ∙ all_weaker p q weaker text parts.1

pub all_dropped : (p : ℕ → Bool) (n : ℕ) (text : List ℕ) → list_all p text ≡ true → list_all p (drop n text) ≡ true
all_dropped p zero text h = h
all_dropped p (suc n) [] h = refl
all_dropped p (suc n) (b ∷ text) h = all_dropped p n text (and_parts (p b) (list_all p text) h).1

pub all_joined : (p : ℕ → Bool) (front back : List ℕ) → list_all p front ≡ true → list_all p back ≡ true → list_all p (front ++ back) ≡ true
all_joined p front back f b = list_all-append p front back ∙ ap (λ t. t && list_all p back) f ∙ b

line_byte : (b : ℕ) → is_rest_byte b ≡ true → (not (b == 10) && (not (b == 13) && not (b == 0))) ≡ true
line_byte b h = grind (arith, h)

part_byte : (b : ℕ) → is_rest_byte b ≡ true → not (b == 32) ≡ true
part_byte b h = grind (arith, h)

solid_byte : (b : ℕ) → is_rest_byte b ≡ true → not (is_blank b) ≡ true
solid_byte b h = grind (arith, h)

pub visible_line : (text : List ℕ) → is_visible text ≡ true → is_line_text text ≡ true
visible_line text h = all_weaker is_rest_byte (λ b. not (b == 10) && (not (b == 13) && not (b == 0))) line_byte text h

pub visible_part : (text : List ℕ) → is_visible text ≡ true → is_unspaced text ≡ true
visible_part text h = all_weaker is_rest_byte (λ b. not (b == 32)) part_byte text h

front_kept : (text : List ℕ) → is_visible text ≡ true → without_front text ≡ text
front_kept [] h = refl
front_kept (b ∷ text) h =
    let solid : not (is_blank b) ≡ true = solid_byte b (and_parts (is_rest_byte b) (is_visible text) h).0 in
    grind (arith, solid)

visible_trimmed : (text : List ℕ) → is_visible text ≡ true → trimmed text ≡ text
visible_trimmed text h = ap without_end (front_kept text h) ∙ end_kept text (all_weaker is_rest_byte (λ b. not (is_blank b)) solid_byte text h)

same_equal : (n : ℕ) → (n == n) ≡ true
same_equal n = grind arith

-- A visible text is a value.
pub visible_value : (text : List ℕ) → is_visible text ≡ true → is_value text ≡ true
visible_value text h =
    ap (λ t. (length t == length text) && is_line_text text) (visible_trimmed text h)
    ∙ ap (λ t. t && is_line_text text) (same_equal (length text))
    ∙ visible_line text h

digit_byte : (b : ℕ) → is_ascii_digit b ≡ true → is_rest_byte b ≡ true
digit_byte b h = grind (arith, h)

pub digits_visible : (text : List ℕ) → list_all is_ascii_digit text ≡ true → is_visible text ≡ true
digits_visible text h = all_weaker is_ascii_digit is_rest_byte digit_byte text h

pub decimal_visible : (n : ℕ) → n < 2 ^ 64 → is_visible (decimal n) ≡ true
decimal_visible n high = digits_visible (decimal n) (digits_decimal own n high)

-- The channels of a SETUP are visible.
pub grant_visible : (pair : Pair) → pair.rtp < 256 → pair.rtcp < 256 → is_visible (grant_text (record { pair = pair; ssrc = None })) ≡ true
grant_visible pair rtp rtcp =
    let channels : is_visible (decimal pair.rtp ++ (45 ∷ decimal pair.rtcp)) ≡ true =
    all_joined is_rest_byte (decimal pair.rtp) (45 ∷ decimal pair.rtcp) (decimal_visible pair.rtp (omega arith)) (decimal_visible pair.rtcp (omega arith)) in
    all_joined is_rest_byte (codes "RTP/AVP/TCP;unicast;interleaved=" ++ (decimal pair.rtp ++ (45 ∷ decimal pair.rtcp))) [] channels refl

session_byte : (b : ℕ) → is_session_byte b ≡ true → is_rest_byte b ≡ true
session_byte b h = grind (arith, h)

-- A session's id is visible.
pub id_visible : (id : List ℕ) → is_session_id id ≡ true → is_visible id ≡ true
id_visible id h =
    all_weaker is_session_byte is_rest_byte session_byte id (and_parts (not (length id == 0) && nat_le (length id) LONGEST_SESSION_ID) (list_all is_session_byte id) h).1
