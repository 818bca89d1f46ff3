-- A written transport reads back as a grant.
use Rattle.std.proofs.Common.{◌≡◌, ◌≢◌, ℕ, ◌<◌, ◌≤◌, Bool, true, false, not, ◌==◌, ◌&&◌, nat_le, cond, List, [], ◌∷◌, ◌++◌, length, map, Option, None, Some, Ok, Err, refl, ◌∙◌, ap, rules, arith}
use Rattle.std.specs.Prelude.{codes, decimal, IfSome}
use Rattle.std.specs.Option.{option_map, option_and_then, option_or, ok_or}
use Rattle.std.specs.List.{list_all, onto_first}
use Rattle.std.specs.Char.{is_ascii_digit, is_ascii_hexdigit}
use Rattle.std.specs.Str.Parse.{digits_value}
use Rattle.std.proofs.lemmas.Bool.{ne_eqb, agree_below}
use Rattle.std.proofs.lemmas.List.{append-nil}
use Rattle.std.proofs.lemmas.List.Folds.{list_all-append}
use Rattle.std.proofs.lemmas.Str.Parse.{IsNumeralModel, numerals_by_value}
use Rattle.std.proofs.lemmas.Fmt.{digits_decimal, digits_value-decimal, length-decimal-le, decimal_nonempty}
use Rattle.gate_bytes.specs.Ascii as ascii
use Rattle.gate_bytes.specs.Tokens.{is_blank, trimmed}
use Rattle.gate_bytes.specs.Numbers.{number_in}
use Rattle.gate_bytes.proofs.SeamLemmas.{cut_at_seam, up_to_whole}
use Rattle.rtsp_transport.specs.declared.grant.Grant.{Grant}
use Rattle.rtsp_transport.specs.declared.fault.TransportFault.TheVariants as faults
use Rattle.rtsp_transport.specs.Splits.{unquoted_parts, is_readable}
use Rattle.rtsp_transport.specs.Channels.{channel_of, two_channels, pair_of}
use Rattle.rtsp_transport.specs.Sources.{source_digits, source_number, first_source}
use Rattle.rtsp_transport.specs.Grants.{grant_in, grant_among, grant_of}
use Rattle.rtsp_transport.specs.GrantText.{source_text, grant_text}
use Rattle.rtsp_transport.proofs.CleanLemmas.{is_clean, whole_clean, first_clean, quotes_closed, end_kept}
use Rattle.rtsp_transport.proofs.HexLemmas.{hex_all, digits_hex, source_hex, source_read}

own : IsNumeralModel (λ ds. list_all is_ascii_digit ds ≡ true) (digits_value 10)
own = numerals_by_value _ (search rules)

decimal_hex : (n : ℕ) → n ≤ 255 → list_all is_ascii_hexdigit (decimal n) ≡ true
decimal_hex n h = digits_hex (decimal n) (digits_decimal own n (omega arith))

-- a channel is written and read
channel_read : (n : ℕ) → n ≤ 255 → channel_of (decimal n) ≡ Some n
channel_read n h =
    let digits : list_all is_ascii_digit (decimal n) ≡ true = digits_decimal own n (omega arith) in
    let value : digits_value 10 (decimal n) ≡ n = digits_value-decimal own n (omega arith) in
    let short : length (decimal n) ≤ 3 = length-decimal-le 3 n (omega arith) (omega arith) (omega arith) in
    let some : 0 < length (decimal n) = decimal_nonempty n (omega arith) in
    let number : number_in 3 (decimal n) ≡ Some n = grind arith in
    ap (option_and_then (λ m. cond (nat_le m 255) (Some m) None)) number ∙ grind arith

-- what holds of a `-` and of each hexadecimal digit holds of all bytes of a pair
pair_all : (q : ℕ → Bool) (a b : ℕ) → a ≤ 255 → b ≤ 255 → (digits : (n : ℕ) → n ≤ 255 → list_all q (decimal n) ≡ true) → q ascii.hyphen ≡ true →
    list_all q (decimal a ++ (ascii.hyphen ∷ decimal b)) ≡ true
pair_all q a b ha hb digits dash =
    list_all-append q (decimal a) (ascii.hyphen ∷ decimal b) ∙ ap (λ t. t && (q ascii.hyphen && list_all q (decimal b))) (digits a ha)
    ∙ ap (λ t. t && list_all q (decimal b)) dash ∙ digits b hb

-- a pair is written and read
pair_read : (a b : ℕ) → a ≤ 255 → b ≤ 255 → a ≢ b → pair_of (decimal a ++ (ascii.hyphen ∷ decimal b)) ≡ Some (record { rtp = a; rtcp = b })
pair_read a b ha hb differ =
    let apart : (a == b) ≡ false = ne_eqb a b differ in
    ap (option_and_then (λ parts. two_channels parts.0 parts.1))
    (cut_at_seam ascii.hyphen (decimal a) (decimal b) (hex_all (λ c. not (c == ascii.hyphen)) (decimal a) refl (decimal_hex a ha)))
    ∙ rw (channel_read a ha, channel_read b hb) (rw apart refl)

-- what follows the channels: the parameters
abbrev source_parameters : Option ℕ → List (List ℕ)
source_parameters None = []
source_parameters (Some source) = (codes "ssrc=" ++ source_digits source) ∷ []

-- which sources have eight digits
abbrev IsSource : Option ℕ → Type 0
IsSource source = IfSome source (λ n. n < 4294967296)

source_without : (q : ℕ → Bool) (source : Option ℕ) → ((n : ℕ) → list_all q (codes ";ssrc=" ++ source_digits n) ≡ true) → list_all q (source_text source) ≡ true
source_without q None h = refl
source_without q (Some n) h = h n

channels_split : (a b : ℕ) (source : Option ℕ) → a ≤ 255 → b ≤ 255 →
    unquoted_parts ascii.semicolon ((decimal a ++ (ascii.hyphen ∷ decimal b)) ++ source_text source) ≡ (decimal a ++ (ascii.hyphen ∷ decimal b)) ∷ source_parameters source
channels_split a b None ha hb =
    ap (unquoted_parts ascii.semicolon) (append-nil (decimal a ++ (ascii.hyphen ∷ decimal b)))
    ∙ whole_clean ascii.semicolon (decimal a ++ (ascii.hyphen ∷ decimal b)) (pair_all (is_clean ascii.semicolon) a b ha hb (λ n h. hex_all (is_clean ascii.semicolon) (decimal n) refl (decimal_hex n h)) refl)
channels_split a b (Some n) ha hb =
    first_clean ascii.semicolon (decimal a ++ (ascii.hyphen ∷ decimal b)) (codes "ssrc=" ++ source_digits n) (pair_all (is_clean ascii.semicolon) a b ha hb (λ n h. hex_all (is_clean ascii.semicolon) (decimal n) refl (decimal_hex n h)) refl)
    ∙ ap (λ ps. (decimal a ++ (ascii.hyphen ∷ decimal b)) ∷ ps) (whole_clean ascii.semicolon (codes "ssrc=" ++ source_digits n) (hex_all (is_clean ascii.semicolon) (source_digits n) refl (source_hex n)))

source_trimmed : (source : Option ℕ) → map trimmed (source_parameters source) ≡ source_parameters source
source_trimmed None = refl
source_trimmed (Some n) =
    ap (λ (t : List ℕ). (codes "ssrc=" ++ t) ∷ []) (end_kept (source_digits n) (hex_all (λ c. not (is_blank c)) (source_digits n) refl (source_hex n)))

pair_trimmed : (a b : ℕ) → a ≤ 255 → b ≤ 255 → trimmed (codes "interleaved=" ++ (decimal a ++ (ascii.hyphen ∷ decimal b))) ≡ codes "interleaved=" ++ (decimal a ++ (ascii.hyphen ∷ decimal b))
pair_trimmed a b ha hb =
    ap (λ (t : List ℕ). codes "interleaved=" ++ t) (end_kept (decimal a ++ (ascii.hyphen ∷ decimal b))
    (pair_all (λ c. not (is_blank c)) a b ha hb (λ n h. hex_all (λ c. not (is_blank c)) (decimal n) refl (decimal_hex n h)) refl))

source_found : (source : Option ℕ) → IsSource source → first_source (source_parameters source) ≡ source
source_found None h = refl
source_found (Some n) h =
    ap (λ s. option_or s None) (ap source_number (up_to_whole ascii.slash (source_digits n) (hex_all (λ c. not (c == ascii.slash)) (source_digits n) refl (source_hex n))) ∙ source_read n h)

-- the protocol and the parameters of a written transport
abbrev written_parameters : ℕ → ℕ → Option ℕ → List (List ℕ)
written_parameters a b source = codes "RTP/AVP/TCP" ∷ codes "unicast" ∷ (codes "interleaved=" ++ (decimal a ++ (ascii.hyphen ∷ decimal b))) ∷ source_parameters source

onto_interleaved : List (List ℕ) → List (List ℕ)
onto_interleaved parts = codes "RTP/AVP/TCP" ∷ codes "unicast" ∷ onto_first 105 (onto_first 110 (onto_first 116 (onto_first 101 (onto_first 114 (onto_first 108 (onto_first 101 (onto_first 97 (onto_first 118 (onto_first 101 (onto_first 100 (onto_first ascii.equals_sign parts)))))))))))

written_split : (a b : ℕ) (source : Option ℕ) → a ≤ 255 → b ≤ 255 →
    unquoted_parts ascii.semicolon (codes "RTP/AVP/TCP;unicast;interleaved=" ++ ((decimal a ++ (ascii.hyphen ∷ decimal b)) ++ source_text source)) ≡ written_parameters a b source
unfolding onto_interleaved
written_split a b source ha hb = ap onto_interleaved (channels_split a b source ha hb)

written_trimmed : (a b : ℕ) (source : Option ℕ) → a ≤ 255 → b ≤ 255 → map trimmed (written_parameters a b source) ≡ written_parameters a b source
written_trimmed a b source ha hb =
    ap (λ ps. codes "RTP/AVP/TCP" ∷ codes "unicast" ∷ trimmed (codes "interleaved=" ++ (decimal a ++ (ascii.hyphen ∷ decimal b))) ∷ ps) (source_trimmed source)
    ∙ ap (λ t. codes "RTP/AVP/TCP" ∷ codes "unicast" ∷ t ∷ source_parameters source) (pair_trimmed a b ha hb)

written_grant : (a b : ℕ) (source : Option ℕ) → a ≤ 255 → b ≤ 255 → a ≢ b → IsSource source →
    grant_in (written_parameters a b source) ≡ Some (record { pair = record { rtp = a; rtcp = b }; ssrc = source })
written_grant a b source ha hb differ small =
    ap (option_map (λ pair. record { pair = pair; ssrc = first_source (source_parameters source) })) (pair_read a b ha hb differ)
    ∙ ap (λ s. Some (record { pair = record { rtp = a; rtcp = b }; ssrc = s })) (source_found source small)

written_all : (q : ℕ → Bool) (a b : ℕ) (source : Option ℕ) → a ≤ 255 → b ≤ 255 → agree_below is_ascii_hexdigit (λ c. is_ascii_hexdigit c && q c) 128 ≡ true → q ascii.hyphen ≡ true → list_all q (codes "RTP/AVP/TCP;unicast;interleaved=") ≡ true → q ascii.semicolon ≡ true →
    list_all q (codes ";ssrc=") ≡ true → list_all q (codes "RTP/AVP/TCP;unicast;interleaved=" ++ ((decimal a ++ (ascii.hyphen ∷ decimal b)) ++ source_text source)) ≡ true
written_all q a b source ha hb agrees dash front semicolon name =
    list_all-append q (codes "RTP/AVP/TCP;unicast;interleaved=") ((decimal a ++ (ascii.hyphen ∷ decimal b)) ++ source_text source)
    ∙ ap (λ t. t && list_all q ((decimal a ++ (ascii.hyphen ∷ decimal b)) ++ source_text source)) front
    ∙ list_all-append q (decimal a ++ (ascii.hyphen ∷ decimal b)) (source_text source)
    ∙ ap (λ t. t && list_all q (source_text source)) (pair_all q a b ha hb (λ n h. hex_all q (decimal n) agrees (decimal_hex n h)) dash)
    ∙ source_without q source (λ n. list_all-append q (codes ";ssrc=") (source_digits n) ∙ ap (λ t. t && list_all q (source_digits n)) name ∙ hex_all q (source_digits n) agrees (source_hex n))

both_true : (x y : Bool) → x ≡ true → y ≡ false → x && not y ≡ true
both_true x y hx hy = grind arith

-- A written transport reads back as a grant.
written_read : (a b : ℕ) (source : Option ℕ) → a ≤ 255 → b ≤ 255 → a ≢ b → IsSource source →
    grant_of (codes "RTP/AVP/TCP;unicast;interleaved=" ++ ((decimal a ++ (ascii.hyphen ∷ decimal b)) ++ source_text source)) ≡ Ok (record { pair = record { rtp = a; rtcp = b }; ssrc = source })
written_read a b source ha hb differ small =
    let text = codes "RTP/AVP/TCP;unicast;interleaved=" ++ ((decimal a ++ (ascii.hyphen ∷ decimal b)) ++ source_text source) in
    let readable : is_readable text ≡ true =
    both_true (not (length text == 0)) _ (grind arith) (quotes_closed text (written_all (λ c. not (c == ascii.double_quote)) a b source ha hb refl refl refl refl refl)) in
    let sole : unquoted_parts ascii.comma text ≡ text ∷ [] = whole_clean ascii.comma text (written_all (is_clean ascii.comma) a b source ha hb refl refl refl refl refl) in
    ap (λ t. cond (not t) (Err faults.Grammar) (ok_or (grant_among (unquoted_parts ascii.comma text)) faults.NoneFits)) readable
    ∙ ap (λ ps. ok_or (grant_among ps) faults.NoneFits) sole
    ∙ ap (λ ps. ok_or (grant_in ps) faults.NoneFits) (ap (map trimmed) (written_split a b source ha hb) ∙ written_trimmed a b source ha hb)
    ∙ ap (λ g. ok_or g faults.NoneFits) (written_grant a b source ha hb differ small)

-- the same, of a grant
pub grant_read : (grant : Grant) → grant.pair.rtp ≤ 255 → grant.pair.rtcp ≤ 255 → grant.pair.rtp ≢ grant.pair.rtcp → IfSome grant.ssrc (λ n. n < 4294967296) →
    grant_of (grant_text grant) ≡ Ok grant
grant_read grant ha hb differ small = written_read grant.pair.rtp grant.pair.rtcp grant.ssrc ha hb differ small
