-- The words that are read as they stand: "rtsp://", a name, and a port or none.
use Rattle.std.proofs.Common.{◌≡◌, ◌≢◌, ℕ, ◌+◌, ◌^◌, ◌<◌, ◌≤◌, inl, Bool, true, false, ◌&&◌, ◌||◌, ◌==◌, not, cond, List, [], ◌∷◌, ◌++◌, length, Option, None, Some, Ok, refl, sym, ◌∙◌, ap, append-nil, lit<, arith, rules}
use Rattle.std.specs.Prelude.{nat_le, decimal, codes, IfSome, All}
use Rattle.std.specs.Option.{option_and_then}
use Rattle.std.specs.List.{list_all}
use Rattle.std.specs.Char.{is_ascii_digit}
use Rattle.std.specs.Str.Parse.{digits_value}
use Rattle.std.proofs.lemmas.Bool.{and_from, le-leb, ne_eqb, eq-eqb, both_ways}
use Rattle.std.proofs.lemmas.Fmt.{decimal_nonempty, length-decimal-le, digits_decimal, digits_value-decimal}
use Rattle.std.proofs.lemmas.List.{length-append}
use Rattle.std.proofs.lemmas.List.Elements.{All-nil, All-weaker}
use Rattle.std.proofs.lemmas.List.Sums.{AllPass-from_list_all}
use Rattle.std.proofs.lemmas.Option.{none-some}
use Rattle.std.proofs.lemmas.Str.Parse.{IsNumeralModel, numerals_by_value}
use Rattle.gate_bytes.specs.Ascii.{colon}
use Rattle.url.specs.declared.sets.TheConstants.{FORBIDDEN_HOST, USERINFO}
use Rattle.url.specs.Percent.{IsKept}
use Rattle.url.specs.declared.host.Host.TheVariants.{Domain}
use Rattle.url.specs.Host.{IsOpaqueHost}
use Rattle.url.specs.Input.{is_empty}
use Rattle.url.specs.Scheme.{IsScheme, default_port, scheme_type, scheme_len}
use Rattle.url.specs.Parts.{Parts, IsValid, serialize, cannot_have_credentials_or_port}
use Rattle.url.specs.Parser.{parse_url}
use Rattle.url.specs.Canonical.{IsCanonical}
use Rattle.url.proofs.PathLemmas.{no_segments}
use Rattle.url.proofs.RoundTrip.{ends_visibly}
use Rattle.url.proofs.SetLemmas.{kept_from_passes, All_kept_by_smaller}
use Rattle.url.proofs.Theorems.{parse_url-serialize}
use Rattle.rtsp_uri.specs.Uris.{scheme, is_name_byte, port_of, places_of}
use Rattle.rtsp_uri.specs.Grammar.{SomeOf, IsPort}
use Rattle.rtsp_uri.specs.BaseTexts.{is_base_text, ends_at}
use Rattle.rtsp_uri.specs.Words.{port_text, base_named, base_in}
use Rattle.rtsp_uri.proofs.GrammarLemmas.{spelled_is_cut}

name_below : (b : ℕ) → is_name_byte b ≡ true → b < 128
name_below b h = grind (arith, h)

all_kept : (P : ℕ → Type 0) (name : List ℕ) → SomeOf is_name_byte name → ((b : ℕ) → b < 128 → is_name_byte b ≡ true → P b) → All P name
all_kept P name h each =
    All-weaker (λ b. is_name_byte b ≡ true) P (λ b passes. each b (name_below b passes) passes) name (AllPass-from_list_all is_name_byte name h.1)

-- `url` keeps the bytes of a name as they are
name_kept : (name : List ℕ) → SomeOf is_name_byte name → IsOpaqueHost name
name_kept name h = (
  all_kept (IsKept FORBIDDEN_HOST) name h (kept_from_passes is_name_byte FORBIDDEN_HOST refl),
  All_kept_by_smaller USERINFO _ refl name (all_kept (IsKept USERINFO) name h (kept_from_passes is_name_byte USERINFO refl)),
)

-- the URL of such a word
abbrev pub plain : List ℕ → Option ℕ → Parts
plain name port = record { scheme = codes "rtsp"; username = []; password = []; host = Some (Domain name); port = port; path = []; query = None; fragment = None }

rtsp_scheme : IsScheme (codes "rtsp")
unfolding scheme_len
rtsp_scheme = record { nonempty = lit< tt; whole = refl; lower = refl }

no_default : (n : ℕ) → default_port (codes "rtsp") ≢ Some n
unfolding default_port
no_default n e = none-some n e

some_name : (name : List ℕ) → SomeOf is_name_byte name → is_empty name ≡ false
some_name [] h = absurd (omega (arith, h.0))
some_name (b ∷ name) h = ne_eqb (length (b ∷ name)) 0 (λ e. omega (arith, e))

plain_port : (port : Option ℕ) → IfSome port (λ n. n < 2 ^ 16) → IfSome port (λ n. (n < 2 ^ 16) × (default_port (codes "rtsp") ≢ Some n))
plain_port None h = tt
plain_port (Some n) h = (h, no_default n)

plain_valid : (name : List ℕ) (port : Option ℕ) → SomeOf is_name_byte name → IfSome port (λ n. n < 2 ^ 16) → IsValid (plain name port)
unfolding scheme_type default_port
plain_valid name port h p = record {
  head = record {
    scheme = rtsp_scheme;
    username = All-nil _;
    password = All-nil _;
    host = name_kept name h;
    port = plain_port port p;
    bare = λ e. absurd (both_ways (cannot_have_credentials_or_port (plain name port)) (ap (λ t. not (not t) || false) (some_name name h)) e);
  };
  path = inl (no_segments _, λ e. cc);
  query = tt;
  fragment = tt;
}

plain_canonical : (name : List ℕ) (port : Option ℕ) → IsValid (plain name port) → IsCanonical (plain name port)
unfolding scheme_type default_port
plain_canonical name port valid = (tt, ends_visibly (plain name port) valid (All-nil _), refl)

-- its text
plain_text : (name : List ℕ) (port : Option ℕ) → serialize (plain name port) ≡ scheme ++ (name ++ port_text port)
plain_text name None = refl
plain_text name (Some n) = ap (λ t. scheme ++ (name ++ (colon ∷ t))) (append-nil (decimal n))

plain_read : (name : List ℕ) (port : Option ℕ) → SomeOf is_name_byte name → IfSome port (λ n. n < 2 ^ 16)
    → parse_url None (scheme ++ (name ++ port_text port)) ≡ Ok (plain name port)
plain_read name port h p =
    let valid = plain_valid name port h p in
    ap (parse_url None) (sym (plain_text name port)) ∙ parse_url-serialize (plain name port) None valid (plain_canonical name port valid)

-- ---- the decimal of a port is a port

own : IsNumeralModel (λ ds. list_all is_ascii_digit ds ≡ true) (digits_value 10)
own = numerals_by_value _ (search rules)

chosen_port : (length_is digits : Bool) (text : List ℕ) (n : ℕ) → length_is ≡ true → digits ≡ true → digits_value 10 text ≡ n → n ≤ 65535
    → option_and_then (λ n. cond (nat_le n 65535) (Some n) None) (cond (length_is && digits) (Some (digits_value 10 text)) None) ≡ Some n
chosen_port true true text n l d v small = ap (λ m. cond (nat_le m 65535) (Some m) None) v ∙ ap (λ t. cond t (Some n) None) (le-leb n 65535 small)
chosen_port true false text n l d v small = cc
chosen_port false digits text n l d v small = cc

port_read : (n : ℕ) → n < 2 ^ 16 → port_of (decimal n) ≡ Some n
port_read n h =
    let text = decimal n in
    let some : (length text == 0) ≡ false = ne_eqb (length text) 0 (λ e. omega (arith, e, decimal_nonempty n (omega arith))) in
    let few : nat_le (length text) 5 ≡ true = le-leb (length text) 5 (length-decimal-le 5 n (omega arith) (omega arith) (omega arith)) in
    chosen_port (not (length text == 0) && nat_le (length text) 5) (list_all is_ascii_digit text) text n
    (and_from (not (length text == 0)) (nat_le (length text) 5) (ap not some) few) (digits_decimal own n (omega arith)) (digits_value-decimal own n (omega arith)) (omega arith)

is_port : (port : Option ℕ) → IfSome port (λ n. n < 2 ^ 16) → IsPort (port_text port) port
is_port None h = refl
is_port (Some n) h = (decimal n, refl, port_read n h)

-- ---- so the word names a base

plain_places : (name : List ℕ) (port : Option ℕ) → SomeOf is_name_byte name → IfSome port (λ n. n < 2 ^ 16)
    → places_of (scheme ++ (name ++ port_text port)) ≡ Some (record { host_end = 7 + length name; port = port; rest = 7 + length (name ++ port_text port) })
plain_places name port h p =
    spelled_is_cut (scheme ++ (name ++ port_text port)) (record { host_end = 7 + length name; port = port; rest = 7 + length (name ++ port_text port) }) (record {
      first = scheme;
      host = name;
      port = port_text port;
      rest = [];
      whole = ap (λ t. scheme ++ (name ++ t)) (sym (append-nil (port_text port)));
      is_scheme = refl;
      is_host = inl h;
      is_port = is_port port p;
      is_rest = refl;
      host_end = refl;
      rest_at = ap (λ n. 7 + n) (length-append name (port_text port));
    })

plain_base : (name : List ℕ) (port : Option ℕ) → SomeOf is_name_byte name → IfSome port (λ n. n < 2 ^ 16) → length (name ++ port_text port) ≤ 248
    → is_base_text (name ++ port_text port) ≡ true
plain_base name port h p short =
    let text = name ++ port_text port in
    and_from (nat_le (length text) 248) (ends_at (7 + length text) (places_of (scheme ++ text))) (le-leb (length text) 248 short)
    (ap (ends_at (7 + length text)) (plain_places name port h p) ∙ eq-eqb (7 + length text) (7 + length text) refl)

pub plain_accepted : (name : List ℕ) (port : Option ℕ) → SomeOf is_name_byte name → IfSome port (λ n. n < 2 ^ 16) → length (name ++ port_text port) ≤ 248
    → base_in (scheme ++ (name ++ port_text port)) ≡ Some (name ++ port_text port)
plain_accepted name port h p short =
    let text = name ++ port_text port in
    let word = scheme ++ text in
    let fits : length word ≤ 255 = omega (arith, length-append scheme text, short) in
    ap (λ t. cond t (base_named (parse_url None word)) None) (le-leb (length word) 255 fits)
    ∙ ap base_named (plain_read name port h p)
    ∙ ap (λ t. cond t (Some text) None) (plain_base name port h p short)

pub name_accepted : (name : List ℕ) → SomeOf is_name_byte name → length name ≤ 248 → base_in (scheme ++ name) ≡ Some name
name_accepted name h short =
    let same = append-nil name in
    ap (λ t. base_in (scheme ++ t)) (sym same) ∙ plain_accepted name None h tt (omega (arith, ap length same, short)) ∙ ap (λ t. Some t) same
