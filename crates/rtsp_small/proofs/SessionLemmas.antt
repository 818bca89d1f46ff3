-- Sessions: the parameters one after another, and reading what was written.
use Rattle.std.proofs.Common.{◌≡◌, ℕ, suc, ◌+◌, ◌^◌, ◌<◌, ◌≤◌, Bool, true, false, not, ◌==◌, ◌&&◌, nat_le, cond, List, [], ◌∷◌, ◌++◌, length, take, drop, get_or, take_all, Option, None, Some, refl, sym, ◌∙◌, ap, rules, arith}
use Rattle.std.specs.Prelude.{codes, decimal, is_some, IfSome}
use Rattle.std.specs.Option.{option_or}
use Rattle.std.specs.List.{list_all, position, position_or_len, onto_first}
use Rattle.std.specs.Char.{is_ascii_digit}
use Rattle.std.specs.Str.Parse.{digits_value}
use Rattle.std.proofs.lemmas.Bool.{and_parts}
use Rattle.std.proofs.lemmas.List.{append-nil}
use Rattle.std.proofs.lemmas.List.Quantifiers.{position-Some}
use Rattle.std.proofs.lemmas.List.Sums.{split_at_first}
use Rattle.std.proofs.lemmas.Fmt.{digits_decimal, digits_value-decimal, length-decimal-le, decimal_nonempty}
use Rattle.std.proofs.lemmas.Str.Parse.{IsNumeralModel, numerals_by_value}
use Rattle.gate_bytes.specs.Ascii.{semicolon}
use Rattle.gate_bytes.specs.Tokens.{is_blank, without_end, trimmed}
use Rattle.gate_bytes.specs.Places.{cut_at}
use Rattle.gate_bytes.specs.Numbers.{number_in}
use Rattle.gate_bytes.specs.Places.{parts_at}
use Rattle.gate_bytes.proofs.PartLemmas.{parts_by_cut}
use Rattle.gate_bytes.proofs.SeamLemmas.{lacks, digits_lack, parts_nowhere, parts_at_seam}
use Rattle.rtsp_small.specs.declared.session.TheConstants.{LONGEST_SESSION_ID, TIMEOUT_DIGITS}
use Rattle.rtsp_small.specs.Sessions.{SessionParts, is_session_byte, is_session_id, timeout_in, first_timeout, session_with, session_in, session_of, timeout_text, session_text}

own : IsNumeralModel (λ ds. list_all is_ascii_digit ds ≡ true) (digits_value 10)
own = numerals_by_value _ (search rules)

or_found : (found later : Option ℕ) → is_some found ≡ true → found ≡ option_or found later
or_found None later h = cc
or_found (Some n) later h = refl

or_later : (found later : Option ℕ) → is_some found ≡ false → later ≡ option_or found later
or_later None later h = refl
or_later (Some n) later h = cc

or_none : (found : Option ℕ) → found ≡ option_or found None
or_none None = refl
or_none (Some n) = refl

-- the timeout, once the first parameter stands apart
timeout_apart : (rest parameter more : List ℕ) → ◌≡◌ {A = Option (List ℕ × List ℕ)} (Some (parameter, more)) (cut_at semicolon rest) →
    first_timeout (parts_at semicolon rest) ≡ option_or (timeout_in (trimmed parameter)) (first_timeout (parts_at semicolon more))
timeout_apart rest parameter more h = ap first_timeout (parts_by_cut semicolon rest (Some (parameter, more)) h)

-- the first parameter has a timeout
pub timeout_found : (rest parameter more : List ℕ) (timeout : Option ℕ) → ◌≡◌ {A = Option (List ℕ × List ℕ)} (Some (parameter, more)) (cut_at semicolon rest) →
    timeout ≡ timeout_in (trimmed parameter) → is_some timeout ≡ true → timeout ≡ first_timeout (parts_at semicolon rest)
timeout_found rest parameter more timeout h says found =
    or_found timeout (first_timeout (parts_at semicolon more)) found ∙ ap (λ t. option_or t (first_timeout (parts_at semicolon more))) says ∙ sym (timeout_apart rest parameter more h)

-- the first parameter has none
pub timeout_later : (rest parameter more : List ℕ) (timeout : Option ℕ) → ◌≡◌ {A = Option (List ℕ × List ℕ)} (Some (parameter, more)) (cut_at semicolon rest) →
    timeout ≡ timeout_in (trimmed parameter) → is_some timeout ≡ false → first_timeout (parts_at semicolon more) ≡ first_timeout (parts_at semicolon rest)
timeout_later rest parameter more timeout h says none =
    or_later timeout (first_timeout (parts_at semicolon more)) none ∙ ap (λ t. option_or t (first_timeout (parts_at semicolon more))) says ∙ sym (timeout_apart rest parameter more h)

-- the last parameter
pub timeout_last : (rest : List ℕ) (timeout : Option ℕ) → ◌≡◌ {A = Option (List ℕ × List ℕ)} None (cut_at semicolon rest) →
    timeout ≡ timeout_in (trimmed rest) → timeout ≡ first_timeout (parts_at semicolon rest)
timeout_last rest timeout h says = says ∙ or_none (timeout_in (trimmed rest)) ∙ sym (ap first_timeout (parts_by_cut semicolon rest None h))

-- a session id has no semicolon
id_uncut : (id : List ℕ) → list_all is_session_byte id ≡ true → lacks semicolon id ≡ true
id_uncut [] h = refl
id_uncut (b ∷ id) h =
    let parts = and_parts (is_session_byte b) (list_all is_session_byte id) h in
    let rest : lacks semicolon id ≡ true = id_uncut id parts.1 in
    grind arith

-- a byte that no id has
abbrev other : ℕ → Bool
other b = not (is_session_byte b)

-- up to its first other byte a text has bytes of an id alone
front_step : (b n : ℕ) (text : List ℕ) (of_id : Bool) → is_session_byte b ≡ of_id → list_all is_session_byte (take n text) ≡ true → list_all is_session_byte (take (cond (not (not of_id)) (1 + n) 0) (b ∷ text)) ≡ true
front_step b n text true is rest = let next : 1 + n ≡ suc n = omega arith in rw next (ap (λ t. t && list_all is_session_byte (take n text)) is ∙ rest)
front_step b n text false is rest = refl

front_by : (text : List ℕ) → list_all is_session_byte (take (position_or_len other text) text) ≡ true
front_by [] = refl
front_by (b ∷ text) = front_step b (position_or_len other text) text (is_session_byte b) refl (front_by text)

place_by : (text : List ℕ) (at : ℕ) → position other text ≡ Some at → position_or_len other text ≡ at
place_by text at h = grind (arith, h)

pub id_front : (text : List ℕ) (at : ℕ) → position other text ≡ Some at → list_all is_session_byte (take at text) ≡ true
id_front text at h = rw (← place_by text at h) (front_by text)

pub id_alone : (text : List ℕ) → position other text ≡ None → list_all is_session_byte text ≡ true
id_alone text h =
    let end : length text ≤ position_or_len other text = grind (arith, h) in
    ap (list_all is_session_byte) (sym (take_all (position_or_len other text) text end)) ∙ front_by text

-- a text is its front, that byte and the rest
split_by : (text : List ℕ) (at d : ℕ) → position other text ≡ Some at → text ≡ take at text ++ (get_or text at d ∷ drop (at + 1) text)
split_by text at d h =
    let place : position_or_len other text ≡ at = place_by text at h in
    let within = (position-Some other text at d h).0 in
    let parts = split_at_first other text d (rw place within) in
    rw place at parts

-- a session without parameters
pub session_whole : (value : List ℕ) → list_all is_session_byte value ≡ true → session_with value None ≡ session_of value
session_whole value h = sym (ap session_in (parts_nowhere semicolon value (id_uncut value h)))

-- a session with parameters
pub session_cut : (value : List ℕ) (at d : ℕ) → position other value ≡ Some at → get_or value at d ≡ semicolon →
    session_with (take at value) (first_timeout (parts_at semicolon (drop (at + 1) value))) ≡ session_of value
session_cut value at d h is =
    sym (ap session_in (parts_at_seam semicolon (take at value) (drop (at + 1) value) (id_uncut (take at value) (id_front value at h))))
    ∙ ap (λ b. session_of (take at value ++ (b ∷ drop (at + 1) value))) (sym is) ∙ ap session_of (sym (split_by value at d h))

-- no session, since the first part has a byte that no id has
abbrev is_first_id : List (List ℕ) → Bool
is_first_id [] = true
is_first_id (id ∷ parameters) = list_all is_session_byte id

onto_by : (b : ℕ) (parts : List (List ℕ)) → (is_session_byte b && is_first_id parts) ≡ false → is_first_id (onto_first b parts) ≡ false
onto_by b [] e = grind (arith, e)
onto_by b (part ∷ parts) e = e

first_refused : (id : List ℕ) (b : ℕ) (more : List ℕ) → list_all is_session_byte id ≡ true → is_session_byte b ≡ false → (b == semicolon) ≡ false → is_first_id (parts_at semicolon (id ++ (b ∷ more))) ≡ false
first_refused [] b more h foreign apart = rw apart (onto_by b (parts_at semicolon more) (ap (λ t. t && is_first_id (parts_at semicolon more)) foreign))
first_refused (c ∷ id) b more h foreign apart =
    let parts = and_parts (is_session_byte c) (list_all is_session_byte id) h in
    let rest : is_first_id (parts_at semicolon (id ++ (b ∷ more))) ≡ false = first_refused id b more parts.1 foreign apart in
    let whole : (c == semicolon) ≡ false = grind (arith, parts) in
    rw whole (onto_by c (parts_at semicolon (id ++ (b ∷ more))) (grind (arith, rest)))

refused_by : (parts : List (List ℕ)) → is_first_id parts ≡ false → session_in parts ≡ None
refused_by [] e = cc
refused_by (id ∷ parameters) e = grind (arith, e)

pub session_refused : (value : List ℕ) (at d : ℕ) → position other value ≡ Some at → (get_or value at d == semicolon) ≡ false → session_of value ≡ None
session_refused value at d h apart =
    let foreign : is_session_byte (get_or value at d) ≡ false = let is = (position-Some other value at d h).1 in grind (arith, is) in
    ap session_of (split_by value at d h) ∙ refused_by (parts_at semicolon (take at value ++ (get_or value at d ∷ drop (at + 1) value))) (first_refused (take at value) (get_or value at d) (drop (at + 1) value) (id_front value at h) foreign apart)

-- digits have no blank at their end
digits_kept : (text : List ℕ) → list_all is_ascii_digit text ≡ true → without_end text ≡ text
digits_kept [] h = refl
digits_kept (b ∷ text) h =
    let parts = and_parts (is_ascii_digit b) (list_all is_ascii_digit text) h in
    let rest : without_end text ≡ text = digits_kept text parts.1 in
    let solid : is_blank b ≡ false = grind arith in
    grind (arith, solid, rest)

-- a number of no more digits than a timeout may have is written and read
seconds_read : (seconds : ℕ) → seconds < 10 ^ TIMEOUT_DIGITS → number_in TIMEOUT_DIGITS (decimal seconds) ≡ Some seconds
seconds_read seconds small =
    let digits : list_all is_ascii_digit (decimal seconds) ≡ true = digits_decimal own seconds (omega arith) in
    let value : digits_value 10 (decimal seconds) ≡ seconds = digits_value-decimal own seconds (omega arith) in
    let short : length (decimal seconds) ≤ 10 = length-decimal-le 10 seconds (omega arith) (omega arith) (omega arith) in
    let some : 0 < length (decimal seconds) = decimal_nonempty seconds (omega arith) in
    grind arith

timeout_trimmed : (digits : List ℕ) → list_all is_ascii_digit digits ≡ true → trimmed (codes "timeout=" ++ digits) ≡ codes "timeout=" ++ digits
timeout_trimmed digits h = ap (λ (t : List ℕ). codes "timeout=" ++ t) (digits_kept digits h)

timeout_read : (seconds : ℕ) → seconds < 10 ^ TIMEOUT_DIGITS → first_timeout (parts_at semicolon (codes "timeout=" ++ decimal seconds)) ≡ Some seconds
timeout_read seconds small =
    let digits : list_all is_ascii_digit (decimal seconds) ≡ true = digits_decimal own seconds (omega arith) in
    ap first_timeout (parts_nowhere semicolon (codes "timeout=" ++ decimal seconds) (digits_lack semicolon (decimal seconds) refl digits))
    ∙ ap (λ t. option_or (timeout_in t) None) (timeout_trimmed (decimal seconds) digits)
    ∙ ap (λ t. option_or t None) (seconds_read seconds small)

-- an id is a session
id_read : (id : List ℕ) (timeout : Option ℕ) → is_session_id id ≡ true → session_with id timeout ≡ Some (record { id = id; timeout = timeout })
id_read id timeout h = ap (λ t. cond t (Some (record { id = id; timeout = timeout })) None) h

id_bytes : (id : List ℕ) → is_session_id id ≡ true → list_all is_session_byte id ≡ true
id_bytes id h = (and_parts (not (length id == 0) && nat_le (length id) LONGEST_SESSION_ID) (list_all is_session_byte id) h).1

read_by : (id : List ℕ) (timeout : Option ℕ) → is_session_id id ≡ true → IfSome timeout (λ seconds. seconds < 10 ^ TIMEOUT_DIGITS) →
    session_of (id ++ timeout_text timeout) ≡ Some (record { id = id; timeout = timeout })
read_by id None h small =
    ap session_of (append-nil id) ∙ ap session_in (parts_nowhere semicolon id (id_uncut id (id_bytes id h))) ∙ id_read id None h
read_by id (Some seconds) h small =
    ap session_in (parts_at_seam semicolon id (codes "timeout=" ++ decimal seconds) (id_uncut id (id_bytes id h)))
    ∙ ap (session_with id) (timeout_read seconds small) ∙ id_read id (Some seconds) h

-- what was written reads as it was
pub session_read : (session : SessionParts) → is_session_id session.id ≡ true → IfSome session.timeout (λ seconds. seconds < 10 ^ TIMEOUT_DIGITS) → session_of (session_text session) ≡ Some session
session_read session h small = read_by session.id session.timeout h small
