-- What a written message is made of: where its head ends, and which headers it has.
use Rattle.std.proofs.Common.{◌≡◌, ℕ, suc, ◌+◌, ◌-◌, ◌<◌, ◌≤◌, ◌^◌, Bool, true, false, ◌&&◌, ◌==◌, not, cond, List, [], ◌∷◌, ◌++◌, length, Option, None, Some, IfSome, refl, sym, ◌∙◌, ap, append_assoc, arith}
use Rattle.std.specs.Prelude.{codes, decimal}
use Rattle.std.specs.Option.{option_map}
use Rattle.std.specs.List.{list_all, flat_map}
use Rattle.std.specs.Char.{is_ascii_digit}
use Rattle.std.proofs.lemmas.Bool.{and_parts}
use Rattle.std.proofs.lemmas.List.{length-append, append-nil}
use Rattle.std.proofs.lemmas.List.Folds.{list_all-append}
use Rattle.std.proofs.lemmas.Fmt.{digits_decimal}
use Rattle.gate_bytes.specs.Ascii.{nul, lf, cr}
use Rattle.gate_bytes.specs.Tokens.{is_blank, without_front, without_end, trimmed}
use Rattle.rtsp_head.specs.declared.header.Header.{Header}
use Rattle.rtsp_head.specs.HeadParts.{Start}
use Rattle.rtsp_head.specs.Items.{head_from, head_len}
use Rattle.rtsp_head.specs.HeadText.{ended, start_text, header_text, head_text, is_line_text, is_start, is_trimmed, is_value, is_header, CanBeWritten}
use Rattle.rtsp_head.specs.Messages.{number_headers, length_headers, message_headers, is_added, own_fields}
use Rattle.rtsp_head.proofs.DigitLemmas.{own}
use Rattle.rtsp_head.specs.declared.headers.TheConstants.{MOST_HEADERS}
use Rattle.rtsp_head.proofs.WriteLemmas.{digits_line, sound, header_fits, header_long, start_fits, start_long}

-- the place, so many bytes later
abbrev later : ℕ → Option ℕ → Option ℕ
later n o = option_map (λ k. n + k) o

suc_later : (n : ℕ) (o : Option ℕ) → option_map suc (later n o) ≡ later (suc n) o
suc_later n None = refl
suc_later n (Some k) = ap Some (omega arith)

later_twice : (m n : ℕ) (o : Option ℕ) → later m (later n o) ≡ later (m + n) o
later_twice m n None = refl
later_twice m n (Some k) = ap Some (omega arith)

two_later : (o : Option ℕ) → option_map suc (option_map suc o) ≡ later 2 o
two_later None = refl
two_later (Some k) = ap Some (omega arith)

-- What is left of a line, and its end, are passed.
line_left : (line rest : List ℕ) → is_line_text line ≡ true → head_from false (line ++ (cr ∷ lf ∷ rest)) ≡ later (length line + 2) (head_from true rest)
line_left [] rest h = two_later (head_from true rest)
line_left (b ∷ line) rest h =
    let parts = and_parts (not (b == lf) && (not (b == cr) && not (b == nul))) (is_line_text line) h in
    let first = and_parts (not (b == lf)) (not (b == cr) && not (b == nul)) parts.0 in
    let more : head_from false (line ++ (cr ∷ lf ∷ rest)) ≡ later (length line + 2) (head_from true rest) = line_left line rest parts.1 in
    let one : head_from false ((b ∷ line) ++ (cr ∷ lf ∷ rest)) ≡ option_map suc (head_from false (line ++ (cr ∷ lf ∷ rest))) = grind arith in
    let count : suc (length line + 2) ≡ length (b ∷ line) + 2 = omega arith in
    one ∙ ap (option_map suc) more ∙ suc_later (length line + 2) (head_from true rest) ∙ ap (λ n. later n (head_from true rest)) count

-- A line with a byte is passed.
line_passed : (line rest : List ℕ) → is_line_text line ≡ true → 0 < length line → head_from true (ended line ++ rest) ≡ later (length (ended line)) (head_from true rest)
line_passed [] rest h some = absurd (omega arith)
line_passed (b ∷ line) rest h some =
    let parts = and_parts (not (b == lf) && (not (b == cr) && not (b == nul))) (is_line_text line) h in
    let first = and_parts (not (b == lf)) (not (b == cr) && not (b == nul)) parts.0 in
    let joined : ended (b ∷ line) ++ rest ≡ b ∷ (line ++ (cr ∷ lf ∷ rest)) = ap (λ t. b ∷ t) (append_assoc line (cr ∷ lf ∷ []) rest) in
    let one : head_from true (b ∷ (line ++ (cr ∷ lf ∷ rest))) ≡ option_map suc (head_from false (line ++ (cr ∷ lf ∷ rest))) = grind arith in
    let count : suc (length line + 2) ≡ length (ended (b ∷ line)) = omega (arith, length-append (b ∷ line) (cr ∷ lf ∷ [])) in
    ap (head_from true) joined ∙ one ∙ ap (option_map suc) (line_left line rest parts.1) ∙ suc_later (length line + 2) (head_from true rest)
    ∙ ap (λ n. later n (head_from true rest)) count

none_later : (o : Option ℕ) → o ≡ later 0 o
none_later None = refl
none_later (Some k) = ap Some (omega arith)

lines_passed : (headers : List Header) (rest : List ℕ) → list_all is_header headers ≡ true →
    head_from true (flat_map (λ header. ended (header_text header)) headers ++ rest) ≡ later (length (flat_map (λ header. ended (header_text header)) headers)) (head_from true rest)
lines_passed [] rest h = none_later (head_from true rest)
lines_passed (header ∷ headers) rest h =
    let parts = and_parts (is_header header) (list_all is_header headers) h in
    let s = sound header parts.0 in
    let line = ended (header_text header) in
    let lines = flat_map (λ header. ended (header_text header)) headers in
    let count : length line + length lines ≡ length (line ++ lines) = sym (length-append line lines) in
    ap (head_from true) (append_assoc line lines rest)
    ∙ line_passed (header_text header) (lines ++ rest) (header_fits header s) (header_long header)
    ∙ ap (later (length line)) (lines_passed headers rest parts.1)
    ∙ later_twice (length line) (length lines) (head_from true rest)
    ∙ ap (λ n. later n (head_from true rest)) count

-- A head that was written ends with its first empty line, whatever follows.
pub head_ends : (start : Start) (headers : List Header) (body : List ℕ) → is_start start ≡ true → list_all is_header headers ≡ true →
    head_len (head_text start headers ++ body) ≡ Some (length (head_text start headers))
head_ends start headers body first fields =
    let line = ended (start_text start) in
    let lines = flat_map (λ header. ended (header_text header)) headers in
    let joined : head_text start headers ++ body ≡ line ++ (lines ++ (cr ∷ lf ∷ body)) =
    append_assoc (line ++ lines) (cr ∷ lf ∷ []) body ∙ append_assoc line lines (cr ∷ lf ∷ body) in
    let count : length line + (length lines + 2) ≡ length (head_text start headers) =
    omega (arith, length-append (line ++ lines) (ended []), length-append line lines) in
    ap (head_from true) joined
    ∙ line_passed (start_text start) (lines ++ (cr ∷ lf ∷ body)) (start_fits start first) (start_long start)
    ∙ ap (later (length line)) (lines_passed headers (cr ∷ lf ∷ body) fields)
    ∙ ap Some count

-- A body with a byte has its length told.
pub length_told : (body : List ℕ) → (body ≡ [] → ⊥) →
    flat_map (λ header. ended (header_text header)) (length_headers body) ≡ ended (header_text (record { name = codes "Content-Length"; value = decimal (length body) }))
length_told [] some = absurd (some refl)
length_told (b ∷ body) some =
    let header : Header = record { name = codes "Content-Length"; value = decimal (length (b ∷ body)) } in
    let long : (length (b ∷ body) == 0) ≡ false = grind arith in
    ap (λ t. flat_map (λ header. ended (header_text header)) (cond t [] (header ∷ []))) long ∙ append-nil (ended (header_text header))

unblank_end : (text : List ℕ) → list_all is_ascii_digit text ≡ true → without_end text ≡ text
unblank_end [] h = refl
unblank_end (b ∷ text) h =
    let parts = and_parts (is_ascii_digit b) (list_all is_ascii_digit text) h in
    let rest : without_end text ≡ text = unblank_end text parts.1 in
    let first : is_blank b ≡ false = grind arith in
    grind arith

unblank : (text : List ℕ) → list_all is_ascii_digit text ≡ true → trimmed text ≡ text
unblank [] h = refl
unblank (b ∷ text) h =
    let parts = and_parts (is_ascii_digit b) (list_all is_ascii_digit text) h in
    let first : is_blank b ≡ false = grind arith in
    ap (λ t. without_end (cond t (without_front text) (b ∷ text))) first ∙ unblank_end (b ∷ text) h

-- A number is a value that can be written.
decimal_value : (number : ℕ) → number < 2 ^ 64 → is_value (decimal number) ≡ true
decimal_value number high =
    let digits : list_all is_ascii_digit (decimal number) ≡ true = digits_decimal own number high in
    let same : trimmed (decimal number) ≡ decimal number = unblank (decimal number) digits in
    let text : is_line_text (decimal number) ≡ true = digits_line (decimal number) digits in
    let kept : is_trimmed (decimal number) ≡ true = ap (λ t. length t == length (decimal number)) same ∙ grind arith in
    ap (λ t. t && is_line_text (decimal number)) kept ∙ text

number_sound : (number : Option ℕ) → IfSome number (λ n. n < 2 ^ 64) → list_all is_header (number_headers number) ≡ true
number_sound None high = refl
number_sound (Some number) high = ap (λ t. t && true) (decimal_value number high)

length_sound : (empty : Bool) (body : List ℕ) → length body < 2 ^ 64 →
    list_all is_header (cond empty [] (record { name = codes "Content-Length"; value = decimal (length body) } ∷ [])) ≡ true
length_sound true body high = refl
length_sound false body high = ap (λ t. t && true) (decimal_value (length body) high)

number_few : (number : Option ℕ) → length (number_headers number) ≤ 1
number_few None = omega arith
number_few (Some number) = omega arith

length_few : (empty : Bool) (body : List ℕ) →
    length (cond {A = List Header} empty [] (record { name = codes "Content-Length"; value = decimal (length body) } ∷ [])) ≤ 1
length_few true body = omega arith
length_few false body = omega arith

-- Sound headers make a message that can be written.
pub message_sound : (start : Start) (number : Option ℕ) (headers : List Header) (body : List ℕ) → is_start start ≡ true → IfSome number (λ n. n < 2 ^ 64) →
    length body < 2 ^ 64 → length headers ≤ MOST_HEADERS - 2 → list_all is_header headers ≡ true → CanBeWritten start (message_headers number headers body)
message_sound start number headers body first number_high length_high few fields =
    let all = number_headers number ++ headers in
    let front : list_all is_header all ≡ true = list_all-append is_header (number_headers number) headers ∙ ap (λ t. t && list_all is_header headers) (number_sound number number_high) ∙ fields in
    record {
      start = first;
      few = omega (arith, length-append all (length_headers body), length-append (number_headers number) headers, number_few number, length_few (length body == 0) body);
      headers = list_all-append is_header all (length_headers body) ∙ ap (λ t. t && list_all is_header (length_headers body)) front ∙ length_sound (length body == 0) body length_high;
    }

number_added : (number : Option ℕ) (more : List Header) → own_fields (number_headers number ++ more) ≡ own_fields more
number_added None more = refl
number_added (Some number) more = refl

length_added : (empty : Bool) (body : List ℕ) →
    own_fields (cond empty [] (record { name = codes "Content-Length"; value = decimal (length body) } ∷ [])) ≡ []
length_added true body = refl
length_added false body = refl

own_kept : (headers added : List Header) → list_all (λ header. not (is_added header)) headers ≡ true → own_fields added ≡ [] → own_fields (headers ++ added) ≡ headers
own_kept [] added h none = none
own_kept (header ∷ headers) added h none =
    let parts = and_parts (not (is_added header)) (list_all (λ header. not (is_added header)) headers) h in
    ap (λ t. cond t (header ∷ own_fields (headers ++ added)) (own_fields (headers ++ added))) parts.0
    ∙ ap (λ hs. header ∷ hs) (own_kept headers added parts.1 none)

-- A message's own fields are those that were given.
pub fields_read : (number : Option ℕ) (headers : List Header) (body : List ℕ) → list_all (λ header. not (is_added header)) headers ≡ true →
    own_fields (message_headers number headers body) ≡ headers
fields_read number headers body h =
    ap own_fields (append_assoc (number_headers number) headers (length_headers body))
    ∙ number_added number (headers ++ length_headers body) ∙ own_kept headers (length_headers body) h (length_added (length body == 0) body)
