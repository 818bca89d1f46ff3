-- What was written reads as it was.
use Rattle.std.proofs.Common.{◌≡◌, ℕ, suc, subst, zero-add, ◌+◌, ◌<◌, ◌≤◌, Bool, true, false, ◌&&◌, ◌==◌, not, nat_le, cond, List, [], ◌∷◌, ◌++◌, length, map, Option, None, Some, Ok, Err, refl, sym, ◌∙◌, ap, append_assoc, arith}
use Rattle.std.specs.Prelude.{codes, decimal, unwrap_or, option_and_then}
use Rattle.std.specs.Option.{ok_or}
use Rattle.std.specs.List.{list_all, flat_map}
use Rattle.std.specs.Char.{is_ascii_digit}
use Rattle.std.specs.Str.Lines.{lines}
use Rattle.std.specs.Str.Parse.{digits_value}
use Rattle.std.proofs.lemmas.Bool.{and_parts, eqb-true}
use Rattle.std.proofs.lemmas.List.{length-append, append-nil}
use Rattle.std.proofs.lemmas.Fmt.{digits_decimal, digits_value-decimal, length-decimal-le, decimal_nonempty}
use Rattle.gate_bytes.specs.Ascii.{space, colon}
use Rattle.gate_bytes.specs.Tokens.{is_token, is_token_byte, trimmed}
use Rattle.gate_bytes.specs.Places.{cut_at}
use Rattle.gate_bytes.specs.Numbers.{number_in}
use Rattle.rtsp_head.specs.declared.header.Header.{Header}
use Rattle.rtsp_head.specs.HeadParts.{Start, Request, Status}
use Rattle.rtsp_head.specs.declared.fault.HeadFault.TheVariants as faults
use Rattle.rtsp_head.specs.Lines.{and_then, result_map, before_empty, head_lines}
use Rattle.rtsp_head.specs.Starts.{is_unspaced, names_protocol, request_with, request_of, code_of, status_with, status_of, start_of}
use Rattle.rtsp_head.specs.Headers.{SoFar, has_room, More, Begins, no_headers, closed, headers_in, goes_on, header_from, header_of, with_further, further_of, with_line, after_lines, headers_of}
use Rattle.rtsp_head.specs.Heads.{head_of_lines, head_within}
use Rattle.rtsp_head.specs.HeadText.{ended, start_text, header_text, head_text, is_line_text, is_part, is_start, is_trimmed, is_value, is_header}
use Rattle.rtsp_head.proofs.DigitLemmas.{own}
use Rattle.rtsp_head.proofs.TrimLemmas.{trimmed_same}
use Rattle.gate_bytes.proofs.SeamLemmas.{cut_at_seam}
use Rattle.rtsp_head.proofs.CutLemmas.{begins_apart, lines_ended, line_text_append, no_control}

-- A code of three digits is written and read.
code_read : (code : ℕ) → 100 ≤ code → code ≤ 999 → code_of (decimal code) ≡ Some code
code_read code low high =
    let digits : list_all is_ascii_digit (decimal code) ≡ true = digits_decimal own code (omega arith) in
    let value : digits_value 10 (decimal code) ≡ code = digits_value-decimal own code (omega arith) in
    let short : length (decimal code) ≤ 3 = length-decimal-le 3 code (omega arith) (omega arith) (omega arith) in
    let some : 0 < length (decimal code) = decimal_nonempty code (omega arith) in
    let number : number_in 3 (decimal code) ≡ Some code = grind arith in
    ap (option_and_then (λ n. cond (nat_le 100 n) (Some n) None)) number ∙ grind arith

digits_unspaced : (text : List ℕ) → list_all is_ascii_digit text ≡ true → is_unspaced text ≡ true
digits_unspaced [] h = refl
digits_unspaced (b ∷ text) h =
    let parts = and_parts (is_ascii_digit b) (list_all is_ascii_digit text) h in
    let rest : is_unspaced text ≡ true = digits_unspaced text parts.1 in
    grind arith

pub digits_line : (text : List ℕ) → list_all is_ascii_digit text ≡ true → is_line_text text ≡ true
digits_line [] h = refl
digits_line (b ∷ text) h =
    let parts = and_parts (is_ascii_digit b) (list_all is_ascii_digit text) h in
    let rest : is_line_text text ≡ true = digits_line text parts.1 in
    grind arith

token_line : (text : List ℕ) → list_all is_token_byte text ≡ true → is_line_text text ≡ true
token_line [] h = refl
token_line (b ∷ text) h =
    let parts = and_parts (is_token_byte b) (list_all is_token_byte text) h in
    let rest : is_line_text text ≡ true = token_line text parts.1 in
    grind arith

token_uncut : (text : List ℕ) → list_all is_token_byte text ≡ true → list_all (λ b. not (b == colon)) text ≡ true
token_uncut [] h = refl
token_uncut (b ∷ text) h =
    let parts = and_parts (is_token_byte b) (list_all is_token_byte text) h in
    let rest : list_all (λ b. not (b == colon)) text ≡ true = token_uncut text parts.1 in
    grind arith

token_begins : (text more : List ℕ) → is_token text ≡ true → goes_on (text ++ more) ≡ false
token_begins [] more h = absurd (grind arith)
token_begins (b ∷ text) more h = grind arith

line_kept : (line : List ℕ) (more : List (List ℕ)) → 0 < length line → before_empty (line ∷ more) ≡ line ∷ before_empty more
line_kept [] more h = absurd (omega arith)
line_kept (b ∷ line) more h = refl

was_false : (b : Bool) → not b ≡ true → b ≡ false
was_false true h = cc
was_false false h = refl

-- A first line without control bytes is a status line or a request line.
start_by : (line : List ℕ) (names : Bool) (start : Start) → is_line_text line ≡ true → names_protocol line ≡ names →
    cond names (status_of line) (request_of line) ≡ Some start → start_of line ≡ Ok start
start_by line names start text begins reads =
    ap (λ t. cond t (Err faults.Control) (ok_or (cond (names_protocol line) (status_of line) (request_of line)) faults.Start)) (no_control line text)
    ∙ ap (λ t. ok_or (cond t (status_of line) (request_of line)) faults.Start) begins ∙ ap (λ s. ok_or s faults.Start) reads

-- A first line that can be read fits into one line.
request_fits : (method uri version : List ℕ) → is_start (Request method uri version) ≡ true → is_line_text (start_text (Request method uri version)) ≡ true
request_fits method uri version h =
    let all = and_parts (((is_part method && not (names_protocol method)) && is_part uri) && (is_part version && names_protocol version)) ((is_line_text method && is_line_text uri) && is_line_text version) h in
    let texts = and_parts (is_line_text method && is_line_text uri) (is_line_text version) all.1 in
    let text = and_parts (is_line_text method) (is_line_text uri) texts.0 in
    line_text_append method (space ∷ (uri ++ (space ∷ version))) text.0 (line_text_append uri (space ∷ version) text.1 texts.1)

code_range : (code : ℕ) → nat_le 100 code && nat_le code 999 ≡ true → (100 ≤ code) × (code ≤ 999)
code_range code h =
    let range = and_parts (nat_le 100 code) (nat_le code 999) h in
    (grind arith, grind arith)

status_fits : (version : List ℕ) (code : ℕ) (reason : List ℕ) → is_start (Status version code reason) ≡ true → is_line_text (start_text (Status version code reason)) ≡ true
status_fits version code reason h =
    let all = and_parts ((is_part version && names_protocol version) && (nat_le 100 code && nat_le code 999)) (is_line_text version && is_line_text reason) h in
    let text = and_parts (is_line_text version) (is_line_text reason) all.1 in
    let parts = and_parts (is_part version && names_protocol version) (nat_le 100 code && nat_le code 999) all.0 in
    let range = code_range code parts.1 in
    let digits : list_all is_ascii_digit (decimal code) ≡ true = digits_decimal own code (omega arith) in
    line_text_append version (space ∷ (decimal code ++ (space ∷ reason))) text.0 (line_text_append (decimal code) (space ∷ reason) (digits_line (decimal code) digits) text.1)

pub start_fits : (start : Start) → is_start start ≡ true → is_line_text (start_text start) ≡ true
start_fits (Request method uri version) h = request_fits method uri version h
start_fits (Status version code reason) h = status_fits version code reason h

four_true : (a b c d : Bool) → a ≡ true → b ≡ true → c ≡ true → d ≡ true → (a && b) && (c && d) ≡ true
four_true a b c d ha hb hc hd = grind arith

-- A request line is written and read.
request_read : (method uri version : List ℕ) → is_start (Request method uri version) ≡ true → start_of (start_text (Request method uri version)) ≡ Ok (Request method uri version)
request_read method uri version h =
    let rest = uri ++ (space ∷ version) in
    let all = and_parts (((is_part method && not (names_protocol method)) && is_part uri) && (is_part version && names_protocol version)) ((is_line_text method && is_line_text uri) && is_line_text version) h in
    let parts = and_parts ((is_part method && not (names_protocol method)) && is_part uri) (is_part version && names_protocol version) all.0 in
    let front = and_parts (is_part method && not (names_protocol method)) (is_part uri) parts.0 in
    let first = and_parts (is_part method) (not (names_protocol method)) front.0 in
    let method_part = and_parts (not (length method == 0)) (is_unspaced method) first.0 in
    let uri_part = and_parts (not (length uri == 0)) (is_unspaced uri) front.1 in
    let begins : names_protocol (method ++ (space ∷ rest)) ≡ false = begins_apart (codes "RTSP/") method rest space refl ∙ was_false (names_protocol method) first.1 in
    let last = and_parts (is_part version) (names_protocol version) parts.1 in
    let version_part = and_parts (not (length version == 0)) (is_unspaced version) last.0 in
    let test : (not (length method == 0) && not (length uri == 0)) && (is_unspaced version && names_protocol version) ≡ true = four_true _ _ _ _ method_part.0 uri_part.0 version_part.1 last.1 in
    let reads : request_of (method ++ (space ∷ rest)) ≡ Some (Request method uri version) =
    ap (option_and_then (λ (first : List ℕ × List ℕ). option_and_then (λ (second : List ℕ × List ℕ). request_with first.0 second.0 second.1) (cut_at space first.1))) (cut_at_seam space method rest method_part.1)
    ∙ ap (option_and_then (λ (second : List ℕ × List ℕ). request_with method second.0 second.1)) (cut_at_seam space uri version uri_part.1)
    ∙ ap (λ t. cond t (Some (Request method uri version)) None) test in
    start_by (method ++ (space ∷ rest)) false (Request method uri version) (request_fits method uri version h) begins reads

-- A status line is written and read.
status_read : (version : List ℕ) (code : ℕ) (reason : List ℕ) → is_start (Status version code reason) ≡ true → start_of (start_text (Status version code reason)) ≡ Ok (Status version code reason)
status_read version code reason h =
    let rest = decimal code ++ (space ∷ reason) in
    let all = and_parts ((is_part version && names_protocol version) && (nat_le 100 code && nat_le code 999)) (is_line_text version && is_line_text reason) h in
    let parts = and_parts (is_part version && names_protocol version) (nat_le 100 code && nat_le code 999) all.0 in
    let first = and_parts (is_part version) (names_protocol version) parts.0 in
    let version_part = and_parts (not (length version == 0)) (is_unspaced version) first.0 in
    let range = code_range code parts.1 in
    let digits : list_all is_ascii_digit (decimal code) ≡ true = digits_decimal own code (omega arith) in
    let begins : names_protocol (version ++ (space ∷ rest)) ≡ true = begins_apart (codes "RTSP/") version rest space refl ∙ first.1 in
    let reads : status_of (version ++ (space ∷ rest)) ≡ Some (Status version code reason) =
    ap (option_and_then (λ (first : List ℕ × List ℕ). status_with first.0 (unwrap_or (cut_at space first.1) (first.1, [])))) (cut_at_seam space version rest version_part.1)
    ∙ ap (λ (cut : Option (List ℕ × List ℕ)). status_with version (unwrap_or cut (rest, []))) (cut_at_seam space (decimal code) reason (digits_unspaced (decimal code) digits))
    ∙ ap (option_and_then (λ n. Some (Status version n reason))) (code_read code range.0 range.1) in
    start_by (version ++ (space ∷ rest)) true (Status version code reason) (status_fits version code reason h) begins reads

start_read : (start : Start) → is_start start ≡ true → start_of (start_text start) ≡ Ok start
start_read (Request method uri version) h = request_read method uri version h
start_read (Status version code reason) h = status_read version code reason h

-- what is known of a header that can be written
pub record Sound (header : Header) : Type 0 where
  pub tokens : list_all is_token_byte header.name ≡ true
  pub token : is_token header.name ≡ true
  pub trimmed : trimmed header.value ≡ header.value
  pub text : is_line_text header.value ≡ true

pub sound : (header : Header) → is_header header ≡ true → Sound header
sound header h =
    let all = and_parts (is_token header.name) (is_value header.value) h in
    let value = and_parts (is_trimmed header.value) (is_line_text header.value) all.1 in
    let name = and_parts (not (length header.name == 0)) (list_all is_token_byte header.name) all.0 in
    let same : length (trimmed header.value) ≡ length header.value = eqb-true _ _ value.0 in
    record { tokens = name.1; token = all.0; trimmed = trimmed_same header.value same; text = value.1 }

pub header_fits : (header : Header) → Sound header → is_line_text (header_text header) ≡ true
header_fits header s = line_text_append header.name (colon ∷ space ∷ header.value) (token_line header.name s.tokens) s.text

pub header_long : (header : Header) → 0 < length (header_text header)
header_long header = omega (arith, length-append header.name (colon ∷ space ∷ header.value))

-- A header's line is written and read.
header_read : (header : Header) → Sound header → further_of (header_text header) ≡ Ok (Begins header)
header_read header s =
    let line = header_text header in
    let value : trimmed (space ∷ header.value) ≡ header.value = s.trimmed in
    let named : header_of line ≡ Ok header =
    ap header_from (cut_at_seam colon header.name (space ∷ header.value) (token_uncut header.name s.tokens))
    ∙ ap (λ t. cond t (Ok (record { name = header.name; value = trimmed (space ∷ header.value) })) (Err faults.Name)) s.token
    ∙ ap (λ v. Ok (record { name = header.name; value = v })) value in
    ap (λ t. cond t (Err faults.Control) (cond (goes_on line) (Ok (More (trimmed line))) (result_map Begins (header_of line)))) (no_control line (header_fits header s))
    ∙ ap (λ t. cond t (Ok (More (trimmed line))) (result_map Begins (header_of line))) (token_begins header.name (colon ∷ space ∷ header.value) s.token)
    ∙ ap (result_map Begins) named

-- The lines of headers give these headers after those so far.
-- a limit on the number of headers, where there is one, leaves room for so many
abbrev pub IsWithin : Option ℕ → ℕ → Type 0
IsWithin None count = Unit {0}
IsWithin (Some most) count = count ≤ most

has_room_more : (limit : Option ℕ) (count more : ℕ) → IsWithin limit (count + suc more) → has_room limit count ≡ true
has_room_more None count more few = refl
has_room_more (Some most) count more few = let below : count < most = omega arith in grind arith

within_same : (limit : Option ℕ) (m n : ℕ) → m ≡ n → IsWithin limit m → IsWithin limit n
within_same limit m n same few = subst (IsWithin limit) same few

headers_read : (limit : Option ℕ) (headers : List Header) (so_far : SoFar) → list_all is_header headers ≡ true → IsWithin limit (length (headers_in so_far) + length headers) →
    result_map headers_in (after_lines limit so_far (map header_text headers)) ≡ Ok (headers_in so_far ++ headers)
headers_read limit [] so_far h few = ap Ok (sym (append-nil (headers_in so_far)))
headers_read limit (header ∷ headers) so_far h few =
    let parts = and_parts (is_header header) (list_all is_header headers) h in
    let s = sound header parts.0 in
    let next : SoFar = record { above = headers_in so_far; last = Some header } in
    let room : has_room limit (length (headers_in so_far)) ≡ true = has_room_more limit (length (headers_in so_far)) (length headers) few in
    let one : with_line limit so_far (header_text header) ≡ Ok next =
    ap (and_then (with_further limit so_far)) (header_read header s) ∙ ap (λ t. cond t (Ok next) (Err faults.Many)) room in
    let closed_same : headers_in next ≡ headers_in so_far ++ (header ∷ []) =
    ap (λ v. headers_in so_far ++ (record { name = header.name; value = v } ∷ [])) s.trimmed in
    let count : length (headers_in so_far) + suc (length headers) ≡ length (headers_in next) + length headers =
    omega (arith, length-append (headers_in so_far) (closed (Some header))) in
    ap (λ r. result_map headers_in (and_then (λ n. after_lines limit n (map header_text headers)) r)) one
    ∙ headers_read limit headers next parts.1 (within_same limit _ _ count few)
    ∙ ap (λ hs. Ok (hs ++ headers)) closed_same
    ∙ ap Ok (append_assoc (headers_in so_far) (header ∷ []) headers)

-- The lines of the headers' text.
header_lines : (headers : List Header) → list_all is_header headers ≡ true →
    before_empty (lines (flat_map (λ header. ended (header_text header)) headers ++ ended [])) ≡ map header_text headers
header_lines [] h = refl
header_lines (header ∷ headers) h =
    let parts = and_parts (is_header header) (list_all is_header headers) h in
    let s = sound header parts.0 in
    let rest = flat_map (λ header. ended (header_text header)) headers in
    ap (λ t. before_empty (lines t)) (append_assoc (ended (header_text header)) rest (ended []))
    ∙ ap before_empty (lines_ended (header_text header) (rest ++ ended []) (header_fits header s))
    ∙ line_kept (header_text header) (lines (rest ++ ended [])) (header_long header)
    ∙ ap (λ ls. header_text header ∷ ls) (header_lines headers parts.1)

pub start_long : (start : Start) → 0 < length (start_text start)
start_long (Request method uri version) = omega (arith, length-append method (space ∷ (uri ++ (space ∷ version))))
start_long (Status version code reason) = omega (arith, length-append version (space ∷ (decimal code ++ (space ∷ reason))))

-- A head that was written reads as it was.
pub head_read : (limit : Option ℕ) (start : Start) (headers : List Header) → is_start start ≡ true → IsWithin limit (length headers) → list_all is_header headers ≡ true →
    head_within limit (head_text start headers) ≡ Ok (record { start = start; headers = headers })
head_read limit start headers first few fields =
    let rest = flat_map (λ header. ended (header_text header)) headers in
    let cut : head_lines (head_text start headers) ≡ start_text start ∷ map header_text headers =
    ap (λ t. before_empty (lines t)) (append_assoc (ended (start_text start)) rest (ended []))
    ∙ ap before_empty (lines_ended (start_text start) (rest ++ ended []) (start_fits start first))
    ∙ line_kept (start_text start) (lines (rest ++ ended [])) (start_long start)
    ∙ ap (λ ls. start_text start ∷ ls) (header_lines headers fields) in
    ap (head_of_lines limit) cut
    ∙ ap (and_then (λ s. result_map (λ hs. record { start = s; headers = hs }) (headers_of limit (map header_text headers)))) (start_read start first)
    ∙ ap (result_map (λ hs. record { start = start; headers = hs })) (headers_read limit headers no_headers fields (within_same limit _ _ (sym (zero-add (length headers))) few))
