-- An answer to the server is short.
use Rattle.std.proofs.Common.{◌≡◌, ℕ, ◌+◌, ◌<◌, ◌≤◌, ◌^◌, ◌==◌, ◌&&◌, not, Bool, true, false, cond, List, [], ◌∷◌, ◌++◌, length, Option, Some, None, IfSome, refl, length-append, arith}
use Rattle.std.specs.Prelude.{decimal, unwrap_or, nat_le}
use Rattle.std.specs.Borrow.{Bor}
use Rattle.std.specs.Option.{option_copied}
use Rattle.std.specs.List.{list_all, flat_map}
use Rattle.std.proofs.lemmas.Bool.{and_parts, leb-true}
use Rattle.std.proofs.lemmas.Fmt.{length-decimal-le}
use Rattle.gate_bytes.specs.Ascii.{cr, lf, colon, space}
use Rattle.rtsp_head.specs.declared.header.Header.{Header}
use Rattle.rtsp_head.specs.HeadParts.{Start, Status}
use Rattle.rtsp_head.specs.HeadText.{ended, start_text, header_text, head_text}
use Rattle.rtsp_head.specs.Messages.{number_headers, length_headers}
use Rattle.rtsp_small.specs.declared.session.TheConstants.{LONGEST_SESSION_ID}
use Rattle.rtsp_small.specs.Sessions.{is_session_byte, is_session_id}
use Rattle.rtsp_status.specs.Reasons.{is_reason_byte, reason_of}
use Rattle.rtsp_status.specs.declared.text.TheConstants.{LONGEST_REASON}
use Rattle.rtsp_status.proofs.ReasonLemmas.{reason_fits}
use Rattle.head_two.specs.Messages.{version_two}
use Rattle.head_two.specs.Answers.{answer_session, answer_text}

-- an id that is lent
pub lent_valid : (id : Option (Bor (List ℕ))) → IfSome id (λ one. is_session_id one.now ≡ true) → IfSome (option_copied id) (λ one. is_session_id one ≡ true)
lent_valid None valid = tt
lent_valid (Some id) valid = valid

-- the bytes of headers' lines
abbrev lines_length : List Header → ℕ
lines_length [] = 0
lines_length (header ∷ headers) = length header.name + length header.value + 4 + lines_length headers

lines_have : (headers : List Header) → length (flat_map (λ header. ended (header_text header)) headers) ≡ lines_length headers
lines_have [] = refl
lines_have (header ∷ headers) = omega (
  arith,
  lines_have headers,
  length-append (ended (header_text header)) (flat_map (λ one. ended (header_text one)) headers),
  length-append (header_text header) (cr ∷ lf ∷ []),
  length-append header.name (colon ∷ space ∷ header.value),
)

head_has : (start : Start) (headers : List Header) → length (head_text start headers) ≡ length (start_text start) + lines_length headers + 4
head_has start headers =
    let lines = flat_map (λ header. ended (header_text header)) headers in
    omega (
      arith,
      lines_have headers,
      length-append (ended (start_text start)) (lines ++ ended []),
      length-append lines (ended []),
      length-append (ended (start_text start) ++ lines) (ended []),
      length-append (ended (start_text start)) lines,
      length-append (start_text start) (cr ∷ lf ∷ []),
    )

-- the reason of a code is short
reason_short : (code : ℕ) → length (unwrap_or (reason_of code) []) ≤ LONGEST_REASON
reason_short code = by (reason_of code) refl
  where
    by : (reason : Option (List ℕ)) → reason_of code ≡ reason → length (unwrap_or reason []) ≤ LONGEST_REASON
    by None is = omega arith
    by (Some text) is =
        let fits = and_parts (nat_le 100 code && nat_le code 999) (nat_le (length text) LONGEST_REASON && list_all is_reason_byte text) (reason_fits code text is) in
        leb-true (length text) LONGEST_REASON (and_parts (nat_le (length text) LONGEST_REASON) (list_all is_reason_byte text) fits.1).0

id_short : (id : List ℕ) → is_session_id id ≡ true → length id ≤ LONGEST_SESSION_ID
id_short id valid =
    let parts = and_parts (not (length id == 0) && nat_le (length id) LONGEST_SESSION_ID) (list_all is_session_byte id) valid in
    leb-true (length id) LONGEST_SESSION_ID (and_parts (not (length id == 0)) (nat_le (length id) LONGEST_SESSION_ID) parts.0).1

start_short : (code : ℕ) → code < 2 ^ 16 → length (start_text (Status version_two code (unwrap_or (reason_of code) []))) ≤ 55
start_short code small =
    let reason = unwrap_or (reason_of code) [] in
    omega (
      arith,
      reason_short code,
      length-decimal-le 5 code (omega arith) (omega (arith, small)) (omega (arith, small)),
      length-append version_two (space ∷ (decimal code ++ (space ∷ reason))),
      length-append (decimal code) (space ∷ reason),
    )

headers_short : (cseq : ℕ) (given : Bool) (session : Option (List ℕ)) → length (decimal cseq) ≤ 10 → IfSome session (λ id. is_session_id id ≡ true)
    → lines_length (number_headers (Some cseq) ++ cond given (answer_session session) [] ++ length_headers []) ≤ LONGEST_SESSION_ID + 29
headers_short cseq false session digits valid = omega (arith, digits)
headers_short cseq true None digits valid = omega (arith, digits)
headers_short cseq true (Some id) digits valid = omega (arith, digits, id_short id valid)

whole_short : (start : Start) (headers : List Header) → length (start_text start) ≤ 55 → lines_length headers ≤ LONGEST_SESSION_ID + 29 → length (head_text start headers ++ []) < 2 ^ 31
whole_short start headers first lines = omega (arith, head_has start headers, length-append (head_text start headers) [], first, lines)

pub answer_short : (code cseq : ℕ) (session : Option (List ℕ)) → code < 2 ^ 16 → cseq < 2 ^ 32 → IfSome session (λ id. is_session_id id ≡ true) → length (answer_text code cseq session) < 2 ^ 31
answer_short code cseq session small low valid =
    whole_short (Status version_two code (unwrap_or (reason_of code) [])) (number_headers (Some cseq) ++ cond (code == 200) (answer_session session) [] ++ length_headers []) (start_short code small)
    (headers_short cseq (code == 200) session (length-decimal-le 10 cseq (omega arith) (omega (arith, low)) (omega (arith, low))) valid)
