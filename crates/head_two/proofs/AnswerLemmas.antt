-- An answer that was written is read back.
use Rattle.std.proofs.Common.{◌≡◌, ℕ, ◌<◌, ◌≤◌, ◌^◌, Bool, true, false, ◌&&◌, ◌==◌, not, nat_le, cond, List, [], ◌∷◌, ◌++◌, length, Option, None, Some, IfSome, refl, ◌∙◌, ap, arith}
use Rattle.std.specs.Prelude.{unwrap_or, is_some}
use Rattle.std.specs.Option.{option_and_then, option_map}
use Rattle.std.specs.List.{list_all}
use Rattle.std.proofs.lemmas.Bool.{and_parts, eqb-true}
use Rattle.rtsp_status.specs.Reasons.{Reason, reasons, reason_in, reason_of, has_reason}
use Rattle.rtsp_head.specs.HeadParts.{Status}
use Rattle.rtsp_head.specs.Messages.{message_headers, messages_of, is_added, IsReadable}
use Rattle.rtsp_head.specs.HeadText.{is_line_text, is_value, is_start, is_header}
use Rattle.rtsp_small.specs.declared.cseq.TheConstants.{CSEQ_TWO_DIGITS}
use Rattle.rtsp_head.proofs.MessageLemmas.{message_sound, fields_read}
use Rattle.rtsp_head.proofs.StreamLemmas.{message_read, messages_read}
use Rattle.head_two.specs.Messages.{version_two, server_cseq}
use Rattle.head_two.specs.Requests.{server_request, request_in}
use Rattle.head_two.specs.Answers.{answer_session, answer_headers, answer_text, answer_message, server_answer, answer_in}
use Rattle.head_two.proofs.ReadLemmas.{number_read}

-- a code and a reason of a status line
abbrev is_told : ℕ → List ℕ → Bool
is_told code text = (nat_le 100 code && nat_le code 999) && is_line_text text

told_row : (same : Bool) (code : ℕ) (row : Reason) (rest : Option (List ℕ)) → code == row.code ≡ same → is_told row.code row.text ≡ true →
    (is_some rest ≡ true → is_told code (unwrap_or rest []) ≡ true) → is_some (cond same (Some row.text) rest) ≡ true →
    is_told code (unwrap_or (cond same (Some row.text) rest) []) ≡ true
told_row true code row rest same sound more h = ap (λ c. is_told c row.text) (eqb-true code row.code same) ∙ sound
told_row false code row rest same sound more h = more h

told_in : (rows : List Reason) (code : ℕ) → list_all (λ row. is_told row.code row.text) rows ≡ true → is_some (reason_in rows code) ≡ true →
    is_told code (unwrap_or (reason_in rows code) []) ≡ true
told_in [] code sound h = absurd (grind arith)
told_in (row ∷ rows) code sound h =
    let parts = and_parts (is_told row.code row.text) (list_all (λ row. is_told row.code row.text) rows) sound in
    told_row (code == row.code) code row (reason_in rows code) refl parts.0 (told_in rows code parts.1) h

-- A code that has a reason stands in a status line with it.
reason_told : (code : ℕ) → has_reason code ≡ true → is_start (Status version_two code (unwrap_or (reason_of code) [])) ≡ true
reason_told code h =
    let told : is_told code (unwrap_or (reason_of code) []) ≡ true = told_in reasons code refl h in
    let parts = and_parts (nat_le 100 code && nat_le code 999) (is_line_text (unwrap_or (reason_of code) [])) told in
    ap (λ t. t && is_line_text (unwrap_or (reason_of code) [])) parts.0 ∙ parts.1

session_sound : (session : Option (List ℕ)) → IfSome session (λ id. is_value id ≡ true) → list_all is_header (answer_session session) ≡ true
session_sound None h = refl
session_sound (Some id) h = ap (λ t. t && true) h

sessions_sound : (success : Bool) (session : Option (List ℕ)) → IfSome session (λ id. is_value id ≡ true) → list_all is_header (cond success (answer_session session) []) ≡ true
sessions_sound true session h = session_sound session h
sessions_sound false session h = refl

sessions_few : (success : Bool) (session : Option (List ℕ)) → length (cond success (answer_session session) []) ≤ 1
sessions_few true None = omega arith
sessions_few true (Some id) = omega arith
sessions_few false session = omega arith

sessions_own : (success : Bool) (session : Option (List ℕ)) → list_all (λ header. not (is_added header)) (cond success (answer_session session) []) ≡ true
sessions_own true None = refl
sessions_own true (Some id) = refl
sessions_own false session = refl

-- the message of an answer says what the answer says
pub answer_told : (code cseq : ℕ) (session : Option (List ℕ)) → cseq < 10 ^ CSEQ_TWO_DIGITS →
    server_answer (answer_message code cseq session) ≡ Some (record { code = code; cseq = cseq; fields = answer_headers code session })
answer_told code cseq session short =
    let fields = answer_headers code session in
    let headers = message_headers (Some cseq) fields [] in
    ap (λ fs. option_map (λ n. record { code = code; cseq = n; fields = fs }) (server_cseq headers)) (fields_read (Some cseq) fields [] (sessions_own (code == 200) session))
    ∙ ap (option_map (λ n. record { code = code; cseq = n; fields = fields })) (number_read cseq fields [] short)

answer_readable : (code cseq : ℕ) (session : Option (List ℕ)) → has_reason code ≡ true → cseq < 10 ^ CSEQ_TWO_DIGITS → IfSome session (λ id. is_value id ≡ true) →
    IsReadable (Status version_two code (unwrap_or (reason_of code) [])) (Some cseq) (answer_headers code session) []
answer_readable code cseq session known short value =
    let first = Status version_two code (unwrap_or (reason_of code) []) in
    let fields = answer_headers code session in
    let few : length fields ≤ 1 = sessions_few (code == 200) session in
    record {
      writable = message_sound first (Some cseq) fields [] (reason_told code known) (omega arith) (omega arith) (omega arith) (sessions_sound (code == 200) session value);
      no_frame = refl;
      own = sessions_own (code == 200) session;
      short = omega arith;
    }

-- An answer that was written is read back.
pub answer_read : (code cseq : ℕ) (session : Option (List ℕ)) → has_reason code ≡ true → cseq < 10 ^ CSEQ_TWO_DIGITS → IfSome session (λ id. is_value id ≡ true) →
    answer_in (answer_text code cseq session) ≡ Some (record { code = code; cseq = cseq; fields = answer_headers code session })
answer_read code cseq session known short value =
    ap (option_and_then server_answer) (message_read (Status version_two code (unwrap_or (reason_of code) [])) (Some cseq) (answer_headers code session) [] (answer_readable code cseq session known short value))
    ∙ answer_told code cseq session short

-- So are an answer and what is behind it.
pub answers_read : (code cseq : ℕ) (session : Option (List ℕ)) (rest : List ℕ) → has_reason code ≡ true → cseq < 10 ^ CSEQ_TWO_DIGITS → IfSome session (λ id. is_value id ≡ true) →
    messages_of (answer_text code cseq session ++ rest) ≡ option_map (λ more. answer_message code cseq session ∷ more) (messages_of rest)
answers_read code cseq session rest known short value =
    messages_read (Status version_two code (unwrap_or (reason_of code) [])) (Some cseq) (answer_headers code session) [] rest (answer_readable code cseq session known short value)

-- An answer is no request.
pub answer_no_request : (code cseq : ℕ) (session : Option (List ℕ)) → has_reason code ≡ true → cseq < 10 ^ CSEQ_TWO_DIGITS → IfSome session (λ id. is_value id ≡ true) →
    request_in (answer_text code cseq session) ≡ None
answer_no_request code cseq session known short value =
    ap (option_and_then server_request) (message_read (Status version_two code (unwrap_or (reason_of code) [])) (Some cseq) (answer_headers code session) [] (answer_readable code cseq session known short value))
