-- What was written is read, whatever stands behind it, and a stream is read in one way at most.
use Rattle.std.proofs.Common.{◌≡◌, ◌∙◌, ℕ, ◌+◌, ◌*◌, ◌<◌, ◌≤◌, ◌^◌, nat_lt, ◌==◌, ◌&&◌, not, Bool, true, false, cond, List, [], ◌∷◌, ◌++◌, length, take, drop, Option, Some, None, IfSome, refl, sym, ap, subst, append_assoc, unwrap_or, arith}
use Rattle.std.specs.Prelude.{codes}
use Rattle.std.specs.List.{list_all}
use Rattle.std.specs.Option.{option_map, option_and_then}
use Rattle.std.proofs.lemmas.List.{append-nil, length-append}
use Rattle.std.proofs.Math.Seq.{take-append_seam, drop-append_seam}
use Rattle.rtsp_head.specs.declared.header.Header.{Header}
use Rattle.rtsp_head.specs.HeadParts.{Request, Status}
use Rattle.rtsp_head.specs.Heads.{head_within}
use Rattle.rtsp_head.specs.HeadText.{is_value, is_start, is_header}
use Rattle.rtsp_head.specs.Items.{blank_lines, head_len}
use Rattle.rtsp_head.specs.Messages.{is_added, with_head, Front, message, message_at, IsReadable}
use Rattle.rtsp_head.specs.Spellings.{begins_frame}
use Rattle.rtsp_head.proofs.MessageLemmas.{message_sound}
use Rattle.rtsp_head.proofs.StreamLemmas.{front_read}
use Rattle.rtsp_small.specs.declared.cseq.TheConstants.{CSEQ_TWO_DIGITS}
use Rattle.rtsp_status.specs.Reasons.{reason_of}
use Rattle.head_two.specs.declared.request.Request2.{Request2}
use Rattle.head_two.specs.Messages.{version_two}
use Rattle.head_two.specs.Requests.{request_text, IsRequest}
use Rattle.head_two.specs.Answers.{answer_session, answer_headers, answer_text}
use Rattle.head_two.proofs.ReadLemmas.{request_told, request_readable}
use Rattle.head_two.proofs.AnswerLemmas.{answer_told}
use Rattle.client_machine.specs.Frames.{frame_text}
use Rattle.upward_law.specs.ServerStream.{ServerRead, reads_answer, reads_request, reads_frame, ReadFront, message_front, frame_front, front_at, server_front, AreRead}

-- a text that is read as one thing, whatever stands behind it
abbrev pub IsWritten : List ℕ → ServerRead → Type 0
IsWritten text item = (rest : List ℕ) → server_front (text ++ rest) ≡ Some (record { item = item; rest = rest })

-- a text that is read as these, before what is read behind it
abbrev pub AreWritten : List ℕ → List ServerRead → Type 0
AreWritten text items = (rest : List ℕ) (more : List ServerRead) → AreRead rest more → AreRead (text ++ rest) (items ++ more)

pub one_written : (text : List ℕ) (item : ServerRead) → IsWritten text item → AreWritten text (item ∷ [])
one_written text item is rest more read = (rest, is rest, read)

pub none_written : AreWritten [] []
none_written rest more read = read

pub both_written : (first second : List ℕ) (items others : List ServerRead) → AreWritten first items → AreWritten second others → AreWritten (first ++ second) (items ++ others)
both_written first second items others one other rest more read =
    subst (λ (l : List ℕ). AreRead l ((items ++ others) ++ more)) (sym (append_assoc first second rest))
    (subst (λ (l : List ServerRead). AreRead (first ++ (second ++ rest)) l) (sym (append_assoc items others more)) (one (second ++ rest) (others ++ more) (other rest more read)))

pub written_read : (text : List ℕ) (items : List ServerRead) → AreWritten text items → AreRead text items
written_read text items is = subst (λ (l : List ℕ). AreRead l items) (append-nil text) (subst (λ (l : List ServerRead). AreRead (text ++ []) l) (append-nil items) (is [] [] refl))

-- A stream is read in one way at most.
nothing_first : (item : ServerRead) (rest : List ℕ) → server_front [] ≡ Some (record { item = item; rest = rest }) → ⊥
nothing_first item rest e = cc

pub one_reading : (stream : List ℕ) (items others : List ServerRead) → AreRead stream items → AreRead stream others → items ≡ others
one_reading stream [] [] read other = refl
one_reading stream [] (second ∷ others) read (rest, is, more) = absurd (nothing_first second rest (ap server_front (sym read) ∙ is))
one_reading stream (first ∷ items) [] (rest, is, more) other = absurd (nothing_first first rest (ap server_front (sym other) ∙ is))
one_reading stream (first ∷ items) (second ∷ others) (rest, is, more) (left, also, later) =
    let one : ReadFront = record { item = first; rest = rest } in
    let two : ReadFront = record { item = second; rest = left } in
    let both : Some one ≡ Some two = sym is ∙ also in
    let same : one ≡ two = cc in
    ap (λ (front : ReadFront). front.item ∷ items) same
    ∙ ap (λ l. second ∷ l) (one_reading rest items others more (subst (λ (l : List ℕ). AreRead l others) (sym (ap (λ (front : ReadFront). front.rest) same)) later))

-- A message that stands first is read.
message_first : (bytes : List ℕ) (front : Front) → message_at bytes ≡ Some front → front_at bytes ≡ message_front front
message_first bytes front reads = by (begins_frame bytes) reads
  where
    by : (frame : Bool) → cond frame None (option_and_then (λ n. with_head (head_within None (take n bytes)) (drop n bytes)) (head_len bytes)) ≡ Some front → cond frame (frame_front bytes) (option_and_then message_front (message_at bytes)) ≡ message_front front
    by true h = cc
    by false h = ap (option_and_then message_front) reads

-- A request is read with its number.
pub request_written : (number : ℕ) (request : Request2) → IsRequest number request → IsWritten (request_text number request) (reads_request (record { number = number; request = request }))
request_written number request is rest =
    let stream = request_text number request ++ rest in
    message_first (drop (blank_lines stream) stream) (record { message = message (Request request.method request.uri version_two) (Some number) request.headers request.body; rest = rest })
    (front_read (Request request.method request.uri version_two) (Some number) request.headers request.body rest (request_readable number request is))
    ∙ ap (λ o. option_map (λ item. record { item = item; rest = rest }) (option_map reads_request o)) (request_told number request is)

-- An answer is read with its code, its number and its session.
readable : (code cseq : ℕ) (fields : List Header) → is_start (Status version_two code (unwrap_or (reason_of code) [])) ≡ true → cseq < 10 ^ CSEQ_TWO_DIGITS → length fields ≤ 1 → list_all is_header fields ≡ true
    → list_all (λ header. not (is_added header)) fields ≡ true → IsReadable (Status version_two code (unwrap_or (reason_of code) [])) (Some cseq) fields []
readable code cseq fields first short few sound own = record {
  writable = message_sound (Status version_two code (unwrap_or (reason_of code) [])) (Some cseq) fields [] first (omega arith) (omega arith) (omega arith) sound;
  no_frame = refl;
  own = own;
  short = omega arith;
}

pub answer_fits : (code cseq : ℕ) (session : Option (List ℕ)) → is_start (Status version_two code (unwrap_or (reason_of code) [])) ≡ true → cseq < 10 ^ CSEQ_TWO_DIGITS → IfSome session (λ id. is_value id ≡ true)
    → IsReadable (Status version_two code (unwrap_or (reason_of code) [])) (Some cseq) (answer_headers code session) []
answer_fits code cseq session first short value = by (code == 200) session value
  where
    by : (success : Bool) (one : Option (List ℕ)) → IfSome one (λ id. is_value id ≡ true) → IsReadable (Status version_two code (unwrap_or (reason_of code) [])) (Some cseq) (cond success (answer_session one) []) []
    by true None is = readable code cseq [] first short (omega arith) refl refl
    by true (Some id) is = readable code cseq (record { name = codes "Session"; value = id } ∷ []) first short (omega arith) (ap (λ t. t && true) is) refl
    by false one is = readable code cseq [] first short (omega arith) refl refl

pub answer_written : (code cseq : ℕ) (session : Option (List ℕ)) → is_start (Status version_two code (unwrap_or (reason_of code) [])) ≡ true → cseq < 10 ^ CSEQ_TWO_DIGITS → IfSome session (λ id. is_value id ≡ true)
    → IsWritten (answer_text code cseq session) (reads_answer (record { code = code; cseq = cseq; fields = answer_headers code session }))
answer_written code cseq session first short value rest =
    let stream = answer_text code cseq session ++ rest in
    message_first (drop (blank_lines stream) stream) (record { message = message (Status version_two code (unwrap_or (reason_of code) [])) (Some cseq) (answer_headers code session) []; rest = rest })
    (front_read (Status version_two code (unwrap_or (reason_of code) [])) (Some cseq) (answer_headers code session) [] rest (answer_fits code cseq session first short value))
    ∙ ap (λ o. option_map (λ item. record { item = item; rest = rest }) (option_map reads_answer o)) (answer_told code cseq session short)

-- A frame is read with all its load.
pub frame_written : (channel high low : ℕ) (load : List ℕ) → length load ≡ 256 * high + low → IsWritten (frame_text channel (high ∷ low ∷ load)) (reads_frame channel load)
frame_written channel high low load counted rest =
    ap (λ n. cond (nat_lt (length (load ++ rest)) n) None (Some (record { item = reads_frame channel (take n (load ++ rest)); rest = drop n (load ++ rest) }))) (sym counted)
    ∙ ap (λ t. cond t None (Some (record { item = reads_frame channel (take (length load) (load ++ rest)); rest = drop (length load) (load ++ rest) }))) enough
    ∙ ap (λ (l : List ℕ). Some (record { item = reads_frame channel l; rest = drop (length load) (load ++ rest) })) (take-append_seam load rest)
    ∙ ap (λ (l : List ℕ). Some (record { item = reads_frame channel load; rest = l })) (drop-append_seam load rest)
  where
    enough : nat_lt (length (load ++ rest)) (length load) ≡ false
    enough = grind (arith, length-append load rest)
