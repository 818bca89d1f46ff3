-- What was written is read back.
use Rattle.std.proofs.Common.{◌≡◌, ℕ, ◌<◌, ◌≤◌, ◌^◌, Bool, true, false, cond, List, [], ◌∷◌, ◌++◌, length, take, Option, None, Some, IfSome, Result, Ok, Err, refl, subst, ◌∙◌, ap, arith}
use Rattle.std.specs.Prelude.{codes, decimal}
use Rattle.std.specs.Option.{option_and_then, option_map}
use Rattle.std.specs.List.{list_all}
use Rattle.std.specs.Char.{is_ascii_digit}
use Rattle.std.specs.Str.Parse.{digits_value}
use Rattle.std.proofs.lemmas.Fmt.{digits_decimal, digits_value-decimal, length-decimal-le, decimal_nonempty}
use Rattle.std.specs.Option.{ok_or}
use Rattle.std.specs.Str.{bytes_eq}
use Rattle.gate_bytes.specs.Numbers.{number_in}
use Rattle.gate_bytes.proofs.DigitLemmas.{number_small}
use Rattle.rtsp_head.specs.Headers.{field_of}
use Rattle.rtsp_head.specs.Heads.{head_of}
use Rattle.rtsp_head.specs.Items.{Shape}
use Rattle.rtsp_head.specs.Lines.{result_map}
use Rattle.rtsp_head.specs.declared.head.Head.{Head}
use Rattle.rtsp_head.specs.declared.fault.HeadFault.{HeadFault}
use Rattle.head_two.specs.declared.ask.Ask2.{Ask2}
use Rattle.head_two.specs.declared.fault.TwoFault.{TwoFault}
use Rattle.head_two.specs.declared.fault.TwoFault.TheVariants.{Version, Cseq}
use Rattle.head_two.specs.Replies.{ask_at_start, ask_of_head, ask_of_item}
use Rattle.rtsp_head.specs.declared.header.Header.{Header}
use Rattle.rtsp_head.specs.HeadParts.{Start, Request, Status}
use Rattle.rtsp_head.specs.Messages.{message_headers, messages_of, IsReadable}
use Rattle.rtsp_head.specs.Spellings.{begins_frame}
use Rattle.rtsp_head.specs.HeadText.{start_text, is_start}
use Rattle.rtsp_small.specs.declared.cseq.TheConstants.{CSEQ_TWO_DIGITS}
use Rattle.rtsp_head.proofs.DigitLemmas.{own}
use Rattle.rtsp_head.proofs.MessageLemmas.{fields_read}
use Rattle.rtsp_head.proofs.StreamLemmas.{message_read, messages_read}
use Rattle.head_two.specs.declared.request.Request2.{Request2}
use Rattle.head_two.specs.Messages.{version_two, server_cseq, checked_cseq}
use Rattle.head_two.specs.Requests.{request_text, request_message, server_request, request_in, IsRequest}

-- A number of nine digits is written and read.
nine_read : (number : ℕ) → number < 10 ^ 9 → number_in CSEQ_TWO_DIGITS (decimal number) ≡ Some number
nine_read number high =
    let digits : list_all is_ascii_digit (decimal number) ≡ true = digits_decimal own number (omega arith) in
    let value : digits_value 10 (decimal number) ≡ number = digits_value-decimal own number (omega arith) in
    let short : length (decimal number) ≤ 9 = length-decimal-le 9 number (omega arith) (omega arith) (omega arith) in
    let some : 0 < length (decimal number) = decimal_nonempty number (omega arith) in
    grind arith

-- The number of a message that has one is read.
pub number_read : (number : ℕ) (headers : List Header) (body : List ℕ) → number < 10 ^ 9 → server_cseq (message_headers (Some number) headers body) ≡ Some number
number_read number headers body high = nine_read number high

-- the message of a request says what the request says
pub request_told : (number : ℕ) (request : Request2) → IsRequest number request → server_request (request_message number request) ≡ Some (record { number = number; request = request })
request_told number request is =
    let headers = message_headers (Some number) request.headers request.body in
    ap (λ fields. option_map (λ n. record { number = n; request = record { method = request.method; uri = request.uri; headers = fields; body = request.body } }) (server_cseq headers)) (fields_read (Some number) request.headers request.body is.own)
    ∙ ap (option_map (λ n. record { number = n; request = request })) (number_read number request.headers request.body is.short)

-- A request line begins as its method does.
line_begins : (method uri version : List ℕ) → is_start (Request method uri version) ≡ true → begins_frame method ≡ false → begins_frame (start_text (Request method uri version)) ≡ false
line_begins [] uri version h other = absurd (grind arith)
line_begins (b ∷ method) uri version h other = other

pub request_readable : (number : ℕ) (request : Request2) → IsRequest number request → IsReadable (Request request.method request.uri version_two) (Some number) request.headers request.body
request_readable number request is =
    record { writable = is.writable; no_frame = line_begins request.method request.uri version_two is.writable.start is.no_frame; own = is.own; short = is.held }

-- A request that was written is read back.
pub request_read : (number : ℕ) (request : Request2) → IsRequest number request → request_in (request_text number request) ≡ Some (record { number = number; request = request })
request_read number request is =
    ap (option_and_then server_request) (message_read (Request request.method request.uri version_two) (Some number) request.headers request.body (request_readable number request is))
    ∙ request_told number request is

-- So are a request and what is behind it.
pub requests_read : (number : ℕ) (request : Request2) (rest : List ℕ) → IsRequest number request →
    messages_of (request_text number request ++ rest) ≡ option_map (λ more. request_message number request ∷ more) (messages_of rest)
requests_read number request rest is =
    messages_read (Request request.method request.uri version_two) (Some number) request.headers request.body rest (request_readable number request is)

-- A number that was read has nine digits at most.
cseq_small : (value : Option (List ℕ)) → IfSome (option_and_then (number_in CSEQ_TWO_DIGITS) value) (λ n. n < 10 ^ 9)
cseq_small None = tt
cseq_small (Some text) = number_small CSEQ_TWO_DIGITS text

checked_small : (right : Bool) (found : Option ℕ) (number : ℕ) → IfSome found (λ n. n < 10 ^ 9) → cond right (ok_or found Cseq) (Err Version) ≡ Ok number → number < 10 ^ 9
checked_small true (Some n) number small e = let same : n ≡ number = cc in subst (λ (m : ℕ). m < 10 ^ 9) same small
checked_small true None number small e = cc
checked_small false found number small e = cc

mapped_small : (found : Result ℕ TwoFault) (method : List ℕ) (head : Head) (ask : Ask2) → ((n : ℕ) → found ≡ Ok n → n < 10 ^ 9) →
    result_map (λ cseq. record { method = method; cseq = cseq; head = head }) found ≡ Ok ask → ask.cseq < 10 ^ 9
mapped_small (Ok n) method head ask small e =
    let made : Ask2 = record { method = method; cseq = n; head = head } in
    let same : made ≡ ask = cc in
    subst (λ (a : Ask2). a.cseq < 10 ^ 9) same (small n refl)
mapped_small (Err fault) method head ask small e = cc

at_small : (start : Start) (head : Head) (ask : Ask2) → ask_at_start start head ≡ Ok ask → ask.cseq < 10 ^ 9
at_small (Request method uri version) head ask e =
    mapped_small (checked_cseq version head.headers) method head ask (λ n h. checked_small (bytes_eq version version_two) (server_cseq head.headers) n (cseq_small (field_of head.headers (codes "CSeq"))) h) e
at_small (Status version code reason) head ask e = cc

of_small : (found : Result Head HeadFault) (ask : Ask2) → ask_of_head found ≡ Ok ask → ask.cseq < 10 ^ 9
of_small (Ok head) ask e = at_small head.start head ask e
of_small (Err fault) ask e = cc

-- A request of the server has a number of nine digits at most.
pub ask_small : (shape : Shape) (ask : Ask2) → ask_of_item shape ≡ Ok ask → ask.cseq < 10 ^ 9
ask_small shape ask e = of_small (head_of (take shape.head shape.bytes)) ask e
