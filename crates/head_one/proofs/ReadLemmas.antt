-- A reply that was written is read back.
use Rattle.std.proofs.Common.{◌≡◌, ℕ, ◌<◌, ◌≤◌, ◌^◌, Bool, true, false, ◌||◌, not, ◌==◌, cond, List, [], ◌∷◌, ◌++◌, length, Option, None, Some, IfSome, refl, ◌∙◌, ap, arith}
use Rattle.std.specs.Prelude.{codes, decimal, unwrap_or}
use Rattle.std.specs.Option.{option_map, option_and_then}
use Rattle.std.specs.List.{list_all, find}
use Rattle.std.specs.Char.{is_ascii_digit}
use Rattle.std.specs.Str.Parse.{digits_value}
use Rattle.std.proofs.lemmas.Fmt.{digits_decimal, digits_value-decimal, length-decimal-le, decimal_nonempty}
use Rattle.std.proofs.lemmas.Bool.{and_parts}
use Rattle.gate_bytes.specs.Tokens.{equal_fold}
use Rattle.gate_bytes.specs.Numbers.{number_in}
use Rattle.rtsp_head.specs.declared.header.Header.{Header}
use Rattle.rtsp_head.specs.Headers.{field_of}
use Rattle.rtsp_head.specs.Messages.{length_headers, message_headers, is_added, messages_of, IsReadable}
use Rattle.rtsp_head.proofs.DigitLemmas.{own}
use Rattle.rtsp_small.specs.declared.cseq.TheConstants.{CSEQ_ONE_DIGITS}
use Rattle.rtsp_head.proofs.MessageLemmas.{fields_read}
use Rattle.rtsp_head.proofs.StreamLemmas.{message_read, messages_read, status_no_frame}
use Rattle.head_one.specs.declared.reply.Reply1.{Reply1}
use Rattle.rtsp_status.specs.Reasons.{reason_of}
use Rattle.head_one.specs.Refusals.{version_one, client_cseq}
use Rattle.head_one.specs.Replies.{reply_start, reply_text, client_reply, client_reply_in, reply_message, IsReply}

-- A number of nineteen digits is written and read.
nineteen_read : (number : ℕ) → number < 10 ^ 19 → number_in CSEQ_ONE_DIGITS (decimal number) ≡ Some number
nineteen_read number high =
    let digits : list_all is_ascii_digit (decimal number) ≡ true = digits_decimal own number (omega arith) in
    let value : digits_value 10 (decimal number) ≡ number = digits_value-decimal own number (omega arith) in
    let short : length (decimal number) ≤ 19 = length-decimal-le 19 number (omega arith) (omega arith) (omega arith) in
    let some : 0 < length (decimal number) = decimal_nonempty number (omega arith) in
    grind arith

neither : (a b : Bool) → not (a || b) ≡ true → a ≡ false
neither true b h = cc
neither false b h = refl

-- A message's own fields are no number.
unnumbered : (headers added : List Header) → list_all (λ header. not (is_added header)) headers ≡ true → field_of added (codes "CSeq") ≡ None →
    field_of (headers ++ added) (codes "CSeq") ≡ None
unnumbered [] added h none = none
unnumbered (header ∷ headers) added h none =
    let parts = and_parts (not (is_added header)) (list_all (λ header. not (is_added header)) headers) h in
    let other : equal_fold header.name (codes "CSeq") ≡ false = neither (equal_fold header.name (codes "CSeq")) (equal_fold header.name (codes "Content-Length")) parts.0 in
    ap (λ t. option_map (λ (found : Header). found.value) (cond t (Some header) (find (λ (one : Header). equal_fold one.name (codes "CSeq")) (headers ++ added)))) other
    ∙ unnumbered headers added parts.1 none

length_unnumbered : (empty : Bool) (body : List ℕ) →
    field_of (cond empty [] (record { name = codes "Content-Length"; value = decimal (length body) } ∷ [])) (codes "CSeq") ≡ None
length_unnumbered true body = refl
length_unnumbered false body = refl

-- The number of a message, where it has one, is read.
number_read : (number : Option ℕ) (headers : List Header) (body : List ℕ) → IfSome number (λ n. n < 10 ^ 19) → list_all (λ header. not (is_added header)) headers ≡ true →
    client_cseq (message_headers number headers body) ≡ number
number_read None headers body short h = ap (option_and_then (number_in CSEQ_ONE_DIGITS)) (unnumbered headers (length_headers body) h (length_unnumbered (length body == 0) body))
number_read (Some number) headers body short h = nineteen_read number short

-- the message of a reply says what the reply says
pub reply_told : (reply : Reply1) → IsReply reply → client_reply (reply_message reply) ≡ Some reply
reply_told reply is =
    ap (λ fields. Some (record { code = reply.code; cseq = client_cseq (message_headers reply.cseq reply.headers reply.body); headers = fields; body = reply.body })) (fields_read reply.cseq reply.headers reply.body is.own)
    ∙ ap (λ cseq. Some (record { code = reply.code; cseq = cseq; headers = reply.headers; body = reply.body })) (number_read reply.cseq reply.headers reply.body is.short is.own)

reply_readable : (reply : Reply1) → IsReply reply → IsReadable (reply_start reply) reply.cseq reply.headers reply.body
reply_readable reply is = record { writable = is.writable; no_frame = status_no_frame version_one reply.code (unwrap_or (reason_of reply.code) []) is.writable.start; own = is.own; short = is.held }

-- A reply that was written is read back.
pub reply_read : (reply : Reply1) → IsReply reply → client_reply_in (reply_text reply) ≡ Some reply
reply_read reply is =
    ap (option_and_then client_reply) (message_read (reply_start reply) reply.cseq reply.headers reply.body (reply_readable reply is)) ∙ reply_told reply is

-- So are replies in a row.
pub replies_read : (reply : Reply1) (rest : List ℕ) → IsReply reply →
    messages_of (reply_text reply ++ rest) ≡ option_map (λ more. reply_message reply ∷ more) (messages_of rest)
replies_read reply rest is = messages_read (reply_start reply) reply.cseq reply.headers reply.body rest (reply_readable reply is)
