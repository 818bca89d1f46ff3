-- A reply that is written line by line is the reply with the headers of its fields.
use Rattle.std.proofs.Common.{◌≡◌, ℕ, List, [], ◌∷◌, ◌++◌, Option, sym, ap, ◌∙◌, append_assoc}
use Rattle.std.specs.List.{flat_map}
use Rattle.std.proofs.lemmas.List.{append-nil}
use Rattle.std.proofs.lemmas.List.Concat.{flat_map-append}
use Rattle.rtsp_head.specs.declared.header.Header.{Header}
use Rattle.rtsp_head.specs.HeadText.{ended, start_text, header_text}
use Rattle.rtsp_head.specs.Messages.{number_headers, length_headers}
use Rattle.rtsp_head.specs.Optional.{header_with, Field, then_headers, field_headers, field_line, field_lines}
use Rattle.head_one.specs.Replies.{start_with, reply_front, reply_text}

-- the lines of headers
abbrev lines : List Header → List ℕ
lines headers = flat_map (λ header. ended (header_text header)) headers

lines_more : (headers more : List Header) → lines (headers ++ more) ≡ lines headers ++ lines more
lines_more headers more = flat_map-append (λ (header : Header). ended (header_text header)) headers more

then_lines : (headers : List Header) (fields : List Field) → lines (then_headers headers fields) ≡ lines headers ++ field_lines fields
then_lines headers [] = sym (append-nil (lines headers))
then_lines headers (field ∷ fields) =
    then_lines (headers ++ header_with field.name field.value) fields
    ∙ ap (λ l. l ++ field_lines fields) (lines_more headers (header_with field.name field.value))
    ∙ append_assoc (lines headers) (field_line field) (field_lines fields)

-- The lines of more fields follow.
pub field_lines_more : (fields more : List Field) → field_lines (fields ++ more) ≡ field_lines fields ++ field_lines more
field_lines_more fields more = flat_map-append field_line fields more

-- The front, the lines of fields, and the end are the text of the reply.
pub reply_by_lines : (code : ℕ) (cseq : Option ℕ) (fields : List Field) (body : List ℕ) →
    reply_front code cseq ++ field_lines fields ++ lines (length_headers body) ++ ended [] ++ body
    ≡ reply_text (record { code = code; cseq = cseq; headers = field_headers fields; body = body })
reply_by_lines code cseq fields body =
    let start = ended (start_text (start_with code)) in
    let number = lines (number_headers cseq) in
    let own = field_lines fields in
    let end = lines (length_headers body) in
    let all : lines (number_headers cseq ++ field_headers fields ++ length_headers body) ≡ number ++ own ++ end =
    lines_more (number_headers cseq ++ field_headers fields) (length_headers body)
    ∙ ap (λ l. l ++ end) (lines_more (number_headers cseq) (field_headers fields) ∙ ap (λ l. number ++ l) (then_lines [] fields)) in
    ap (λ l. l ++ ended [] ++ body)
    (ap (λ l. l ++ end) (append_assoc start number own) ∙ append_assoc start (number ++ own) end ∙ ap (λ l. start ++ l) (sym all))
