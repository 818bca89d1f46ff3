-- Headers that are written of fields with names of their own have names of their own, and so has one more.
use Rattle.std.proofs.Common.{◌≡◌, ◌∙◌, ℕ, ◌==◌, ◌&&◌, ◌||◌, not, Bool, true, false, cond, List, [], ◌∷◌, ◌++◌, length, Option, Some, None, refl, sym, ap, append_assoc, arith}
use Rattle.std.specs.Prelude.{codes, decimal}
use Rattle.std.specs.List.{list_all}
use Rattle.std.specs.Str.{bytes_eq, str_to_ascii_lowercase}
use Rattle.std.proofs.lemmas.Bool.{and_parts}
use Rattle.std.proofs.lemmas.List.{append-nil}
use Rattle.gate_bytes.specs.Tokens.{equal_fold}
use Rattle.rtsp_head.specs.declared.header.Header.{Header}
use Rattle.rtsp_head.specs.HeadParts.{Start}
use Rattle.rtsp_head.specs.Messages.{message, message_headers, message_text, is_added, IsReadable}
use Rattle.rtsp_head.specs.Optional.{Field, header_with, then_headers, field_headers}
use Rattle.rtsp_head.proofs.FieldLemmas.{names_hold}
use Rattle.rtsp_head.proofs.StreamLemmas.{message_read}
use Rattle.rtsp_transport.specs.declared.channels.Pair.{Pair}
use Rattle.head_two.specs.declared.request.Request2.{Request2}
use Rattle.translate_up.specs.Upward.{transport_header, headers_with_transport, is_other}
use Rattle.client_machine.specs.UpTexts.{channels, over_pair}
use Rattle.upward_law.specs.HeaderNames.{names_differ, HasEachHeaderOnce}

-- whether a header has another name than this one
abbrev differs : List ℕ → Header → Bool
differs name header = not (equal_fold header.name name)

-- Names are compared alike either way.
same_turned : (b c : ℕ) → (b == c) ≡ (c == b)
same_turned b c = grind arith

texts_turned : (one other : List ℕ) → bytes_eq one other ≡ bytes_eq other one
texts_turned [] [] = refl
texts_turned [] (c ∷ other) = refl
texts_turned (b ∷ one) [] = refl
texts_turned (b ∷ one) (c ∷ other) = ap (λ t. t && bytes_eq one other) (same_turned b c) ∙ ap (λ t. (c == b) && t) (texts_turned one other)

fold_turned : (one other : List ℕ) → equal_fold one other ≡ equal_fold other one
fold_turned one other = texts_turned (str_to_ascii_lowercase one) (str_to_ascii_lowercase other)

-- One header more, at any place.
all_with : (test : Header → Bool) (one : Header) (above below : List Header) → test one ≡ true → list_all test (above ++ below) ≡ true → list_all test (above ++ (one ∷ below)) ≡ true
all_with test one [] below here all = ap (λ t. t && list_all test below) here ∙ all
all_with test one (header ∷ above) below here all =
    let parts = and_parts (test header) (list_all test (above ++ below)) all in
    ap (λ t. t && list_all test (above ++ (one ∷ below))) parts.0 ∙ all_with test one above below here parts.1

one_more : (one : Header) (above below : List Header) → list_all (differs one.name) (above ++ below) ≡ true → names_differ (above ++ below) ≡ true → names_differ (above ++ (one ∷ below)) ≡ true
one_more one [] below other differ = ap (λ t. t && names_differ below) other ∙ differ
one_more one (header ∷ above) below other differ =
    let others = and_parts (differs one.name header) (list_all (differs one.name) (above ++ below)) other in
    let parts = and_parts (list_all (differs header.name) (above ++ below)) (names_differ (above ++ below)) differ in
    ap (λ t. t && names_differ (above ++ (one ∷ below))) (all_with (differs header.name) one above below (ap not (fold_turned one.name header.name) ∙ others.0) parts.0)
    ∙ one_more one above below others.1 parts.1

-- whether no two fields have one name
abbrev pub fields_differ : List Field → Bool
fields_differ [] = true
fields_differ (field ∷ fields) = list_all (λ other. not (equal_fold other.name field.name)) fields && fields_differ fields

then_behind : (headers : List Header) (fields : List Field) → then_headers headers fields ≡ headers ++ field_headers fields
then_behind headers [] = sym (append-nil headers)
then_behind headers (field ∷ fields) =
    then_behind (headers ++ header_with field.name field.value) fields
    ∙ append_assoc headers (header_with field.name field.value) (field_headers fields)
    ∙ ap (λ l. headers ++ l) (sym (then_behind (header_with field.name field.value) fields))

pub field_names_differ : (fields : List Field) → fields_differ fields ≡ true → names_differ (field_headers fields) ≡ true
field_names_differ [] h = refl
field_names_differ (field ∷ fields) h =
    let parts = and_parts (list_all (λ other. not (equal_fold other.name field.name)) fields) (fields_differ fields) h in
    ap names_differ (then_behind (header_with field.name field.value) fields)
    ∙ by field.value (names_hold (differs field.name) (λ name. not (equal_fold name field.name)) (λ header other. other) fields parts.0) (field_names_differ fields parts.1)
  where
    by : (value : Option (List ℕ)) → list_all (differs field.name) (field_headers fields) ≡ true → names_differ (field_headers fields) ≡ true → names_differ (header_with field.name value ++ field_headers fields) ≡ true
    by None other rest = rest
    by (Some value) other rest = ap (λ t. t && names_differ (field_headers fields)) other ∙ rest

-- headers without channels, each with a name of its own
abbrev pub AreBare : List Header → Type 0
AreBare headers = (list_all is_other headers ≡ true) × (names_differ headers ≡ true)

-- The channels of a SETUP are put in at one place.
put_in : (pair : Pair) (headers : List Header) → (above below : List Header) × (headers ≡ above ++ below) × (headers_with_transport pair headers ≡ above ++ (transport_header pair ∷ below))
put_in pair [] = ([], [], refl, refl)
put_in pair (header ∷ headers) = by (bytes_eq header.name (codes "Accept-Ranges")) (put_in pair headers)
  where
    by : (due : Bool) → ((above below : List Header) × (headers ≡ above ++ below) × (headers_with_transport pair headers ≡ above ++ (transport_header pair ∷ below)))
        → (above below : List Header) × (header ∷ headers ≡ above ++ below) × (cond due (transport_header pair ∷ header ∷ headers) (header ∷ headers_with_transport pair headers) ≡ above ++ (transport_header pair ∷ below))
    by true rest = ([], header ∷ headers, refl, refl)
    by false (above, below, whole, put) = (header ∷ above, below, ap (λ l. header ∷ l) whole, ap (λ l. header ∷ l) put)

transport_differs : (pair : Pair) (headers : List Header) → AreBare headers → names_differ (headers_with_transport pair headers) ≡ true
transport_differs pair headers bare =
    let (above, below, whole, put) = put_in pair headers in
    ap names_differ put ∙ one_more (transport_header pair) above below (ap (list_all is_other) (sym whole) ∙ bare.0) (ap names_differ (sym whole) ∙ bare.1)

pub paired_differs : (named free : Option ℕ) (request : Request2) → AreBare request.headers → names_differ (over_pair named free request).headers ≡ true
paired_differs None None request bare = bare.1
paired_differs None (Some pair) request bare = bare.1
paired_differs (Some own) None request bare = bare.1
paired_differs (Some own) (Some pair) request bare = transport_differs (channels pair) request.headers bare

-- The number and the length of the body have names that no other header has.
neither : (one other : Bool) → not (one || other) ≡ true → (not one ≡ true) × (not other ≡ true)
neither true other h = cc
neither false true h = cc
neither false false h = (refl, refl)

own_differ : (headers : List Header) → list_all (λ header. not (is_added header)) headers ≡ true → (list_all (differs (codes "CSeq")) headers ≡ true) × (list_all (differs (codes "Content-Length")) headers ≡ true)
own_differ [] h = (refl, refl)
own_differ (header ∷ headers) h =
    let parts = and_parts (not (is_added header)) (list_all (λ header. not (is_added header)) headers) h in
    let here = neither (equal_fold header.name (codes "CSeq")) (equal_fold header.name (codes "Content-Length")) parts.0 in
    let rest = own_differ headers parts.1 in
    (ap (λ t. t && list_all (differs (codes "CSeq")) headers) here.0 ∙ rest.0, ap (λ t. t && list_all (differs (codes "Content-Length")) headers) here.1 ∙ rest.1)

added_differ : (number : ℕ) (headers : List Header) (body : List ℕ) → list_all (λ header. not (is_added header)) headers ≡ true → names_differ headers ≡ true → names_differ (message_headers (Some number) headers body) ≡ true
added_differ number headers body own differ = by (length body == 0)
  where
    numbered : Header
    numbered = record { name = codes "CSeq"; value = decimal number }

    measured : Header
    measured = record { name = codes "Content-Length"; value = decimal (length body) }

    apart : (list_all (differs (codes "CSeq")) headers ≡ true) × (list_all (differs (codes "Content-Length")) headers ≡ true)
    apart = own_differ headers own

    alone : headers ++ [] ≡ headers
    alone = append-nil headers

    by : (empty : Bool) → names_differ (numbered ∷ (headers ++ cond empty [] (measured ∷ []))) ≡ true
    by true = ap (λ l. names_differ (numbered ∷ l)) alone ∙ one_more numbered [] headers apart.0 differ
    by false = one_more numbered [] (headers ++ (measured ∷ [])) (all_with (differs (codes "CSeq")) measured headers [] refl (ap (list_all (differs (codes "CSeq"))) alone ∙ apart.0))
        (one_more measured headers [] (ap (list_all (differs (codes "Content-Length"))) alone ∙ apart.1) (ap names_differ alone ∙ differ))

-- So each header of a message that was written stands once.
pub message_once : (start : Start) (number : ℕ) (headers : List Header) (body : List ℕ) → IsReadable start (Some number) headers body → names_differ headers ≡ true → HasEachHeaderOnce (message_text start (Some number) headers body)
message_once start number headers body can differ =
    record { message = message start (Some number) headers body; read = message_read start (Some number) headers body can; once = added_differ number headers body can.own differ }
