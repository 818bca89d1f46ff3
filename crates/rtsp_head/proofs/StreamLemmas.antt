-- Messages that were written in a row are read back, one behind another.
use Rattle.std.proofs.Common.{◌≡◌, ℕ, zero, suc, ◌<◌, ◌≤◌, ◌^◌, Bool, true, false, ◌&&◌, ◌==◌, ◌||◌, not, nat_lt, nat_le, cond, List, [], ◌∷◌, ◌++◌, length, take, drop, Option, None, Some, Result, Ok, Err, refl, sym, ◌∙◌, ap, subst, append_assoc, arith}
use Rattle.std.specs.Prelude.{codes, decimal}
use Rattle.std.specs.Option.{option_map, option_and_then}
use Rattle.std.specs.List.{list_all, find, flat_map}
use Rattle.std.specs.Char.{is_ascii_digit}
use Rattle.std.specs.Str.Parse.{digits_value}
use Rattle.std.proofs.lemmas.Bool.{and_parts}
use Rattle.std.proofs.lemmas.List.{length-append, length-drop, append-nil}
use Rattle.std.proofs.lemmas.Fmt.{digits_decimal, digits_value-decimal, decimal_nonempty}
use Rattle.std.proofs.Math.Seq.{take-append_seam, drop-append_seam}
use Rattle.gate_bytes.specs.Ascii.{nul, lf, cr}
use Rattle.gate_bytes.specs.Numbers.{number_in}
use Rattle.gate_bytes.specs.Tokens.{equal_fold}
use Rattle.rtsp_head.specs.declared.header.Header.{Header}
use Rattle.rtsp_head.specs.declared.head.Head.{Head}
use Rattle.rtsp_head.specs.declared.fault.HeadFault.{HeadFault}
use Rattle.rtsp_head.specs.HeadParts.{Start, Status}
use Rattle.rtsp_head.specs.Starts.{names_protocol}
use Rattle.rtsp_head.specs.Headers.{field_of}
use Rattle.rtsp_head.specs.Heads.{head_within}
use Rattle.rtsp_head.specs.Items.{begins_with_lf, begins_blank, blank_lines, head_from, head_len}
use Rattle.rtsp_head.specs.Spellings.{begins_frame}
use Rattle.rtsp_head.specs.HeadText.{ended, start_text, header_text, head_text, is_line_text, is_part, is_start}
use Rattle.rtsp_head.specs.Messages.{number_headers, length_headers, message_headers, is_added, message_text, Message, message, named_length, Front, with_body, with_head, message_at, first_message, messages_with, messages_by, messages_of, only_message, message_of, IsReadable}
use Rattle.rtsp_head.proofs.DigitLemmas.{own}
use Rattle.rtsp_head.proofs.WriteLemmas.{head_read, start_fits, start_long}
use Rattle.rtsp_head.proofs.MessageLemmas.{head_ends}

-- A decimal number is read in as many digits as it has.
decimal_read : (n : ℕ) → n < 2 ^ 64 → number_in (length (decimal n)) (decimal n) ≡ Some n
decimal_read n high =
    let digits : list_all is_ascii_digit (decimal n) ≡ true = digits_decimal own n high in
    let value : digits_value 10 (decimal n) ≡ n = digits_value-decimal own n high in
    let some : 0 < length (decimal n) = decimal_nonempty n high in
    let test : (not (length (decimal n) == 0) && nat_le (length (decimal n)) (length (decimal n))) && list_all is_ascii_digit (decimal n) ≡ true = grind arith in
    ap (λ t. cond t (Some (digits_value 10 (decimal n))) None) test ∙ ap Some value

abbrev length_name : List ℕ
length_name = codes "Content-Length"

skip_header : (header : Header) (more : List Header) → is_added header ≡ false → field_of (header ∷ more) length_name ≡ field_of more length_name
skip_header header more other = by_names (equal_fold header.name (codes "CSeq")) (equal_fold header.name length_name) refl other
  where
    by_names : (number long : Bool) → equal_fold header.name length_name ≡ long → number || long ≡ false → field_of (header ∷ more) length_name ≡ field_of more length_name
    by_names number true same h = absurd (by_or number h)
      where
        by_or : (b : Bool) → b || true ≡ false → ⊥
        by_or true e = cc
        by_or false e = cc
    by_names number false same h = ap (λ t. option_map (λ header. header.value) (cond t (Some header) (find (λ header. equal_fold header.name length_name) more))) same

was_true : (b : Bool) → not b ≡ true → b ≡ false
was_true true h = cc
was_true false h = refl

skip_own : (headers more : List Header) → list_all (λ header. not (is_added header)) headers ≡ true → field_of (headers ++ more) length_name ≡ field_of more length_name
skip_own [] more h = refl
skip_own (header ∷ headers) more h =
    let parts = and_parts (not (is_added header)) (list_all (λ header. not (is_added header)) headers) h in
    skip_header header (headers ++ more) (was_true (is_added header) parts.0) ∙ skip_own headers more parts.1

skip_number : (number : Option ℕ) (more : List Header) → field_of (number_headers number ++ more) length_name ≡ field_of more length_name
skip_number None more = refl
skip_number (Some number) more = refl

length_by : (empty : Bool) (body : List ℕ) → (length body == 0) ≡ empty → length body < 2 ^ 64 →
    named_length (field_of (cond empty [] (record { name = length_name; value = decimal (length body) } ∷ [])) length_name) ≡ Some (length body)
length_by true body none high = let zero_long : length body ≡ 0 = grind arith in ap Some (sym zero_long)
length_by false body some high = decimal_read (length body) high

-- The length that a written message names is that of its body.
length_named : (number : Option ℕ) (headers : List Header) (body : List ℕ) → list_all (λ header. not (is_added header)) headers ≡ true → length body < 2 ^ 64 →
    named_length (field_of (message_headers number headers body) length_name) ≡ Some (length body)
length_named number headers body none high =
    ap (λ hs. named_length (field_of hs length_name)) (append_assoc (number_headers number) headers (length_headers body))
    ∙ ap named_length (skip_number number (headers ++ length_headers body) ∙ skip_own headers (length_headers body) none)
    ∙ length_by (length body == 0) body refl high

blank_apart : (b : ℕ) (text : List ℕ) → is_line_text (b ∷ text) ≡ true → begins_blank (b ∷ text) ≡ false
blank_apart b text fits =
    let parts = and_parts (not (b == lf) && (not (b == cr) && not (b == nul))) (is_line_text text) fits in
    let first = and_parts (not (b == lf)) (not (b == cr) && not (b == nul)) parts.0 in
    let second = and_parts (not (b == cr)) (not (b == nul)) first.1 in
    grind arith

-- What begins with a line has no empty line before it, and is a frame only where the line begins as one.
blanks_none : (line rest : List ℕ) → is_line_text line ≡ true → 0 < length line → blank_lines (line ++ rest) ≡ 0
blanks_none [] rest fits some = absurd (omega arith)
blanks_none (b ∷ line) rest fits some =
    let parts = and_parts (not (b == lf) && (not (b == cr) && not (b == nul))) (is_line_text line) fits in
    let first = and_parts (not (b == lf)) (not (b == cr) && not (b == nul)) parts.0 in
    let second = and_parts (not (b == cr)) (not (b == nul)) first.1 in
    let other : begins_blank (b ∷ (line ++ rest)) ≡ false = grind arith in
    ap (λ t. cond t (suc (blank_lines (line ++ rest))) 0) other

frame_first : (line rest : List ℕ) → 0 < length line → begins_frame (line ++ rest) ≡ begins_frame line
frame_first [] rest some = absurd (omega arith)
frame_first (b ∷ line) rest some = refl

-- A message's text begins with its first line.
text_begins : (start : Start) (number : Option ℕ) (headers : List Header) (body rest : List ℕ) →
    message_text start number headers body ++ rest
    ≡ start_text start ++ ((cr ∷ lf ∷ []) ++ (flat_map (λ header. ended (header_text header)) (message_headers number headers body) ++ ((cr ∷ lf ∷ []) ++ (body ++ rest))))
text_begins start number headers body rest = simp append_assoc

body_there : (head : Head) (body rest : List ℕ) → with_body head (body ++ rest) (length body) ≡ Some (record { message = record { head = head; body = body }; rest = rest })
body_there head body rest =
    let enough : nat_lt (length (body ++ rest)) (length body) ≡ false = grind (arith, length-append body rest) in
    ap (λ t. cond t None (Some (record { message = record { head = head; body = take (length body) (body ++ rest) }; rest = drop (length body) (body ++ rest) }))) enough
    ∙ ap (λ b. Some (record { message = record { head = head; body = b }; rest = drop (length body) (body ++ rest) })) (take-append_seam body rest)
    ∙ ap (λ r. Some (record { message = record { head = head; body = body }; rest = r })) (drop-append_seam body rest)

-- A message that was written is the first of the stream that it begins, and the rest follows.
pub front_read : (start : Start) (number : Option ℕ) (headers : List Header) (body rest : List ℕ) → IsReadable start number headers body →
    first_message (message_text start number headers body ++ rest) ≡ Some (record { message = message start number headers body; rest = rest })
front_read start number headers body rest can =
    let all = message_headers number headers body in
    let head = head_text start all in
    let stream = message_text start number headers body ++ rest in
    let whole : Head = record { start = start; headers = all } in
    let fits = start_fits start can.writable.start in
    let long = start_long start in
    let joined = text_begins start number headers body rest in
    let parted : stream ≡ head ++ (body ++ rest) = append_assoc head body rest in
    let blank : blank_lines stream ≡ 0 = ap blank_lines joined ∙ blanks_none (start_text start) _ fits long in
    let frame : begins_frame stream ≡ false = ap begins_frame joined ∙ frame_first (start_text start) _ long ∙ can.no_frame in
    let ends : head_len stream ≡ Some (length head) = ap head_len parted ∙ head_ends start all (body ++ rest) can.writable.start can.writable.headers in
    let front : take (length head) stream ≡ head = ap (take (length head)) parted ∙ take-append_seam head (body ++ rest) in
    let behind : drop (length head) stream ≡ body ++ rest = ap (drop (length head)) parted ∙ drop-append_seam head (body ++ rest) in
    let reads : head_within None head ≡ Ok whole = head_read None start all can.writable.start tt can.writable.headers in
    ap (λ k. message_at (drop k stream)) blank
    ∙ ap (λ t. cond t None (option_and_then (λ n. with_head (head_within None (take n stream)) (drop n stream)) (head_len stream))) frame
    ∙ ap (option_and_then (λ n. with_head (head_within None (take n stream)) (drop n stream))) ends
    ∙ ap (λ t. with_head (head_within None t) (drop (length head) stream)) front
    ∙ ap (with_head (head_within None head)) behind
    ∙ ap (λ r. with_head r (body ++ rest)) reads
    ∙ ap (option_and_then (with_body whole (body ++ rest))) (length_named number headers body can.own can.short)
    ∙ body_there whole body rest

-- what is left behind a message is shorter than this
abbrev HasLess : ℕ → Option Front → Type 0
HasLess limit None = Unit {0}
HasLess limit (Some front) = length front.rest < limit

body_less : (head : Head) (bytes : List ℕ) (n limit : ℕ) → length bytes < limit → HasLess limit (with_body head bytes n)
body_less head bytes n limit less = by_test (nat_lt (length bytes) n)
  where
    by_test : (short : Bool) → HasLess limit (cond short None (Some (record { message = record { head = head; body = take n bytes }; rest = drop n bytes })))
    by_test true = tt
    by_test false = omega (arith, length-drop n bytes)

named_less : (head : Head) (bytes : List ℕ) (o : Option ℕ) (limit : ℕ) → length bytes < limit → HasLess limit (option_and_then (with_body head bytes) o)
named_less head bytes None limit less = tt
named_less head bytes (Some n) limit less = body_less head bytes n limit less

head_less : (read : Result Head HeadFault) (bytes : List ℕ) (limit : ℕ) → length bytes < limit → HasLess limit (with_head read bytes)
head_less (Ok head) bytes limit less = named_less head bytes (named_length (field_of head.headers length_name)) limit less
head_less (Err fault) bytes limit less = tt

some_suc : (o : Option ℕ) (n : ℕ) → option_map suc o ≡ Some n → 0 < n
some_suc None n h = cc
some_suc (Some k) n h = let e : suc k ≡ n = cc in omega arith

head_some : (starts : Bool) (bytes : List ℕ) (n : ℕ) → head_from starts bytes ≡ Some n → (0 < n) × (0 < length bytes)
head_some starts [] n h = cc
head_some starts (b ∷ bytes) n h = by_test (b == lf && starts) h
  where
    by_test : (ends : Bool) → cond ends (Some 1) (option_map suc (head_from (b == lf || (starts && (b == cr && begins_with_lf bytes))) bytes)) ≡ Some n → (0 < n) × (0 < length (b ∷ bytes))
    by_test true e = let one : 1 ≡ n = cc in (omega arith, omega arith)
    by_test false e = (some_suc (head_from (b == lf || (starts && (b == cr && begins_with_lf bytes))) bytes) n e, omega arith)

at_less : (bytes : List ℕ) (o : Option ℕ) → head_len bytes ≡ o → HasLess (length bytes) (option_and_then (λ n. with_head (head_within None (take n bytes)) (drop n bytes)) o)
at_less bytes None h = tt
at_less bytes (Some n) h =
    let some = head_some true bytes n h in
    head_less (head_within None (take n bytes)) (drop n bytes) (length bytes) (omega (arith, length-drop n bytes, some.0, some.1))

message_less : (bytes : List ℕ) → HasLess (length bytes) (message_at bytes)
message_less bytes = by_test (begins_frame bytes)
  where
    by_test : (frame : Bool) → HasLess (length bytes) (cond frame None (option_and_then (λ n. with_head (head_within None (take n bytes)) (drop n bytes)) (head_len bytes)))
    by_test true = tt
    by_test false = at_less bytes (head_len bytes) refl

less_more : (o : Option Front) (m n : ℕ) → m ≤ n → HasLess m o → HasLess n o
less_more None m n le less = tt
less_more (Some front) m n le less = omega arith

-- What is left behind the first message is shorter.
pub rest_less : (stream : List ℕ) → HasLess (length stream) (first_message stream)
rest_less stream =
    let bytes = drop (blank_lines stream) stream in
    less_more (message_at bytes) (length bytes) (length stream) (omega (arith, length-drop (blank_lines stream) stream)) (message_less bytes)

with_same : (o : Option Front) (limit : ℕ) (f g : List ℕ → Option (List Message)) → HasLess limit o → ((rest : List ℕ) → length rest < limit → f rest ≡ g rest) →
    messages_with o f ≡ messages_with o g
with_same None limit f g less same = refl
with_same (Some front) limit f g less same = ap (option_map (λ more. front.message ∷ more)) (same front.rest less)

-- As many turns as there are bytes are enough.
enough : (m n : ℕ) (bytes : List ℕ) → length bytes ≤ m → length bytes ≤ n → messages_by m bytes ≡ messages_by n bytes
enough m n [] hm hn = refl_of m n
  where
    refl_of : (m n : ℕ) → messages_by m [] ≡ messages_by n []
    refl_of zero zero = refl
    refl_of zero (suc n) = refl
    refl_of (suc m) zero = refl
    refl_of (suc m) (suc n) = refl
enough zero n (b ∷ bytes) hm hn = absurd (omega arith)
enough (suc m) zero (b ∷ bytes) hm hn = absurd (omega arith)
enough (suc m) (suc n) (b ∷ bytes) hm hn =
    with_same (first_message (b ∷ bytes)) (length (b ∷ bytes)) (messages_by m) (messages_by n) (rest_less (b ∷ bytes))
    (λ rest less. enough m n rest (omega arith) (omega arith))

front_by : (stream : List ℕ) (front : Front) → first_message stream ≡ Some front → 0 < length stream →
    messages_of stream ≡ option_map (λ more. front.message ∷ more) (messages_of front.rest)
front_by [] front reads some = absurd (omega arith)
front_by (b ∷ bytes) front reads some =
    let less : length front.rest < length (b ∷ bytes) = subst (HasLess (length (b ∷ bytes))) reads (rest_less (b ∷ bytes)) in
    ap (λ o. messages_with o (messages_by (length bytes))) reads
    ∙ ap (option_map (λ more. front.message ∷ more)) (enough (length bytes) (length front.rest) front.rest (omega arith) (omega arith))

-- A message that was written is read back as the first of the messages that its bytes begin.
pub messages_read : (start : Start) (number : Option ℕ) (headers : List Header) (body rest : List ℕ) → IsReadable start number headers body →
    messages_of (message_text start number headers body ++ rest) ≡ option_map (λ more. message start number headers body ∷ more) (messages_of rest)
messages_read start number headers body rest can =
    let long = start_long start in
    front_by (message_text start number headers body ++ rest) (record { message = message start number headers body; rest = rest })
    (front_read start number headers body rest can)
    (omega (arith, ap length (text_begins start number headers body rest), length-append (start_text start) ((cr ∷ lf ∷ []) ++ (flat_map (λ header. ended (header_text header)) (message_headers number headers body) ++ ((cr ∷ lf ∷ []) ++ (body ++ rest)))), long))

-- A message that was written is the one that its bytes are.
pub message_read : (start : Start) (number : Option ℕ) (headers : List Header) (body : List ℕ) → IsReadable start number headers body →
    message_of (message_text start number headers body) ≡ Some (message start number headers body)
message_read start number headers body can =
    ap message_of (sym (append-nil (message_text start number headers body))) ∙ ap only_message (messages_read start number headers body [] can)

-- A status line begins as no frame does.
pub status_no_frame : (version : List ℕ) (code : ℕ) (reason : List ℕ) → is_start (Status version code reason) ≡ true → begins_frame (start_text (Status version code reason)) ≡ false
status_no_frame [] code reason h = refl
status_no_frame (b ∷ version) code reason h =
    let all = and_parts ((is_part (b ∷ version) && names_protocol (b ∷ version)) && (nat_le 100 code && nat_le code 999)) (is_line_text (b ∷ version) && is_line_text reason) h in
    let parts = and_parts (is_part (b ∷ version) && names_protocol (b ∷ version)) (nat_le 100 code && nat_le code 999) all.0 in
    let first = and_parts (is_part (b ∷ version)) (names_protocol (b ∷ version)) parts.0 in
    let begins : names_protocol (b ∷ version) ≡ true = first.1 in
    grind (arith, begins)
