-- The first item that a framer gives of a stream: where a message stands first it has that message's head. The framer has
-- limits on heads and bodies, and stops at what passes them.
use Rattle.std.proofs.Common.{◌≡◌, ℕ, ◌+◌, ◌≤◌, nat_lt, nat_le, ◌==◌, ◌&&◌, not, Bool, true, false, cond, List, [], ◌∷◌, length, take, drop, take-append-drop, drop-drop, Option, Some, None, Result, Ok, Err, IfSome, refl, sym, ap, ◌∙◌, subst, arith}
use Rattle.std.specs.Prelude.{codes}
use Rattle.std.specs.List.{list_all}
use Rattle.std.specs.Option.{option_map, option_and_then}
use Rattle.std.specs.Char.{is_ascii_digit}
use Rattle.std.specs.Str.Parse.{digits_value}
use Rattle.std.proofs.lemmas.List.{take-take}
use Rattle.gate_bytes.specs.Ascii.{dollar}
use Rattle.gate_bytes.specs.Numbers.{number_in}
use Rattle.rtsp_head.specs.declared.facts.TheConstants.{LENGTH_DIGITS}
use Rattle.rtsp_head.specs.declared.fault.HeadFault.{HeadFault}
use Rattle.rtsp_head.specs.declared.fault.HeadFault.TheVariants as faults
use Rattle.rtsp_head.specs.declared.head.Head.{Head}
use Rattle.rtsp_head.specs.declared.header.Header.{Header}
use Rattle.rtsp_head.specs.declared.item.BadKind.{BadKind}
use Rattle.rtsp_head.specs.declared.item.BadKind.TheVariants as bad
use Rattle.rtsp_head.specs.declared.item.Extent.{Extent}
use Rattle.rtsp_head.specs.declared.item.ItemKind.TheVariants as kinds
use Rattle.rtsp_head.specs.declared.item.Span.{Span}
use Rattle.rtsp_head.specs.declared.item.TheConstants.{MOST_BODY, MOST_HEAD}
use Rattle.rtsp_head.specs.HeadParts.{Start}
use Rattle.rtsp_head.specs.Lines.{and_then, result_map, head_lines}
use Rattle.rtsp_head.specs.Starts.{start_of}
use Rattle.rtsp_head.specs.Headers.{SoFar, Further, More, Begins, has_room, header_limit, headers_in, with_further, with_line, further_of, after_lines, no_headers, headers_of, field_of}
use Rattle.rtsp_head.specs.Heads.{head_of_lines, head_within, head_of, is_request, length_in, length_of, facts}
use Rattle.rtsp_head.specs.Items.{Shape, Cut, blank_lines, head_len, bad_span, bad_kind, message_kind, when_whole, body_span, judged_span, headed_span, message_span, frame_span, span_of, shape_at, first_extent, is_bad, behind, cut_with, cut, items_of}
use Rattle.rtsp_head.specs.Messages.{named_length, Front, with_body, with_head, message_at, first_message}
use Rattle.rtsp_head.specs.Spellings.{begins_frame}
use Rattle.rtsp_frame.proofs.CutLemmas.{cut_step}
use Rattle.rtsp_frame.proofs.HeadLemmas.{head_from_more}

-- A head that is read within a limit is read without one.
abbrev one_more : Bool → SoFar → Header → Result SoFar HeadFault
one_more room so_far header = cond room (Ok (record { above = headers_in so_far; last = Some header })) (Err faults.Many)

header_free : (room : Bool) (so_far : SoFar) (header : Header) (next : SoFar) → one_more room so_far header ≡ Ok next → one_more true so_far header ≡ Ok next
header_free true so_far header next h = h
header_free false so_far header next h = cc

further_free : (limit : Option ℕ) (so_far : SoFar) (further : Further) (next : SoFar) → with_further limit so_far further ≡ Ok next → with_further None so_far further ≡ Ok next
further_free limit so_far (More text) next h = h
further_free limit so_far (Begins header) next h = header_free (has_room limit (length (headers_in so_far))) so_far header next h

line_free : (limit : Option ℕ) (so_far : SoFar) (further : Result Further HeadFault) (next : SoFar) → and_then (with_further limit so_far) further ≡ Ok next → and_then (with_further None so_far) further ≡ Ok next
line_free limit so_far (Ok further) next h = further_free limit so_far further next h
line_free limit so_far (Err fault) next h = h

lines_step : (limit : Option ℕ) (so_far : SoFar) (line : List ℕ) (lines : List (List ℕ)) (next : SoFar) (read : Result SoFar HeadFault)
    → ((mid : SoFar) → after_lines limit mid lines ≡ Ok next → after_lines None mid lines ≡ Ok next)
    → with_line limit so_far line ≡ read → and_then (λ mid. after_lines limit mid lines) read ≡ Ok next → after_lines None so_far (line ∷ lines) ≡ Ok next
lines_step limit so_far line lines next (Ok mid) later is h =
    ap (and_then (λ (one : SoFar). after_lines None one lines)) (line_free limit so_far (further_of line) mid is) ∙ later mid h
lines_step limit so_far line lines next (Err fault) later is h = cc

lines_free : (limit : Option ℕ) (so_far : SoFar) (lines : List (List ℕ)) (next : SoFar) → after_lines limit so_far lines ≡ Ok next → after_lines None so_far lines ≡ Ok next
lines_free limit so_far [] next h = h
lines_free limit so_far (line ∷ lines) next h = lines_step limit so_far line lines next (with_line limit so_far line) (λ mid. lines_free limit mid lines next) refl h

abbrev head_with : Start → List Header → Head
head_with start headers = record { start = start; headers = headers }

headers_free : (limit : Option ℕ) (lines : List (List ℕ)) (start : Start) (head : Head) (read : Result SoFar HeadFault) → after_lines limit no_headers lines ≡ read
    → result_map (head_with start) (result_map headers_in read) ≡ Ok head → result_map (head_with start) (headers_of None lines) ≡ Ok head
headers_free limit lines start head (Ok so_far) is h = ap (λ (r : Result SoFar HeadFault). result_map (head_with start) (result_map headers_in r)) (lines_free limit no_headers lines so_far is) ∙ h
headers_free limit lines start head (Err fault) is h = cc

start_free : (limit : Option ℕ) (lines : List (List ℕ)) (head : Head) (start : Result Start HeadFault) → and_then (λ one. result_map (head_with one) (headers_of limit lines)) start ≡ Ok head
    → and_then (λ one. result_map (head_with one) (headers_of None lines)) start ≡ Ok head
start_free limit lines head (Ok start) h = headers_free limit lines start head (after_lines limit no_headers lines) refl h
start_free limit lines head (Err fault) h = h

lines_read_free : (limit : Option ℕ) (lines : List (List ℕ)) (head : Head) → head_of_lines limit lines ≡ Ok head → head_of_lines None lines ≡ Ok head
lines_read_free limit [] head h = h
lines_read_free limit (line ∷ lines) head h = start_free limit lines head (start_of line) h

head_free : (bytes : List ℕ) (head : Head) → head_of bytes ≡ Ok head → head_within None bytes ≡ Ok head
head_free bytes head h = lines_read_free header_limit (head_lines bytes) head h

-- So is the length of a body.
number_free : (value : List ℕ) (k : ℕ) → number_in LENGTH_DIGITS value ≡ Some k → number_in (length value) value ≡ Some k
number_free value k h =
    let full : nat_le (length value) (length value) ≡ true = grind arith in
    ap (λ t. cond ((not (length value == 0) && t) && list_all is_ascii_digit value) (Some (digits_value 10 value)) None) full
    ∙ by (not (length value == 0)) (nat_le (length value) LENGTH_DIGITS) (list_all is_ascii_digit value) (digits_value 10 value) h
  where
    by : (some few digits : Bool) (n : ℕ) → cond ((some && few) && digits) (Some n) None ≡ Some k → cond ((some && true) && digits) (Some n) None ≡ Some k
    by true true digits n e = e
    by true false digits n e = cc
    by false few digits n e = cc

-- Where a framer finds a whole item that is not bad, the rest begins behind it, and it is so.
abbrev pub EndsBefore : (Span → Type 0) → List ℕ → List ℕ → Option Span → Type 0
EndsBefore is rest bytes None = Unit {0}
EndsBefore is rest bytes (Some span) = is_bad span.kind ≡ false → (drop span.len bytes ≡ rest) × is span

pub weaker_before : (one other : Span → Type 0) (rest bytes : List ℕ) (found : Option Span) → ((span : Span) → one span → other span) → EndsBefore one rest bytes found → EndsBefore other rest bytes found
weaker_before one other rest bytes None weaker before = tt
weaker_before one other rest bytes (Some span) weaker before = λ sound. let ends = before sound in (ends.0, weaker span ends.1)

pub when_before : (is : Span → Type 0) (rest bytes : List ℕ) (come : ℕ) (span : Span) → drop span.len bytes ≡ rest → is span → EndsBefore is rest bytes (when_whole come span)
when_before is rest bytes come span ends so = by (nat_lt come span.len)
  where
    by : (short : Bool) → EndsBefore is rest bytes (cond short None (Some span))
    by true = tt
    by false = λ sound. (ends, so)

bad_before : (is : Span → Type 0) (rest bytes : List ℕ) (fault : BadKind) (n : ℕ) → EndsBefore is rest bytes (Some (bad_span fault n))
bad_before is rest bytes fault n = λ sound. cc

-- It is a message with this head.
pub record HasHead (head : Head) (bytes : List ℕ) (span : Span) : Type 0 where
  pub kind : span.kind ≡ message_kind (is_request head.start)
  pub within : span.head ≤ span.len
  pub read : head_of (take span.head bytes) ≡ Ok head

has_head : (head named : Head) (bytes : List ℕ) (n len : ℕ) → named ≡ head → n ≤ len → head_of (take n bytes) ≡ Ok head → HasHead named bytes (record { kind = message_kind (is_request head.start); len = len; head = n })
has_head head named bytes n len same within read =
    subst (λ (h : Head). HasHead h bytes (record { kind = message_kind (is_request head.start); len = len; head = n })) (sym same) (record { kind = refl; within = within; read = read })

-- a message with its body
body_parts : (head : Head) (bytes : List ℕ) (k : ℕ) (front : Front) → with_body head bytes k ≡ Some front → (front.message.head ≡ head) × (front.rest ≡ drop k bytes)
body_parts head bytes k front h = by (nat_lt (length bytes) k) h
  where
    whole : Front
    whole = record { message = record { head = head; body = take k bytes }; rest = drop k bytes }

    by : (short : Bool) → cond short None (Some whole) ≡ Some front → (front.message.head ≡ head) × (front.rest ≡ drop k bytes)
    by true e = cc
    by false e = let same : whole ≡ front = cc in (ap (λ (f : Front). f.message.head) (sym same), ap (λ (f : Front). f.rest) (sym same))

body_before : (bytes : List ℕ) (n : ℕ) (head : Head) (value : Option (List ℕ)) (front : Front) → head_of (take n bytes) ≡ Ok head → option_and_then (with_body head (drop n bytes)) (named_length value) ≡ Some front
    → EndsBefore (HasHead front.message.head bytes) front.rest bytes (body_span (message_kind (is_request head.start)) (length bytes) n (length_of value))
body_before bytes n head None front read h =
    let parts = body_parts head (drop n bytes) 0 front h in
    when_before (HasHead front.message.head bytes) front.rest bytes (length bytes) (record { kind = message_kind (is_request head.start); len = n; head = n }) (sym parts.1)
    (has_head head front.message.head bytes n n parts.0 (omega arith) read)
body_before bytes n head (Some value) front read h = by (number_in LENGTH_DIGITS value) refl
  where
    so : Option Span → Type 0
    so found = EndsBefore (HasHead front.message.head bytes) front.rest bytes found

    whole : (k : ℕ) → with_body head (drop n bytes) k ≡ Some front → so (when_whole (length bytes) (record { kind = message_kind (is_request head.start); len = n + k; head = n }))
    whole k e =
        let parts = body_parts head (drop n bytes) k front e in
        when_before (HasHead front.message.head bytes) front.rest bytes (length bytes) (record { kind = message_kind (is_request head.start); len = n + k; head = n }) (sym (drop-drop k n bytes) ∙ sym parts.1)
        (has_head head front.message.head bytes n (n + k) parts.0 (omega arith) read)

    limited : (long : Bool) (k : ℕ) → with_body head (drop n bytes) k ≡ Some front
        → so (cond long (Some (bad_span bad.Body n)) (when_whole (length bytes) (record { kind = message_kind (is_request head.start); len = n + k; head = n })))
    limited true k e = bad_before (HasHead front.message.head bytes) front.rest bytes bad.Body n
    limited false k e = whole k e

    by : (found : Option ℕ) → number_in LENGTH_DIGITS value ≡ found → so (body_span (message_kind (is_request head.start)) (length bytes) n (length_in found))
    by None is = bad_before (HasHead front.message.head bytes) front.rest bytes bad.Length n
    by (Some k) is = limited (nat_lt MOST_BODY k) k (sym (ap (option_and_then (with_body head (drop n bytes))) (number_free value k is)) ∙ h)

-- behind a head
not_frame : (frame : Bool) (found : Option Front) (front : Front) → cond frame None found ≡ Some front → found ≡ Some front
not_frame true found front h = cc
not_frame false found front h = h

head_before : (bytes : List ℕ) (n : ℕ) (read : Result Head HeadFault) (front : Front) → head_of (take n bytes) ≡ read → head_len bytes ≡ Some n → message_at bytes ≡ Some front
    → EndsBefore (HasHead front.message.head bytes) front.rest bytes (judged_span (length bytes) n (result_map facts read))
head_before bytes n (Err fault) front is ends reads = bad_before (HasHead front.message.head bytes) front.rest bytes (bad_kind fault) n
head_before bytes n (Ok head) front is ends reads =
    let message : option_and_then (λ n. with_head (head_within None (take n bytes)) (drop n bytes)) (head_len bytes) ≡ Some front = not_frame (begins_frame bytes) _ front reads in
    let at : with_head (head_within None (take n bytes)) (drop n bytes) ≡ Some front =
    sym (ap (option_and_then (λ n. with_head (head_within None (take n bytes)) (drop n bytes))) ends) ∙ message in
    let headed : with_head (Ok head) (drop n bytes) ≡ Some front = sym (ap (λ (r : Result Head HeadFault). with_head r (drop n bytes)) (head_free (take n bytes) head is)) ∙ at in
    body_before bytes n head (field_of head.headers (codes "Content-Length")) front is headed

span_before : (bytes : List ℕ) (found : Option ℕ) (front : Front) → head_len (take MOST_HEAD bytes) ≡ found → message_at bytes ≡ Some front
    → EndsBefore (HasHead front.message.head bytes) front.rest bytes (headed_span bytes found)
span_before bytes None front is reads = by (nat_lt (length bytes) MOST_HEAD)
  where
    by : (short : Bool) → EndsBefore (HasHead front.message.head bytes) front.rest bytes (cond short None (Some (bad_span bad.Head MOST_HEAD)))
    by true = tt
    by false = bad_before (HasHead front.message.head bytes) front.rest bytes bad.Head MOST_HEAD
span_before bytes (Some n) front is reads =
    let ends : head_len bytes ≡ Some n =
    subst (λ (l : List ℕ). head_len l ≡ Some n) (take-append-drop MOST_HEAD bytes) (head_from_more (take MOST_HEAD bytes) (drop MOST_HEAD bytes) true n is) in
    head_before bytes n (head_of (take n bytes)) front refl ends reads

pub message_before : (bytes : List ℕ) (front : Front) → message_at bytes ≡ Some front → EndsBefore (HasHead front.message.head bytes) front.rest bytes (span_of bytes)
message_before [] front reads = tt
message_before (b ∷ bytes) front reads = by (b == dollar) reads
  where
    by : (frame : Bool) → cond frame None (option_and_then (λ n. with_head (head_within None (take n (b ∷ bytes))) (drop n (b ∷ bytes))) (head_len (b ∷ bytes))) ≡ Some front
        → EndsBefore (HasHead front.message.head (b ∷ bytes)) front.rest (b ∷ bytes) (cond frame (frame_span (b ∷ bytes)) (message_span (b ∷ bytes)))
    by true h = cc
    by false h = span_before (b ∷ bytes) (head_len (take MOST_HEAD (b ∷ bytes))) front refl reads

-- the same of a stream, whose empty lines are passed over
abbrev pub FirstBefore : (Span → Type 0) → List ℕ → List ℕ → Option Extent → Type 0
FirstBefore is rest stream None = Unit {0}
FirstBefore is rest stream (Some extent) = is_bad extent.span.kind ≡ false → (drop (extent.skipped + extent.span.len) stream ≡ rest) × is extent.span

pub extent_before : (is : Span → Type 0) (rest stream : List ℕ) (skipped : ℕ) (found : Option Span) → EndsBefore is rest (drop skipped stream) found
    → FirstBefore is rest stream (option_map (λ span. record { skipped = skipped; span = span }) found)
extent_before is rest stream skipped None before = tt
extent_before is rest stream skipped (Some span) before = λ sound. let ends = before sound in (sym (drop-drop span.len skipped stream) ∙ ends.0, ends.1)

-- What holds of the items of a stream that a message begins: it is not whole yet, or bad, or the first of them.
module _ (Q : List Shape → Type 0) (head : Head) (rest : List ℕ) (none : Q []) (faulty : (shape : Shape) → is_bad shape.kind ≡ true → Q (shape ∷ []))
    (whole : (shape : Shape) → shape.kind ≡ message_kind (is_request head.start) → head_of (take shape.head shape.bytes) ≡ Ok head → Q (shape ∷ items_of rest)) where
  extent_as : (stream : List ℕ) (found : Option Extent) → FirstBefore (HasHead head (drop (blank_lines stream) stream)) rest stream found → IfSome found (λ (extent : Extent). extent.skipped ≡ blank_lines stream)
      → Q (cut_with found stream cut).items
  extent_as stream None before skips = none
  extent_as stream (Some extent) before skips = by (is_bad extent.span.kind) refl
    where
      left : List ℕ
      left = drop (extent.skipped + extent.span.len) stream

      by : (is : Bool) → is_bad extent.span.kind ≡ is → Q (behind is (shape_at stream extent) (cut left)).items
      by true is = faulty (shape_at stream extent) is
      by false is =
          let ends = before is in
          let read : head_of (take extent.span.head (take extent.span.len (drop extent.skipped stream))) ≡ Ok head =
          ap head_of (take-take extent.span.head extent.span.len (drop extent.skipped stream) ends.1.within ∙ ap (λ n. take extent.span.head (drop n stream)) skips) ∙ ends.1.read in
          subst (λ (l : List ℕ). Q (shape_at stream extent ∷ items_of l)) (sym ends.0) (whole (shape_at stream extent) ends.1.kind read)

skips_blank : (n : ℕ) (found : Option Span) → IfSome (option_map (λ span. record { skipped = n; span = span }) found) (λ (extent : Extent). extent.skipped ≡ n)
skips_blank n None = tt
skips_blank n (Some span) = refl

pub message_items : (Q : List Shape → Type 0) (stream : List ℕ) (front : Front) → first_message stream ≡ Some front → Q [] → ((shape : Shape) → is_bad shape.kind ≡ true → Q (shape ∷ []))
    → ((shape : Shape) → shape.kind ≡ message_kind (is_request front.message.head.start) → head_of (take shape.head shape.bytes) ≡ Ok front.message.head → Q (shape ∷ items_of front.rest)) → Q (items_of stream)
message_items Q stream front reads none faulty whole =
    let behind_lines = drop (blank_lines stream) stream in
    subst (λ (c : Cut). Q c.items) (sym (cut_step stream))
    (extent_as Q front.message.head front.rest none faulty whole stream (first_extent stream)
    (extent_before (HasHead front.message.head behind_lines) front.rest stream (blank_lines stream) (span_of behind_lines) (message_before behind_lines front reads))
    (skips_blank (blank_lines stream) (span_of behind_lines)))

-- A frame of one byte is the first of the items that it begins.
pub frame_items : (Q : List Shape → Type 0) (channel byte : ℕ) (rest : List ℕ) → ((shape : Shape) → shape.kind ≡ kinds.Frame → Q (shape ∷ items_of rest)) → Q (items_of (dollar ∷ channel ∷ 0 ∷ 1 ∷ byte ∷ rest))
frame_items Q channel byte rest whole =
    let stream : List ℕ = dollar ∷ channel ∷ 0 ∷ 1 ∷ byte ∷ rest in
    let extent : Extent = record { skipped = 0; span = record { kind = kinds.Frame; len = 5; head = 0 } } in
    subst (λ (c : Cut). Q c.items) (sym (cut_step stream ∙ ap (λ (o : Option Extent). cut_with o stream cut) (found stream (grind arith) (grind arith)))) (whole (shape_at stream extent) refl)
  where
    when : Bool → Option Span
    when short = cond short None (Some (record { kind = kinds.Frame; len = 5; head = 0 }))

    behind_none : Option Span → Option Extent
    behind_none span = option_map (λ one. record { skipped = 0; span = one }) span

    found : (stream : List ℕ) → nat_lt (length stream) 4 ≡ false → nat_lt (length stream) 5 ≡ false → behind_none (cond (nat_lt (length stream) 4) None (when (nat_lt (length stream) 5))) ≡ behind_none (when false)
    found stream begun full = ap (λ t. behind_none (cond t None (when (nat_lt (length stream) 5)))) begun ∙ ap (λ t. behind_none (when t)) full
