-- Of a stream that can be read, a framer gives no more requests than are read.
use Rattle.std.proofs.Common.{◌≡◌, ℕ, ◌+◌, ◌*◌, ◌≤◌, nat_lt, ◌==◌, Bool, true, false, cond, List, [], ◌∷◌, length, take, drop, drop-drop, Option, Some, None, refl, sym, ap, ◌∙◌, subst, arith}
use Rattle.std.specs.Option.{option_map, option_and_then}
use Rattle.gate_bytes.specs.Ascii.{dollar}
use Rattle.rtsp_head.specs.declared.head.Head.{Head}
use Rattle.rtsp_head.specs.declared.item.Extent.{Extent}
use Rattle.rtsp_head.specs.declared.item.ItemKind.{ItemKind}
use Rattle.rtsp_head.specs.declared.item.ItemKind.TheVariants as kinds
use Rattle.rtsp_head.specs.declared.item.Span.{Span}
use Rattle.rtsp_head.specs.HeadParts.{Start, Request, Status}
use Rattle.rtsp_head.specs.Heads.{is_request}
use Rattle.rtsp_head.specs.Items.{Shape, Cut, blank_lines, message_kind, when_whole, message_span, frame_span, span_of, shape_at, first_extent, is_bad, behind, cut_with, cut, items_of}
use Rattle.rtsp_head.specs.Messages.{Message, Front, message_at}
use Rattle.rtsp_head.specs.Spellings.{begins_frame}
use Rattle.rtsp_frame.proofs.CutLemmas.{cut_step}
use Rattle.head_two.specs.Requests.{Numbered, server_request}
use Rattle.upward_law.specs.ServerStream.{ServerRead, reads_answer, reads_request, reads_frame, ReadFront, message_item, message_front, load_front, frame_front, AreRead}
use Rattle.drill_server.specs.ServerSteps.{is_request_kind, requests_among}
use Rattle.drill_run.specs.CountSteps.{count_if}
use Rattle.drill_run.proofs.FirstItemLemmas.{EndsBefore, FirstBefore, HasHead, weaker_before, when_before, message_before, extent_before}

-- How many requests the server is meant to read.
abbrev pub asked_read : ServerRead → ℕ
asked_read (reads_answer answer) = 0
asked_read (reads_request asked) = 1
asked_read (reads_frame channel load) = 0

abbrev pub asked_among : List ServerRead → ℕ
asked_among [] = 0
asked_among (item ∷ items) = asked_read item + asked_among items

-- what is read first, and what is left
abbrev read_front : ServerRead → List ℕ → ReadFront
read_front item rest = record { item = item; rest = rest }

load_parts : (channel len : ℕ) (bytes rest : List ℕ) (item : ServerRead) → load_front channel len bytes ≡ Some (read_front item rest) → drop len bytes ≡ rest
load_parts channel len bytes rest item h = by (nat_lt (length bytes) len) h
  where
    by : (short : Bool) → cond short None (Some (read_front (reads_frame channel (take len bytes)) (drop len bytes))) ≡ Some (read_front item rest) → drop len bytes ≡ rest
    by true e = cc
    by false e = let same : read_front (reads_frame channel (take len bytes)) (drop len bytes) ≡ read_front item rest = cc in ap (λ (f : ReadFront). f.rest) same

-- It is at most so many requests.
abbrev AsksMost : ℕ → Span → Type 0
AsksMost most span = count_if (is_request_kind span.kind) ≤ most

frame_before : (most : ℕ) (bytes rest : List ℕ) (item : ServerRead) → frame_front bytes ≡ Some (read_front item rest) → EndsBefore (AsksMost most) rest bytes (frame_span bytes)
frame_before most [] rest item h = cc
frame_before most (mark ∷ []) rest item h = cc
frame_before most (mark ∷ channel ∷ []) rest item h = cc
frame_before most (mark ∷ channel ∷ high ∷ []) rest item h = cc
frame_before most (mark ∷ channel ∷ high ∷ low ∷ load) rest item h = by (nat_lt (length bytes) 4)
  where
    bytes : List ℕ
    bytes = mark ∷ channel ∷ high ∷ low ∷ load

    span : Span
    span = record { kind = kinds.Frame; len = 4 + (256 * high + low); head = 0 }

    ends : drop (4 + (256 * high + low)) bytes ≡ rest
    ends = sym (drop-drop (256 * high + low) 4 bytes) ∙ load_parts channel (256 * high + low) load rest item h

    by : (short : Bool) → EndsBefore (AsksMost most) rest bytes (cond short None (when_whole (length bytes) span))
    by true = tt
    by false = when_before (AsksMost most) rest bytes (length bytes) span ends (omega arith)

item_parts : (found : Option ServerRead) (left rest : List ℕ) (item : ServerRead) → option_map (λ one. read_front one left) found ≡ Some (read_front item rest) → (found ≡ Some item) × (left ≡ rest)
item_parts None left rest item h = cc
item_parts (Some one) left rest item h =
    let same : read_front one left ≡ read_front item rest = cc in (ap (λ (f : ReadFront). Some f.item) same, ap (λ (f : ReadFront). f.rest) same)

request_reads : (found : Option Numbered) (item : ServerRead) → option_map reads_request found ≡ Some item → 1 ≤ asked_read item
request_reads None item h = cc
request_reads (Some asked) item h = let same : reads_request asked ≡ item = cc in subst (λ (one : ServerRead). 1 ≤ asked_read one) same (omega arith)

start_asks : (start : Start) (message : Message) (item : ServerRead) → message_item start message ≡ Some item → count_if (is_request start) ≤ asked_read item
start_asks (Request method uri version) message item h = request_reads (server_request message) item h
start_asks (Status version code reason) message item h = omega arith

kind_few : (request : Bool) → count_if (is_request_kind (message_kind request)) ≤ count_if request
kind_few true = omega arith
kind_few false = omega arith

head_asks : (head : Head) (bytes : List ℕ) (span : Span) (most : ℕ) → count_if (is_request head.start) ≤ most → HasHead head bytes span → AsksMost most span
head_asks head bytes span most few has = subst (λ (k : ItemKind). count_if (is_request_kind k) ≤ most) (sym has.kind) (let kind = kind_few (is_request head.start) in omega (arith, kind, few))

read_before : (bytes rest : List ℕ) (item : ServerRead) (found : Option Front) → message_at bytes ≡ found → option_and_then message_front found ≡ Some (read_front item rest) → EndsBefore (AsksMost (asked_read item)) rest bytes (span_of bytes)
read_before bytes rest item None is h = cc
read_before bytes rest item (Some front) is h =
    let parts = item_parts (message_item front.message.head.start front.message) front.rest rest item h in
    subst (λ (l : List ℕ). EndsBefore (AsksMost (asked_read item)) l bytes (span_of bytes)) parts.1
    (weaker_before (HasHead front.message.head bytes) (AsksMost (asked_read item)) front.rest bytes (span_of bytes)
    (λ span. head_asks front.message.head bytes span (asked_read item) (start_asks front.message.head.start front.message item parts.0)) (message_before bytes front is))

front_before : (bytes rest : List ℕ) (item : ServerRead) → cond (begins_frame bytes) (frame_front bytes) (option_and_then message_front (message_at bytes)) ≡ Some (read_front item rest) → EndsBefore (AsksMost (asked_read item)) rest bytes (span_of bytes)
front_before [] rest item h = tt
front_before (b ∷ bytes) rest item h = by (b == dollar) refl h
  where
    by : (frame : Bool) → (b == dollar) ≡ frame → cond frame (frame_front (b ∷ bytes)) (option_and_then message_front (message_at (b ∷ bytes))) ≡ Some (read_front item rest) → EndsBefore (AsksMost (asked_read item)) rest (b ∷ bytes) (span_of (b ∷ bytes))
    by true is e =
        subst (EndsBefore (AsksMost (asked_read item)) rest (b ∷ bytes)) (sym (ap (λ t. cond t (frame_span (b ∷ bytes)) (message_span (b ∷ bytes))) is)) (frame_before (asked_read item) (b ∷ bytes) rest item e)
    by false is e = read_before (b ∷ bytes) rest item (message_at (b ∷ bytes)) refl e

-- How many requests a framer gives of a stream.
abbrev pub requests_framed : List ℕ → ℕ
requests_framed stream = length (requests_among (items_of stream))

pub one_counted : (shape : Shape) (items : List Shape) → length (requests_among (shape ∷ items)) ≡ count_if (is_request_kind shape.kind) + length (requests_among items)
one_counted shape items = by (is_request_kind shape.kind)
  where
    by : (request : Bool) → length (cond request (shape ∷ requests_among items) (requests_among items)) ≡ count_if request + length (requests_among items)
    by true = omega arith
    by false = omega arith

bad_asks : (one : ItemKind) → is_bad one ≡ true → count_if (is_request_kind one) ≡ 0
bad_asks kinds.Request is = cc
bad_asks kinds.Response is = refl
bad_asks kinds.Frame is = refl
bad_asks (kinds.Bad fault) is = refl

first_few : (most : ℕ) (rest stream : List ℕ) (found : Option Extent) → FirstBefore (AsksMost most) rest stream found → length (requests_among (cut_with found stream cut).items) ≤ most + requests_framed rest
first_few most rest stream None before = let none : length (requests_among (cut_with None stream cut).items) ≡ 0 = refl in omega (arith, none)
first_few most rest stream (Some extent) before = by (is_bad extent.span.kind) refl
  where
    left : List ℕ
    left = drop (extent.skipped + extent.span.len) stream

    by : (is : Bool) → is_bad extent.span.kind ≡ is → length (requests_among (behind is (shape_at stream extent) (cut left)).items) ≤ most + requests_framed rest
    by true is = let one = one_counted (shape_at stream extent) [] in let none = bad_asks extent.span.kind is in
        let few : length (requests_among (shape_at stream extent ∷ [])) ≤ most + requests_framed rest = omega (arith, one, none) in few
    by false is =
        let one = one_counted (shape_at stream extent) (items_of left) in
        let ends = before is in
        let same : requests_framed left ≡ requests_framed rest = ap requests_framed ends.0 in
        let few = ends.1 in
        let all : length (requests_among (shape_at stream extent ∷ items_of left)) ≤ most + requests_framed rest = omega (arith, one, same, few) in all

framed_first : (most : ℕ) (rest stream : List ℕ) → EndsBefore (AsksMost most) rest (drop (blank_lines stream) stream) (span_of (drop (blank_lines stream) stream)) → requests_framed stream ≤ most + requests_framed rest
framed_first most rest stream before =
    subst (λ (c : Cut). length (requests_among c.items) ≤ most + requests_framed rest) (sym (cut_step stream))
    (first_few most rest stream (first_extent stream) (extent_before (AsksMost most) rest stream (blank_lines stream) (span_of (drop (blank_lines stream) stream)) before))

-- So of a whole stream that is read.
pub framed_read : (items : List ServerRead) (stream : List ℕ) → AreRead stream items → requests_framed stream ≤ asked_among items
framed_read [] stream none = let same : requests_framed stream ≡ 0 = ap requests_framed none in omega (arith, same)
framed_read (item ∷ items) stream (rest, is, more) =
    let first = framed_first (asked_read item) rest stream (front_before (drop (blank_lines stream) stream) rest item is) in
    let later = framed_read items rest more in omega (arith, first, later)
