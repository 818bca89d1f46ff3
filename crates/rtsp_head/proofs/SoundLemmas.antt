-- What was read can be written.
use Rattle.std.proofs.Common.{◌≡◌, ℕ, ◌<◌, ◌≤◌, Bool, true, false, ◌&&◌, ◌==◌, not, nat_le, nat_lt, cond, List, [], ◌∷◌, ◌++◌, length, Option, None, Some, Result, Ok, Err, refl, sym, ◌∙◌, ap, subst, arith}
use Rattle.std.specs.Prelude.{codes, unwrap_or, option_and_then, option_map, IfSome, IsTrue}
use Rattle.std.specs.Option.{ok_or}
use Rattle.std.specs.List.{list_all, find}
use Rattle.std.proofs.lemmas.Bool.{and_parts, eq-eqb}
use Rattle.std.proofs.lemmas.List.{length-append}
use Rattle.std.proofs.lemmas.List.Folds.{list_all-append}
use Rattle.gate_bytes.specs.Ascii.{nul, lf, cr, space, colon}
use Rattle.gate_bytes.specs.Tokens.{is_token, trimmed, equal_fold}
use Rattle.gate_bytes.specs.Places.{cut_at}
use Rattle.gate_bytes.specs.Numbers.{number_in}
use Rattle.rtsp_head.specs.declared.header.Header.{Header}
use Rattle.rtsp_head.specs.declared.head.Head.{Head}
use Rattle.rtsp_head.specs.HeadParts.{Start, Request, Status}
use Rattle.rtsp_head.specs.declared.fault.HeadFault.{HeadFault}
use Rattle.rtsp_head.specs.declared.fault.HeadFault.TheVariants as faults
use Rattle.rtsp_head.specs.Lines.{and_then, result_map, head_lines, has_control}
use Rattle.rtsp_head.specs.Starts.{is_unspaced, names_protocol, request_with, request_of, status_with, status_of, start_of}
use Rattle.rtsp_head.specs.Headers.{header_limit, SoFar, Further, More, Begins, no_headers, closed, headers_in, goes_on, header_from, header_of, continued, with_header, with_further, further_of, with_line, after_lines, headers_of, field_of}
use Rattle.rtsp_head.specs.Heads.{head_of_lines, head_of}
use Rattle.rtsp_head.specs.HeadText.{is_line_text, is_start, is_trimmed, is_value, is_header, CanBeWritten}
use Rattle.rtsp_head.proofs.DigitLemmas.{number_small}
use Rattle.rtsp_head.proofs.TrimLemmas.{trimmed_twice}
use Rattle.rtsp_head.proofs.CutLemmas.{begins_apart, line_text_append}
use Rattle.rtsp_head.specs.declared.headers.TheConstants.{MOST_HEADERS}
use Rattle.rtsp_head.proofs.ListLemmas.{all_parts, all_trimmed, goes_through, are_lines, head_lines_kept, fits_line, Cut, CutIfSome, cut_found}

-- The parts of a line fit into a line.
cut_texts : (byte : ℕ) (text front back : List ℕ) → Cut byte text front back → is_line_text text ≡ true → (is_line_text front ≡ true) × (is_line_text back ≡ true)
cut_texts byte text front back cut h =
    let parts = all_parts (λ b. not (b == lf) && (not (b == cr) && not (b == nul))) front (byte ∷ back) (ap is_line_text (sym cut.whole) ∙ h) in
    (parts.0, (and_parts (not (byte == lf) && (not (byte == cr) && not (byte == nul))) (is_line_text back) parts.1).1)

-- The first part begins as the text does.
cut_begins : (text front back : List ℕ) (names : Bool) → Cut space text front back → names_protocol text ≡ names → names_protocol front ≡ names
cut_begins text front back names cut h = sym (begins_apart (codes "RTSP/") front back space refl) ∙ ap names_protocol (sym cut.whole) ∙ h

named_long : (text : List ℕ) → names_protocol text ≡ true → not (length text == 0) ≡ true
named_long [] h = cc
named_long (b ∷ text) h = grind arith

abbrev StartIfSome : Option Start → Type 0
StartIfSome None = Unit {0}
StartIfSome (Some start) = is_start start ≡ true

both : (a b : Bool) → a ≡ true → b ≡ true → a && b ≡ true
both a b ha hb = ap (λ t. t && b) ha ∙ hb

request_sound : (method uri version : List ℕ) (test : Bool) → (not (length method == 0) && not (length uri == 0)) && (is_unspaced version && names_protocol version) ≡ test →
    is_unspaced method ≡ true → is_unspaced uri ≡ true → names_protocol method ≡ false → is_line_text method ≡ true → is_line_text uri ≡ true → is_line_text version ≡ true →
    StartIfSome (cond test (Some (Request method uri version)) None)
request_sound method uri version false e m u n tm tu tv = tt
request_sound method uri version true e m u n tm tu tv =
    let all = and_parts (not (length method == 0) && not (length uri == 0)) (is_unspaced version && names_protocol version) e in
    let long = and_parts (not (length method == 0)) (not (length uri == 0)) all.0 in
    let last = and_parts (is_unspaced version) (names_protocol version) all.1 in
    both _ _ (both _ _ (both _ _ (both _ _ (both _ _ long.0 m) (ap not n)) (both _ _ long.1 u)) (both _ _ (both _ _ (named_long version last.1) last.0) last.1)) (both _ _ (both _ _ tm tu) tv)

request_second : (method rest : List ℕ) (cut : Option (List ℕ × List ℕ)) → CutIfSome space rest cut → is_unspaced method ≡ true → names_protocol method ≡ false →
    is_line_text method ≡ true → is_line_text rest ≡ true → StartIfSome (option_and_then (λ (second : List ℕ × List ℕ). request_with method second.0 second.1) cut)
request_second method rest None cut m n tm tr = tt
request_second method rest (Some second) cut m n tm tr =
    let texts = cut_texts space rest second.0 second.1 cut tr in
    request_sound method second.0 second.1 _ refl m cut.clean n tm texts.0 texts.1

request_first : (line : List ℕ) (cut : Option (List ℕ × List ℕ)) → CutIfSome space line cut → is_line_text line ≡ true → names_protocol line ≡ false →
    StartIfSome (option_and_then (λ (first : List ℕ × List ℕ). option_and_then (λ (second : List ℕ × List ℕ). request_with first.0 second.0 second.1) (cut_at space first.1)) cut)
request_first line None cut text names = tt
request_first line (Some first) cut text names =
    let texts = cut_texts space line first.0 first.1 cut text in
    request_second first.0 first.1 (cut_at space first.1) (cut_found space first.1) cut.clean (cut_begins line first.0 first.1 false cut names) texts.0 texts.1

code_sound : (version reason text : List ℕ) (number : Option ℕ) → number_in 3 text ≡ number → is_unspaced version ≡ true → names_protocol version ≡ true →
    is_line_text version ≡ true → is_line_text reason ≡ true →
    StartIfSome (option_and_then (λ code. Some (Status version code reason)) (option_and_then (λ code. cond (nat_le 100 code) (Some code) None) number))
code_sound version reason text None e v n tv tr = tt
code_sound version reason text (Some code) e v n tv tr =
    let small : code < 1000 = number_small text code e in
    by_test small (nat_le 100 code) refl
  where
    by_test : code < 1000 → (test : Bool) → nat_le 100 code ≡ test → StartIfSome (option_and_then (λ code. Some (Status version code reason)) (cond test (Some code) None))
    by_test small false low = tt
    by_test small true low =
        let high : nat_le code 999 ≡ true = grind arith in
        both _ _ (both _ _ (both _ _ (both _ _ (named_long version n) v) n) (both _ _ low high)) (both _ _ tv tr)

status_rest : (version rest : List ℕ) (cut : Option (List ℕ × List ℕ)) → CutIfSome space rest cut → is_unspaced version ≡ true → names_protocol version ≡ true →
    is_line_text version ≡ true → is_line_text rest ≡ true → StartIfSome (status_with version (unwrap_or cut (rest, [])))
status_rest version rest None cut v n tv tr = code_sound version [] rest (number_in 3 rest) refl v n tv refl
status_rest version rest (Some parts) cut v n tv tr = code_sound version parts.1 parts.0 (number_in 3 parts.0) refl v n tv (cut_texts space rest parts.0 parts.1 cut tr).1

status_first : (line : List ℕ) (cut : Option (List ℕ × List ℕ)) → CutIfSome space line cut → is_line_text line ≡ true → names_protocol line ≡ true →
    StartIfSome (option_and_then (λ (first : List ℕ × List ℕ). status_with first.0 (unwrap_or (cut_at space first.1) (first.1, []))) cut)
status_first line None cut text names = tt
status_first line (Some first) cut text names =
    let texts = cut_texts space line first.0 first.1 cut text in
    status_rest first.0 first.1 (cut_at space first.1) (cut_found space first.1) cut.clean (cut_begins line first.0 first.1 true cut names) texts.0 texts.1

abbrev StartIfOk : Result Start HeadFault → Type 0
StartIfOk (Ok start) = is_start start ≡ true
StartIfOk (Err fault) = Unit {0}

start_ok : (start : Option Start) → StartIfSome start → StartIfOk (ok_or start faults.Start)
start_ok None h = tt
start_ok (Some start) h = h

-- A first line gives a start that can be written.
start_sound : (line : List ℕ) → list_all goes_through line ≡ true → StartIfOk (start_of line)
start_sound line h = by_control (has_control line) refl
  where
    by_names : is_line_text line ≡ true → (names : Bool) → names_protocol line ≡ names → StartIfOk (ok_or (cond names (status_of line) (request_of line)) faults.Start)
    by_names text true e = start_ok (status_of line) (status_first line (cut_at space line) (cut_found space line) text e)
    by_names text false e = start_ok (request_of line) (request_first line (cut_at space line) (cut_found space line) text e)

    by_control : (control : Bool) → has_control line ≡ control → StartIfOk (cond control (Err faults.Control) (ok_or (cond (names_protocol line) (status_of line) (request_of line)) faults.Start))
    by_control true e = tt
    by_control false e = by_names (fits_line line h e) (names_protocol line) refl

-- a header whose value may still go on
abbrev Opened : Header → Type 0
Opened header = (is_token header.name ≡ true) × (is_line_text header.value ≡ true)

abbrev FurtherIfOk : Result Further HeadFault → Type 0
FurtherIfOk (Ok (More text)) = is_line_text text ≡ true
FurtherIfOk (Ok (Begins header)) = Opened header
FurtherIfOk (Err fault) = Unit {0}

header_sound : (line : List ℕ) (cut : Option (List ℕ × List ℕ)) → CutIfSome colon line cut → is_line_text line ≡ true → FurtherIfOk (result_map Begins (header_from cut))
header_sound line None cut text = tt
header_sound line (Some parts) cut text = by_test (is_token parts.0) refl
  where
    by_test : (test : Bool) → is_token parts.0 ≡ test → FurtherIfOk (result_map Begins (cond test (Ok (record { name = parts.0; value = trimmed parts.1 })) (Err faults.Name)))
    by_test false e = tt
    by_test true e = (e, all_trimmed _ parts.1 (cut_texts colon line parts.0 parts.1 cut text).1)

further_sound : (line : List ℕ) → list_all goes_through line ≡ true → FurtherIfOk (further_of line)
further_sound line h = by_control (has_control line) refl
  where
    by_more : is_line_text line ≡ true → (more : Bool) → FurtherIfOk (cond more (Ok (More (trimmed line))) (result_map Begins (header_of line)))
    by_more text true = all_trimmed _ line text
    by_more text false = header_sound line (cut_at colon line) (cut_found colon line) text

    by_control : (control : Bool) → has_control line ≡ control → FurtherIfOk (cond control (Err faults.Control) (cond (goes_on line) (Ok (More (trimmed line))) (result_map Begins (header_of line))))
    by_control true e = tt
    by_control false e = by_more (fits_line line h e) (goes_on line)

abbrev OpenedIfSome : Option Header → Type 0
OpenedIfSome None = Unit {0}
OpenedIfSome (Some header) = Opened header

-- what holds of the headers so far
record Holds (so_far : SoFar) : Type 0 where
  pub above : list_all is_header so_far.above ≡ true
  pub last : OpenedIfSome so_far.last
  pub few : length (headers_in so_far) ≤ MOST_HEADERS

closed_sound : (last : Option Header) → OpenedIfSome last → list_all is_header (closed last) ≡ true
closed_sound None h = refl
closed_sound (Some header) h =
    let once : is_trimmed (trimmed header.value) ≡ true = eq-eqb _ _ (ap length (trimmed_twice header.value)) in
    both _ _ (both _ _ h.0 (both _ _ once (all_trimmed _ header.value h.1))) refl

in_sound : (so_far : SoFar) → Holds so_far → list_all is_header (headers_in so_far) ≡ true
in_sound so_far holds = list_all-append is_header so_far.above (closed so_far.last) ∙ both _ _ holds.above (closed_sound so_far.last holds.last)

abbrev HoldsIfOk : Result SoFar HeadFault → Type 0
HoldsIfOk (Ok so_far) = Holds so_far
HoldsIfOk (Err fault) = Unit {0}

more_sound : (above : List Header) (last : Option Header) (text : List ℕ) → is_line_text text ≡ true → Holds (record { above = above; last = last }) →
    HoldsIfOk (continued (record { above = above; last = last }) text last)
more_sound above None text h holds = tt
more_sound above (Some header) text h holds = record {
  above = holds.above;
  last = (holds.last.0, line_text_append header.value (space ∷ text) holds.last.1 h);
  few = omega (arith, holds.few, length-append above (closed (Some header)), length-append above (closed (Some (record { name = header.name; value = header.value ++ (space ∷ text) }))));
}

begins_sound : (so_far : SoFar) (header : Header) → Opened header → Holds so_far → HoldsIfOk (with_header header_limit so_far header)
begins_sound so_far header h holds = by_room (nat_lt (length (headers_in so_far)) MOST_HEADERS) refl
  where
    by_room : (room : Bool) → nat_lt (length (headers_in so_far)) MOST_HEADERS ≡ room → HoldsIfOk (cond room (Ok (record { above = headers_in so_far; last = Some header })) (Err faults.Many))
    by_room false e = tt
    by_room true e = record {
      above = in_sound so_far holds;
      last = h;
      few = let below : length (headers_in so_far) < MOST_HEADERS = grind arith in omega (arith, length-append (headers_in so_far) (closed (Some header)));
    }

with_sound : (so_far : SoFar) (further : Result Further HeadFault) → FurtherIfOk further → Holds so_far → HoldsIfOk (and_then (with_further header_limit so_far) further)
with_sound so_far (Ok (More text)) h holds = more_sound so_far.above so_far.last text h holds
with_sound so_far (Ok (Begins header)) h holds = begins_sound so_far header h holds
with_sound so_far (Err fault) h holds = tt

then_sound : (read : Result SoFar HeadFault) (lines : List (List ℕ)) → HoldsIfOk read → ((so_far : SoFar) → Holds so_far → HoldsIfOk (after_lines header_limit so_far lines)) →
    HoldsIfOk (and_then (λ next. after_lines header_limit next lines) read)
then_sound (Ok so_far) lines h later = later so_far h
then_sound (Err fault) lines h later = tt

lines_sound : (lines : List (List ℕ)) → are_lines lines ≡ true → (so_far : SoFar) → Holds so_far → HoldsIfOk (after_lines header_limit so_far lines)
lines_sound [] h so_far holds = holds
lines_sound (line ∷ lines) h so_far holds =
    let parts = and_parts (list_all goes_through line) (are_lines lines) h in
    then_sound (with_line header_limit so_far line) lines (with_sound so_far (further_of line) (further_sound line parts.0) holds) (lines_sound lines parts.1)

abbrev HeadersIfOk : Result (List Header) HeadFault → Type 0
HeadersIfOk (Ok headers) = (length headers ≤ MOST_HEADERS) × (list_all is_header headers ≡ true)
HeadersIfOk (Err fault) = Unit {0}

headers_sound : (read : Result SoFar HeadFault) → HoldsIfOk read → HeadersIfOk (result_map headers_in read)
headers_sound (Ok so_far) h = (h.few, in_sound so_far h)
headers_sound (Err fault) h = tt

abbrev HeadIfOk : Result Head HeadFault → Type 0
HeadIfOk (Ok head) = CanBeWritten head.start head.headers
HeadIfOk (Err fault) = Unit {0}

joined_sound : (start : Result Start HeadFault) (headers : Result (List Header) HeadFault) → StartIfOk start → HeadersIfOk headers →
    HeadIfOk (and_then (λ s. result_map (λ hs. record { start = s; headers = hs }) headers) start)
joined_sound (Err fault) headers s h = tt
joined_sound (Ok start) (Err fault) s h = tt
joined_sound (Ok start) (Ok headers) s h = record { start = s; few = h.0; headers = h.1 }

of_lines_sound : (lines : List (List ℕ)) → are_lines lines ≡ true → HeadIfOk (head_of_lines header_limit lines)
of_lines_sound [] h = tt
of_lines_sound (line ∷ lines) h =
    let parts = and_parts (list_all goes_through line) (are_lines lines) h in
    joined_sound (start_of line) (headers_of header_limit lines) (start_sound line parts.0)
    (headers_sound (after_lines header_limit no_headers lines) (lines_sound lines parts.1 no_headers (record { above = refl; last = tt; few = omega arith })))

-- A head that was read can be written.
pub read_sound : (bytes : List ℕ) (head : Head) → head_of bytes ≡ Ok head → CanBeWritten head.start head.headers
read_sound bytes head h = subst HeadIfOk h (of_lines_sound (head_lines bytes) (head_lines_kept bytes))

field_step : (header : Header) (test : Bool) (later : Option Header) → is_value header.value ≡ true → IfSome (option_map (λ h. h.value) later) (λ value. IsTrue (is_value value)) →
    IfSome (option_map (λ (h : Header). h.value) (cond test (Some header) later)) (λ value. IsTrue (is_value value))
field_step header true later h rest = h
field_step header false later h rest = rest

-- A field of headers that can be written is a value that can be.
pub field_sound : (headers : List Header) (name : List ℕ) → list_all is_header headers ≡ true → IfSome (field_of headers name) (λ value. IsTrue (is_value value))
field_sound [] name h = tt
field_sound (header ∷ headers) name h =
    let parts = and_parts (is_header header) (list_all is_header headers) h in
    let value = and_parts (is_token header.name) (is_value header.value) parts.0 in
    field_step header (equal_fold header.name name) (find (λ h. equal_fold h.name name) headers) value.1 (field_sound headers name parts.1)

-- What holds of what a value says.
pub some_seen : {A : Type 0} (seen : A → List ℕ) (o : Option A) → IfSome (option_map seen o) (λ value. IsTrue (is_value value)) → IfSome o (λ x. IsTrue (is_value (seen x)))
some_seen seen None h = tt
some_seen seen (Some x) h = h
