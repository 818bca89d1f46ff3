-- A first line and headers that are marked line by line are those of the head.
use Rattle.std.proofs.Common.{◌≡◌, ◌∙◌, ℕ, ◌+◌, ◌-◌, ◌<◌, ◌≤◌, ◌&&◌, ◌||◌, nat_le, nat_lt, Bool, true, false, cond, List, [], ◌∷◌, ◌++◌, length, take, drop, Option, Some, None, Ok, Err, get_or, suc, ◌==◌, refl, sym, ap, subst, arith}
use Rattle.std.specs.List.{list_all, find}
use Rattle.std.specs.Str.Lines.{strip_carriage_return}
use Rattle.std.specs.Prelude.{IfSome, option_map}
use Rattle.std.proofs.lemmas.Bool.{lt-ltb, ltb-true, le-leb, leb-true, and_parts}
use Rattle.std.proofs.lemmas.List.{length-append, length-take, length-drop, drop-drop, drop-take, take-take, take-append-drop, append-nil}
use Rattle.std.proofs.lemmas.List.Folds.{list_all-append}
use Rattle.std.proofs.Math.Seq.{take-length, drop-length, take-append_seam, take-append-le, drop-cons}
use Rattle.gate_bytes.specs.Ascii.{lf, cr, colon}
use Rattle.gate_bytes.specs.Tokens.{is_token, trimmed, equal_fold}
use Rattle.gate_bytes.specs.Places.{place_of, cut_at}
use Rattle.gate_bytes.proofs.SeamLemmas.{cut_joined, drop_at_seam}
use Rattle.rtsp_head.specs.declared.header.Header.{Header}
use Rattle.rtsp_head.specs.declared.headers.TheConstants.{MOST_HEADERS}
use Rattle.rtsp_head.specs.declared.fault.HeadFault.TheVariants as faults
use Rattle.rtsp_head.specs.declared.marks.HeaderMark.{HeaderMark}
use Rattle.rtsp_head.specs.declared.marks.StartMark.{StartMark}
use Rattle.rtsp_head.specs.HeadParts.{Start}
use Rattle.rtsp_head.specs.Starts.{start_of}
use Rattle.rtsp_head.specs.Heads.{head_of_lines, head_of}
use Rattle.rtsp_head.specs.Lines.{and_then, result_map, has_control, line_apart, first_line, head_lines, is_empty_line}
use Rattle.rtsp_head.specs.LineWalk.{IsPassed}
use Rattle.rtsp_head.specs.LastHeader.{apart}
use Rattle.rtsp_head.specs.Items.{begins_with_lf, head_from, head_len}
use Rattle.rtsp_head.specs.Headers.{header_limit, headers_of, headers_in, More, Begins, goes_on, header_from, further_of, with_further, with_line, after_lines, no_headers, field_of}
use Rattle.rtsp_head.specs.MarkedHeads.{is_short_of, AreMarks, IsStartMark, AreHeadMarks, AreFrontMarks, IsLineMarked}
use Rattle.rtsp_head.specs.Marks.{header_marked, headers_marked, marked_len, has_marked, start_marked, mark_of, IsStartPut, IsBegun}
use Rattle.rtsp_head.proofs.LastLemmas.{begun, tidy_last}
use Rattle.rtsp_head.proofs.TrimLemmas.{trimmed_twice}
use Rattle.rtsp_head.proofs.LineLemmas.{lines_apart}
use Rattle.rtsp_head.proofs.HeadEndLemmas.{place_in_front, head_goes_on, head_needs_lf}
use Rattle.rtsp_head.proofs.StartMarkLemmas.{start_places}
use Rattle.rtsp_head.proofs.PassLemmas.{stripped_empty, later_some, by_lines}

-- A line begins with a header's name; a colon and the value stand behind it.
pub record IsHeaderLine (line : List ℕ) (header : Header) : Type 0 where
  pub name_is : take (length header.name) line ≡ header.name
  pub value_is : trimmed (drop (length header.name + 1) line) ≡ header.value
  pub longer : length header.name < length line

header_line : (line name value : List ℕ) → line ≡ name ++ (colon ∷ value) → IsHeaderLine line (record { name = name; value = trimmed value })
header_line line name value is = record {
  name_is = ap (take (length name)) is ∙ take-append_seam name (colon ∷ value);
  value_is = ap (λ text. trimmed (drop (length name + 1) text)) is ∙ ap trimmed (drop_at_seam name colon value);
  longer = omega (arith, ap length is, length-append name (colon ∷ value));
}

begins_named : (line : List ℕ) (header : Header) (parts : List ℕ × List ℕ) (token : Bool) → cut_at colon line ≡ Some parts
    → result_map Begins (cond token (Ok (record { name = parts.0; value = trimmed parts.1 })) (Err faults.Name)) ≡ Ok (Begins header) → IsHeaderLine line header
begins_named line header parts true cut e =
    let same : record { name = parts.0; value = trimmed parts.1 } ≡ header = cc in
    subst (IsHeaderLine line) same (header_line line parts.0 parts.1 (cut_joined colon line parts cut))
begins_named line header parts false cut e = cc

begins_cut : (line : List ℕ) (header : Header) (cut : Option (List ℕ × List ℕ)) → cut_at colon line ≡ cut → result_map Begins (header_from cut) ≡ Ok (Begins header) → IsHeaderLine line header
begins_cut line header None is e = cc
begins_cut line header (Some parts) is e = begins_named line header parts (is_token parts.0) is e

begins_by : (line : List ℕ) (header : Header) (control more : Bool) → cond control (Err faults.Control) (cond more (Ok (More (trimmed line))) (result_map Begins (header_from (cut_at colon line)))) ≡ Ok (Begins header) → IsHeaderLine line header
begins_by line header true more e = cc
begins_by line header false true e = cc
begins_by line header false false e = begins_cut line header (cut_at colon line) refl e

pub begins_header : (line : List ℕ) (header : Header) → further_of line ≡ Ok (Begins header) → IsHeaderLine line header
begins_header line header e = begins_by line header (has_control line) (goes_on line) e

-- A line stands first, and this rest behind its end.
record StandsFirst (bytes line rest : List ℕ) : Type 0 where
  line_is : take (length line) bytes ≡ line
  rest_is : drop (length bytes - length rest) bytes ≡ rest

stripped_first : (text : List ℕ) (returns : Bool) (more : List ℕ) → let line = cond returns (take (length text - 1) text) text in take (length line) (text ++ more) ≡ line
stripped_first text true more =
    let len : length (take (length text - 1) text) ≡ length text - 1 = grind (arith, length-take (length text - 1) text) in
    ap (λ n. take n (text ++ more)) len ∙ take-append-le (length text - 1) text more (omega arith)
stripped_first text false more = take-append_seam text more

line_first : (bytes : List ℕ) (cut : Option (List ℕ × List ℕ)) → cut_at lf bytes ≡ cut → StandsFirst bytes (line_apart bytes cut).0 (line_apart bytes cut).1
line_first bytes None is = record {
  line_is = take-length bytes;
  rest_is = let all : length bytes - 0 ≡ length bytes = omega arith in ap (λ n. drop n bytes) all ∙ drop-length bytes;
}
line_first bytes (Some parts) is =
    let joined = cut_joined lf bytes parts is in
    let line = strip_carriage_return parts.0 in
    let before : length bytes - length parts.1 ≡ length parts.0 + 1 = omega (arith, ap length joined, length-append parts.0 (lf ∷ parts.1)) in
    record {
      line_is = ap (take (length line)) joined ∙ stripped_first parts.0 (get_or parts.0 (length parts.0 - 1) 0 == cr) (lf ∷ parts.1);
      rest_is = ap (λ n. drop n bytes) before ∙ ap (drop (length parts.0 + 1)) joined ∙ drop_at_seam parts.0 lf parts.1;
    }

stands_first : (bytes line rest : List ℕ) → ◌≡◌ {A = List ℕ × List ℕ} (line, rest) (first_line bytes) → StandsFirst bytes line rest
stands_first bytes line rest is = subst (λ (parts : List ℕ × List ℕ). StandsFirst bytes parts.0 parts.1) (sym is) (line_first bytes (cut_at lf bytes) refl)

-- One line more behind those that are marked.
marked_more : (lines : List ℕ) (marks : List HeaderMark) (mark : HeaderMark) → headers_marked lines (marks ++ mark ∷ []) ≡ headers_marked lines marks ++ header_marked (drop (marked_len marks) lines) mark ∷ []
marked_more lines [] mark = refl
marked_more lines (first ∷ marks) mark =
    let rest = drop (first.line + 2) lines in
    ap (λ headers. header_marked lines first ∷ headers)
    (marked_more rest marks mark ∙ ap (λ left. headers_marked rest marks ++ header_marked left mark ∷ []) (drop-drop (marked_len marks) (first.line + 2) lines))

marked_longer : (marks : List HeaderMark) (mark : HeaderMark) → marked_len (marks ++ mark ∷ []) ≡ marked_len marks + (mark.line + 2)
marked_longer [] mark = omega arith
marked_longer (first ∷ marks) mark = omega (arith, marked_longer marks mark)

as_many : (lines : List ℕ) (marks : List HeaderMark) → length (headers_marked lines marks) ≡ length marks
as_many lines [] = refl
as_many lines (mark ∷ marks) = omega (arith, as_many (drop (mark.line + 2) lines) marks)

-- The lines of a head up to a rest are marked: the lines that are left bring their headers to where all lines bring none.
pub record IsMarkedTo (lines rest : List ℕ) (marks : List HeaderMark) : Type 0 where
  pub headers : after_lines header_limit (apart (headers_marked lines marks)) (head_lines rest) ≡ after_lines header_limit no_headers (head_lines lines)
  pub tidy : headers_in (apart (headers_marked lines marks)) ≡ headers_marked lines marks
  pub rest_is : drop (marked_len marks) lines ≡ rest
  pub within : marked_len marks ≤ length lines
  pub longer : list_all (λ mark. nat_lt mark.name mark.line) marks ≡ true

pub none_marked : (lines : List ℕ) → IsMarkedTo lines lines []
none_marked lines = record { headers = refl; tidy = refl; rest_is = refl; within = omega arith; longer = refl }

-- the header whose line stands first in the rest
header_first : (rest line : List ℕ) (header : Header) → take (length line) rest ≡ line → IsHeaderLine line header → header_marked rest (record { line = length line; name = length header.name }) ≡ header
header_first rest line header first is =
    let short : length header.name ≤ length line = let longer = is.longer in omega (arith, longer) in
    let split : rest ≡ line ++ drop (length line) rest = sym (take-append-drop (length line) rest) ∙ ap (λ text. text ++ drop (length line) rest) first in
    let name : take (length header.name) rest ≡ header.name =
    ap (take (length header.name)) split ∙ take-append-le (length header.name) line (drop (length line) rest) short ∙ is.name_is in
    ap (λ text. record { name = text; value = trimmed (drop (length header.name + 1) (take (length line) rest)) }) name
    ∙ ap (λ text. record { name = header.name; value = trimmed (drop (length header.name + 1) text) }) first
    ∙ ap (λ value. record { name = header.name; value = value }) is.value_is

line_marked : (lines rest line after : List ℕ) (old : Option (List HeaderMark)) (now : List HeaderMark) → IfSome old (IsMarkedTo lines rest) → head_lines rest ≡ line ∷ head_lines after
    → ◌≡◌ {A = List ℕ × List ℕ} (line, after) (first_line rest) → IsLineMarked old now line (length rest - length after) → IsMarkedTo lines after now
line_marked lines rest line after old now before lines_are apart_is marked =
    let first = stands_first rest line after apart_is in
    let header = marked.header in
    let marks = marked.put.marks in
    let mark : HeaderMark = record { line = length line; name = length header.name } in
    let so : IsMarkedTo lines rest marks = subst (λ (o : Option (List HeaderMark)). IfSome o (IsMarkedTo lines rest)) marked.put.was before in
    let is = begins_header line header marked.begins in
    let shown = headers_marked lines marks in
    let added : headers_marked lines now ≡ shown ++ header ∷ [] =
    ap (headers_marked lines) marked.put.is ∙ marked_more lines marks mark
    ∙ ap (λ left. shown ++ header_marked left mark ∷ []) so.rest_is ∙ ap (λ one. shown ++ one ∷ []) (header_first rest line header first.line_is is) in
    let few : length shown < MOST_HEADERS = omega (arith, as_many lines marks, marked.put.few) in
    let taken : with_line header_limit (apart shown) line ≡ Ok (apart (headers_marked lines now)) =
    ap (and_then (with_further header_limit (apart shown))) marked.begins ∙ begun (apart shown) shown (headers_marked lines now) header.name header.value header.value (sym so.tidy) few added refl in
    let len : marked_len now ≡ marked_len marks + (length line + 2) = ap marked_len marked.put.is ∙ marked_longer marks mark in
    record {
      headers = sym (ap (after_lines header_limit (apart shown)) lines_are ∙ ap (and_then (λ next. after_lines header_limit next (head_lines after))) taken) ∙ so.headers;
      tidy = tidy_last shown (headers_marked lines now) header.name header.value header.value added refl (ap trimmed (sym is.value_is) ∙ trimmed_twice (drop (length header.name + 1) line) ∙ is.value_is);
      rest_is = ap (λ n. drop n lines) len ∙ sym (drop-drop (length line + 2) (marked_len marks) lines) ∙ ap (drop (length line + 2)) so.rest_is
          ∙ ap (λ n. drop n rest) (sym marked.put.ends) ∙ first.rest_is;
      within = omega (arith, len, so.within, marked.put.ends, ap length so.rest_is, length-drop (marked_len marks) lines);
      longer = ap (list_all (λ (mark : HeaderMark). nat_lt mark.name mark.line)) marked.put.is ∙ list_all-append (λ (mark : HeaderMark). nat_lt mark.name mark.line) marks (mark ∷ [])
          ∙ ap (λ t. t && (nat_lt (length header.name) (length line) && true)) so.longer ∙ ap (λ t. t && true) (lt-ltb (length header.name) (length line) is.longer);
    }

short_by : (end : Option ℕ) (lines rest len : ℕ) → len ≡ lines - rest → is_short_of (option_map (λ n. lines - rest + n) end) len ≡ true
short_by None lines rest len is = refl
short_by (Some n) lines rest len is = le-leb len (lines - rest + n) (omega (arith, is))

-- All lines up to the empty one are marked.
all_marked : (lines rest : List ℕ) (marks : List HeaderMark) → IsMarkedTo lines rest marks → head_lines rest ≡ [] → AreMarks lines marks
all_marked lines rest marks so none =
    record {
      headers = ap (result_map headers_in) (sym so.headers ∙ ap (after_lines header_limit (apart (headers_marked lines marks))) none) ∙ ap Ok so.tidy;
      there = ap (λ t. t && list_all (λ (mark : HeaderMark). nat_lt mark.name mark.line) marks) (le-leb (marked_len marks) (length lines) so.within) ∙ so.longer;
    }

all_short : (lines rest : List ℕ) (marks : List HeaderMark) → IsMarkedTo lines rest marks → IsPassed lines rest → is_short_of (head_len lines) (marked_len marks) ≡ true
all_short lines rest marks so passed =
    let len : marked_len marks ≡ length lines - length rest = omega (arith, so.within, ap length so.rest_is, length-drop (marked_len marks) lines) in
    ap (λ end. is_short_of end (marked_len marks)) passed.ends ∙ short_by (head_len rest) (length lines) (length rest) (marked_len marks) len

pub known_all : (lines rest : List ℕ) (marks : Option (List HeaderMark)) → IfSome marks (IsMarkedTo lines rest) → head_lines rest ≡ [] → IfSome marks (AreMarks lines)
known_all lines rest None so none = tt
known_all lines rest (Some marks) so none = all_marked lines rest marks so none

pub known_short : (lines rest : List ℕ) (marks : Option (List HeaderMark)) → IfSome marks (IsMarkedTo lines rest) → IsPassed lines rest → IfSome marks (λ known. is_short_of (head_len lines) (marked_len known) ≡ true)
known_short lines rest None so passed = tt
known_short lines rest (Some marks) so passed = all_short lines rest marks so passed

-- One line more, where its mark is known.
pub known_more : (lines rest line after : List ℕ) (old now : Option (List HeaderMark)) → IfSome old (IsMarkedTo lines rest) → head_lines rest ≡ line ∷ head_lines after
    → ◌≡◌ {A = List ℕ × List ℕ} (line, after) (first_line rest) → IfSome now (λ marks. IsLineMarked old marks line (length rest - length after)) → IfSome now (IsMarkedTo lines after)
known_more lines rest line after old None before lines_are first marked = tt
known_more lines rest line after old (Some now) before lines_are first marked = line_marked lines rest line after old now before lines_are first marked

-- A first line that ends with CRLF is marked by its parts.
start_marks : (bytes line rest : List ℕ) (mark : StartMark) (start : Start) → ◌≡◌ {A = List ℕ × List ℕ} (line, rest) (first_line bytes) → start_of line ≡ Ok start
    → mark ≡ mark_of (length line) start → length bytes - length rest ≡ length line + 2 → IsStartMark bytes mark
start_marks bytes line rest mark start apart says is ends =
    let first = stands_first bytes line rest apart in
    let places = start_places line start says in
    subst (IsStartMark bytes) (sym is) (
    let len = places.line in
    let same : take (mark_of (length line) start).line bytes ≡ line = ap (λ n. take n bytes) len ∙ first.line_is in
    record {
      line = ap (λ (parts : List ℕ × List ℕ). parts.0) (sym apart) ∙ sym same;
      rest = ap (λ (parts : List ℕ × List ℕ). parts.1) (sym apart) ∙ sym (ap (λ n. drop (n + 2) bytes) len ∙ ap (λ n. drop n bytes) (sym ends) ∙ first.rest_is);
      says = subst (λ (text : List ℕ). start_of text ≡ Ok (start_marked text (mark_of (length line) start))) (sym same) (says ∙ ap Ok places.says);
      apart = places.apart;
      within = omega (arith, places.within, len);
      there = omega (arith, ends, len);
    })

-- A head begins without headers.
pub put_none : (marks : Option (List HeaderMark)) (mark : StartMark) (len taken : ℕ) (start : Start) → IfSome marks (λ known. IsStartPut known mark len taken start) → IfSome marks (λ known. known ≡ [])
put_none None mark len taken start put = tt
put_none (Some marks) mark len taken start put = put.none

-- A line more leaves the mark of the first.
pub begun_more : (first old now : Option (List HeaderMark)) (mark before after : StartMark) (line : List ℕ) (taken : ℕ) → IsBegun first mark old before
    → IfSome now (λ known. IsLineMarked old known line taken) → IfSome now (λ known. after ≡ before) → IsBegun first mark now after
begun_more first old None mark before after line taken begun marked same = tt
begun_more first old (Some now) mark before after line taken begun marked same =
    let so = subst (λ (o : Option (List HeaderMark)). IsBegun first mark o before) marked.put.was begun in (so.0, same ∙ so.1)

-- The front of a head is marked where its first line and those behind it are.
pub known_behind : (bytes line rest : List ℕ) (first now : Option (List HeaderMark)) (len : ℕ) (mark after : StartMark) (start : Start) → ◌≡◌ {A = List ℕ × List ℕ} (line, rest) (first_line bytes) → start_of line ≡ Ok start
    → len ≡ length line → IfSome first (λ known. IsStartPut known mark len (length bytes - length rest) start) → IsBegun first mark now after
    → IfSome now (AreMarks rest) → IfSome now (λ known. is_short_of (head_len rest) (marked_len known) ≡ true) → IfSome now (AreFrontMarks bytes after)
known_behind bytes line rest first None len mark after start apart says len_is put begun known short = tt
known_behind bytes line rest first (Some marks) len mark after start apart says len_is put begun known short =
    let was = subst (λ (o : Option (List HeaderMark)). IfSome o (λ known. IsStartPut known mark len (length bytes - length rest) start)) begun.0 put in
    record {
      start = start_marks bytes line rest after start apart says (begun.1 ∙ was.is ∙ ap (λ n. mark_of n start) len_is) (was.ends ∙ ap (λ n. n + 2) len_is);
      lines = subst (λ (parts : List ℕ × List ℕ). AreMarks parts.1 marks) apart known;
      short = ap (λ (parts : List ℕ × List ℕ). is_short_of (head_len parts.1) (marked_len marks)) (sym apart) ∙ short;
    }

-- The first of the marked lines is there, and the others behind it.
pub record IsThere (lines : List ℕ) (mark : HeaderMark) (marks : List HeaderMark) : Type 0 where
  pub longer : mark.name < mark.line
  pub within : mark.line + 2 ≤ length lines
  pub others : has_marked (drop (mark.line + 2) lines) marks ≡ true

first_there : (lines : List ℕ) (mark : HeaderMark) (marks : List HeaderMark) → has_marked lines (mark ∷ marks) ≡ true → IsThere lines mark marks
first_there lines mark marks there =
    let both = and_parts (nat_le (marked_len (mark ∷ marks)) (length lines)) (list_all (λ (one : HeaderMark). nat_lt one.name one.line) (mark ∷ marks)) there in
    let names = and_parts (nat_lt mark.name mark.line) (list_all (λ (one : HeaderMark). nat_lt one.name one.line) marks) both.1 in
    let all : marked_len (mark ∷ marks) ≤ length lines = leb-true (marked_len (mark ∷ marks)) (length lines) both.0 in
    record {
      longer = ltb-true mark.name mark.line names.0;
      within = omega (arith, all);
      others = ap (λ t. t && list_all (λ (one : HeaderMark). nat_lt one.name one.line) marks) (le-leb (marked_len marks) (length (drop (mark.line + 2) lines)) (omega (arith, all, length-drop (mark.line + 2) lines))) ∙ names.1;
    }

left_at : (marks : List HeaderMark) (i : ℕ) (other : HeaderMark) → i < length marks → drop i marks ≡ get_or marks i other ∷ drop (i + 1) marks
left_at marks i other within = let next : suc i ≡ i + 1 = omega arith in drop-cons marks i other within ∙ ap (λ k. get_or marks i other ∷ drop k marks) next

pub there_at : (lines : List ℕ) (marks : List HeaderMark) (i : ℕ) (other : HeaderMark) → i < length marks → has_marked lines (drop i marks) ≡ true → IsThere lines (get_or marks i other) (drop (i + 1) marks)
there_at lines marks i other within there =
    first_there lines (get_or marks i other) (drop (i + 1) marks) (subst (λ (left : List HeaderMark). has_marked lines left ≡ true) (left_at marks i other within) there)

-- The value of a line, where so many bytes are its name's.
abbrev pub value_at : List ℕ → ℕ → ℕ → List ℕ
value_at lines line name = trimmed (drop (name + 1) (take line lines))

-- The field is that of the first line where the names are equal, and else among the others.
pub field_at : (lines name : List ℕ) (marks : List HeaderMark) (i line named : ℕ) (other : HeaderMark) (same : Bool) → i < length marks → line ≡ (get_or marks i other).line → named ≡ (get_or marks i other).name
    → same ≡ equal_fold (take named lines) name
    → field_of (headers_marked lines (drop i marks)) name ≡ cond same (Some (value_at lines line named)) (field_of (headers_marked (drop (line + 2) lines) (drop (i + 1) marks)) name)
field_at lines name marks i line named other same within line_is name_is same_is =
    let mark = get_or marks i other in
    let others = drop (i + 1) marks in
    ap (λ left. field_of (headers_marked lines left) name) (left_at marks i other within)
    ∙ found_by (equal_fold (take mark.name lines) name) (header_marked lines mark) (find (λ header. equal_fold header.name name) (headers_marked (drop (mark.line + 2) lines) others))
    ∙ sym (ap (λ n. cond same (Some (value_at lines line n)) (field_of (headers_marked (drop (line + 2) lines) others) name)) name_is
    ∙ ap (λ n. cond same (Some (value_at lines n mark.name)) (field_of (headers_marked (drop (n + 2) lines) others) name)) line_is
    ∙ ap (λ t. cond t (Some (value_at lines mark.line mark.name)) (field_of (headers_marked (drop (mark.line + 2) lines) others) name)) (same_is ∙ ap (λ n. equal_fold (take n lines) name) name_is))
  where
    found_by : (same : Bool) (header : Header) (later : Option Header) → option_map (λ header. header.value) (cond same (Some header) later) ≡ cond same (Some header.value) (option_map (λ header. header.value) later)
    found_by true header later = refl
    found_by false header later = refl

pub taken : (n : ℕ) (text : List ℕ) → n ≤ length text → length (take n text) ≡ n
taken n text within = grind (arith, length-take n text)

-- a head is no longer than its bytes
fits_by : (t : Bool) (o : Option ℕ) (n len : ℕ) → ((m : ℕ) → o ≡ Some m → m ≤ len) → cond t (Some 1) (option_map suc o) ≡ Some n → n ≤ suc len
fits_by true o n len fits e = let one : 1 ≡ n = cc in omega (arith, one)
fits_by false None n len fits e = cc
fits_by false (Some m) n len fits e = let next : suc m ≡ n = cc in omega (arith, next, fits m refl)

head_fits : (bytes : List ℕ) (starts : Bool) (n : ℕ) → head_from starts bytes ≡ Some n → n ≤ length bytes
head_fits [] starts n e = cc
head_fits (b ∷ bytes) starts n e =
    let next = b == lf || (starts && (b == cr && begins_with_lf bytes)) in
    fits_by (b == lf && starts) (head_from next bytes) n (length bytes) (λ m there. head_fits bytes next m there) e

-- Bytes behind the lines that are marked change nothing.
marked_front : (lines : List ℕ) (n : ℕ) (marks : List HeaderMark) → marked_len marks ≤ n → list_all (λ (mark : HeaderMark). nat_lt mark.name mark.line) marks ≡ true → headers_marked (take n lines) marks ≡ headers_marked lines marks
marked_front lines n [] within longer = refl
marked_front lines n (mark ∷ marks) within longer =
    let names = and_parts (nat_lt mark.name mark.line) (list_all (λ (one : HeaderMark). nat_lt one.name one.line) marks) longer in
    let shorter = ltb-true mark.name mark.line names.0 in
    let left : n ≡ mark.line + 2 + (n - (mark.line + 2)) = omega (arith, within) in
    let behind : drop (mark.line + 2) (take n lines) ≡ take (n - (mark.line + 2)) (drop (mark.line + 2) lines) = ap (λ k. drop (mark.line + 2) (take k lines)) left ∙ drop-take (mark.line + 2) (n - (mark.line + 2)) lines in
    let name : take mark.name (take n lines) ≡ take mark.name lines = take-take mark.name n lines (omega (arith, within, shorter)) in
    let line : take mark.line (take n lines) ≡ take mark.line lines = take-take mark.line n lines (omega (arith, within)) in
    ap (λ text. record { name = text; value = trimmed (drop (mark.name + 1) (take mark.line (take n lines))) } ∷ headers_marked (drop (mark.line + 2) (take n lines)) marks) name
    ∙ ap (λ text. record { name = take mark.name lines; value = trimmed (drop (mark.name + 1) text) } ∷ headers_marked (drop (mark.line + 2) (take n lines)) marks) line
    ∙ ap (λ rest. header_marked lines mark ∷ headers_marked rest marks) behind
    ∙ ap (λ headers. header_marked lines mark ∷ headers) (marked_front (drop (mark.line + 2) lines) (n - (mark.line + 2)) marks (omega (arith, within)) names.1)

lines_front : (lines : List ℕ) (n : ℕ) (marks : List HeaderMark) → head_len lines ≡ Some n → n ≤ length lines → marked_len marks ≤ n → AreMarks lines marks → AreMarks (take n lines) marks
lines_front lines n marks ends fits within known =
    let longer = (and_parts (nat_le (marked_len marks) (length lines)) (list_all (λ (one : HeaderMark). nat_lt one.name one.line) marks) known.there).1 in
    record {
      headers = ap (headers_of header_limit) (by_lines (length lines) lines n (place_of lf lines) (omega arith) refl ends) ∙ known.headers ∙ ap Ok (sym (marked_front lines n marks within longer));
      there = ap (λ t. t && list_all (λ (one : HeaderMark). nat_lt one.name one.line) marks) (le-leb (marked_len marks) (length (take n lines)) (omega (arith, within, taken n lines fits))) ∙ longer;
    }

-- A first line that is marked has a byte.
first_full : (bytes : List ℕ) (mark : StartMark) → IsStartMark bytes mark → (length (take mark.line bytes) == 0) ≡ false
first_full bytes mark at =
    let len : length (take mark.line bytes) ≡ mark.line = taken mark.line bytes (omega (arith, at.there)) in
    let some : 0 < length (take mark.line bytes) = omega (arith, len, at.apart, at.within) in
    grind (arith, some)

-- Bytes behind the first line change nothing of it.
start_front : (bytes : List ℕ) (k n : ℕ) (mark : StartMark) → first_line bytes ≡ (strip_carriage_return (take k bytes), drop (k + 1) bytes)
    → first_line (take n bytes) ≡ (strip_carriage_return (take k (take n bytes)), drop (k + 1) (take n bytes)) → k < n → n ≤ length bytes → IsStartMark bytes mark → IsStartMark (take n bytes) mark
start_front bytes k n mark whole front within fits at =
    let next : mark.line + 2 ≡ k + 1 =
    omega (arith, at.there, within, fits, ap (λ (parts : List ℕ × List ℕ). length parts.1) (sym whole) ∙ ap length at.rest, length-drop (k + 1) bytes, length-drop (mark.line + 2) bytes) in
    let line : take mark.line (take n bytes) ≡ take mark.line bytes = take-take mark.line n bytes (omega (arith, next, within)) in
    record {
      line = ap (λ (parts : List ℕ × List ℕ). parts.0) front ∙ ap strip_carriage_return (take-take k n bytes (omega (arith, within)))
          ∙ ap (λ (parts : List ℕ × List ℕ). parts.0) (sym whole) ∙ at.line ∙ sym line;
      rest = ap (λ (parts : List ℕ × List ℕ). parts.1) front ∙ ap (λ j. drop j (take n bytes)) (sym next);
      says = subst (λ (text : List ℕ). start_of text ≡ Ok (start_marked text mark)) (sym line) at.says;
      apart = at.apart;
      within = at.within;
      there = omega (arith, next, within, taken n bytes fits);
    }

front_by : (bytes : List ℕ) (n : ℕ) (mark : StartMark) (marks : List HeaderMark) (place : Option ℕ) → place_of lf bytes ≡ place → head_len bytes ≡ Some n → AreFrontMarks bytes mark marks → AreHeadMarks (take n bytes) mark marks
front_by bytes n mark marks None at ends known = let never : ◌≡◌ {A = Option ℕ} None (Some n) = sym (head_needs_lf bytes true at) ∙ ends in cc never
front_by bytes n mark marks (Some k) at ends known =
    let split : (text : List ℕ) → place_of lf text ≡ Some k → ◌≡◌ {A = List ℕ × List ℕ} (first_line text) (strip_carriage_return (take k text), drop (k + 1) text) = λ text there. ap (λ place. line_apart text (option_map (λ k. (take k text, drop (k + 1) text)) place)) there in
    let rest = drop (k + 1) bytes in
    let here : AreMarks rest marks = subst (λ (parts : List ℕ × List ℕ). AreMarks parts.1 marks) (split bytes at) known.lines in
    let short : is_short_of (head_len rest) (marked_len marks) ≡ true = ap (λ (parts : List ℕ × List ℕ). is_short_of (head_len parts.1) (marked_len marks)) (sym (split bytes at)) ∙ known.short in
    let line : strip_carriage_return (take k bytes) ≡ take mark.line bytes = ap (λ (parts : List ℕ × List ℕ). parts.0) (sym (split bytes at)) ∙ known.start.line in
    let full : is_empty_line (take k bytes) ≡ false = sym (stripped_empty (take k bytes)) ∙ ap (λ (text : List ℕ). length text == 0) line ∙ first_full bytes mark known.start in
    let next : suc k ≡ k + 1 = omega arith in
    later_some (suc k) n (head_len (drop (suc k) bytes)) (AreHeadMarks (take n bytes) mark marks)
    (λ m there sum.
    let parts : n ≡ k + 1 + m = omega (arith, sum) in
    let ends_rest : head_len rest ≡ Some m = ap (λ j. head_len (drop j bytes)) (sym next) ∙ there in
    let fits : m ≤ length rest = head_fits rest true m ends_rest in
    let all : n ≤ length bytes = head_fits bytes true n ends in
    let there_front : place_of lf (take n bytes) ≡ Some k = ap (place_of lf) (sym (append-nil (take n bytes))) ∙ place_in_front lf bytes [] k n at (omega (arith, parts)) in
    let within : marked_len marks ≤ m = leb-true (marked_len marks) m (ap (λ end. is_short_of end (marked_len marks)) (sym ends_rest) ∙ short) in
    let left : drop (k + 1) (take n bytes) ≡ take m rest = ap (λ j. drop (k + 1) (take j bytes)) parts ∙ drop-take (k + 1) m bytes in
    record {
      start = start_front bytes k n mark (split bytes at) (split (take n bytes) there_front) (omega (arith, parts)) all known.start;
      lines = subst (λ (parts : List ℕ × List ℕ). AreMarks parts.1 marks) (sym (split (take n bytes) there_front))
          (subst (λ (left : List ℕ). AreMarks left marks) (sym left) (lines_front rest m marks ends_rest fits within here));
    })
    (sym (head_goes_on bytes k at full) ∙ ends)

-- What is known of the front of a stream is known of the head that it begins with.
pub known_front : (bytes : List ℕ) (n : ℕ) (mark : StartMark) (marks : Option (List HeaderMark)) → head_len bytes ≡ Some n → IfSome marks (AreFrontMarks bytes mark) → IfSome marks (AreHeadMarks (take n bytes) mark)
known_front bytes n mark None ends known = tt
known_front bytes n mark (Some marks) ends known = front_by bytes n mark marks (place_of lf bytes) refl ends known

-- What is known of a whole head.
pub known_whole : (head : List ℕ) (mark : StartMark) (marks : Option (List HeaderMark)) → IfSome marks (AreFrontMarks head mark) → IfSome marks (AreHeadMarks head mark)
known_whole head mark None known = tt
known_whole head mark (Some marks) known = record { start = known.start; lines = known.lines }

-- The head that is marked, of this first line and these lines behind it.
pub head_marked : (head : List ℕ) (mark : StartMark) (marks : List HeaderMark) (start : Start) (rest : List ℕ) → AreHeadMarks head mark marks → start ≡ start_marked (take mark.line head) mark → rest ≡ drop (mark.line + 2) head
    → head_of head ≡ Ok (record { start = start; headers = headers_marked rest marks })
head_marked head mark marks start rest known start_is rest_is =
    let line = take mark.line head in
    let behind : (first_line head).1 ≡ rest = known.start.rest ∙ sym rest_is in
    let apart : ◌≡◌ {A = List ℕ × List ℕ} (line, rest) (first_line head) =
    ap (λ (text : List ℕ). (text, rest)) (sym known.start.line) ∙ ap (λ (text : List ℕ). ((first_line head).0, text)) (sym behind) in
    ap (head_of_lines header_limit) (lines_apart head line rest apart ∙ ap (λ t. cond t [] (line ∷ head_lines rest)) (first_full head mark known.start))
    ∙ ap (and_then (λ start. result_map (λ headers. record { start = start; headers = headers }) (headers_of header_limit (head_lines rest)))) (known.start.says ∙ ap Ok (sym start_is))
    ∙ ap (result_map (λ headers. record { start = start; headers = headers })) (subst (λ (left : List ℕ). AreMarks left marks) behind known.lines).headers
