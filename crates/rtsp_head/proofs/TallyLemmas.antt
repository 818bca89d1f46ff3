-- The tally of the lines is that of the headers.
use Rattle.std.proofs.Common.{◌≡◌, ℕ, ◌+◌, ◌<◌, Bool, true, false, nat_lt, cond, List, [], ◌∷◌, ◌++◌, length, Option, None, Some, Result, Ok, Err, refl, sym, ◌∙◌, ap, subst, arith}
use Rattle.std.specs.Prelude.{codes}
use Rattle.std.specs.Option.{option_map, option_or}
use Rattle.std.specs.List.{list_all, find}
use Rattle.std.specs.Char.{is_ascii_digit}
use Rattle.std.proofs.lemmas.List.Folds.{list_all-append}
use Rattle.std.proofs.lemmas.List.{length-append}
use Rattle.gate_bytes.specs.Ascii as ascii
use Rattle.gate_bytes.specs.Tokens.{is_token, is_blank, trimmed, without_front, without_end, equal_fold}
use Rattle.gate_bytes.specs.Numbers.{number_in}
use Rattle.gate_bytes.specs.Places.{cut_at}
use Rattle.rtsp_head.specs.declared.header.Header.{Header}
use Rattle.rtsp_head.specs.declared.facts.Length.{Length}
use Rattle.rtsp_head.specs.declared.fault.HeadFault.{HeadFault}
use Rattle.rtsp_head.specs.declared.fault.HeadFault.TheVariants as faults
use Rattle.rtsp_head.specs.declared.tally.LengthPart.{LengthPart}
use Rattle.rtsp_head.specs.declared.tally.LengthPart.TheVariants as parts
use Rattle.rtsp_head.specs.declared.tally.Last.{Last}
use Rattle.rtsp_head.specs.declared.tally.Last.TheVariants as lasts
use Rattle.rtsp_head.specs.declared.tally.Tally.{Tally}
use Rattle.rtsp_head.specs.Lines.{and_then, result_map, has_control}
use Rattle.rtsp_head.specs.Headers.{header_limit, SoFar, Further, More, Begins, closed, headers_in, goes_on, header_from, continued, with_header, with_further, further_of, with_line, after_lines, no_headers, headers_of, field_of}
use Rattle.rtsp_head.specs.Heads.{length_in, length_of, length_in_headers}
use Rattle.rtsp_head.specs.Tallies.{number_part, part_of, joined, last_part, last_of, tally_more, tally_header, tally_with, tally_line, tally_lines, empty_tally, part_length, tally_length}
use Rattle.rtsp_head.specs.declared.headers.TheConstants.{MOST_HEADERS}
use Rattle.rtsp_head.proofs.TrimLemmas.{front_blank, front_kept, end_blank, end_kept, blank_nothing, other_something, trimmed_twice}

-- what two texts say that are joined by a space
joined_nothing : (part : LengthPart) → joined part parts.Blank ≡ part
joined_nothing parts.Blank = refl
joined_nothing (parts.Number n) = refl
joined_nothing parts.Other = refl

nothing_joined : (part : LengthPart) → joined parts.Blank part ≡ part
nothing_joined parts.Blank = refl
nothing_joined (parts.Number n) = refl
nothing_joined parts.Other = refl

both_joined : (m n : Option ℕ) → joined (number_part m) (number_part n) ≡ parts.Other
both_joined None None = refl
both_joined None (Some n) = refl
both_joined (Some m) None = refl
both_joined (Some m) (Some n) = refl

something : (text : List ℕ) → 0 < length text → part_of text ≡ number_part (number_in 10 text)
something [] h = absurd (omega arith)
something (b ∷ text) h = grind arith

-- a text with a space in it is no number
spaced : (front text : List ℕ) → number_in 10 (front ++ (ascii.space ∷ text)) ≡ None
spaced front text = let no : list_all is_ascii_digit (front ++ (ascii.space ∷ text)) ≡ false = list_all-append is_ascii_digit front (ascii.space ∷ text) ∙ grind arith in grind arith

joined_by : (front text : List ℕ) (front_is text_is : Bool) → list_all is_blank front ≡ front_is → list_all is_blank text ≡ text_is →
    part_of (trimmed (front ++ (ascii.space ∷ text))) ≡ joined (part_of (trimmed front)) (part_of (trimmed text))
joined_by front text true b f t =
    let left : trimmed (front ++ (ascii.space ∷ text)) ≡ trimmed text = ap without_end (front_blank front (ascii.space ∷ text) f) in
    ap part_of left ∙ sym (nothing_joined (part_of (trimmed text))) ∙ ap (λ p. joined (part_of p) (part_of (trimmed text))) (sym (blank_nothing front f))
joined_by front text false true f t =
    let left : trimmed (front ++ (ascii.space ∷ text)) ≡ trimmed front = ap without_end (front_kept front (ascii.space ∷ text) f) ∙ end_blank (without_front front) (ascii.space ∷ text) t in
    ap part_of left ∙ sym (joined_nothing (part_of (trimmed front))) ∙ ap (λ p. joined (part_of (trimmed front)) (part_of p)) (sym (blank_nothing text t))
joined_by front text false false f t =
    let kept : trimmed (front ++ (ascii.space ∷ text)) ≡ without_front front ++ without_end (ascii.space ∷ text) = ap without_end (front_kept front (ascii.space ∷ text) f) ∙ end_kept (without_front front) (ascii.space ∷ text) t in
    let space : without_end (ascii.space ∷ text) ≡ ascii.space ∷ without_end text = grind arith in
    let whole : trimmed (front ++ (ascii.space ∷ text)) ≡ without_front front ++ (ascii.space ∷ without_end text) = kept ∙ ap (λ e. without_front front ++ e) space in
    let long : 0 < length (without_front front ++ (ascii.space ∷ without_end text)) = omega (arith, length-append (without_front front) (ascii.space ∷ without_end text)) in
    ap part_of whole ∙ something _ long ∙ ap number_part (spaced (without_front front) (without_end text)) ∙ sym (
    ap (λ p. joined p (part_of (trimmed text))) (something (trimmed front) (other_something front f))
    ∙ ap (λ p. joined (number_part (number_in 10 (trimmed front))) p) (something (trimmed text) (other_something text t))
    ∙ both_joined (number_in 10 (trimmed front)) (number_in 10 (trimmed text)))

-- What a value says to which text is joined by a space.
part_more : (value text : List ℕ) → trimmed text ≡ text → part_of (trimmed (value ++ (ascii.space ∷ text))) ≡ joined (part_of (trimmed value)) (part_of text)
part_more value text h = joined_by value text (list_all is_blank value) (list_all is_blank text) refl refl ∙ ap (λ t. joined (part_of (trimmed value)) (part_of t)) h

part_length_is : (value : List ℕ) → part_length (Some (part_of value)) ≡ length_in (number_in 10 value)
part_length_is [] = refl
part_length_is (b ∷ value) = ap (λ p. part_length (Some p)) (something (b ∷ value) (omega arith)) ∙ by_number (number_in 10 (b ∷ value))
  where
    by_number : (n : Option ℕ) → part_length (Some (number_part n)) ≡ length_in n
    by_number None = refl
    by_number (Some n) = refl

length_is : (value : Option (List ℕ)) → part_length (option_map part_of value) ≡ length_of value
length_is None = refl
length_is (Some value) = part_length_is value

abbrev pub content_length : List ℕ
content_length = codes "Content-Length"

or_first : (test : Bool) (value : List ℕ) (o p : Option (List ℕ)) → o ≡ p → cond test (Some value) o ≡ cond test (Some value) p
or_first test value o p h = ap (λ q. cond test (Some value) q) h

-- the field of a longer list
field_append : (above more : List Header) (name : List ℕ) → field_of (above ++ more) name ≡ option_or (field_of above name) (field_of more name)
field_append [] more name = refl
field_append (header ∷ above) more name =
    field_step header (equal_fold header.name name) (find (λ header. equal_fold header.name name) (above ++ more)) (find (λ header. equal_fold header.name name) above) (field_of more name) (field_append above more name)
  where
    field_step : (header : Header) (test : Bool) (long short : Option Header) (later : Option (List ℕ)) →
        option_map (λ header. header.value) long ≡ option_or (option_map (λ header. header.value) short) later →
        option_map (λ header. header.value) (cond test (Some header) long) ≡ option_or (option_map (λ header. header.value) (cond test (Some header) short)) later
    field_step header true long short later h = refl
    field_step header false long short later h = h

abbrev pub last_seen : Option Header → Last
last_seen None = lasts.Missing
last_seen (Some header) = last_of header.name (trimmed header.value)

-- a tally is that of the headers so far
pub record Fits (tally : Tally) (so_far : SoFar) : Type 0 where
  pub count : tally.count ≡ length (headers_in so_far)
  pub found : tally.found ≡ option_map part_of (field_of so_far.above content_length)
  pub last : tally.last ≡ last_seen so_far.last

option_or_map : (o p : Option (List ℕ)) → option_map part_of (option_or o p) ≡ option_or (option_map part_of o) (option_map part_of p)
option_or_map None p = refl
option_or_map (Some x) p = refl

last_fits : (last : Option Header) → last_part (last_seen last) ≡ option_map part_of (field_of (closed last) content_length)
last_fits None = refl
last_fits (Some header) = by_test (equal_fold header.name content_length)
  where
    by_test : (test : Bool) → last_part (cond test (lasts.Length (part_of (trimmed header.value))) lasts.Other)
        ≡ option_map part_of (option_map (λ (header : Header). header.value) (cond test (Some (record { name = header.name; value = trimmed header.value })) None))
    by_test true = refl
    by_test false = refl

-- the Content-Length of all headers so far
found_fits : (tally : Tally) (so_far : SoFar) → Fits tally so_far →
    option_or tally.found (last_part tally.last) ≡ option_map part_of (field_of (headers_in so_far) content_length)
found_fits tally so_far fits =
    ap (λ f. option_or f (last_part tally.last)) fits.found ∙ ap (λ l. option_or (option_map part_of (field_of so_far.above content_length)) (last_part l)) fits.last
    ∙ ap (λ p. option_or (option_map part_of (field_of so_far.above content_length)) p) (last_fits so_far.last)
    ∙ sym (option_or_map (field_of so_far.above content_length) (field_of (closed so_far.last) content_length))
    ∙ sym (ap (option_map part_of) (field_append so_far.above (closed so_far.last) content_length))

length_fits : (tally : Tally) (so_far : SoFar) → Fits tally so_far → tally_length tally ≡ length_in_headers (headers_in so_far)
length_fits tally so_far fits = ap part_length (found_fits tally so_far fits) ∙ length_is (field_of (headers_in so_far) content_length)

same_length : (above : List Header) (old new : Header) → length (headers_in (record { above = above; last = Some old })) ≡ length (headers_in (record { above = above; last = Some new }))
same_length above old new = length-append above (closed (Some old)) ∙ sym (length-append above (closed (Some new)))

-- both go on alike, or both meet the same fault
abbrev Alike : Result Tally HeadFault → Result SoFar HeadFault → Type 0
Alike (Ok tally) (Ok so_far) = Fits tally so_far
Alike (Ok tally) (Err fault) = ⊥
Alike (Err fault) (Ok so_far) = ⊥
Alike (Err fault) (Err other) = fault ≡ other

-- texts that were trimmed
abbrev Tidy : Further → Type 0
Tidy (More text) = trimmed text ≡ text
Tidy (Begins header) = trimmed header.value ≡ header.value

more_by : (tally : Tally) (above : List Header) (header : Header) (text : List ℕ) (test : Bool) → equal_fold header.name content_length ≡ test → trimmed text ≡ text →
    Fits tally (record { above = above; last = Some header }) →
    Alike (tally_more tally (cond test (lasts.Length (part_of (trimmed header.value))) lasts.Other) (part_of text))
    (Ok (record { above = above; last = Some (record { name = header.name; value = header.value ++ (ascii.space ∷ text) }) }))
more_by tally above header text true e tidy fits = record {
  count = fits.count ∙ same_length above header (record { name = header.name; value = header.value ++ (ascii.space ∷ text) });
  found = fits.found;
  last = ap lasts.Length (sym (part_more header.value text tidy)) ∙ ap (λ t. cond t (lasts.Length (part_of (trimmed (header.value ++ (ascii.space ∷ text))))) lasts.Other) (sym e);
}
more_by tally above header text false e tidy fits = record {
  count = fits.count ∙ same_length above header (record { name = header.name; value = header.value ++ (ascii.space ∷ text) });
  found = fits.found;
  last = fits.last ∙ ap (λ t. cond t (lasts.Length (part_of (trimmed header.value))) lasts.Other) e
      ∙ ap (λ t. cond t (lasts.Length (part_of (trimmed (header.value ++ (ascii.space ∷ text))))) lasts.Other) (sym e);
}

more_alike : (tally : Tally) (above : List Header) (last : Option Header) (text : List ℕ) → trimmed text ≡ text → Fits tally (record { above = above; last = last }) →
    Alike (tally_more tally (last_seen last) (part_of text)) (continued (record { above = above; last = last }) text last)
more_alike tally above None text tidy fits = refl
more_alike tally above (Some header) text tidy fits = more_by tally above header text (equal_fold header.name content_length) refl tidy fits

header_by : (tally : Tally) (so_far : SoFar) (header : Header) (room : Bool) → trimmed header.value ≡ header.value → Fits tally so_far →
    Alike (cond room (Ok (record { count = tally.count + 1; found = option_or tally.found (last_part tally.last); last = last_of header.name header.value })) (Err faults.Many))
    (cond room (Ok (record { above = headers_in so_far; last = Some header })) (Err faults.Many))
header_by tally so_far header true tidy fits = record {
  count = omega (arith, fits.count, length-append (headers_in so_far) (closed (Some header)));
  found = found_fits tally so_far fits;
  last = ap (last_of header.name) (sym tidy);
}
header_by tally so_far header false tidy fits = refl

header_alike : (tally : Tally) (so_far : SoFar) (header : Header) → trimmed header.value ≡ header.value → Fits tally so_far →
    Alike (tally_header tally header) (with_header header_limit so_far header)
header_alike tally so_far header tidy fits =
    subst (λ n. Alike (tally_header tally header) (cond (nat_lt n MOST_HEADERS) (Ok (record { above = headers_in so_far; last = Some header })) (Err faults.Many))) fits.count
    (header_by tally so_far header (nat_lt tally.count MOST_HEADERS) tidy fits)

further_alike : (tally : Tally) (so_far : SoFar) (further : Further) → Tidy further → Fits tally so_far → Alike (tally_with tally further) (with_further header_limit so_far further)
further_alike tally so_far (More text) tidy fits =
    subst (λ l. Alike (tally_more tally l (part_of text)) (continued so_far text so_far.last)) (sym fits.last) (more_alike tally so_far.above so_far.last text tidy fits)
further_alike tally so_far (Begins header) tidy fits = header_alike tally so_far header tidy fits

abbrev TidyIfOk : Result Further HeadFault → Type 0
TidyIfOk (Ok further) = Tidy further
TidyIfOk (Err fault) = Unit {0}

named_tidy : (name rest : List ℕ) (test : Bool) → TidyIfOk (result_map Begins (cond test (Ok (record { name = name; value = trimmed rest })) (Err faults.Name)))
named_tidy name rest true = trimmed_twice rest
named_tidy name rest false = tt

header_tidy : (parts : Option (List ℕ × List ℕ)) → TidyIfOk (result_map Begins (header_from parts))
header_tidy None = tt
header_tidy (Some parts) = named_tidy parts.0 parts.1 (is_token parts.0)

line_tidy : (line : List ℕ) → TidyIfOk (further_of line)
line_tidy line = by_tests (has_control line) (goes_on line)
  where
    by_tests : (control more : Bool) → TidyIfOk (cond control (Err faults.Control) (cond more (Ok (More (trimmed line))) (result_map Begins (header_from (cut_at ascii.colon line)))))
    by_tests true more = tt
    by_tests false true = trimmed_twice line
    by_tests false false = header_tidy (cut_at ascii.colon line)

line_alike : (tally : Tally) (so_far : SoFar) (further : Result Further HeadFault) → TidyIfOk further → Fits tally so_far →
    Alike (and_then (tally_with tally) further) (and_then (with_further header_limit so_far) further)
line_alike tally so_far (Ok further) tidy fits = further_alike tally so_far further tidy fits
line_alike tally so_far (Err fault) tidy fits = refl

go_alike : (tallied : Result Tally HeadFault) (read : Result SoFar HeadFault) (lines : List (List ℕ)) → Alike tallied read →
    ((tally : Tally) (so_far : SoFar) → Fits tally so_far → result_map tally_length (tally_lines tally lines) ≡ result_map length_in_headers (result_map headers_in (after_lines header_limit so_far lines))) →
    result_map tally_length (and_then (λ next. tally_lines next lines) tallied) ≡ result_map length_in_headers (result_map headers_in (and_then (λ next. after_lines header_limit next lines) read))
go_alike (Ok tally) (Ok so_far) lines alike later = later tally so_far alike
go_alike (Ok tally) (Err fault) lines alike later = absurd alike
go_alike (Err fault) (Ok so_far) lines alike later = absurd alike
go_alike (Err fault) (Err other) lines alike later = ap Err alike

-- The length by the tally of the lines is that of their headers, and their faults are the same.
pub tally_is : (lines : List (List ℕ)) (tally : Tally) (so_far : SoFar) → Fits tally so_far →
    result_map tally_length (tally_lines tally lines) ≡ result_map length_in_headers (result_map headers_in (after_lines header_limit so_far lines))
tally_is [] tally so_far fits = ap Ok (length_fits tally so_far fits)
tally_is (line ∷ lines) tally so_far fits =
    go_alike (tally_line tally line) (with_line header_limit so_far line) lines (line_alike tally so_far (further_of line) (line_tidy line) fits) (tally_is lines)

-- An empty tally is that of no headers.
pub nothing_fits : Fits empty_tally no_headers
nothing_fits = record { count = refl; found = refl; last = refl }

-- At the last line the tally gives the length.
pub ends_so : (tally : Tally) (rest all : List (List ℕ)) → rest ≡ [] → tally_lines tally rest ≡ tally_lines empty_tally all →
    ◌≡◌ {A = Result Length HeadFault} (Ok (tally_length tally)) (result_map length_in_headers (headers_of header_limit all))
ends_so tally rest all none same = ap (result_map tally_length) (sym (ap (tally_lines tally) none) ∙ same) ∙ tally_is all empty_tally no_headers nothing_fits

-- At a faulty line its fault is that of all lines.
pub stops_so : (tally : Tally) (line : List ℕ) (more rest all : List (List ℕ)) (fault : HeadFault) → rest ≡ line ∷ more →
    ◌≡◌ {A = Result Tally HeadFault} (Err fault) (tally_line tally line) → tally_lines tally rest ≡ tally_lines empty_tally all →
    ◌≡◌ {A = Result Length HeadFault} (Err fault) (result_map length_in_headers (headers_of header_limit all))
stops_so tally line more rest all fault next wrong same =
    ap (λ (r : Result Tally HeadFault). result_map tally_length (and_then (λ t. tally_lines t more) r)) wrong
    ∙ ap (result_map tally_length) (sym (ap (tally_lines tally) next) ∙ same) ∙ tally_is all empty_tally no_headers nothing_fits
