-- The facts of a head take no memory.
use Rattle.std.proofs.Common.{◌≡◌, ℕ, Bool, true, false, cond, List, [], ◌∷◌, length, Option, Some, None, Result, Ok, Err, ltb}
use Rattle.std.specs.Option.{ok_or}
use Rattle.gate_bytes.specs.Ascii.{colon}
use Rattle.gate_bytes.specs.Tokens.{is_token, trimmed}
use Rattle.gate_bytes.specs.Places.{cut_at}
use Rattle.rtsp_head.specs.declared.header.Header.{Header}
use Rattle.rtsp_head.specs.HeadParts.{Start}
use Rattle.rtsp_head.specs.declared.fault.HeadFault.{HeadFault}
use Rattle.rtsp_head.specs.declared.fault.HeadFault.TheVariants as faults
use Rattle.rtsp_head.specs.Lines.{and_then, result_map, has_control, head_lines}
use Rattle.rtsp_head.specs.Starts.{start_of, status_of, request_of, names_protocol}
use Rattle.rtsp_head.specs.Headers.{header_limit, SoFar, Further, More, Begins, header_from, header_of, goes_on, continued, headers_in, further_of, with_further, with_line, after_lines, no_headers, headers_of}
use Rattle.rtsp_head.specs.declared.headers.TheConstants.{MOST_HEADERS}
use Rattle.rtsp_head.specs.Heads.{head_of_lines, head_of, facts, facts_of}

pub record NoMemory {A : Type 0} (r : Result A HeadFault) : Type 0 where
  pub never : r ≡ Err faults.Memory → ⊥

ok_takes : {A : Type 0} (x : A) → NoMemory (Ok x)
ok_takes x = record { never = λ h. cc }

control_takes : {A : Type 0} → NoMemory {A = A} (Err faults.Control)
control_takes = record { never = λ h. cc }

choice_takes : {A : Type 0} (b : Bool) (x y : Result A HeadFault) → NoMemory x → NoMemory y → NoMemory (cond b x y)
choice_takes true x y f g = f
choice_takes false x y f g = g

then_takes : {A B : Type 0} (next : A → Result B HeadFault) (r : Result A HeadFault) → ((x : A) → NoMemory (next x)) → NoMemory r → NoMemory (and_then next r)
then_takes next (Ok x) f g = f x
then_takes next (Err fault) f g = record { never = λ h. let e : fault ≡ faults.Memory = cc in g.never (cc e) }

map_takes : {A B : Type 0} (view : A → B) (r : Result A HeadFault) → NoMemory r → NoMemory (result_map view r)
map_takes view (Ok x) g = ok_takes (view x)
map_takes view (Err fault) g = record { never = λ h. let e : fault ≡ faults.Memory = cc in g.never (cc e) }

start_known : (o : Option Start) → NoMemory (ok_or o faults.Start)
start_known None = record { never = λ h. cc }
start_known (Some start) = ok_takes start

start_takes : (line : List ℕ) → NoMemory (start_of line)
start_takes line =
    choice_takes (has_control line) (Err faults.Control) (ok_or (cond (names_protocol line) (status_of line) (request_of line)) faults.Start)
    control_takes (start_known (cond (names_protocol line) (status_of line) (request_of line)))

header_takes : (parts : Option (List ℕ × List ℕ)) → NoMemory (header_from parts)
header_takes None = record { never = λ h. cc }
header_takes (Some parts) =
    choice_takes (is_token parts.0) (Ok (record { name = parts.0; value = trimmed parts.1 })) (Err faults.Name) (ok_takes _) (record { never = λ h. cc })

further_takes : (line : List ℕ) → NoMemory (further_of line)
further_takes line =
    choice_takes (has_control line) (Err faults.Control) (cond (goes_on line) (Ok (More (trimmed line))) (result_map Begins (header_of line)))
    control_takes
    (choice_takes (goes_on line) (Ok (More (trimmed line))) (result_map Begins (header_of line)) (ok_takes (More (trimmed line)))
    (map_takes Begins (header_of line) (header_takes (cut_at colon line))))

continued_takes : (so_far : SoFar) (text : List ℕ) (last : Option Header) → NoMemory (continued so_far text last)
continued_takes so_far text None = record { never = λ h. cc }
continued_takes so_far text (Some header) = ok_takes _

with_takes : (so_far : SoFar) (further : Further) → NoMemory (with_further header_limit so_far further)
with_takes so_far (More text) = continued_takes so_far text so_far.last
with_takes so_far (Begins header) =
    choice_takes (ltb (length (headers_in so_far)) MOST_HEADERS) (Ok (record { above = headers_in so_far; last = Some header })) (Err faults.Many) (ok_takes _) (record { never = λ h. cc })

after_takes : (so_far : SoFar) (lines : List (List ℕ)) → NoMemory (after_lines header_limit so_far lines)
after_takes so_far [] = ok_takes so_far
after_takes so_far (line ∷ lines) =
    then_takes (λ next. after_lines header_limit next lines) (with_line header_limit so_far line) (λ next. after_takes next lines)
    (then_takes (with_further header_limit so_far) (further_of line) (with_takes so_far) (further_takes line))

lines_take : (lines : List (List ℕ)) → NoMemory (head_of_lines header_limit lines)
lines_take [] = record { never = λ h. cc }
lines_take (line ∷ lines) =
    then_takes (λ start. result_map (λ headers. record { start = start; headers = headers }) (headers_of header_limit lines)) (start_of line)
    (λ start. map_takes (λ headers. record { start = start; headers = headers }) (headers_of header_limit lines) (map_takes headers_in (after_lines header_limit no_headers lines) (after_takes no_headers lines)))
    (start_takes line)

pub facts_take_no_memory : (bytes : List ℕ) → facts_of bytes ≡ Err faults.Memory → ⊥
facts_take_no_memory bytes = (map_takes facts (head_of bytes) (lines_take (head_lines bytes))).never
