-- What goes up has a URI that is no longer than its request's head and the server's address together, or that is known.
use Rattle.std.proofs.Common.{ℕ, zero, suc, ◌+◌, ◌-◌, ◌≤◌, ◌==◌, ◌&&◌, not, Bool, true, false, cond, List, [], ◌∷◌, ◌++◌, length, take, drop, Option, Some, None, Result, Ok, Err, IfSome, IfOk, sym, subst, length-append, arith}
use Rattle.std.specs.Prelude.{codes, unwrap_or, slice_index, slice_index_or}
use Rattle.std.specs.Option.{option_map, option_and_then, option_or, ok_or}
use Rattle.std.specs.Str.{bytes_eq}
use Rattle.std.specs.Str.Lines.{lines, strip_carriage_return}
use Rattle.std.proofs.lemmas.List.{length-drop, length-take}
use Rattle.gate_bytes.specs.Ascii.{space, lf}
use Rattle.gate_bytes.specs.Places.{place_of, cut_at}
use Rattle.rtsp_head.specs.Items.{Shape}
use Rattle.rtsp_head.specs.HeadParts.{Start, Request, Status}
use Rattle.rtsp_head.specs.Starts.{names_protocol, is_unspaced, request_with, request_of, code_of, status_with, status_of, start_of}
use Rattle.rtsp_head.specs.Lines.{has_control, and_then, result_map, before_empty, first_line, line_apart}
use Rattle.rtsp_head.specs.Headers.{header_limit, headers_of}
use Rattle.rtsp_head.specs.Heads.{head_of_lines, head_of}
use Rattle.rtsp_head.specs.declared.item.TheConstants.{MOST_HEAD}
use Rattle.rtsp_head.specs.declared.header.Header.{Header}
use Rattle.rtsp_head.specs.declared.head.Head.{Head}
use Rattle.rtsp_head.specs.declared.fault.HeadFault.{HeadFault}
use Rattle.rtsp_head.specs.declared.fault.HeadFault.TheVariants as faults
use Rattle.rtsp_head.proofs.LineLemmas.{lines_by_first}
use Rattle.rtsp_small.specs.declared.method.Method.{Method}
use Rattle.rtsp_range.specs.declared.range.Range.{Range}
use Rattle.rtsp_uri.specs.declared.grammar.UriPlaces.{UriPlaces}
use Rattle.rtsp_uri.specs.declared.word.TheConstants.{LONGEST_BASE}
use Rattle.rtsp_uri.specs.Uris.{scheme, places_of}
use Rattle.rtsp_uri.specs.Swaps.{has_authority, rest_of, rest_behind, with_rest, swapped}
use Rattle.head_one.specs.declared.request.Request1.{Request1}
use Rattle.head_one.specs.declared.refusal.Refusal.{Refusal}
use Rattle.head_one.specs.Refusals.{RequestFields, request_parts, parts_checked}
use Rattle.head_one.specs.Requests.{request_checked, request_at_start, request_of_head, request_of_item}
use Rattle.session_one.specs.declared.table.State.{State}
use Rattle.session_one.specs.declared.table.State.TheVariants.{Init, Ready, Playing}
use Rattle.translate_up.specs.declared.decision.Decision.{Decision}
use Rattle.translate_up.specs.declared.decision.Decision.TheVariants as decisions
use Rattle.translate_up.specs.declared.rule.Admission.{Admission}
use Rattle.translate_up.specs.declared.rule.Admission.TheVariants.{SetUp, Played, Other}
use Rattle.translate_up.specs.Views.{SeenSession, no_session, Given, place_named, session_or_none, Judged, judged_at}
use Rattle.translate_up.specs.Fields.{field, Said, said_of}
use Rattle.translate_up.specs.Rules.{rules_checked}
use Rattle.translate_up.specs.Upward.{uri_up}
use Rattle.translate_up.specs.Answers.{options_text}
use Rattle.translate_up.specs.Decisions.{play_on, play_in, serve, is_for_gateway, by_rules, judged_read, decide_read, decide}
use Rattle.translate_up.specs.UriLengths.{AreControlsWithin, AreGivenWithin, HasUriWithin}

pub drop_within : (n : ℕ) (text : List ℕ) → length (drop n text) ≤ length text
drop_within n text = omega (arith, length-drop n text)

pub take_within : (n : ℕ) (text : List ℕ) → length (take n text) ≤ length text
take_within n text = omega (arith, length-take n text)

-- The URI of a first line is a part of it.
abbrev HasTarget : ℕ → Start → Type 0
HasTarget most (Request method uri version) = length uri ≤ most
HasTarget most (Status version code reason) = Unit {0}

target_more : (start : Start) (few most : ℕ) → few ≤ most → HasTarget few start → HasTarget most start
target_more (Request method uri version) few most more has = omega (arith, more, has)
target_more (Status version code reason) few most more has = tt

with_target : (most : ℕ) (method uri version : List ℕ) → length uri ≤ most → IfSome (request_with method uri version) (HasTarget most)
with_target most method uri version short = by ((not (length method == 0) && not (length uri == 0)) && (is_unspaced version && names_protocol version))
  where
    by : (is : Bool) → IfSome (cond is (Some (Request method uri version)) None) (HasTarget most)
    by true = short
    by false = tt

request_target : (line : List ℕ) → IfSome (request_of line) (HasTarget (length line))
request_target line = first (place_of space line)
  where
    second : (k : ℕ) (place : Option ℕ)
        → IfSome (option_and_then (λ (parts : List ℕ × List ℕ). request_with (take k line) parts.0 parts.1) (option_map (λ j. (take j (drop (k + 1) line), drop (j + 1) (drop (k + 1) line))) place)) (HasTarget (length line))
    second k None = tt
    second k (Some j) =
        let rest = drop (k + 1) line in
        with_target (length line) (take k line) (take j rest) (drop (j + 1) rest) (omega (arith, take_within j rest, drop_within (k + 1) line))

    first : (place : Option ℕ)
        → IfSome (option_and_then (λ (parts : List ℕ × List ℕ). option_and_then (λ (more : List ℕ × List ℕ). request_with parts.0 more.0 more.1) (cut_at space parts.1)) (option_map (λ k. (take k line, drop (k + 1) line)) place)) (HasTarget (length line))
    first None = tt
    first (Some k) = second k (place_of space (drop (k + 1) line))

status_target : (line : List ℕ) (most : ℕ) → IfSome (status_of line) (HasTarget most)
status_target line most = first (cut_at space line)
  where
    coded : (version reason : List ℕ) (code : Option ℕ) → IfSome (option_and_then (λ one. Some (Status version one reason)) code) (HasTarget most)
    coded version reason None = tt
    coded version reason (Some code) = tt

    first : (parts : Option (List ℕ × List ℕ)) → IfSome (option_and_then (λ (one : List ℕ × List ℕ). status_with one.0 (unwrap_or (cut_at space one.1) (one.1, []))) parts) (HasTarget most)
    first None = tt
    first (Some parts) = let rest = unwrap_or (cut_at space parts.1) (parts.1, []) in coded parts.0 rest.1 (code_of rest.0)

start_target : (line : List ℕ) → IfOk (start_of line) (HasTarget (length line))
start_target line = by (has_control line) (names_protocol line)
  where
    told : (found : Option Start) → IfSome found (HasTarget (length line)) → IfOk (ok_or found faults.Start) (HasTarget (length line))
    told None has = tt
    told (Some start) has = has

    by : (bad status : Bool) → IfOk (cond bad (Err faults.Control) (ok_or (cond status (status_of line) (request_of line)) faults.Start)) (HasTarget (length line))
    by true status = tt
    by false true = told (status_of line) (status_target line (length line))
    by false false = told (request_of line) (request_target line)

-- So is that of a head.
head_target : (most : ℕ) (start : Result Start HeadFault) (headers : Result (List Header) HeadFault) → IfOk start (HasTarget most)
    → IfOk (and_then (λ one. result_map (λ (all : List Header). record { start = one; headers = all }) headers) start) (λ (head : Head). HasTarget most head.start)
head_target most (Err fault) headers has = tt
head_target most (Ok start) (Err fault) has = tt
head_target most (Ok start) (Ok headers) has = has

start_more : (start : Result Start HeadFault) (few most : ℕ) → few ≤ most → IfOk start (HasTarget few) → IfOk start (HasTarget most)
start_more (Err fault) few most more has = tt
start_more (Ok start) few most more has = target_more start few most more has

lines_target : (most : ℕ) (line : List ℕ) (more : List (List ℕ)) → length line ≤ most → IfOk (head_of_lines header_limit (before_empty (line ∷ more))) (λ head. HasTarget most head.start)
lines_target most [] more short = tt
lines_target most (b ∷ line) more short =
    head_target most (start_of (b ∷ line)) (headers_of header_limit (before_empty more)) (start_more (start_of (b ∷ line)) (length (b ∷ line)) most short (start_target (b ∷ line)))

pub strip_within : (line : List ℕ) → length (strip_carriage_return line) ≤ length line
strip_within line = by (slice_index line (length line - 1) == 13)
  where
    by : (ends : Bool) → length (cond ends (take (length line - 1) line) line) ≤ length line
    by true = take_within (length line - 1) line
    by false = omega arith

line_within : (bytes : List ℕ) → length (first_line bytes).0 ≤ length bytes
line_within bytes = by (place_of lf bytes)
  where
    by : (place : Option ℕ) → length (line_apart bytes (option_map (λ k. (take k bytes, drop (k + 1) bytes)) place)).0 ≤ length bytes
    by None = omega arith
    by (Some k) = omega (arith, strip_within (take k bytes), take_within k bytes)

bytes_target : (bytes : List ℕ) → IfOk (head_of bytes) (λ head. HasTarget (length bytes) head.start)
bytes_target bytes =
    subst (λ (all : List (List ℕ)). IfOk (head_of_lines header_limit all) (λ head. HasTarget (length bytes) head.start)) (sym (lines_by_first bytes))
    (lines_target (length bytes) (first_line bytes).0 (lines (first_line bytes).1) (line_within bytes))

checked_target : (most : ℕ) (checked : Result (Method × ℕ) ℕ) (parts : RequestFields) (head : Head) (body : List ℕ) → length parts.uri ≤ most → IfOk (request_checked checked parts head body) (λ request. length request.uri ≤ most)
checked_target most (Ok read) parts head body short = short
checked_target most (Err code) parts head body short = tt

at_target : (most : ℕ) (start : Start) (head : Head) (body : List ℕ) → HasTarget most start → IfOk (request_at_start start head body) (λ request. length request.uri ≤ most)
at_target most (Request method uri version) head body has =
    let parts = request_parts method uri version head.headers in checked_target most (parts_checked parts) parts head body has
at_target most (Status version code reason) head body has = tt

of_target : (most : ℕ) (head : Result Head HeadFault) (body : List ℕ) → IfOk head (λ one. HasTarget most one.start) → IfOk (request_of_head head body) (λ request. length request.uri ≤ most)
of_target most (Ok head) body has = at_target most head.start head body has
of_target most (Err fault) body has = tt

-- The URI of a request is no longer than its head.
uri_in_head : (shape : Shape) → IfOk (request_of_item shape) (λ request. length request.uri ≤ length (take shape.head shape.bytes))
uri_in_head shape = of_target (length (take shape.head shape.bytes)) (head_of (take shape.head shape.bytes)) (drop shape.head shape.bytes) (bytes_target (take shape.head shape.bytes))

-- The server's address makes a URI longer by no more than its own length.
places_within : (uri : List ℕ) (places : Option UriPlaces) → IfSome (option_map (λ one. drop one.rest uri) places) (λ rest. length rest ≤ length uri)
places_within uri None = tt
places_within uri (Some places) = drop_within places.rest uri

pub rest_within : (from uri : List ℕ) → IfSome (rest_behind from uri) (λ rest. length rest ≤ length uri)
rest_within from uri = by (has_authority from uri)
  where
    by : (has : Bool) → IfSome (cond has (rest_of uri) None) (λ rest. length rest ≤ length uri)
    by true = places_within uri (places_of uri)
    by false = tt

pub with_length : (to uri : List ℕ) (rest : Option (List ℕ)) → IfSome rest (λ one. length one ≤ length uri) → length (with_rest to uri rest) ≤ length uri + (length to + 7)
with_length to uri None within = omega arith
with_length to uri (Some rest) within = omega (arith, within, length-append scheme (to ++ rest), length-append to rest)

-- so for the URI of what is judged
up_within : (most : ℕ) (judged : Judged) (uri : List ℕ) → MOST_HEAD + LONGEST_BASE ≤ most → length uri ≤ MOST_HEAD → length judged.up + 7 ≤ LONGEST_BASE → IfSome judged.control (λ one. length one ≤ most) → length (uri_up judged uri) ≤ most
up_within most judged uri room short base control = by (bytes_eq uri (codes "*"))
  where
    about : (one : Option (List ℕ)) → IfSome one (λ known. length known ≤ most) → length (unwrap_or one (codes "*")) ≤ most
    about None within = let one : 1 ≤ most = omega (arith, room) in one
    about (Some known) within = within

    by : (server : Bool) → length (cond server (unwrap_or judged.control (codes "*")) (swapped judged.front judged.up uri)) ≤ most
    by true = about judged.control control
    by false = omega (arith, room, short, base, with_length judged.up uri (rest_behind judged.front uri) (rest_within judged.front uri))

-- so for what becomes of it
play_on_within : (most : ℕ) (judged : Judged) (request : Request1) (said : Said) (uri : List ℕ) (range : Option Range) → length uri ≤ most → HasUriWithin most (play_on judged request said uri range)
play_on_within most judged request said uri None short = tt
play_on_within most judged request said uri (Some range) short = short

play_in_within : (most : ℕ) (state : State) (judged : Judged) (request : Request1) (said : Said) (uri : List ℕ) (range : Option Range) → length uri ≤ most → HasUriWithin most (play_in state judged request said uri range)
play_in_within most Init judged request said uri range short = short
play_in_within most Ready judged request said uri range short = short
play_in_within most Playing judged request said uri range short = play_on_within most judged request said uri range short

serve_within : (most : ℕ) (judged : Judged) (request : Request1) (said : Said) (uri : List ℕ) (admitted : Admission) → length uri ≤ most → HasUriWithin most (serve judged request said uri admitted)
serve_within most judged request said uri (SetUp pair) short = short
serve_within most judged request said uri (Played range) short = play_in_within most judged.state judged request said uri range short
serve_within most judged request said uri Other short = short

either_within : (most : ℕ) (own : Bool) (text : List ℕ) (served : Decision) → HasUriWithin most served → HasUriWithin most (cond own (decisions.Answer text) served)
either_within most true text served within = tt
either_within most false text served within = within

rules_within : (most : ℕ) (judged : Judged) (request : Request1) (said : Said) (uri : List ℕ) (checked : Result Admission ℕ) → length uri ≤ most → HasUriWithin most (by_rules judged request said uri checked)
rules_within most judged request said uri (Err code) short = tt
rules_within most judged request said uri (Ok admitted) short =
    either_within most (is_for_gateway request.method said) (options_text request.cseq) (serve judged request said uri admitted) (serve_within most judged request said uri admitted short)

-- What a session is about is known.
control_at : (most place : ℕ) (sessions : List SeenSession) → AreControlsWithin most sessions → IfSome (slice_index_or sessions place no_session).control (λ uri. length uri ≤ most)
control_at most place [] within = tt
control_at most zero (one ∷ more) within = within.0
control_at most (suc place) (one ∷ more) within = control_at most place more within.1

control_where : (most : ℕ) (place : Option ℕ) (sessions : List SeenSession) → AreControlsWithin most sessions → IfSome (session_or_none place sessions).control (λ uri. length uri ≤ most)
control_where most None sessions within = tt
control_where most (Some place) sessions within = control_at most place sessions within

either_control : (most : ℕ) (one other : Option (List ℕ)) → IfSome one (λ uri. length uri ≤ most) → IfSome other (λ uri. length uri ≤ most) → IfSome (option_or one other) (λ uri. length uri ≤ most)
either_control most None other a b = b
either_control most (Some uri) other a b = a

judged_control : (most : ℕ) (given : Given) (place : Option ℕ) → AreGivenWithin most given → IfSome (judged_at given place).control (λ uri. length uri ≤ most)
judged_control most given place known =
    either_control most (session_or_none place given.sessions).control given.described (control_where most place given.sessions known.sessions) known.described

read_within : (most : ℕ) (given : Given) (read : Result Request1 Refusal) → MOST_HEAD + LONGEST_BASE ≤ most → AreGivenWithin most given → IfOk read (λ request. length request.uri ≤ MOST_HEAD)
    → HasUriWithin most (decide_read (judged_read given read) read)
read_within most given (Err refusal) room known short = tt
read_within most given (Ok request) room known short =
    let place = place_named (field request (codes "Session")) given.sessions in
    let judged = judged_at given place in
    let said = said_of judged.all request in
    let uri = uri_up judged request.uri in
    rules_within most judged request said uri (rules_checked judged request.method said uri)
    (up_within most judged request.uri room short (omega (arith, known.up)) (judged_control most given place known))

short_more : (read : Result Request1 Refusal) (few most : ℕ) → few ≤ most → IfOk read (λ request. length request.uri ≤ few) → IfOk read (λ request. length request.uri ≤ most)
short_more (Err refusal) few most more short = tt
short_more (Ok request) few most more short = omega (arith, more, short)

pub decided_within : (most : ℕ) (given : Given) (shape : Shape) → MOST_HEAD + LONGEST_BASE ≤ most → AreGivenWithin most given → shape.head ≤ MOST_HEAD → HasUriWithin most (decide given shape)
decided_within most given shape room known head =
    read_within most given (request_of_item shape) room known
    (short_more (request_of_item shape) (length (take shape.head shape.bytes)) MOST_HEAD (omega (arith, head, length-take shape.head shape.bytes)) (uri_in_head shape))
