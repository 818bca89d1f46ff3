-- The server of a drill grants all that it answers: what it takes over from a request into its answer is a value that can be
-- written, so the items of the answer are those that were meant, and each reply among them has the code 200.
use Rattle.std.proofs.Common.{◌≡◌, ◌∙◌, ℕ, ◌+◌, ◌≤◌, ◌<◌, ◌^◌, ◌==◌, ◌&&◌, not, Bool, true, false, cond, List, [], ◌∷◌, ◌++◌, length, drop, take, Option, Some, None, unwrap_or, Result, Ok, Err, IfOk, IfSome, IsTrue, refl, sym, ap, subst, append_assoc, arith}
use Rattle.std.specs.Prelude.{codes, decimal}
use Rattle.std.specs.List.{AllByRecursion, list_all}
use Rattle.std.specs.Char.{is_ascii_digit}
use Rattle.std.specs.Option.{option_and_then, ok_or}
use Rattle.std.specs.Str.{bytes_eq}
use Rattle.std.proofs.lemmas.Fmt.{digits_decimal}
use Rattle.std.proofs.lemmas.List.{append-nil}
use Rattle.gate_bytes.specs.Numbers.{number_in}
use Rattle.gate_bytes.specs.Tokens.{without_end, trimmed}
use Rattle.gate_bytes.proofs.DigitLemmas.{number_small}
use Rattle.gate_bytes.proofs.EndLemmas.{without_end-other}
use Rattle.rtsp_head.specs.declared.fault.HeadFault.{HeadFault}
use Rattle.rtsp_head.specs.declared.head.Head.{Head}
use Rattle.rtsp_head.specs.declared.header.Header.{Header}
use Rattle.rtsp_head.specs.declared.item.ItemKind.{ItemKind}
use Rattle.rtsp_head.specs.declared.item.ItemKind.TheVariants as kinds
use Rattle.rtsp_head.specs.HeadParts.{Start, Request, Status}
use Rattle.rtsp_head.specs.Headers.{field_of}
use Rattle.rtsp_head.specs.Heads.{head_of, is_request}
use Rattle.rtsp_head.specs.HeadText.{is_line_text, is_part, is_start, is_value, is_header, CanBeWritten}
use Rattle.rtsp_head.specs.Items.{Shape, is_bad, message_kind, items_of}
use Rattle.rtsp_head.specs.Lines.{result_map}
use Rattle.rtsp_head.specs.Messages.{message_headers, is_added, message_text, message, Front, IsReadable}
use Rattle.rtsp_head.specs.Starts.{names_protocol}
use Rattle.rtsp_head.proofs.CutLemmas.{line_text_append}
use Rattle.rtsp_head.proofs.DigitLemmas.{own}
use Rattle.rtsp_head.proofs.MessageLemmas.{message_sound}
use Rattle.rtsp_head.proofs.SoundLemmas.{read_sound, field_sound}
use Rattle.rtsp_head.proofs.StreamLemmas.{front_read}
use Rattle.rtsp_head.proofs.WriteLemmas.{digits_line}
use Rattle.rtsp_small.specs.declared.cseq.TheConstants.{CSEQ_TWO_DIGITS}
use Rattle.rtsp_small.specs.declared.method.Method.{Method}
use Rattle.rtsp_small.specs.declared.method.Method.TheVariants.{Options, Describe, Setup, Play, Pause, Teardown, GetParameter, SetParameter}
use Rattle.rtsp_small.specs.Methods.{method_of}
use Rattle.rtsp_uri.specs.Uris.{is_rest_byte}
use Rattle.head_two.specs.declared.ask.Ask2.{Ask2}
use Rattle.head_two.specs.declared.fault.TwoFault.{TwoFault}
use Rattle.head_two.specs.declared.fault.TwoFault.TheVariants as two
use Rattle.head_two.specs.Messages.{version_two, server_cseq, checked_cseq}
use Rattle.head_two.specs.Replies.{reply_of_head, ask_at_start, ask_of_head, ask_of_item}
use Rattle.translate_up.proofs.VisibleLemmas.{all_weaker, all_dropped, all_joined, visible_value}
use Rattle.gateway_claim.specs.ServerItems.{Heard, replies, requests, frames, faults, heard_reply, heard_ask, heard_at, heard}
use Rattle.drill_server.specs.declared.track.DrillTrack.{DrillTrack}
use Rattle.drill_server.specs.declared.track.TheConstants.{ID_BASE}
use Rattle.drill_server.specs.AskedFields.{uri_asked, field_asked}
use Rattle.drill_server.specs.Answers.{answer_by, answer_read, setup_in}
use Rattle.drill_server.specs.ServerSteps.{Serving, answer_first, next_answer}
use Rattle.drill_server.specs.Texts.{frame_on, answer_field, success_text, description, drill_session, frame_in, frames_of, status_told, end_request, end_notify}
use Rattle.drill_run.proofs.FirstItemLemmas.{message_items, frame_items}

-- A reply has the code of success.
abbrev pub GrantsHeard : Heard → Type 0
GrantsHeard (replies reply) = reply.code ≡ 200
GrantsHeard (requests request) = Unit {0}
GrantsHeard (frames channel rest) = Unit {0}
GrantsHeard (faults fault) = Unit {0}

abbrev pub GrantsItem : Shape → Type 0
GrantsItem shape = GrantsHeard (heard shape)

abbrev GrantsStart : Start → Type 0
GrantsStart (Request method uri version) = Unit {0}
GrantsStart (Status version code reason) = code ≡ 200

number_grants : (code : ℕ) (head : Head) (body : List ℕ) (cseq : Result ℕ TwoFault) → code ≡ 200
    → GrantsHeard (heard_reply (result_map (λ n. record { code = code; cseq = n; head = head; body = body }) cseq))
number_grants code head body (Ok cseq) is = is
number_grants code head body (Err fault) is = tt

ask_grants : (read : Result Ask2 TwoFault) → GrantsHeard (heard_ask read)
ask_grants (Ok request) = tt
ask_grants (Err fault) = tt

start_grants : (start : Start) (headers : List Header) (shape : Shape) → GrantsStart start → head_of (take shape.head shape.bytes) ≡ Ok (record { start = start; headers = headers })
    → GrantsHeard (heard_at (message_kind (is_request start)) shape)
start_grants (Request method uri version) headers shape is read = ask_grants (ask_of_item shape)
start_grants (Status version code reason) headers shape is read =
    let head : Head = record { start = Status version code reason; headers = headers } in
    subst (λ (r : Result Head HeadFault). GrantsHeard (heard_reply (reply_of_head r (drop shape.head shape.bytes)))) (sym read)
    (number_grants code head (drop shape.head shape.bytes) (checked_cseq version headers) is)

bad_grants : (kind : ItemKind) (shape : Shape) → is_bad kind ≡ true → GrantsHeard (heard_at kind shape)
bad_grants kinds.Request shape is = cc
bad_grants kinds.Response shape is = cc
bad_grants kinds.Frame shape is = cc
bad_grants (kinds.Bad fault) shape is = tt

-- each reply among the items of a text
abbrev pub GrantsAll : List ℕ → Type 0
GrantsAll text = AllByRecursion GrantsItem (items_of text)

text_grants : (start : Start) (number : ℕ) (fields : List Header) (body rest : List ℕ) → GrantsStart start → IsReadable start (Some number) fields body → GrantsAll rest
    → GrantsAll (message_text start (Some number) fields body ++ rest)
text_grants start number fields body rest is can later =
    let front : Front = record { message = message start (Some number) fields body; rest = rest } in
    message_items (AllByRecursion GrantsItem) (message_text start (Some number) fields body ++ rest) front (front_read start (Some number) fields body rest can) tt
    (λ shape faulty. (bad_grants shape.kind shape faulty, tt))
    (λ shape kind read. (subst (λ (k : ItemKind). GrantsHeard (heard_at k shape)) (sym kind) (start_grants start (message_headers (Some number) fields body) shape is read), later))

success_grants : (number : ℕ) (fields : List Header) (body rest : List ℕ) → number < 2 ^ 64 → length body < 2 ^ 64 → length fields ≤ 2 → list_all is_header fields ≡ true
    → list_all (λ header. not (is_added header)) fields ≡ true → GrantsAll rest → GrantsAll (success_text number fields body ++ rest)
success_grants number fields body rest low short few sound others later =
    let start : Start = Status version_two 200 (codes "OK") in
    text_grants start number fields body rest refl (record {
      writable = message_sound start (Some number) fields body refl low short (omega (arith, few)) sound;
      no_frame = refl;
      own = others;
      short = short;
    }) later

alone_grants : (text : List ℕ) → GrantsAll (text ++ []) → GrantsAll text
alone_grants text grants = subst GrantsAll (append-nil text) grants

frames_grant : (id : List ℕ) (tracks : List DrillTrack) (rest : List ℕ) → GrantsAll rest → GrantsAll (frames_of id tracks ++ rest)
frames_grant id [] rest later = later
frames_grant id (track ∷ tracks) rest later =
    subst GrantsAll (sym (append_assoc (frame_in id track) (frames_of id tracks) rest)) (by (bytes_eq track.session id) (frames_grant id tracks rest later))
  where
    by : (same : Bool) → GrantsAll (frames_of id tracks ++ rest) → GrantsAll (cond same (frame_on track.channel) [] ++ (frames_of id tracks ++ rest))
    by true more = frame_items (AllByRecursion GrantsItem) track.channel 0 (frames_of id tracks ++ rest) (λ shape kind. (subst (λ (k : ItemKind). GrantsHeard (heard_at k shape)) (sym kind) tt, more))
    by false more = more

-- What a request that the server reads brings into its answer can be written.
record IsSoundAsk (ask : Ask2) : Type 0 where
  low : ask.cseq < 2 ^ 64
  sound : list_all is_header ask.head.headers ≡ true
  part : is_part (uri_asked ask.head.start) ≡ true
  line : is_line_text (uri_asked ask.head.start) ≡ true

number_low : (value : Option (List ℕ)) → IfSome (option_and_then (number_in CSEQ_TWO_DIGITS) value) (λ n. n < 2 ^ 64)
number_low None = tt
number_low (Some text) = by (number_in CSEQ_TWO_DIGITS text) (number_small CSEQ_TWO_DIGITS text)
  where
    by : (number : Option ℕ) → IfSome number (λ n. n < 10 ^ CSEQ_TWO_DIGITS) → IfSome number (λ n. n < 2 ^ 64)
    by None less = tt
    by (Some n) less = omega (arith, less)

checked_low : (same : Bool) (number : Option ℕ) → IfSome number (λ n. n < 2 ^ 64) → IfOk (cond same (ok_or number two.Cseq) (Err two.Version)) (λ n. n < 2 ^ 64)
checked_low true None less = tt
checked_low true (Some n) less = less
checked_low false number less = tt

asked_sound : (method uri version : List ℕ) (headers : List Header) (cseq : Result ℕ TwoFault) → is_start (Request method uri version) ≡ true → list_all is_header headers ≡ true → IfOk cseq (λ n. n < 2 ^ 64)
    → IfOk (result_map (λ n. record { method = method; cseq = n; head = record { start = Request method uri version; headers = headers } }) cseq) IsSoundAsk
asked_sound method uri version headers (Err fault) start sound low = tt
asked_sound method uri version headers (Ok n) start sound low =
    let parts = start_parts (is_part method && not (names_protocol method)) (is_part uri) (is_part version && names_protocol version) (is_line_text method) (is_line_text uri) (is_line_text version) start in
    record { low = low; sound = sound; part = parts.0; line = parts.1 }
  where
    start_parts : (a b c d e f : Bool) → ((a && b) && c) && ((d && e) && f) ≡ true → (b ≡ true) × (e ≡ true)
    start_parts a b c d e f h = grind (arith, h)

start_sound : (start : Start) (headers : List Header) → CanBeWritten start headers → IfOk (ask_at_start start (record { start = start; headers = headers })) IsSoundAsk
start_sound (Status version code reason) headers can = tt
start_sound (Request method uri version) headers can =
    asked_sound method uri version headers (checked_cseq version headers) can.start can.headers (checked_low (bytes_eq version version_two) (server_cseq headers) (number_low (field_of headers (codes "CSeq"))))

read_ask : (bytes : List ℕ) (read : Result Head HeadFault) → head_of bytes ≡ read → IfOk (ask_of_head read) IsSoundAsk
read_ask bytes (Ok head) is = start_sound head.start head.headers (read_sound bytes head is)
read_ask bytes (Err fault) is = tt

field_value : (ask : Ask2) (name : List ℕ) → IsSoundAsk ask → is_value (field_asked ask name) ≡ true
field_value ask name is = by (field_of ask.head.headers name) (field_sound ask.head.headers name is.sound)
  where
    by : (value : Option (List ℕ)) → IfSome value (λ text. IsTrue (is_value text)) → is_value (unwrap_or value []) ≡ true
    by None sound = refl
    by (Some text) sound = sound

-- the id of a session that the server makes
digit_visible : (b : ℕ) → is_ascii_digit b ≡ true → is_rest_byte b ≡ true
digit_visible b h = grind (arith, h)

session_value : (number : ℕ) → number < 2 ^ 63 → is_value (drill_session number) ≡ true
session_value number low =
    let digits : list_all is_ascii_digit (decimal (ID_BASE + number)) ≡ true = digits_decimal own (ID_BASE + number) (omega (arith, low)) in
    let visible = all_weaker is_ascii_digit is_rest_byte digit_visible (drop 1 (decimal (ID_BASE + number))) (all_dropped is_ascii_digit 1 (decimal (ID_BASE + number)) digits) in
    visible_value (drill_session number) (all_joined is_rest_byte (codes "d") (drop 1 (decimal (ID_BASE + number))) refl visible)

-- the value that tells which PLAY ended
status_value : (number : ℕ) → number < 2 ^ 64 → is_value (status_told number) ≡ true
status_value number low =
    let digits = decimal number in
    let front = codes "cseq=" ++ (digits ++ codes " status=200 reason=\"OK") in
    let ends : status_told number ≡ front ++ (34 ∷ []) =
    sym (append_assoc (codes "cseq=") (digits ++ codes " status=200 reason=\"OK") (34 ∷ []) ∙ ap (λ (l : List ℕ). codes "cseq=" ++ l) (append_assoc digits (codes " status=200 reason=\"OK") (34 ∷ []))) in
    let kept : trimmed (status_told number) ≡ status_told number = ap without_end ends ∙ without_end-other front 34 refl ∙ sym ends in
    let line : is_line_text (status_told number) ≡ true =
    line_text_append (codes "cseq=") (digits ++ codes " status=200 reason=\"OK\"") refl
    (line_text_append digits (codes " status=200 reason=\"OK\"") (digits_line digits (digits_decimal own number low)) refl) in
    let same : (length (status_told number) == length (status_told number)) ≡ true = grind arith in
    ap (λ (l : List ℕ). (length l == length (status_told number)) && is_line_text (status_told number)) kept ∙ ap (λ t. t && is_line_text (status_told number)) same ∙ line

notify_grants : (own_number : ℕ) (uri id : List ℕ) (number : ℕ) → own_number < 2 ^ 64 → number < 2 ^ 64 → is_part uri ≡ true → is_line_text uri ≡ true → is_value id ≡ true → GrantsAll (end_notify own_number uri id number)
notify_grants own_number uri id number low other part line value =
    let start : Start = Request (codes "PLAY_NOTIFY") uri version_two in
    let fields = (end_request uri id number).headers in
    let sound : list_all is_header fields ≡ true = fields_sound (is_value id) (is_value (status_told number)) value (status_value number other) in
    let whole : is_start start ≡ true = start_whole (is_part uri) (is_line_text uri) part line in
    alone_grants (end_notify own_number uri id number) (text_grants start own_number fields [] [] tt (record {
      writable = message_sound start (Some own_number) fields [] whole low (omega arith) (omega arith) sound;
      no_frame = refl;
      own = refl;
      short = omega arith;
    }) tt)
  where
    fields_sound : (a b : Bool) → a ≡ true → b ≡ true → (a && (true && (b && true))) ≡ true
    fields_sound a b ha hb = grind (arith, ha, hb)

    start_whole : (a b : Bool) → a ≡ true → b ≡ true → ((true && a) && true) && ((true && b) && true) ≡ true
    start_whole a b ha hb = grind (arith, ha, hb)

-- Each answer of the server, while it has made few sessions and sent few notifies.
module _ (sessions : ℕ) (tracks : List DrillTrack) (notifies : ℕ) (few_made : sessions + 1 < 2 ^ 63) (few_sent : notifies + 1 < 2 ^ 64) where
  bare_grants : (ask : Ask2) → IsSoundAsk ask → GrantsAll (success_text ask.cseq [] [])
  bare_grants ask is = alone_grants (success_text ask.cseq [] []) (success_grants ask.cseq [] [] [] is.low (omega arith) (omega arith) refl refl tt)

  setup_sound : (id value : List ℕ) → is_value id ≡ true → is_value value ≡ true → list_all is_header (answer_field (codes "Session") id ∷ answer_field (codes "Transport") value ∷ []) ≡ true
  setup_sound id value one other = by (is_value id) (is_value value) one other
    where
      by : (a b : Bool) → a ≡ true → b ≡ true → (a && (b && true)) ≡ true
      by a b ha hb = grind (arith, ha, hb)

  setup_grants : (ask : Ask2) (id : List ℕ) → IsSoundAsk ask → is_value id ≡ true
      → GrantsAll (success_text ask.cseq (answer_field (codes "Session") id ∷ answer_field (codes "Transport") (field_asked ask (codes "Transport")) ∷ []) [])
  setup_grants ask id is value =
      let fields = answer_field (codes "Session") id ∷ answer_field (codes "Transport") (field_asked ask (codes "Transport")) ∷ [] in
      alone_grants (success_text ask.cseq fields [])
      (success_grants ask.cseq fields [] [] is.low (omega arith) (omega arith) (setup_sound id (field_asked ask (codes "Transport")) value (field_value ask (codes "Transport") is)) refl tt)

  in_grants : (ask : Ask2) (named : Option (List ℕ)) → IsSoundAsk ask → IfSome named (λ text. IsTrue (is_value text)) → GrantsAll (setup_in sessions ask named).text
  in_grants ask None is value = setup_grants ask (drill_session (sessions + 1)) is (session_value (sessions + 1) few_made)
  in_grants ask (Some id) is value = setup_grants ask id is value

  play_grants : (ask : Ask2) → IsSoundAsk ask → GrantsAll (answer_by (Some Play) sessions tracks notifies ask).text
  play_grants ask is =
      let id = field_asked ask (codes "Session") in
      let value = field_value ask (codes "Session") is in
      let fields = answer_field (codes "Session") id ∷ [] in
      let ended = end_notify (notifies + 1) (uri_asked ask.head.start) id ask.cseq in
      subst GrantsAll (sym (append_assoc (success_text ask.cseq fields []) (frames_of id tracks) ended))
      (success_grants ask.cseq fields [] (frames_of id tracks ++ ended) is.low (omega arith) (omega arith) (ap (λ t. t && true) value) refl
      (frames_grant id tracks ended (notify_grants (notifies + 1) (uri_asked ask.head.start) id ask.cseq few_sent is.low is.part is.line value)))

  method_grants : (method : Option Method) (ask : Ask2) → IsSoundAsk ask → GrantsAll (answer_by method sessions tracks notifies ask).text
  method_grants None ask is = bare_grants ask is
  method_grants (Some Options) ask is = bare_grants ask is
  method_grants (Some Describe) ask is =
      let fields = answer_field (codes "Content-Type") (codes "application/sdp") ∷ [] in
      alone_grants (success_text ask.cseq fields description) (success_grants ask.cseq fields description [] is.low (omega arith) (omega arith) refl refl tt)
  method_grants (Some Setup) ask is = in_grants ask (field_of ask.head.headers (codes "Session")) is (field_sound ask.head.headers (codes "Session") is.sound)
  method_grants (Some Play) ask is = play_grants ask is
  method_grants (Some Pause) ask is = bare_grants ask is
  method_grants (Some Teardown) ask is = bare_grants ask is
  method_grants (Some GetParameter) ask is = bare_grants ask is
  method_grants (Some SetParameter) ask is = bare_grants ask is

  ask_answered : (read : Result Ask2 TwoFault) → IfOk read IsSoundAsk → GrantsAll (answer_read sessions tracks notifies read).text
  ask_answered (Ok ask) is = method_grants (method_of ask.method) ask is
  ask_answered (Err fault) is = tt

first_grants : (serving : Serving) (waiting : List Shape) → serving.sessions + 1 < 2 ^ 63 → serving.notifies + 1 < 2 ^ 64 → GrantsAll (answer_first serving waiting).text
first_grants serving [] few_made few_sent = tt
first_grants serving (shape ∷ waiting) few_made few_sent =
    ask_answered serving.sessions serving.tracks serving.notifies few_made few_sent (ask_of_item shape) (read_ask (take shape.head shape.bytes) (head_of (take shape.head shape.bytes)) refl)

pub answer_grants : (serving : Serving) → serving.sessions + 1 < 2 ^ 63 → serving.notifies + 1 < 2 ^ 64 → GrantsAll (next_answer serving).text
answer_grants serving few_made few_sent = first_grants serving serving.waiting few_made few_sent
