-- What a player gets of the server's reply can be read back, and a code that is no success stays none.
use Rattle.std.proofs.Common.{◌≡◌, ◌∙◌, ◌<◌, ◌^◌, ℕ, true, false, not, cond, List, [], ◌∷◌, length, drop, ◌≤◌, Option, None, Some, IfSome, refl, ap, unwrap_or, option_map, option_and_then, arith, Bool, sym, subst, ◌+◌, ◌*◌, length-append}
use Rattle.std.specs.Prelude.{codes}
use Rattle.std.specs.List.{list_all, join_with_byte}
use Rattle.std.specs.Option.{option_or, option_and_then}
use Rattle.std.proofs.lemmas.Bool.{and_parts, le-leb, eq-eqb}
use Rattle.gate_bytes.specs.Ascii.{semicolon, equals_sign, lf}
use Rattle.gate_bytes.specs.Places.{parts_at, cut_at}
use Rattle.rtsp_head.specs.Headers.{field_of}
use Rattle.rtsp_head.specs.Optional.{said_where}
use Rattle.rtsp_head.specs.declared.item.TheConstants.{MOST_BODY}
use Rattle.rtsp_head.proofs.FieldLemmas.{field_told}
use Rattle.rtsp_head.specs.HeadText.{is_header}
use Rattle.rtsp_small.specs.declared.cseq.TheConstants.{CSEQ_ONE_DIGITS}
use Rattle.rtsp_small.specs.declared.method.Method.{Method}
use Rattle.rtsp_small.specs.declared.method.Method.TheVariants as methods
use Rattle.rtsp_small.specs.Sessions.{SessionParts, is_session_id, session_in, session_of, session_text, timeout_in, first_timeout}
use Rattle.rtsp_small.proofs.SessionLemmas.{session_read}
use Rattle.rtsp_status.specs.Codes.{CodeRow, code_rows, holds, code_in, code_one}
use Rattle.rtsp_uri.specs.declared.base.Base.{Base}
use Rattle.rtsp_uri.specs.declared.base.Bases.{Bases}
use Rattle.rtsp_uri.specs.BaseTexts.{is_base_text}
use Rattle.head_one.specs.Replies.{IsReply}
use Rattle.session_one.specs.declared.parts.Asked.{Asked}
use Rattle.session_one.specs.declared.parts.Track.{Track}
use Rattle.session_one.specs.Table.{is_success}
use Rattle.translate_up.proofs.StateLemmas.{IsValidId, IsGiven}
use Rattle.translate_down.specs.Contents.{body_told}
use Rattle.translate_down.specs.Sessions.{tells_session_of, told_timeout, session_value}
use Rattle.translate_up.specs.Ids.{id_of}
use Rattle.translate_down.specs.Readable.{CanBeRead}
use Rattle.translate_down.specs.Replies.{Told, success_fields, success_of, reply_down, told_by}
use Rattle.translate_down.specs.Settings.{Setting}
use Rattle.translate_down.proofs.ReadLemmas.{down_reply}
use Rattle.client_machine.specs.Step.{session_told, setting}
use Rattle.client_machine.proofs.EachLemmas.{either_so}
use Rattle.std.specs.Borrow.{Bor}
use Rattle.std.specs.Str.{bytes_eq}
use Rattle.gate_bytes.specs.Numbers.{number_in}
use Rattle.gate_bytes.specs.Tokens.{trimmed}
use Rattle.gate_bytes.proofs.DigitLemmas.{number_small}
use Rattle.rtsp_head.specs.Messages.{own_fields}
use Rattle.rtsp_small.specs.declared.session.TheConstants.{TIMEOUT_DIGITS}
use Rattle.rtsp_small.specs.declared.session.SessionField.{SessionField}
use Rattle.rtsp_small.specs.Views.{session_seen}
use Rattle.rtsp_transport.specs.Channels.{AreApart}
use Rattle.head_two.specs.declared.reply.Reply2.{Reply2}
use Rattle.translate_down.proofs.FieldLemmas.{own_field, untransported_field}
use Rattle.client_slot.specs.declared.purpose.Purpose.{Purpose}
use Rattle.client_slot.specs.declared.purpose.Pending.{Pending}
use Rattle.client_slot.specs.declared.purpose.Pending.TheVariants as lent
use Rattle.client_slot.specs.Purposes.{purpose_seen}
use Rattle.client_slot.specs.Session.{PlayerSession}
use Rattle.client_slot.specs.Bounds.{IsPlacedIn}
use Rattle.client_slot.proofs.RoomLemmas.{open_placed}
use Rattle.std.specs.Str.Lines.{strip_carriage_return}
use Rattle.std.proofs.lemmas.List.Splits.{join_with_byte-slice_split}
use Rattle.translate_up.proofs.UriLengthLemmas.{drop_within, strip_within, rest_within, with_length}
use Rattle.rtsp_uri.specs.Descriptions.{swapped_control, return_of, swapped_ended, swapped_lines, rewritten}

-- What a reply says of its session.
-- Its Session is among what it tells.
pub session_is : (reply : Reply2) → option_and_then session_of (field_of reply.head.headers (codes "Session")) ≡ session_told (told_by reply)
session_is reply =
    ap (option_and_then session_of) (sym (untransported_field (own_fields reply.head.headers) (codes "Session") refl ∙ own_field reply.head.headers (codes "Session") refl))

-- A timeout is short.
abbrev pub IsShort : Option ℕ → Type 0
IsShort timeout = IfSome timeout (λ seconds. seconds < 10 ^ TIMEOUT_DIGITS)

named_short : (named : Bool) (value : List ℕ) → IsShort (cond named (number_in TIMEOUT_DIGITS value) None)
named_short true value = number_small TIMEOUT_DIGITS value
named_short false value = tt

cut_short : (parts : Option (List ℕ × List ℕ)) → IsShort (option_and_then (λ parts. cond (bytes_eq parts.0 (codes "timeout")) (number_in TIMEOUT_DIGITS parts.1) None) parts)
cut_short None = tt
cut_short (Some parts) = named_short (bytes_eq parts.0 (codes "timeout")) parts.1

either_short : (one other : Option ℕ) → IsShort one → IsShort other → IsShort (option_or one other)
either_short None other a b = b
either_short (Some seconds) other a b = a

first_short : (parameters : List (List ℕ)) → IsShort (first_timeout parameters)
first_short [] = tt
first_short (parameter ∷ more) = either_short (timeout_in (trimmed parameter)) (first_timeout more) (cut_short (cut_at equals_sign (trimmed parameter))) (first_short more)

with_short : (valid : Bool) (id : List ℕ) (timeout : Option ℕ) → IsShort timeout → IfSome (cond valid (Some (record { id = id; timeout = timeout })) None) (λ (session : SessionParts). IsShort session.timeout)
with_short true id timeout short = short
with_short false id timeout short = tt

pub in_short : (parts : List (List ℕ)) → IfSome (session_in parts) (λ session. IsShort session.timeout)
in_short [] = tt
in_short (id ∷ parameters) = with_short (is_session_id id) id (first_timeout parameters) (first_short parameters)

pub session_short : (field : Option SessionField) (value : List ℕ) → option_map session_seen field ≡ session_of value → IfSome field (λ one. IsShort one.timeout)
session_short None value is = tt
session_short (Some field) value is = subst (λ (session : Option SessionParts). IfSome session (λ one. IsShort one.timeout)) (sym is) (in_short (parts_at semicolon value))

-- The stream of an open SETUP has two channels.
lent_apart : (track : Option (Bor Track)) → IfSome (option_map (λ (one : Bor Track). one.now) track) (λ one. AreApart one.client) → IfSome track (λ one. AreApart one.now.client)
lent_apart None apart = tt
lent_apart (Some track) apart = apart

pub open_apart : (pending : Pending) (asked : Bor Asked) (track : Option (Bor Track)) (kept : Option Purpose) (sessions : List PlayerSession) → kept ≡ Some (purpose_seen pending) → pending ≡ lent.Client asked track → IfSome kept (IsPlacedIn sessions)
    → IfSome track (λ one. AreApart one.now.client)
open_apart pending asked track kept sessions is seen placed =
    lent_apart track (open_placed kept (purpose_seen (lent.Client asked track)) sessions (is ∙ ap (λ (one : Pending). Some (purpose_seen one)) seen) placed).apart

-- A description under the player's address is not much longer than it came.
control_length : (from to line : List ℕ) → length (swapped_control from to line) ≤ length line + (length to + 17)
control_length from to line = grind (arith, length-append, with_length, rest_within, drop_within)

return_short : (line : List ℕ) → length (return_of line) ≤ 1
return_short line = grind arith

ended_length : (from to line : List ℕ) → length (swapped_ended from to line) ≤ length line + (length to + 18)
ended_length from to line =
    omega (arith, length-append (swapped_control from to (strip_carriage_return line)) (return_of line), control_length from to (strip_carriage_return line), strip_within line, return_short line)

lines_length : (from to : List ℕ) (lines : List (List ℕ)) → length to ≤ 255 → length (join_with_byte lf (swapped_lines from to lines)) ≤ 300 * (length (join_with_byte lf lines) + 1)
lines_length from to [] short = omega arith
lines_length from to (last ∷ []) short = omega (arith, short, control_length from to last)
lines_length from to (line ∷ next ∷ []) short =
    omega (
      arith,
      short,
      ended_length from to line,
      lines_length from to (next ∷ []) short,
      length-append (swapped_ended from to line) (lf ∷ join_with_byte lf (swapped_lines from to (next ∷ []))),
      length-append line (lf ∷ join_with_byte lf (next ∷ [])),
    )
lines_length from to (line ∷ next ∷ third ∷ more) short =
    omega (
      arith,
      short,
      ended_length from to line,
      lines_length from to (next ∷ third ∷ more) short,
      length-append (swapped_ended from to line) (lf ∷ join_with_byte lf (swapped_lines from to (next ∷ third ∷ more))),
      length-append line (lf ∷ join_with_byte lf (next ∷ third ∷ more)),
    )

pub rewritten_length : (from to body : List ℕ) → length to ≤ 255 → length (rewritten from to body) ≤ 300 * (length body + 1)
rewritten_length from to body short =
    subst (λ (text : List ℕ). length (rewritten from to body) ≤ 300 * (length text + 1)) (join_with_byte-slice_split lf body) (lines_length from to (parts_at lf body) short)

-- A code that is no success does not become one.
rows_refuse : (rows : List CodeRow) (code : ℕ) → list_all (λ (row : CodeRow). not (is_success (unwrap_or row.told 502))) rows ≡ true → is_success code ≡ false → is_success (code_in rows code) ≡ false
rows_refuse [] code known e = refl
rows_refuse (row ∷ more) code known e =
    let parts = and_parts (not (is_success (unwrap_or row.told 502))) (list_all (λ (one : CodeRow). not (is_success (unwrap_or one.told 502))) more) known in
    either_so (λ one. is_success one ≡ false) (holds row code) (unwrap_or row.told code) (code_in more code) (grind arith) (rows_refuse more code parts.1 e)

pub code_refuses : (code : ℕ) → is_success code ≡ false → is_success (code_one code) ≡ false
code_refuses code e = ap (λ b. is_success (cond b 200 (code_in (drop 1 code_rows) code))) e ∙ rows_refuse (drop 1 code_rows) code refl e

-- The front is a base.
pub base_known : (base : Base) → is_base_text base.text ≡ true
base_known base = grind (arith, le-leb, eq-eqb)

-- What a reply says of its session is in the grammar.
session_by : (P : SessionParts → Type 0) (value : Option (List ℕ)) → ((text : List ℕ) → IfSome (session_of text) P) → IfSome (option_and_then session_of value) P
session_by P value all = grind arith

pub id_told : (told : Told) → IfSome (session_told told) (λ session. is_session_id session.id ≡ true)
id_told told = session_by (λ session. is_session_id session.id ≡ true) (field_of told.fields (codes "Session")) (λ text. (grind arith))

timeout_of : (session : Option SessionParts) → IfSome session (λ one. IsShort one.timeout) → IsShort (option_and_then (λ one. one.timeout) session)
timeout_of session all = grind arith

timeout_told : (told : Told) → IsShort (option_and_then (λ session. session.timeout) (session_told told))
timeout_told told = timeout_of (session_told told) (session_by (λ session. IsShort session.timeout) (field_of told.fields (codes "Session")) (λ text. in_short (parts_at semicolon text)))

-- What is known of a reply to a player's request, and of the id of its session.
pub record IsTellable (asked : Asked) (track : Option Track) (told : Told) (session : Option (List ℕ)) : Type 0 where
  pub id : IsValidId session
  pub channels : IfSome track (λ one. IsGiven one.client)
  pub short : asked.cseq < 10 ^ CSEQ_ONE_DIGITS
  pub fields : list_all is_header told.fields ≡ true
  pub body : length told.body ≤ MOST_BODY

can_read : (bases : Bases) (asked : Asked) (track : Option Track) (told : Told) (ssrc : Option ℕ) (session : Option (List ℕ)) (body : List ℕ) → IsTellable asked track told session
    → length (body_told (setting bases track ssrc told session) asked.method told.fields body) < 2 ^ 64 → CanBeRead (setting bases track ssrc told session) asked (record told { body = body })
can_read bases asked track told ssrc session body can short = grind (arith, timeout_told, base_known)

-- The reply that a player gets can be read back.
pub down_readable : (bases : Bases) (asked : Asked) (track : Option Track) (told : Told) (ssrc : Option ℕ) (session : Option (List ℕ)) → IsTellable asked track told session → IsReply (reply_down (setting bases track ssrc told session) asked told)
down_readable bases asked track told ssrc session can =
    down_reply (setting bases track ssrc told session) asked told
    (can_read bases asked track told ssrc session told.body can (grind (arith, rewritten_length)))

-- The reply to a SETUP tells the id of its session.
or_nothing : (one : Option (List ℕ)) → option_or one None ≡ one
or_nothing one = grind arith

id_read : (id : Option (List ℕ)) (timeout : Option ℕ) → IsValidId id → IsShort timeout → option_and_then id_of (option_map (λ one. session_text (record { id = one; timeout = timeout })) id) ≡ id
id_read None timeout valid short = refl
id_read (Some id) timeout valid short = ap (option_map (λ (session : SessionParts). session.id)) (session_read (record { id = id; timeout = timeout }) valid short)

pub brought_is : (bases : Bases) (asked : Asked) (track : Option Track) (told : Told) (ssrc : Option ℕ) (session : Option (List ℕ)) → asked.method ≡ methods.Setup → IsValidId session
    → option_and_then id_of (field_of (success_of (setting bases track ssrc told session) asked told).headers (codes "Session")) ≡ session
brought_is bases asked track told ssrc session setup valid =
    let place : Setting = setting bases track ssrc told session in
    ap (option_and_then id_of) (field_told (codes "Session") (success_fields place asked told) ∙ or_nothing (session_value place asked))
    ∙ ap (λ (method : Method). option_and_then id_of (said_where (tells_session_of method asked.named) (option_map (λ id. session_text (record { id = id; timeout = told_timeout method place.timeout })) session))) setup
    ∙ id_read session place.timeout valid (timeout_told told)
