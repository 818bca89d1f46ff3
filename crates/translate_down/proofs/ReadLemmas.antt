-- What a player gets is one reply, and is read back.
use Rattle.std.proofs.Common.{◌≡◌, ℕ, ◌<◌, ◌^◌, Bool, true, false, cond, ◌==◌, List, [], ◌∷◌, ◌++◌, Option, None, Some, Result, Ok, Err, IfSome, refl, arith}
use Rattle.std.specs.Prelude.{codes, option_map, option_and_then}
use Rattle.std.specs.List.{list_all}
use Rattle.rtsp_head.specs.Headers.{field_of}
use Rattle.rtsp_head.specs.Messages.{messages_of}
use Rattle.rtsp_head.specs.HeadText.{is_value, is_header}
use Rattle.rtsp_head.proofs.SoundLemmas.{field_sound}
use Rattle.rtsp_small.specs.declared.method.Method.{Method}
use Rattle.rtsp_small.specs.declared.method.Method.TheVariants.{Options, Describe, Setup, Play, Pause, Teardown, GetParameter, SetParameter}
use Rattle.rtsp_small.specs.Sessions.{is_session_id, session_text}
use Rattle.rtsp_small.specs.Scales.{is_scale}
use Rattle.rtsp_transport.specs.declared.channels.Pair.{Pair}
use Rattle.rtsp_transport.specs.GrantText.{grant_text}
use Rattle.rtsp_range.specs.declared.range.Range.{Range}
use Rattle.rtsp_range.specs.declared.fault.RangeFault.{RangeFault}
use Rattle.rtsp_range.specs.Meaning.{Two, meaning}
use Rattle.rtsp_range.specs.RangeText.{range_text}
use Rattle.rtsp_range.proofs.MeaningSound.{meaning_sound}
use Rattle.rtsp_status.proofs.RowLemmas.{told_has_reason}
use Rattle.rtsp_uri.specs.Swaps.{swapped}
use Rattle.head_one.specs.Replies.{reply_message, client_reply_in, IsReply}
use Rattle.head_one.proofs.ReadLemmas.{reply_read, replies_read}
use Rattle.head_one.proofs.FieldReplies.{fields_reply}
use Rattle.session_one.specs.declared.parts.Asked.{Asked}
use Rattle.rtsp_head.specs.Optional.{said_where, named}
use Rattle.rtsp_head.proofs.FieldLemmas.{EachField, HasValue}
use Rattle.translate_down.specs.Settings.{Setting}
use Rattle.translate_down.specs.Sessions.{sets_up, tells_session, told_timeout}
use Rattle.translate_down.specs.Plays.{moves, plays, range_with, range_told, scale_told}
use Rattle.translate_down.specs.Infos.{info_told}
use Rattle.translate_down.specs.Contents.{comes_with_description, comes_with_body}
use Rattle.rtsp_small.specs.Methods.{methods_text}
use Rattle.session_one.specs.Table.{is_success}
use Rattle.translate_down.specs.Replies.{Told, unsupported_value, refusal_of, tells_methods, success_fields, success_of, reply_down, reply_text_of}
use Rattle.translate_down.specs.Readable.{CanBeRead}
use Rattle.translate_down.proofs.VisibleLemmas.{is_visible, visible_value}
use Rattle.translate_down.proofs.ValueLemmas.{session_visible, grant_visible, range_visible, base_visible, swapped_holds}
use Rattle.rtsp_small.specs.declared.session.TheConstants.{TIMEOUT_DIGITS}
use Rattle.translate_down.proofs.InfoLemmas.{info_visible}

-- where there is a value, it stands in one line
abbrev Fits : Option (List ℕ) → Type 0
Fits value = IfSome value (λ text. is_value text ≡ true)

seen_fits : (value : Option (List ℕ)) → IfSome value (λ text. is_visible text ≡ true) → Fits value
seen_fits None h = tt
seen_fits (Some text) h = visible_value text h

where_fits : (told : Bool) (value : Option (List ℕ)) → Fits value → Fits (said_where told value)
where_fits true value h = h
where_fits false value h = tt

then_fits : (f : List ℕ → Option (List ℕ)) (value : Option (List ℕ)) → ((text : List ℕ) → is_value text ≡ true → Fits (f text)) → Fits value → Fits (option_and_then f value)
then_fits f None each h = tt
then_fits f (Some text) each h = each text h

map_fits : (f : List ℕ → List ℕ) (value : Option (List ℕ)) → ((text : List ℕ) → is_value text ≡ true → is_value (f text) ≡ true) → Fits value → Fits (option_map f value)
map_fits f None each h = tt
map_fits f (Some text) each h = each text h

-- the values of the headers
session_by : (session : Option (List ℕ)) (timeout : Option ℕ) → IfSome session (λ id. is_session_id id ≡ true) → IfSome timeout (λ seconds. seconds < 10 ^ TIMEOUT_DIGITS) →
    Fits (option_map (λ id. session_text (record { id = id; timeout = timeout })) session)
session_by None timeout is short = tt
session_by (Some id) timeout is short = visible_value (session_text (record { id = id; timeout = timeout })) (session_visible id timeout is short)

timeout_by : (method : Method) (timeout : Option ℕ) → IfSome timeout (λ seconds. seconds < 10 ^ TIMEOUT_DIGITS) → IfSome (told_timeout method timeout) (λ seconds. seconds < 10 ^ TIMEOUT_DIGITS)
timeout_by Setup timeout h = h
timeout_by Options timeout h = tt
timeout_by Describe timeout h = tt
timeout_by Play timeout h = tt
timeout_by Pause timeout h = tt
timeout_by Teardown timeout h = tt
timeout_by GetParameter timeout h = tt
timeout_by SetParameter timeout h = tt

pair_by : (client : Option Pair) (source : Option ℕ) → IfSome client (λ pair. (pair.rtp < 256) × (pair.rtcp < 256)) → Fits (option_map (λ pair. grant_text (record { pair = pair; ssrc = source })) client)
pair_by None source h = tt
pair_by (Some pair) source h = visible_value (grant_text (record { pair = pair; ssrc = source })) (grant_visible pair source h.0 h.1)

range_by : (value : List ℕ) (read : Result Range RangeFault) → meaning Two value ≡ read → Fits (range_with read)
range_by value (Ok range) is = visible_value (range_text range) (range_visible range (meaning_sound Two value range is))
range_by value (Err fault) is = tt

scale_by : (test : Bool) (text : List ℕ) → is_value text ≡ true → Fits (cond test (Some text) None)
scale_by true text h = h
scale_by false text h = tt

-- each field of a success has a value that can be written, where it has one
success_values : (setting : Setting) (asked : Asked) (told : Told) → CanBeRead setting asked told → EachField HasValue (success_fields setting asked told)
success_values setting asked told can = (
  where_fits (tells_session asked) (option_map (λ id. session_text (record { id = id; timeout = told_timeout asked.method setting.timeout })) setting.session)
      (session_by setting.session (told_timeout asked.method setting.timeout) can.setting.session (timeout_by asked.method setting.timeout can.setting.timeout)),
  (
    where_fits (sets_up asked.method) (option_map (λ pair. grant_text (record { pair = pair; ssrc = setting.ssrc })) setting.client) (pair_by setting.client setting.ssrc can.client),
    (
      where_fits (moves asked.method) (option_and_then range_told (field_of told.fields (codes "Range")))
          (then_fits range_told (field_of told.fields (codes "Range")) (λ text v. range_by text (meaning Two text) refl) (field_sound told.fields (codes "Range") can.fields)),
      (
        where_fits (plays asked.method) (option_and_then scale_told (field_of told.fields (codes "Scale")))
            (then_fits scale_told (field_of told.fields (codes "Scale")) (λ text v. scale_by (is_scale text) text v) (field_sound told.fields (codes "Scale") can.fields)),
        (
          where_fits (plays asked.method) (option_and_then (info_told setting.up setting.front) (field_of told.fields (codes "RTP-Info")))
              (then_fits (info_told setting.up setting.front) (field_of told.fields (codes "RTP-Info"))
              (λ text v. seen_fits (info_told setting.up setting.front text) (info_visible setting.up setting.front text (base_visible setting.front can.front)))
              (field_sound told.fields (codes "RTP-Info") can.fields)),
          (
            where_fits (tells_methods asked.method) (Some methods_text) refl,
            (
              where_fits (comes_with_description asked.method told.body) (option_map (swapped setting.up setting.front) (field_of told.fields (codes "Content-Base")))
                  (map_fits (swapped setting.up setting.front) (field_of told.fields (codes "Content-Base"))
                  (λ text v. swapped_holds (λ t. is_value t ≡ true) setting.up setting.front text visible_value (base_visible setting.front can.front) v)
                  (field_sound told.fields (codes "Content-Base") can.fields)),
              (
                where_fits (comes_with_body asked.method told.body) (field_of told.fields (codes "Content-Type")) (field_sound told.fields (codes "Content-Type") can.fields),
                (where_fits (comes_with_body asked.method told.body) (field_of told.fields (codes "Content-Encoding")) (field_sound told.fields (codes "Content-Encoding") can.fields), tt),
              ),
            ),
          ),
        ),
      ),
    ),
  ),
)

refusal_values : (told : Told) → list_all is_header told.fields ≡ true → EachField HasValue (named (codes "Unsupported") (unsupported_value told) ∷ [])
refusal_values told sound = (where_fits (told.code == 551) (field_of told.fields (codes "Unsupported")) (field_sound told.fields (codes "Unsupported") sound), tt)

down_by : (test : Bool) (setting : Setting) (asked : Asked) (told : Told) → CanBeRead setting asked told → IsReply (cond test (success_of setting asked told) (refusal_of asked told))
down_by true setting asked told can =
    fields_reply (success_of setting asked told) (success_fields setting asked told) asked.cseq refl refl can.cseq refl can.body (omega arith) refl refl (success_values setting asked told can)
down_by false setting asked told can =
    fields_reply (refusal_of asked told) (named (codes "Unsupported") (unsupported_value told) ∷ []) asked.cseq refl refl can.cseq (told_has_reason told.code) (omega arith) (omega arith) refl refl (refusal_values told can.fields)

-- What a player gets is a reply that can be read back.
pub down_reply : (setting : Setting) (asked : Asked) (told : Told) → CanBeRead setting asked told → IsReply (reply_down setting asked told)
down_reply setting asked told can = down_by (is_success told.code) setting asked told can

-- What a player gets is read back.
pub down_read : (setting : Setting) (asked : Asked) (told : Told) → CanBeRead setting asked told → client_reply_in (reply_text_of setting asked told) ≡ Some (reply_down setting asked told)
down_read setting asked told can = reply_read (reply_down setting asked told) (down_reply setting asked told can)

-- So are the replies that it gets in a row.
pub down_row : (setting : Setting) (asked : Asked) (told : Told) (rest : List ℕ) → CanBeRead setting asked told →
    messages_of (reply_text_of setting asked told ++ rest) ≡ option_map (λ more. reply_message (reply_down setting asked told) ∷ more) (messages_of rest)
down_row setting asked told rest can = replies_read (reply_down setting asked told) rest (down_reply setting asked told can)
