-- What goes up for a connection can be written under every number: its request, with the pair that is free, and its frame.
use Rattle.std.proofs.Common.{◌≡◌, ℕ, ◌+◌, ◌*◌, ◌<◌, ◌≤◌, ◌||◌, not, Bool, true, false, List, [], ◌∷◌, drop, length, Option, Some, None, IfSome, refl, ap, subst, unwrap_or, arith}
use Rattle.std.specs.Prelude.{codes, is_none}
use Rattle.std.specs.Option.{option_or}
use Rattle.std.specs.List.{list_all}
use Rattle.gate_bytes.specs.Tokens.{is_token, equal_fold}
use Rattle.rtsp_head.specs.HeadParts.{Request}
use Rattle.rtsp_head.specs.Items.{Shape}
use Rattle.rtsp_head.specs.Messages.{is_added}
use Rattle.rtsp_head.specs.Optional.{Field, named, field_headers}
use Rattle.rtsp_head.specs.Spellings.{IsFrame, IsItem, begins_frame}
use Rattle.rtsp_head.specs.declared.item.ItemKind.{ItemKind}
use Rattle.rtsp_head.specs.declared.item.ItemKind.TheVariants as items
use Rattle.rtsp_head.proofs.FieldLemmas.{EachField, HasValue, fields_sound, fields_few, names_hold}
use Rattle.rtsp_head.proofs.MessageLemmas.{message_sound}
use Rattle.rtsp_small.specs.Sessions.{is_session_id}
use Rattle.rtsp_small.specs.Methods.{method_name}
use Rattle.rtsp_small.specs.declared.method.Method.{Method}
use Rattle.rtsp_small.specs.declared.method.Method.TheVariants as methods
use Rattle.rtsp_range.specs.RangeText.{range_text}
use Rattle.rtsp_transport.specs.declared.channels.Pair.{Pair}
use Rattle.rtsp_uri.specs.declared.base.Bases.{Bases}
use Rattle.head_two.specs.declared.request.Request2.{Request2}
use Rattle.head_two.specs.Messages.{version_two}
use Rattle.session_one.specs.declared.parts.Play.{Play}
use Rattle.channel_map.specs.declared.map.TheConstants.{PAIRS}
use Rattle.translate_up.specs.QueuedPlay.{play_fields_up, play_up}
use Rattle.translate_up.specs.Sound.{is_target, IsSound, IsSoundPlay}
use Rattle.translate_up.proofs.RangeLemmas.{range_visible}
use Rattle.translate_up.proofs.SoundLemmas.{session_value, start_sound}
use Rattle.translate_up.proofs.VisibleLemmas.{visible_value}
use Rattle.client_slot.specs.Client.{Client}
use Rattle.client_slot.specs.ClosingRequest.{closing_request}
use Rattle.client_slot.specs.Places.{session_at, tracks_of}
use Rattle.client_machine.specs.Events.{Outgoing, asks, carries, PrivateEvent, arrive, answer, note, media, end, slow, up_end}
use Rattle.client_machine.specs.Frames.{channel_in, behind_channel, Half, half_for}
use Rattle.client_machine.specs.Treatment.{given, Going, treated}
use Rattle.client_machine.specs.Step.{after_plays, goes_at, NextPart, carry, take_item, take, hear, going_on, step}
use Rattle.client_machine.specs.UpTexts.{over_pair}
use Rattle.client_machine.proofs.WayLemmas.{going_as}
use Rattle.gateway_claim.proofs.CaseLemmas.{pair_where}
use Rattle.gateway_claim.proofs.FitLemmas.{IsFitClient, IsFitOne, fit_at, given_fit, hear_fit}
use Rattle.upward_law.proofs.PlayLemmas.{WaitSound, plays_at, first_play, hear_plays, GoesSound, treated_sound}

-- a name that a message doesn't have by itself
abbrev is_other : List ℕ → Bool
is_other name = not (equal_fold name (codes "CSeq") || equal_fold name (codes "Content-Length"))

-- A request without a body, of some fields.
bare_sound : (method : Method) (uri : List ℕ) (fields : List Field) → begins_frame (method_name method) ≡ false → is_target uri ≡ true → list_all (λ field. is_token field.name) fields ≡ true → list_all (λ field. is_other field.name) fields ≡ true
    → length fields ≤ 7 → EachField HasValue fields → IsSound (record { method = method_name method; uri = uri; headers = field_headers fields; body = [] })
bare_sound method uri fields no_frame target names others few values number short = record {
  short = short;
  no_frame = no_frame;
  held = omega arith;
  writable = message_sound (Request (method_name method) uri version_two) (Some number) (field_headers fields) [] (start_sound method uri target) (omega arith) (omega arith) (omega (arith, fields_few fields)) (fields_sound fields names values);
  own = names_hold (λ header. not (is_added header)) is_other (λ header other. other) fields others;
}

-- a PLAY that waited
play_sound : (session : Option (List ℕ)) (play : Play) → IfSome session (λ id. is_session_id id ≡ true) → IsSoundPlay play → IsSound (play_up session play)
play_sound session play valid sound =
    bare_sound methods.Play play.uri (play_fields_up session play) refl sound.uri refl refl (omega arith)
    (session_value session valid, (visible_value (range_text play.range) (range_visible play.range sound.range), (sound.scale, tt)))

-- the TEARDOWN of a connection that closed
star_target : (control : Option (List ℕ)) → IfSome control (λ uri. is_target uri ≡ true) → is_target (unwrap_or control (codes "*")) ≡ true
star_target None fit = refl
star_target (Some uri) fit = fit

closing_sound : (control : Option (List ℕ)) (id : List ℕ) → IfSome control (λ uri. is_target uri ≡ true) → is_session_id id ≡ true → IsSound (closing_request control id)
closing_sound control id fit valid =
    bare_sound methods.Teardown (unwrap_or control (codes "*")) (named (codes "Session") (Some id) ∷ []) refl (star_target control fit) refl refl (omega arith) (session_value (Some id) valid, tt)

-- what stands behind the channel of a frame: the length of the load, and the load
pub record IsLoad (rest : List ℕ) : Type 0 where
  pub high : ℕ
  pub low : ℕ
  pub load : List ℕ
  pub spelled : rest ≡ high ∷ low ∷ load
  pub counted : length load ≡ 256 * high + low

-- A message by the pair that is free: a request can be written, and a frame has its load where it came whole.
abbrev pub IsSoundUp : Type 0 → Option ℕ → Option Outgoing → Type 0
IsSoundUp whole free None = Unit {0}
IsSoundUp whole free (Some (asks request named)) = IsSound (over_pair named free request)
IsSoundUp whole free (Some (carries pair half rest)) = whole → IsLoad rest

pub sound_where : (one other : Type 0) (free : Option ℕ) (message : Option Outgoing) → (one → other) → IsSoundUp other free message → IsSoundUp one free message
sound_where one other free None both sound = tt
sound_where one other free (Some (asks request named)) both sound = sound
sound_where one other free (Some (carries pair half rest)) both sound = λ is. sound (both is)

-- a pair is one of those that there are
abbrev pub IsPairAt : Option ℕ → Type 0
IsPairAt free = IfSome free (λ p. p < PAIRS)

unpaired : (free : Option ℕ) (request : Request2) → IsSound request → IsSound (over_pair None free request)
unpaired None request sound = sound
unpaired (Some p) request sound = sound

goes_sound : (whole : Type 0) (free : Option ℕ) (own : ℕ) (one : Option Going) (text : List ℕ) (client : Client) → IsPairAt free → GoesSound (is_none (pair_where free own)) one → IsSoundUp whole free (goes_at one (pair_where free own) text client).message
goes_sound whole free own None text client low sound = tt
goes_sound whole free own (Some one) text client low sound = by free one.channels low sound
  where
    by : (free : Option ℕ) (channels : Option Pair) → IsPairAt free → GoesSound (is_none (pair_where free own)) (Some (record one { channels = channels }))
        → IsSoundUp whole free (goes_at (Some (record one { channels = channels })) (pair_where free own) text client).message
    by free None low sound = unpaired free one.request sound
    by None (Some pair) low sound = cc
    by (Some p) (Some pair) low sound = sound.0 (record { rtp = 2 * p; rtcp = 2 * p + 1 }) (omega (arith, low)) (omega (arith, low))

pub going_sound : (whole : Type 0) (bases : Bases) (free : Option ℕ) (own : ℕ) (next : NextPart) (client : Client) → IsFitClient client → WaitSound client.sessions → IsPairAt free → IsSoundUp whole free (going_on bases (pair_where free own) next client).message
going_sound whole bases free own next client fit plays low = going_as (λ effect. IsSoundUp whole free effect.message) bases (pair_where free own) next client (record {
  still = tt;
  released = λ place play idle due is.
      unpaired free _ (play_sound (session_at place client.sessions).id play (fit_at place client.sessions fit.sessions).id (first_play (session_at place client.sessions).queue play (plays_at place client.sessions plays) is));
  treats = λ idle alive.
      let full = is_none (pair_where free own) in
      let done = treated client.waiting (given bases full client) in
      goes_sound whole free own done.going done.hand (after_plays done.plays (record client { waiting = done.left })) low (treated_sound client.waiting (given bases full client) (given_fit bases full client fit)).1;
  left = λ place id idle dead filled is.
      let one : IsFitOne (session_at place client.sessions) = fit_at place client.sessions fit.sessions in
      unpaired free _ (closing_sound (session_at place client.sessions).control id one.control (subst (λ (named : Option (List ℕ)). IfSome named (λ one. is_session_id one ≡ true)) is one.id));
})

-- An event by itself sends a frame at most.
abbrev IsFrameAtMost : Type 0 → Option Outgoing → Type 0
IsFrameAtMost whole None = Unit {0}
IsFrameAtMost whole (Some (asks request named)) = ⊥
IsFrameAtMost whole (Some (carries pair half rest)) = whole → IsLoad rest

-- an item of the player is one
abbrev pub IsWhole : PrivateEvent → Type 0
IsWhole (arrive shape full) = IsItem shape.kind shape.bytes shape.head
IsWhole event = Unit {0}

load_behind : (bytes : List ℕ) → IsFrame bytes → IsLoad (drop 2 bytes)
load_behind bytes is = record { high = is.high; low = is.low; load = is.load; spelled = ap (drop 2) is.spelled; counted = is.counted }

carry_load : (half : Option Half) (shape : Shape) (client : Client) → IsFrameAtMost (IsItem items.Frame shape.bytes shape.head) (carry half (behind_channel shape) client).effect.message
carry_load None shape client = tt
carry_load (Some half) shape client = λ is. load_behind shape.bytes is.0

item_load : (kind : ItemKind) (shape : Shape) (client : Client) → IsFrameAtMost (IsItem kind shape.bytes shape.head) (take_item kind shape client).effect.message
item_load items.Request shape client = tt
item_load items.Response shape client = tt
item_load items.Frame shape client = carry_load (half_for (channel_in shape) (tracks_of client.sessions)) shape client
item_load (items.Bad kind) shape client = tt

take_load : (alive : Bool) (shape : Shape) (client : Client) → IsFrameAtMost (IsItem shape.kind shape.bytes shape.head) (take alive shape client).effect.message
take_load true shape client = item_load shape.kind shape client
take_load false shape client = tt

hear_load : (bases : Bases) (number : ℕ) (client : Client) (event : PrivateEvent) → IsFrameAtMost (IsWhole event) (hear bases number client event).effect.message
hear_load bases number client (arrive shape full) = take_load client.alive shape client
hear_load bases number client (answer told ssrc full) = grind arith
hear_load bases number client (note id reason names) = grind arith
hear_load bases number client (media pair half rest) = grind arith
hear_load bases number client end = grind arith
hear_load bases number client slow = grind arith
hear_load bases number client up_end = tt

either_sound : (whole : Type 0) (free : Option ℕ) (first second : Option Outgoing) → IsFrameAtMost whole first → IsSoundUp whole free second → IsSoundUp whole free (option_or first second)
either_sound whole free None second frame sound = sound
either_sound whole free (Some (asks request named)) second frame sound = absurd frame
either_sound whole free (Some (carries pair half rest)) second frame sound = frame

pub step_sound : (bases : Bases) (number : ℕ) (free : Option ℕ) (own : ℕ) (client : Client) (event : PrivateEvent) → IsFitClient client → WaitSound client.sessions → IsPairAt free
    → IsSoundUp (IsWhole event) free (step bases number (pair_where free own) client event).message
step_sound bases number free own client event fit plays low =
    let heard = hear bases number client event in
    either_sound (IsWhole event) free heard.effect.message (going_on bases (pair_where free own) heard.next heard.effect.client).message (hear_load bases number client event)
    (going_sound (IsWhole event) bases free own heard.next heard.effect.client (hear_fit bases number client event fit) (hear_plays bases number client event plays) low)
