-- A step is the same under every numbering that tells apart what the event names.
use Rattle.std.proofs.Common.{◌≡◌, ◌∙◌, ℕ, nat_lt, Bool, true, cond, List, [], ◌∷◌, map, Option, Some, None, refl, sym, ap, arith}
use Rattle.std.specs.Prelude.{◌++◌, is_none}
use Rattle.std.specs.Option.{option_map, option_or}
use Rattle.rtsp_head.specs.Items.{Shape}
use Rattle.rtsp_head.specs.declared.item.ItemKind.{ItemKind}
use Rattle.rtsp_head.specs.declared.item.ItemKind.TheVariants.{Request, Response, Frame, Bad}
use Rattle.rtsp_uri.specs.declared.base.Bases.{Bases}
use Rattle.session_one.specs.declared.parts.Play.{Play}
use Rattle.session_one.specs.declared.parts.Track.{Track}
use Rattle.translate_up.specs.Views.{session_with_pairs}
use Rattle.translate_down.specs.Replies.{Told}
use Rattle.client_slot.specs.declared.purpose.Purpose.{Purpose}
use Rattle.client_slot.specs.Client.{Client}
use Rattle.client_slot.specs.Session.{PlayerSession}
use Rattle.client_slot.specs.Places.{tracks_of}
use Rattle.client_slot.specs.Changes.{due_place, closing_place, purpose_place, after_queueing}
use Rattle.client_slot.specs.Renumber.{track_under, purpose_under, client_under}
use Rattle.client_slot.proofs.RenumberLemmas.{sessions_under, at_under, where_under, place_under, reply_under, note_under, queueing_under, due_under, queued_under, release_under, close_under, left_under, closing_under}
use Rattle.client_machine.specs.declared.why.CloseWhy.{CloseWhy}
use Rattle.client_machine.specs.declared.why.CloseWhy.TheVariants as why
use Rattle.client_machine.specs.Events.{Effect, then_effect, PrivateEvent}
use Rattle.client_machine.specs.Frames.{channel_in, behind_channel, Half, half_on, half_for, channel_for}
use Rattle.client_machine.specs.Treatment.{session_found, given, Treated, treated}
use Rattle.client_machine.specs.Step as going
use Rattle.client_machine.specs.Step.{NextPart, Hearing, idles, closes, carry, take_item, take, id_after, settled, settle_at, take_answer, take_media, hear, going_on, step}
use Rattle.client_machine.specs.Renumber.{effect_under, event_under, AreTracksApart, IsToldApart}
use Rattle.client_machine.proofs.TreatLemmas.{treated_under}

none_same : (pairs : ℕ → ℕ) (pair : Option ℕ) → is_none (option_map pairs pair) ≡ is_none pair
none_same pairs pair = grind arith

plays_under : (numbers pairs : ℕ → ℕ) (plays : List Play) (client : Client) → going.after_plays plays (client_under numbers pairs client) ≡ client_under numbers pairs (going.after_plays plays client)
plays_under numbers pairs [] client = refl
plays_under numbers pairs (play ∷ plays) client = grind (arith, queueing_under, plays_under numbers pairs plays (after_queueing play client))

goes_with_under : (numbers pairs : ℕ → ℕ) (all : Treated) (pair : Option ℕ) (client : Client)
    → going.goes_with all (option_map pairs pair) (client_under numbers pairs client) ≡ effect_under numbers pairs (going.goes_with all pair client)
goes_with_under numbers pairs all pair client = grind (arith, plays_under)

-- what requests are judged by
seen_under : (numbers pairs : ℕ → ℕ) (sessions : List PlayerSession) → map session_found (sessions_under numbers pairs sessions) ≡ map (session_with_pairs pairs) (map session_found sessions)
seen_under numbers pairs [] = refl
seen_under numbers pairs (one ∷ more) = ap (λ later. session_with_pairs pairs (session_found one) ∷ later) (seen_under numbers pairs more)

treat_under : (numbers pairs : ℕ → ℕ) (bases : Bases) (pair : Option ℕ) (client : Client) → going.treat bases (option_map pairs pair) (client_under numbers pairs client) ≡ effect_under numbers pairs (going.treat bases pair client)
treat_under numbers pairs bases pair client =
    ap (λ full. going.goes_with (treated client.waiting (given bases full (client_under numbers pairs client))) (option_map pairs pair) (client_under numbers pairs client)) (none_same pairs pair)
    ∙ ap (λ seen. going.goes_with (treated client.waiting (record (given bases (is_none pair) client) { sessions = seen })) (option_map pairs pair) (client_under numbers pairs client)) (seen_under numbers pairs client.sessions)
    ∙ ap (λ all. going.goes_with all (option_map pairs pair) (client_under numbers pairs client)) (treated_under pairs client.waiting (given bases (is_none pair) client))
    ∙ goes_with_under numbers pairs (treated client.waiting (given bases (is_none pair) client)) pair client

released_with_under : (numbers pairs : ℕ → ℕ) (play : Option Play) (id : Option (List ℕ)) (client : Client) → going.released_with play id (client_under numbers pairs client) ≡ effect_under numbers pairs (going.released_with play id client)
released_with_under numbers pairs play id client = grind (arith, release_under)

released_at_under : (numbers pairs : ℕ → ℕ) (place : Option ℕ) (client : Client) → going.released_at place (client_under numbers pairs client) ≡ effect_under numbers pairs (going.released_at place client)
released_at_under numbers pairs place client = grind (arith, sessions_under, queued_under, at_under, released_with_under)

release_same : (numbers pairs : ℕ → ℕ) (client : Client) → going.release (client_under numbers pairs client) ≡ effect_under numbers pairs (going.release client)
release_same numbers pairs client = ap (λ place. going.released_at place (client_under numbers pairs client)) (due_under numbers pairs client) ∙ released_at_under numbers pairs (due_place client) client

leave_with_under : (numbers pairs : ℕ → ℕ) (id control : Option (List ℕ)) (client : Client) → going.leave_with id control (client_under numbers pairs client) ≡ effect_under numbers pairs (going.leave_with id control client)
leave_with_under numbers pairs id control client = grind (arith, closing_under)

leave_at_under : (numbers pairs : ℕ → ℕ) (place : Option ℕ) (client : Client) → going.leave_at place (client_under numbers pairs client) ≡ effect_under numbers pairs (going.leave_at place client)
leave_at_under numbers pairs place client = grind (arith, at_under, leave_with_under)

leave_same : (numbers pairs : ℕ → ℕ) (client : Client) → going.leave (client_under numbers pairs client) ≡ effect_under numbers pairs (going.leave client)
leave_same numbers pairs client = ap (λ place. going.leave_at place (client_under numbers pairs client)) (left_under numbers pairs client) ∙ leave_at_under numbers pairs (closing_place client) client

go_due_under : (numbers pairs : ℕ → ℕ) (bases : Bases) (pair place : Option ℕ) (client : Client)
    → going.go_due bases (option_map pairs pair) place (client_under numbers pairs client) ≡ effect_under numbers pairs (going.go_due bases pair place client)
go_due_under numbers pairs bases pair (Some place) client = released_at_under numbers pairs (Some place) client
go_due_under numbers pairs bases pair None client = treat_under numbers pairs bases pair client

go_idle_under : (numbers pairs : ℕ → ℕ) (bases : Bases) (pair : Option ℕ) (alive : Bool) (client : Client)
    → going.go_idle bases (option_map pairs pair) alive (client_under numbers pairs client) ≡ effect_under numbers pairs (going.go_idle bases pair alive client)
go_idle_under numbers pairs bases pair alive client = grind (arith, due_under, go_due_under, leave_same)

go_at_under : (numbers pairs : ℕ → ℕ) (bases : Bases) (pair : Option ℕ) (pending : Option Purpose) (client : Client)
    → going.go_at bases (option_map pairs pair) (option_map (purpose_under pairs) pending) (client_under numbers pairs client) ≡ effect_under numbers pairs (going.go_at bases pair pending client)
go_at_under numbers pairs bases pair pending client = grind (arith, go_idle_under)

going_on_under : (numbers pairs : ℕ → ℕ) (bases : Bases) (pair : Option ℕ) (next : NextPart) (client : Client)
    → going_on bases (option_map pairs pair) next (client_under numbers pairs client) ≡ effect_under numbers pairs (going_on bases pair next client)
going_on_under numbers pairs bases pair next client = grind (arith, release_same, go_at_under)

-- what an event does by itself
abbrev heard_under : (ℕ → ℕ) → (ℕ → ℕ) → Hearing → Hearing
heard_under numbers pairs heard = record { effect = effect_under numbers pairs heard.effect; next = heard.next }

closes_under : (numbers pairs : ℕ → ℕ) (alive : Bool) (why : CloseWhy) (client : Client) → closes alive why (client_under numbers pairs client) ≡ heard_under numbers pairs (closes alive why client)
closes_under numbers pairs alive why client = grind (arith, close_under)

abbrev half_under : (ℕ → ℕ) → Half → Half
half_under pairs half = record { pair = pairs half.pair; half = half.half }

half_here : (pairs : ℕ → ℕ) (pair : ℕ) (half : Option ℕ) (later moved : Option Half) → moved ≡ option_map (half_under pairs) later
    → option_or (option_map (λ one. record { pair = pairs pair; half = one }) half) moved ≡ option_map (half_under pairs) (option_or (option_map (λ one. record { pair = pair; half = one }) half) later)
half_here pairs pair half later moved same = grind arith

half_same : (pairs : ℕ → ℕ) (channel : ℕ) (tracks : List Track) → half_for channel (map (track_under pairs) tracks) ≡ option_map (half_under pairs) (half_for channel tracks)
half_same pairs channel [] = refl
half_same pairs channel (track ∷ tracks) = half_here pairs track.pair (half_on channel track) (half_for channel tracks) (half_for channel (map (track_under pairs) tracks)) (half_same pairs channel tracks)

streams_and : (pairs : ℕ → ℕ) (first second : List Track) → map (track_under pairs) (first ++ second) ≡ map (track_under pairs) first ++ map (track_under pairs) second
streams_and pairs [] second = refl
streams_and pairs (track ∷ first) second = ap (λ more. track_under pairs track ∷ more) (streams_and pairs first second)

-- the streams of all sessions
pub tracks_of_under : (numbers pairs : ℕ → ℕ) (sessions : List PlayerSession) → tracks_of (sessions_under numbers pairs sessions) ≡ map (track_under pairs) (tracks_of sessions)
tracks_of_under numbers pairs [] = refl
tracks_of_under numbers pairs (one ∷ more) = ap (λ later. map (track_under pairs) one.tracks ++ later) (tracks_of_under numbers pairs more) ∙ sym (streams_and pairs one.tracks (tracks_of more))

carry_under : (numbers pairs : ℕ → ℕ) (half : Option Half) (rest : List ℕ) (client : Client)
    → carry (option_map (half_under pairs) half) rest (client_under numbers pairs client) ≡ heard_under numbers pairs (carry half rest client)
carry_under numbers pairs half rest client = grind arith

item_under : (numbers pairs : ℕ → ℕ) (kind : ItemKind) (shape : Shape) (client : Client) → take_item kind shape (client_under numbers pairs client) ≡ heard_under numbers pairs (take_item kind shape client)
item_under numbers pairs Request shape client = refl
item_under numbers pairs Response shape client = refl
item_under numbers pairs Frame shape client =
    ap (λ tracks. carry (half_for (channel_in shape) tracks) (behind_channel shape) (client_under numbers pairs client)) (tracks_of_under numbers pairs client.sessions)
    ∙ ap (λ half. carry half (behind_channel shape) (client_under numbers pairs client)) (half_same pairs (channel_in shape) (tracks_of client.sessions))
    ∙ carry_under numbers pairs (half_for (channel_in shape) (tracks_of client.sessions)) (behind_channel shape) client
item_under numbers pairs (Bad kind) shape client = closes_under numbers pairs true why.BadItem client

take_under : (numbers pairs : ℕ → ℕ) (alive : Bool) (shape : Shape) (client : Client) → take alive shape (client_under numbers pairs client) ≡ heard_under numbers pairs (take alive shape client)
take_under numbers pairs alive shape client = grind (arith, item_under)

purpose_place_under : (numbers pairs : ℕ → ℕ) (purpose : Purpose) (sessions : List PlayerSession) → purpose_place (purpose_under pairs purpose) (sessions_under numbers pairs sessions) ≡ purpose_place purpose sessions
purpose_place_under numbers pairs purpose sessions = grind (arith, place_under)

-- the id of the session that a request is for
id_after_under : (numbers pairs : ℕ → ℕ) (purpose : Purpose) (client after : Client) → id_after (purpose_under pairs purpose) (client_under numbers pairs client) (client_under numbers pairs after) ≡ id_after purpose client after
id_after_under numbers pairs purpose client after = grind (arith, sessions_under, purpose_place_under, where_under)

settled_under : (numbers pairs : ℕ → ℕ) (bases : Bases) (number : ℕ) (purpose : Purpose) (told : Told) (ssrc : Option ℕ) (client : Client)
    → settled bases (numbers number) (purpose_under pairs purpose) told ssrc (client_under numbers pairs client) ≡ heard_under numbers pairs (settled bases number purpose told ssrc client)
settled_under numbers pairs bases number purpose told ssrc client = grind (arith, reply_under, id_after_under)

settle_at_under : (numbers pairs : ℕ → ℕ) (bases : Bases) (number : ℕ) (pending : Option Purpose) (told : Told) (ssrc : Option ℕ) (client : Client)
    → settle_at bases (numbers number) (option_map (purpose_under pairs) pending) told ssrc (client_under numbers pairs client) ≡ heard_under numbers pairs (settle_at bases number pending told ssrc client)
settle_at_under numbers pairs bases number pending told ssrc client = grind (arith, settled_under)

answer_by : (numbers pairs : ℕ → ℕ) (early : Bool) (client : Client) (moved heard : Hearing) → moved ≡ heard_under numbers pairs heard
    → cond early (idles (client_under numbers pairs client)) moved ≡ heard_under numbers pairs (cond early (idles client) heard)
answer_by numbers pairs early client moved heard same = grind arith

answer_under : (numbers pairs : ℕ → ℕ) (bases : Bases) (number : ℕ) (told : Told) (ssrc : Option ℕ) (client : Client)
    → take_answer bases (numbers number) told ssrc (client_under numbers pairs client) ≡ heard_under numbers pairs (take_answer bases number told ssrc client)
answer_under numbers pairs bases number told ssrc client =
    answer_by numbers pairs (nat_lt told.code 200) client _ (settle_at bases number client.pending told ssrc client) (settle_at_under numbers pairs bases number client.pending told ssrc client)

channel_same : (pairs : ℕ → ℕ) (pair half : ℕ) (tracks : List Track) → AreTracksApart pairs pair tracks → channel_for (pairs pair) half (map (track_under pairs) tracks) ≡ channel_for pair half tracks
channel_same pairs pair half [] apart = refl
channel_same pairs pair half (track ∷ tracks) apart = grind (arith, channel_same pairs pair half tracks apart.1)

media_under : (numbers pairs : ℕ → ℕ) (alive : Bool) (pair half : ℕ) (rest : List ℕ) (client : Client) → AreTracksApart pairs pair (tracks_of client.sessions)
    → take_media alive (pairs pair) half rest (client_under numbers pairs client) ≡ heard_under numbers pairs (take_media alive pair half rest client)
media_under numbers pairs alive pair half rest client apart = grind (arith, tracks_of_under, channel_same)

hear_under : (numbers pairs : ℕ → ℕ) (bases : Bases) (number : ℕ) (client : Client) (event : PrivateEvent) → IsToldApart numbers pairs client event
    → hear bases (numbers number) (client_under numbers pairs client) (event_under numbers pairs event) ≡ heard_under numbers pairs (hear bases number client event)
hear_under numbers pairs bases number client event apart = grind (arith, take_under, answer_under, place_under, note_under, media_under, closes_under)

then_under : (numbers pairs : ℕ → ℕ) (first second : Effect) → then_effect (effect_under numbers pairs first) (effect_under numbers pairs second) ≡ effect_under numbers pairs (then_effect first second)
then_under numbers pairs first second = grind arith

pub step_under : (numbers pairs : ℕ → ℕ) (bases : Bases) (number : ℕ) (pair : Option ℕ) (client : Client) (event : PrivateEvent) → IsToldApart numbers pairs client event
    → step bases (numbers number) (option_map pairs pair) (client_under numbers pairs client) (event_under numbers pairs event) ≡ effect_under numbers pairs (step bases number pair client event)
step_under numbers pairs bases number pair client event apart = grind (arith, hear_under, going_on_under, then_under)
