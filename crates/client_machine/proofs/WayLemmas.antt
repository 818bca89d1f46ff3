-- The ways of a step: what holds of each holds of the step.
use Rattle.std.proofs.Common.{◌≡◌, ℕ, ◌+◌, nat_lt, Bool, true, false, cond, List, [], ◌∷◌, Option, Some, None, refl, arith}
use Rattle.rtsp_head.specs.Items.{Shape}
use Rattle.rtsp_head.specs.declared.item.ItemKind.{ItemKind}
use Rattle.rtsp_head.specs.declared.item.ItemKind.TheVariants.{Request, Response, Frame, Bad}
use Rattle.rtsp_small.specs.declared.notify.NotifyReason.TheVariants.{EndOfStream, MediaProperties, ScaleChange}
use Rattle.rtsp_uri.specs.declared.base.Bases.{Bases}
use Rattle.session_one.specs.declared.parts.Play.{Play}
use Rattle.session_two.specs.declared.names.Names.{Names}
use Rattle.translate_down.specs.Replies.{Told}
use Rattle.translate_up.specs.QueuedPlay.{play_up}
use Rattle.client_slot.specs.declared.purpose.Purpose.{Purpose}
use Rattle.client_slot.specs.declared.purpose.Purpose.TheVariants.{Closing}
use Rattle.client_slot.specs.Places.{session_at, place_with, queued_at, filled_place, first_place, has_due, tracks_of}
use Rattle.client_slot.specs.Client.{Client}
use Rattle.client_slot.specs.Changes.{after_waiting, after_note, release_with}
use Rattle.client_slot.specs.ClosingRequest.{closing_request}
use Rattle.client_machine.specs.declared.why.CloseWhy.{CloseWhy}
use Rattle.client_machine.specs.declared.why.CloseWhy.TheVariants.{Ended, BadItem, Slow}
use Rattle.client_machine.specs.Events.{asks, carries, Effect, stays, sends, hands, PrivateEvent, arrive, answer, note, media, end, slow, up_end}
use Rattle.client_machine.specs.Frames.{channel_in, behind_channel, frame_text, Half, half_for, channel_for}
use Rattle.client_machine.specs.Step.{treat, NextPart, rests, releases, goes_on, Hearing, idles, closes, carry, take_item, take, settled, settle_at, give, take_media, hear, going_on, step}
use Rattle.client_machine.specs.Alone.{Private, pair_alone, over_effect, effect_alone, is_up_end}
use Rattle.client_machine.proofs.EachLemmas.{by_test, by_option}

-- each way to hear an event
pub record HearsAs (P : Hearing → Type 0) (bases : Bases) (number : ℕ) (client : Client) (event : PrivateEvent) : Type 0 where
  pub idle : P (idles client)
  pub closing : (reason : CloseWhy) → client.alive ≡ true → P (closes true reason client)
  pub waits : (shape : Shape) (full : Bool) → event ≡ arrive shape full → shape.kind ≡ Request → client.alive ≡ true
      → P (record { effect = stays (after_waiting (shape ∷ []) client); next = goes_on })
  pub carrying : (shape : Shape) (full : Bool) (half : Half) → event ≡ arrive shape full → half_for (channel_in shape) (tracks_of client.sessions) ≡ Some half
      → P (record { effect = sends (carries half.pair half.half (behind_channel shape)) client; next = rests })
  pub settles : (purpose : Purpose) (told : Told) (ssrc : Option ℕ) (full : Bool) → event ≡ answer told ssrc full → nat_lt told.code 200 ≡ false → client.pending ≡ Some purpose
      → P (settled bases number purpose told ssrc client)
  pub notes : (id : List ℕ) (names : Names) → event ≡ note id EndOfStream names → P (record { effect = stays (after_note (place_with id client.sessions) names client); next = releases })
  pub gives : (pair half channel : ℕ) (rest : List ℕ) → event ≡ media pair half rest → channel_for pair half (tracks_of client.sessions) ≡ Some channel → client.alive ≡ true
      → P (record { effect = hands (frame_text channel rest) client; next = rests })

pub hear_as : (P : Hearing → Type 0) (bases : Bases) (number : ℕ) (client : Client) (event : PrivateEvent) → HearsAs P bases number client event → P (hear bases number client event)
hear_as P bases number client event ways = heard event refl
  where
    item : (kind : ItemKind) (shape : Shape) (full : Bool) → event ≡ arrive shape full → shape.kind ≡ kind → client.alive ≡ true → P (take_item kind shape client)
    item Request shape full here is alive = ways.waits shape full here is alive
    item Response shape full here is alive = ways.idle
    item Frame shape full here is alive =
        by_option (half_for (channel_in shape) (tracks_of client.sessions)) (λ half. P (carry half (behind_channel shape) client)) (λ none. ways.idle) (λ half found. ways.carrying shape full half here found)
    item (Bad kind) shape full here is alive = ways.closing BadItem alive

    heard : (one : PrivateEvent) → event ≡ one → P (hear bases number client one)
    heard (arrive shape full) here = by_test client.alive (λ alive. P (take alive shape client)) (item shape.kind shape full here refl) (λ dead. ways.idle)
    heard (answer told ssrc full) here =
        by_test (nat_lt told.code 200) (λ early. P (cond early (idles client) (settle_at bases number client.pending told ssrc client))) (λ early. ways.idle)
        (λ late. by_option client.pending (λ pending. P (settle_at bases number pending told ssrc client)) (λ none. ways.idle) (λ purpose is. ways.settles purpose told ssrc full here late is))
    heard (note id EndOfStream names) here = ways.notes id names here
    heard (note id MediaProperties names) here = ways.idle
    heard (note id ScaleChange names) here = ways.idle
    heard (media pair half rest) here =
        by_test client.alive (λ alive. P (take_media alive pair half rest client))
        (λ alive. by_option (channel_for pair half (tracks_of client.sessions)) (λ channel. P (give channel rest client)) (λ none. ways.idle) (λ channel found. ways.gives pair half channel rest here found alive)) (λ dead. ways.idle)
    heard end here = by_test client.alive (λ alive. P (closes alive Ended client)) (ways.closing Ended) (λ dead. ways.idle)
    heard slow here = by_test client.alive (λ alive. P (closes alive Slow client)) (ways.closing Slow) (λ dead. ways.idle)
    heard up_end here = ways.idle

-- each way on
pub record GoesAs (P : Effect → Type 0) (bases : Bases) (pair : Option ℕ) (client : Client) : Type 0 where
  pub still : P (stays client)
  pub released : (place : ℕ) (play : Play) → client.pending ≡ None → first_place has_due 0 client.sessions ≡ Some place → queued_at place client.sessions ≡ Some play
      → P (sends (asks (play_up (session_at place client.sessions).id play) None) (release_with (Some play) place client))
  pub treats : client.pending ≡ None → client.alive ≡ true → P (treat bases pair client)
  pub left : (place : ℕ) (id : List ℕ) → client.pending ≡ None → client.alive ≡ false → filled_place client.sessions ≡ Some place → (session_at place client.sessions).id ≡ Some id
      → P (sends (asks (closing_request (session_at place client.sessions).control id) None) (record client { pending = Some (Closing place) }))

pub going_as : (P : Effect → Type 0) (bases : Bases) (pair : Option ℕ) (next : NextPart) (client : Client) → GoesAs P bases pair client → P (going_on bases pair next client)
going_as P bases pair next client ways = grind arith

-- what an event does to a connection alone
pub alone_by : (P : Effect → Type 0) (bases : Bases) (p : Private) (event : PrivateEvent) → (p.over ≡ true → P (stays p.client)) → (p.over ≡ false → is_up_end event ≡ true → P (over_effect p.client))
    → (p.over ≡ false → is_up_end event ≡ false → P (step bases p.count (pair_alone event (p.count + 1)) p.client event)) → P (effect_alone bases p event)
alone_by P bases p event still ended steps = (grind arith)

pub alone_as : (P : Effect → Type 0) (bases : Bases) (p : Private) (event : PrivateEvent) → P (stays p.client) → P (over_effect p.client) → P (step bases p.count (pair_alone event (p.count + 1)) p.client event) → P (effect_alone bases p event)
alone_as P bases p event still ended steps = alone_by P bases p event (λ over. still) (λ over up. ended) (λ over other. steps)
