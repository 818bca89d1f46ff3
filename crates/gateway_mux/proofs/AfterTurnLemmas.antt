-- What the turn of a connection changes, by the message that goes up.
use Rattle.std.proofs.Common.{◌≡◌, ◌∙◌, ℕ, ◌+◌, ◌==◌, nat_lt, Bool, true, false, cond, List, Option, Some, None, refl, sym, ap, subst}
use Rattle.std.specs.Prelude.{is_some}
use Rattle.std.specs.Option.{option_map, option_or}
use Rattle.std.proofs.lemmas.Bool.{eqb-true}
use Rattle.rtsp_uri.specs.declared.base.Bases.{Bases}
use Rattle.rtsp_head.specs.Items.{Shape}
use Rattle.rtsp_head.specs.declared.item.ItemKind.TheVariants.{Request as request_kind}
use Rattle.rtsp_head.specs.declared.item.ItemKind.{ItemKind}
use Rattle.head_two.specs.declared.request.Request2.{Request2}
use Rattle.rtsp_small.specs.declared.method.Method.TheVariants as methods
use Rattle.rtsp_small.specs.declared.notify.NotifyReason.{NotifyReason}
use Rattle.rtsp_small.specs.declared.notify.NotifyReason.TheVariants.{EndOfStream, MediaProperties, ScaleChange}
use Rattle.session_two.specs.declared.names.Names.{Names}
use Rattle.session_one.specs.Table.{same_method}
use Rattle.channel_map.specs.declared.map.Held.{Held}
use Rattle.translate_down.specs.Replies.{Told, told_by}
use Rattle.client_slot.specs.declared.purpose.Purpose.{Purpose}
use Rattle.client_slot.specs.declared.purpose.Purpose.TheVariants as purposes
use Rattle.client_slot.specs.Session.{PlayerSession}
use Rattle.client_slot.specs.Places.{session_at, session_where}
use Rattle.client_slot.specs.Client.{Client}
use Rattle.client_machine.specs.declared.why.CloseWhy.{CloseWhy}
use Rattle.client_machine.specs.OpenRequests.{IsAsked, IsOpenAs, IsFreeFor, AsksBy}
use Rattle.client_machine.specs.Events.{Outgoing, asks, carries}
use Rattle.client_machine.specs.Step.{Hearing, idles, closes, take_item, take, settle_at, take_note, going_on}
use Rattle.client_machine.specs.Plans.{Comes, requests, replies, notes, shuts, CanCome, heard_by, effect_by}
use Rattle.client_machine.proofs.AskLemmas.{going_asks}
use Rattle.gateway_claim.specs.Books.{plain, teardown_kind, Opened, HeldPair, Books, pair_asked, is_pair}
use Rattle.gateway_claim.specs.OwnEvents.{lends_where}
use Rattle.gateway_claim.specs.Turns.{kind_pending, kind_gone}
use Rattle.gateway_mux.specs.Pictures.{bare_held}
use Rattle.gateway_mux.specs.Turn.{asker_lent, issued_then}
use Rattle.gateway_mux.specs.Upstream.{taken_by, reserved_by, held_lent}
use Rattle.gateway_mux.proofs.SettlementLemmas.{turned_round}

-- What comes sends nothing up by itself.
closes_none : (alive : Bool) (why : CloseWhy) (client : Client) → (closes alive why client).effect.message ≡ None
closes_none true why client = refl
closes_none false why client = refl

answer_none : (early : Bool) (client : Client) (heard : Hearing) → heard.effect.message ≡ None → (cond early (idles client) heard).effect.message ≡ None
answer_none true client heard none = refl
answer_none false client heard none = none

settle_none : (bases : Bases) (n : ℕ) (pending : Option Purpose) (told : Told) (ssrc : Option ℕ) (client : Client) → (settle_at bases n pending told ssrc client).effect.message ≡ None
settle_none bases n None told ssrc client = refl
settle_none bases n (Some purpose) told ssrc client = refl

note_none : (id : List ℕ) (reason : NotifyReason) (names : Names) (client : Client) → (take_note id reason names client).effect.message ≡ None
note_none id EndOfStream names client = refl
note_none id MediaProperties names client = refl
note_none id ScaleChange names client = refl

item_mute : (kind : ItemKind) (shape : Shape) (client : Client) → kind ≡ request_kind → (take_item kind shape client).effect.message ≡ None
item_mute kind shape client is = ap (λ one. (take_item one shape client).effect.message) is

take_mute : (alive : Bool) (shape : Shape) (client : Client) → shape.kind ≡ request_kind → (take alive shape client).effect.message ≡ None
take_mute true shape client is = item_mute shape.kind shape client is
take_mute false shape client is = refl

pub comes_mute : (bases : Bases) (number : ℕ) (client : Client) (comes : Comes) → CanCome comes → (heard_by bases number client comes).effect.message ≡ None
comes_mute bases number client (requests shape) sound = take_mute client.alive shape client sound
comes_mute bases number client (replies reply source) sound =
    answer_none (nat_lt (told_by reply).code 200) client (settle_at bases number client.pending (told_by reply) source client) (settle_none bases number client.pending (told_by reply) source client)
comes_mute bases number client (notes id reason names) sound = note_none id reason names client
comes_mute bases number client (shuts why) sound = closes_none client.alive why client

-- A request that goes up is open then, and none was before.
pub effect_asks : (bases : Bases) (number : ℕ) (pair : Option ℕ) (client : Client) (comes : Comes) → CanCome comes
    → AsksBy pair (heard_by bases number client comes).effect.client.pending (effect_by bases number pair client comes).message (effect_by bases number pair client comes).client.pending
effect_asks bases number pair client comes sound =
    subst (λ (first : Option Outgoing). AsksBy pair (heard_by bases number client comes).effect.client.pending (option_or first (going_on bases pair (heard_by bases number client comes).next (heard_by bases number client comes).effect.client).message) (effect_by bases number pair client comes).client.pending)
    (sym (comes_mute bases number client comes sound))
    (going_asks bases pair (heard_by bases number client comes).next (heard_by bases number client comes).effect.client)

-- Who asked each open request.
pub asker_by : (i n : ℕ) (settled : Books) (free : Option ℕ) (old : Option Purpose) (client : Client) (message : Option Outgoing) (goes : Bool) (asker : Option ℕ) → goes ≡ is_some message → AsksBy free old message client.pending
    → asker ≡ option_map (λ (one : Opened). one.conn) (settled.opened n)
    → asker_lent goes i (settled.issued + 1) n asker ≡ option_map (λ (one : Opened). one.conn) ((lends_where (Some i) (kind_gone message client) settled).opened n)
asker_by i n settled free old client None goes asker is by_it same = ap (λ t. asker_lent t i (settled.issued + 1) n asker) is ∙ same
asker_by i n settled free old client (Some (asks request named)) goes asker is by_it same =
    ap (λ t. asker_lent t i (settled.issued + 1) n asker) is ∙ ap (λ (a : Option ℕ). cond (n == settled.issued + 1) (Some i) a) same ∙ by (n == settled.issued + 1)
  where
    by : (t : Bool) → cond t (Some i) (option_map (λ (one : Opened). one.conn) (settled.opened n))
        ≡ option_map (λ (one : Opened). one.conn) (cond t (Some (record { conn = i; kind = kind_pending client.sessions client.pending })) (settled.opened n))
    by true = refl
    by false = refl
asker_by i n settled free old client (Some (carries pair half rest)) goes asker is by_it same = absurd by_it

pub issued_by : (i : ℕ) (settled : Books) (free : Option ℕ) (old : Option Purpose) (client : Client) (message : Option Outgoing) (goes : Bool) → goes ≡ is_some message → AsksBy free old message client.pending
    → issued_then goes settled.issued ≡ (lends_where (Some i) (kind_gone message client) settled).issued
issued_by i settled free old client None goes is by_it = ap (λ t. issued_then t settled.issued) is
issued_by i settled free old client (Some (asks request named)) goes is by_it = ap (λ t. issued_then t settled.issued) is
issued_by i settled free old client (Some (carries pair half rest)) goes is by_it = absurd by_it

pub holder_by_message : (i : ℕ) (settled : Books) (client : Client) (message : Option Outgoing) (id : List ℕ) → settled.holder id ≡ (lends_where (Some i) (kind_gone message client) settled).holder id
holder_by_message i settled client None id = refl
holder_by_message i settled client (Some (asks request named)) id = refl
holder_by_message i settled client (Some (carries pair half rest)) id = refl

-- A SETUP asks for the pair that is free.
asked_free : (free named : Option ℕ) (pair : ℕ) → IsFreeFor free named → named ≡ Some pair → free ≡ Some pair
asked_free free named pair is_free same = subst (λ (one : Option ℕ). IsFreeFor free one) same is_free

none_torn : (closing : Bool) (free : Option ℕ) (q : ℕ) (id : Option (List ℕ)) → pair_asked (teardown_kind closing id) ≡ Some q → free ≡ Some q
none_torn closing free q None asked = cc
none_torn true free q (Some id) asked = cc
none_torn false free q (Some id) asked = cc

none_asked : (free : Option ℕ) (q : ℕ) (id : Option (List ℕ)) (t : Bool) → pair_asked (cond t (teardown_kind false id) plain) ≡ Some q → free ≡ Some q
none_asked free q id true asked = none_torn false free q id asked
none_asked free q id false asked = cc

open_free : (free : Option ℕ) (request : Request2) (named : Option ℕ) (old pending : Option Purpose) (sessions : List PlayerSession) (q : ℕ) → IsAsked free request named old pending → pair_asked (kind_pending sessions pending) ≡ Some q → free ≡ Some q
open_free free request named old pending sessions q is asked = by pending is.after asked
  where
    by : (pending : Option Purpose) → IsOpenAs pending request named → pair_asked (kind_pending sessions pending) ≡ Some q → free ≡ Some q
    by None after asked = absurd after
    by (Some (purposes.Client one (Some track))) after asked = asked_free free named q is.named (after.0 ∙ asked)
    by (Some (purposes.Client one None)) after asked = none_asked free q (session_where one.place sessions).id (same_method one.method methods.Teardown) asked
    by (Some (purposes.Released play)) after asked = cc
    by (Some (purposes.Closing place)) after asked = none_torn true free q (session_at place sessions).id asked

-- Who holds each pair of channels.
taken : (i p q : ℕ) (held : Option Held) → taken_by i (Some q) p held ≡ cond (q == p) (Some (record { conn = i; pair = p; granted = false })) held
taken i p q held = ap (λ t. cond t (Some (record { conn = i; pair = q; granted = false })) held) (turned_round p q) ∙ by (q == p) refl
  where
    by : (t : Bool) → (q == p) ≡ t → cond t (Some (record { conn = i; pair = q; granted = false })) held ≡ cond t (Some (record { conn = i; pair = p; granted = false })) held
    by true e = ap (λ n. let one : Held = record { conn = i; pair = n; granted = false } in Some one) (eqb-true q p e)
    by false e = refl

reserved : (i p : ℕ) (free asked : Option ℕ) (held : Option Held) → ((q : ℕ) → asked ≡ Some q → free ≡ Some q)
    → reserved_by (is_some asked) i free p held ≡ cond (is_pair asked p) (Some (record { conn = i; pair = p; granted = false })) held
reserved i p free None held is_free = refl
reserved i p free (Some q) held is_free = ap (λ (lowest : Option ℕ). taken_by i lowest p held) (is_free q refl) ∙ taken i p q held

lent_bare : (i p : ℕ) (t : Bool) (held : Option HeldPair) → cond t (Some (record { conn = i; pair = p; granted = false })) (option_map (bare_held p) held) ≡ option_map (bare_held p) (cond t (Some (record { conn = i; session = None })) held)
lent_bare i p true held = refl
lent_bare i p false held = refl

pub held_by_message : (i p : ℕ) (settled : Books) (free : Option ℕ) (old : Option Purpose) (client : Client) (message : Option Outgoing) (goes reserves : Bool) (held : Option Held) → goes ≡ is_some message
    → reserves ≡ is_some (pair_asked (kind_pending client.sessions client.pending)) → AsksBy free old message client.pending → held ≡ option_map (bare_held p) (settled.held p)
    → held_lent goes reserves i free p held ≡ option_map (bare_held p) ((lends_where (Some i) (kind_gone message client) settled).held p)
held_by_message i p settled free old client None goes reserves held is takes by_it same = ap (λ t. held_lent t reserves i free p held) is ∙ same
held_by_message i p settled free old client (Some (asks request named)) goes reserves held is takes by_it same =
    ap (λ t. held_lent t reserves i free p held) is
    ∙ ap (λ t. reserved_by t i free p held) takes
    ∙ reserved i p free (pair_asked (kind_pending client.sessions client.pending)) held (λ q asked. open_free free request named old client.pending client.sessions q by_it asked)
    ∙ ap (λ (one : Option Held). cond (is_pair (pair_asked (kind_pending client.sessions client.pending)) p) (Some (record { conn = i; pair = p; granted = false })) one) same
    ∙ lent_bare i p (is_pair (pair_asked (kind_pending client.sessions client.pending)) p) (settled.held p)
held_by_message i p settled free old client (Some (carries pair half rest)) goes reserves held is takes by_it same = absurd by_it
