-- No two streams have one pair of channels, no two connections have one session, and whom a frame reaches, in a history.
use Rattle.std.proofs.Common.{◌≡◌, ◌∙◌, ℕ, suc, zero, map, List, [], ◌∷◌, Option, Some, None, refl, sym, ap, subst, arith, ◌+◌, ◌/◌, ◌%◌, ◌<◌, Bool, true, false, cond, ◌++◌, length, IfSome, inl}
use Rattle.std.specs.Prelude.{slice_get, is_some, slice_index_or}
use Rattle.rtsp_uri.specs.declared.base.Bases.{Bases}
use Rattle.session_one.specs.declared.parts.Track.{Track}
use Rattle.client_slot.specs.Session.{PlayerSession}
use Rattle.client_slot.specs.Places.{session_at, tracks_of}
use Rattle.client_slot.specs.Client.{Client}
use Rattle.client_machine.specs.Bounds.{stream_asked, streams_of, AreStreamsApart, IsStreamApart, AreAllStreamsApart}
use Rattle.client_machine.proofs.ApartLemmas.{alone_apart}
use Rattle.gateway_claim.specs.Books.{Books, settles}
use Rattle.gateway_claim.specs.Happenings.{HistoryEntry, fault_in, Happening, takes, hears, entered, nothing_up, silent}
use Rattle.gateway_claim.specs.OwnEvents.{books_of, own, owner_of, heard_turn, turn, heard_final, settled_by, is_full, heard_event}
use Rattle.gateway_claim.specs.Follows.{IsHistory, event_in, effect_at, effect_of_turn, effect, heard_breach, spent, breach, heard_answer, message_due, up_due, Follows, outcome_with, next}
use Rattle.gateway_claim.specs.BooksAndSlots.{IsHeldFor, IsHolding, IsJoined}
use Rattle.gateway_claim.specs.Turns.{client_alone}
use Rattle.gateway_claim.specs.Apart.{pairs_held, session_held, IsFrameDown, IsFrameUp}
use Rattle.gateway_claim.proofs.AgreeLemmas.{joined, AreJoined, effect_present, alone}
use Rattle.client_machine.proofs.EachLemmas.{each_so, both_so}
use Rattle.std.specs.List.{AllByRecursion, Contains}
use Rattle.std.specs.Option.{option_or}
use Rattle.rtsp_head.specs.Items.{Shape}
use Rattle.client_machine.specs.Alone.{is_up_end, new_private, pair_alone}
use Rattle.client_machine.specs.Events.{Outgoing, Effect, stays, PrivateEvent, arrive, media}
use Rattle.client_machine.specs.Frames.{channel_in, behind_channel}
use Rattle.client_machine.specs.Step.{step}
use Rattle.client_machine.proofs.CarryLemmas.{IsMediaGiven, media_given, IsFrameCarried, frame_carried}
use Rattle.gateway_claim.specs.declared.event.Closed.TheVariants.{Nobody}
use Rattle.gateway_claim.specs.declared.event.ToUp.{ToUp}
use Rattle.gateway_claim.specs.declared.event.UpCause.{UpCause}
use Rattle.gateway_claim.specs.declared.event.Outcome.{Outcome}
use Rattle.gateway_claim.specs.ServerItems.{Heard, frames, heard}
use Rattle.gateway_claim.proofs.CaseLemmas.{not_over, alone_steps, own_event, breach_standing}
use Rattle.gateway_claim.proofs.NextLemmas.{one_next, next_follows}
use Rattle.rtsp_head.specs.declared.item.ItemKind.TheVariants as item

-- What is so of each stream that is held for a session is so of all that are set up.
module _ (P : Track → Type 0) (books : Books) (i : ℕ) (so : (id : List ℕ) (track : Track) → IsHeldFor books i (Some id) track.pair → P track) where
  holding_are : (session : Option (List ℕ)) (tracks : List Track) → IsHolding books i session tracks → AllByRecursion P tracks
  holding_are None tracks held = subst (λ (all : List Track). AllByRecursion P all) (sym held) tt
  holding_are (Some id) tracks held = each_so (λ track. IsHeldFor books i (Some id) track.pair) P tracks (so id) held

  pub all_are : (sessions : List PlayerSession) → ((place : ℕ) → IsHolding books i (session_at place sessions).id (session_at place sessions).tracks) → AllByRecursion P (tracks_of sessions)
  all_are [] held = tt
  all_are (one ∷ more) held = both_so P one.tracks (tracks_of more) (holding_are one.id one.tracks (held zero)) (all_are more (λ place. held (suc place)))

-- Each stream of a connection has a pair that is held for it.
abbrev IsHeldSo : Books → ℕ → Track → Type 0
IsHeldSo books i track = (session : Option (List ℕ)) × IsHeldFor books i session track.pair

abbrev AreEachHeld : Books → ℕ → List Track → Type 0
AreEachHeld books i tracks = AllByRecursion (IsHeldSo books i) tracks

streams_held : (books : Books) (i count : ℕ) (client : Client) → IsJoined books i client count → AreEachHeld books i (streams_of client)
streams_held books i count client joins =
    both_so (IsHeldSo books i) (tracks_of client.sessions) (stream_asked client.pending) (all_are (IsHeldSo books i) books i (λ id track held. (Some id, held)) client.sessions joins.tracks)
    (grind (arith, joins.pending))

-- the stream with a pair of a connection, at its place
abbrev IsAt : (ℕ → ℕ) → List Track → ℕ → ℕ → Track → Type 0
IsAt pairs tracks place pair track = (slice_get tracks place ≡ Some track) × (pairs track.pair ≡ pair)

stream_at : (pairs : ℕ → ℕ) (tracks : List Track) (place pair : ℕ) → slice_get (map (λ (track : Track). pairs track.pair) tracks) place ≡ Some pair → (track : Track) × IsAt pairs tracks place pair track
stream_at pairs [] place pair here = cc
stream_at pairs (track ∷ tracks) zero pair here = let same : pairs track.pair ≡ pair = cc in (track, (refl, same))
stream_at pairs (track ∷ tracks) (suc place) pair here = stream_at pairs tracks place pair here

held_at : (books : Books) (i : ℕ) (tracks : List Track) (place : ℕ) (track : Track) → AreEachHeld books i tracks → slice_get tracks place ≡ Some track → (session : Option (List ℕ)) × IsHeldFor books i session track.pair
held_at books i [] place track held here = cc
held_at books i (first ∷ tracks) zero track held here = let same : first ≡ track = cc in subst (λ (one : Track). (session : Option (List ℕ)) × IsHeldFor books i session one.pair) same held.0
held_at books i (first ∷ tracks) (suc place) track held here = held_at books i tracks place track held.1 here

-- Streams that are apart have their pairs at one place each.
apart_at : (track : Track) (tracks : List Track) (place : ℕ) (other : Track) → IsStreamApart track tracks → slice_get tracks place ≡ Some other → AreStreamsApart track other
apart_at track [] place other apart here = cc
apart_at track (first ∷ tracks) zero other apart here = let same : first ≡ other = cc in subst (λ (one : Track). AreStreamsApart track one) same apart.0
apart_at track (first ∷ tracks) (suc place) other apart here = apart_at track tracks place other apart.1 here

same_place : (tracks : List Track) (a b : ℕ) (one other : Track) → AreAllStreamsApart tracks → slice_get tracks a ≡ Some one → slice_get tracks b ≡ Some other → one.pair ≡ other.pair → a ≡ b
same_place [] a b one other apart at_one at_other same = cc
same_place (track ∷ tracks) zero zero one other apart at_one at_other same = refl
same_place (track ∷ tracks) zero (suc b) one other apart at_one at_other same =
    let first : track ≡ one = cc in
    absurd ((apart_at track tracks b other apart.0 at_other).pairs (ap (λ (t : Track). t.pair) first ∙ same))
same_place (track ∷ tracks) (suc a) zero one other apart at_one at_other same =
    let first : track ≡ other = cc in
    absurd ((apart_at track tracks a one apart.0 at_one).pairs (ap (λ (t : Track). t.pair) first ∙ sym same))
same_place (track ∷ tracks) (suc a) (suc b) one other apart at_one at_other same = ap suc (same_place tracks a b one other apart.1 at_one at_other same)

-- A pair tells its connection and its own number.
record IsPairOf (books : Books) (i pair own : ℕ) : Type 0 where
  held : (session : Option (List ℕ)) × (books.held pair ≡ Some (record { conn = i; session = session }))
  named : books.own_pair pair ≡ own

pair_of_stream : (books : Books) (i : ℕ) (tracks : List Track) (place pair : ℕ) (track : Track) → AreEachHeld books i tracks → IsAt (books.pair_of i) tracks place pair track → IsPairOf books i pair track.pair
pair_of_stream books i tracks place pair track held at = grind (arith, held_at)

pub pairs_apart : (bases : Bases) (T : List HistoryEntry) (i j a b pair : ℕ) → IsHistory bases T → fault_in T ≡ None → slice_get (pairs_held bases T i) a ≡ Some pair → slice_get (pairs_held bases T j) b ≡ Some pair → (i ≡ j) × (a ≡ b)
pairs_apart bases T i j a b pair history standing at_i at_j =
    let joins : AreJoined bases T = joined bases T history standing in
    let one = stream_at ((books_of T).pair_of i) (streams_of (client_alone bases T i)) a pair at_i in
    let other = stream_at ((books_of T).pair_of j) (streams_of (client_alone bases T j)) b pair at_j in
    let first : IsPairOf (books_of T) i pair one.0.pair = pair_of_stream (books_of T) i (streams_of (client_alone bases T i)) a pair one.0 (streams_held (books_of T) i _ (client_alone bases T i) (joins.1 i)) one.1 in
    let second : IsPairOf (books_of T) j pair other.0.pair = pair_of_stream (books_of T) j (streams_of (client_alone bases T j)) b pair other.0 (streams_held (books_of T) j _ (client_alone bases T j) (joins.1 j)) other.1 in
    let conn : i ≡ j = grind arith in (
      conn,
      same_place (streams_of (client_alone bases T i)) a b one.0 other.0 (alone_apart bases (own bases i T)) one.1.0
          (subst (λ (k : ℕ). slice_get (streams_of (client_alone bases T k)) b ≡ Some other.0) (sym conn) other.1.0)
          (sym first.named ∙ second.named),
    )

-- A session's id is bound to one connection, which has it at one place.
pub sessions_apart : (bases : Bases) (T : List HistoryEntry) (i j a b : ℕ) (id : List ℕ) → IsHistory bases T → fault_in T ≡ None → session_held bases T i a ≡ Some id → session_held bases T j b ≡ Some id → (i ≡ j) × (a ≡ b)
sessions_apart bases T i j a b id history standing at_a at_b =
    let joins : AreJoined bases T = joined bases T history standing in
    let both : Some i ≡ Some j = sym ((joins.1 i).holds a id at_a) ∙ (joins.1 j).holds b id at_b in
    let conn : i ≡ j = cc in
    (conn, (joins.1 i).once a b id at_a (subst (λ (k : ℕ). session_held bases T k b ≡ Some id) (sym conn) at_b))

-- What follows is what is computed.
pub outcome_is : (bases : Bases) (T : List HistoryEntry) (e : HistoryEntry) → IsHistory bases T → Follows bases T e → e.outcome ≡ next bases T e.happening
outcome_is bases T e history follows =
    let one : HistoryEntry = record { happening = e.happening; outcome = next bases T e.happening } in
    ap (λ (entry : HistoryEntry). entry.outcome) (one_next bases T e one follows (next_follows bases T e.happening history) refl)

-- by the parts of it, while the connection to the server stands
outcome_at : (bases : Bases) (T : List HistoryEntry) (h : Happening) (who : Option ℕ) (up : ToUp) (made : Effect) → fault_in T ≡ None → breach bases T h ≡ None → turn (books_of T) h ≡ who → up_due bases T h ≡ up → effect bases T h ≡ made
    → next bases T h ≡ outcome_with None who up made
outcome_at bases T h who up made standing right turns ups is = grind arith

-- and so of what follows, where nothing is handed out after its end
outcome_as : (P : Outcome → Type 0) (bases : Bases) (T : List HistoryEntry) (e : HistoryEntry) → IsHistory bases T → Follows bases T e → P silent → (fault_in T ≡ None → P (next bases T e.happening)) → P e.outcome
outcome_as P bases T e history follows over standing = subst P (sym (outcome_is bases T e history follows)) (by (fault_in T) refl)
  where
    by : (fault : Option UpCause) → fault_in T ≡ fault → P (next bases T e.happening)
    by None is = standing is
    by (Some cause) is = subst P (sym (ap (λ (fault : Option UpCause). cond (is_some fault) silent (outcome_with (breach bases T e.happening) (turn (books_of T) e.happening) (up_due bases T e.happening) (effect bases T e.happening))) is)) over

-- The effect at the turn of a connection is the step that it makes alone, where it entered, and else none.
effect_as : (P : Effect → Type 0) (bases : Bases) (T : List HistoryEntry) (h : Happening) (i : ℕ) (event : PrivateEvent) → fault_in T ≡ None → own_event bases T i h ≡ Some event → is_up_end event ≡ false → P (stays new_private.client)
    → P (step bases (alone bases T i).count (pair_alone event ((alone bases T i).count + 1)) (alone bases T i).client event) → P (effect_of_turn bases T (Some i) h)
effect_as P bases T h i event standing is no_end still steps = by (entered i T) refl
  where
    by : (en : Bool) → entered i T ≡ en → P (effect_of_turn bases T (Some i) h)
    by true en = subst P (sym (effect_present bases T h i (Some event) en is ∙ alone_steps bases (alone bases T i) event (not_over bases T standing i) no_end)) steps
    by false en = subst P (sym (ap (λ t. effect_at bases (cond t (Some (alone bases T i)) None) (event_in (books_of T) i (cond t (Some (alone bases T i)) None) h)) en)) still

-- A frame of the server is given by the connection whose turn it is.
abbrev IsGivenTo : Bases → List HistoryEntry → ℕ → List ℕ → Option ℕ → Effect → Type 0
IsGivenTo bases T channel rest None made = (made.message ≡ None) × (made.close ≡ None)
IsGivenTo bases T channel rest (Some i) made = IsMediaGiven (tracks_of (client_alone bases T i).sessions) ((books_of T).own_pair (channel / 2)) (channel % 2) rest made

given_to : (bases : Bases) (T : List HistoryEntry) (shape : Shape) (channel : ℕ) (rest : List ℕ) (who : Option ℕ) → fault_in T ≡ None → heard shape ≡ frames channel rest → IsGivenTo bases T channel rest who (effect_of_turn bases T who (hears shape))
given_to bases T shape channel rest None standing says = (refl, refl)
given_to bases T shape channel rest (Some i) standing says =
    effect_as (IsGivenTo bases T channel rest (Some i)) bases T (hears shape) i (media ((books_of T).own_pair (channel / 2)) (channel % 2) rest) standing
    (ap (λ (said : Heard). heard_event (books_of T) (settles (heard_final (books_of T) said) (books_of T)) i (alone bases T i).client.waiting said) says) refl
    (record { message = refl; close = refl; hand = inl refl }) (media_given bases (alone bases T i).count (Some ((alone bases T i).count + 1)) (alone bases T i).client ((books_of T).own_pair (channel / 2)) (channel % 2) rest)

-- What comes of it, as it is handed out.
pub record GoesDown (bases : Bases) (T : List HistoryEntry) (channel : ℕ) (rest : List ℕ) (out : Outcome) : Type 0 where
  pub piece : IfSome out.to_client (IsFrameDown bases T channel rest)
  pub up : out.to_up ≡ nothing_up
  pub closed : out.closed ≡ Nobody
  pub fault : out.fault ≡ None

down_standing : (bases : Bases) (T : List HistoryEntry) (shape : Shape) (channel : ℕ) (rest : List ℕ) → IsHistory bases T → fault_in T ≡ None → heard shape ≡ frames channel rest → GoesDown bases T channel rest (next bases T (hears shape))
down_standing bases T shape channel rest history standing says =
    let who : Option ℕ = owner_of ((books_of T).held (channel / 2)) in
    let turns : turn (books_of T) (hears shape) ≡ owner_of ((books_of T).held (channel / 2)) = ap (heard_turn (books_of T)) says in
    let made : effect bases T (hears shape) ≡ effect_of_turn bases T (owner_of ((books_of T).held (channel / 2))) (hears shape) = ap (λ one. effect_of_turn bases T one (hears shape)) turns in
    let given : IsGivenTo bases T channel rest (owner_of ((books_of T).held (channel / 2))) (effect_of_turn bases T (owner_of ((books_of T).held (channel / 2))) (hears shape)) =
    given_to bases T shape channel rest (owner_of ((books_of T).held (channel / 2))) standing says in
    let silent_up : (effect bases T (hears shape)).message ≡ None =
    ap (λ (one : Effect). one.message) made ∙ (grind arith) in
    let right : breach bases T (hears shape) ≡ None =
    breach_standing bases T (hears shape) standing
    ∙ ap (λ wrong. option_or wrong (spent (books_of T).issued (effect bases T (hears shape)).message)) (ap (heard_breach bases T) says)
    ∙ ap (spent (books_of T).issued) silent_up in
    let ups : up_due bases T (hears shape) ≡ nothing_up =
    ap (λ (answer : Option (List ℕ)). record { answer = answer; message = message_due (books_of T) (settled_by (books_of T) (hears shape)) (turn (books_of T) (hears shape)) (effect bases T (hears shape)).message }) (ap (heard_answer (books_of T)) says)
    ∙ ap (λ (message : Option Outgoing). record { answer = None; message = message_due (books_of T) (settled_by (books_of T) (hears shape)) (turn (books_of T) (hears shape)) message }) silent_up
    ∙ ap (λ one. record { answer = None; message = one }) (grind arith) in
    subst (λ (out : Outcome). GoesDown bases T channel rest out)
    (sym (outcome_at bases T (hears shape) (owner_of ((books_of T).held (channel / 2))) nothing_up (effect_of_turn bases T (owner_of ((books_of T).held (channel / 2))) (hears shape)) standing right turns ups made))
    (grind (arith, (joined bases T history standing).0))

pub frame_down : (bases : Bases) (T : List HistoryEntry) (e : HistoryEntry) (shape : Shape) (channel : ℕ) (rest : List ℕ) → IsHistory bases T → Follows bases T e → e.happening ≡ hears shape → heard shape ≡ frames channel rest → GoesDown bases T channel rest e.outcome
frame_down bases T e shape channel rest history follows here says =
    outcome_as (λ out. GoesDown bases T channel rest out) bases T e history follows (record { piece = tt; up = refl; closed = refl; fault = refl })
    (λ standing. subst (λ (h : Happening). GoesDown bases T channel rest (next bases T h)) (sym here) (down_standing bases T shape channel rest history standing says))

-- A frame of a player goes up on a pair that its connection holds.
pub record GoesUp (bases : Bases) (T : List HistoryEntry) (i : ℕ) (shape : Shape) (out : Outcome) : Type 0 where
  pub message : IfSome out.to_up.message (IsFrameUp bases T i shape)
  pub answer : out.to_up.answer ≡ None
  pub piece : out.to_client ≡ None
  pub closed : out.closed ≡ Nobody
  pub fault : out.fault ≡ None

-- each stream's pair was granted to the connection
abbrev IsOwned : Books → ℕ → Track → Type 0
IsOwned books i track = owner_of (books.held (books.pair_of i track.pair)) ≡ Some i

held_for : (books : Books) (i : ℕ) (tracks : List Track) (track : Track) → AllByRecursion (IsOwned books i) tracks → Contains tracks track → IsOwned books i track
held_for books i tracks track held (place, within, is) = by tracks place held within is
  where
    by : (all : List Track) (k : ℕ) → AllByRecursion (IsOwned books i) all → k < length all → slice_index_or all k track ≡ track → IsOwned books i track
    by [] k h w e = absurd (omega (arith, w))
    by (first ∷ all) zero h w e = subst (λ (one : Track). IsOwned books i one) e h.0
    by (first ∷ all) (suc k) h w e = by all k h.1 (omega (arith, w)) e

carried_by : (bases : Bases) (T : List HistoryEntry) (i : ℕ) (shape : Shape) → fault_in T ≡ None → shape.kind ≡ item.Frame
    → IsFrameCarried (tracks_of (client_alone bases T i).sessions) (channel_in shape) (behind_channel shape) (effect bases T (takes i shape))
carried_by bases T i shape standing kind =
    effect_as (IsFrameCarried (tracks_of (client_alone bases T i).sessions) (channel_in shape) (behind_channel shape)) bases T (takes i shape) i (arrive shape (is_full (settled_by (books_of T) (takes i shape)) ((alone bases T i).client.waiting ++ shape ∷ [])))
    standing refl refl (record { hand = refl; close = refl; message = tt })
    (frame_carried bases (alone bases T i).count _ (alone bases T i).client shape (is_full (settled_by (books_of T) (takes i shape)) ((alone bases T i).client.waiting ++ shape ∷ [])) kind)

up_standing : (bases : Bases) (T : List HistoryEntry) (i : ℕ) (shape : Shape) → IsHistory bases T → fault_in T ≡ None → shape.kind ≡ item.Frame → GoesUp bases T i shape (next bases T (takes i shape))
up_standing bases T i shape history standing kind =
    let carried : IsFrameCarried (tracks_of (client_alone bases T i).sessions) (channel_in shape) (behind_channel shape) (effect bases T (takes i shape)) = carried_by bases T i shape standing kind in
    let right : breach bases T (takes i shape) ≡ None = breach_standing bases T (takes i shape) standing ∙ (grind (arith, carried.message)) in
    subst (λ (out : Outcome). GoesUp bases T i shape out)
    (sym (outcome_at bases T (takes i shape) (Some i) (up_due bases T (takes i shape)) (effect bases T (takes i shape)) standing right refl refl refl))
    (grind (arith, held_for, (all_are (IsOwned (books_of T) i) (books_of T) i (λ id track held. ap owner_of held.0) (client_alone bases T i).sessions ((joined bases T history standing).1 i).tracks)))

pub frame_up : (bases : Bases) (T : List HistoryEntry) (e : HistoryEntry) (i : ℕ) (shape : Shape) → IsHistory bases T → Follows bases T e → e.happening ≡ takes i shape → shape.kind ≡ item.Frame → GoesUp bases T i shape e.outcome
frame_up bases T e i shape history follows here kind =
    outcome_as (λ out. GoesUp bases T i shape out) bases T e history follows (record { message = tt; answer = refl; piece = refl; closed = refl; fault = refl })
    (λ standing. subst (λ (h : Happening). GoesUp bases T i shape (next bases T h)) (sym here) (up_standing bases T i shape history standing kind))
