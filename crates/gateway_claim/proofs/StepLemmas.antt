-- A step in the numbers and on the channels of all players is that of the connection's own, renumbered; what the books have of
-- a connection is so too once its request went up.
use Rattle.std.proofs.Common.{◌≡◌, ◌∙◌, ℕ, suc, ◌+◌, ◌≤◌, ◌==◌, false, cond, List, [], ◌∷◌, Option, Some, None, refl, ap, arith, sym, subst, Bool}
use Rattle.session_one.specs.declared.parts.Track.{Track}
use Rattle.session_two.specs.declared.names.Names.{Names}
use Rattle.session_two.specs.declared.names.Names.TheVariants.{Unsaid, This}
use Rattle.client_slot.specs.Renumber.{names_under, AreToldApart, client_under}
use Rattle.client_slot.specs.Session.{PlayerSession}
use Rattle.client_slot.specs.Places.{session_at, tracks_of}
use Rattle.client_machine.specs.Bounds.{IsNumberBelow, ArePairsBelow, AreSessionsBelow, IsBelow, IsOpened as WasOpened}
use Rattle.client_machine.specs.Events.{PrivateEvent, arrive, answer, note, media, end, slow, up_end}
use Rattle.client_machine.specs.Renumber.{AreTracksApart, effect_under, event_under, IsToldApart}
use Rattle.client_machine.proofs.BelowLemmas.{Agree, under_agree, under_agree_each}
use Rattle.gateway_claim.specs.Books.{HeldPair, Books, RequestKind, plain, is_setup_text, is_teardown_text, setup_kind, teardown_kind, kind_of_text, id_in_text, pair_asked, lends}
use Rattle.gateway_claim.specs.OwnEvents.{own_name, heard_turn, turn, settled_by, heard_event, event_by, event_of}
use Rattle.gateway_claim.specs.BooksAndSlots.{AreHeld, IsHolding, AreSound, IsJoined}
use Rattle.gateway_claim.proofs.LendLemmas.{below_differs, below_at}
use Rattle.client_machine.proofs.EachLemmas.{both_so}
use Rattle.std.specs.Option.{option_map}
use Rattle.rtsp_uri.specs.declared.base.Bases.{Bases}
use Rattle.client_slot.specs.Client.{Client}
use Rattle.client_machine.specs.Step.{step}
use Rattle.client_machine.proofs.RenumberLemmas.{step_under}
use Rattle.gateway_claim.specs.Turns.{shared, heard_raw, raw_event, heard_number, number_heard, kind_pending}
use Rattle.gateway_claim.proofs.CaseLemmas.{pair_where}
use Rattle.rtsp_head.specs.Items.{Shape}
use Rattle.gateway_claim.specs.ServerItems.{Heard}
use Rattle.gateway_claim.specs.Happenings.{Happening}

-- A numbering with one more: the next own number stands for this one.
abbrev pub with_next : ℕ → ℕ → (ℕ → ℕ) → ℕ → ℕ
with_next next one numbers k = cond (k == next) one (numbers k)

-- and 0, which no request has, for another one
abbrev pub with_none : ℕ → (ℕ → ℕ) → ℕ → ℕ
with_none other numbers k = cond (k == 0) other (numbers k)

pub next_agrees : (n one : ℕ) (numbers : ℕ → ℕ) → Agree n (with_next (n + 1) one numbers) numbers
next_agrees n one numbers k low high = ap (λ t. cond t one (numbers k)) (below_differs k n high)

-- the numbering of a step
abbrev pub numbers_at : Books → ℕ → ℕ → ℕ → ℕ → ℕ
numbers_at books i next other = with_none other (with_next next (books.issued + 1) (books.number_of i))

abbrev pub pairs_at : Books → ℕ → ℕ → ℕ → ℕ → ℕ
pairs_at books i next free = with_next next free (books.pair_of i)

pub numbers_agree : (books : Books) (i n other : ℕ) → Agree n (numbers_at books i (n + 1) other) (books.number_of i)
numbers_agree books i n other = grind arith

pub pairs_agree : (books : Books) (i n free : ℕ) → Agree n (pairs_at books i (n + 1) free) (books.pair_of i)
pairs_agree books i n free = next_agrees n free (books.pair_of i)

-- The number that a notify names is told apart.
abbrev pub other_in : Names → ℕ
other_in Unsaid = 0
other_in (This number) = number

pub names_same : (books : Books) (i count : ℕ) (names : Names) → AreSound books → count ≡ books.counts i → names_under (numbers_at books i (count + 1) (other_in names)) (own_name books i names) ≡ names
names_same books i count names sound counted = grind arith

-- for the PLAY that runs
pub names_apart : (books : Books) (i count : ℕ) (running : Option ℕ) (names : Names) → AreSound books → count ≡ books.counts i → IsNumberBelow count running
    → AreToldApart (numbers_at books i (count + 1) (other_in names)) running (own_name books i names)
names_apart books i count running names sound counted below = grind arith

-- A pair on which a frame comes is told apart from those of the other streams.
tracks_apart : (books : Books) (i count free p : ℕ) (held : HeldPair) (session : Option (List ℕ)) (tracks : List Track) → AreSound books → count ≡ books.counts i → books.held p ≡ Some held → held.conn ≡ i → AreHeld books i session tracks → ArePairsBelow count tracks
    → pairs_at books i (count + 1) free (books.own_pair p) ≡ p → AreTracksApart (pairs_at books i (count + 1) free) (books.own_pair p) tracks
tracks_apart books i count free p held session [] sound counted here conn has below same = tt
tracks_apart books i count free p held session (track ∷ tracks) sound counted here conn has below same = grind (arith, tracks_apart books i count free p held session tracks sound counted here conn has.1 below.1 same)

holding_apart : (books : Books) (i count free p : ℕ) (held : HeldPair) (session : Option (List ℕ)) (tracks : List Track) → AreSound books → count ≡ books.counts i → books.held p ≡ Some held → held.conn ≡ i → IsHolding books i session tracks → ArePairsBelow count tracks
    → pairs_at books i (count + 1) free (books.own_pair p) ≡ p → AreTracksApart (pairs_at books i (count + 1) free) (books.own_pair p) tracks
holding_apart books i count free p held session tracks sound counted here conn has below same = grind (arith, tracks_apart)

pub sessions_apart : (books : Books) (i count free p : ℕ) (held : HeldPair) (sessions : List PlayerSession) → AreSound books → count ≡ books.counts i → books.held p ≡ Some held → held.conn ≡ i
    → ((place : ℕ) → IsHolding books i (session_at place sessions).id (session_at place sessions).tracks) → AreSessionsBelow count sessions
    → pairs_at books i (count + 1) free (books.own_pair p) ≡ p → AreTracksApart (pairs_at books i (count + 1) free) (books.own_pair p) (tracks_of sessions)
sessions_apart books i count free p held [] sound counted here conn has below same = tt
sessions_apart books i count free p held (one ∷ more) sound counted here conn has below same =
    both_so (λ track. (pairs_at books i (count + 1) free track.pair == pairs_at books i (count + 1) free (books.own_pair p)) ≡ (track.pair == books.own_pair p)) one.tracks (tracks_of more)
    (holding_apart books i count free p held one.id one.tracks sound counted here conn (has 0) below.0.tracks same)
    (sessions_apart books i count free p held more sound counted here conn (λ place. has (suc place)) below.1 same)

-- the pair on which it comes is the connection's own
pub own_back : (books : Books) (i count free p : ℕ) (held : HeldPair) → AreSound books → count ≡ books.counts i → books.held p ≡ Some held → held.conn ≡ i → pairs_at books i (count + 1) free (books.own_pair p) ≡ p
own_back books i count free p held sound counted here conn = grind arith

-- What an event names, and the connection in which it happens, as one has them in own numbers and in those of all.
abbrev pub IsRaw : Books → ℕ → PrivateEvent → PrivateEvent → Type 0
IsRaw books i (arrive shape full) raw = raw ≡ arrive shape false
IsRaw books i (answer told ssrc full) raw = raw ≡ answer told ssrc false
IsRaw books i (note id reason names) raw = (named : Names) × (raw ≡ note id reason named) × (names ≡ own_name books i named)
IsRaw books i (media pair half rest) raw = (p : ℕ) × (held : HeldPair) × (raw ≡ media p half rest) × (pair ≡ books.own_pair p) × (books.held p ≡ Some held) × (held.conn ≡ i)
IsRaw books i end raw = raw ≡ end
IsRaw books i slow raw = raw ≡ slow
IsRaw books i up_end raw = ⊥

-- the number that a notify names, where the event is one
abbrev pub other_of : PrivateEvent → ℕ
other_of (arrive shape full) = 0
other_of (answer told ssrc full) = 0
other_of (note id reason names) = other_in names
other_of (media pair half rest) = 0
other_of end = 0
other_of slow = 0
other_of up_end = 0

-- the pair that is free, where one is
abbrev pub free_or : Option ℕ → ℕ
free_or None = 0
free_or (Some p) = p

free_same : (books : Books) (i next : ℕ) (free : Option ℕ) → option_map (pairs_at books i next (free_or free)) (pair_where free next) ≡ free
free_same books i next free = grind arith

-- The number of the open request, where the event is a reply.
abbrev pub IsOpenNumber : ℕ → ℕ → PrivateEvent → Type 0
IsOpenNumber number own (answer told ssrc full) = number ≡ own
IsOpenNumber number own event = Unit {0}

-- the raw event is the connection's own under the numbering, but for the mark
raw_same : (bases : Bases) (books : Books) (i count own : ℕ) (free : Option ℕ) (pair : Option ℕ) (client : Client) (event raw : PrivateEvent) → AreSound books → count ≡ books.counts i → IsRaw books i event raw
    → step bases own pair client (event_under (numbers_at books i (count + 1) (other_of raw)) (pairs_at books i (count + 1) (free_or free)) event) ≡ step bases own pair client raw
raw_same bases books i count own free pair client (arrive shape full) raw sound counted is = ap (step bases own pair client) (sym is)
raw_same bases books i count own free pair client (answer told ssrc full) raw sound counted is = ap (step bases own pair client) (sym is)
raw_same bases books i count own free pair client (note id reason names) raw sound counted (named, is, same) =
    ap (λ one. step bases own pair client (note id reason (names_under (numbers_at books i (count + 1) (other_of one)) names))) is
    ∙ ap (λ one. step bases own pair client (note id reason (names_under (numbers_at books i (count + 1) (other_in named)) one))) same
    ∙ ap (λ one. step bases own pair client (note id reason one)) (names_same books i count named sound counted)
    ∙ ap (step bases own pair client) (sym is)
raw_same bases books i count own free pair client (media pair_own half rest) raw sound counted (p, held, is, same, here, conn) =
    ap (λ one. step bases own pair client (media (pairs_at books i (count + 1) (free_or free) one) half rest)) same
    ∙ ap (λ one. step bases own pair client (media one half rest)) (own_back books i count (free_or free) p held sound counted here conn)
    ∙ ap (step bases own pair client) (sym is)
raw_same bases books i count own free pair client end raw sound counted is = ap (step bases own pair client) (sym is)
raw_same bases books i count own free pair client slow raw sound counted is = ap (step bases own pair client) (sym is)
raw_same bases books i count own free pair client up_end raw sound counted is = absurd is

raw_apart : (books : Books) (i count : ℕ) (free : Option ℕ) (client : Client) (event raw : PrivateEvent) → AreSound books → IsJoined books i client count → IsBelow count client → IsRaw books i event raw
    → IsToldApart (numbers_at books i (count + 1) (other_of raw)) (pairs_at books i (count + 1) (free_or free)) client event
raw_apart books i count free client (arrive shape full) raw sound joined below is = tt
raw_apart books i count free client (answer told ssrc full) raw sound joined below is = tt
raw_apart books i count free client (note id reason names) raw sound joined below is = grind (arith, names_apart, below_at, below.sessions)
raw_apart books i count free client (media pair half rest) raw sound joined below (p, held, is, same, here, conn) =
    subst (λ (one : ℕ). IsToldApart (numbers_at books i (count + 1) (other_of raw)) (pairs_at books i (count + 1) (free_or free)) client (media one half rest)) (sym same)
    (sessions_apart books i count (free_or free) p held client.sessions sound joined.counted here conn joined.tracks below.sessions (own_back books i count (free_or free) p held sound joined.counted here conn))
raw_apart books i count free client end raw sound joined below is = tt
raw_apart books i count free client slow raw sound joined below is = tt
raw_apart books i count free client up_end raw sound joined below is = absurd is

-- Where a reply comes, a request is open, so that one went up.
abbrev pub IsOpened : ℕ → PrivateEvent → Type 0
IsOpened count (answer told ssrc full) = 1 ≤ count
IsOpened count event = Unit {0}

open_number : (books : Books) (i count number other : ℕ) (raw : PrivateEvent) → IsOpened count raw → IsOpenNumber number (books.number_of i count) raw → IsOpenNumber number (numbers_at books i (count + 1) other count) raw
open_number books i count number other raw opened e = grind arith

-- The step by the books, of the raw event, is that of the connection's own, renumbered.
pub raw_step : (bases : Bases) (books : Books) (i count number : ℕ) (free : Option ℕ) (client : Client) (event raw : PrivateEvent) → AreSound books → IsJoined books i client count → IsBelow count client → IsRaw books i event raw
    → IsOpened count raw → IsOpenNumber number (books.number_of i count) raw
    → step bases number free (shared books i client) raw
    ≡ effect_under (numbers_at books i (count + 1) (other_of raw)) (pairs_at books i (count + 1) (free_or free)) (step bases count (pair_where free (count + 1)) client event)
raw_step bases books i count number free client event raw sound joined below is opened same =
    let f : ℕ → ℕ = numbers_at books i (count + 1) (other_of raw) in
    let p : ℕ → ℕ = pairs_at books i (count + 1) (free_or free) in
    ap (λ one. step bases number free one raw)
    (sym (under_agree count (numbers_at books i (count + 1) (other_of raw)) (books.number_of i) (pairs_at books i (count + 1) (free_or free)) (books.pair_of i) client below
    (numbers_agree books i count (other_of raw)) (pairs_agree books i count (free_or free))))
    ∙ (grind (arith, (open_number books i count number (other_of raw) raw opened same)))
    ∙ sym (raw_same bases books i count (numbers_at books i (count + 1) (other_of raw) count) free free (client_under (numbers_at books i (count + 1) (other_of raw)) (pairs_at books i (count + 1) (free_or free)) client) event raw sound joined.counted is)
    ∙ ap (λ one. step bases (numbers_at books i (count + 1) (other_of raw) count) one (client_under (numbers_at books i (count + 1) (other_of raw)) (pairs_at books i (count + 1) (free_or free)) client)
    (event_under (numbers_at books i (count + 1) (other_of raw)) (pairs_at books i (count + 1) (free_or free)) event)) (sym (free_same books i (count + 1) free))
    ∙ step_under (numbers_at books i (count + 1) (other_of raw)) (pairs_at books i (count + 1) (free_or free)) bases count (pair_where free (count + 1)) client event
    (raw_apart books i count free client event raw sound joined below is)

abbrev IsRawOf : Books → ℕ → Option PrivateEvent → Option PrivateEvent → Type 0
IsRawOf books i None raw = raw ≡ None
IsRawOf books i (Some event) None = ⊥
IsRawOf books i (Some event) (Some raw) = IsRaw books i event raw

heard_is_raw : (books settled : Books) (i : ℕ) (waiting : List Shape) (said : Heard) → heard_turn books said ≡ Some i → IsRawOf books i (heard_event books settled i waiting said) (heard_raw books said)
heard_is_raw books settled i waiting said turns = grind arith

is_raw_by : (books settled : Books) (i : ℕ) (waiting : List Shape) (h : Happening) → turn books h ≡ Some i → IsRawOf books i (event_by books settled i waiting h) (raw_event books h)
is_raw_by books settled i waiting h turns = grind (arith, heard_is_raw)

-- An event and its raw form.
pub raw_is : (books : Books) (i : ℕ) (waiting : List Shape) (h : Happening) (event raw : PrivateEvent) → turn books h ≡ Some i → event_of books i waiting h ≡ Some event → raw_event books h ≡ Some raw → IsRaw books i event raw
raw_is books i waiting h event raw turns is_event is_raw =
    grind (arith, (is_raw_by books (settled_by books h) i waiting h turns))

-- The number of the open request that a reply names.
abbrev IsOpenFact : Books → ℕ → ℕ → ℕ → Option PrivateEvent → Type 0
IsOpenFact books i count number None = Unit {0}
IsOpenFact books i count number (Some raw) = IsOpened count raw × IsOpenNumber number (books.number_of i count) raw

heard_open : (books : Books) (i count : ℕ) (client : Client) (said : Heard) → IsJoined books i client count → WasOpened count client.pending → heard_turn books said ≡ Some i → IsOpenFact books i count (heard_number said) (heard_raw books said)
heard_open books i count client said joined was turns = grind arith

pub open_is : (books : Books) (i count : ℕ) (client : Client) (h : Happening) (raw : PrivateEvent) → IsJoined books i client count → WasOpened count client.pending → turn books h ≡ Some i → raw_event books h ≡ Some raw
    → IsOpened count raw × IsOpenNumber (number_heard h) (books.number_of i count) raw
open_is books i count client h raw joined was turns is = subst (λ (one : Option PrivateEvent). IsOpenFact books i count (number_heard h) one) is (grind (arith, heard_open))

-- a SETUP asks for the pair that is free
pub asked_is_free : (text : List ℕ) (free : Option ℕ) (shut : Bool) (q : ℕ) → pair_asked (kind_of_text text free shut) ≡ Some q → free ≡ Some q
asked_is_free text free shut q = by (is_setup_text text) (is_teardown_text text) (id_in_text text)
  where
    by : (s t : Bool) (id : Option (List ℕ)) → pair_asked (cond s (setup_kind free) (cond t (teardown_kind shut id) plain)) ≡ Some q → free ≡ Some q
    by s t id e = grind arith

-- The connection by the books after its request, as the step has it.
pub lent_client : (books settled : Books) (i count other : ℕ) (free : Option ℕ) (kind : RequestKind) (client : Client) → count ≡ settled.counts i → settled.issued ≡ books.issued
    → ((k : ℕ) → settled.number_of i k ≡ books.number_of i k) → ((k : ℕ) → settled.pair_of i k ≡ books.pair_of i k) → IsBelow (count + 1) client → ArePairsBelow count (tracks_of client.sessions)
    → kind ≡ kind_pending (shared (lends i kind settled) i client).sessions (shared (lends i kind settled) i client).pending → ((q : ℕ) → pair_asked kind ≡ Some q → free ≡ Some q)
    → shared (lends i kind settled) i client ≡ client_under (numbers_at books i (count + 1) other) (pairs_at books i (count + 1) (free_or free)) client
lent_client books settled i count other free kind client counted issued numbers pairs below tracks is_kind asks_free = by (pair_asked kind) refl
  where
    by : (asked : Option ℕ) → pair_asked kind ≡ asked → shared (lends i kind settled) i client ≡ client_under (numbers_at books i (count + 1) other) (pairs_at books i (count + 1) (free_or free)) client
    by None e =
        under_agree_each (count + 1) count ((lends i kind settled).number_of i) (numbers_at books i (count + 1) other) ((lends i kind settled).pair_of i) (pairs_at books i (count + 1) (free_or free)) client
        below.sessions tracks (grind arith)
        (grind arith) (grind arith)
    by (Some q) e =
        under_agree (count + 1) ((lends i kind settled).number_of i) (numbers_at books i (count + 1) other) ((lends i kind settled).pair_of i) (pairs_at books i (count + 1) (free_or free)) client below
        (grind arith)
        (subst (λ (p : ℕ). Agree (count + 1) ((lends i kind settled).pair_of i) (pairs_at books i (count + 1) p)) (sym (ap free_or (asks_free q e))) (grind arith))
