-- What is open and what is set up, by the books: who asked has a request open, and each pair is one of all.
use Rattle.std.proofs.Common.{◌≡◌, ◌∙◌, ℕ, suc, zero, ◌≤◌, ◌<◌, ◌==◌, Bool, true, false, cond, List, [], ◌∷◌, ◌++◌, map, ◌⊎◌, inl, inr, length, Option, Some, None, IsSome, IfSome, is_some, refl, sym, ap, subst, arith}
use Rattle.std.specs.Option.{option_map, option_and_then, option_or}
use Rattle.std.proofs.Props.{props}
use Rattle.rtsp_uri.specs.declared.base.Bases.{Bases}
use Rattle.session_one.specs.declared.parts.Track.{Track}
use Rattle.channel_map.specs.declared.map.TheConstants.{PAIRS}
use Rattle.channel_map.specs.declared.map.Held.{Held}
use Rattle.channel_map.specs.Pairs.{held_at, IsTable}
use Rattle.client_slot.specs.declared.purpose.Purpose.{Purpose}
use Rattle.client_slot.specs.declared.purpose.Purpose.TheVariants as purposes
use Rattle.client_slot.specs.Session.{PlayerSession}
use Rattle.client_slot.specs.Places.{session_at, tracks_of}
use Rattle.client_slot.specs.Client.{Client}
use Rattle.client_slot.specs.Renumber.{track_under, session_under, purpose_under}
use Rattle.client_machine.specs.Frames.{Half, half_on, half_for}
use Rattle.gateway_claim.specs.Books.{Opened, Books}
use Rattle.gateway_claim.specs.Happenings.{HistoryEntry, entered}
use Rattle.gateway_claim.specs.BooksAndSlots.{IsHeldFor, AreHeld, IsHolding, HasPair, IsPurpose, IsOpenFor}
use Rattle.gateway_claim.specs.OwnEvents.{books_of}
use Rattle.gateway_claim.specs.Turns.{shared}
use Rattle.gateway_claim.proofs.AgreeLemmas.{joined, alone, AreJoined}
use Rattle.gateway_mux.specs.WrongGrants.{IsLowPurpose}
use Rattle.gateway_mux.specs.Pictures.{Picture, bare_held, IsPictureOf}
use Rattle.gateway_mux.proofs.OverLemmas.{busy_stays}
use Rattle.gateway_mux.proofs.PictureLemmas.{some_under, client_in, entered_in, opened_entered}

-- Who asked an open request entered, and has one open.
conn_is : (a b : ℕ) → Some a ≡ Some b → a ≡ b
conn_is a b e = cc

pub asked_some : (bases : Bases) (one : Picture) (T : List HistoryEntry) → IsPictureOf bases one T → (n i : ℕ) → one.asker n ≡ Some i → (client : Client) × (one.clients i ≡ Some client) × IsSome client.pending
asked_some bases one T is n i asked = by ((books_of T).opened n) refl (sym (is.asker n) ∙ asked)
  where
    all : AreJoined bases T
    all = joined bases T is.is_history is.standing

    by : (opened : Option Opened) → (books_of T).opened n ≡ opened → option_map (λ (o : Opened). o.conn) opened ≡ Some i → (client : Client) × (one.clients i ≡ Some client) × IsSome client.pending
    by None e asker = cc
    by (Some opened) e asker =
        let who : opened.conn ≡ i = conn_is opened.conn i asker in
        let here : entered i T ≡ true = subst (λ (j : ℕ). entered j T ≡ true) who (opened_entered bases T all n opened e) in
        let some : IsSome (shared (books_of T) i (alone bases T i).client).pending = some_under ((books_of T).pair_of i) (alone bases T i).client.pending ((all.1 i).last n opened e who).1 in
        (shared (books_of T) i (alone bases T i).client, client_in bases one T is i here (busy_stays (shared (books_of T) i (alone bases T i).client) some), some)

-- The same as an equation, which has one proof at most.
pub asked_open : (bases : Bases) (one : Picture) (T : List HistoryEntry) → IsPictureOf bases one T → (n i : ℕ) → one.asker n ≡ Some i → IsSome (option_and_then (λ (client : Client). client.pending) (one.clients i))
asked_open bases one T is n i asked =
    let (client, here, some) = asked_some bases one T is n i asked in
    ap (λ (one_client : Option Client). is_some (option_and_then (λ (c : Client). c.pending) one_client)) here ∙ some

-- Each pair that is held is one of all.
abbrev pub AreLow : (ℕ → Option Held) → Type 0
AreLow held = (p : ℕ) → IsSome (held p) → p < PAIRS

within : (p : ℕ) (table : List (Option Held)) → IsSome (held_at p table) → p < length table
within p [] some = cc
within zero (place ∷ table) some = omega arith
within (suc p) (place ∷ table) some = let low : p < length table = within p table some in omega arith

pub held_low : (p : ℕ) (table : List (Option Held)) → IsTable table → IsSome (held_at p table) → p < PAIRS
held_low p table is some = subst (λ (n : ℕ). p < n) is.size (within p table some)

-- So is the pair of an open SETUP, and that of a stream.
low_for : (held : ℕ → Option Held) (books : Books) (i : ℕ) (session : Option (List ℕ)) (own : ℕ) → ((p : ℕ) → held p ≡ option_map (bare_held p) (books.held p)) → AreLow held → IsHeldFor books i session own → books.pair_of i own < PAIRS
low_for held books i session own same low is = low (books.pair_of i own) (ap is_some (same (books.pair_of i own) ∙ ap (option_map (bare_held (books.pair_of i own))) is.0))

low_purpose : (held : ℕ → Option Held) (books : Books) (i : ℕ) (sessions : List PlayerSession) (purpose : Purpose) → ((p : ℕ) → held p ≡ option_map (bare_held p) (books.held p)) → AreLow held → IsPurpose books i sessions purpose → IsLowPurpose (purpose_under (books.pair_of i) purpose)
low_purpose held books i sessions (purposes.Client asked (Some track)) same low is = low_for held books i None track.pair same low is.0
low_purpose held books i sessions (purposes.Client asked None) same low is = tt
low_purpose held books i sessions (purposes.Released play) same low is = tt
low_purpose held books i sessions (purposes.Closing place) same low is = tt

pub low_pending : (bases : Bases) (one : Picture) (T : List HistoryEntry) → IsPictureOf bases one T → AreLow one.held → (i : ℕ) (client : Client) → one.clients i ≡ Some client → IfSome client.pending IsLowPurpose
low_pending bases one T is low i client here =
    subst (λ (c : Client). IfSome c.pending IsLowPurpose) (sym (entered_in bases one T is i client here).1) (by (alone bases T i).client.pending ((joined bases T is.is_history is.standing).1 i).pending)
  where
    by : (pending : Option Purpose) → IsOpenFor (books_of T) i ((books_of T).number_of i (alone bases T i).count) (alone bases T i).client.sessions pending → IfSome (option_map (purpose_under ((books_of T).pair_of i)) pending) IsLowPurpose
    by None is_open = tt
    by (Some purpose) is_open = low_purpose one.held (books_of T) i (alone bases T i).client.sessions purpose is.held low is_open.1

pub low_pending_prop : (pending : Option Purpose) → IsProp (IfSome pending IsLowPurpose)
low_pending_prop None = hlevel props
low_pending_prop (Some (purposes.Client asked (Some track))) = hlevel props
low_pending_prop (Some (purposes.Client asked None)) = hlevel props
low_pending_prop (Some (purposes.Released play)) = hlevel props
low_pending_prop (Some (purposes.Closing place)) = hlevel props

-- a half of a stream
half_low : (channel : ℕ) (track : Track) → IfSome (half_on channel track) (λ half. half ≤ 1)
half_low channel track = by (track.client.rtp == channel) (track.client.rtcp == channel)
  where
    by : (s t : Bool) → IfSome (cond s (Some 0) (cond t (Some 1) None)) (λ half. half ≤ 1)
    by true t = omega arith
    by false true = omega arith
    by false false = tt

pair_same : (a b : Half) → Some a ≡ Some b → a.pair ≡ b.pair
pair_same a b e = cc

half_same : (a b : Half) → Some a ≡ Some b → a.half ≡ b.half
half_same a b e = cc

low_half : (held : ℕ → Option Held) (books : Books) (i channel : ℕ) (half : Half) (tracks : List Track) → ((own : ℕ) → HasPair (λ pair. pair) own tracks → books.pair_of i own < PAIRS)
    → half_for channel (map (track_under (books.pair_of i)) tracks) ≡ Some half → (half.pair < PAIRS) × (half.half ≤ 1)
low_half held books i channel half [] low found = cc
low_half held books i channel half (track ∷ tracks) low found =
    by (half_on channel track) (half_low channel track) (low_half held books i channel half tracks (λ own has. low own (inr has))) found
  where
    by : (on : Option ℕ) → IfSome on (λ n. n ≤ 1) → (half_for channel (map (track_under (books.pair_of i)) tracks) ≡ Some half → (half.pair < PAIRS) × (half.half ≤ 1))
        → option_or (option_map (λ n. let one : Half = record { pair = books.pair_of i track.pair; half = n } in one) on) (half_for channel (map (track_under (books.pair_of i)) tracks)) ≡ Some half
        → (half.pair < PAIRS) × (half.half ≤ 1)
    by None is_low more here = more here
    by (Some n) is_low more here = (
      subst (λ (p : ℕ). p < PAIRS) (pair_same (record { pair = books.pair_of i track.pair; half = n }) half here) (low track.pair (inl refl)),
      subst (λ (k : ℕ). k ≤ 1) (half_same (record { pair = books.pair_of i track.pair; half = n }) half here) is_low,
    )

-- The streams of all sessions are those of each, in the shared numbers too.
append_map : (pairs : ℕ → ℕ) (tracks more : List Track) → map (track_under pairs) (tracks ++ more) ≡ map (track_under pairs) tracks ++ map (track_under pairs) more
append_map pairs [] more = refl
append_map pairs (track ∷ tracks) more = ap (λ rest. track_under pairs track ∷ rest) (append_map pairs tracks more)

tracks_under : (numbers pairs : ℕ → ℕ) (sessions : List PlayerSession) → tracks_of (map (session_under numbers pairs) sessions) ≡ map (track_under pairs) (tracks_of sessions)
tracks_under numbers pairs [] = refl
tracks_under numbers pairs (one ∷ more) = ap (λ rest. map (track_under pairs) one.tracks ++ rest) (tracks_under numbers pairs more) ∙ sym (append_map pairs one.tracks (tracks_of more))

had_in : (own : ℕ) (tracks more : List Track) → HasPair (λ pair. pair) own (tracks ++ more) → HasPair (λ pair. pair) own tracks ⊎ HasPair (λ pair. pair) own more
had_in own [] more has = inr has
had_in own (track ∷ tracks) more (inl here) = inl (inl here)
had_in own (track ∷ tracks) more (inr later) = further (had_in own tracks more later)
  where
    further : HasPair (λ pair. pair) own tracks ⊎ HasPair (λ pair. pair) own more → ((track.pair ≡ own) ⊎ HasPair (λ pair. pair) own tracks) ⊎ HasPair (λ pair. pair) own more
    further (inl here) = inl (inr here)
    further (inr there) = inr there

low_held : (held : ℕ → Option Held) (books : Books) (i : ℕ) (session : Option (List ℕ)) (tracks : List Track) → ((p : ℕ) → held p ≡ option_map (bare_held p) (books.held p)) → AreLow held → AreHeld books i session tracks
    → (own : ℕ) → HasPair (λ pair. pair) own tracks → books.pair_of i own < PAIRS
low_held held books i session [] same low are own has = absurd has
low_held held books i session (track ∷ tracks) same low are own (inl here) = subst (λ (n : ℕ). books.pair_of i n < PAIRS) here (low_for held books i session track.pair same low are.0)
low_held held books i session (track ∷ tracks) same low are own (inr later) = low_held held books i session tracks same low are.1 own later

low_holding : (held : ℕ → Option Held) (books : Books) (i : ℕ) (session : Option (List ℕ)) (tracks : List Track) → ((p : ℕ) → held p ≡ option_map (bare_held p) (books.held p)) → AreLow held → IsHolding books i session tracks
    → (own : ℕ) → HasPair (λ pair. pair) own tracks → books.pair_of i own < PAIRS
low_holding held books i None tracks same low are own has = let none : HasPair (λ pair. pair) own [] = subst (HasPair (λ pair. pair) own) are has in absurd none
low_holding held books i (Some id) tracks same low are own has = low_held held books i (Some id) tracks same low are own has

low_all : (held : ℕ → Option Held) (books : Books) (i : ℕ) (sessions : List PlayerSession) → ((p : ℕ) → held p ≡ option_map (bare_held p) (books.held p)) → AreLow held
    → ((place : ℕ) → IsHolding books i (session_at place sessions).id (session_at place sessions).tracks) → (own : ℕ) → HasPair (λ pair. pair) own (tracks_of sessions) → books.pair_of i own < PAIRS
low_all held books i [] same low holding own has = absurd has
low_all held books i (one ∷ more) same low holding own has =
    either (had_in own one.tracks (tracks_of more) has) (low_holding held books i one.id one.tracks same low (holding zero) own) (low_all held books i more same low (λ place. holding (suc place)) own)
  where
    either : HasPair (λ pair. pair) own one.tracks ⊎ HasPair (λ pair. pair) own (tracks_of more) → (HasPair (λ pair. pair) own one.tracks → books.pair_of i own < PAIRS) → (HasPair (λ pair. pair) own (tracks_of more) → books.pair_of i own < PAIRS)
        → books.pair_of i own < PAIRS
    either (inl here) first later = first here
    either (inr there) first later = later there

pub low_tracks : (bases : Bases) (one : Picture) (T : List HistoryEntry) → IsPictureOf bases one T → AreLow one.held → (i : ℕ) (client : Client) → one.clients i ≡ Some client
    → (half : Half) (channel : ℕ) → half_for channel (tracks_of client.sessions) ≡ Some half → (half.pair < PAIRS) × (half.half ≤ 1)
low_tracks bases one T is low i client here half channel found =
    let own : Client = (alone bases T i).client in
    low_half one.held (books_of T) i channel half (tracks_of own.sessions) (low_all one.held (books_of T) i own.sessions is.held low ((joined bases T is.is_history is.standing).1 i).tracks)
    (ap (half_for channel) (sym (tracks_under ((books_of T).number_of i) ((books_of T).pair_of i) own.sessions))
    ∙ ap (λ (c : Client). half_for channel (tracks_of c.sessions)) (sym (entered_in bases one T is i client here).1) ∙ found)
