-- The streams of a connection alone are apart: a SETUP has the next number as that of its pair, and channels that no other
-- stream has.
use Rattle.std.proofs.Common.{◌≡◌, ◌≢◌, ◌∙◌, ℕ, zero, suc, ◌+◌, ◌≤◌, ◌==◌, false, List, [], ◌∷◌, ◌++◌, length, map, Option, Some, None, refl, sym, ap, subst, arith}
use Rattle.std.specs.Prelude.{is_none, is_some}
use Rattle.std.specs.Option.{option_to_list}
use Rattle.std.specs.List.{AllByRecursion}
use Rattle.std.proofs.lemmas.List.{append-nil, append_assoc}
use Rattle.rtsp_transport.specs.declared.channels.Pair.{Pair}
use Rattle.rtsp_uri.specs.declared.base.Bases.{Bases}
use Rattle.session_one.specs.declared.parts.Track.{Track}
use Rattle.translate_up.specs.Channels.{share, is_taken}
use Rattle.client_slot.specs.declared.session_turn.PartTurn.{PartTurn}
use Rattle.client_slot.specs.declared.session_turn.PartTurn.TheVariants.{Keeps, Takes, Loses}
use Rattle.client_slot.specs.declared.purpose.Purpose.{Purpose}
use Rattle.client_slot.specs.declared.purpose.Purpose.TheVariants as purposes
use Rattle.client_slot.specs.Session.{PlayerSession}
use Rattle.client_slot.specs.SessionTurns.{reply_turn, tracks_then}
use Rattle.client_slot.specs.Places.{changed_at, changed_where, tracks_of}
use Rattle.client_slot.specs.Client.{Client}
use Rattle.client_slot.specs.Changes.{settled_place, session_after, sessions_after}
use Rattle.client_slot.specs.SessionChanges.{when_next}
use Rattle.client_machine.specs.Bounds.{stream_asked, streams_of, AreStreamsApart, IsStreamApart, AreAllStreamsApart, ArePairsBelow}
use Rattle.client_machine.specs.Events.{PrivateEvent}
use Rattle.client_machine.specs.Treatment.{session_found, given, Going, treated}
use Rattle.client_machine.specs.Step.{after_plays, goes_at, NextPart, new_id, hear, going_on, step}
use Rattle.client_machine.specs.Alone.{pair_alone, private_after}
use Rattle.client_machine.proofs.EachLemmas.{each_so, both_so, parts_so}
use Rattle.client_machine.proofs.WayLemmas.{going_as, alone_as}
use Rattle.client_machine.proofs.BelowLemmas.{IsNumbered, hear_numbered, IsNextPair, next_alone, alone_numbered, tracks_below}
use Rattle.client_machine.proofs.FullLemmas.{either_false}
use Rattle.client_machine.proofs.HoldLemmas.{same_tracks, changed_same, plays_steady, heard_as}
use Rattle.client_machine.proofs.PlaceLemmas.{IsInPlace, hear_placed, IsGoingIn, treated_in, seen_tracks, plays_idle, few_all, alone_placed}

-- Two streams are apart whichever comes first.
swap_eq : (a b : ℕ) → (a == b) ≡ (b == a)
swap_eq a b = grind arith

share_swap : (p q : Pair) → share p q ≡ share q p
share_swap p q = rw (swap_eq q.rtp p.rtp, swap_eq q.rtp p.rtcp, swap_eq q.rtcp p.rtp, swap_eq q.rtcp p.rtcp) (grind arith)

apart_swap : (one other : Track) → AreStreamsApart one other → AreStreamsApart other one
apart_swap one other apart = record { pairs = λ same. apart.pairs (sym same); channels = share_swap other.client one.client ∙ apart.channels }

-- each of these and each of those
abbrev AreEachApart : List Track → List Track → Type 0
AreEachApart tracks others = AllByRecursion (λ track. IsStreamApart track others) tracks

each_parts : (first second third : List Track) → AreEachApart first (second ++ third) → AreEachApart first second × AreEachApart first third
each_parts first second third apart = (each_so _ _ first (λ track here. (parts_so _ second third here).0) apart, each_so _ _ first (λ track here. (parts_so _ second third here).1) apart)

each_joined : (first second third : List Track) → AreEachApart first second → AreEachApart first third → AreEachApart first (second ++ third)
each_joined [] second third a b = tt
each_joined (track ∷ first) second third a b = (both_so _ second third a.0 b.0, each_joined first second third a.1 b.1)

each_swap : (first second : List Track) → AreEachApart first second → AreEachApart second first
each_swap first [] apart = tt
each_swap first (track ∷ second) apart =
    let parts = each_parts first (track ∷ []) second apart in
    (swap_one first parts.0, each_swap first second parts.1)
  where
    swap_one : (tracks : List Track) → AreEachApart tracks (track ∷ []) → IsStreamApart track tracks
    swap_one [] apart = tt
    swap_one (one ∷ tracks) apart = (apart_swap one track apart.0.0, swap_one tracks apart.1)

-- those of two lists are apart where those of each are, and each of one list from each of the other
record AreBothApart (first second : List Track) : Type 0 where
  one : AreAllStreamsApart first
  other : AreAllStreamsApart second
  between : AreEachApart first second

all_parts : (first second : List Track) → AreAllStreamsApart (first ++ second) → AreBothApart first second
all_parts [] second apart = record { one = tt; other = apart; between = tt }
all_parts (track ∷ first) second apart =
    let here = parts_so _ first second apart.0 in
    let more = all_parts first second apart.1 in
    record { one = (here.0, more.one); other = more.other; between = (here.1, more.between) }

all_joined : (first second : List Track) → AreBothApart first second → AreAllStreamsApart (first ++ second)
all_joined [] second both = both.other
all_joined (track ∷ first) second both = grind (arith, both_so, all_joined first second (record { one = both.one.1; other = both.other; between = both.between.1 }))

nil_apart : (tracks : List Track) → AreAllStreamsApart tracks → AreAllStreamsApart (tracks ++ [])
nil_apart tracks apart = subst (λ (all : List Track). AreAllStreamsApart all) (sym (append-nil tracks)) apart

front_apart : (front back : List Track) → AreAllStreamsApart (front ++ back) → AreAllStreamsApart front
front_apart front back apart = (all_parts front back apart).one

-- Streams are apart in another order too, and without some of them.
ends_swap : (first second third : List Track) → AreAllStreamsApart (first ++ (second ++ third)) → AreAllStreamsApart (first ++ (third ++ second))
ends_swap first second third apart = grind (arith, all_parts, each_parts, all_joined, each_swap, each_joined)

-- A session whose streams are kept, or get one more, or are lost.
record IsTurned (track : Option Track) (before after : PlayerSession) : Type 0 where
  part : PartTurn
  is : after.tracks ≡ tracks_then part before.tracks track

part_apart : (first : List Track) (part : PartTurn) (was : List Track) (track : Option Track) (more : List Track) → AreAllStreamsApart ((first ++ was) ++ (more ++ option_to_list track)) → AreAllStreamsApart (first ++ (tracks_then part was track ++ more))
part_apart first Keeps was track more apart = rw (← append_assoc) (front_apart ((first ++ was) ++ more) (option_to_list track) (rw append_assoc apart))
part_apart first Loses was track more apart = front_apart (first ++ more) was (rw append_assoc (ends_swap first was more (rw (← append_assoc) (front_apart ((first ++ was) ++ more) (option_to_list track) (rw append_assoc apart)))))
part_apart first Takes was track more apart = simp append_assoc (simp append_assoc at (ends_swap (first ++ was) more (option_to_list track) apart))

turned_apart : (first : List Track) (place : ℕ) (change : PlayerSession → PlayerSession) (track : Option Track) (sessions : List PlayerSession) → ((session : PlayerSession) → IsTurned track session (change session))
    → AreAllStreamsApart (first ++ (tracks_of sessions ++ option_to_list track)) → AreAllStreamsApart (first ++ tracks_of (changed_at place change sessions))
turned_apart first place change track [] turns apart = nil_apart first (front_apart first (option_to_list track) apart)
turned_apart first zero change track (one ∷ more) turns apart = grind (arith, part_apart, append_assoc)
turned_apart first (suc place) change track (one ∷ more) turns apart = simp append_assoc at (turned_apart (first ++ one.tracks) place change track more turns (simp append_assoc (simp append_assoc at apart)))

turned_where : (place : Option ℕ) (change : PlayerSession → PlayerSession) (track : Option Track) (sessions : List PlayerSession) → ((session : PlayerSession) → IsTurned track session (change session))
    → AreAllStreamsApart (tracks_of sessions ++ option_to_list track) → AreAllStreamsApart (tracks_of (changed_where place change sessions))
turned_where None change track sessions turns apart = front_apart (tracks_of sessions) (option_to_list track) apart
turned_where (Some place) change track sessions turns apart = turned_apart [] place change track sessions turns apart

-- what a reply makes of the streams
after_apart : (purpose : Purpose) (number code : ℕ) (described id : Option (List ℕ)) (sessions : List PlayerSession) → AreAllStreamsApart (tracks_of sessions ++ stream_asked (Some purpose))
    → AreAllStreamsApart (tracks_of (sessions_after purpose number code described id sessions))
after_apart (purposes.Client asked track) number code described id sessions apart =
    turned_where (settled_place (purposes.Client asked track) id sessions) (session_after (purposes.Client asked track) number code described id) track sessions
    (λ session. record { part = (reply_turn (purposes.Client asked track) code (is_some id) session.state).tracks; is = refl }) apart
after_apart (purposes.Released play) number code described id sessions apart =
    turned_where play.place (session_after (purposes.Released play) number code described id) None sessions
    (λ session. record { part = (reply_turn (purposes.Released play) code (is_some id) session.state).tracks; is = refl }) apart
after_apart (purposes.Closing place) number code described id sessions apart =
    turned_where (Some place) (session_after (purposes.Closing place) number code described id) None sessions (λ session. record { part = Loses; is = refl }) apart

hear_apart : (bases : Bases) (n : ℕ) (client : Client) (event : PrivateEvent) → AreAllStreamsApart (streams_of client) → AreAllStreamsApart (streams_of (hear bases n client event).effect.client)
hear_apart bases n client event apart = heard_as (λ after. AreAllStreamsApart (streams_of after)) bases n client event
    (λ after still. subst (λ (all : List Track). AreAllStreamsApart all)
    (sym (ap (λ (tracks : List Track). tracks ++ stream_asked after.pending) (same_tracks client.sessions after.sessions still.sessions) ∙ ap (λ (purpose : Option Purpose). tracks_of client.sessions ++ stream_asked purpose) still.pending)) apart)
    (λ purpose told ssrc full here is.
    nil_apart (tracks_of (sessions_after purpose n told.code client.described (new_id purpose told) client.sessions))
    (after_apart purpose n told.code client.described (new_id purpose told) client.sessions (subst (λ (one : Option Purpose). AreAllStreamsApart (tracks_of client.sessions ++ stream_asked one)) is apart)))

-- The stream of a SETUP that goes up is apart from all.
below_next : (n pair : ℕ) → pair ≤ n → pair ≢ n + 1
below_next n pair low same = omega (arith, low, same)

new_apart : (n : ℕ) (tracks : List Track) (new : Track) → ArePairsBelow n tracks → is_taken tracks new.client ≡ false → new.pair ≡ n + 1 → AreEachApart tracks (new ∷ [])
new_apart n [] new below free next = tt
new_apart n (track ∷ tracks) new below free next =
    let parts = either_false (share track.client new.client) (is_taken tracks new.client) free in
    ((record { pairs = λ same. below_next n track.pair below.0.1 (same ∙ next); channels = parts.0 }, tt), new_apart n tracks new below.1 parts.1 next)

abbrev AreFreeFor : List Track → Option Pair → Type 0
AreFreeFor tracks None = Unit {0}
AreFreeFor tracks (Some channels) = is_taken tracks channels ≡ false

goes_apart : (n : ℕ) (one : Option Going) (pair : Option ℕ) (hand : List ℕ) (before client : Client) → IsNextPair n pair → ArePairsBelow n (tracks_of before.sessions) → length (tracks_of before.sessions) ≤ 63
    → IsGoingIn (map session_found before.sessions) one → AreAllStreamsApart (tracks_of before.sessions) → tracks_of client.sessions ≡ tracks_of before.sessions → AreAllStreamsApart (streams_of client) → AreAllStreamsApart (streams_of (goes_at one pair hand client).client)
goes_apart n one pair hand before client next below few free apart same all = grind (arith, nil_apart, all_joined, new_apart, seen_tracks)

going_apart : (bases : Bases) (n : ℕ) (pair : Option ℕ) (next : NextPart) (client : Client) → IsNextPair n pair → ArePairsBelow n (tracks_of client.sessions) → IsInPlace client → AreAllStreamsApart (streams_of client)
    → AreAllStreamsApart (streams_of (going_on bases pair next client).client)
going_apart bases n pair next client is_next below placed apart =
    let own = front_apart (tracks_of client.sessions) (stream_asked client.pending) apart in
    going_as (λ effect. AreAllStreamsApart (streams_of effect.client)) bases pair next client (record {
      still = apart;
      released = λ place play idle due is.
          subst (λ (tracks : List Track). AreAllStreamsApart (tracks ++ []))
          (sym (same_tracks client.sessions (changed_at place when_next client.sessions) (changed_same place when_next client.sessions (λ session. record { id = refl; tracks = refl })))) (nil_apart (tracks_of client.sessions) own);
      treats = λ idle alive.
          let all = treated client.waiting (given bases (is_none pair) client) in
          let left = record client { waiting = all.left } in
          let after = after_plays all.plays left in
          let same = same_tracks client.sessions after.sessions (plays_steady all.plays left).sessions in
          goes_apart n all.going pair all.hand client after is_next below (few_all client placed) (treated_in client.waiting (given bases (is_none pair) client)) own same
          (subst (λ (tracks : List Track). AreAllStreamsApart (tracks ++ stream_asked after.pending)) (sym same)
          (subst (λ (one : Option Purpose). AreAllStreamsApart (tracks_of client.sessions ++ stream_asked one)) (sym (plays_idle all.plays left)) apart));
      left = λ place id idle dead filled is. nil_apart (tracks_of client.sessions) own;
    })

step_apart : (bases : Bases) (n : ℕ) (pair : Option ℕ) (client : Client) (event : PrivateEvent) → IsNextPair n pair → IsNumbered n client → IsInPlace client → AreAllStreamsApart (streams_of client)
    → AreAllStreamsApart (streams_of (step bases n pair client event).client)
step_apart bases n pair client event next numbered placed apart = grind (arith, going_apart, tracks_below, hear_numbered, hear_placed, hear_apart)

-- So it is for a connection alone.
pub alone_apart : (bases : Bases) (events : List PrivateEvent) → AreAllStreamsApart (streams_of (private_after bases events).client)
alone_apart bases [] = tt
alone_apart bases (event ∷ events) =
    let p = private_after bases events in
    alone_as (λ effect. AreAllStreamsApart (streams_of effect.client)) bases p event (alone_apart bases events) (alone_apart bases events)
    (step_apart bases p.count (pair_alone event (p.count + 1)) p.client event (next_alone event p.count) (alone_numbered bases events) (alone_placed bases events) (alone_apart bases events))
