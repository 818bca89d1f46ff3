-- A session's streams leave a pair free, and no lower one is.
use Rattle.std.proofs.Common.{◌≡◌, ℕ, suc, zero, ◌+◌, ◌*◌, ◌<◌, ◌≤◌, ◌==◌, ◌||◌, Bool, true, false, cond, List, [], ◌∷◌, length, refl, sym, ◌∙◌, ap, subst, arith}
use Rattle.rtsp_transport.specs.declared.channels.Pair.{Pair}
use Rattle.session_one.specs.declared.parts.Track.{Track}
use Rattle.translate_up.specs.Channels.{share, is_taken, pair_at, free_from, free_pair, IsLowestFree}

-- one where a test holds
one_if : Bool → ℕ
one_if true = 1
one_if false = 0

-- how many of so many pairs, from a channel on in steps of two, pass a test
count : (Pair → Bool) → ℕ → ℕ → ℕ
count test zero rtp = 0
count test (suc more) rtp = one_if (test (pair_at rtp)) + count test more (rtp + 2)

one_either : (a b : Bool) → one_if (a || b) ≤ one_if a + one_if b
unfolding one_if
one_either true b = omega arith
one_either false b = omega arith

-- Two tests count together what either passes, at most.
count_either : (one other : Pair → Bool) (n rtp : ℕ) → count (λ pair. one pair || other pair) n rtp ≤ count one n rtp + count other n rtp
unfolding count
count_either one other zero rtp = omega arith
count_either one other (suc n) rtp =
    omega (arith, one_either (one (pair_at rtp)) (other (pair_at rtp)), count_either one other n (rtp + 2))

one_not : (b : Bool) → b ≡ false → one_if b ≡ 0
unfolding one_if
one_not true h = cc
one_not false h = refl

-- a pair has this channel
abbrev has : ℕ → Pair → Bool
has channel pair = channel == pair.rtp || channel == pair.rtcp

one_missed : (channel rtp : ℕ) → channel < rtp → one_if (has channel (pair_at rtp)) ≡ 0
one_missed channel rtp low = let missed : has channel (pair_at rtp) ≡ false = grind (arith, low) in one_not (has channel (pair_at rtp)) missed

-- No pair behind a channel has it.
count_behind : (channel n rtp : ℕ) → channel < rtp → count (has channel) n rtp ≡ 0
unfolding count
count_behind channel zero rtp low = refl
count_behind channel (suc n) rtp low = omega (arith, one_missed channel rtp low, count_behind channel n (rtp + 2) (omega arith))

one_most : (b : Bool) → one_if b ≤ 1
unfolding one_if
one_most true = omega arith
one_most false = omega arith

-- A channel is in one pair at most.
count_channel : (channel n rtp : ℕ) → count (has channel) n rtp ≤ 1
unfolding count
count_channel channel zero rtp = omega arith
count_channel channel (suc n) rtp = by (has channel (pair_at rtp)) refl (count_channel channel n (rtp + 2))
  where
    by : (here : Bool) → has channel (pair_at rtp) ≡ here → count (has channel) n (rtp + 2) ≤ 1 → one_if (has channel (pair_at rtp)) + count (has channel) n (rtp + 2) ≤ 1
    by true e rest =
        let low : channel < rtp + 2 = grind (arith, e) in
        omega (arith, one_most (has channel (pair_at rtp)), count_behind channel n (rtp + 2) low)
    by false e rest = omega (arith, one_not (has channel (pair_at rtp)) e, rest)

-- A stream takes two pairs at most.
count_track : (client : Pair) (n rtp : ℕ) → count (share client) n rtp ≤ 2
count_track client n rtp = omega (arith, count_either (has client.rtp) (has client.rtcp) n rtp, count_channel client.rtp n rtp, count_channel client.rtcp n rtp)

count_none : (n rtp : ℕ) → count (λ pair. false) n rtp ≡ 0
unfolding count one_if
count_none zero rtp = refl
count_none (suc n) rtp = omega (arith, count_none n (rtp + 2))

-- Streams take two pairs each at most.
count_tracks : (tracks : List Track) (n rtp : ℕ) → count (is_taken tracks) n rtp ≤ 2 * length tracks
count_tracks [] n rtp = omega (arith, count_none n rtp)
count_tracks (track ∷ tracks) n rtp =
    omega (arith, count_either (share track.client) (is_taken tracks) n rtp, count_track track.client n rtp, count_tracks tracks n rtp)

one_yes : (b : Bool) → b ≡ true → one_if b ≡ 1
unfolding one_if
one_yes true h = refl
one_yes false h = cc

-- Where the search ends at a pair that is taken, all are.
all_taken : (more : ℕ) (tracks : List Track) (rtp : ℕ) → is_taken tracks (pair_at (free_from more tracks rtp)) ≡ true → count (is_taken tracks) (suc more) rtp ≡ suc more
unfolding count free_from
all_taken zero tracks rtp h = omega (arith, one_yes (is_taken tracks (pair_at rtp)) h)
all_taken (suc more) tracks rtp h = by (is_taken tracks (pair_at rtp)) refl h (all_taken more tracks (rtp + 2))
  where
    by : (here : Bool) → is_taken tracks (pair_at rtp) ≡ here → is_taken tracks (pair_at (cond here (free_from more tracks (rtp + 2)) rtp)) ≡ true →
        (is_taken tracks (pair_at (free_from more tracks (rtp + 2))) ≡ true → count (is_taken tracks) (suc more) (rtp + 2) ≡ suc more) →
        one_if (is_taken tracks (pair_at rtp)) + count (is_taken tracks) (suc more) (rtp + 2) ≡ suc (suc more)
    by true e taken rest = omega (arith, one_yes (is_taken tracks (pair_at rtp)) e, rest taken)
    by false e taken rest = cc

no_more : (taken : Bool) (tracks : List Track) → length tracks ≤ 63 → is_taken tracks (free_pair tracks) ≡ taken → taken ≡ false
unfolding free_pair
no_more true tracks few e = absurd (omega (arith, all_taken 127 tracks 0 e, count_tracks tracks 128 0))
no_more false tracks few e = refl

free_is_free : (tracks : List Track) → length tracks ≤ 63 → is_taken tracks (free_pair tracks) ≡ false
free_is_free tracks few = by (is_taken tracks (free_pair tracks)) refl
  where
    by : (taken : Bool) → is_taken tracks (free_pair tracks) ≡ taken → is_taken tracks (free_pair tracks) ≡ false
    by taken e = e ∙ no_more taken tracks few e

-- What lies below the pair that is found is taken.
taken_below : (more : ℕ) (tracks : List Track) (rtp half : ℕ) → rtp + 2 * half < free_from more tracks rtp → is_taken tracks (pair_at (rtp + 2 * half)) ≡ true
unfolding free_from
taken_below zero tracks rtp half below = absurd (omega (arith, below))
taken_below (suc more) tracks rtp half below = by (taken_below more tracks (rtp + 2)) (is_taken tracks (pair_at rtp)) refl half below
  where
    by : ((later : ℕ) → (rtp + 2) + 2 * later < free_from more tracks (rtp + 2) → is_taken tracks (pair_at ((rtp + 2) + 2 * later)) ≡ true) →
        (here : Bool) → is_taken tracks (pair_at rtp) ≡ here → (half : ℕ) → rtp + 2 * half < cond here (free_from more tracks (rtp + 2)) rtp → is_taken tracks (pair_at (rtp + 2 * half)) ≡ true
    by rest true e zero below = let same : rtp + 2 * 0 ≡ rtp = omega arith in ap (λ n. is_taken tracks (pair_at n)) same ∙ e
    by rest true e (suc half) below =
        let same : rtp + 2 * suc half ≡ (rtp + 2) + 2 * half = omega arith in
        ap (λ n. is_taken tracks (pair_at n)) same ∙ rest half (subst (λ n. n < free_from more tracks (rtp + 2)) same below)
    by rest false e half below = absurd (omega (arith, below))

-- The search goes in steps of two.
steps : (more : ℕ) (tracks : List Track) (rtp : ℕ) → (half : ℕ) × (free_from more tracks rtp ≡ rtp + 2 * half)
unfolding free_from
steps zero tracks rtp = (0, omega arith)
steps (suc more) tracks rtp = by (is_taken tracks (pair_at rtp)) (steps more tracks (rtp + 2))
  where
    by : (here : Bool) → ((half : ℕ) × (free_from more tracks (rtp + 2) ≡ (rtp + 2) + 2 * half)) → (half : ℕ) × (cond here (free_from more tracks (rtp + 2)) rtp ≡ rtp + 2 * half)
    by true later = (suc later.0, omega (arith, later.1))
    by false later = (0, omega arith)

zero_and : (n : ℕ) → 0 + n ≡ n
zero_and n = omega arith

-- The pair that is found is the lowest free one.
pub lowest_found : (tracks : List Track) → length tracks ≤ 63 → IsLowestFree tracks (free_pair tracks)
unfolding free_pair
lowest_found tracks few =
    let found = steps 127 tracks 0 in
    record {
      even = (found.0, ap pair_at (found.1 ∙ zero_and (2 * found.0)));
      free = free_is_free tracks few;
      lowest = λ half below.
          ap (λ n. is_taken tracks (pair_at n)) (sym (zero_and (2 * half)))
          ∙ taken_below 127 tracks 0 half (subst (λ n. n < free_from 127 tracks 0) (sym (zero_and (2 * half))) below);
    }
