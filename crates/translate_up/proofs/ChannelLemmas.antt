-- The search for a free pair, step by step.
use Rattle.std.proofs.Common.{◌≡◌, ℕ, suc, zero, ◌+◌, true, false, cond, List, sym, ◌∙◌, ap}
use Rattle.session_one.specs.declared.parts.Track.{Track}
use Rattle.translate_up.specs.Channels.{is_taken, pair_at, free_from, free_pair}

-- A pair that is taken is passed over.
pub free_step : (more next : ℕ) (tracks : List Track) (rtp after : ℕ) → more ≡ suc next → after ≡ rtp + 2 → is_taken tracks (pair_at rtp) ≡ true →
    free_from next tracks after ≡ free_from more tracks rtp
unfolding free_from
free_step more next tracks rtp after m a taken =
    ap (free_from next tracks) a
    ∙ sym (ap (λ t. cond t (free_from next tracks (rtp + 2)) rtp) taken)
    ∙ sym (ap (λ n. free_from n tracks rtp) m)

-- The first that is not taken is found.
pub free_found : (more : ℕ) (tracks : List Track) (rtp : ℕ) → is_taken tracks (pair_at rtp) ≡ false → free_from more tracks rtp ≡ free_from 127 tracks 0 →
    pair_at rtp ≡ free_pair tracks
unfolding free_from free_pair
free_found zero tracks rtp free so_far = ap pair_at so_far
free_found (suc more) tracks rtp free so_far = ap pair_at (sym (ap (λ t. cond t (free_from more tracks (rtp + 2)) rtp) free) ∙ so_far)

-- The last is not looked at.
pub free_last : (more : ℕ) (tracks : List Track) (rtp : ℕ) → more ≡ 0 → free_from more tracks rtp ≡ free_from 127 tracks 0 → pair_at rtp ≡ free_pair tracks
unfolding free_from free_pair
free_last more tracks rtp none so_far = ap pair_at (sym (ap (λ n. free_from n tracks rtp) none) ∙ so_far)
