-- The players that are ready, looked at one by one.
use Rattle.std.proofs.Common.{◌≡◌, ℕ, ◌+◌, ◌<◌, List, [], ◌∷◌, ◌++◌, length, take, get_or, sym, ap, ◌∙◌, arith, append_assoc}
use Rattle.std.proofs.lemmas.List.{append-nil, take_more, length-take}
use Rattle.drill_run.specs.declared.player.Player.{Player}
use Rattle.drill_run.specs.declared.turn.Who.{Who}
use Rattle.drill_run.specs.Turns.{ready_one, ready_from}

ready_one_more : (i : ℕ) (before : List Player) (player : Player) →
    ready_from i (before ++ player ∷ []) ≡ ready_from i before ++ ready_one (i + length before) player
ready_one_more i [] player =
    append-nil (ready_one i player) ∙ ap (λ n. ready_one n player) (let same : i ≡ i + 0 = omega arith in same)
ready_one_more i (first ∷ before) player =
    ap (λ (l : List Who). ready_one i first ++ l) (ready_one_more (i + 1) before player)
    ∙ sym (append_assoc (ready_one i first) (ready_from (i + 1) before) (ready_one (i + 1 + length before) player))
    ∙ ap (λ n. ready_from i (first ∷ before) ++ ready_one n player) (let same : i + 1 + length before ≡ i + length (first ∷ before) = omega arith in same)

pub ready_more : (players : List Player) (i number : ℕ) (player : Player) (before after : List Who) → i < length players → player ≡ get_or players i player →
    number ≡ i → before ≡ ready_from 0 (take i players) → after ≡ before ++ ready_one number player → after ≡ ready_from 0 (take (i + 1) players)
ready_more players i number player before after within at same was now =
    now
    ∙ ap (λ (l : List Who). l ++ ready_one number player) was
    ∙ ap (λ n. ready_from 0 (take i players) ++ ready_one n player) (same ∙ (let n : i ≡ 0 + length (take i players) = omega (arith, length-take i players) in n))
    ∙ sym (ready_one_more 0 (take i players) player)
    ∙ ap (λ (p : Player). ready_from 0 (take i players ++ p ∷ [])) at
    ∙ ap (ready_from 0) (sym (take_more players i player within))
