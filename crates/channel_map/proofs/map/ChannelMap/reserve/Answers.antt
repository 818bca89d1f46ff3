-- The lowest free pair lies within the table; where there is none, all are held.
use Rattle.std.proofs.Common.{◌≡◌, ◌∙◌, Some, None, sym, refl, true, false}
use Rattle.channel_map.specs.Pairs.{held_at, is_free, lowest_free}
use Rattle.channel_map.proofs.PairLemmas.{lowest_free_below, none_when_full, full_when_none}
use Rattle.channel_map.proofs.map.ChannelMap.reserve.Goals as goal

pub hold-requires : goal.hold-requires
hold-requires c = lowest_free_below _ c.in_ok-pair.pair (sym (c.in_ok-pair.ensures _ c.self.invariant.1))

pub returns-in_err-pair-clause-lowest : goal.returns-in_err-pair-clause-lowest
returns-in_err-pair-clause-lowest c = rw (← c.self.view_is) (c.from_residual.ensures ∙ c.in_err-pair.ensures _ c.self.invariant.1)

pub returns-in_err-pair-clause-full : goal.returns-in_err-pair-clause-full
returns-in_err-pair-clause-full c =
    let none : lowest_free (λ p. is_free (held_at p c.self.inside.table)) ≡ None = sym (c.in_err-pair.ensures _ c.self.invariant.1) in
    rw (← c.self.view_is) (λ _. none_when_full c.self.inside.table c.self.invariant.0.size none, λ _. rw c.from_residual.ensures refl)

pub returns-clause-lowest : goal.returns-clause-lowest
returns-clause-lowest c = rw (← c.self.view_is) (c.in_ok-pair.ensures _ c.self.invariant.1)

pub returns-clause-full : goal.returns-clause-full
returns-clause-full c =
    let some : lowest_free (λ p. is_free (held_at p c.self.inside.table)) ≡ Some c.in_ok-pair.pair = sym (c.in_ok-pair.ensures _ c.self.invariant.1) in
    rw (← c.self.view_is) (λ e. let contradiction : true ≡ false = e in cc, λ full. full_when_none c.self.inside.table c.in_ok-pair.pair c.self.invariant.0.size some full)
