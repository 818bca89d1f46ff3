-- The numbers rise, so that a comparison tells of all on one side.
use Rattle.std.proofs.Common.{◌≡◌, ◌∙◌, ◌==◌, ℕ, ◌+◌, ◌-◌, ◌/◌, ◌<◌, length, get_or, is_some, sym, ap, subst, arith}
use Rattle.std.specs.declared.cmp.Ordering.TheVariants.{Less, Equal, Greater}
use Rattle.std.specs.Ordering.{nat_cmp}
use Rattle.up_books.specs.declared.entry.BookEntry.{BookEntry}
use Rattle.up_books.specs.Entries.{HasRisingKeys, IsGapFor}
use Rattle.up_books.specs.Numbers.{IssuedNumbers}
use Rattle.up_books.proofs.KeyLemmas.{lower-below, higher-above, position-found, position-gap}
use Rattle.up_books.proofs.NumberLemmas.{numbers_order, asker-none, asker-some, halve-step}
use Rattle.up_books.proofs.cseq.CseqBook.find.Goals as goal

pub loop-low-preserved-in-Less : goal.loop-low-preserved-in-Less
loop-low-preserved-in-Less g c =
    let low = c.loop-low.low in
    let high = c.loop-low.high in
    let middle = low + (high - low) / 2 in
    let loans = c.args.self.now.loans in
    let view : c.self.inside.loans.items ≡ loans = ap (λ (book : IssuedNumbers). book.loans) c.self.view_is in
    let rising : HasRisingKeys nat_cmp loans = subst (HasRisingKeys nat_cmp) view c.self.invariant.0.rising in
    let within : middle < length loans = omega (arith, c.loop-low.invariant.most, c.loop-low-test.true) in
    let here : (d : BookEntry ℕ) → nat_cmp (get_or loans middle d).key c.args.number ≡ Less = λ d. rw (c.look.ensures.number d) (sym c.cmp.ensures ∙ c.in-Less.is) in
    let cost = halve-step c.args.steps.now c.loop-low.steps (high - low) (high - (middle + 1)) (length loans) c.loop-low.invariant.counted (omega arith) (omega arith) c.loop-low.invariant.halved in
    record {
      within = omega arith;
      most = c.loop-low.invariant.most;
      below = lower-below ℕ (λ a b. a == b) nat_cmp numbers_order loans c.args.number middle rising within here;
      above = c.loop-low.invariant.above;
      counted = omega (arith, c.look.ensures.steps, c.loop-low.invariant.counted);
      halved = rw c.look.ensures.steps cost.0;
      cost = rw c.look.ensures.steps cost.1;
    }

pub loop-low-preserved : goal.loop-low-preserved
loop-low-preserved g c =
    let low = c.loop-low.low in
    let high = c.loop-low.high in
    let middle = low + (high - low) / 2 in
    let loans = c.args.self.now.loans in
    let view : c.self.inside.loans.items ≡ loans = ap (λ (book : IssuedNumbers). book.loans) c.self.view_is in
    let rising : HasRisingKeys nat_cmp loans = subst (HasRisingKeys nat_cmp) view c.self.invariant.0.rising in
    let within : middle < length loans = omega (arith, c.loop-low.invariant.most, c.loop-low-test.true) in
    let here : (d : BookEntry ℕ) → nat_cmp (get_or loans middle d).key c.args.number ≡ Greater = λ d. rw (c.look.ensures.number d) (sym c.cmp.ensures ∙ c.in-Greater.is) in
    let cost = halve-step c.args.steps.now c.loop-low.steps (high - low) (middle - low) (length loans) c.loop-low.invariant.counted (omega arith) (omega arith) c.loop-low.invariant.halved in
    record {
      within = omega arith;
      most = omega (arith, within);
      below = c.loop-low.invariant.below;
      above = higher-above ℕ (λ a b. a == b) nat_cmp numbers_order loans c.args.number middle rising within here;
      counted = omega (arith, c.look.ensures.steps, c.loop-low.invariant.counted);
      halved = rw c.look.ensures.steps cost.0;
      cost = rw c.look.ensures.steps cost.1;
    }

pub returns-in-Equal-clause-place : goal.returns-in-Equal-clause-place
returns-in-Equal-clause-place g c =
    let low = c.loop-low.low in
    let high = c.loop-low.high in
    let middle = low + (high - low) / 2 in
    let loans = c.args.self.now.loans in
    let view : c.self.inside.loans.items ≡ loans = ap (λ (book : IssuedNumbers). book.loans) c.self.view_is in
    let rising : HasRisingKeys nat_cmp loans = subst (HasRisingKeys nat_cmp) view c.self.invariant.0.rising in
    let within : middle < length loans = omega (arith, c.loop-low.invariant.most, c.loop-low-test.true) in
    let here : (d : BookEntry ℕ) → nat_cmp (get_or loans middle d).key c.args.number ≡ Equal = λ d. rw (c.look.ensures.number d) (sym c.cmp.ensures ∙ c.in-Equal.is) in
    sym (position-found ℕ (λ a b. a == b) nat_cmp numbers_order loans c.args.number middle rising within here)

pub returns-in-Equal-clause-open : goal.returns-in-Equal-clause-open
returns-in-Equal-clause-open g c =
    let low = c.loop-low.low in
    let high = c.loop-low.high in
    let middle = low + (high - low) / 2 in
    let loans = c.args.self.now.loans in
    let view : c.self.inside.loans.items ≡ loans = ap (λ (book : IssuedNumbers). book.loans) c.self.view_is in
    let rising : HasRisingKeys nat_cmp loans = subst (HasRisingKeys nat_cmp) view c.self.invariant.0.rising in
    let within : middle < length loans = omega (arith, c.loop-low.invariant.most, c.loop-low-test.true) in
    let here : (d : BookEntry ℕ) → nat_cmp (get_or loans middle d).key c.args.number ≡ Equal = λ d. rw (c.look.ensures.number d) (sym c.cmp.ensures ∙ c.in-Equal.is) in
    sym (ap is_some (asker-some c.args.number loans middle (record { key = 0; conn = 0 }) (position-found ℕ (λ a b. a == b) nat_cmp numbers_order loans c.args.number middle rising within here)))

pub returns-in-Equal-clause-cost : goal.returns-in-Equal-clause-cost
returns-in-Equal-clause-cost g c =
    let cost = halve-step c.args.steps.now c.loop-low.steps (c.loop-low.high - c.loop-low.low) 0 (length c.args.self.now.loans) c.loop-low.invariant.counted (omega arith) (omega arith) c.loop-low.invariant.halved in
    rw c.look.ensures.steps cost.1

pub returns-clause-place : goal.returns-clause-place
returns-clause-place g c =
    let gap : IsGapFor nat_cmp c.args.number c.loop-low.low c.args.self.now.loans = record {
      within = omega (arith, c.loop-low.invariant.within, c.loop-low.invariant.most);
      below = c.loop-low.invariant.below;
      above = λ k d from bound. c.loop-low.invariant.above k d (omega (arith, c.loop-low-test.false)) bound;
    } in
    sym (position-gap ℕ (λ a b. a == b) nat_cmp numbers_order c.args.self.now.loans c.args.number c.loop-low.low gap)

pub returns-clause-open : goal.returns-clause-open
returns-clause-open g c =
    let gap : IsGapFor nat_cmp c.args.number c.loop-low.low c.args.self.now.loans = record {
      within = omega (arith, c.loop-low.invariant.within, c.loop-low.invariant.most);
      below = c.loop-low.invariant.below;
      above = λ k d from bound. c.loop-low.invariant.above k d (omega (arith, c.loop-low-test.false)) bound;
    } in
    sym (ap is_some (asker-none c.args.number c.args.self.now.loans (position-gap ℕ (λ a b. a == b) nat_cmp numbers_order c.args.self.now.loans c.args.number c.loop-low.low gap)))
