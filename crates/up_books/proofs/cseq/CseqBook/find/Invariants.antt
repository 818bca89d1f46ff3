-- Below the part that is left the numbers are lower, and from its end on they are higher; with each step it is halved at least.
use Rattle.std.proofs.Common.{◌≡◌, ℕ, ◌+◌, ◌-◌, ◌*◌, ◌^◌, ◌<◌, ◌≤◌, length, get_or}
use Rattle.std.specs.declared.cmp.Ordering.TheVariants.{Less, Greater}
use Rattle.std.specs.Ordering.{nat_cmp}
use Rattle.up_books.specs.declared.entry.BookEntry.{BookEntry}
use Rattle.up_books.proofs.cseq.CseqBook.find.Given as goal

abbrev pub invariant-loop-low : goal.invariant-loop-low
invariant-loop-low g l = record {
  within : l.low ≤ l.high;
  most : l.high ≤ length l.self.loans;
  below : (k : ℕ) (d : BookEntry ℕ) → k < l.low → nat_cmp (get_or l.self.loans k d).key l.number ≡ Less;
  above : (k : ℕ) (d : BookEntry ℕ) → l.high ≤ k → k < length l.self.loans → nat_cmp (get_or l.self.loans k d).key l.number ≡ Greater;
  counted : l.initial.steps ≤ l.steps;
  halved : 2 ^ (l.steps - l.initial.steps) * (l.high - l.low) ≤ length l.self.loans;
  cost : 2 ^ (l.steps - l.initial.steps) ≤ 2 * length l.self.loans + 1;
}

abbrev pub decreases-loop-low : goal.decreases-loop-low
decreases-loop-low g l = l.high - l.low
