-- The loan of the number goes, and no other has it.
use Rattle.std.proofs.Common.{◌≡◌, ◌∙◌, ◌==◌, ℕ, Some, sym, ap, arith}
use Rattle.std.specs.List.{position}
use Rattle.up_books.specs.declared.entry.BookEntry.{BookEntry}
use Rattle.up_books.specs.Numbers.{IssuedNumbers}
use Rattle.up_books.proofs.NumberLemmas.{asker-none, asker-some, asker-settle, numbers-settle, asker-absent}
use Rattle.up_books.proofs.cseq.CseqBook.settle.Goals as goal

pub returns-in_err-place-clause-asker : goal.returns-in_err-place-clause-asker
returns-in_err-place-clause-asker c = c.from_residual.ensures ∙ sym (asker-none c.args.number c.args.self.now.loans (sym c.in_err-place.ensures))

pub returns-in_err-place-clause-open : goal.returns-in_err-place-clause-open
returns-in_err-place-clause-open c n = asker-absent c.args.number n c.args.self.now.loans (asker-none c.args.number c.args.self.now.loans (sym c.in_err-place.ensures))

pub invariant_of-self : goal.invariant_of-self
invariant_of-self c =
    let loans : c.self.inside.loans.items ≡ c.args.self.now.loans = ap (λ (book : IssuedNumbers). book.loans) c.self.view_is in
    let found : position (λ (loan : BookEntry ℕ). loan.key == c.args.number) c.self.inside.loans.items ≡ Some c.in_ok-place.place = rw loans (sym c.in_ok-place.ensures) in
    (rw c.remove-loan.ensures.items (numbers-settle c.args.number c.in_ok-place.place c.self.inside.issued c.self.inside.loans.items c.remove-loan.result c.self.invariant.0 found), omega arith)

pub returns-clause-asker : goal.returns-clause-asker
returns-clause-asker c =
    let loans : c.self.inside.loans.items ≡ c.args.self.now.loans = ap (λ (book : IssuedNumbers). book.loans) c.self.view_is in
    let found : position (λ (loan : BookEntry ℕ). loan.key == c.args.number) c.self.inside.loans.items ≡ Some c.in_ok-place.place = rw loans (sym c.in_ok-place.ensures) in
    rw (← c.self.view_is) (ap (λ (loan : BookEntry ℕ). Some loan.conn) c.remove-loan.ensures.value ∙ sym (asker-some c.args.number c.self.inside.loans.items c.in_ok-place.place c.remove-loan.result found))

pub returns-clause-open : goal.returns-clause-open
returns-clause-open c n =
    let loans : c.self.inside.loans.items ≡ c.args.self.now.loans = ap (λ (book : IssuedNumbers). book.loans) c.self.view_is in
    let found : position (λ (loan : BookEntry ℕ). loan.key == c.args.number) c.self.inside.loans.items ≡ Some c.in_ok-place.place = rw loans (sym c.in_ok-place.ensures) in
    rw (c.remove-loan.ensures.items, ← c.self.view_is) (asker-settle c.args.number n c.in_ok-place.place c.self.inside.issued c.self.inside.loans.items c.remove-loan.result c.self.invariant.0 found)
