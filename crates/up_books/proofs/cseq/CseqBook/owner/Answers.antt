-- The first loan of the number is the one that tells.
use Rattle.std.proofs.Common.{◌≡◌, ◌∙◌, ◌==◌, ℕ, Some, sym, ap}
use Rattle.std.specs.List.{position}
use Rattle.up_books.specs.declared.entry.BookEntry.{BookEntry}
use Rattle.up_books.specs.Numbers.{IssuedNumbers}
use Rattle.up_books.proofs.NumberLemmas.{asker-none, asker-some}
use Rattle.up_books.proofs.cseq.CseqBook.owner.Goals as goal

pub returns-in_err-place : goal.returns-in_err-place
returns-in_err-place c = c.from_residual.ensures ∙ sym (asker-none c.args.number c.args.self.now.loans (sym c.in_err-place.ensures))

pub returns : goal.returns
returns c =
    let loans : c.self.inside.loans.items ≡ c.args.self.now.loans = ap (λ (book : IssuedNumbers). book.loans) c.self.view_is in
    let found : position (λ (loan : BookEntry ℕ). loan.key == c.args.number) c.self.inside.loans.items ≡ Some c.in_ok-place.place = rw loans (sym c.in_ok-place.ensures) in
    rw (← c.self.view_is) (ap (λ (loan : BookEntry ℕ). Some loan.conn) c.index.ensures ∙ sym (asker-some c.args.number c.self.inside.loans.items c.in_ok-place.place c.index.result.now found))
