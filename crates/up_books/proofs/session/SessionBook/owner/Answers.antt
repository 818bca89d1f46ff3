-- The place of the id is the one that tells.
use Rattle.std.proofs.Common.{◌≡◌, ◌∙◌, ℕ, List, Some, sym, ap}
use Rattle.std.specs.Str.{bytes_eq}
use Rattle.std.specs.List.{position}
use Rattle.up_books.specs.declared.entry.BookEntry.{BookEntry}
use Rattle.up_books.specs.Ids.{Ids}
use Rattle.up_books.proofs.IdLemmas.{holder-none, holder-some}
use Rattle.up_books.proofs.session.SessionBook.owner.Goals as goal

pub returns-in_err-place : goal.returns-in_err-place
returns-in_err-place c = c.from_residual.ensures ∙ sym (holder-none c.args.id.now c.args.self.now.bound (sym c.place.ensures.found ∙ sym c.in_err-place.ensures.value))

pub returns : goal.returns
returns c =
    let bound : c.self.inside.bound.items ≡ c.args.self.now.bound = ap (λ (book : Ids). book.bound) c.self.view_is in
    let place : position (λ (entry : BookEntry (List ℕ)). bytes_eq entry.key c.args.id.now) c.args.self.now.bound ≡ Some c.in_ok-place.place = sym c.place.ensures.found ∙ sym c.in_ok-place.ensures.value in
    let found : position (λ (entry : BookEntry (List ℕ)). bytes_eq entry.key c.args.id.now) c.self.inside.bound.items ≡ Some c.in_ok-place.place = rw bound place in
    rw (← c.self.view_is) (ap (λ (entry : BookEntry (List ℕ)). Some entry.conn) c.index.ensures ∙ sym (holder-some c.args.id.now c.self.inside.bound.items c.in_ok-place.place c.index.result.now found))
