-- The entry of the id goes, and no other has it.
use Rattle.std.proofs.Common.{◌≡◌, ℕ, List, Some, sym, ap, refl, arith}
use Rattle.std.specs.Str.{bytes_eq}
use Rattle.std.specs.List.{position}
use Rattle.up_books.specs.declared.entry.BookEntry.{BookEntry}
use Rattle.up_books.specs.Ids.{Ids}
use Rattle.up_books.proofs.IdLemmas.{holder-none, holder-some, holder-free, ids-free, holder-absent}
use Rattle.up_books.proofs.session.SessionBook.free.Goals as goal

pub invariant_of-self : goal.invariant_of-self
invariant_of-self c =
    let bound : c.self.inside.bound.items ≡ c.args.self.now.bound = ap (λ (book : Ids). book.bound) c.self.view_is in
    let found : position (λ (entry : BookEntry (List ℕ)). bytes_eq entry.key c.args.id.now) c.self.inside.bound.items ≡ Some c.in-Ok.place = rw bound (sym c.in-Ok.ensures.found) in
    (rw c.remove.ensures.items (ids-free c.args.id.now c.in-Ok.place c.self.inside.bound.items c.remove.result c.self.invariant.0 found), omega arith)

pub returns-in-Ok-clause-spare : goal.returns-in-Ok-clause-spare
returns-in-Ok-clause-spare c =
    let spare : c.self.inside.spare ≡ c.args.self.now.spare = ap (λ (book : Ids). book.spare) c.self.view_is in
    rw (spare, holder-some c.args.id.now c.args.self.now.bound c.in-Ok.place c.remove.result (sym c.in-Ok.ensures.found)) refl

pub returns-in-Ok-clause-bound : goal.returns-in-Ok-clause-bound
returns-in-Ok-clause-bound c other =
    let bound : c.self.inside.bound.items ≡ c.args.self.now.bound = ap (λ (book : Ids). book.bound) c.self.view_is in
    let found : position (λ (entry : BookEntry (List ℕ)). bytes_eq entry.key c.args.id.now) c.self.inside.bound.items ≡ Some c.in-Ok.place = rw bound (sym c.in-Ok.ensures.found) in
    rw (c.remove.ensures.items, ← c.self.view_is) (holder-free c.args.id.now other c.in-Ok.place c.self.inside.bound.items c.remove.result c.self.invariant.0 found)

pub returns-in_default-clause-spare : goal.returns-in_default-clause-spare
returns-in_default-clause-spare c = rw (holder-none c.args.id.now c.args.self.now.bound (sym c.in_default.ensures.found)) refl

pub returns-in_default-clause-bound : goal.returns-in_default-clause-bound
returns-in_default-clause-bound c other = holder-absent c.args.id.now other c.args.self.now.bound (holder-none c.args.id.now c.args.self.now.bound (sym c.in_default.ensures.found))
