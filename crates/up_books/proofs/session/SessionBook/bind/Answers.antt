-- The id is bound where it would stand, or is there.
use Rattle.std.proofs.Common.{◌≡◌, ◌∙◌, ℕ, List, Some, None, refl, sym, ap, arith}
use Rattle.std.specs.Str.{bytes_eq}
use Rattle.std.specs.List.{position}
use Rattle.up_books.specs.declared.entry.BookEntry.{BookEntry}
use Rattle.up_books.specs.Entries.{IsGapFor}
use Rattle.up_books.specs.Ids.{Ids, id_order, holder_in, holder_of}
use Rattle.up_books.proofs.IdLemmas.{holder-none, holder-some, holder-bind, ids-bind}
use Rattle.up_books.proofs.session.SessionBook.bind.Goals as goal

pub returns-in-Ok-clause-taken : goal.returns-in-Ok-clause-taken
returns-in-Ok-clause-taken c =
    let bound : c.self.inside.bound.items ≡ c.args.self.now.bound = ap (λ (book : Ids). book.bound) c.self.view_is in
    let place : position (λ (entry : BookEntry (List ℕ)). bytes_eq entry.key c.args.id) c.args.self.now.bound ≡ Some c.in-Ok.place = rw (← c.as_bytes.ensures) (sym c.in-Ok.ensures.found) in
    let found : position (λ (entry : BookEntry (List ℕ)). bytes_eq entry.key c.args.id) c.self.inside.bound.items ≡ Some c.in-Ok.place = rw bound place in
    let owner : holder_of c.args.self.now c.args.id ≡ Some c.index.result.now.conn =
    ap (λ (book : Ids). holder_of book c.args.id) (sym c.self.view_is)
    ∙ holder-some c.args.id c.self.inside.bound.items c.in-Ok.place c.index.result.now found
    ∙ sym (ap (λ (entry : BookEntry (List ℕ)). Some entry.conn) c.index.ensures) in
    rw owner refl

pub invariant_of-self : goal.invariant_of-self
invariant_of-self c =
    let bound : c.self.inside.bound.items ≡ c.args.self.now.bound = ap (λ (book : Ids). book.bound) c.self.view_is in
    let gap : IsGapFor id_order c.args.id c.in-Err.place c.self.inside.bound.items = rw (bound, ← c.as_bytes.ensures) c.in-Err.ensures.gap in
    (rw c.in-Ok-insert.ensures.items (ids-bind c.args.id c.args.conn c.in-Err.place c.self.inside.bound.items gap c.self.invariant.0), omega (arith, c.in-Ok-insert.ensures.len, c.in-Ok-insert.ensures.capacity))

pub returns-in-Ok-insert-clause-taken : goal.returns-in-Ok-insert-clause-taken
returns-in-Ok-insert-clause-taken c =
    let none : position (λ (entry : BookEntry (List ℕ)). bytes_eq entry.key c.args.id) c.args.self.now.bound ≡ None = rw (← c.as_bytes.ensures) (sym c.in-Err.ensures.found) in
    rw (holder-none c.args.id c.args.self.now.bound none)

pub returns-in-Ok-insert-clause-bound : goal.returns-in-Ok-insert-clause-bound
returns-in-Ok-insert-clause-bound c other =
    let bound : c.self.inside.bound.items ≡ c.args.self.now.bound = ap (λ (book : Ids). book.bound) c.self.view_is in
    let gap : IsGapFor id_order c.args.id c.in-Err.place c.self.inside.bound.items = rw (bound, ← c.as_bytes.ensures) c.in-Err.ensures.gap in
    let none : position (λ (entry : BookEntry (List ℕ)). bytes_eq entry.key c.args.id) c.args.self.now.bound ≡ None = rw (← c.as_bytes.ensures) (sym c.in-Err.ensures.found) in
    let fresh : holder_in c.args.id c.self.inside.bound.items ≡ None = ap (λ (book : Ids). holder_of book c.args.id) c.self.view_is ∙ holder-none c.args.id c.args.self.now.bound none in
    rw (c.in-Ok-insert.ensures.items, ← c.self.view_is) (holder-bind c.args.id c.args.conn other c.in-Err.place c.self.inside.bound.items gap fresh)
