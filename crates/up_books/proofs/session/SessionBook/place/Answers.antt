-- The search by halving goes by the order of the ids, which rise.
use Rattle.std.proofs.Common.{rules}
use Rattle.std.specs.Str.{bytes_eq}
use Rattle.std.proofs.lemmas.Fn.{always_returns_same}
use Rattle.up_books.specs.Ids.{id_order}
use Rattle.up_books.proofs.IdLemmas.{ids_order}
use Rattle.up_books.proofs.KeyLemmas.{searched}
use Rattle.up_books.proofs.session.SessionBook.place.Goals as goal

pub returns : goal.returns
returns c =
    let facts = c.binary_search_by.ensures in
    let by_key = facts.position (λ entry. id_order entry.key c.args.id.now) (always_returns_same _ _ _ (λ a r g called. search rules)) in
    rw (← c.self.view_is, ← c.deref.ensures.value) (searched _ bytes_eq id_order ids_order c.deref.result.now c.args.id.now c.binary_search_by.result (rw c.deref.ensures.value c.self.invariant.0) facts.bound by_key)
