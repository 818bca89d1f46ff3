use Rattle.std.proofs.Common.{◌≡◌, ◌∙◌, ℕ, Option, None, Some, is_some, sym, ap}
use Rattle.slab.specs.Slab.{get as slab_get}
use Rattle.connection_table.specs.Directories.{key_of}
use Rattle.connection_table.proofs.SeatLemmas.{not_among, kept_more}
use Rattle.connection_table.proofs.table.ConnectionTable.prepare.Goals as goal

pub invariant_of-self-2 : goal.invariant_of-self-2
invariant_of-self-2 c =
    let keys : ℕ → Option ℕ = key_of c.args.self.now.directory in
    let was : (i : ℕ) → key_of c.reserve.new.self i ≡ keys i = c.reserve.ensures.keys in
    let none : slab_get c.args.self.now.slots c.in_ok-key.key ≡ None = c.in_ok-key.ensures.was_vacant in
    let kept = kept_more keys (slab_get c.args.self.now.slots) (slab_get c.insert.new.self) c.in_ok-key.key c.args.self.now.held none c.in_ok-key.ensures.updates.others in
    let alone = not_among keys (slab_get c.args.self.now.slots) c.in_ok-key.key c.args.self.now.held none in
    record {
      held = λ i k is. ap is_some (kept i k (sym (was i) ∙ is)) ∙ c.args.self.now.held i k (sym (was i) ∙ is);
      apart = λ i j k one other. c.args.self.now.apart i j k (sym (was i) ∙ one) (sym (was j) ∙ other);
      place = λ some. c.in_ok-reserve.ensures.place;
      fresh = λ k is. ap (slab_get c.insert.new.self) (sym (some_same c.in_ok-key.key k is)) ∙ c.in_ok-key.ensures.updates.changed ∙ ap (λ slot. Some slot) c.in_ok-new.ensures;
      alone = λ i k is there. alone i (sym (was i) ∙ there ∙ sym is);
    }
  where
    some_same : (a b : ℕ) → Some a ≡ Some b → a ≡ b
    some_same a b e = cc
