use Rattle.std.proofs.Common.{◌∙◌, ℕ, List, length, sym, ap, subst}
use Rattle.std.specs.List.{remove}
use Rattle.connection_table.specs.RisingNumbers.{IsRising, key_beside}
use Rattle.connection_table.specs.Directories.{key_of}
use Rattle.connection_table.proofs.DirectoryLemmas.{taken_out, missing_key, stays_out}
use Rattle.connection_table.proofs.directory.Directory.remove.Goals as goal

pub invariant_of-self : goal.invariant_of-self
invariant_of-self c =
    let out = taken_out c.args.self.now.numbers.items c.args.self.now.keys.items c.deref.result.now c.args.conn c.in-Ok.place c.deref.ensures.value c.args.self.now.rising c.args.self.now.paired c.in-Ok.ensures.position in
    record {
      rising = subst IsRising (sym c.remove.ensures.items) out.rising;
      paired = ap length c.remove-in-Ok.ensures.items ∙ out.paired ∙ sym (ap length c.remove.ensures.items);
    }

pub returns-in-Ok-clause-keys : goal.returns-in-Ok-clause-keys
returns-in-Ok-clause-keys c i =
    let out = taken_out c.args.self.now.numbers.items c.args.self.now.keys.items c.deref.result.now c.args.conn c.in-Ok.place c.deref.ensures.value c.args.self.now.rising c.args.self.now.paired c.in-Ok.ensures.position in
    ap (λ (one : List ℕ). key_beside one c.remove-in-Ok.new.self.items i) c.remove.ensures.items
    ∙ ap (λ (one : List ℕ). key_beside (remove c.args.self.now.numbers.items c.in-Ok.place) one i) c.remove-in-Ok.ensures.items
    ∙ out.keys_left i

pub returns-in_default-clause-keys : goal.returns-in_default-clause-keys
returns-in_default-clause-keys c i =
    stays_out (key_of c.args.self.now) c.args.conn i
    (missing_key c.args.self.now.numbers.items c.args.self.now.keys.items c.deref.result.now c.args.conn c.in_default.field-0 c.deref.ensures.value c.args.self.now.rising c.in_default.ensures.position)
