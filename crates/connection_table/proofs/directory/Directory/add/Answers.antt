use Rattle.std.specs.Result.{is_ok}
use Rattle.std.proofs.Common.{Bool, true, if◌then◌else◌, ◌≡◌, ◌∙◌, ◌+◌, ℕ, List, length, sym, ap, subst, arith}
use Rattle.std.specs.List.{insert}
use Rattle.std.proofs.lemmas.List.Edits.{length-insert}
use Rattle.connection_table.specs.RisingNumbers.{IsRising, key_beside}
use Rattle.connection_table.proofs.OrderLemmas.{added_beside, added_rises}
use Rattle.connection_table.proofs.DirectoryLemmas.{found_key, is_place}
use Rattle.connection_table.proofs.directory.Directory.add.Goals as goal

pub unreachable-requires : goal.unreachable-requires
unreachable-requires c =
    let all = found_key c.args.self.now.numbers.items c.args.self.now.keys.items c.deref.result.now c.args.conn c.in_default.field-0 c.deref.ensures.value c.args.self.now.rising c.args.self.now.paired c.in_default.ensures.position in
    let none = sym all.1 ∙ c.requires.new in
    cc

pub invariant_of-self : goal.invariant_of-self
invariant_of-self c =
    let numbers : List ℕ = c.args.self.now.numbers.items in
    let keys : List ℕ = c.args.self.now.keys.items in
    let is = is_place numbers c.deref.result.now c.args.conn c.in-Err.place c.deref.ensures.value c.args.self.now.rising c.in-Err.ensures.position in
    let paired = c.args.self.now.paired in
    let within = is.within in
    let longer = length-insert numbers c.in-Err.place c.args.conn within in
    let longer_keys = length-insert keys c.in-Err.place c.args.key (omega (arith, within, paired)) in
    let ok : is_ok c.insert-2.result ≡ true = c.insert-2.ensures.succeeds c.requires.place.keys in
    let items : c.insert-2.new.self.items ≡ insert keys c.in-Err.place c.args.key = c.insert-2.ensures.items ∙ ap (λ (b : Bool). if b then insert keys c.in-Err.place c.args.key else keys) ok in
    record {
      rising = subst IsRising (sym c.in-Ok.ensures.items) (added_rises numbers c.args.conn c.in-Err.place c.args.self.now.rising within is.low is.high);
      paired = ap length items ∙ longer_keys ∙ ap (λ n. n + 1) paired ∙ sym (ap length c.in-Ok.ensures.items ∙ longer);
    }

pub returns : goal.returns
returns c i =
    let numbers : List ℕ = c.args.self.now.numbers.items in
    let keys : List ℕ = c.args.self.now.keys.items in
    let is = is_place numbers c.deref.result.now c.args.conn c.in-Err.place c.deref.ensures.value c.args.self.now.rising c.in-Err.ensures.position in
    ap (λ (one : List ℕ). key_beside one c.insert-2.new.self.items i) c.in-Ok.ensures.items
    ∙ ap (λ (one : List ℕ). key_beside (insert numbers c.in-Err.place c.args.conn) one i) c.in-Ok-insert.ensures.items
    ∙ added_beside numbers keys c.args.conn c.args.key c.in-Err.place i c.args.self.now.paired is.within c.requires.new
