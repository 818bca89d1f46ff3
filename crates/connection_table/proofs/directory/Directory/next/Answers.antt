use Rattle.std.proofs.Common.{◌≡◌, ◌∙◌, ◌<◌, ◌≤◌, ℕ, List, length, None, is_some, true, get_or, sym, ap, subst, arith}
use Rattle.std.proofs.lemmas.List.{get_or_default}
use Rattle.connection_table.specs.RisingNumbers.{key_beside}
use Rattle.connection_table.proofs.DirectoryLemmas.{found_key, is_place, next_at, none_from}
use Rattle.connection_table.proofs.directory.Directory.next.Goals as goal

pub returns-in_default-clause-entered : goal.returns-in_default-clause-entered
returns-in_default-clause-entered c =
    ap is_some (found_key c.args.self.now.numbers.items c.args.self.now.keys.items c.deref.result.now c.args.from c.in_default.field-0 c.deref.ensures.value c.args.self.now.rising c.args.self.now.paired c.in_default.ensures.position).1

pub returns-then-place-len-clause-next : goal.returns-then-place-len-clause-next
returns-then-place-len-clause-next c =
    let numbers : List ℕ = c.args.self.now.numbers.items in
    let keys : List ℕ = c.args.self.now.keys.items in
    let is = is_place numbers c.deref.result.now c.args.from c.in-Err.place c.deref.ensures.value c.args.self.now.rising c.in-Err.ensures.position in
    let within : c.in-Err.place < length numbers = grind (arith, c.if-place-len.true, c.len.ensures, c.deref.ensures.len, ap length c.deref.ensures.value) in
    let at = next_at numbers keys c.args.from c.in-Err.place c.args.self.now.rising c.args.self.now.paired is within in
    let value : c.index.result.now ≡ get_or numbers c.in-Err.place 0 = c.index.ensures ∙ get_or_default numbers c.in-Err.place _ 0 within in
    subst (λ (conn : ℕ). (c.args.from ≤ conn) × ((i : ℕ) → c.args.from ≤ i → i < conn → key_beside numbers keys i ≡ None)) (sym value) (at.low, at.gap)

pub returns-then-place-len-clause-entered : goal.returns-then-place-len-clause-entered
returns-then-place-len-clause-entered c =
    let numbers : List ℕ = c.args.self.now.numbers.items in
    let keys : List ℕ = c.args.self.now.keys.items in
    let is = is_place numbers c.deref.result.now c.args.from c.in-Err.place c.deref.ensures.value c.args.self.now.rising c.in-Err.ensures.position in
    let within : c.in-Err.place < length numbers = grind (arith, c.if-place-len.true, c.len.ensures, c.deref.ensures.len, ap length c.deref.ensures.value) in
    let at = next_at numbers keys c.args.from c.in-Err.place c.args.self.now.rising c.args.self.now.paired is within in
    let value : c.index.result.now ≡ get_or numbers c.in-Err.place 0 = c.index.ensures ∙ get_or_default numbers c.in-Err.place _ 0 within in
    subst (λ (conn : ℕ). is_some (key_beside numbers keys conn) ≡ true) (sym value) at.there

pub returns-else-place-len-clause-next : goal.returns-else-place-len-clause-next
returns-else-place-len-clause-next c i low high =
    let numbers : List ℕ = c.args.self.now.numbers.items in
    let keys : List ℕ = c.args.self.now.keys.items in
    let is = is_place numbers c.deref.result.now c.args.from c.in-Err.place c.deref.ensures.value c.args.self.now.rising c.in-Err.ensures.position in
    let past : length numbers ≤ c.in-Err.place = grind (arith, c.if-place-len.false, c.len.ensures, c.deref.ensures.len, ap length c.deref.ensures.value) in
    none_from numbers keys c.args.from c.in-Err.place i is past low
