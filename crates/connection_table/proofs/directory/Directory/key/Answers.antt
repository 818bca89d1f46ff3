use Rattle.std.proofs.Common.{◌∙◌, ◌<◌, length, Some, sym, ap, arith}
use Rattle.std.proofs.lemmas.List.{get_or_default}
use Rattle.connection_table.proofs.DirectoryLemmas.{found_key, missing_key}
use Rattle.connection_table.proofs.directory.Directory.key.Goals as goal

pub returns-in-Ok : goal.returns-in-Ok
returns-in-Ok c =
    let all = found_key c.args.self.now.numbers.items c.args.self.now.keys.items c.deref.result.now c.args.conn c.in-Ok.place c.deref.ensures.value c.args.self.now.rising c.args.self.now.paired c.in-Ok.ensures.position in
    let within : c.in-Ok.place < length c.args.self.now.keys.items = omega (arith, all.0, c.args.self.now.paired) in
    ap (λ key. Some key) (c.index.ensures ∙ get_or_default c.args.self.now.keys.items c.in-Ok.place _ 0 within) ∙ sym all.1

pub returns-in-Err : goal.returns-in-Err
returns-in-Err c = sym (missing_key c.args.self.now.numbers.items c.args.self.now.keys.items c.deref.result.now c.args.conn c.in-Err.field-0 c.deref.ensures.value c.args.self.now.rising c.in-Err.ensures.position)
