use Rattle.std.proofs.Common.{◌/◌, length, sym, ◌∙◌}
use Rattle.gate_bytes.proofs.FoldLemmas.{front_decides, end_decides}
use Rattle.gate_bytes.proofs.token.eq_fold_halves.Goals as goal

pub returns-then-eq_fold_whole : goal.returns-then-eq_fold_whole
returns-then-eq_fold_whole c =
    c.eq_fold_whole-then-eq_fold_whole.ensures
    ∙ front_decides (length c.args.a.now / 2) c.args.a.now c.args.b.now c.after.result.now c.after-2.result.now
    c.before-then-eq_fold_whole.result.now c.before-then-eq_fold_whole-2.result.now c.requires c.after.ensures c.after-2.ensures
    c.before-then-eq_fold_whole.ensures c.before-then-eq_fold_whole-2.ensures (sym c.eq_fold_whole.ensures ∙ c.if-eq_fold_whole.true)

pub returns-else-eq_fold_whole : goal.returns-else-eq_fold_whole
returns-else-eq_fold_whole c =
    c.if-eq_fold_whole.false
    ∙ end_decides (length c.args.a.now / 2) c.args.a.now c.args.b.now c.after.result.now c.after-2.result.now c.requires c.after.ensures c.after-2.ensures
    (sym c.eq_fold_whole.ensures ∙ c.if-eq_fold_whole.false)
