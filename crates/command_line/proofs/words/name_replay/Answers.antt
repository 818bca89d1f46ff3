use Rattle.std.proofs.Common.{◌∙◌, ap, string_bytes, rules}
use Rattle.command_line.specs.declared.kinds.Kind.TheVariants.{Base}
use Rattle.command_line.specs.Kinds.{is_base_word}
use Rattle.command_line.specs.Words.{replay_word, replay_kinds}
use Rattle.command_line.proofs.CheckLemmas.{counted, two_right, same_two}
use Rattle.command_line.proofs.words.name_replay.Goals as goal

pub unreachable-requires : goal.unreachable-requires
unreachable-requires c =
    let count = counted string_bytes replay_kinds c.args.words.now c.requires in
    search (rules, count)

pub bases_named-requires-clause-front : goal.bases_named-requires-clause-front
bases_named-requires-clause-front c =
    let right = two_right string_bytes Base Base c.args.words.now c.front-item.result c.up-item.result c.requires c.in-len2.len_at_least c.in-len2.len_below c.front-item.is c.up-item.is in
    let same = same_two replay_word c.as_str.result.now c.as_str-2.result.now c.in_ok-named.named.one.now c.in_ok-named.named.other.now c.in_ok-named.ensures in
    ap is_base_word (same.0 ∙ c.as_str.ensures.value) ∙ right.one

pub bases_named-requires-clause-up : goal.bases_named-requires-clause-up
bases_named-requires-clause-up c =
    let right = two_right string_bytes Base Base c.args.words.now c.front-item.result c.up-item.result c.requires c.in-len2.len_at_least c.in-len2.len_below c.front-item.is c.up-item.is in
    let same = same_two replay_word c.as_str.result.now c.as_str-2.result.now c.in_ok-named.named.one.now c.in_ok-named.named.other.now c.in_ok-named.ensures in
    ap is_base_word (same.1 ∙ c.as_str-2.ensures.value) ∙ right.other
