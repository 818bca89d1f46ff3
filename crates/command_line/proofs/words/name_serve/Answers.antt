use Rattle.std.proofs.Common.{◌∙◌, ap, is_some, string_bytes, rules}
use Rattle.command_line.specs.Kinds.{is_base_word, stations_in}
use Rattle.command_line.specs.Words.{serve_kinds}
use Rattle.command_line.proofs.CheckLemmas.{counted, serve_right, same_five}
use Rattle.command_line.proofs.words.name_serve.Goals as goal

pub unreachable-requires : goal.unreachable-requires
unreachable-requires c =
    let count = counted string_bytes serve_kinds c.args.words.now c.requires in
    search (rules, count)

pub serve_named-requires-clause-up : goal.serve_named-requires-clause-up
serve_named-requires-clause-up c =
    let right = serve_right string_bytes c.args.words.now c.front-item.result c.up-item.result c.listen-item.result c.stations-item.result c.recorder-item.result
    c.requires c.in-len5.len_at_least c.in-len5.len_below c.front-item.is c.up-item.is c.listen-item.is c.stations-item.is c.recorder-item.is in
    let same = same_five c.as_str.result.now c.as_str-2.result.now c.as_str-3.result.now c.as_str-4.result.now c.as_str-5.result.now
    c.in_ok-named.named.front.now c.in_ok-named.named.up.now c.in_ok-named.named.listen.now c.in_ok-named.named.stations.now c.in_ok-named.named.recorder.now c.in_ok-named.ensures in
    ap is_base_word (same.up_same ∙ c.as_str-2.ensures.value) ∙ right.up_right

pub serve_named-requires-clause-stations : goal.serve_named-requires-clause-stations
serve_named-requires-clause-stations c =
    let right = serve_right string_bytes c.args.words.now c.front-item.result c.up-item.result c.listen-item.result c.stations-item.result c.recorder-item.result
    c.requires c.in-len5.len_at_least c.in-len5.len_below c.front-item.is c.up-item.is c.listen-item.is c.stations-item.is c.recorder-item.is in
    let same = same_five c.as_str.result.now c.as_str-2.result.now c.as_str-3.result.now c.as_str-4.result.now c.as_str-5.result.now
    c.in_ok-named.named.front.now c.in_ok-named.named.up.now c.in_ok-named.named.listen.now c.in_ok-named.named.stations.now c.in_ok-named.named.recorder.now c.in_ok-named.ensures in
    ap (λ w. is_some (stations_in w)) (same.stations_same ∙ c.as_str-4.ensures.value) ∙ right.stations_right
