use Rattle.std.proofs.Common.{◌∙◌, ◌≤◌, length, arith}
use Rattle.gateway_mux.proofs.ItemLemmas.{IsFrameText, frame_of_item, on_channel, set_length}
use Rattle.gateway_mux.proofs.frames.on_channel.Goals as goal

pub set-requires : goal.set-requires
set-requires c =
    let text : IsFrameText c.args.item.bytes = frame_of_item c.args.item.bytes c.args.item.kind c.args.item.head c.requires.kind c.args.item.whole in
    let long : 4 ≤ length c.args.item.bytes = text.long in grind arith

pub returns-clause-text : goal.returns-clause-text
returns-clause-text c =
    c.set.ensures ∙ on_channel c.args.item.bytes c.args.channel (frame_of_item c.args.item.bytes c.args.item.kind c.args.item.head c.requires.kind c.args.item.whole)

pub returns-clause-short : goal.returns-clause-short
returns-clause-short c = set_length c.args.item.bytes c.set.new.self c.args.channel c.set.ensures c.requires.short
