use Rattle.std.proofs.Common.{sym, subst, ◌≤◌, ◌<◌, ℕ, List, length, slice_index_or, arith}
use Rattle.gateway_mux.proofs.ItemLemmas.{IsFrameText, frame_of_item, frame_short}
use Rattle.gateway_mux.proofs.frames.channel_of.Goals as goal

pub bounds-bytes-1 : goal.bounds-bytes-1
bounds-bytes-1 c =
    let text : IsFrameText c.args.item.now.bytes = frame_of_item c.args.item.now.bytes c.args.item.now.kind c.args.item.now.head c.requires c.args.item.now.whole in
    let long : 4 ≤ length c.args.item.now.bytes = text.long in
    subst (λ (bytes : List ℕ). 1 < length bytes) (sym c.as_bytes-bytes.ensures) (omega arith)

pub returns-clause-short : goal.returns-clause-short
returns-clause-short c =
    frame_short c.args.item.now.bytes (frame_of_item c.args.item.now.bytes c.args.item.now.kind c.args.item.now.head c.requires c.args.item.now.whole)
    (subst (λ (bytes : List ℕ). (i : ℕ) → slice_index_or bytes i 0 < 256) c.as_bytes-bytes.ensures (λ i. omega (arith, c.as_bytes-bytes.items_fit i)))
