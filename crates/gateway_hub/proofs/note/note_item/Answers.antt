use Rattle.std.proofs.Common.{◌<◌, ◌≤◌, ℕ, List, length, slice_index_or, rules, subst, sym}
use Rattle.gateway_hub.proofs.ItemLemmas.{item_fits}
use Rattle.gateway_hub.proofs.note.note_item.Goals as goal

pub note-requires : goal.note-requires
note-requires g c =
    subst (λ (bytes : List ℕ). length bytes ≤ 131072) (sym c.as_bytes-bytes.ensures)
    (item_fits c.args.item.now.bytes c.args.item.now.kind c.args.item.now.head
    (subst (λ (bytes : List ℕ). (i : ℕ) → slice_index_or bytes i 0 < 256) c.as_bytes-bytes.ensures (λ i. search rules)) c.args.item.now.whole)
