-- A player that hears items one by one.
use Rattle.std.proofs.Common.{◌≡◌, ℕ, ◌+◌, ◌<◌, List, [], ◌∷◌, ◌++◌, length, take, get_or, refl, sym, ap, ◌∙◌}
use Rattle.std.proofs.lemmas.List.{take_more, map-append}
use Rattle.rtsp_head.specs.Items.{Shape}
use Rattle.rtsp_head.specs.Shapes.{shape_of, shapes}
use Rattle.rtsp_head.specs.declared.item.Item.{Item}
use Rattle.drill_run.specs.declared.player.Player.{Player}
use Rattle.drill_run.specs.Players.{is_response_kind, heard_kind, heard_player}

pub heard_one_more : (player : Player) (before : List Shape) (shape : Shape) →
    heard_player player (before ++ shape ∷ []) ≡ heard_kind (is_response_kind shape.kind) (heard_player player before) shape
heard_one_more player [] shape = refl
heard_one_more player (first ∷ before) shape = heard_one_more (heard_kind (is_response_kind first.kind) player first) before shape

-- one item more of these
pub shapes_more : (items : List Item) (i : ℕ) (item : Item) → i < length items → item ≡ get_or items i item →
    shapes (take (i + 1) items) ≡ shapes (take i items) ++ shape_of item ∷ []
shapes_more items i item within at =
    ap shapes (take_more items i item within)
    ∙ map-append shape_of (take i items) (get_or items i item ∷ [])
    ∙ ap (λ (one : Item). shapes (take i items) ++ shape_of one ∷ []) (sym at)

pub heard_more : (old before after : Player) (items : List Item) (i : ℕ) (item : Item) → i < length items → item ≡ get_or items i item →
    before ≡ heard_player old (shapes (take i items)) → after ≡ heard_kind (is_response_kind item.kind) before (shape_of item) →
    after ≡ heard_player old (shapes (take (i + 1) items))
heard_more old before after items i item within at was now =
    now
    ∙ ap (λ (player : Player). heard_kind (is_response_kind item.kind) player (shape_of item)) was
    ∙ sym (heard_one_more old (shapes (take i items)) (shape_of item))
    ∙ ap (heard_player old) (sym (shapes_more items i item within at))
