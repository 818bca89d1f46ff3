-- What was read from a player's link.
use Rattle.std.proofs.Common.{◌≡◌, ℕ, List, Option, Some, length, sym, ap, ◌∙◌, subst}
use Rattle.std.proofs.lemmas.List.{length-map}
use Rattle.rtsp_head.specs.Items.{items_of}
use Rattle.client_ports.specs.declared.parcel.Parcel.{Parcel}
use Rattle.gateway_links.specs.PutParcels.{parcel_shape}
use Rattle.gateway_links.specs.ReadItems.{PutAllSo}
use Rattle.player_stations.specs.Clients.{CountsAll}

-- all items were put, and counted
pub counts_all : (first left : Option (List ℕ)) (put : List Parcel) (pushed : ℕ) → PutAllSo first left put → pushed ≡ length put → CountsAll first left pushed
counts_all first left put pushed all counted = record {
  given = all.given;
  gave = all.gave;
  all =
      counted
      ∙ (sym (length-map put parcel_shape)
      ∙ (ap length all.put_is
      ∙ length-map (items_of all.given) (λ shape. Some shape)));
}

-- the same of what is left now and of what was put now
pub moved_all : (first left left_now : Option (List ℕ)) (put put_now : List Parcel) → left_now ≡ left → put_now ≡ put → PutAllSo first left put → PutAllSo first left_now put_now
moved_all first left left_now put put_now same_left same_put all =
    subst (λ (l : Option (List ℕ)). PutAllSo first l put_now) (sym same_left) (subst (λ (p : List Parcel). PutAllSo first left p) (sym same_put) all)
