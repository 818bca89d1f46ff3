-- The first item in line is taken out of it, or put back.
use Rattle.std.proofs.Common.{◌≡◌, ◌∙◌, ℕ, List, [], ◌∷◌, ◌++◌, Some, None, refl, sym, ap}
use Rattle.std.proofs.lemmas.List.{append-nil}
use Rattle.rtsp_head.specs.declared.item.Item.{Item}
use Rattle.rtsp_head.specs.Items.{Shape}
use Rattle.rtsp_head.specs.Shapes.{shape_of}
use Rattle.client_ports.specs.declared.parcel.Parcel.{Parcel}
use Rattle.client_ports.specs.declared.parcel.Parcel.TheVariants as parcels
use Rattle.client_ports.specs.declared.taker.Taker.{Taker}
use Rattle.client_ports.specs.Ends.{taken_of, takers_port}
use Rattle.client_ports.specs.Rule.{BeginsIn}
use Rattle.hub_queues.specs.Parcels.{items_in}
use Rattle.hub_queues.specs.Places.{Fetches}
use Rattle.hub_queues.proofs.FrontLemmas.{begins_more}

items-append : (one other : List Parcel) → items_in (one ++ other) ≡ items_in one ++ items_in other
items-append [] other = refl
items-append (parcels.Item item ∷ one) other = ap (λ (l : List Shape). shape_of item ∷ l) (items-append one other)
items-append (parcels.Bytes text ∷ one) other = items-append one other

-- Bytes are no item.
pub bytes_more : (old new : List Parcel) (parcel : Parcel) (text : List ℕ) → new ≡ old ++ parcel ∷ [] → parcel ≡ parcels.Bytes text → items_in new ≡ items_in old
bytes_more old new parcel text more is =
    ap items_in more ∙ ap (λ (p : Parcel). items_in (old ++ p ∷ [])) is ∙ items-append old (parcels.Bytes text ∷ []) ∙ append-nil (items_in old)

pub item_more : (old new : List Parcel) (parcel : Parcel) (item : Item) → new ≡ old ++ parcel ∷ [] → parcel ≡ parcels.Item item → items_in new ≡ items_in old ++ shape_of item ∷ []
item_more old new parcel item more is = ap items_in more ∙ ap (λ (p : Parcel). items_in (old ++ p ∷ [])) is ∙ items-append old (parcels.Item item ∷ [])

-- The next item of the port is fetched.
pub fetched : (start before now : Taker) (parcel : Parcel) (item : Item) → takers_port before ≡ takers_port start → takers_port now ≡ takers_port before → items_in (taken_of before) ≡ items_in (taken_of start) → BeginsIn (taken_of start) (taken_of before)
    → taken_of now ≡ taken_of before ++ parcel ∷ [] → parcel ≡ parcels.Item item → Fetches None start (Some item) None now
fetched start before now parcel item port same items front more is = record {
  port = same ∙ port;
  none = refl;
  taken = begins_more (taken_of start) (taken_of before) (taken_of now) parcel front more;
  items = λ came all.
      ap (λ (l : List Shape). l ++ shape_of item ∷ []) (sym (append-nil came) ∙ all)
      ∙ ap (λ (l : List Shape). l ++ shape_of item ∷ []) (sym items)
      ∙ sym (item_more (taken_of before) (taken_of now) parcel item more is);
  empty = λ no_item. absurd (cc);
}
