-- What a reader has put, at a push more.
use Rattle.std.proofs.Common.{◌≡◌, ℕ, Bool, List, [], ◌∷◌, ◌++◌, Option, Some, None, IfSome, IfNone, refl, sym, ap, ◌∙◌, subst}
use Rattle.std.proofs.lemmas.List.{append-nil, map_push}
use Rattle.rtsp_head.specs.Items.{Shape, items_of}
use Rattle.rtsp_head.specs.Shapes.{shape_of}
use Rattle.rtsp_head.specs.declared.item.Item.{Item as WholeItem}
use Rattle.rtsp_frame.specs.FramerState.{HeldBytes, Framed}
use Rattle.client_ports.specs.declared.parcel.Parcel.{Parcel}
use Rattle.client_ports.specs.declared.parcel.Parcel.TheVariants.{Item}
use Rattle.gateway_links.specs.PutParcels.{parcel_shape, AreParcelsOf, waiting_shape}
use Rattle.gateway_links.specs.ReadItems.{PutsItems, ReadsItemsSo, ReadsFrontSo, PutAllSo}

-- The framer gave this item, behind the one that waited where one did.
abbrev pub Gives : HeldBytes → HeldBytes → Option WholeItem → WholeItem → Type 0
Gives held now waiting item = (stream : List ℕ) (put : List Shape) → Framed held stream (put ++ waiting_shape waiting) → Framed now stream (put ++ shape_of item ∷ [])

-- The framer has no whole item more.
abbrev pub GivesNone : HeldBytes → HeldBytes → Option WholeItem → Type 0
GivesNone held now waiting = (stream : List ℕ) (put : List Shape) → Framed held stream (put ++ waiting_shape waiting) → Framed now stream put × (put ≡ items_of stream)

parcels_more : (put : List Parcel) (items : List Shape) (item : WholeItem) → AreParcelsOf put items → AreParcelsOf (put ++ Item item ∷ []) (items ++ shape_of item ∷ [])
parcels_more put items item h =
    map_push parcel_shape put (Item item)
    ∙ (ap (λ (l : List (Option Shape)). l ++ Some (shape_of item) ∷ []) h
    ∙ sym (map_push (λ shape. Some shape) items (shape_of item)))

-- the item was put
pub puts_one : (held now : HeldBytes) (seen : List ℕ) (put put_now : List Parcel) (waiting : Option WholeItem) (item : WholeItem) → Gives held now waiting item → put_now ≡ put ++ Item item ∷ [] → PutsItems held seen put waiting → PutsItems now seen put_now None
puts_one held now seen put put_now waiting item gives one h = record {
  items = h.items ++ shape_of item ∷ [];
  framed = subst (λ (l : List Shape). Framed now seen l) (sym (append-nil (h.items ++ shape_of item ∷ []))) (gives seen h.items h.framed);
  put_is = subst (λ (l : List Parcel). AreParcelsOf l (h.items ++ shape_of item ∷ [])) (sym one) (parcels_more put h.items item h.put_is);
}

-- the item waits
pub puts_later : (held now : HeldBytes) (seen : List ℕ) (put put_now : List Parcel) (waiting : Option WholeItem) (item : WholeItem) → Gives held now waiting item → put_now ≡ put → PutsItems held seen put waiting → PutsItems now seen put_now (Some item)
puts_later held now seen put put_now waiting item gives same h = record {
  items = h.items;
  framed = gives seen h.items h.framed;
  put_is = subst (λ (l : List Parcel). AreParcelsOf l h.items) (sym same) h.put_is;
}

-- there was no item
pub puts_none : (held now : HeldBytes) (seen : List ℕ) (put : List Parcel) (waiting : Option WholeItem) → GivesNone held now waiting → PutsItems held seen put waiting → PutsItems now seen put None
puts_none held now seen put waiting none h = record {
  items = h.items;
  framed = subst (λ (l : List Shape). Framed now seen l) (sym (append-nil h.items)) (none seen h.items h.framed).0;
  put_is = h.put_is;
}

-- the item that was next waits, where there is one
pub puts_next : (held now : HeldBytes) (seen : List ℕ) (put : List Parcel) (waiting next : Option WholeItem) → IfSome next (λ item. Gives held now waiting item) → IfNone next (GivesNone held now waiting) → PutsItems held seen put waiting → PutsItems now seen put next
puts_next held now seen put waiting None some none h = puts_none held now seen put waiting none h
puts_next held now seen put waiting (Some item) some none h = puts_later held now seen put put waiting item some refl h

-- and so all whole items were put
pub puts_all : (first left : Option (List ℕ)) (held now : HeldBytes) (put : List Parcel) (waiting : Option WholeItem) → GivesNone held now waiting → ReadsItemsSo first left held put waiting → PutAllSo first left put
puts_all first left held now put waiting none h = record {
  given = h.given;
  gave = h.gave;
  put_is = subst (λ (l : List Shape). AreParcelsOf put l) (none h.given h.puts.items h.puts.framed).1 h.puts.put_is;
}

-- where the bytes stay, what was put of them may go on
pub reads_by : (first left : Option (List ℕ)) (held now : HeldBytes) (put put_now : List Parcel) (waiting waiting_now : Option WholeItem) → ((seen : List ℕ) → PutsItems held seen put waiting → PutsItems now seen put_now waiting_now) → ReadsItemsSo first left held put waiting → ReadsItemsSo first left now put_now waiting_now
reads_by first left held now put put_now waiting waiting_now go h = record { given = h.given; gave = h.gave; puts = go h.given h.puts }

pub front_by : (first left : Option (List ℕ)) (held now : HeldBytes) (put put_now : List Parcel) (waiting waiting_now : Option WholeItem) (over : Bool) → ((seen : List ℕ) → PutsItems held seen put waiting → PutsItems now seen put_now waiting_now) → ReadsFrontSo first left held put waiting over → ReadsFrontSo first left now put_now waiting_now over
front_by first left held now put put_now waiting waiting_now over go h = record { seen = h.seen; lost = h.lost; gave = h.gave; whole = h.whole; puts = go h.seen h.puts }

-- where nothing waited, the framer's next item is the next one
pub gives_next : (held now : HeldBytes) (waiting : Option WholeItem) (item : WholeItem) → waiting ≡ None → ((stream : List ℕ) (given : List Shape) → Framed held stream given → Framed now stream (given ++ shape_of item ∷ [])) → Gives held now waiting item
gives_next held now waiting item none next = λ stream put h.
    next stream put (subst (λ (l : List Shape). Framed held stream l) (ap (λ (w : Option WholeItem). put ++ waiting_shape w) none ∙ append-nil put) h)

pub gives_none : (held now : HeldBytes) (waiting : Option WholeItem) → waiting ≡ None → ((stream : List ℕ) (given : List Shape) → Framed held stream given → Framed now stream given × (given ≡ items_of stream)) → GivesNone held now waiting
gives_none held now waiting none next = λ stream put h.
    next stream put (subst (λ (l : List Shape). Framed held stream l) (ap (λ (w : Option WholeItem). put ++ waiting_shape w) none ∙ append-nil put) h)

pub some_gives : (held now : HeldBytes) (waiting : Option WholeItem) (result : Option WholeItem) → waiting ≡ None → IfSome result (λ item. (stream : List ℕ) (given : List Shape) → Framed held stream given → Framed now stream (given ++ shape_of item ∷ [])) → IfSome result (λ item. Gives held now waiting item)
some_gives held now waiting None none h = tt
some_gives held now waiting (Some item) none h = gives_next held now waiting item none h

pub none_gives : (held now : HeldBytes) (waiting : Option WholeItem) (result : Option WholeItem) → waiting ≡ None → IfNone result ((stream : List ℕ) (given : List Shape) → Framed held stream given → Framed now stream given × (given ≡ items_of stream)) → IfNone result (GivesNone held now waiting)
none_gives held now waiting None none h = gives_none held now waiting none h
none_gives held now waiting (Some item) none h = tt
