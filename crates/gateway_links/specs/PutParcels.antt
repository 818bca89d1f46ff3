-- Items as parcels. This project's own.
use Rattle.std.specs.Prelude.{◌≡◌, List, [], ◌∷◌, ◌++◌, map, Option, Some, None}
use Rattle.rtsp_head.specs.Items.{Shape}
use Rattle.rtsp_head.specs.Shapes.{shape_of}
use Rattle.rtsp_head.specs.declared.item.Item.{Item as WholeItem}
use Rattle.client_ports.specs.declared.parcel.Parcel.{Parcel}
use Rattle.client_ports.specs.declared.parcel.Parcel.TheVariants.{Item, Bytes}

-- the item that a parcel is, where it is one
abbrev pub parcel_shape : Parcel → Option Shape
parcel_shape (Item item) = Some (shape_of item)
parcel_shape (Bytes text) = None

-- The parcels are these items, each of them one.
abbrev pub AreParcelsOf : List Parcel → List Shape → Type 0
AreParcelsOf parcels items = map parcel_shape parcels ≡ map (λ shape. Some shape) items

-- the item that waits, where one does
abbrev pub waiting_shape : Option WholeItem → List Shape
waiting_shape None = []
waiting_shape (Some item) = shape_of item ∷ []

-- One item more was put.
pub record PutsOne (put put_now : List Parcel) : Type 0 where
  pub item : WholeItem
  pub put_more : put_now ≡ put ++ Item item ∷ []
