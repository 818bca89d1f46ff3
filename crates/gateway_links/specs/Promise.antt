-- What a reader promises of what it put. This project's own.
use Rattle.std.specs.Prelude.{◌≡◌, ℕ, List, ◌++◌, Option}
use Rattle.rtsp_head.specs.Items.{Shape, items_of}
use Rattle.client_ports.specs.declared.parcel.Parcel.{Parcel}
use Rattle.gateway_links.specs.PutParcels.{AreParcelsOf}
use Rattle.gateway_links.specs.ReadItems.{GaveBytes}

-- The parcels are the first of the items of these bytes.
pub record BeginsItemsOf (put : List Parcel) (bytes : List ℕ) : Type 0 where
  pub items : List Shape
  pub later : List Shape
  pub whole : items ++ later ≡ items_of bytes
  pub put_is : AreParcelsOf put items

-- Bytes were given, and the parcels are the first of their items.
abbrev pub BeginsGiven : Option (List ℕ) → Option (List ℕ) → List Parcel → Type 0
BeginsGiven first left put = (given : List ℕ) × GaveBytes first left given × BeginsItemsOf put given
