-- What a reader has put of what its inlet gave. This project's own.
use Rattle.std.specs.Prelude.{◌≡◌, ℕ, ◌<◌, Bool, true, false, List, [], ◌++◌, length, Option, Some, None}
use Rattle.std.specs.Option.{option_map}
use Rattle.rtsp_head.specs.Items.{Shape, items_of}
use Rattle.rtsp_head.specs.declared.item.Item.{Item}
use Rattle.rtsp_frame.specs.FramerState.{HeldBytes, Framed}
use Rattle.client_ports.specs.declared.parcel.Parcel.{Parcel}
use Rattle.client_ports.specs.Ends.{put_of}
use Rattle.gateway_links.specs.declared.answers.Read.{Read}
use Rattle.gateway_links.specs.declared.answers.Read.TheVariants.{Came, End, NotYet, Failed, Memory}
use Rattle.gateway_links.specs.declared.reader.Reader.{Reader}
use Rattle.gateway_links.specs.PutParcels.{AreParcelsOf, waiting_shape}

-- What was there at first, where it is told, is these bytes and what is left now.
abbrev pub GaveBytes : Option (List ℕ) → Option (List ℕ) → List ℕ → Type 0
GaveBytes first left given = first ≡ option_map (λ rest. given ++ rest) left

-- These bytes were framed. The items that were put, and then the one that waits, are those that the framer gave.
pub record PutsItems (held : HeldBytes) (seen : List ℕ) (put : List Parcel) (waiting : Option Item) : Type 0 where
  pub items : List Shape
  pub framed : Framed held seen (items ++ waiting_shape waiting)
  pub put_is : AreParcelsOf put items

-- Bytes were given, and all were framed.
pub record ReadsItemsSo (first left : Option (List ℕ)) (held : HeldBytes) (put : List Parcel) (waiting : Option Item) : Type 0 where
  pub given : List ℕ
  pub gave : GaveBytes first left given
  pub puts : PutsItems held given put waiting

-- The same, where the last of the bytes that were given may be lost to the framer, once the reader is over.
pub record ReadsFrontSo (first left : Option (List ℕ)) (held : HeldBytes) (put : List Parcel) (waiting : Option Item) (over : Bool) : Type 0 where
  pub seen : List ℕ
  pub lost : List ℕ
  pub gave : GaveBytes first left (seen ++ lost)
  pub whole : over ≡ false → lost ≡ []
  pub puts : PutsItems held seen put waiting

-- All whole items of what was given were put.
pub record PutAllSo (first left : Option (List ℕ)) (put : List Parcel) : Type 0 where
  pub given : List ℕ
  pub gave : GaveBytes first left given
  pub put_is : AreParcelsOf put (items_of given)

-- The reader put the first of the items of what its inlet gave, of which the rest are in its framer; `first` is what the inlet
-- had to give at the beginning, where it is told.
abbrev pub ReadsItems : {I : Type 0} → (I → Option (List ℕ)) → Option (List ℕ) → Reader I → Type 0
ReadsItems rest first reader = ReadsItemsSo first (rest reader.inlet) reader.framer (put_of reader.inward) reader.waiting

-- The same of a front of what the inlet gave, where the reader is over.
abbrev pub ReadsFront : {I : Type 0} → (I → Option (List ℕ)) → Option (List ℕ) → Reader I → Type 0
ReadsFront rest first reader = ReadsFrontSo first (rest reader.inlet) reader.framer (put_of reader.inward) reader.waiting reader.over

-- The reader put all whole items of what its inlet gave.
abbrev pub PutAll : {I : Type 0} → (I → Option (List ℕ)) → Option (List ℕ) → Reader I → Type 0
PutAll rest first reader = PutAllSo first (rest reader.inlet) (put_of reader.inward)

-- less is left than there was, where it is told
abbrev pub Shrinks : Option (List ℕ) → Option (List ℕ) → Type 0
Shrinks None now = now ≡ None
Shrinks (Some before) None = ⊥
Shrinks (Some before) (Some now) = length now < length before

-- What a read did to what is left and to what the framer holds: only where bytes came or memory was wanting anything changed.
abbrev pub LeavesSo : Option (List ℕ) → Option (List ℕ) → HeldBytes → HeldBytes → Read → Type 0
LeavesSo before now held held_now Came = Shrinks before now
LeavesSo before now held held_now End = (now ≡ before) × (held_now ≡ held)
LeavesSo before now held held_now NotYet = (now ≡ before) × (held_now ≡ held)
LeavesSo before now held held_now Failed = (now ≡ before) × (held_now ≡ held)
LeavesSo before now held held_now Memory = held_now ≡ held

-- a read leaves reader and inlet so
abbrev pub DoesRead : {I : Type 0} → (I → Option (List ℕ)) → Reader I → Reader I → Read → Type 0
DoesRead rest old new result = LeavesSo (rest old.inlet) (rest new.inlet) old.framer new.framer result

-- whether memory was wanting
abbrev pub is_want : Read → Bool
is_want Came = false
is_want End = false
is_want NotYet = false
is_want Failed = false
is_want Memory = true
