-- What the two ends of a port know, as callers speak of it. This project's own.
use Rattle.std.specs.Prelude.{◌≡◌, ℕ, ◌++◌, List}
use Rattle.std.specs.Arc.{arc_value}
use Rattle.atomic_table.specs.Seated.{TableId}
use Rattle.crossbeam_queue.specs.Passes.{view, ruled_capacity}
use Rattle.crossbeam_queue.specs.Fifo.{Held}
use Rattle.client_ports.specs.declared.parcel.Parcel.{Parcel}
use Rattle.client_ports.specs.declared.putter.Putter.{Putter}
use Rattle.client_ports.specs.declared.taker.Taker.{Taker}
use Rattle.client_ports.specs.Rule.{BeginsIn, EndsPast}

-- the parcels that were put, the oldest first
abbrev pub put_of : Putter → List Parcel
put_of putter = (view putter.pass).put

-- the parcels that were taken, the oldest first
abbrev pub taken_of : Taker → List Parcel
taken_of taker = (view taker.pass).taken

-- the parcels that the taker was told of: the first of those that were put
abbrev pub told_of : Taker → List Parcel
told_of taker = (view taker.pass).told

-- the parcels that the putter was told were taken: the first of those that were
abbrev pub heard_of : Putter → List Parcel
heard_of putter = (view putter.pass).heard

-- how often the port was full for the putter
abbrev pub fulls_of : Putter → ℕ
fulls_of putter = putter.fulls

-- how many parcels the port's queue can hold
abbrev pub capacity_of : Putter → ℕ
capacity_of putter = ruled_capacity (arc_value putter.queue)

-- which port an end is of
abbrev pub putters_port : Putter → TableId
putters_port putter = putter.pass.table_id

-- the port of an end that takes
abbrev pub takers_port : Taker → TableId
takers_port taker = taker.pass.table_id

-- They are the two ends of one port.
abbrev pub OfOnePort : Putter → Taker → Type 0
OfOnePort putter taker = putters_port putter ≡ takers_port taker

-- The putter is of the same port, which has the same capacity.
pub record KeepsPutter (old new : Putter) : Type 0 where
  pub port : putters_port new ≡ putters_port old
  pub capacity : capacity_of new ≡ capacity_of old

-- The putter stands as it did.
pub record IsSamePutter (old new : Putter) : Type 0 where
  pub end : KeepsPutter old new
  pub put : put_of new ≡ put_of old
  pub heard : heard_of new ≡ heard_of old
  pub fulls : fulls_of new ≡ fulls_of old

-- The taker stands as it did.
pub record IsSameTaker (old new : Taker) : Type 0 where
  pub port : takers_port new ≡ takers_port old
  pub taken : taken_of new ≡ taken_of old
  pub told : told_of new ≡ told_of old

-- The queue held so many parcels at one moment of a call: the last of those that were put, and none that the putter was told
-- was taken.
abbrev pub HeldLast : ℕ → Putter → Type 0
HeldLast count putter = Held count (EndsPast (heard_of putter) (put_of putter))

-- The queue was full at one moment of a call: it held as many parcels as it can, which are such parcels.
abbrev pub WasFull : Putter → Type 0
WasFull putter = HeldLast (capacity_of putter) putter

-- The queue was empty at one moment of a call: it held no parcel, and those that the taker was told of are the first of
-- those that it took and those in the queue.
abbrev pub WasEmpty : Taker → Type 0
WasEmpty taker = Held 0 (λ items. BeginsIn (told_of taker) (taken_of taker ++ items))
