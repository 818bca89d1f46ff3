-- What a taker had taken at one moment, as callers speak of it. This project's own.
use Rattle.std.specs.Prelude.{List}
use Rattle.atomic_table.specs.Seated.{TableId}
use Rattle.crossbeam_queue.specs.Passes.{view}
use Rattle.client_ports.specs.declared.parcel.Parcel.{Parcel}
use Rattle.client_ports.specs.declared.taker.TakenParcels.{TakenParcels}

-- the parcels that were taken, the oldest first
abbrev pub taken_in : TakenParcels → List Parcel
taken_in parcels = (view parcels.pass).heard

-- of which port they were
abbrev pub parcels_port : TakenParcels → TableId
parcels_port parcels = parcels.pass.table_id
