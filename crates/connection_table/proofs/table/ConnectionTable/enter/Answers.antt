use Rattle.slab.specs.Slab.{get as slab_get}
use Rattle.connection_table.specs.Directories.{key_of}
use Rattle.connection_table.proofs.SeatLemmas.{absent_key}
use Rattle.connection_table.proofs.table.ConnectionTable.enter.Goals as goal

pub add-requires-clause-new : goal.add-requires-clause-new
add-requires-clause-new c = absent_key (slab_get c.args.self.now.slots) (key_of c.args.self.now.directory c.args.conn) (c.args.self.now.held c.args.conn) c.requires.new
