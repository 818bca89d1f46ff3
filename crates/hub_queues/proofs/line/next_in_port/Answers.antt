use Rattle.std.proofs.Common.{◌∙◌}
use Rattle.client_ports.specs.Ends.{taken_of}
use Rattle.hub_queues.proofs.FetchLemmas.{fetched, bytes_more}
use Rattle.hub_queues.proofs.FrontLemmas.{begins_more}
use Rattle.hub_queues.proofs.line.next_in_port.Goals as goal

pub returns-in-Some-Item : goal.returns-in-Some-Item
returns-in-Some-Item g c =
    fetched c.args.inward.now c.loop.inward c.take.new.self c.in-Some-Item.field-0 c.in-Some-Item.item c.loop.invariant.2 c.take.ensures.port c.loop.invariant.3 c.loop.invariant.4 c.in-Some-Item.ensures.some c.in-Some-Item.field-0-is

pub loop-preserved-in-Some-Bytes : goal.loop-preserved-in-Some-Bytes
loop-preserved-in-Some-Bytes g c = (
  tt,
  tt,
  c.take.ensures.port ∙ c.loop.invariant.2,
  bytes_more (taken_of c.loop.inward) (taken_of c.take.new.self) c.in-Some-Bytes.field-0 c.in-Some-Bytes.field-0-0 c.in-Some-Bytes.ensures.some c.in-Some-Bytes.field-0-is ∙ c.loop.invariant.3,
  begins_more (taken_of c.args.inward.now) (taken_of c.loop.inward) (taken_of c.take.new.self) c.in-Some-Bytes.field-0 c.loop.invariant.4 c.in-Some-Bytes.ensures.some,
)
