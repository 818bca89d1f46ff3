use Rattle.std.proofs.Common.{◌≤◌, ◌<◌, ℕ, List, Option, length}
use Rattle.gateway_links.specs.ReadItems.{ReadsItems, ReadsFront}
use Rattle.server_link.proofs.upstream.hear_on.Given as goal

-- what was put is the first of the items that came, and no count fell
abbrev pub invariant-loop : goal.invariant-loop
invariant-loop g l = record {
  can_next : (goal.iterator-loop g).can_next l.iterator';
  finite : (goal.iterator-loop g).is_finite l.iterator';
  room : 0 < length l.buffer;
  faults : g.I.Inlet.faults l.fn.reader.inlet ≤ g.I.Inlet.faults l.reader.inlet;
  ends : g.I.Inlet.ends l.fn.reader.inlet ≤ g.I.Inlet.ends l.reader.inlet;
  reads : (first : Option (List ℕ)) → ReadsItems g.I.Inlet.rest first l.fn.reader → ReadsItems g.I.Inlet.rest first l.reader;
  front : (first : Option (List ℕ)) → ReadsFront g.I.Inlet.rest first l.fn.reader → ReadsFront g.I.Inlet.rest first l.reader;
}
