use Rattle.std.proofs.Common.{◌≡◌, ℕ, List, Option}
use Rattle.gateway_links.specs.ReadItems.{ReadsItems, ReadsFront}
use Rattle.gateway_links.proofs.put.put_some.Given as goal

-- nothing more was read, and what was put is still the first of the items that came
abbrev pub invariant-loop : goal.invariant-loop
invariant-loop g l = record {
  inlet : l.reader.inlet ≡ l.fn.reader.inlet;
  reads : (first : Option (List ℕ)) → ReadsItems g.I.Inlet.rest first l.fn.reader → ReadsItems g.I.Inlet.rest first l.reader;
  front : (first : Option (List ℕ)) → ReadsFront g.I.Inlet.rest first l.fn.reader → ReadsFront g.I.Inlet.rest first l.reader;
}
