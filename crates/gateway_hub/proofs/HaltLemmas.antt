-- What is kept of a hub that is stopped.
use Rattle.std.proofs.Common.{◌≡◌, ◌∙◌, true, Option, Some, None, refl, sym, ap, subst}
use Rattle.std.specs.Option.{option_or}
use Rattle.gate_transcript.specs.declared.recorder.NoteFault.{NoteFault}
use Rattle.hub_queues.specs.declared.ending.Ending.{Ending}
use Rattle.hub_queues.specs.declared.ending.Ending.TheVariants.{Upstream, Stopped}
use Rattle.hub_queues.specs.declared.ending.StopWhy.{StopWhy}
use Rattle.gateway_hub.specs.declared.desk.Desk.{Desk}
use Rattle.gateway_hub.specs.declared.desk.Fall.{Fall}
use Rattle.gateway_hub.specs.Desks.{LeavesOut, fall_heard, left_for}
use Rattle.gateway_hub.specs.Endings.{cut_short}
use Rattle.gateway_hub.specs.Take.{Stops, stop_of}

-- How the hub stands once it was stopped, unless an ending was kept: what excuses a client still does.
pub record Halts (why : StopWhy) (before now : Desk) : Type 0 where
  pub server : now.server ≡ before.server
  pub places : now.places ≡ before.places
  pub heard : fall_heard now.fall ≡ fall_heard before.fall
  pub cut : cut_short before.fall before.ending ≡ true → cut_short now.fall now.ending ≡ true
  pub ending : now.ending ≡ option_or before.ending (Some (Stopped why))

cut_kept : (fall : Option Fall) (ending more : Option Ending) → cut_short fall ending ≡ true → cut_short fall (option_or ending more) ≡ true
cut_kept fall None more is = cc
cut_kept fall (Some ending) more is = is

pub cut_as : (fall fell : Option Fall) (ending ended : Option Ending) → fell ≡ fall → ended ≡ ending → cut_short fall ending ≡ true → cut_short fell ended ≡ true
cut_as fall fell ending ended falls ends is = subst (λ (f : Option Fall). cut_short f ended ≡ true) (sym falls) (subst (λ (e : Option Ending). cut_short fall e ≡ true) (sym ends) is)

pub halts : (why : StopWhy) (before now : Desk) → Stops why before now → Halts why before now
halts why before now stop = record {
  server = stop.server;
  places = stop.places;
  heard = ap fall_heard stop.fall;
  cut = λ is. cut_as before.fall now.fall (option_or before.ending (Some (Stopped why))) now.ending stop.fall stop.ending (cut_kept before.fall before.ending (Some (Stopped why)) is);
  ending = stop.ending;
}

heard_left : (fault : NoteFault) (fall : Option Fall) → fall_heard (left_for fault fall) ≡ fall_heard fall
heard_left fault None = refl
heard_left fault (Some fall) = refl

cut_left : (fault : NoteFault) (fall : Option Fall) (ending more : Option Ending) → cut_short fall ending ≡ true → cut_short (left_for fault fall) (option_or ending more) ≡ true
cut_left fault fall None more is = cc
cut_left fault None (Some (Upstream cause)) more is = cc
cut_left fault (Some fall) (Some (Upstream cause)) more is = refl
cut_left fault fall (Some (Stopped why)) more is = is

-- The same, where a client was left out.
pub left_halts : (fault : NoteFault) (before mid now : Desk) → LeavesOut fault before mid → Stops (stop_of fault) mid now → Halts (stop_of fault) before now
left_halts fault before mid now left stop =
    let fell : now.fall ≡ left_for fault before.fall = stop.fall ∙ left.fall in
    let ends : now.ending ≡ option_or before.ending (Some (Stopped (stop_of fault))) = stop.ending ∙ ap (λ (e : Option Ending). option_or e (Some (Stopped (stop_of fault)))) left.ending in
    record {
      server = stop.server ∙ left.server;
      places = stop.places ∙ left.places;
      heard = ap fall_heard fell ∙ heard_left fault before.fall;
      cut = λ is. cut_as (left_for fault before.fall) now.fall (option_or before.ending (Some (Stopped (stop_of fault)))) now.ending fell ends (cut_left fault before.fall before.ending (Some (Stopped (stop_of fault))) is);
      ending = ends;
    }
