-- The rule of a port, over what its queue holds and what each pass knows. This project's own.
use Rattle.std.specs.Prelude.{◌≡◌, ℕ, Bool, true, List, ◌++◌}
use mathlib.Core.Option.{some}
use lib.ListN.{get_elem?}
use Rattle.client_ports.specs.declared.parcel.Parcel.{Parcel}
use Rattle.client_ports.specs.declared.rule.Knowledge.{Knowledge}

-- what a pass knows that may put or take, knows of parcels put and taken, and was told of parcels that were put and of some
-- that were taken
abbrev pub knows : Bool → Bool → List Parcel → List Parcel → List Parcel → List Parcel → Knowledge
knows puts takes put taken told heard = record { puts = puts; takes = takes; put = put; taken = taken; told = told; heard = heard }

-- The second list begins with the first.
abbrev pub BeginsIn : List Parcel → List Parcel → Type 0
BeginsIn front all = (rest : List Parcel) × (front ++ rest ≡ all)

-- The list ends with the last of it, and what comes before that begins with these.
abbrev pub EndsPast : List Parcel → List Parcel → List Parcel → Type 0
EndsPast front all last = (earlier : List Parcel) × (earlier ++ last ≡ all) × BeginsIn front earlier

-- What a pass knows is so: only one pass puts and it knows all that was put, only one takes and it knows all that was
-- taken; what a pass was told of was put, and what it was told was taken was.
pub record KnowsRightly (putter taker : ℕ) (put taken : List Parcel) (pass : ℕ) (known : Knowledge) : Type 0 where
  pub puts : known.puts ≡ true → (pass ≡ putter) × (known.put ≡ put)
  pub takes : known.takes ≡ true → (pass ≡ taker) × (known.taken ≡ taken)
  pub told : BeginsIn known.told put
  pub heard : BeginsIn known.heard taken

-- What was put is what was taken, followed by what the queue holds, and each pass knows what is so.
pub record StandsInLine (items : List Parcel) (views : List Knowledge) : Type 0 where
  pub putter : ℕ
  pub taker : ℕ
  pub put : List Parcel
  pub taken : List Parcel
  pub order : put ≡ taken ++ items
  pub right : (pass : ℕ) (known : Knowledge) → get_elem? views pass ≡ some known → KnowsRightly putter taker put taken pass known
