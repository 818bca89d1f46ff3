-- A core that a drill plays on (this project's own).
use Rattle.std.specs.Prelude.{◌≡◌, ℕ, ◌+◌, ◌*◌, ◌≤◌, Bool, true, false, List, [], ◌++◌, map}
use Rattle.rtsp_head.specs.Items.{Shape}
use Rattle.rtsp_uri.specs.declared.base.Bases.{Bases}
use Rattle.gateway_claim.specs.Happenings.{Happening, takes, hears, HistoryEntry, happened}
use Rattle.drill_run.specs.declared.stage.DrillStage.{DrillStage}
use Rattle.drill_run.specs.declared.turn.Who.{Who}
use Rattle.drill_run.specs.declared.turn.Who.TheVariants.{Client, Server}
use Rattle.drill_run.specs.declared.whole_drill.TheConstants.{MOST_PLAYER_TURNS}
use Rattle.drill_run.specs.Stages.{IsStage}
use Rattle.drill_run.specs.Turns.{Drilled, candidates, after_saying, after_entries, turn_told, Turn, DrillRun}

-- how far a drill can be, for something that has played a part of it
abbrev pub Drills : Type 1
Drills = Drilled → Type 0

-- A core that was made with these addresses stands for the drill's history, and the stage is the drill's.
pub record Plays {M : Type 0} (stands : M → List HistoryEntry → Type 0) (bases_of : M → Bases) (core : M) (stage : DrillStage) (between : Bases) (drilled : Drilled) : Type 0 where
  pub stood : stands core drilled.history
  pub based : bases_of core ≡ between
  pub staged : IsStage stage drilled

-- These events were taken, one after another.
pub record Driven (now : Drills) (told : List Happening) (drilled : Drilled) : Type 0 where
  pub more : List HistoryEntry
  pub told_all : happened more ≡ told
  pub stands : now (after_entries more drilled)

-- They are taken, however far the drill was.
abbrev pub Drives : Drills → Drills → List Happening → Type 0
Drives before now told = (drilled : Drilled) → before drilled → Driven now told drilled

-- what an item is, by who said it
abbrev pub item_told : Who → Shape → Happening
item_told (Client i) shape = takes i shape
item_told Server shape = hears shape

-- items that somebody sends, as events
abbrev pub items_told : Who → List Shape → List Happening
items_told who items = map (item_told who) items

-- What the one whose turn it is says is taken.
abbrev pub TurnTaken : Who → Drills → Drills → Type 0
TurnTaken who before now = (drilled : Drilled) → before drilled → Driven now (turn_told who drilled) (after_saying who drilled)

-- the drill one turn on
pub record NextTurn (now : Drills) (drilled : Drilled) : Type 0 where
  pub next : Drilled
  pub turn : Turn drilled next
  pub stands : now next

-- A turn was made; or there is no candidate, and nothing changed.
abbrev pub TurnMade : Bool → Drills → Drills → Type 0
TurnMade true before now = (drilled : Drilled) → before drilled → NextTurn now drilled
TurnMade false before now = (drilled : Drilled) → before drilled → (candidates drilled ≡ []) × now drilled

-- a part of a drill was played, of at least so many turns
pub record HasRun (least players number : ℕ) (now : Drills) : Type 0 where
  pub drilled : Drilled
  pub ran : DrillRun players number drilled
  pub many : least ≤ drilled.turns
  pub stands : now drilled

-- all of it
pub record HasPlayedOut (players number : ℕ) (now : Drills) : Type 0 where
  pub drilled : Drilled
  pub ran : DrillRun players number drilled
  pub ended : candidates drilled ≡ []
  pub stands : now drilled

-- A drill was played out; or it had more turns than the most for each player, and was left.
abbrev pub HasRunOn : Bool → ℕ → ℕ → Drills → Type 0
HasRunOn true players number now = HasPlayedOut players number now
HasRunOn false players number now = HasRun (MOST_PLAYER_TURNS * players + 1) players number now

-- the first of these items were taken, and the others are left
pub record DrivesFirst (before now : Drills) (who : Who) (items left : List Shape) : Type 0 where
  pub taken : List Shape
  pub whole : taken ++ left ≡ items
  pub drives : Drives before now (items_told who taken)
