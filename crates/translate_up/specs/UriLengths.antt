-- How long the URIs are with which requests go up, at once or later (this project's own).
use Rattle.std.specs.Prelude.{ℕ, ◌≤◌, List, [], ◌∷◌, length, IfSome}
use Rattle.rtsp_uri.specs.declared.word.TheConstants.{LONGEST_BASE_TEXT}
use Rattle.translate_up.specs.declared.decision.Decision.{Decision}
use Rattle.translate_up.specs.declared.decision.Decision.TheVariants.{Answer, Forward, Queue, Setup}
use Rattle.translate_up.specs.Views.{SeenSession, Given}

-- What sessions are about has a URI of so many bytes at most.
abbrev pub AreControlsWithin : ℕ → List SeenSession → Type 0
AreControlsWithin most [] = Unit {0}
AreControlsWithin most (session ∷ more) = IfSome session.control (λ uri. length uri ≤ most) × AreControlsWithin most more

-- So has what was described; and the server's address is no longer than one may be.
pub record AreGivenWithin (most : ℕ) (given : Given) : Type 0 where
  pub up : length given.up ≤ LONGEST_BASE_TEXT
  pub sessions : AreControlsWithin most given.sessions
  pub described : IfSome given.described (λ uri. length uri ≤ most)

-- What goes up, or waits for that, has a URI of so many bytes at most.
abbrev pub HasUriWithin : ℕ → Decision → Type 0
HasUriWithin most (Answer text) = Unit {0}
HasUriWithin most (Queue play text) = length play.uri ≤ most
HasUriWithin most (Forward request asked) = length asked.uri ≤ most
HasUriWithin most (Setup request asked channels) = length asked.uri ≤ most
