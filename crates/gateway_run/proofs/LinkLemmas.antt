-- What a link and its ends had before the run.
use Rattle.std.proofs.Common.{◌≡◌, ℕ, List, [], length, Option, Some, None, refl, sym, ◌∙◌, subst, rules}
use Rattle.std.specs.Option.{ForSome, option_map}
use Rattle.gate_transcript.specs.declared.entry.Entry.{Entry as Noted}
use Rattle.gateway_hub.specs.Notes.{TellsNotes}
use Rattle.player_stations.specs.Gates.{NoneLeft}
use Rattle.gateway_run.specs.WholeRun.{NoneIsLeft}

-- nothing was written, where that is told
pub written_none : (written : Option (List ℕ)) → ForSome written (λ bytes. bytes ≡ []) → written ≡ option_map (λ bytes. []) written
written_none None none = refl
written_none (Some bytes) none = search rules

-- a recorder that has noted nothing tells the history in which nothing happened
pub tells_none : (entries : Option (List Noted)) → ForSome entries (λ noted. noted ≡ []) → TellsNotes entries []
tells_none None none = tt
tells_none (Some noted) none = search rules

-- no link is left at a door that tells none
left_zero : {A : Type 0} (links : Option (List A)) → NoneIsLeft (option_map (λ found. 0) links)
left_zero None = tt
left_zero (Some found) = refl

pub no_link_left : {A : Type 0} (links : Option (List A)) (left : Option ℕ) → NoneLeft links → left ≡ option_map length links → NoneIsLeft left
no_link_left links left none told = subst NoneIsLeft (sym (told ∙ none)) (left_zero links)
