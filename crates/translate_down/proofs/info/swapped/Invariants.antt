use Rattle.std.proofs.Common.{◌≡◌, take}
use Rattle.rtp_info.specs.InfoText.{info_text}
use Rattle.translate_down.specs.Infos.{swapped_entries}
use Rattle.translate_down.proofs.info.swapped.Given as goal

-- the text of the entries so far, under the player's address
abbrev pub invariant-loop-place : goal.invariant-loop-place
invariant-loop-place l = l.text ≡ info_text (swapped_entries l.bases.up.text l.bases.front.text (take l.place l.info))
