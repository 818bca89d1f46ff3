-- SMPTE relative timestamps (RFC 2326, 3.5; RFC 7826, 4.4.1).
use Rattle.std.specs.Prelude.{ℕ, ◌==◌, if◌then◌else◌, List, [], ◌∷◌, Option, Some, None, option_map}
use Rattle.gate_bytes.specs.Ascii.{hyphen, dot, colon}
use Rattle.gate_bytes.specs.Places.{cut_at}
use Rattle.rtsp_range.specs.declared.part.TheConstants.{LAST_MINUTE, LAST_SECOND}
use Rattle.rtsp_range.specs.declared.smpte.TheConstants.{LAST_SHORT}
use Rattle.rtsp_range.specs.declared.smpte.Smpte.{Smpte}
use Rattle.rtsp_range.specs.declared.smpte.Rate.{Rate}
use Rattle.rtsp_range.specs.declared.range.Range.{Range}
use Rattle.rtsp_range.specs.declared.range.Range.TheVariants as ranges
use Rattle.rtsp_range.specs.Parts.{◌>>=◌, part_at, short_number}

-- An optional short number behind its mark, 0 where there is none.
abbrev pub marked_number : ℕ → List ℕ → Option ℕ
marked_number mark [] = Some 0
marked_number mark (b ∷ digits) = if b == mark then short_number LAST_SHORT digits else None

-- `hh:mm:ss`, then `:ff` and then `.pp`, each of the two optional by itself.
unfoldable pub smpte_time : List ℕ → Option Smpte
smpte_time text = do
  parts ← marked_number dot (part_at dot text).1
  first ← cut_at colon (part_at dot text).0
  second ← cut_at colon first.1
  hours ← short_number LAST_SHORT first.0
  minutes ← short_number LAST_MINUTE second.0
  seconds ← short_number LAST_SECOND (part_at colon second.1).0
  frames ← marked_number colon (part_at colon second.1).1
  Some (record { hours = hours; minutes = minutes; seconds = seconds; frames = frames; parts = parts })

-- An end: nothing, or a time.
abbrev pub smpte_end : List ℕ → Option (Option Smpte)
smpte_end [] = Some None
smpte_end (b ∷ text) = option_map Some (smpte_time (b ∷ text))

-- The range that the text behind the unit means: its parts stand round the first `-`.
unfoldable pub smpte_range : Rate → List ℕ → Option Range
smpte_range rate text = do
  parts ← cut_at hyphen text
  from ← smpte_time parts.0
  to ← smpte_end parts.1
  Some (ranges.Smpte rate from to)
