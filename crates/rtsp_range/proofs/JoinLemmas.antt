-- What was cut apart stands joined in the text.
use Rattle.std.proofs.Common.{◌≡◌, ℕ, List, ◌++◌, length, sym}
use Rattle.std.specs.Prelude.{unwrap_or}
use Rattle.std.proofs.lemmas.List.{take-append-drop}
use Rattle.gate_bytes.specs.Places.{place_of}
use Rattle.rtsp_range.specs.Parts.{part_at}

pub part_joined : (mark : ℕ) (text : List ℕ) → text ≡ (part_at mark text).0 ++ (part_at mark text).1
part_joined mark text = sym (take-append-drop (unwrap_or (place_of mark text) (length text)) text)
