-- Where a mark stands.
use Rattle.std.proofs.Common.{◌≡◌, ℕ, ◌<◌, ◌≤◌, List, length, Option, None, Some, refl, arith}
use Rattle.std.specs.Prelude.{unwrap_or}
use Rattle.gate_bytes.specs.Places.{place_of}
use Rattle.gate_bytes.proofs.PlaceLemmas.{place_within}

place_or_with : (byte : ℕ) (text : List ℕ) (place : Option ℕ) → place_of byte text ≡ place → unwrap_or place (length text) ≤ length text
place_or_with byte text None h = omega arith
place_or_with byte text (Some k) h = let below : k < length text = place_within byte text k h in omega arith

-- so does the place or the end
pub place_or_end : (byte : ℕ) (text : List ℕ) → unwrap_or (place_of byte text) (length text) ≤ length text
place_or_end byte text = place_or_with byte text (place_of byte text) refl
