-- How much is left of a text that is read part by part.
use Rattle.std.proofs.Common.{ℕ, ◌+◌, List, length, Option, None, Some}

-- what is left, in bytes, and one more where there is something
abbrev pub left_size : Option (List ℕ) → ℕ
left_size None = 0
left_size (Some text) = length text + 1
