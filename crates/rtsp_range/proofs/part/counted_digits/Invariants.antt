use Rattle.std.proofs.Common.{◌≡◌, take}
use Rattle.std.specs.Str.Parse.{digits_value}
use Rattle.rtsp_range.specs.Parts.{counted_digits}
use Rattle.rtsp_range.proofs.part.counted_digits.Given as goal

-- the value of the digits so far
abbrev pub invariant-loop-place : goal.invariant-loop-place
invariant-loop-place l = l.number ≡ digits_value 10 (take l.place (counted_digits l.digits))
