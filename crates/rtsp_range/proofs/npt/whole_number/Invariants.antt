use Rattle.std.proofs.Common.{◌≡◌, min, true, take}
use Rattle.std.specs.List.{list_all}
use Rattle.std.specs.Char.{is_ascii_digit}
use Rattle.std.specs.Str.Parse.{digits_value}
use Rattle.rtsp_range.specs.CappedTimes.{most_seconds}
use Rattle.rtsp_range.proofs.npt.whole_number.Given as goal

-- what was read so far are digits, and the value is theirs, up to the most that counts
abbrev pub invariant-loop-byte : goal.invariant-loop-byte
invariant-loop-byte l = record {
  digits : list_all is_ascii_digit (take l.byte-index l.text) ≡ true;
  value : l.number ≡ min (digits_value 10 (take l.byte-index l.text)) most_seconds;
}
