use Rattle.std.proofs.Common.{◌≡◌, true, take}
use Rattle.std.specs.List.{list_all}
use Rattle.std.specs.Char.{is_ascii_hexdigit}
use Rattle.std.specs.Str.Parse.{digits_value}
use Rattle.rtsp_transport.proofs.ssrc.read_source.Given as goal

-- what was read so far are digits, and the value is theirs
abbrev pub invariant-loop-byte : goal.invariant-loop-byte
invariant-loop-byte l = record {
  digits : list_all is_ascii_hexdigit (take l.byte-index l.text) ≡ true;
  value : l.number ≡ digits_value 16 (take l.byte-index l.text);
}
