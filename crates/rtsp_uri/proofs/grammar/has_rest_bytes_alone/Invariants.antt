use Rattle.std.proofs.Common.{◌≡◌, take}
use Rattle.std.specs.List.{list_all}
use Rattle.rtsp_uri.specs.Uris.{is_rest_byte}
use Rattle.rtsp_uri.proofs.grammar.has_rest_bytes_alone.Given as goal

-- whether the bytes so far may
abbrev pub invariant-loop-byte : goal.invariant-loop-byte
invariant-loop-byte l = l.alone ≡ list_all is_rest_byte (take l.byte-index l.text)
