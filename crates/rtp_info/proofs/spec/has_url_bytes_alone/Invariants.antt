use Rattle.std.proofs.Common.{◌≡◌, take}
use Rattle.std.specs.List.{list_all}
use Rattle.rtp_info.specs.Specs.{is_url_byte}
use Rattle.rtp_info.proofs.spec.has_url_bytes_alone.Given as goal

-- whether the bytes so far may
abbrev pub invariant-loop-byte : goal.invariant-loop-byte
invariant-loop-byte l = l.alone ≡ list_all is_url_byte (take l.byte-index l.text)
