use Rattle.std.proofs.Common.{◌≡◌, ◌+◌, false, drop}
use Rattle.std.specs.Option.{option_map}
use Rattle.rtsp_transport.specs.Splits.{place_outside}
use Rattle.rtsp_transport.proofs.split.find_past_quotes.Given as goal

-- the place is among the bytes that are left
abbrev pub invariant-loop-at : goal.invariant-loop-at
invariant-loop-at l = option_map (λ k. l.at + k) (place_outside l.byte l.quoted (drop l.at l.text)) ≡ place_outside l.byte false l.text
