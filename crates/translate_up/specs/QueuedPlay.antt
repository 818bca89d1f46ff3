-- A PLAY that waited, as it goes up (RFC 7826, 13.4).
use Rattle.std.specs.Prelude.{ℕ, codes, List, [], ◌∷◌, Option, Some}
use Rattle.rtsp_head.specs.Optional.{Field, named, field_headers}
use Rattle.rtsp_small.specs.declared.method.Method.TheVariants as methods
use Rattle.rtsp_small.specs.Methods.{method_name}
use Rattle.rtsp_range.specs.RangeText.{range_text}
use Rattle.head_two.specs.declared.request.Request2.{Request2}
use Rattle.session_one.specs.declared.parts.Play.{Play}

-- its fields in their order: the session, the range, and the scale where the player asked for one
abbrev pub play_fields_up : Option (List ℕ) → Play → List Field
play_fields_up session play = named (codes "Session") session ∷ named (codes "Range") (Some (range_text play.range)) ∷ named (codes "Scale") play.scale ∷ []

-- without its number
abbrev pub play_up : Option (List ℕ) → Play → Request2
play_up session play = record { method = method_name methods.Play; uri = play.uri; headers = field_headers (play_fields_up session play); body = [] }
