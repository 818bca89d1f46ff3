-- The last header of a list of them, with which the next line may go on.
use Rattle.std.specs.Prelude.{◌≡◌, List, [], ◌∷◌, ◌++◌, Option, Some, None}
use Rattle.rtsp_head.specs.declared.header.Header.{Header}
use Rattle.rtsp_head.specs.Headers.{SoFar, no_headers}

-- one header more in front of those that stand apart
abbrev pub set_before : Header → List Header → SoFar → SoFar
set_before header [] rest = record { above = []; last = Some header }
set_before header (next ∷ more) rest = record { above = header ∷ rest.above; last = rest.last }

-- the last of these headers, and those above it
abbrev pub apart : List Header → SoFar
apart [] = no_headers
apart (header ∷ headers) = set_before header headers (apart headers)

-- the last one was taken off, if there is one
abbrev pub LosesLast : List Header → List Header → Option Header → Type 0
LosesLast old new None = (old ≡ []) × (new ≡ [])
LosesLast old new (Some header) = old ≡ new ++ header ∷ []
