-- How much items weigh, by any weight of each. Two are of use: a request counts as one, and as the most that it may bring up.
use Rattle.std.proofs.Common.{◌≡◌, ℕ, ◌+◌, List, [], ◌∷◌, ◌++◌, arith}
use Rattle.rtsp_head.specs.Items.{Shape}
use Rattle.client_machine.specs.Events.{PrivateEvent, arrive, answer, note, media, end, slow, up_end}

abbrev pub weighed : (Shape → ℕ) → List Shape → ℕ
weighed weigh [] = 0
weighed weigh (shape ∷ shapes) = weigh shape + weighed weigh shapes

-- those that events of a connection bring
abbrev pub brought_by : (Shape → ℕ) → PrivateEvent → ℕ
brought_by weigh (arrive shape full) = weigh shape
brought_by weigh (answer told ssrc full) = 0
brought_by weigh (note id reason names) = 0
brought_by weigh (media pair half rest) = 0
brought_by weigh end = 0
brought_by weigh slow = 0
brought_by weigh up_end = 0

abbrev pub brought : (Shape → ℕ) → List PrivateEvent → ℕ
brought weigh [] = 0
brought weigh (event ∷ events) = brought_by weigh event + brought weigh events

pub brought_both : (weigh : Shape → ℕ) (one other : List PrivateEvent) → brought weigh (one ++ other) ≡ brought weigh one + brought weigh other
brought_both weigh [] other = omega arith
brought_both weigh (event ∷ one) other = let rest = brought_both weigh one other in omega (arith, rest)
