use Rattle.std.proofs.Common.{◌≡◌, ℕ, ◌<◌, false, List, [], ◌∷◌, length, None, refl, sym, ◌∙◌, ap, arith}
use Rattle.std.specs.Option.{option_copied}
use Rattle.gate_bytes.specs.Ascii.{comma}
use Rattle.rtsp_transport.specs.Splits.{unquoted_parts}
use Rattle.rtsp_transport.specs.Grants.{grant_among}
use Rattle.rtsp_transport.specs.Splits.{unquoted_left}
use Rattle.rtsp_transport.proofs.SplitLemmas.{some_part}
use Rattle.rtsp_transport.proofs.grant.sole_grant.Goals as goal

-- two alternatives are no grant
among_two : (first : List ℕ) (others : List (List ℕ)) → 0 < length others → None ≡ grant_among (first ∷ others)
among_two first [] h = absurd (omega arith)
among_two first (next ∷ others) h = refl

pub returns-in-Some : goal.returns-in-Some
returns-in-Some c =
    let parts : unquoted_parts comma c.args.value.now ≡ c.first_part.result.0.now ∷ unquoted_parts comma c.in-Some.field-0.now =
    c.first_part.ensures.parts ∙ ap (λ rest. c.first_part.result.0.now ∷ unquoted_left comma (option_copied rest)) c.in-Some.is in
    among_two c.first_part.result.0.now (unquoted_parts comma c.in-Some.field-0.now) (some_part comma false c.in-Some.field-0.now) ∙ sym (ap grant_among parts)
