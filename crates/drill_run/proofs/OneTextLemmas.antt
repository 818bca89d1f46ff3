-- Two drills of the same words have one text.
use Rattle.std.proofs.Common.{◌≡◌, ℕ, List, Option, Some, None, refl, sym, ap, ◌∙◌, subst}
use Rattle.gate_outside.specs.Contents.{Grows}
use Rattle.rtsp_uri.specs.declared.base.Bases.{Bases}
use Rattle.gateway_claim.specs.Cores.{IsCoreHistory}
use Rattle.gateway_claim.specs.Follows.{Follows, IsHistory}
use Rattle.gateway_claim.proofs.AskLemmas.{Following, FollowsOnce}
use Rattle.gateway_claim.proofs.NextLemmas.{one_next}
use Rattle.run_status.specs.declared.status.Status.TheVariants.{Done}
use Rattle.drill_run.specs.Turns.{Drilled}
use Rattle.drill_run.specs.Reports.{TellsDrill, DrillSays, IsDrilledHistory, drill_text}
use Rattle.drill_run.proofs.AddressLemmas.{same_bases}
use Rattle.drill_run.proofs.OneDrillLemmas.{one_drill}

-- through a core between the same addresses
pub one_text : (follows : Following) → FollowsOnce follows → (bases : Bases) (players number : ℕ) (one other : List ℕ) → TellsDrill (IsCoreHistory follows bases) players number one
    → TellsDrill (IsCoreHistory follows bases) players number other → one ≡ other
one_text follows once bases players number one other a b =
    a.told
    ∙ ap (λ (drilled : Drilled). drill_text players drilled) (one_drill follows once bases players number a.drilled b.drilled a.ran b.ran a.ended b.ended a.history b.history)
    ∙ sym b.told

-- A drill of the multiplexer is one between its addresses.
drilled_between : (players number : ℕ) (text : List ℕ) (bases : Bases) (tells : TellsDrill IsDrilledHistory players number text) → tells.history.bases ≡ bases → TellsDrill (IsHistory bases) players number text
drilled_between players number text bases tells same = record {
  drilled = tells.drilled;
  ran = tells.ran;
  ended = tells.ended;
  history = subst (λ (b : Bases). IsHistory b tells.drilled.history) same tells.history.is_history;
  told = tells.told;
}

pub one_drilled_text : (players number : ℕ) (one other : List ℕ) → TellsDrill IsDrilledHistory players number one → TellsDrill IsDrilledHistory players number other → one ≡ other
one_drilled_text players number one other a b =
    let same : a.history.bases ≡ b.history.bases =
    same_bases a.history.bases b.history.bases (a.history.front ∙ sym b.history.front) (a.history.up ∙ sym b.history.up) in
    one_text Follows one_next b.history.bases players number one other (drilled_between players number one b.history.bases a same) (drilled_between players number other b.history.bases b refl)

-- What has grown by a text is told by what it was before.
grown_once : (before one other : Option (List ℕ)) (text : List ℕ) → Grows before one text → Grows before other text → one ≡ other
grown_once None one other text a b = a ∙ sym b
grown_once (Some bytes) one other text a b = a ∙ sym b

pub written_once : (players number : ℕ) (before one other : Option (List ℕ)) → DrillSays IsDrilledHistory players number Done before one → DrillSays IsDrilledHistory players number Done before other → one ≡ other
written_once players number before one other a b =
    let same : a.text ≡ b.text = one_drilled_text players number a.text b.text a.tells b.tells in
    grown_once before one other b.text (subst (λ (text : List ℕ). Grows before one text) same a.grown) b.grown
