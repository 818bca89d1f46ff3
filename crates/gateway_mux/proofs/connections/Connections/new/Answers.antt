use Rattle.std.proofs.Common.{◌≡◌, ◌∙◌, ◌+◌, ℕ, true, false, sym, refl, arith}
use Rattle.session_one.specs.declared.parts.TheConstants.{MOST_SESSIONS}
use Rattle.gateway_mux.specs.Pictures.{picture}
use Rattle.gateway_mux.specs.Spare.{left}
use Rattle.gateway_mux.proofs.UpkeepLemmas.{keeps_none}
use Rattle.gateway_mux.proofs.OverLemmas.{kept_along}
use Rattle.gateway_mux.proofs.connections.Connections.new.Goals as goal

none_issued : (n : ℕ) → n + 1 ≡ 1 → n ≡ 0
none_issued n e = grind arith

pub invariant_of-result : goal.invariant_of-result
invariant_of-result c = record {
  kept = ∣ keeps_none c.args.bases (picture c.new.result c.starting.result) (left 1 c.starting.result.requests.spare c.new.result) (left MOST_SESSIONS c.starting.result.sessions.spare c.new.result)
      (record {
        is_history = tt;
        standing = refl;
        clients = λ i. kept_along (c.new.ensures.none i) refl refl;
        asker = λ n. c.starting.ensures.open n;
        held = λ p. c.starting.ensures.held p;
        holder = λ id. c.starting.ensures.bound id;
        issued = none_issued c.starting.result.requests.issued c.starting.ensures.issued;
      })
      (λ i. c.new.ensures.none i) (λ p. c.starting.ensures.held p) ∣₁;
  spare = λ is. absurd (true_false (sym is ∙ c.new.ensures.ready));
  spare_session = λ is. absurd (true_false (sym is ∙ c.new.ensures.ready));
}
  where
    true_false : true ≡ false → ⊥
    true_false e = cc
