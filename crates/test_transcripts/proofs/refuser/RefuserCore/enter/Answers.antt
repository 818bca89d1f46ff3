use Rattle.std.proofs.Common.{◌∙◌}
use Rattle.std.specs.Prelude.{nat_eq}
use Rattle.std.specs.HashSet.{contains}
use Rattle.gateway_replay.proofs.AliveLemmas.{with_one}
use Rattle.test_transcripts.proofs.RefuserLemmas.{none_over, entered_standing, entered_over}
use Rattle.test_transcripts.proofs.refuser.RefuserCore.enter.Goals as goal

pub returns-then-is_some-clause-ok : goal.returns-then-is_some-clause-ok
returns-then-is_some-clause-ok c = λ T s never.
    entered_over c.args.self.now.bases (λ i. contains nat_eq c.args.self.now.numbers i) c.args.self.now.over c.args.conn T c.if-is_some.ensures s never

pub returns-clause-ok : goal.returns-clause-ok
returns-clause-ok c = λ T s never.
    let old = c.args.self.now in
    entered_standing old.bases (λ i. contains nat_eq old.numbers i) (λ i. contains nat_eq c.insert.new.self i) old.over c.args.conn T (none_over old.over c.if-is_some.ensures) s never
    (λ i. c.in_ok-insert.ensures.updates.0 i ∙ with_one (nat_eq c.args.conn i) (contains nat_eq old.numbers i))
