use Rattle.std.proofs.Common.{◌∷◌, sym, subst}
use Rattle.std.specs.Prelude.{nat_eq}
use Rattle.std.specs.HashSet.{contains}
use Rattle.gateway_claim.specs.Happenings.{happening_of, entry_of}
use Rattle.rtsp_uri.specs.declared.base.Bases.{Bases}
use Rattle.test_transcripts.specs.Refuser.{StandsRefusing}
use Rattle.test_transcripts.proofs.RefuserLemmas.{none_over, given_short, given_stands, silent_stands}
use Rattle.test_transcripts.proofs.refuser.RefuserCore.commit.Goals as goal

pub give-requires-clause-standing : goal.give-requires-clause-standing
give-requires-clause-standing c = none_over c.args.self.now.over c.if-is_some.ensures

pub returns-then-is_some-clause-stands : goal.returns-then-is_some-clause-stands
returns-then-is_some-clause-stands c = λ T s.
    silent_stands c.args.self.now.bases (λ i. contains nat_eq c.args.self.now.numbers i) c.args.self.now.over T c.args.event c.nothing.result c.if-is_some.ensures s c.nothing.ensures

pub returns-clause-stands : goal.returns-clause-stands
returns-clause-stands c = λ T s.
    let old = c.args.self.now in
    let new = c.give.new.self in
    subst (λ (bases : Bases). StandsRefusing bases (λ i. contains nat_eq new.numbers i) new.over (entry_of c.args.event c.give.result ∷ T)) (sym c.give.ensures.bases)
    (given_stands old.bases (λ i. contains nat_eq old.numbers i) (λ i. contains nat_eq new.numbers i) old.over new.over T c.args.event c.give.result (none_over old.over c.if-is_some.ensures) s
    c.give.ensures.outcome c.give.ensures.numbers c.give.ensures.over)

pub returns-clause-short : goal.returns-clause-short
returns-clause-short c = given_short (λ i. contains nat_eq c.args.self.now.numbers i) (happening_of c.args.event) c.give.result c.give.ensures.outcome
