-- The session at the place is shown, and has the id that the field names.
use Rattle.std.proofs.Common.{◌≡◌, ◌∙◌, Some, sym, ap, subst}
use Rattle.std.specs.Option.{option_copied}
use Rattle.translate_up.specs.Subjects.{judged_seen, IsNamedSession}
use Rattle.translate_up.specs.Views.{session_shown, given_of, Judged, judged_at, judged_by}
use Rattle.translate_up.proofs.ViewLemmas.{shown_at}
use Rattle.translate_up.proofs.SessionNameLemmas.{judged_named}
use Rattle.translate_up.proofs.subject.Subject.named.Goals as goal

pub at-requires : goal.at-requires
at-requires c = shown_at c.args.view.now.sessions.now c.in-Some.place ∙ ap session_shown (sym c.session_at.ensures)

pub returns-in-Some-clause-named : goal.returns-in-Some-clause-named
returns-in-Some-clause-named c =
    let given = given_of c.args.view.now in
    let field = option_copied c.args.field in
    let place : c.place_named.result ≡ Some c.in-Some.place = c.in-Some.is in
    let judged : judged_seen c.at.result ≡ judged_by given field = c.at.ensures ∙ ap (judged_at given) (sym place ∙ c.place_named.ensures.place) in
    subst (λ (one : Judged). IsNamedSession one.session field) (sym judged) (judged_named given field)
