-- Each place stays tidy, and what is known stays short enough.
use Rattle.std.proofs.Common.{◌∙◌, ℕ, List, Option, refl, sym, ap, subst}
use Rattle.std.specs.Option.{option_copied}
use Rattle.client_slot.specs.Purposes.{purpose_seen}
use Rattle.client_slot.specs.Changes.{sessions_after, described_after}
use Rattle.client_machine.specs.Sights.{AreTidySights, are_sights_short}
use Rattle.client_machine.proofs.SightLemmas.{replied_tidily, short_is, kept_short, replied_short, told_short}
use Rattle.client_machine.proofs.after.after_reply.Goals as goal

pub invariant_of-after : goal.invariant_of-after
invariant_of-after c =
    let slot = c.args.slot.now in
    record {
      places = c.keeps.ensures.places;
      tidy = subst AreTidySights (sym (c.changed_by-changed.ensures.shows 0))
          (replied_tidily slot.pending (purpose_seen c.args.pending) 0 c.args.code slot.described (option_copied c.args.id) slot.sessions c.requires.pending c.keeps.ensures.tidy c.keeps.ensures.placed);
      controls = ap are_sights_short (c.changed_by-changed.ensures.shows 0)
          ∙ replied_short slot.pending (purpose_seen c.args.pending) 0 c.args.code slot.described (option_copied c.args.id) slot.sessions c.requires.pending c.keeps.ensures.placed
          (kept_short c.described.result slot.described c.described.ensures.uri c.described.ensures.short) c.keeps.ensures.controls;
      short = short_is (option_copied c.described.result) (kept_short c.described.result _ refl c.described.ensures.short);
    }

pub invariant_of-result-clause-short : goal.invariant_of-result-clause-short
invariant_of-result-clause-short c =
    let slot = c.args.slot.now in
    let purpose = purpose_seen c.args.pending in
    let after = sessions_after purpose 0 c.args.code slot.described (option_copied c.args.id) slot.sessions in
    told_short slot.pending purpose c.args.code slot.described (option_copied c.described_then.result) slot.sessions after c.requires.pending c.keeps.ensures.placed (kept_short c.described.result slot.described c.described.ensures.uri c.described.ensures.short)
    (c.described_then.ensures after (c.changed_by-changed.ensures.shows 0) ∙ ap (λ (told : Option (List ℕ)). described_after purpose c.args.code after told) c.described.ensures.uri)
