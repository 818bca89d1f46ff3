use Rattle.std.proofs.Common.{◌≡◌, ℕ, List, None, Some, ◌++◌, length, sym, ap, ◌∙◌, subst, arith}
use Rattle.std.proofs.lemmas.List.{length-append, take_all}
use Rattle.gate_bytes.specs.Ascii.{lf}
use Rattle.gate_bytes.specs.Places.{place_of}
use Rattle.rtsp_head.specs.Items.{Cut}
use Rattle.rtsp_frame.specs.Fronts.{IsHeadFront, IsKnownFront}
use Rattle.rtsp_frame.specs.declared.item_front.ItemFront.{ItemFront}
use Rattle.rtsp_frame.proofs.RestLemmas.{head_clear, none_cut, none_found}
use Rattle.rtsp_frame.proofs.held_head.hold.Goals as goal
use Rattle.rtsp_frame.proofs.held_head.hold.Goals.{In_ok-extend_from_slice}

-- the head goes on behind the piece
goes_on : (c : In_ok-extend_from_slice) → IsHeadFront (c.args.rest.now.items ++ c.args.piece.now) c.in-Line.field-0
goes_on c =
    let held : List ℕ = c.args.rest.now.items in
    let piece : List ℕ = c.args.piece.now in
    let front : IsHeadFront held c.in-Line.field-0 = subst (λ (front : ItemFront). IsKnownFront held front) c.in-Line.is c.requires in
    let none : place_of lf piece ≡ None = sym c.find.ensures.place ∙ none_found c.find.result (sym c.is_some.ensures ∙ c.if-is_some.false) in
    head_clear held piece c.in-Line.field-0 front (ap (place_of lf) (take_all (length piece) piece (omega arith)) ∙ none)
    (omega (arith, length-append held piece, c.len.ensures))

pub returns-clause-ok : goal.returns-clause-ok
returns-clause-ok c =
    let nothing = none_cut (c.args.rest.now.items ++ c.args.piece.now) c.in-Line.field-0 (goes_on c) in
    record {
      items = ap (λ (cut : Cut). cut.items) (sym nothing);
      rest = ap (λ (l : List ℕ). Some l) c.in_ok-extend_from_slice.ensures.items ∙ ap (λ (cut : Cut). cut.rest) (sym nothing);
    }

pub returns-clause-known : goal.returns-clause-known
returns-clause-known c =
    subst (λ (front : ItemFront). IsKnownFront c.extend_from_slice.new.self.items front) (sym c.in-Line.is)
    (subst (λ (l : List ℕ). IsHeadFront l c.in-Line.field-0) (sym c.in_ok-extend_from_slice.ensures.items) (goes_on c))
