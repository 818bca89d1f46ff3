use Rattle.std.proofs.Common.{inl, inr, length, sym, ap, ◌∙◌}
use Rattle.rtsp_frame.specs.declared.item_front.ItemFront.{ItemFront}
use Rattle.rtsp_frame.specs.Fronts.{head_held}
use Rattle.rtsp_frame.proofs.RestLemmas.{front_unfinished}
use Rattle.rtsp_frame.proofs.rest.Rest.unfinished.Goals as goal

pub returns-in-Nothing : goal.returns-in-Nothing
returns-in-Nothing c =
    let bytes = c.args.self.now.bytes in
    let is = front_unfinished bytes.items c.args.self.now.front c.args.self.now.known in
    let len = c.len.ensures ∙ bytes.ok.0 in
    elim c.in-Nothing.is [
      | inl nothing ↦ len ∙ sym (is ∙ ap (λ (f : ItemFront). head_held f (length bytes.items)) nothing)
      | inr line ↦ len ∙ sym (is ∙ ap (λ (f : ItemFront). head_held f (length bytes.items)) line.1)
    ]

pub returns-in-Frame : goal.returns-in-Frame
returns-in-Frame c =
    let bytes = c.args.self.now.bytes in
    let is = front_unfinished bytes.items c.args.self.now.front c.args.self.now.known in
    elim c.in-Frame.is [
      | inl frame ↦ sym (is ∙ ap (λ (f : ItemFront). head_held f (length bytes.items)) frame)
      | inr span ↦ sym (is ∙ ap (λ (f : ItemFront). head_held f (length bytes.items)) span.1)
    ]
