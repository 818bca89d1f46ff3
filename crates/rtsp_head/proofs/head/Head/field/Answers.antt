use Rattle.std.proofs.Common.{List, ℕ, Option, sym, subst}
use Rattle.std.specs.Prelude.{IfSome, IsTrue}
use Rattle.std.specs.List.{list_all}
use Rattle.rtsp_head.specs.HeadParts.{HeadParts}
use Rattle.rtsp_head.specs.HeadText.{is_value, is_header}
use Rattle.rtsp_head.specs.Views.{fields_seen}
use Rattle.rtsp_head.proofs.SoundLemmas.{field_sound, some_seen}
use Rattle.rtsp_head.proofs.head.Head.field.Goals as goal

pub returns-clause-writable : goal.returns-clause-writable
returns-clause-writable c = λ writable.
    let sound = subst (λ (head : HeadParts). IsTrue (list_all is_header head.headers)) (sym c.self.view_is) writable.headers in
    some_seen (λ value. value.now) c.field.result
    (subst (λ (o : Option (List ℕ)). IfSome o (λ value. IsTrue (is_value value))) (sym c.field.ensures) (field_sound (fields_seen c.self.inside.fields) c.args.name.now sound))
