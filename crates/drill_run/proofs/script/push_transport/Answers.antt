use Rattle.std.proofs.Common.{◌≡◌, ◌++◌, ℕ, List, Some, OnOk, subst}
use Rattle.std.specs.Prelude.{codes}
use Rattle.rtsp_head.specs.Optional.{header_with}
use Rattle.drill_run.proofs.script.push_transport.Goals as goal

pub returns : goal.returns
returns c =
    subst (λ (value : List ℕ). OnOk c.push_text.result (c.push_text.new.self ≡ c.args.fields.now ++ header_with (codes "Transport") (Some value)))
    c.in_ok-transport.ensures c.push_text.ensures.ok
