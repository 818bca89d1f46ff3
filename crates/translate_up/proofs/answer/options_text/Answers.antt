use Rattle.std.proofs.Common.{◌++◌, ℕ, List, ◌∙◌, ap}
use Rattle.std.specs.Prelude.{codes}
use Rattle.translate_up.proofs.OptionsLemmas.{options_pushed}
use Rattle.translate_up.proofs.answer.options_text.Goals as goal

pub returns : goal.returns
returns c =
    options_pushed c.args.cseq c.push_slice.new.self c.push_decimal.new.out c.push_slice-2.new.self c.push_methods.new.text c.push_slice-3.new.self
    (c.in_ok-push_slice.ensures.ok ∙ ap (λ (text : List ℕ). text ++ codes "RTSP/1.0 200 OK\r\nCSeq: ") c.in_ok-text.ensures)
    c.in_ok-push_decimal.ensures.ok c.in_ok-push_slice-2.ensures.ok c.in_ok-push_methods.ensures.ok c.in_ok-push_slice-3.ensures.ok
