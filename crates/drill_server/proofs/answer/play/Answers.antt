use Rattle.drill_server.proofs.answer.play.Goals as goal

pub returns : goal.returns
returns c = rw (c.in_ok-play_text.ensures, c.in_ok-own.ensures, c.field.ensures)
