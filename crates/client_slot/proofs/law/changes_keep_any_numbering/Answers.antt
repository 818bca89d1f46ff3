-- Each change by its lemma.
use Rattle.client_slot.proofs.RenumberLemmas.{queueing_under, reply_under, note_under, release_under, close_under, closing_under, text_under}
use Rattle.client_slot.proofs.law.changes_keep_any_numbering.Goals as goal

pub returns-clause-reply : goal.returns-clause-reply
returns-clause-reply c = reply_under

pub returns-clause-note : goal.returns-clause-note
returns-clause-note c = note_under

pub returns-clause-release : goal.returns-clause-release
returns-clause-release c = release_under

pub returns-clause-closing : goal.returns-clause-closing
returns-clause-closing c = closing_under

pub returns-clause-text : goal.returns-clause-text
returns-clause-text c = text_under

pub returns-clause-queueing : goal.returns-clause-queueing
returns-clause-queueing c = queueing_under

pub returns-clause-close : goal.returns-clause-close
returns-clause-close c = close_under
