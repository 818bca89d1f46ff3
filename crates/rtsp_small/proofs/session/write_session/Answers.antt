use Rattle.std.proofs.Common.{◌≡◌, ◌∙◌, ap, rules}
use Rattle.rtsp_small.specs.Sessions.{session_of, session_text}
use Rattle.rtsp_small.proofs.SessionLemmas.{session_read}
use Rattle.rtsp_small.proofs.session.write_session.Goals as goal

pub returns-clause-read : goal.returns-clause-read
returns-clause-read c =
    let text : c.push_timeout.new.text ≡ session_text (record { id = c.args.id.now; timeout = c.args.timeout }) = search rules in
    ap session_of text ∙ session_read (record { id = c.args.id.now; timeout = c.args.timeout }) c.requires.id c.requires.timeout
