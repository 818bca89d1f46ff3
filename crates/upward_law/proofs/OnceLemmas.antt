-- Each header of the answer to a request of the server stands once.
use Rattle.std.proofs.Common.{◌≡◌, ◌∙◌, ℕ, ◌<◌, ◌^◌, ◌==◌, Bool, true, false, cond, List, [], ◌∷◌, Option, Some, None, Result, Ok, Err, refl, sym, ap, subst}
use Rattle.std.specs.Prelude.{is_some, unwrap_or}
use Rattle.rtsp_head.specs.HeadParts.{Status}
use Rattle.rtsp_small.specs.declared.cseq.TheConstants.{CSEQ_TWO_DIGITS}
use Rattle.rtsp_status.specs.Reasons.{reason_of}
use Rattle.rtsp_uri.specs.declared.base.Bases.{Bases}
use Rattle.head_two.specs.declared.ask.Ask2.{Ask2}
use Rattle.head_two.specs.Answers.{answer_session, answer_headers}
use Rattle.head_two.specs.Messages.{version_two}
use Rattle.translate_up.proofs.SoundLemmas.{session_value}
use Rattle.gateway_claim.specs.declared.event.ToUp.{ToUp}
use Rattle.gateway_claim.specs.declared.event.UpCause.{UpCause}
use Rattle.gateway_claim.specs.Books.{Books}
use Rattle.gateway_claim.specs.Follows.{answer_due, heard_answer, up_due, Follows}
use Rattle.gateway_claim.specs.Happenings.{Happening, enters, takes, ends, lags, hears, up_ends, HistoryEntry, fault_in, nothing_up}
use Rattle.gateway_claim.specs.OwnEvents.{books_of}
use Rattle.gateway_claim.specs.ServerItems.{Heard, replies, requests, frames, faults, heard, HeardNotice, notice_of, answer_to}
use Rattle.upward_law.specs.HeaderNames.{names_differ, HasEachHeaderOnce}
use Rattle.upward_law.proofs.EntryLemmas.{IsTold, notice_told, heard_small}
use Rattle.upward_law.proofs.NameLemmas.{message_once}
use Rattle.upward_law.proofs.ReadLemmas.{answer_fits}

-- It names a session at most.
session_differs : (code : ℕ) (session : Option (List ℕ)) → names_differ (answer_headers code session) ≡ true
session_differs code session = by (code == 200) session
  where
    by : (success : Bool) (one : Option (List ℕ)) → names_differ (cond success (answer_session one) []) ≡ true
    by true None = refl
    by true (Some id) = refl
    by false one = refl

answer_once : (request : Ask2) (notice : Result HeardNotice ℕ) → request.cseq < 10 ^ CSEQ_TWO_DIGITS → IsTold notice → HasEachHeaderOnce (answer_to request notice)
answer_once request (Ok notice) short valid =
    message_once (Status version_two 200 (unwrap_or (reason_of 200) [])) request.cseq (answer_headers 200 (Some notice.id)) [] (answer_fits 200 request.cseq (Some notice.id) refl short (session_value (Some notice.id) valid))
    (session_differs 200 (Some notice.id))
answer_once request (Err code) short told =
    message_once (Status version_two code (unwrap_or (reason_of code) [])) request.cseq (answer_headers code None) [] (answer_fits code request.cseq None told.0 short tt) (session_differs code None)

heard_once : (books : Books) (said : Heard) (text : List ℕ) → ((request : Ask2) → said ≡ requests request → request.cseq < 10 ^ CSEQ_TWO_DIGITS) → heard_answer books said ≡ Some text → HasEachHeaderOnce text
heard_once books (replies reply) text small due = cc
heard_once books (requests request) text small due =
    let same : answer_to request (notice_of books.holder request) ≡ text = cc in
    subst HasEachHeaderOnce same (answer_once request (notice_of books.holder request) (small request refl) (notice_told books.holder request))
heard_once books (frames channel rest) text small due = cc
heard_once books (faults fault) text small due = cc

due_once : (books : Books) (h : Happening) (text : List ℕ) → answer_due books h ≡ Some text → HasEachHeaderOnce text
due_once books (enters conn) text due = cc
due_once books (takes conn shape) text due = cc
due_once books (ends conn) text due = cc
due_once books (lags conn) text due = cc
due_once books (hears shape) text due = heard_once books (heard shape) text (heard_small shape shape.kind) due
due_once books (up_ends cause) text due = cc

-- So it is of an entry, where the connection to the server stands.
entry_once : (bases : Bases) (T : List HistoryEntry) (h : Happening) (text : List ℕ) (fault : Option UpCause) → (cond (is_some fault) nothing_up (up_due bases T h)).answer ≡ Some text → HasEachHeaderOnce text
entry_once bases T h text (Some cause) due = cc
entry_once bases T h text None due = due_once (books_of T) h text due

pub answered_once : (bases : Bases) (T : List HistoryEntry) (e : HistoryEntry) (text : List ℕ) → Follows bases T e → e.outcome.to_up.answer ≡ Some text → HasEachHeaderOnce text
answered_once bases T e text follows due = entry_once bases T e.happening text (fault_in (e ∷ T)) (ap (λ (up : ToUp). up.answer) (sym follows.spelled) ∙ due)
