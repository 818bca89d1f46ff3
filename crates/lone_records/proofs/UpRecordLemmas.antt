-- The records of a history tell what went up.
use Rattle.std.proofs.Common.{◌≡◌, ◌∙◌, ℕ, zero, suc, ◌&&◌, Bool, true, false, cond, List, [], ◌∷◌, ◌++◌, Option, Some, None, refl, sym, ap, subst, unwrap_or}
use Rattle.std.specs.Prelude.{is_none}
use Rattle.std.specs.List.{flat_map}
use Rattle.std.proofs.lemmas.Grind.{flat_map-append}
use Rattle.std.proofs.lemmas.List.{append-nil}
use Rattle.client_machine.specs.declared.why.CloseWhy.{CloseWhy}
use Rattle.client_machine.specs.declared.why.CloseWhy.TheVariants.{Upstream}
use Rattle.gateway_claim.specs.declared.event.Closed.{Closed}
use Rattle.gateway_claim.specs.declared.event.Closed.TheVariants as closings
use Rattle.gateway_claim.specs.declared.event.Outcome.{Outcome}
use Rattle.gateway_claim.specs.declared.event.ToClient.{ToClient}
use Rattle.gateway_claim.specs.declared.event.ToUp.{ToUp}
use Rattle.gateway_claim.specs.declared.event.UpCause.{UpCause}
use Rattle.gateway_claim.specs.declared.event.UpMessage.{UpMessage}
use Rattle.gateway_claim.specs.declared.event.UpMessage.TheVariants.{Request, Frame}
use Rattle.gateway_claim.specs.Happenings.{close_byte, HistoryEntry, is_alive}
use Rattle.run_status.specs.CauseTexts.{fault_text}
use Rattle.gateway_replay.specs.declared.records.RecordKind.TheVariants as kind
use Rattle.gateway_replay.specs.Records.{record_byte, record_text}
use Rattle.gateway_replay.specs.RecordTexts.{piece_record, up_message_text, up_record, close_record, end_record, ends_below, numbers, closed_records, fault_record, records_of, records}
use Rattle.upward_law.specs.Due.{message_bytes, bytes_up, stream_up}
use Rattle.lone_records.specs.UpRecords.{RecordParts, spelled_parts, record_due, told_up, TellsUp}

-- what one record tells
abbrev tells : RecordParts → List ℕ
tells one = told_up one.kind one.body

nothing_told : TellsUp [] []
nothing_told = record { all = []; spelled = refl; bodies = refl }

one_told : (one : RecordParts) → TellsUp (spelled_parts one) (tells one)
one_told one = record { all = one ∷ []; spelled = sym (append-nil (spelled_parts one)); bodies = append-nil (tells one) }

both_told : (first second bytes others : List ℕ) → TellsUp first bytes → TellsUp second others → TellsUp (first ++ second) (bytes ++ others)
both_told first second bytes others one two = record {
  all = one.all ++ two.all;
  spelled = ap (λ l. l ++ second) one.spelled ∙ ap (λ l. flat_map spelled_parts one.all ++ l) two.spelled ∙ sym (flat_map-append spelled_parts one.all two.all);
  bodies = flat_map-append tells one.all two.all ∙ ap (λ l. l ++ flat_map tells two.all) one.bodies ∙ ap (λ l. bytes ++ l) two.bodies;
}

-- The record of what an entry hands up has all its bytes.
same_message : (message : Option UpMessage) → up_message_text message ≡ message_bytes message
same_message None = refl
same_message (Some (Request text)) = refl
same_message (Some (Frame text)) = refl

pub up_recorded : (up : ToUp) → up_record up ≡ flat_map spelled_parts (record_due up)
up_recorded up =
    ap (λ l. cond (is_none up.answer && is_none up.message) [] (record_text (record_byte kind.HandedUp) 0 (unwrap_or up.answer [] ++ l))) (same_message up.message) ∙ by (is_none up.answer && is_none up.message)
  where
    one : RecordParts
    one = record { kind = kind.HandedUp; conn = 0; body = bytes_up up }

    by : (none : Bool) → cond none [] (spelled_parts one) ≡ flat_map spelled_parts (cond none [] (one ∷ []))
    by true = refl
    by false = sym (append-nil (spelled_parts one))

due_told : (answer : Option (List ℕ)) (message : Option UpMessage) → flat_map tells (record_due (record { answer = answer; message = message })) ≡ bytes_up (record { answer = answer; message = message })
due_told None None = refl
due_told None (Some message) = append-nil (message_bytes (Some message))
due_told (Some text) message = append-nil (text ++ message_bytes message)

up_told : (up : ToUp) → TellsUp (up_record up) (bytes_up up)
up_told up = record { all = record_due up; spelled = up_recorded up; bodies = due_told up.answer up.message }

-- The other records tell nothing of it.
piece_told : (piece : Option ToClient) → TellsUp (piece_record piece) []
piece_told None = nothing_told
piece_told (Some piece) = one_told (record { kind = kind.Handed; conn = piece.conn; body = piece.bytes })

close_told : (conn : ℕ) (why : CloseWhy) → TellsUp (close_record conn why) []
close_told conn why = one_told (record { kind = kind.Closed; conn = conn; body = close_byte why ∷ [] })

end_told : (i : ℕ) (T : List HistoryEntry) → TellsUp (end_record i T) []
end_told i T = by (is_alive i T)
  where
    by : (alive : Bool) → TellsUp (cond alive (close_record i Upstream) []) []
    by true = close_told i Upstream
    by false = nothing_told

ends_told : (i : ℕ) (T : List HistoryEntry) → TellsUp (ends_below i T) []
ends_told zero T = nothing_told
ends_told (suc i) T = both_told (ends_below i T) (end_record i T) [] [] (ends_told i T) (end_told i T)

closed_told : (closed : Closed) (T : List HistoryEntry) → TellsUp (closed_records closed T) []
closed_told closings.Nobody T = nothing_told
closed_told (closings.One conn why) T = close_told conn why
closed_told closings.All T = ends_told numbers T

fault_told : (fault : Option UpCause) → TellsUp (fault_record fault) []
fault_told None = nothing_told
fault_told (Some cause) = one_told (record { kind = kind.Fault; conn = 0; body = fault_text cause })

-- So it is of an entry, and of a whole history.
entry_told : (outcome : Outcome) (T : List HistoryEntry) → TellsUp (records_of outcome T) (bytes_up outcome.to_up)
entry_told outcome T =
    let up = bytes_up outcome.to_up in
    let pieces = piece_record outcome.to_client ++ up_record outcome.to_up in
    subst (TellsUp (records_of outcome T)) (append-nil (up ++ []) ∙ append-nil up)
    (both_told (pieces ++ closed_records outcome.closed T) (fault_record outcome.fault) (up ++ []) []
    (both_told pieces (closed_records outcome.closed T) up [] (both_told (piece_record outcome.to_client) (up_record outcome.to_up) [] up (piece_told outcome.to_client) (up_told outcome.to_up)) (closed_told outcome.closed T))
    (fault_told outcome.fault))

pub history_told : (T : List HistoryEntry) → TellsUp (records T) (stream_up T)
history_told [] = nothing_told
history_told (e ∷ T) = both_told (records T) (records_of e.outcome T) (stream_up T) (bytes_up e.outcome.to_up) (history_told T) (entry_told e.outcome T)
