-- The reading goes on from where the entries so far end.
use Rattle.std.proofs.Common.{◌≡◌, ℕ, zero, suc, ◌+◌, ◌≤◌, Bool, List, [], ◌∷◌, ◌++◌, length, take, drop, Option, Some, None, Result, Ok, Err, refl, sym, ◌∙◌, ap, subst, arith, length-drop}
use Rattle.gate_transcript.specs.declared.entry.Entry.{Entry}
use Rattle.gate_transcript.specs.declared.fault.BadEntryKind.{BadEntryKind}
use Rattle.gate_transcript.specs.declared.head.EntryHead.{EntryHead}
use Rattle.gate_transcript.specs.Transcript.{magic, has_entered, first_head, entry_with, bad_entry, TranscriptReading, reading_with, reading_by, reading_on, reading}
use Rattle.gate_transcript.proofs.HeadLemmas.{front_len, first_more, entry_more, rest_more}

-- the test that the entries so far make
abbrev pub among : List Entry → ℕ → Bool
among entries conn = has_entered conn entries

-- any two numbers of turns that are enough give one reading
same_with : (r : Result (Option EntryHead) BadEntryKind) (place : ℕ) (entries : List Entry) (bytes : List ℕ) (f g : ℕ → List Entry → List ℕ → TranscriptReading) →
    ((p : ℕ) (es : List Entry) (n : ℕ) → f p es (drop (9 + n) bytes) ≡ g p es (drop (9 + n) bytes)) → reading_with r place entries bytes f ≡ reading_with r place entries bytes g
same_with (Ok None) place entries bytes f g same = refl
same_with (Ok (Some head)) place entries bytes f g same = same (place + 9 + head.size) (entry_with head bytes ∷ entries) head.size
same_with (Err bad) place entries bytes f g same = refl

pub same_turns : (n m place : ℕ) (entries : List Entry) (bytes : List ℕ) → length bytes ≤ n → length bytes ≤ m → reading_by n place entries bytes ≡ reading_by m place entries bytes
same_turns zero zero place entries bytes h k = refl
same_turns zero (suc m) place entries [] h k = refl
same_turns zero (suc m) place entries (b ∷ bytes) h k = absurd (omega arith)
same_turns (suc n) zero place entries [] h k = refl
same_turns (suc n) zero place entries (b ∷ bytes) h k = absurd (omega arith)
same_turns (suc n) (suc m) place entries [] h k = refl
same_turns (suc n) (suc m) place entries (b ∷ bytes) h k =
    same_with (first_head (among entries) (b ∷ bytes)) place entries (b ∷ bytes) (reading_by n) (reading_by m)
    (λ p es s. same_turns n m p es (drop (9 + s) (b ∷ bytes)) (rw (length-drop (9 + s) (b ∷ bytes)) (omega arith)) (rw (length-drop (9 + s) (b ∷ bytes)) (omega arith)))

-- the reading of bytes that begin with a whole entry
pub step_whole : (place : ℕ) (entries : List Entry) (bytes : List ℕ) (head : EntryHead) → first_head (among entries) bytes ≡ Ok (Some head) →
    reading_on place entries bytes ≡ reading_on (place + 9 + head.size) (entry_with head bytes ∷ entries) (drop (9 + head.size) bytes)
step_whole place entries [] head e = absurd (cc)
step_whole place entries (b ∷ bytes) head e =
    subst (λ (r : Result (Option EntryHead) BadEntryKind). reading_with r place entries (b ∷ bytes) (reading_by (length bytes)) ≡ reading_on (place + 9 + head.size) (entry_with head (b ∷ bytes) ∷ entries) (drop (9 + head.size) (b ∷ bytes))) (sym e)
    (same_turns (length bytes) (length (drop (9 + head.size) (b ∷ bytes))) (place + 9 + head.size) (entry_with head (b ∷ bytes) ∷ entries) (drop (9 + head.size) (b ∷ bytes))
    (rw (length-drop (9 + head.size) (b ∷ bytes)) (omega arith)) (omega arith))

-- a whole entry, and then anything
pub onward_more : (place : ℕ) (entries : List Entry) (bytes more : List ℕ) (head : EntryHead) → first_head (among entries) bytes ≡ Ok (Some head) →
    reading_on place entries (take (9 + head.size) bytes ++ more) ≡ reading_on (place + 9 + head.size) (entry_with head bytes ∷ entries) more
onward_more place entries bytes more head e =
    let enough = front_len (among entries) bytes head e in
    let step = step_whole place entries (take (9 + head.size) bytes ++ more) head (first_more (among entries) bytes more head e) in
    let rest : drop (9 + head.size) (take (9 + head.size) bytes ++ more) ≡ more = rest_more bytes more (9 + head.size) enough in
    let entry : entry_with head (take (9 + head.size) bytes ++ more) ≡ entry_with head bytes = entry_more bytes more head enough in
    step ∙ (ap (λ (l : List ℕ). reading_on (place + 9 + head.size) (entry_with head (take (9 + head.size) bytes ++ more) ∷ entries) l) rest
    ∙ ap (λ (x : Entry). reading_on (place + 9 + head.size) (x ∷ entries) more) entry)

-- the reading of bytes that begin with a fault, and of none
pub step_bad : (place : ℕ) (entries : List Entry) (bytes : List ℕ) (bad : BadEntryKind) → first_head (among entries) bytes ≡ Err bad → reading_on place entries bytes ≡ record { entries = entries; fault = Some (bad_entry place bad) }
step_bad place entries [] bad e = absurd (cc)
step_bad place entries (b ∷ bytes) bad e =
    subst (λ (r : Result (Option EntryHead) BadEntryKind). reading_with r place entries (b ∷ bytes) (reading_by (length bytes)) ≡ record { entries = entries; fault = Some (bad_entry place bad) }) (sym e) refl

pub step_none : (place : ℕ) (entries : List Entry) (bytes : List ℕ) → first_head (among entries) bytes ≡ Ok None → reading_on place entries bytes ≡ record { entries = entries; fault = None }
step_none place entries [] e = refl
step_none place entries (b ∷ bytes) e =
    subst (λ (r : Result (Option EntryHead) BadEntryKind). reading_with r place entries (b ∷ bytes) (reading_by (length bytes)) ≡ record { entries = entries; fault = None }) (sym e) refl

-- the entries so far stay
more_with : (r : Result (Option EntryHead) BadEntryKind) (place : ℕ) (entries : List Entry) (bytes : List ℕ) (f : ℕ → List Entry → List ℕ → TranscriptReading) →
    ((p : ℕ) (es : List Entry) (l : List ℕ) → length es ≤ length (f p es l).entries) → length entries ≤ length (reading_with r place entries bytes f).entries
more_with (Ok None) place entries bytes f more = omega arith
more_with (Ok (Some head)) place entries bytes f more =
    let h = more (place + 9 + head.size) (entry_with head bytes ∷ entries) (drop (9 + head.size) bytes) in omega arith
more_with (Err bad) place entries bytes f more = omega arith

pub more_entries : (n place : ℕ) (entries : List Entry) (bytes : List ℕ) → length entries ≤ length (reading_by n place entries bytes).entries
more_entries zero place entries bytes = omega arith
more_entries (suc n) place entries bytes = more_with (first_head (among entries) bytes) place entries bytes (reading_by n) (more_entries n)

-- the reading of the magic, and then anything
pub after_magic : (more : List ℕ) → reading (magic ++ more) ≡ reading_on 8 [] more
after_magic more = refl
