-- The entries of a reading come as they may: a connection enters once, and all else comes after that.
use Rattle.std.proofs.Common.{◌≡◌, ℕ, zero, suc, ◌+◌, Bool, true, false, cond, List, [], ◌∷◌, ◌++◌, length, drop, Option, None, Some, Result, Ok, Err, refl, sym, ap, subst, nat_eq}
use Rattle.std.specs.List.{starts_with}
use Rattle.gate_transcript.specs.declared.entry.Entry.{Entry}
use Rattle.gate_transcript.specs.declared.fault.BadEntryKind.{BadEntryKind}
use Rattle.gate_transcript.specs.declared.head.EntryHead.{EntryHead}
use Rattle.gate_transcript.specs.declared.reader.ReaderStage.{ReaderStage}
use Rattle.gate_transcript.specs.declared.reader.ReaderStage.TheVariants.{Front, Entries, Stopped}
use Rattle.gate_transcript.specs.declared.reader.EntryReader.{EntryReader}
use Rattle.gate_transcript.specs.Transcript.{magic, has_entered, may_come, sound_head, bad_entry, entry_head, first_head, entry_with, TranscriptReading, reading_with, reading_by, reading_on, reading}
use Rattle.gate_transcript.specs.Bodies.{may_have_length}
use Rattle.gate_transcript.specs.Reads.{ReadsBy, ReadsSo}
use Rattle.gate_transcript.proofs.HeadLemmas.{first_parts}

abbrev pub AreProper : List Entry → Type 0
AreProper [] = Unit {0}
AreProper (e ∷ entries) = (may_come (λ conn. has_entered conn entries) e.kind e.conn ≡ true) × AreProper entries

sound_may : (has : ℕ → Bool) (found : Option EntryHead) (head : EntryHead) → sound_head has found ≡ Ok head → may_come has head.kind head.conn ≡ true
sound_may has None head e = absurd (cc)
sound_may has (Some h) head e = at (may_come has h.kind h.conn) refl e
  where
    sized : Bool → Result EntryHead BadEntryKind
    sized fits = cond fits (Ok h) (Err BadEntryKind.Length)

    at : (may : Bool) → may_come has h.kind h.conn ≡ may → cond may (sized (may_have_length h.kind h.size)) (Err BadEntryKind.Conn) ≡ Ok head
        → may_come has head.kind head.conn ≡ true
    at false same f = absurd (cc)
    at true same f = fits (may_have_length h.kind h.size) f
      where
        fits : (b : Bool) → sized b ≡ Ok head → may_come has head.kind head.conn ≡ true
        fits false g = absurd (cc)
        fits true g = let one : h ≡ head = cc in subst (λ (x : EntryHead). may_come has x.kind x.conn ≡ true) one same

first_may : (has : ℕ → Bool) (bytes : List ℕ) (head : EntryHead) → first_head has bytes ≡ Ok (Some head) → may_come has head.kind head.conn ≡ true
first_may has [] head e = absurd (cc)
first_may has (b ∷ bytes) head e = sound_may has (entry_head b bytes) head (first_parts has b bytes head e).right

proper_with : (n place : ℕ) (entries : List Entry) (bytes : List ℕ) (first : Result (Option EntryHead) BadEntryKind)
    → first_head (λ conn. has_entered conn entries) bytes ≡ first → AreProper entries
    → ((p : ℕ) (es : List Entry) (bs : List ℕ) → AreProper es → AreProper (reading_by n p es bs).entries)
    → AreProper (reading_with first place entries bytes (reading_by n)).entries
proper_with n place entries bytes (Ok None) e proper again = proper
proper_with n place entries bytes (Ok (Some head)) e proper again =
    again (place + 9 + head.size) (entry_with head bytes ∷ entries) (drop (9 + head.size) bytes) (first_may (λ conn. has_entered conn entries) bytes head e, proper)
proper_with n place entries bytes (Err fault) e proper again = proper

proper_by : (n place : ℕ) (entries : List Entry) (bytes : List ℕ) → AreProper entries → AreProper (reading_by n place entries bytes).entries
proper_by zero place entries bytes proper = proper
proper_by (suc n) place entries bytes proper =
    proper_with n place entries bytes (first_head (λ conn. has_entered conn entries) bytes) refl proper (proper_by n)

pub reading_proper : (bytes : List ℕ) → AreProper (reading bytes).entries
reading_proper bytes = at (starts_with nat_eq bytes magic)
  where
    at : (b : Bool) → AreProper (cond b (reading_on 8 [] (drop 8 bytes)) (record { entries = []; fault = Some (bad_entry 0 BadEntryKind.Magic) })).entries
    at true = proper_by (length (drop 8 bytes)) 8 [] (drop 8 bytes) tt
    at false = tt

-- what a reader gave is proper
given_proper : (stage : ReaderStage) (reader : EntryReader) (stream : List ℕ) (given : List Entry) → ReadsBy stage reader stream given → AreProper given
given_proper Front reader stream given r = subst (λ (es : List Entry). AreProper es) (sym r.none) tt
given_proper Entries reader stream given r =
    let all : (reading (r.taken ++ [])).entries ≡ given = ap (λ (x : TranscriptReading). x.entries) (r.onward []) in
    subst (λ (es : List Entry). AreProper es) all (reading_proper (r.taken ++ []))
given_proper (Stopped bad) reader stream given r =
    let all : (reading (stream ++ [])).entries ≡ given = ap (λ (x : TranscriptReading). x.entries) (r.always []) in
    subst (λ (es : List Entry). AreProper es) all (reading_proper (stream ++ []))

pub reads_proper : (reader : EntryReader) (stream : List ℕ) (given : List Entry) → ReadsSo reader stream given → AreProper given
reads_proper reader stream given r = given_proper reader.stage reader stream given r
