-- A text of entries gives them back, whatever their kinds and connections are; and what a recorder of them has written.
use Rattle.std.proofs.Common.{◌≡◌, ◌∙◌, ℕ, zero, suc, ◌+◌, ◌-◌, ◌^◌, ◌<◌, ◌≤◌, Bool, true, false, true≢false, ◌&&◌, nat_lt, nat_le, List, [], ◌∷◌, ◌++◌, length, drop, Option, Some, None, Result, Ok, Err, refl, sym, ap, subst, arith, append_assoc, length-append}
use Rattle.std.proofs.lemmas.List.{append-nil}
use Rattle.std.proofs.lemmas.Bool.{ltb-true, leb-true}
use Rattle.std.proofs.lemmas.Bool.Decides.{nat_tests}
use Rattle.gate_outside.specs.Contents.{Grows, GrowsByFront, WritesAll}
use Rattle.gate_transcript.specs.declared.entry.Entry.{Entry}
use Rattle.gate_transcript.specs.declared.head.EntryHead.{EntryHead}
use Rattle.gate_transcript.specs.declared.head.TheConstants.{LONGEST_BODY}
use Rattle.gate_transcript.specs.Notes.{NotesSo}
use Rattle.gate_transcript.specs.Recordings.{entries_from, entries_by, entries_in, have_room, IsTextOf, IsRecording, entries_told}
use Rattle.gate_transcript.specs.EntryTexts.{transcript_text}
use Rattle.gate_transcript.specs.Transcript.{magic}
use Rattle.gate_transcript.proofs.SpellLemmas.{text_of, head_spelled, text_rest, text_length, same_entry}

-- one growth by two pieces
grows_on : (before between now : Option (List ℕ)) (xs ys : List ℕ) → Grows before between xs → Grows between now ys → Grows before now (xs ++ ys)
grows_on None between now xs ys first then = subst (λ (o : Option (List ℕ)). Grows o now ys) first then
grows_on (Some bytes) between now xs ys first then =
    let joined : now ≡ Some ((bytes ++ xs) ++ ys) = subst (λ (o : Option (List ℕ)). Grows o now ys) first then in
    joined ∙ ap (λ (l : List ℕ). let told : Option (List ℕ) = Some l in told) (append_assoc bytes xs ys)

-- a front of the first piece is a front of both
pub front_of_both : (before now : Option (List ℕ)) (xs ys : List ℕ) → GrowsByFront before now xs → GrowsByFront before now (xs ++ ys)
front_of_both before now xs ys part = record {
  front = part.front;
  rest = part.rest ++ ys;
  whole = sym (append_assoc part.front part.rest ys) ∙ ap (λ (l : List ℕ). l ++ ys) part.whole;
  grown = part.grown;
}

-- the second piece after the whole first one
pub after_first : {T E : Type 0} (before between now : Option (List ℕ)) (xs ys : List ℕ) (result : Result T E) → Grows before between xs → WritesAll between now ys result → WritesAll before now (xs ++ ys) result
after_first before between now xs ys (Ok u) first then = grows_on before between now xs ys first then
after_first before between now xs ys (Err e) first then = record {
  front = xs ++ then.front;
  rest = then.rest;
  whole = append_assoc xs then.front then.rest ∙ ap (λ (l : List ℕ). xs ++ l) then.whole;
  grown = grows_on before between now xs then.front first then.grown;
}

both : (a b : Bool) → (a && b) ≡ true → (a ≡ true) × (b ≡ true)
both true b e = (refl, e)
both false b e = absurd (true≢false (sym e))

-- the texts of entries, of which the newest is first, without the magic
abbrev texts : List Entry → List ℕ
texts [] = []
texts (e ∷ entries) = texts entries ++ text_of e

with_magic : (entries : List Entry) → transcript_text entries ≡ magic ++ texts entries
with_magic [] = sym (append-nil magic)
with_magic (e ∷ entries) = ap (λ (l : List ℕ). l ++ text_of e) (with_magic entries) ∙ append_assoc magic (texts entries) (text_of e)

-- an entry has bytes
no_more_than_bytes : (entries : List Entry) → length entries ≤ length (transcript_text entries)
no_more_than_bytes [] = omega arith
no_more_than_bytes (e ∷ entries) =
    let fewer = no_more_than_bytes entries in
    let size = text_length e in
    let sum = length-append (transcript_text entries) (text_of e) in
    omega arith

-- the first entry is taken off
step_by : (n : ℕ) (entries : List Entry) (e : Entry) (more : List ℕ) → e.conn < 2 ^ 32 → length e.body < 2 ^ 32 → entries_by (suc n) entries (text_of e ++ more) ≡ entries_by n (e ∷ entries) more
step_by n entries e more number short =
    ap (λ (h : Option EntryHead). entries_from h entries (text_of e ++ more) (entries_by n)) (head_spelled e more number short)
    ∙ ap (λ (x : Entry). entries_by n (x ∷ entries) (drop (9 + length e.body) (text_of e ++ more))) (same_entry e more)
    ∙ ap (λ (l : List ℕ). entries_by n (e ∷ entries) l) (text_rest e more)

-- all of them are
steps_by : (entries : List Entry) → have_room entries ≡ true → (n : ℕ) (earlier : List Entry) (more : List ℕ) → entries_by (length entries + n) earlier (texts entries ++ more) ≡ entries_by n (entries ++ earlier) more
steps_by [] room n earlier more = ap (λ (k : ℕ). entries_by k earlier more) (omega arith)
steps_by (e ∷ entries) room n earlier more =
    let parts = both (nat_lt e.conn (2 ^ 32) && nat_le (length e.body) LONGEST_BODY) (have_room entries) room in
    let sizes = both (nat_lt e.conn (2 ^ 32)) (nat_le (length e.body) LONGEST_BODY) parts.0 in
    let number = ltb-true e.conn (2 ^ 32) sizes.0 in
    let short = leb-true (length e.body) LONGEST_BODY sizes.1 in
    let turns : length (e ∷ entries) + n ≡ length entries + suc n = omega arith in
    ap (λ (k : ℕ). entries_by k earlier ((texts entries ++ text_of e) ++ more)) turns
    ∙ ap (λ (l : List ℕ). entries_by (length entries + suc n) earlier l) (append_assoc (texts entries) (text_of e) more)
    ∙ steps_by entries parts.1 (suc n) earlier (text_of e ++ more)
    ∙ step_by n (entries ++ earlier) e more number (omega arith)

none_left : (n : ℕ) (entries : List Entry) → entries_by n entries [] ≡ entries
none_left zero entries = refl
none_left (suc n) entries = refl

-- a text gives back its entries
pub entries_back : (entries : List Entry) → have_room entries ≡ true → entries_in (transcript_text entries) ≡ entries
entries_back entries room =
    let fewer = no_more_than_bytes entries in
    let left = length (transcript_text entries) - length entries in
    let turns : length (transcript_text entries) ≡ length entries + left = omega arith in
    ap (λ (k : ℕ). entries_by k [] (drop 8 (transcript_text entries))) turns
    ∙ ap (λ (l : List ℕ). entries_by (length entries + left) [] (drop 8 l)) (with_magic entries)
    ∙ ap (λ (l : List ℕ). entries_by (length entries + left) [] l) (sym (append-nil (texts entries)))
    ∙ steps_by entries room left [] []
    ∙ none_left left (entries ++ [])
    ∙ append-nil entries

-- What a recorder has written and tells, once the text of an entry more was written.
pub record NotesText (whole : Bool) (before now : Option (List ℕ)) (e : Entry) : Type 0 where
  pub recording : IsRecording whole now
  pub told : NotesSo (entries_told whole before) (entries_told whole now) e (Ok tt)

one_room : (e : Entry) (entries : List Entry) → e.conn < 2 ^ 32 → length e.body ≤ LONGEST_BODY → have_room entries ≡ true → have_room (e ∷ entries) ≡ true
one_room e entries number short room = grind (arith, nat_tests)

-- the text with one entry more
more_text : (bytes : List ℕ) (e : Entry) → e.conn < 2 ^ 32 → length e.body ≤ LONGEST_BODY → IsTextOf (entries_in bytes) bytes
    → IsTextOf (e ∷ entries_in bytes) (bytes ++ text_of e)
more_text bytes e number short is = record {
  room = one_room e (entries_in bytes) number short is.room;
  text = ap (λ (l : List ℕ). l ++ text_of e) is.text;
}

-- its entries
more_entries : (bytes : List ℕ) (entries : List Entry) → IsTextOf entries bytes → entries_in bytes ≡ entries
more_entries bytes entries is = ap entries_in (sym is.text) ∙ entries_back entries is.room

told_more : (bytes : List ℕ) (e : Entry) (now : Option (List ℕ)) → e.conn < 2 ^ 32 → length e.body ≤ LONGEST_BODY → IsTextOf (entries_in bytes) bytes → now ≡ Some (bytes ++ text_of e)
    → NotesText true (Some bytes) now e
told_more bytes e now number short is grown =
    let new = bytes ++ text_of e in
    let text = more_text bytes e number short is in
    let entries : entries_in new ≡ e ∷ entries_in bytes = more_entries new (e ∷ entries_in bytes) text in
    let whole : IsTextOf (entries_in new) new = subst (λ (l : List Entry). IsTextOf l new) (sym entries) text in
    subst (λ (o : Option (List ℕ)). NotesText true (Some bytes) o e) (sym grown)
    (record {
      recording = λ other _ same. (let one : new ≡ other = cc in subst (λ (l : List ℕ). IsTextOf (entries_in l) l) one whole);
      told = ap (λ (l : List Entry). let o : Option (List Entry) = Some l in o) entries;
    })

pub notes_text : (whole : Bool) (before now : Option (List ℕ)) (e : Entry) → e.conn < 2 ^ 32 → length e.body ≤ LONGEST_BODY → IsRecording whole before → Grows before now (text_of e) → NotesText whole before now e
notes_text false before now e number short was grown = record { recording = λ other is same. absurd (true≢false (sym is)); told = refl }
notes_text true None now e number short was grown =
    subst (λ (o : Option (List ℕ)). NotesText true None o e) (sym grown) (record { recording = λ other _ same. absurd (cc); told = refl })
notes_text true (Some bytes) now e number short was grown = told_more bytes e now number short (was bytes refl refl) grown
