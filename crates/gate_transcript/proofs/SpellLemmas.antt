-- Entries that are spelled in a row are read back.
use Rattle.std.proofs.Common.{◌≡◌, ◌∙◌, ℕ, ◌+◌, ◌^◌, ◌<◌, Bool, true, List, [], ◌∷◌, ◌++◌, length, drop, Option, Some, None, Ok, refl, sym, ap, subst, arith, append_assoc, length-append}
use Rattle.std.specs.Int.{w32, to_be_bytes, from_be_bytes}
use Rattle.std.specs.Option.{option_map}
use Rattle.std.proofs.lemmas.Bool.{eqb-true, leb-true}
use Rattle.std.proofs.lemmas.List.{append-nil}
use Rattle.std.proofs.lemmas.Nat.{from_be_bytes-to_be_bytes_4}
use Rattle.std.proofs.Math.Seq.{take-append_seam, drop-append_seam}
use Rattle.gate_transcript.specs.declared.entry.Entry.{Entry}
use Rattle.gate_transcript.specs.declared.entry.EntryKind.{EntryKind}
use Rattle.gate_transcript.specs.declared.entry.EntryKind.TheVariants.{Enter, Client, Upstream, End, Slow, UpEnd}
use Rattle.gate_transcript.specs.declared.head.EntryHead.{EntryHead}
use Rattle.gate_transcript.specs.declared.head.TheConstants.{LONGEST_BODY}
use Rattle.gate_transcript.specs.Transcript.{entry_kind, may_come, entry_head, sound_head, first_head, entry_with, reading_on, reading}
use Rattle.gate_transcript.specs.Bodies.{may_have_length, is_body}
use Rattle.gate_transcript.specs.EntryTexts.{kind_byte, entry_spelled, transcript_text, MayStand, AreEntries}
use Rattle.gate_transcript.proofs.HeadLemmas.{first_whole}
use Rattle.gate_transcript.proofs.PieceReadLemmas.{among, after_magic, step_whole}

-- a kind is named by its byte
byte_names : (kind : EntryKind) → entry_kind (kind_byte kind) ≡ Some kind
byte_names Enter = refl
byte_names Client = refl
byte_names Upstream = refl
byte_names End = refl
byte_names Slow = refl
byte_names UpEnd = refl

-- A body that a kind has is short.
short_body : (kind : EntryKind) (size : ℕ) → may_have_length kind size ≡ true → size < 2 ^ 32
short_body Enter size fits = let none : size ≡ 0 = eqb-true size 0 fits in omega arith
short_body Client size fits = let le = leb-true size LONGEST_BODY fits in omega arith
short_body Upstream size fits = let le = leb-true size LONGEST_BODY fits in omega arith
short_body End size fits = let none : size ≡ 0 = eqb-true size 0 fits in omega arith
short_body Slow size fits = let none : size ≡ 0 = eqb-true size 0 fits in omega arith
short_body UpEnd size fits = let one : size ≡ 1 = eqb-true size 1 fits in omega arith

abbrev pub head_of : Entry → EntryHead
head_of e = record { kind = e.kind; conn = e.conn; size = length e.body }

abbrev pub text_of : Entry → List ℕ
text_of e = entry_spelled e.kind e.conn e.body

-- the bytes behind the first, of an entry with anything behind it
abbrev pub behind : Entry → List ℕ → List ℕ
behind e more = (to_be_bytes w32 e.conn ++ (to_be_bytes w32 (length e.body) ++ e.body)) ++ more

-- its head
abbrev read_as : EntryKind → ℕ → ℕ → Option EntryHead
read_as kind conn size = Some (record { kind = kind; conn = conn; size = size })

pub head_spelled : (e : Entry) (more : List ℕ) → e.conn < 2 ^ 32 → length e.body < 2 ^ 32 → entry_head (kind_byte e.kind) (behind e more) ≡ Some (head_of e)
head_spelled e more number short =
    ap (λ (k : Option EntryKind). option_map (λ kind. record { kind = kind; conn = from_be_bytes w32 (to_be_bytes w32 e.conn); size = from_be_bytes w32 (to_be_bytes w32 (length e.body)) }) k) (byte_names e.kind)
    ∙ ap (λ n. read_as e.kind n (from_be_bytes w32 (to_be_bytes w32 (length e.body)))) (from_be_bytes-to_be_bytes_4 e.conn number)
    ∙ ap (λ n. read_as e.kind e.conn n) (from_be_bytes-to_be_bytes_4 (length e.body) short)

sound_spelled : (has : ℕ → Bool) (head : EntryHead) → may_come has head.kind head.conn ≡ true → may_have_length head.kind head.size ≡ true → sound_head has (Some head) ≡ Ok head
sound_spelled has head comes fits = rw (comes, fits) refl

first_spelled : (has : ℕ → Bool) (e : Entry) (more : List ℕ) → e.conn < 2 ^ 32 → may_come has e.kind e.conn ≡ true → may_have_length e.kind (length e.body) ≡ true → is_body e.kind e.body ≡ true
    → first_head has (text_of e ++ more) ≡ Ok (Some (head_of e))
first_spelled has e more number comes fits body =
    first_whole has (kind_byte e.kind) (behind e more) (head_of e) (record {
      long = omega arith;
      right = ap (sound_head has) (head_spelled e more number (short_body e.kind (length e.body) fits)) ∙ sound_spelled has (head_of e) comes fits;
      room = omega (arith, length-append e.body more);
      body = ap (is_body e.kind) (take-append_seam e.body more) ∙ body;
    })

-- its length, and what is left behind it
pub text_length : (e : Entry) → length (text_of e) ≡ 9 + length e.body
text_length e = omega arith

pub text_rest : (e : Entry) (more : List ℕ) → drop (9 + length e.body) (text_of e ++ more) ≡ more
text_rest e more = subst (λ (n : ℕ). drop n (text_of e ++ more) ≡ more) (text_length e) (drop-append_seam (text_of e) more)

pub same_entry : (e : Entry) (more : List ℕ) → entry_with (head_of e) (text_of e ++ more) ≡ e
same_entry e more = ap (λ (l : List ℕ). let x : Entry = record { kind = e.kind; conn = e.conn; body = l } in x) (take-append_seam e.body more)

-- an entry is read where it may stand
spelled_step : (place : ℕ) (entries : List Entry) (e : Entry) (more : List ℕ) → MayStand e entries → reading_on place entries (text_of e ++ more) ≡ reading_on (place + 9 + length e.body) (e ∷ entries) more
spelled_step place entries e more may =
    step_whole place entries (text_of e ++ more) (head_of e) (first_spelled (among entries) e more may.number may.comes may.size may.body)
    ∙ ap (λ (l : List ℕ). reading_on (place + 9 + length e.body) (entry_with (head_of e) (text_of e ++ more) ∷ entries) l) (text_rest e more)
    ∙ ap (λ (x : Entry). reading_on (place + 9 + length e.body) (x ∷ entries) more) (same_entry e more)

pub spelled_onward : (entries : List Entry) → AreEntries entries → (more : List ℕ) → reading (transcript_text entries ++ more) ≡ reading_on (length (transcript_text entries)) entries more
spelled_onward [] are more = after_magic more
spelled_onward (e ∷ entries) are more =
    let size = text_length e in
    let sum = length-append (transcript_text entries) (text_of e) in
    let place : length (transcript_text entries) + 9 + length e.body ≡ length (transcript_text entries ++ text_of e) = omega arith in
    ap reading (append_assoc (transcript_text entries) (text_of e) more)
    ∙ spelled_onward entries are.1 (text_of e ++ more)
    ∙ spelled_step (length (transcript_text entries)) entries e more are.0
    ∙ ap (λ (n : ℕ). reading_on n (e ∷ entries) more) place

pub spelled_read : (entries : List Entry) → AreEntries entries → reading (transcript_text entries) ≡ record { entries = entries; fault = None }
spelled_read entries are = ap reading (sym (append-nil (transcript_text entries))) ∙ spelled_onward entries are []
