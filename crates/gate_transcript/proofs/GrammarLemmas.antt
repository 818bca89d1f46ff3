-- What is read is spelled so.
use Rattle.std.proofs.Common.{◌≡◌, ◌∙◌, ℕ, zero, suc, ◌+◌, ◌^◌, ◌==◌, ◌<◌, ◌≤◌, Bool, true, false, cond, List, [], ◌∷◌, ◌++◌, length, take, drop, Option, Some, None, Result, Ok, Err, refl, sym, ap, subst, inl, inr, arith, nat_eq, append_assoc, length-append, length-drop}
use Rattle.std.specs.Int.{w32, to_be_bytes, from_be_bytes}
use Rattle.std.specs.List.{starts_with}
use Rattle.std.specs.Option.{option_map}
use Rattle.std.proofs.lemmas.Bool.{cases_Bool, eqb-true}
use Rattle.std.proofs.lemmas.List.{take-append-drop, length-take-le, drop-drop}
use Rattle.std.proofs.lemmas.Nat.{be_bytes_4}
use Rattle.std.proofs.lemmas.Slice.Eq.{starts_is}
use Rattle.std.proofs.lemmas.Bool.Decides.{Decides-eqb}
use Rattle.gate_transcript.specs.declared.entry.Entry.{Entry}
use Rattle.gate_transcript.specs.declared.entry.EntryKind.{EntryKind}
use Rattle.gate_transcript.specs.declared.entry.EntryKind.TheVariants.{Enter, Client, Upstream, End, Slow, UpEnd}
use Rattle.gate_transcript.specs.declared.entry.TheConstants.{ENTER_BYTE, CLIENT_BYTE, UPSTREAM_BYTE, END_BYTE, SLOW_BYTE, UP_END_BYTE}
use Rattle.gate_transcript.specs.declared.fault.BadEntry.{BadEntry}
use Rattle.gate_transcript.specs.declared.fault.BadEntryKind.{BadEntryKind}
use Rattle.gate_transcript.specs.declared.fault.BadEntryKind.TheVariants.{Kind}
use Rattle.gate_transcript.specs.declared.head.EntryHead.{EntryHead}
use Rattle.gate_transcript.specs.Transcript.{magic, entry_kind, may_come, entry_head, sound_head, first_head, entry_with, TranscriptReading, reading_with, reading_by, reading_on, reading}
use Rattle.gate_transcript.specs.Bodies.{may_have_length}
use Rattle.gate_transcript.specs.EntryTexts.{kind_byte, entry_spelled, transcript_text, MayStand, AreEntries, AreBytes, IsLeftBehind, SpellsRead, IsReadBy, IsTranscript}
use Rattle.gate_transcript.proofs.HeadLemmas.{IsFirst, first_parts, first_not_none}
use Rattle.gate_transcript.proofs.PieceReadLemmas.{among, after_magic, step_bad}
use Rattle.gate_transcript.proofs.SpellLemmas.{spelled_onward}

-- one case of a byte's kind
named_here : (b byte : ℕ) (kind named : EntryKind) (more : Option EntryKind) → kind_byte named ≡ byte → cond (b == byte) (Some named) more ≡ Some kind
    → (more ≡ Some kind → b ≡ kind_byte kind) → b ≡ kind_byte kind
named_here b byte kind named more spelled e later =
    elim (cases_Bool (b == byte)) [
      | inl here ↦ (let f = rw here at e in
          let same : named ≡ kind = cc in
          eqb-true b byte here ∙ sym spelled ∙ ap kind_byte same)
      | inr other ↦ later (rw other at e)
    ]

abbrev kind_at : (b byte : ℕ) (named : EntryKind) → Option EntryKind → Option EntryKind
kind_at b byte named more = cond (b == byte) (Some named) more

-- a byte that names a kind is that kind's
byte_of_kind : (b : ℕ) (kind : EntryKind) → entry_kind b ≡ Some kind → b ≡ kind_byte kind
byte_of_kind b kind e =
    named_here b ENTER_BYTE kind Enter (kind_at b CLIENT_BYTE Client (kind_at b UPSTREAM_BYTE Upstream (kind_at b END_BYTE End (kind_at b SLOW_BYTE Slow (kind_at b UP_END_BYTE UpEnd None))))) refl e
    (λ e. named_here b CLIENT_BYTE kind Client (kind_at b UPSTREAM_BYTE Upstream (kind_at b END_BYTE End (kind_at b SLOW_BYTE Slow (kind_at b UP_END_BYTE UpEnd None)))) refl e
    (λ e. named_here b UPSTREAM_BYTE kind Upstream (kind_at b END_BYTE End (kind_at b SLOW_BYTE Slow (kind_at b UP_END_BYTE UpEnd None))) refl e
    (λ e. named_here b END_BYTE kind End (kind_at b SLOW_BYTE Slow (kind_at b UP_END_BYTE UpEnd None)) refl e
    (λ e. named_here b SLOW_BYTE kind Slow (kind_at b UP_END_BYTE UpEnd None) refl e
    (λ e. named_here b UP_END_BYTE kind UpEnd None refl e (λ e. absurd (cc)))))))

-- what a sound head is
pub record IsSoundHead (has : ℕ → Bool) (b : ℕ) (bytes : List ℕ) (head : EntryHead) : Type 0 where
  pub byte : b ≡ kind_byte head.kind
  pub conn : head.conn ≡ from_be_bytes w32 (take 4 bytes)
  pub size : head.size ≡ from_be_bytes w32 (take 4 (drop 4 bytes))
  pub comes : may_come has head.kind head.conn ≡ true
  pub fits : may_have_length head.kind head.size ≡ true

head_parts : (has : ℕ → Bool) (h head : EntryHead) → sound_head has (Some h) ≡ Ok head → (h ≡ head) × ((may_come has h.kind h.conn ≡ true) × (may_have_length h.kind h.size ≡ true))
head_parts has h head e =
    elim (cases_Bool (may_come has h.kind h.conn)) [
      | inl comes ↦ (let f = rw comes at e in
          elim (cases_Bool (may_have_length h.kind h.size)) [
            | inl fits ↦ (let g = rw fits at f in let same : h ≡ head = cc in (same, (comes, fits)))
            | inr wrong ↦ (let g = rw wrong at f in absurd (cc))
          ])
      | inr never ↦ (let f = rw never at e in absurd (cc))
    ]

abbrev head_with : ℕ → ℕ → Option EntryKind → Option EntryHead
head_with conn size kind = option_map (λ kind. record { kind = kind; conn = conn; size = size }) kind

sound_by : (has : ℕ → Bool) (b : ℕ) (bytes : List ℕ) (kind : Option EntryKind) (head : EntryHead) → entry_kind b ≡ kind
    → sound_head has (head_with (from_be_bytes w32 (take 4 bytes)) (from_be_bytes w32 (take 4 (drop 4 bytes))) kind) ≡ Ok head → IsSoundHead has b bytes head
sound_by has b bytes None head named e =
    let fault : sound_head has None ≡ Err Kind = refl in
    absurd (cc)
sound_by has b bytes (Some kind) head named e =
    let h : EntryHead = record { kind = kind; conn = from_be_bytes w32 (take 4 bytes); size = from_be_bytes w32 (take 4 (drop 4 bytes)) } in
    let parts = head_parts has h head e in
    subst (λ (x : EntryHead). IsSoundHead has b bytes x) parts.0 (record { byte = byte_of_kind b kind named; conn = refl; size = refl; comes = parts.1.0; fits = parts.1.1 })

sound_parts : (has : ℕ → Bool) (b : ℕ) (bytes : List ℕ) (head : EntryHead) → sound_head has (entry_head b bytes) ≡ Ok head → IsSoundHead has b bytes head
sound_parts has b bytes head e = sound_by has b bytes (entry_kind b) head refl e

-- a front of bytes is bytes, and so is what is behind it
bytes_behind : (n : ℕ) (bytes : List ℕ) → AreBytes bytes → AreBytes (drop n bytes)
bytes_behind zero bytes are = are
bytes_behind (suc n) [] are = are
bytes_behind (suc n) (b ∷ bytes) are = bytes_behind n bytes (λ i. are (suc i))

byte_first : (b : ℕ) (bytes : List ℕ) → b < 256 → AreBytes bytes → AreBytes (b ∷ bytes)
byte_first b bytes small are zero = small
byte_first b bytes small are (suc i) = are i

bytes_before : (n : ℕ) (bytes : List ℕ) → AreBytes bytes → AreBytes (take n bytes)
bytes_before zero bytes are = λ i. omega arith
bytes_before (suc n) [] are = are
bytes_before (suc n) (b ∷ bytes) are = byte_first b (take n bytes) (are zero) (bytes_before n bytes (λ k. are (suc k)))

-- eight bytes, and what is behind them
number_written : (bytes : List ℕ) → AreBytes bytes → 4 ≤ length bytes → (n : ℕ) → n ≡ from_be_bytes w32 (take 4 bytes) → to_be_bytes w32 n ≡ take 4 bytes
number_written bytes are long n e = be_bytes_4 (take 4 bytes) n (length-take-le 4 bytes long) (bytes_before 4 bytes are) e

-- the entry that is first in the bytes
text_first : (has : ℕ → Bool) (b : ℕ) (bytes : List ℕ) (head : EntryHead) → AreBytes bytes → IsFirst has b bytes head
    → b ∷ bytes ≡ entry_spelled head.kind head.conn (take head.size (drop 8 bytes)) ++ drop (8 + head.size) bytes
text_first has b bytes head are first =
    let sound = sound_parts has b bytes head first.right in
    let long = first.long in
    let far : 4 ≤ length (drop 4 bytes) = rw (length-drop 4 bytes) (omega arith) in
    let conn : to_be_bytes w32 head.conn ≡ take 4 bytes = number_written bytes are (omega arith) head.conn sound.conn in
    let size : to_be_bytes w32 head.size ≡ take 4 (drop 4 bytes) = number_written (drop 4 bytes) (bytes_behind 4 bytes are) far head.size sound.size in
    let body : length (take head.size (drop 8 bytes)) ≡ head.size = length-take-le head.size (drop 8 bytes) first.room in
    let told = take head.size (drop 8 bytes) in
    let behind = drop (8 + head.size) bytes in
    let three : drop 4 (drop 4 bytes) ≡ drop 8 bytes = drop-drop 4 4 bytes in
    let four : drop head.size (drop 8 bytes) ≡ behind = drop-drop head.size 8 bytes in
    let end : drop 8 bytes ≡ told ++ behind = sym (take-append-drop head.size (drop 8 bytes)) ∙ ap (λ (l : List ℕ). told ++ l) four in
    let middle : drop 4 bytes ≡ to_be_bytes w32 (length told) ++ (told ++ behind) =
    sym (take-append-drop 4 (drop 4 bytes)) ∙ ap (λ (l : List ℕ). take 4 (drop 4 bytes) ++ l) (three ∙ end) ∙ ap (λ (l : List ℕ). l ++ (told ++ behind)) (sym (ap (λ (n : ℕ). to_be_bytes w32 n) body ∙ size)) in
    let all : bytes ≡ to_be_bytes w32 head.conn ++ (to_be_bytes w32 (length told) ++ (told ++ behind)) =
    sym (take-append-drop 4 bytes) ∙ ap (λ (l : List ℕ). take 4 bytes ++ l) middle ∙ ap (λ (l : List ℕ). l ++ (to_be_bytes w32 (length told) ++ (told ++ behind))) (sym conn) in
    ap (λ (k : ℕ). k ∷ bytes) sound.byte ∙ ap (λ (l : List ℕ). kind_byte head.kind ∷ l) (all
    ∙ ap (λ (l : List ℕ). to_be_bytes w32 head.conn ++ l) (sym (append_assoc (to_be_bytes w32 (length told)) told behind))
    ∙ sym (append_assoc (to_be_bytes w32 head.conn) (to_be_bytes w32 (length told) ++ told) behind))

text_at : (entries : List Entry) (b : ℕ) (bytes : List ℕ) (head : EntryHead) → AreBytes (b ∷ bytes) → first_head (among entries) (b ∷ bytes) ≡ Ok (Some head)
    → b ∷ bytes ≡ entry_spelled head.kind head.conn (entry_with head (b ∷ bytes)).body ++ drop (9 + head.size) (b ∷ bytes)
text_at entries b bytes head are e =
    let one : 9 + head.size ≡ suc (8 + head.size) = omega arith in
    rw one (text_first (among entries) b bytes head (λ i. are (suc i)) (first_parts (among entries) b bytes head e))

-- the number of four bytes is of 32 bits
small_number : (bytes : List ℕ) → AreBytes bytes → 4 ≤ length bytes → from_be_bytes w32 (take 4 bytes) < 2 ^ 32
small_number bytes are long =
    let front = bytes_before 4 bytes are in
    let one = front 0 in
    let two = front 1 in
    let three = front 2 in
    let four = front 3 in
    omega arith

may_stand : (entries : List Entry) (b : ℕ) (bytes : List ℕ) (head : EntryHead) → AreBytes (b ∷ bytes) → first_head (among entries) (b ∷ bytes) ≡ Ok (Some head) → MayStand (entry_with head (b ∷ bytes)) entries
may_stand entries b bytes head are e =
    let first = first_parts (among entries) b bytes head e in
    let long = first.long in
    let sound = sound_parts (among entries) b bytes head first.right in
    let body : length (take head.size (drop 8 bytes)) ≡ head.size = length-take-le head.size (drop 8 bytes) first.room in
    record {
      number = subst (λ (n : ℕ). n < 2 ^ 32) (sym sound.conn) (small_number bytes (λ i. are (suc i)) (omega arith));
      comes = sound.comes;
      size = ap (λ (n : ℕ). may_have_length head.kind n) body ∙ sound.fits;
      body = first.body;
    }

-- One turn of the reading, where all later turns find what is spelled.
abbrev SpelledOn : ℕ → Type 0
SpelledOn n = (entries : List Entry) (bytes : List ℕ) → length bytes ≤ n → AreBytes bytes → AreEntries entries
    → SpellsRead (transcript_text entries ++ bytes) (reading_by n (length (transcript_text entries)) entries bytes)

spelled_turn : (n : ℕ) → SpelledOn n → (entries : List Entry) (b : ℕ) (bytes : List ℕ) → length bytes ≤ n → AreBytes (b ∷ bytes) → AreEntries entries
    → (first : Result (Option EntryHead) BadEntryKind) → first_head (among entries) (b ∷ bytes) ≡ first
    → SpellsRead (transcript_text entries ++ (b ∷ bytes)) (reading_with first (length (transcript_text entries)) entries (b ∷ bytes) (reading_by n))
spelled_turn n later entries b bytes few are may (Ok None) e = absurd (first_not_none (among entries) (b ∷ bytes) (omega arith) e)
spelled_turn n later entries b bytes few are may (Err bad) e =
    record { left = b ∷ bytes; entries = may; whole = refl; ends = record { kind = bad; first = e; fault = refl } }
spelled_turn n later entries b bytes few are may (Ok (Some head)) e =
    let entry = entry_with head (b ∷ bytes) in
    let behind = drop (9 + head.size) (b ∷ bytes) in
    let text = entry_spelled head.kind head.conn entry.body in
    let here : b ∷ bytes ≡ text ++ behind = text_at entries b bytes head are e in
    let parts = first_parts (among entries) b bytes head e in
    let body : length entry.body ≡ head.size = length-take-le head.size (drop 8 bytes) parts.room in
    let size : length text ≡ 9 + length entry.body = omega arith in
    let sum = length-append (transcript_text entries) text in
    let place : length (transcript_text entries ++ text) ≡ length (transcript_text entries) + 9 + head.size = omega arith in
    let fewer : length behind ≤ n = rw (length-drop (9 + head.size) (b ∷ bytes)) (omega arith) in
    let rest : SpellsRead (transcript_text (entry ∷ entries) ++ behind) (reading_by n (length (transcript_text entries ++ text)) (entry ∷ entries) behind) =
    later (entry ∷ entries) behind fewer (bytes_behind (9 + head.size) (b ∷ bytes) are) (may_stand entries b bytes head are e, may) in
    let whole : transcript_text (entry ∷ entries) ++ behind ≡ transcript_text entries ++ (b ∷ bytes) =
    append_assoc (transcript_text entries) text behind ∙ ap (λ (l : List ℕ). transcript_text entries ++ l) (sym here) in
    subst (λ (l : List ℕ). SpellsRead l (reading_by n (length (transcript_text entries) + 9 + head.size) (entry ∷ entries) behind)) whole
    (subst (λ (k : ℕ). SpellsRead (transcript_text (entry ∷ entries) ++ behind) (reading_by n k (entry ∷ entries) behind)) place rest)

-- What is left is read to its end: so many bytes at most are left behind these entries.
spelled_on : (n : ℕ) → SpelledOn n
spelled_on zero entries [] few are may = record { left = []; entries = may; whole = refl; ends = refl }
spelled_on zero entries (b ∷ bytes) few are may = absurd (omega arith)
spelled_on (suc n) entries [] few are may = record { left = []; entries = may; whole = refl; ends = refl }
spelled_on (suc n) entries (b ∷ bytes) few are may = spelled_turn n (spelled_on n) entries b bytes (omega arith) are may (first_head (among entries) (b ∷ bytes)) refl

-- bytes that begin with the magic
spelled_by : (begins : Bool) (bytes : List ℕ) → starts_with nat_eq bytes magic ≡ begins → AreBytes bytes → IsReadBy begins bytes (reading bytes)
spelled_by false bytes e are = rw e refl
spelled_by true bytes e are =
    let begins : bytes ≡ magic ++ drop 8 bytes = (starts_is Decides-eqb bytes magic (starts_with nat_eq bytes magic) refl).0 e in
    let read : reading bytes ≡ reading_on 8 [] (drop 8 bytes) = ap reading begins ∙ after_magic (drop 8 bytes) in
    subst (λ (l : List ℕ). SpellsRead l (reading bytes)) (sym begins)
    (subst (λ (r : TranscriptReading). SpellsRead (magic ++ drop 8 bytes) r) (sym read) (spelled_on (length (drop 8 bytes)) [] (drop 8 bytes) (omega arith) (bytes_behind 8 bytes are) tt))

pub spelled_so : (bytes : List ℕ) → AreBytes bytes → IsTranscript bytes (reading bytes)
spelled_so bytes are = spelled_by (starts_with nat_eq bytes magic) bytes refl are

-- The other way: what is spelled is read so.
left_read : (entries : List Entry) (left : List ℕ) (fault : Option BadEntry) → IsLeftBehind entries left fault → reading_on (length (transcript_text entries)) entries left ≡ record { entries = entries; fault = fault }
left_read entries left None ends = rw ends refl
left_read entries left (Some bad) ends =
    step_bad (length (transcript_text entries)) entries left ends.kind ends.first
    ∙ ap (λ (x : BadEntry). let r : TranscriptReading = record { entries = entries; fault = Some x } in r) (sym ends.fault)

read_spelled : (bytes : List ℕ) (read : TranscriptReading) → SpellsRead bytes read → reading bytes ≡ read
read_spelled bytes read spells =
    ap reading spells.whole ∙ spelled_onward read.entries spells.entries spells.left ∙ left_read read.entries spells.left read.fault spells.ends

read_by : (begins : Bool) (bytes : List ℕ) (read : TranscriptReading) → starts_with nat_eq bytes magic ≡ begins → IsReadBy begins bytes read → reading bytes ≡ read
read_by true bytes read e spells = read_spelled bytes read spells
read_by false bytes read e is = rw e (sym is)

pub read_so : (bytes : List ℕ) (read : TranscriptReading) → IsTranscript bytes read → reading bytes ≡ read
read_so bytes read is = read_by (starts_with nat_eq bytes magic) bytes read refl is
