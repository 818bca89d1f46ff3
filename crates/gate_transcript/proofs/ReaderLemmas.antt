-- What the parts of a reader do, for every stream that it was fed.
use Rattle.std.proofs.Common.{◌≡◌, ℕ, ◌+◌, ◌-◌, ◌^◌, ◌<◌, ◌≤◌, ◌==◌, ◌&&◌, ◌||◌, min, Bool, true, false, List, [], ◌∷◌, ◌++◌, length, take, drop, Option, Some, None, Result, Ok, Err, refl, sym, ◌∙◌, ap, subst, inl, inr, arith, nat_eq, append_assoc, append-nil, length-append}
use Rattle.std.specs.List.{starts_with}
use Rattle.std.proofs.Math.Path.{fun_ext}
use Rattle.std.proofs.lemmas.Bool.{cases_Bool, cases_lt}
use Rattle.std.proofs.lemmas.Bool.Decides.{Decides-eqb}
use Rattle.std.proofs.lemmas.Slice.Eq.{starts_is}
use Rattle.std.proofs.lemmas.List.{take-append-drop, take-append-le, length-take-le}
use Rattle.std.specs.Cmp.Lexicographic.{pointwise}
use Rattle.gate_transcript.specs.declared.entry.Entry.{Entry}
use Rattle.gate_transcript.specs.declared.fault.BadEntryKind.{BadEntryKind}
use Rattle.gate_transcript.specs.declared.fault.BadEntryKind.TheVariants.{Magic, Kind, Conn, Length, Cut}
use Rattle.gate_transcript.specs.declared.fault.BadEntry.{BadEntry}
use Rattle.gate_transcript.specs.declared.fault.EntryFault.{EntryFault}
use Rattle.gate_transcript.specs.declared.fault.EntryFault.TheVariants.{Bad, Memory}
use Rattle.gate_transcript.specs.declared.head.EntryHead.{EntryHead}
use Rattle.gate_transcript.specs.declared.reader.ReaderStage.{ReaderStage}
use Rattle.gate_transcript.specs.declared.reader.ReaderStage.TheVariants.{Front, Entries, Stopped}
use Rattle.gate_transcript.specs.declared.reader.EntryReader.{EntryReader}
use Rattle.gate_transcript.specs.Connections.{has}
use Rattle.gate_transcript.specs.Transcript.{magic, is_enter, has_entered, first_head, entry_with, bad_entry, TranscriptReading, reading_on, reading}
use Rattle.gate_transcript.specs.Reads.{AtFront, InEntries, IsLasting, StopsAt, ReadsBy, ReadsSo, MayGoOn, GivenWhole, GivenFront, IsCutAfter, EndsBy, EndsSo, NextSays}
use Rattle.gate_transcript.specs.Steps.{PassesMagic, IsSame, RemovesEntry, ReadsNext, ending}
use Rattle.gate_transcript.proofs.HeadLemmas.{IsFinal, front_len, bad_more, first_not_magic}
use Rattle.gate_transcript.proofs.PieceReadLemmas.{among, onward_more, step_bad, step_none, more_entries, after_magic}

-- the test that a reader keeps is the one that the entries make
pub one_test : (reader : EntryReader) (stream : List ℕ) (given : List Entry) → InEntries reader stream given → has reader.entered ≡ among given
one_test reader stream given at = fun_ext (λ conn. at.who conn)

first_at : (reader : EntryReader) (stream : List ℕ) (given : List Entry) (r : Result (Option EntryHead) BadEntryKind) → InEntries reader stream given → first_head (has reader.entered) reader.left ≡ r → first_head (among given) reader.left ≡ r
first_at reader stream given r at e = subst (λ (f : ℕ → Bool). first_head f reader.left ≡ r) (one_test reader stream given at) e

-- the reading of the stream, and of more
onward_from : (reader : EntryReader) (stream more : List ℕ) (given : List Entry) (at : InEntries reader stream given) → reading (stream ++ more) ≡ reading_on (length at.taken) given (reader.left ++ more)
onward_from reader stream more given at =
    ap (λ (l : List ℕ). reading (l ++ more)) at.whole ∙ (ap reading (append_assoc at.taken reader.left more) ∙ at.onward (reader.left ++ more))

onward_here : (reader : EntryReader) (stream : List ℕ) (given : List Entry) (at : InEntries reader stream given) → reading stream ≡ reading_on (length at.taken) given reader.left
onward_here reader stream given at = ap reading at.whole ∙ at.onward reader.left

-- an entry is taken
who_more : (head : EntryHead) (old new : EntryReader) (e : Entry) (given : List Entry) → RemovesEntry head old new e → ((conn : ℕ) → has old.entered conn ≡ has_entered conn given) → (conn : ℕ) → has new.entered conn ≡ has_entered conn (e ∷ given)
who_more head old new e given takes who conn =
    takes.who conn ∙ (ap (λ (b : Bool). (is_enter head.kind && head.conn == conn) || b) (who conn)
    ∙ ap (λ (x : Entry). (is_enter x.kind && x.conn == conn) || has_entered conn given) (sym takes.entry))

pub entry_taken : (head : EntryHead) (old new : EntryReader) (e : Entry) (stream : List ℕ) (given : List Entry) →
    first_head (has old.entered) old.left ≡ Ok (Some head) → RemovesEntry head old new e → InEntries old stream given → InEntries new stream (e ∷ given)
entry_taken head old new e stream given first takes at =
    let here = first_at old stream given (Ok (Some head)) at first in
    let k : ℕ = 9 + head.size in
    let enough : 9 + head.size ≤ length old.left = front_len (among given) old.left head here in
    let front : List ℕ = take (9 + head.size) old.left in
    let size : length front ≡ 9 + head.size = length-take-le (9 + head.size) old.left enough in
    let far : length (at.taken ++ front) ≡ length at.taken + 9 + head.size = (let h = length-append at.taken front in omega arith) in
    let old_place = at.place in
    let new_place = takes.place in
    record {
      taken = at.taken ++ front;
      whole = at.whole ∙ (ap (λ (l : List ℕ). at.taken ++ l) (sym (take-append-drop (9 + head.size) old.left))
          ∙ (sym (append_assoc at.taken front (drop (9 + head.size) old.left)) ∙ ap (λ (l : List ℕ). (at.taken ++ front) ++ l) (sym takes.left)));
      place = (let h : new.place ≡ min (length (at.taken ++ front)) (2 ^ 64 - 1) = omega arith in h);
      onward = λ more.
          ap reading (append_assoc at.taken front more)
          ∙ (at.onward (front ++ more)
          ∙ (onward_more (length at.taken) given old.left more head here
          ∙ (ap (λ (n : ℕ). reading_on n (entry_with head old.left ∷ given) more) (sym far)
          ∙ ap (λ (x : Entry). reading_on (length (at.taken ++ front)) (x ∷ given) more) (sym takes.entry))));
      who = who_more head old new e given takes at.who;
    }

lasting_of : (bad : BadEntryKind) → IsFinal bad → IsLasting bad
lasting_of Magic final = tt
lasting_of Kind final = tt
lasting_of Conn final = tt
lasting_of Length final = tt
lasting_of Cut final = final.whole refl

fault_always : (reader : EntryReader) (stream : List ℕ) (given : List Entry) (bad : BadEntryKind) → IsFinal bad →
    first_head (has reader.entered) reader.left ≡ Err bad → InEntries reader stream given →
    (more : List ℕ) → reading (stream ++ more) ≡ record { entries = given; fault = Some (record { place = reader.place; kind = bad }) }
fault_always reader stream given bad final first at more =
    let here = first_at reader stream given (Err bad) at first in
    let step = step_bad (length at.taken) given (reader.left ++ more) bad (bad_more (among given) reader.left more bad final here) in
    onward_from reader stream more given at ∙ (step ∙ ap (λ (n : ℕ). let r : TranscriptReading = record { entries = given; fault = Some (record { place = n; kind = bad }) } in r) (sym at.place))

-- a fault stands
pub fault_stands : (reader : EntryReader) (stream : List ℕ) (given : List Entry) (bad : BadEntryKind) → IsFinal bad →
    first_head (has reader.entered) reader.left ≡ Err bad → InEntries reader stream given → StopsAt (record { place = reader.place; kind = bad }) stream given
fault_stands reader stream given bad final first at =
    record { lasting = lasting_of bad final; always = fault_always reader stream given bad final first at }

-- nothing more can be told
pub nothing_next : (reader : EntryReader) (stream : List ℕ) (given : List Entry) → first_head (has reader.entered) reader.left ≡ Ok None → InEntries reader stream given → GivenWhole stream given
nothing_next reader stream given first at =
    let r : reading stream ≡ record { entries = given; fault = None } = onward_here reader stream given at ∙ step_none (length at.taken) given reader.left (first_at reader stream given (Ok None) at first) in
    record { entries = ap (λ (x : TranscriptReading). x.entries) r; unfinished = subst (λ (o : Option BadEntry). MayGoOn o stream) (sym (ap (λ (x : TranscriptReading). x.fault) r)) tt }

cut_here : (reader : EntryReader) (stream : List ℕ) (given : List Entry) (bad : BadEntryKind) → first_head (has reader.entered) reader.left ≡ Err bad → (at : InEntries reader stream given) → reading stream ≡ record { entries = given; fault = Some (bad_entry (length at.taken) bad) }
cut_here reader stream given bad first at = onward_here reader stream given at ∙ step_bad (length at.taken) given reader.left bad (first_at reader stream given (Err bad) at first)

pub cut_next : (reader : EntryReader) (stream : List ℕ) (given : List Entry) → first_head (has reader.entered) reader.left ≡ Err Cut → InEntries reader stream given → GivenWhole stream given
cut_next reader stream given first at =
    let r = cut_here reader stream given Cut first at in
    record { entries = ap (λ (x : TranscriptReading). x.entries) r; unfinished = subst (λ (o : Option BadEntry). MayGoOn o stream) (sym (ap (λ (x : TranscriptReading). x.fault) r)) tt }

-- the end of the stream
still_to_come : (reader : EntryReader) (stream : List ℕ) (given : List Entry) (head : EntryHead) → first_head (has reader.entered) reader.left ≡ Ok (Some head) → InEntries reader stream given → (reading stream).entries ≡ given → ⊥
still_to_come reader stream given head first at same =
    let here = first_at reader stream given (Ok (Some head)) at first in
    let rest : List ℕ = drop (9 + head.size) reader.left in
    let next : List Entry = entry_with head reader.left ∷ given in
    let go : reading_on (length at.taken) given reader.left ≡ reading_on (length at.taken + 9 + head.size) next rest =
    ap (λ (l : List ℕ). reading_on (length at.taken) given l) (sym (take-append-drop (9 + head.size) reader.left)) ∙ onward_more (length at.taken) given reader.left rest head here in
    let all = ap (λ (x : TranscriptReading). length x.entries) (onward_here reader stream given at ∙ go) in
    let more = more_entries (length rest) (length at.taken + 9 + head.size) next rest in
    let size = ap (λ (l : List Entry). length l) same in
    omega arith

cut_after : (reader : EntryReader) (stream : List ℕ) (given : List Entry) (head : EntryHead) → first_head (has reader.entered) reader.left ≡ Ok (Some head) → InEntries reader stream given → IsCutAfter (record { place = reader.place; kind = Cut }) stream given
cut_after reader stream given head first at =
    let enough : 9 + head.size ≤ length reader.left = front_len (has reader.entered) reader.left head first in record {
      front = at.taken;
      rest = reader.left;
      whole = sym at.whole;
      some = omega arith;
      entries = ap reading (sym (append-nil at.taken)) ∙ (at.onward [] ∙ step_none (length at.taken) given [] refl);
      cut = ap (λ (n : ℕ). let bad : BadEntry = record { place = n; kind = Cut } in bad) at.place;
    }

ends_by : (reader : EntryReader) (stream : List ℕ) (given : List Entry) (r : Result (Option EntryHead) BadEntryKind) → first_head (has reader.entered) reader.left ≡ r → InEntries reader stream given → EndsSo stream given (ending r reader.place)
ends_by reader stream given (Ok None) first at = onward_here reader stream given at ∙ step_none (length at.taken) given reader.left (first_at reader stream given (Ok None) at first)
ends_by reader stream given (Ok (Some head)) first at = record {
  all = λ same. absurd (still_to_come reader stream given head first at same);
  part = λ more. cut_after reader stream given head first at;
}
ends_by reader stream given (Err kind) first at =
    let r = cut_here reader stream given kind first at in record {
      all = λ same. ap (λ (x : TranscriptReading). x.fault) r ∙ ap (λ (n : ℕ). let o : Option BadEntry = Some (record { place = n; kind = kind }) in o) (sym at.place);
      part = λ more. absurd (more (ap (λ (x : TranscriptReading). x.entries) r));
    }

pub entries_end : (reader : EntryReader) (stream : List ℕ) (given : List Entry) (result : Result (Unit {0}) BadEntry) → reader.stage ≡ Entries → result ≡ ending (first_head (has reader.entered) reader.left) reader.place → ReadsSo reader stream given → EndsSo stream given result
entries_end reader stream given result stage answer reads =
    subst (λ (x : Result (Unit {0}) BadEntry). EndsSo stream given x) (sym answer)
    (ends_by reader stream given (first_head (has reader.entered) reader.left) refl (subst (λ (s : ReaderStage). ReadsBy s reader stream given) stage reads))

pub stopped_ends : (reader : EntryReader) (bad : BadEntry) (stream : List ℕ) (given : List Entry) → reader.stage ≡ Stopped bad → ReadsSo reader stream given → EndsBy bad stream given
stopped_ends reader bad stream given stage reads =
    let stops : StopsAt bad stream given = subst (λ (s : ReaderStage). ReadsBy s reader stream given) stage reads in
    let r : reading stream ≡ record { entries = given; fault = Some bad } = ap reading (sym (append-nil stream)) ∙ stops.always [] in record {
      all = λ same. ap (λ (x : TranscriptReading). x.fault) r;
      part = λ more. absurd (more (ap (λ (x : TranscriptReading). x.entries) r));
    }

short_not_magic : (bytes : List ℕ) → length bytes < 8 → starts_with nat_eq bytes magic ≡ false
short_not_magic bytes short =
    elim (cases_Bool (starts_with nat_eq bytes magic)) [
      | inl right ↦ (let begins : bytes ≡ magic ++ drop 8 bytes = (starts_is Decides-eqb bytes magic (starts_with nat_eq bytes magic) refl).0 right in
          let size = ap length begins ∙ length-append magic (drop 8 bytes) in absurd (omega arith))
      | inr wrong ↦ wrong
    ]

pub front_ends : (reader : EntryReader) (stream : List ℕ) (given : List Entry) → reader.stage ≡ Front → ReadsSo reader stream given → EndsBy (bad_entry 0 Magic) stream given
front_ends reader stream given stage reads =
    let at : AtFront reader stream given = subst (λ (s : ReaderStage). ReadsBy s reader stream given) stage reads in
    let wrong : starts_with nat_eq stream magic ≡ false = short_not_magic stream (subst (λ (l : List ℕ). length l < 8) (sym at.all_left) at.short) in
    let r : reading stream ≡ record { entries = []; fault = Some (bad_entry 0 Magic) } = rw wrong refl in record {
      all = λ same. ap (λ (x : TranscriptReading). x.fault) r;
      part = λ more. absurd (more (ap (λ (x : TranscriptReading). x.entries) r ∙ sym at.none));
    }

-- an answer of `next`
in_entries : (reader : EntryReader) (stream : List ℕ) (given : List Entry) → reader.stage ≡ Entries → ReadsSo reader stream given → InEntries reader stream given
in_entries reader stream given stage reads = subst (λ (s : ReaderStage). ReadsBy s reader stream given) stage reads

so_in_entries : (reader : EntryReader) (stream : List ℕ) (given : List Entry) → reader.stage ≡ Entries → InEntries reader stream given → ReadsSo reader stream given
so_in_entries reader stream given stage at = subst (λ (s : ReaderStage). ReadsBy s reader stream given) (sym stage) at

same_reader : (old new : EntryReader) (stream : List ℕ) (given : List Entry) → IsSame old new → InEntries old stream given → InEntries new stream given
same_reader old new stream given same at = record {
  taken = at.taken;
  whole = at.whole ∙ ap (λ (l : List ℕ). at.taken ++ l) (sym same.left);
  place = same.place ∙ at.place;
  onward = at.onward;
  who = λ conn. same.who conn ∙ at.who conn;
}

says_none : (old new : EntryReader) (result : Result (Option Entry) EntryFault) → (result ≡ Ok None) × (new ≡ old) → ((stream : List ℕ) (given : List Entry) → ReadsSo old stream given → GivenWhole stream given) → NextSays old new result
says_none old new result did whole =
    subst (λ (x : Result (Option Entry) EntryFault). NextSays old new x) (sym did.0)
    (subst (λ (x : EntryReader). NextSays old x (Ok None)) (sym did.1) (λ stream given reads. (reads, whole stream given reads)))

says_bad : (old new : EntryReader) (result : Result (Option Entry) EntryFault) (bad : BadEntry) → (result ≡ Err (Bad bad)) × (new ≡ record old { stage = Stopped bad }) →
    ((stream : List ℕ) (given : List Entry) → ReadsSo old stream given → StopsAt bad stream given) → NextSays old new result
says_bad old new result bad did stops =
    subst (λ (x : Result (Option Entry) EntryFault). NextSays old new x) (sym did.0)
    (subst (λ (x : EntryReader). NextSays old x (Err (Bad bad))) (sym did.1) (λ stream given reads. (stops stream given reads, stops stream given reads)))

next_by : (old new : EntryReader) (r : Result (Option EntryHead) BadEntryKind) (result : Result (Option Entry) EntryFault) → old.stage ≡ Entries →
    first_head (has old.entered) old.left ≡ r → ReadsNext r old new result → NextSays old new result
next_by old new (Ok None) result stage first did =
    says_none old new result did (λ stream given reads. nothing_next old stream given first (in_entries old stream given stage reads))
next_by old new (Ok (Some head)) (Ok (Some e)) stage first takes = λ stream given reads.
    so_in_entries new stream (e ∷ given) (takes.stage ∙ stage) (entry_taken head old new e stream given first takes (in_entries old stream given stage reads))
next_by old new (Ok (Some head)) (Ok None) stage first did = absurd did
next_by old new (Ok (Some head)) (Err Memory) stage first same = λ stream given reads.
    so_in_entries new stream given (same.stage ∙ stage) (same_reader old new stream given same (in_entries old stream given stage reads))
next_by old new (Ok (Some head)) (Err (Bad bad)) stage first did = absurd did
next_by old new (Err Cut) result stage first did =
    says_none old new result did (λ stream given reads. cut_next old stream given first (in_entries old stream given stage reads))
next_by old new (Err Magic) result stage first did = absurd (first_not_magic (has old.entered) old.left first)
next_by old new (Err Kind) result stage first did =
    says_bad old new result (record { place = old.place; kind = Kind }) did (λ stream given reads. fault_stands old stream given Kind (record { whole = λ e. cc }) first (in_entries old stream given stage reads))
next_by old new (Err Conn) result stage first did =
    says_bad old new result (record { place = old.place; kind = Conn }) did (λ stream given reads. fault_stands old stream given Conn (record { whole = λ e. cc }) first (in_entries old stream given stage reads))
next_by old new (Err Length) result stage first did =
    says_bad old new result (record { place = old.place; kind = Length }) did (λ stream given reads. fault_stands old stream given Length (record { whole = λ e. cc }) first (in_entries old stream given stage reads))

pub next_says : (old new : EntryReader) (result : Result (Option Entry) EntryFault) → old.stage ≡ Entries → ReadsNext (first_head (has old.entered) old.left) old new result → NextSays old new result
next_says old new result stage did = next_by old new (first_head (has old.entered) old.left) result stage refl did

-- the first bytes are fed
not_magic : (bytes more : List ℕ) → 8 ≤ length bytes → starts_with nat_eq bytes magic ≡ false → reading (bytes ++ more) ≡ record { entries = []; fault = Some (bad_entry 0 Magic) }
not_magic bytes more long wrong =
    let same : starts_with nat_eq (bytes ++ more) magic ≡ false = ap (λ (l : List ℕ). pointwise nat_eq magic l) (take-append-le 8 bytes more long) ∙ wrong in
    rw same refl

fed_short : (old new : EntryReader) (piece stream : List ℕ) (given : List Entry) → old.stage ≡ Front → new ≡ record old { left = old.left ++ piece } → length (old.left ++ piece) < 8 → AtFront old stream given → ReadsSo new (stream ++ piece) given
fed_short old new piece stream given stage is short at =
    subst (λ (x : EntryReader). ReadsSo x (stream ++ piece) given) (sym is)
    (subst (λ (s : ReaderStage). ReadsBy s (record old { left = old.left ++ piece }) (stream ++ piece) given) (sym stage)
    (record { all_left = ap (λ (l : List ℕ). l ++ piece) at.all_left; short = short; none = at.none; nobody = at.nobody }))

fed_right : (old new : EntryReader) (piece stream : List ℕ) (given : List Entry) → new ≡ record old { stage = Entries; place = 8; left = drop 8 (old.left ++ piece) } →
    starts_with nat_eq (old.left ++ piece) magic ≡ true → AtFront old stream given → ReadsSo new (stream ++ piece) given
fed_right old new piece stream given is right at =
    let bytes : List ℕ = old.left ++ piece in
    let begins : bytes ≡ magic ++ drop 8 bytes = (starts_is Decides-eqb bytes magic (starts_with nat_eq bytes magic) refl).0 right in
    subst (λ (x : EntryReader). ReadsSo x (stream ++ piece) given) (sym is)
    (subst (λ (g : List Entry). InEntries (record old { stage = Entries; place = 8; left = drop 8 (old.left ++ piece) }) (stream ++ piece) g) (sym at.none)
    (record { taken = magic; whole = ap (λ (l : List ℕ). l ++ piece) at.all_left ∙ begins; place = refl; onward = after_magic; who = at.nobody }))

fed_wrong : (old new : EntryReader) (piece stream : List ℕ) (given : List Entry) → new ≡ record old { stage = Stopped (bad_entry 0 Magic); left = old.left ++ piece } → 8 ≤ length (old.left ++ piece) →
    starts_with nat_eq (old.left ++ piece) magic ≡ false → AtFront old stream given → ReadsSo new (stream ++ piece) given
fed_wrong old new piece stream given is long wrong at =
    let stops : StopsAt (bad_entry 0 Magic) (stream ++ piece) given = record {
      lasting = tt;
      always = λ more.
          ap (λ (l : List ℕ). reading ((l ++ piece) ++ more)) at.all_left
          ∙ (not_magic (old.left ++ piece) more long wrong ∙ ap (λ (g : List Entry). let r : TranscriptReading = record { entries = g; fault = Some (bad_entry 0 Magic) } in r) (sym at.none));
    } in
    subst (λ (x : EntryReader). ReadsSo x (stream ++ piece) given) (sym is) stops

pub front_fed : (old new : EntryReader) (piece : List ℕ) → old.stage ≡ Front → PassesMagic (record old { left = old.left ++ piece }) new →
    (stream : List ℕ) (given : List Entry) → ReadsSo old stream given → ReadsSo new (stream ++ piece) given
front_fed old new piece stage passes stream given reads =
    let at : AtFront old stream given = subst (λ (s : ReaderStage). ReadsBy s old stream given) stage reads in
    elim (cases_lt (length (old.left ++ piece)) 8) [
      | inl short ↦ fed_short old new piece stream given stage (passes.short short) short at
      | inr long ↦ elim (cases_Bool (starts_with nat_eq (old.left ++ piece) magic)) [
        | inl right ↦ fed_right old new piece stream given (passes.right long right) right at
        | inr wrong ↦ fed_wrong old new piece stream given (passes.wrong long wrong) long wrong at
      ]
    ]

-- at any time: what was given are the whole entries of a front of the stream
front_by : (s : ReaderStage) (reader : EntryReader) (stream : List ℕ) (given : List Entry) → ReadsBy s reader stream given → GivenFront stream given
front_by Front reader stream given at = record { front = []; rest = stream; whole = refl; entries = sym at.none }
front_by Entries reader stream given at = record {
  front = at.taken;
  rest = reader.left;
  whole = sym at.whole;
  entries = ap (λ (l : List ℕ). (reading l).entries) (sym (append-nil at.taken)) ∙ ap (λ (x : TranscriptReading). x.entries) (at.onward []);
}
front_by (Stopped bad) reader stream given stops = record {
  front = stream;
  rest = [];
  whole = append-nil stream;
  entries = ap (λ (l : List ℕ). (reading l).entries) (sym (append-nil stream)) ∙ ap (λ (x : TranscriptReading). x.entries) (stops.always []);
}

pub given_front : (reader : EntryReader) (stream : List ℕ) (given : List Entry) → ReadsSo reader stream given → GivenFront stream given
given_front reader stream given reads = front_by reader.stage reader stream given reads

-- at the end, after `next` answered nothing: the fault is the transcript's own
pub first_fault : (stream : List ℕ) (given : List Entry) (bad : BadEntry) → GivenWhole stream given → EndsBy bad stream given → (reading stream).fault ≡ Some bad
first_fault stream given bad whole ends = ends.all whole.entries
