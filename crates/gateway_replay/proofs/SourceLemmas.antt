-- What was taken of a source, and how a replay ends.
use Rattle.std.proofs.Common.{◌≡◌, ℕ, zero, suc, ◌+◌, ◌-◌, ◌<◌, ◌≤◌, Bool, true, false, cond, List, [], ◌∷◌, ◌++◌, length, take, drop, Option, Some, None, Ok, Err, refl, sym, ◌∙◌, ap, subst, arith, lit<}
use Rattle.std.specs.Prelude.{nat_le, IfSome}
use Rattle.std.proofs.lemmas.Bool.{le-leb, leb-true, leb-false, lt-leb}
use Rattle.std.proofs.lemmas.List.{append_assoc, append-nil, length-append, take-append-drop, take_all, length-take-le}
use Rattle.std.proofs.Math.Seq.{take-append-add, take-append_seam}
use Rattle.gate_outside.specs.Contents.{Reads, ReadsOk, TakesFront}
use Rattle.rtsp_uri.specs.declared.base.Bases.{Bases}
use Rattle.gateway_claim.specs.Happenings.{HistoryEntry, happened}
use Rattle.gate_transcript.specs.declared.entry.Entry.{Entry}
use Rattle.gate_transcript.specs.declared.fault.BadEntry.{BadEntry}
use Rattle.gate_transcript.specs.declared.fault.BadEntryKind.{BadEntryKind}
use Rattle.gate_transcript.specs.declared.fault.BadEntryKind.TheVariants.{Magic, Kind, Conn, Length, Cut}
use Rattle.gate_transcript.specs.declared.reader.EntryReader.{EntryReader}
use Rattle.gate_transcript.specs.Transcript.{reading, TranscriptReading}
use Rattle.gate_transcript.specs.Reads.{ReadsSo, GivenWhole, IsLasting, StopsAt, MayGoOn, IsUnfinished}
use Rattle.gate_transcript.specs.declared.fault.ReadFault.{ReadFault}
use Rattle.gate_transcript.specs.declared.fault.ReadFault.TheVariants as read
use Rattle.gate_transcript.specs.Unread.{RoseBy}
use Rattle.run_status.specs.declared.status.Status.{Status}
use Rattle.run_status.specs.declared.status.Status.TheVariants.{BadTranscript, TooLong}
use Rattle.gateway_replay.specs.declared.streams.Streams.{Streams}
use Rattle.gateway_replay.specs.declared.streams.Speaker.{Speaker}
use Rattle.gateway_replay.specs.declared.whole_replay.Stop.{Stop}
use Rattle.gateway_replay.specs.declared.whole_replay.Stop.TheVariants as stop
use Rattle.gateway_replay.specs.Events.{events_of}
use Rattle.gateway_replay.specs.Framers.{FramerFed}
use Rattle.gateway_replay.specs.Streams.{framer_at}
use Rattle.gateway_replay.specs.Stops.{status_of_stop, status_of_read}
use Rattle.gateway_replay.specs.Replays.{limit, ends_by, cut_by_kind, cut_by_limit, ends_as, TakenFrom, ReplayedSoFar, ProcessedAll, Processed, IsAtEnd, EndsReplay, EndsBySourceFault, ReplaySays, FaultRose, StopRose, IsReplaying, TakesWithin, TakesOne}
use Rattle.gateway_replay.specs.CoreRecords.{Histories, Advances}
use Rattle.gateway_replay.proofs.RunLemmas.{grows_nothing}
use Rattle.gateway_replay.proofs.ReplayLemmas.{so_far_interrupted}

-- a piece more was fed
pub so_far_fed : (bases : Bases) (reader next : EntryReader) (streams : Streams) (stood : Histories) (bytes piece : List ℕ) (before now : Option (List ℕ))
    → ReplayedSoFar bases reader streams stood bytes before now → ((stream : List ℕ) (given : List Entry) → ReadsSo reader stream given → ReadsSo next (stream ++ piece) given)
    → ReplayedSoFar bases next streams stood (bytes ++ piece) before now
so_far_fed bases reader next streams stood bytes piece before now s fed = record {
  entries = s.entries;
  history = s.history;
  reads = fed bytes s.entries s.reads;
  fit = s.fit;
  stands = s.stands;
  told = s.told;
  grown = s.grown;
}

-- a piece without a byte adds nothing
pub no_piece : (reader : EntryReader) (bytes piece : List ℕ) (entries : List Entry) → length piece ≡ 0 → ReadsSo reader (bytes ++ piece) entries → ReadsSo reader bytes entries
no_piece reader bytes [] entries none reads = subst (λ (l : List ℕ). ReadsSo reader l entries) (append-nil bytes) reads
no_piece reader bytes (b ∷ piece) entries none reads = absurd (omega arith)

-- a piece more was taken
pub taken_more : (all left now : Option (List ℕ)) (bytes piece : List ℕ) (n : ℕ) → length piece ≡ n → TakenFrom all left bytes → ReadsOk left now n piece
    → TakenFrom all now (bytes ++ piece)
taken_more None left now bytes piece n size taken reads = subst (λ (o : Option (List ℕ)). ReadsOk o now n piece) taken reads
taken_more (Some whole) left now bytes piece n size taken reads =
    let took : TakesFront taken.0 now n piece = subst (λ (o : Option (List ℕ)). ReadsOk o now n piece) taken.2 reads in
    let front : piece ≡ take n taken.0 = sym (take_all n piece (omega arith)) ∙ took.front in (
      drop n taken.0,
      taken.1
          ∙ ap (λ (l : List ℕ). bytes ++ l) (sym (take-append-drop n taken.0))
          ∙ sym (append_assoc bytes (take n taken.0) (drop n taken.0))
          ∙ ap (λ (l : List ℕ). (bytes ++ l) ++ drop n taken.0) (sym front),
      took.left,
    )

-- a read that gave nothing
pub read_end : (left now : Option (List ℕ)) (buffer : List ℕ) → ReadsOk left now 0 buffer → IsAtEnd left × (now ≡ left)
read_end None now buffer reads = (tt, reads)
read_end (Some bytes) now buffer reads =
    let none : bytes ≡ [] = reads.end refl in (
      none,
      reads.left ∙ ap (λ (l : List ℕ). let o : Option (List ℕ) = Some (drop 0 l) in o) none ∙ ap (λ (l : List ℕ). let o : Option (List ℕ) = Some l in o) (sym none),
    )

take_short : (n : ℕ) (l : List ℕ) → length l ≤ n → take n l ≡ l
take_short zero [] h = refl
take_short (suc n) [] h = refl
take_short zero (x ∷ l) h = absurd (omega arith)
take_short (suc n) (x ∷ l) h = ap (λ (t : List ℕ). x ∷ t) (take_short n l (omega arith))

take_past : (n : ℕ) (one other : List ℕ) → length one ≤ n → take n (one ++ other) ≡ one ++ take (n - length one) other
take_past n one other h =
    let sum : n ≡ length one + (n - length one) = omega arith in
    ap (λ (k : ℕ). take k (one ++ other)) sum ∙ take-append-add one other (n - length one)

-- up to the limit a source ends as its transcript does
pub within : (bytes : List ℕ) → length bytes ≤ limit → ends_as bytes ≡ ends_by (reading bytes).fault
within bytes short =
    ap (λ b. cond b (ends_by (reading bytes).fault) (cut_by_limit (reading (take limit bytes)).fault)) (le-leb (length bytes) limit short)

-- past it, as the part within the limit does
past : (bytes : List ℕ) → limit < length bytes → ends_as bytes ≡ cut_by_limit (reading (take limit bytes)).fault
past bytes long =
    ap (λ b. cond b (ends_by (reading bytes).fault) (cut_by_limit (reading (take limit bytes)).fault)) (lt-leb (length bytes) limit long)

-- at the end of the source
whole_end : (all left : Option (List ℕ)) (bytes : List ℕ) (history : List HistoryEntry) (entries : List Entry) → TakenFrom all left bytes → IsAtEnd left → length bytes ≤ limit
    → GivenWhole bytes entries → happened history ≡ events_of entries
    → IfSome all (λ whole. (ends_by (reading bytes).fault ≡ ends_as whole) × (happened history ≡ events_of (reading (take limit whole)).entries))
whole_end None left bytes history entries taken at_end short given told = tt
whole_end (Some whole) left bytes history entries taken at_end short given told =
    let none : taken.0 ≡ [] = subst (λ (o : Option (List ℕ)). IsAtEnd o) taken.2 at_end in
    let same : whole ≡ bytes = taken.1 ∙ ap (λ (l : List ℕ). bytes ++ l) none ∙ append-nil bytes in (
      sym (ap ends_as same ∙ within bytes short),
      told ∙ ap events_of (sym given.entries) ∙ ap (λ (l : List ℕ). events_of (reading l).entries) (sym (ap (take limit) same ∙ take_short limit bytes short)),
    )

finish_by : (made : Histories) (bases : Bases) (fault : Option BadEntry) (all left before now : Option (List ℕ)) → IsAtEnd left → EndsReplay made bases (ends_by fault) all before now → ReplaySays made bases (ends_by fault) all left before now
finish_by made bases None all left before now at_end ended = (ended, at_end)
finish_by made bases (Some bad) all left before now at_end ended = ended

pub finish_says : (made : Histories) (bases : Bases) (reader : EntryReader) (streams : Streams) (stood : Histories) (room : ℕ) (all left before now : Option (List ℕ)) (status : Status) → Advances stood made []
    → (going : IsReplaying bases reader streams stood room all left before now) → IsAtEnd left → status ≡ ends_by (reading going.bytes).fault → ReplaySays made bases status all left before now
finish_says made bases reader streams stood room all left before now status sound going at_end answer =
    let s = going.processed.so_far in
    let short : length going.bytes ≤ limit = omega (arith, going.room_left) in
    subst (λ (x : Status). ReplaySays made bases x all left before now) (sym answer)
    (finish_by made bases (reading going.bytes).fault all left before now at_end (record {
      history = s.history;
      is_history = sound bases s.history s.stands;
      grown = s.grown;
      ends = whole_end all left going.bytes s.history s.entries going.taken at_end short going.processed.whole s.told;
    }))

finish_rose : (fault : Option BadEntry) (a b c d : ℕ) → FaultRose (ends_by fault) a b c d
finish_rose None a b c d = tt
finish_rose (Some bad) a b c d = tt

pub finish_cause : (fault : Option BadEntry) (status : Status) (a b c d : ℕ) → status ≡ ends_by fault → FaultRose status a b c d
finish_cause fault status a b c d answer = subst (λ (x : Status). FaultRose x a b c d) (sym answer) (finish_rose fault a b c d)

-- a fault that lasts
lasting_kind : (kind : BadEntryKind) (bad : BadEntry) → IsLasting kind → cut_by_kind kind bad ≡ BadTranscript bad.place bad.kind
lasting_kind Magic bad lasting = refl
lasting_kind Kind bad lasting = refl
lasting_kind Conn bad lasting = refl
lasting_kind Length bad lasting = refl
lasting_kind Cut bad lasting = absurd lasting

lasting_ends : (bytes left : List ℕ) (bad : BadEntry) (entries : List Entry) (long : Bool) → nat_le (length (bytes ++ left)) limit ≡ long → length bytes ≤ limit → StopsAt bad bytes entries
    → (BadTranscript bad.place bad.kind ≡ ends_as (bytes ++ left)) × (entries ≡ (reading (take limit (bytes ++ left))).entries)
lasting_ends bytes left bad entries true e short stops =
    let le : length (bytes ++ left) ≤ limit = leb-true (length (bytes ++ left)) limit e in (
      sym (within (bytes ++ left) le ∙ ap (λ (r : TranscriptReading). ends_by r.fault) (stops.always left)),
      sym (ap (λ (l : List ℕ). (reading l).entries) (take_short limit (bytes ++ left) le) ∙ ap (λ (r : TranscriptReading). r.entries) (stops.always left)),
    )
lasting_ends bytes left bad entries false e short stops =
    let lt : limit < length (bytes ++ left) = leb-false (length (bytes ++ left)) limit e in
    let cut : take limit (bytes ++ left) ≡ bytes ++ take (limit - length bytes) left = take_past limit bytes left short in
    let reads : reading (take limit (bytes ++ left)) ≡ record { entries = entries; fault = Some bad } = ap reading cut ∙ stops.always (take (limit - length bytes) left) in (
      sym (past (bytes ++ left) lt ∙ ap (λ (r : TranscriptReading). cut_by_limit r.fault) reads ∙ lasting_kind bad.kind bad stops.lasting),
      sym (ap (λ (r : TranscriptReading). r.entries) reads),
    )

fault_ends : (all left : Option (List ℕ)) (bytes : List ℕ) (history : List HistoryEntry) (entries : List Entry) (bad : BadEntry) → TakenFrom all left bytes → length bytes ≤ limit
    → StopsAt bad bytes entries → happened history ≡ events_of entries
    → IfSome all (λ whole. (BadTranscript bad.place bad.kind ≡ ends_as whole) × (happened history ≡ events_of (reading (take limit whole)).entries))
fault_ends None left bytes history entries bad taken short stops told = tt
fault_ends (Some whole) left bytes history entries bad taken short stops told =
    let ends = lasting_ends bytes taken.0 bad entries (nat_le (length (bytes ++ taken.0)) limit) refl short stops in (
      ends.0 ∙ ap ends_as (sym taken.1),
      told ∙ ap events_of ends.1 ∙ ap (λ (l : List ℕ). events_of (reading (take limit l)).entries) (sym taken.1),
    )

pub stop_says : (made : Histories) (bases : Bases) (stop : Stop) (reader : EntryReader) (streams : Streams) (stood : Histories) (bytes : List ℕ) (all left before now : Option (List ℕ)) → Advances stood made []
    → TakenFrom all left bytes → length bytes ≤ limit → Processed made bases (Err stop) reader streams stood bytes before now → ReplaySays made bases (status_of_stop stop) all left before now
stop_says made bases (stop.Bad bad) reader streams stood bytes all left before now sound taken short t = record {
  history = t.so_far.history;
  is_history = sound bases t.so_far.history t.so_far.stands;
  grown = t.so_far.grown;
  ends = fault_ends all left bytes t.so_far.history t.so_far.entries bad taken short t.stops t.so_far.told;
}
stop_says made bases stop.Sink reader streams stood bytes all left before now sound taken short t = record { bytes = bytes; taken = taken; part = t }
stop_says made bases stop.Memory reader streams stood bytes all left before now sound taken short t = record { bytes = bytes; taken = taken; part = t }

-- the source fails
pub broken_says : (made : Histories) (bases : Bases) (reader : EntryReader) (streams : Streams) (stood : Histories) (room : ℕ) (all left left_now before now : Option (List ℕ)) → Advances stood made []
    → IsReplaying bases reader streams stood room all left before now → left_now ≡ left → EndsBySourceFault made bases all left_now before now
broken_says made bases reader streams stood room all left left_now before now sound going kept =
    let s = going.processed.so_far in record {
      bytes = going.bytes;
      taken = subst (λ (o : Option (List ℕ)). TakenFrom all o going.bytes) (sym kept) going.taken;
      history = s.history;
      is_history = sound bases s.history s.stands;
      grown = s.grown;
      told = s.told ∙ ap events_of (sym going.processed.whole.entries);
      sound = going.processed.whole.unfinished;
    }

-- nothing could be read
pub unread_says : (made : Histories) (bases : Bases) (fault : ReadFault) (reader : EntryReader) (streams : Streams) (stood : Histories) (room : ℕ) (all left left_now before now : Option (List ℕ)) → Advances stood made []
    → IsReplaying bases reader streams stood room all left before now → left_now ≡ left → ReplaySays made bases (status_of_read fault) all left_now before now
unread_says made bases read.Source reader streams stood room all left left_now before now sound going kept =
    broken_says made bases reader streams stood room all left left_now before now sound going kept
unread_says made bases read.Memory reader streams stood room all left left_now before now sound going kept = record {
  bytes = going.bytes;
  taken = subst (λ (o : Option (List ℕ)). TakenFrom all o going.bytes) (sym kept) going.taken;
  part = so_far_interrupted made bases reader streams stood going.bytes before now sound going.processed.so_far;
}

pub unread_rose : (fault : ReadFault) (first before now c d : ℕ) → first ≤ before → RoseBy before now (Err fault) → FaultRose (status_of_read fault) first now c d
unread_rose read.Source first before now c d later rose = omega (arith, rose)
unread_rose read.Memory first before now c d later rose = tt

-- the source holds more than the limit
unfinished_cut : (fault : Option BadEntry) (bytes : List ℕ) → 8 ≤ length bytes → MayGoOn fault bytes → cut_by_limit fault ≡ TooLong
unfinished_cut None bytes long may = refl
unfinished_cut (Some bad) bytes long may = at bad.kind may
  where
    at : (kind : BadEntryKind) → IsUnfinished kind bytes → cut_by_kind kind bad ≡ TooLong
    at Magic short = absurd (omega arith)
    at Kind never = absurd never
    at Conn never = absurd never
    at Length never = absurd never
    at Cut open_still = refl

too_long_ends : (all left : Option (List ℕ)) (bytes : List ℕ) (history : List HistoryEntry) (entries : List Entry) → TakenFrom all left bytes → IfSome left (λ l. 0 < length l) → length bytes ≡ limit → 8 ≤ length bytes
    → GivenWhole bytes entries → happened history ≡ events_of entries
    → IfSome all (λ whole. (TooLong ≡ ends_as whole) × (happened history ≡ events_of (reading (take limit whole)).entries))
too_long_ends None left bytes history entries taken more full long given told = tt
too_long_ends (Some whole) left bytes history entries taken more full long given told =
    let some : 0 < length taken.0 = subst (λ (o : Option (List ℕ)). IfSome o (λ l. 0 < length l)) taken.2 more in
    let size : length whole ≡ length bytes + length taken.0 = ap length taken.1 ∙ length-append bytes taken.0 in
    let cut : take limit whole ≡ bytes = ap (take limit) taken.1 ∙ ap (λ (n : ℕ). take n (bytes ++ taken.0)) (sym full) ∙ take-append_seam bytes taken.0 in (
      sym (past whole (omega arith) ∙ ap (λ (l : List ℕ). cut_by_limit (reading l).fault) cut ∙ unfinished_cut (reading bytes).fault bytes long given.unfinished),
      told ∙ ap events_of (sym given.entries) ∙ ap (λ (l : List ℕ). events_of (reading l).entries) (sym cut),
    )

holds_more : (left now : Option (List ℕ)) → TakesOne left now → IfSome left (λ l. 0 < length l)
holds_more None now one = tt
holds_more (Some bytes) now one = one.0

pub too_long_says : (made : Histories) (bases : Bases) (reader : EntryReader) (streams : Streams) (stood : Histories) (all left left_now before now : Option (List ℕ)) → Advances stood made []
    → IsReplaying bases reader streams stood 0 all left before now → TakesOne left left_now → EndsReplay made bases TooLong all before now
unfolding limit
too_long_says made bases reader streams stood all left left_now before now sound going more =
    let s = going.processed.so_far in record {
      history = s.history;
      is_history = sound bases s.history s.stands;
      grown = s.grown;
      ends = too_long_ends all left going.bytes s.history s.entries going.taken (holds_more left left_now more) (omega (arith, going.room_left)) (omega (arith, going.room_left)) going.processed.whole s.told;
    }

untaken : (all : Option (List ℕ)) → TakenFrom all all []
untaken None = refl
untaken (Some bytes) = (bytes, refl, refl)

-- nothing was taken yet
pub nothing_taken : (most : ℕ) (all : Option (List ℕ)) → TakesWithin most all all
nothing_taken most all = record { bytes = []; taken = untaken all; few = omega arith }

-- and nothing was processed
pub going_from : (bases : Bases) (reader : EntryReader) (streams : Streams) (stood : Histories) (all written : Option (List ℕ)) → ReadsSo reader [] [] → ((who : Speaker) → FramerFed (framer_at streams who) [] []) → stood bases []
    → IsReplaying bases reader streams stood limit all all written written
going_from bases reader streams stood all written reads fed stands = record {
  bytes = [];
  taken = untaken all;
  room_left = omega arith;
  processed = record {
    so_far = record { entries = []; history = []; reads = reads; fit = fed; stands = stands; told = refl; grown = grows_nothing written };
    whole = record { entries = refl; unfinished = lit< tt };
  };
}

-- what was taken, by how the replay ends
pub taken_so_far : (bases : Bases) (reader : EntryReader) (streams : Streams) (stood : Histories) (room : ℕ) (all left left_now before now : Option (List ℕ))
    → IsReplaying bases reader streams stood room all left before now → left_now ≡ left → TakesWithin (limit + 1) all left_now
taken_so_far bases reader streams stood room all left left_now before now going kept = record {
  bytes = going.bytes;
  taken = subst (λ (o : Option (List ℕ)). TakenFrom all o going.bytes) (sym kept) going.taken;
  few = omega (arith, going.room_left);
}

pub taken_piece : (bases : Bases) (reader : EntryReader) (streams : Streams) (stood : Histories) (room n : ℕ) (all left left_now before now : Option (List ℕ)) (piece : List ℕ)
    → (going : IsReplaying bases reader streams stood room all left before now) → ReadsOk left left_now n piece → length piece ≡ n → n ≤ room
    → TakesWithin (limit + 1) all left_now
taken_piece bases reader streams stood room n all left left_now before now piece going reads size fits = record {
  bytes = going.bytes ++ piece;
  taken = taken_more all left left_now going.bytes piece n size going.taken reads;
  few = omega (arith, length-append going.bytes piece, going.room_left);
}

one_more : (all left now : Option (List ℕ)) (bytes : List ℕ) (most : ℕ) → TakenFrom all left bytes → length bytes ≤ most → TakesOne left now → TakesWithin (most + 1) all now
one_more None left now bytes most taken short one = record { bytes = []; taken = subst (λ (o : Option (List ℕ)). TakesOne o now) taken one; few = omega arith }
one_more (Some whole) left now bytes most taken short one =
    let took : (0 < length taken.0) × (now ≡ Some (drop 1 taken.0)) = subst (λ (o : Option (List ℕ)). TakesOne o now) taken.2 one in
    let size : length (take 1 taken.0) ≡ 1 = length-take-le 1 taken.0 took.0 in record {
      bytes = bytes ++ take 1 taken.0;
      taken = (
        drop 1 taken.0,
        taken.1 ∙ ap (λ (l : List ℕ). bytes ++ l) (sym (take-append-drop 1 taken.0)) ∙ sym (append_assoc bytes (take 1 taken.0) (drop 1 taken.0)),
        took.1,
      );
      few = omega (arith, length-append bytes (take 1 taken.0));
    }

pub taken_past : (bases : Bases) (reader : EntryReader) (streams : Streams) (stood : Histories) (room : ℕ) (all left left_now before now : Option (List ℕ))
    → IsReplaying bases reader streams stood room all left before now → TakesOne left left_now → TakesWithin (limit + 1) all left_now
taken_past bases reader streams stood room all left left_now before now going one =
    one_more all left left_now going.bytes limit going.taken (omega (arith, going.room_left)) one

-- one byte was read, where one could be
pub read_one_byte : (left now : Option (List ℕ)) (buffer : List ℕ) (n : ℕ) → Reads {E = Unit {0}} left now (Ok n) buffer → 0 < n → n ≤ 1 → TakesOne left now
read_one_byte None now buffer n reads some one = reads
read_one_byte (Some bytes) now buffer n reads some one =
    let same : n ≡ 1 = omega arith in (
      (let fits = reads.within in omega arith),
      reads.left ∙ ap (λ (k : ℕ). let o : Option (List ℕ) = Some (drop k bytes) in o) same,
    )

pub going_start : (bases : Bases) (reader : EntryReader) (streams : Streams) (stood : Histories) (all written : Option (List ℕ)) → ReadsSo reader [] [] → ((who : Speaker) → FramerFed (framer_at streams who) [] []) → stood bases []
    → IsReplaying bases reader streams stood 67108864 all all written written
unfolding limit
going_start bases reader streams stood all written reads fed stands = going_from bases reader streams stood all written reads fed stands

-- a piece more was taken and processed
pub going_on : (bases : Bases) (reader next : EntryReader) (streams streams_now : Streams) (stood now_stood : Histories) (room n : ℕ) (all left left_now before mid now : Option (List ℕ)) (piece : List ℕ)
    → (going : IsReplaying bases reader streams stood room all left before mid) → ReadsOk left left_now n piece → length piece ≡ n → n ≤ room
    → ProcessedAll bases next streams_now now_stood (going.bytes ++ piece) before now
    → IsReplaying bases next streams_now now_stood (room - n) all left_now before now
going_on bases reader next streams streams_now stood now_stood room n all left left_now before mid now piece going reads size fits processed = record {
  bytes = going.bytes ++ piece;
  taken = taken_more all left left_now going.bytes piece n size going.taken reads;
  room_left = omega (arith, length-append going.bytes piece, going.room_left);
  processed = processed;
}

-- and the bytes so far still fit
pub piece_fits : (bases : Bases) (reader : EntryReader) (streams : Streams) (stood : Histories) (room n : ℕ) (all left before now : Option (List ℕ)) (piece : List ℕ)
    → (going : IsReplaying bases reader streams stood room all left before now) → length piece ≡ n → n ≤ room → length (going.bytes ++ piece) ≤ limit
piece_fits bases reader streams stood room n all left before now piece going size fits = omega (arith, length-append going.bytes piece, going.room_left)

-- what made a stop rise
pub stop_rose : (stop : Stop) (a b first c d : ℕ) → first ≤ c → StopRose c d (Err stop) → FaultRose (status_of_stop stop) a b first d
stop_rose (stop.Bad bad) a b first c d later rose = tt
stop_rose stop.Sink a b first c d later rose = omega arith
stop_rose stop.Memory a b first c d later rose = tt
