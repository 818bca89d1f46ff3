-- Entries, one after another: what a replay has done so far.
use Rattle.std.proofs.Common.{◌≡◌, ℕ, Bool, true, false, not, List, [], ◌∷◌, ◌++◌, Option, Some, None, Ok, Err, refl, sym, ◌∙◌, ap}
use Rattle.std.proofs.lemmas.List.{append_assoc, append-nil}
use Rattle.rtsp_uri.specs.declared.base.Bases.{Bases}
use Rattle.gateway_claim.specs.Happenings.{Happening, HistoryEntry, happened}
use Rattle.gate_transcript.specs.declared.entry.Entry.{Entry}
use Rattle.gate_transcript.specs.declared.entry.EntryKind.{EntryKind}
use Rattle.gate_transcript.specs.declared.entry.EntryKind.TheVariants.{Enter, Client, Upstream, End, Slow, UpEnd}
use Rattle.gate_transcript.specs.declared.fault.EntryFault.{EntryFault}
use Rattle.gate_transcript.specs.declared.fault.EntryFault.TheVariants as entry_fault
use Rattle.gate_transcript.specs.declared.fault.BadEntry.{BadEntry}
use Rattle.gate_transcript.specs.declared.reader.EntryReader.{EntryReader}
use Rattle.gate_transcript.specs.Transcript.{has_entered, may_come}
use Rattle.gate_transcript.specs.Reads.{ReadsSo, NextSays}
use Rattle.gate_transcript.proofs.ReaderLemmas.{given_front}
use Rattle.gate_transcript.proofs.ProperLemmas.{reads_proper}
use Rattle.gateway_replay.specs.declared.streams.Streams.{Streams}
use Rattle.gateway_replay.specs.declared.core_records.ProcessFault.{ProcessFault}
use Rattle.gateway_replay.specs.declared.core_records.ProcessFault.TheVariants.{Sink, Memory}
use Rattle.gateway_replay.specs.Events.{events_by, events_of}
use Rattle.gateway_replay.specs.CoreRecords.{Histories, Advances, EntersNew, with_new}
use Rattle.gateway_replay.specs.Runs.{TakesEntry, ToldInPart}
use Rattle.gateway_replay.specs.Stops.{stop_of_reader, stop_of_event}
use Rattle.gateway_replay.specs.Replays.{ReplayedSoFar, TellsFront, IsInterrupted, ProcessedAll, ProcessedToFault, Processed}
use Rattle.gateway_replay.proofs.EnterLemmas.{entered_never}
use Rattle.gateway_replay.proofs.RunLemmas.{happened-append, grows_on, grows_on_in_part}

not_true : (b : Bool) → not b ≡ true → b ≡ false
not_true true e = cc
not_true false e = refl

new_by : (kind : EntryKind) (history : List HistoryEntry) (entries : List Entry) (conn : ℕ) → happened history ≡ events_of entries
    → may_come (λ c. has_entered c entries) kind conn ≡ true → EntersNew kind conn history
new_by Enter history entries conn told may = entered_never conn history entries told (not_true (has_entered conn entries) may)
new_by Client history entries conn told may = tt
new_by Upstream history entries conn told may = tt
new_by End history entries conn told may = tt
new_by Slow history entries conn told may = tt
new_by UpEnd history entries conn told may = tt

-- a connection that enters by the next entry never entered before
pub enters_new : (bases : Bases) (reader next : EntryReader) (streams : Streams) (stood : Histories) (bytes : List ℕ) (before now : Option (List ℕ)) (e : Entry)
    → (s : ReplayedSoFar bases reader streams stood bytes before now) → NextSays reader next (Ok (Some e)) → with_new e.kind e.conn stood bases s.history
enters_new bases reader next streams stood bytes before now e s says =
    let proper = reads_proper next bytes (e ∷ s.entries) (says bytes s.entries s.reads) in
    (s.stands, new_by e.kind s.history s.entries e.conn s.told proper.0)

-- one entry more
pub so_far_more : (made : Histories) (bases : Bases) (reader next : EntryReader) (streams streams_now : Streams) (stood now_stood : Histories) (bytes : List ℕ) (before mid now : Option (List ℕ)) (e : Entry)
    → ReplayedSoFar bases reader streams stood bytes before mid → NextSays reader next (Ok (Some e)) → TakesEntry streams streams_now made (with_new e.kind e.conn stood) now_stood e mid now (Ok tt)
    → ReplayedSoFar bases next streams_now now_stood bytes before now
so_far_more made bases reader next streams streams_now stood now_stood bytes before mid now e s says t =
    let new = enters_new bases reader next streams stood bytes before mid e s says in record {
      entries = e ∷ s.entries;
      history = t.more ++ s.history;
      reads = says bytes s.entries s.reads;
      fit = (t.told s.entries s.fit).0;
      stands = t.advances bases s.history new;
      told =
          happened-append t.more s.history
          ∙ ap (λ (l : List Happening). l ++ happened t.more) s.told
          ∙ ap (λ (l : List Happening). events_of s.entries ++ l) (t.told s.entries s.fit).1;
      grown = grows_on before mid now s.history t.more s.grown (t.written bases s.history new);
    }

-- no entry more
pub so_far_whole : (bases : Bases) (reader next : EntryReader) (streams : Streams) (stood : Histories) (bytes : List ℕ) (before now : Option (List ℕ))
    → ReplayedSoFar bases reader streams stood bytes before now → NextSays reader next (Ok None) → ProcessedAll bases next streams stood bytes before now
so_far_whole bases reader next streams stood bytes before now s says =
    let after = says bytes s.entries s.reads in record {
      so_far = record { entries = s.entries; history = s.history; reads = after.0; fit = s.fit; stands = s.stands; told = s.told; grown = s.grown };
      whole = after.1;
    }

pub so_far_bad : (bases : Bases) (reader next : EntryReader) (streams : Streams) (stood : Histories) (bytes : List ℕ) (before now : Option (List ℕ)) (bad : BadEntry)
    → ReplayedSoFar bases reader streams stood bytes before now → NextSays reader next (Err (entry_fault.Bad bad)) → ProcessedToFault bases bad next streams stood bytes before now
so_far_bad bases reader next streams stood bytes before now bad s says =
    let after = says bytes s.entries s.reads in record {
      so_far = record { entries = s.entries; history = s.history; reads = after.0; fit = s.fit; stands = s.stands; told = s.told; grown = s.grown };
      stops = after.1;
    }

-- An interruption between two entries. What the core stands for is a history that it can make.
pub so_far_interrupted : (made : Histories) (bases : Bases) (reader : EntryReader) (streams : Streams) (stood : Histories) (bytes : List ℕ) (before now : Option (List ℕ)) → Advances stood made []
    → ReplayedSoFar bases reader streams stood bytes before now → IsInterrupted made bases bytes before now
so_far_interrupted made bases reader streams stood bytes before now sound s =
    let given = given_front reader bytes s.entries s.reads in record {
      history = s.history;
      is_history = sound bases s.history s.stands;
      tells = record {
        front = given.front;
        rest = given.rest;
        whole = given.whole;
        told = record { more = []; whole = append-nil (happened s.history) ∙ s.told ∙ ap events_of (sym given.entries) };
      };
      grown = s.grown;
    }

-- a fault of the reader
pub so_far_faulted : (made : Histories) (bases : Bases) (reader next : EntryReader) (streams : Streams) (stood : Histories) (bytes : List ℕ) (before now : Option (List ℕ)) (fault : EntryFault) → Advances stood made []
    → ReplayedSoFar bases reader streams stood bytes before now → NextSays reader next (Err fault) → Processed made bases (Err (stop_of_reader fault)) next streams stood bytes before now
so_far_faulted made bases reader next streams stood bytes before now (entry_fault.Bad bad) sound s says = so_far_bad bases reader next streams stood bytes before now bad s says
so_far_faulted made bases reader next streams stood bytes before now entry_fault.Memory sound s says = so_far_interrupted made bases reader streams stood bytes before now sound s

-- an interruption within an entry
tells_part : (next : EntryReader) (bytes : List ℕ) (entries : List Entry) (e : Entry) (history more : List HistoryEntry)
    → ReadsSo next bytes (e ∷ entries) → happened history ≡ events_of entries → ToldInPart (happened more) (events_by e.kind e entries)
    → TellsFront bytes (more ++ history)
tells_part next bytes entries e history more reads told part =
    let given = given_front next bytes (e ∷ entries) reads in record {
      front = given.front;
      rest = given.rest;
      whole = given.whole;
      told = record {
        more = part.more;
        whole =
            ap (λ (l : List Happening). l ++ part.more) (happened-append more history ∙ ap (λ (l : List Happening). l ++ happened more) told)
            ∙ append_assoc (events_of entries) (happened more) part.more
            ∙ ap (λ (l : List Happening). events_of entries ++ l) part.whole
            ∙ ap events_of (sym given.entries);
      };
    }

pub so_far_stopped : (made : Histories) (bases : Bases) (reader next : EntryReader) (streams streams_now : Streams) (stood now_stood : Histories) (bytes : List ℕ) (before mid now : Option (List ℕ)) (e : Entry) (fault : ProcessFault)
    → ReplayedSoFar bases reader streams stood bytes before mid → NextSays reader next (Ok (Some e)) → TakesEntry streams streams_now made (with_new e.kind e.conn stood) now_stood e mid now (Err fault)
    → Processed made bases (Err (stop_of_event fault)) next streams_now now_stood bytes before now
so_far_stopped made bases reader next streams streams_now stood now_stood bytes before mid now e Sink s says t =
    let new = enters_new bases reader next streams stood bytes before mid e s says in record {
      history = t.more ++ s.history;
      is_history = t.advances bases s.history new;
      tells = tells_part next bytes s.entries e s.history t.more (says bytes s.entries s.reads) s.told (t.told s.entries s.fit);
      grown = grows_on_in_part before mid now s.history t.more s.grown (t.written bases s.history new);
    }
so_far_stopped made bases reader next streams streams_now stood now_stood bytes before mid now e Memory s says t =
    let new = enters_new bases reader next streams stood bytes before mid e s says in record {
      history = t.more ++ s.history;
      is_history = t.advances bases s.history new;
      tells = tells_part next bytes s.entries e s.history t.more (says bytes s.entries s.reads) s.told (t.told s.entries s.fit);
      grown = grows_on before mid now s.history t.more s.grown (t.written bases s.history new);
    }
