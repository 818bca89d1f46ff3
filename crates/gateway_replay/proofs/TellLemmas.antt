-- What a piece of a speaker's bytes tells, and what its entry tells.
use Rattle.std.proofs.Common.{◌≡◌, ◌≢◌, ℕ, Bool, true, false, cond, ◌==◌, List, [], ◌∷◌, ◌++◌, length, drop, map, Option, Some, Result, Ok, Err, refl, sym, ◌∙◌, ap, subst, inl, inr}
use Rattle.std.specs.Prelude.{◌⊎◌}
use Rattle.std.proofs.lemmas.Bool.{cases_Bool, eqb-true, eqb-false, eq-eqb, ne_eqb}
use Rattle.std.proofs.lemmas.List.{append_assoc, append-nil, map-append}
use Rattle.std.proofs.Math.Seq.{drop-append_seam}
use Rattle.rtsp_head.specs.Items.{Shape, items_of}
use Rattle.rtsp_frame.specs.FramerState.{HeldBytes, Framed}
use Rattle.gateway_claim.specs.Happenings.{Happening}
use Rattle.gate_transcript.specs.declared.entry.Entry.{Entry}
use Rattle.gate_transcript.specs.declared.entry.EntryKind.{EntryKind}
use Rattle.gate_transcript.specs.declared.entry.EntryKind.TheVariants.{Client, Upstream}
use Rattle.gateway_replay.specs.declared.streams.Streams.{Streams}
use Rattle.gateway_replay.specs.declared.streams.Speaker.{Speaker}
use Rattle.gateway_replay.specs.declared.streams.Speaker.TheVariants as speaker
use Rattle.gateway_replay.specs.declared.core_records.ProcessFault.{ProcessFault}
use Rattle.gateway_replay.specs.Events.{speaks, bytes_here, stream_of, said_by, events_with, events_by}
use Rattle.gateway_replay.specs.Framers.{FramerFed}
use Rattle.gateway_replay.specs.Streams.{framer_at}
use Rattle.gateway_replay.specs.Runs.{IsFront, FedBy, StreamsFit, FitsWith, ToldInPart, ToldWith, ToldBy}

-- two speakers are one or not
same_or_not : (one other : Speaker) → (one ≡ other) ⊎ (one ≢ other)
same_or_not (speaker.Client i) (speaker.Client j) =
    elim (cases_Bool (i == j)) [
      | inl same ↦ inl (ap speaker.Client (eqb-true i j same))
      | inr not ↦ inr (λ e. let same : i ≡ j = cc in eqb-false i j not same)
    ]
same_or_not (speaker.Client i) speaker.Server = inr (λ e. cc)
same_or_not speaker.Server (speaker.Client j) = inr (λ e. cc)
same_or_not speaker.Server speaker.Server = inl refl

-- the items after those that were given are the new ones
after_given : (given shapes all : List Shape) → given ++ shapes ≡ all → shapes ≡ drop (length given) all
after_given given shapes all whole = sym (drop-append_seam given shapes) ∙ ap (drop (length given)) whole

-- what was told of a piece that was not all taken
abbrev pub IsFramer : Streams → Speaker → HeldBytes → Type 0
IsFramer streams who framer = (stream : List ℕ) (given : List Shape) → FramerFed (framer_at streams who) stream given → Framed framer stream given

pub told_in_part : (old : Streams) (framer : HeldBytes) (who : Speaker) (piece : List ℕ) (shapes : List Shape) (told : List Happening) (earlier : List Entry) → IsFramer old who framer
    → ((stream : List ℕ) (given : List Shape) → Framed framer stream given → IsFront (given ++ shapes) (items_of (stream ++ piece)))
    → told ≡ map (said_by who) shapes → StreamsFit old earlier → ToldInPart told (events_with who piece earlier)
told_in_part old framer who piece shapes told earlier is_framer took is fit =
    let stream = stream_of who earlier in
    let front : IsFront (items_of stream ++ shapes) (items_of (stream ++ piece)) = took stream (items_of stream) (is_framer stream (items_of stream) (fit who)) in record {
      more = map (said_by who) front.more;
      whole =
          ap (λ (l : List Happening). l ++ map (said_by who) front.more) is
          ∙ sym (map-append (said_by who) shapes front.more)
          ∙ ap (map (said_by who))
          (after_given (items_of stream) (shapes ++ front.more) (items_of (stream ++ piece)) (sym (append_assoc (items_of stream) shapes front.more) ∙ front.whole));
    }

-- and of any piece, by what came of its items
pub told_items : (result : Result (Unit {0}) ProcessFault) (old new : Streams) (framer framer_now : HeldBytes) (who : Speaker) (piece : List ℕ) (shapes : List Shape) (told : List Happening) (earlier : List Entry) → IsFramer old who framer
    → framer_at new who ≡ Some framer_now
    → ((other : Speaker) → other ≢ who → framer_at new other ≡ framer_at old other)
    → ((stream : List ℕ) (given : List Shape) → Framed framer stream given → FedBy result framer_now (stream ++ piece) (given ++ shapes))
    → told ≡ map (said_by who) shapes → StreamsFit old earlier → ToldWith result new who piece earlier told
told_items (Ok u) old new framer framer_now who piece shapes told earlier is_framer is_now others took is fit =
    let stream = stream_of who earlier in
    let done = took stream (items_of stream) (is_framer stream (items_of stream) (fit who)) in (
      record {
        here = subst (λ (f : Option HeldBytes). FramerFed f (stream ++ piece) (items_of (stream ++ piece))) (sym is_now)
            (subst (λ (l : List Shape). Framed framer_now (stream ++ piece) l) done.1 done.0);
        others = λ other apart.
            subst (λ (f : Option HeldBytes). FramerFed f (stream_of other earlier) (items_of (stream_of other earlier))) (sym (others other apart)) (fit other);
      },
      is ∙ ap (map (said_by who)) (after_given (items_of stream) shapes (items_of (stream ++ piece)) done.1),
    )
told_items (Err fault) old new framer framer_now who piece shapes told earlier is_framer is_now others took is fit =
    told_in_part old framer who piece shapes told earlier is_framer took is fit

-- the streams of all after an entry with a piece of one
fits_at : (streams : Streams) (who other : Speaker) (entry : Entry) (earlier : List Entry) → bytes_here who entry ≡ entry.body
    → ((other : Speaker) → other ≢ who → bytes_here other entry ≡ []) → FitsWith streams who entry.body earlier
    → (other ≡ who) ⊎ (other ≢ who) → FramerFed (framer_at streams other) (stream_of other (entry ∷ earlier)) (items_of (stream_of other (entry ∷ earlier)))
fits_at streams who other entry earlier here none fits (inl same) =
    subst (λ (x : Speaker). FramerFed (framer_at streams x) (stream_of x (entry ∷ earlier)) (items_of (stream_of x (entry ∷ earlier)))) (sym same)
    (subst (λ (l : List ℕ). FramerFed (framer_at streams who) (stream_of who earlier ++ l) (items_of (stream_of who earlier ++ l))) (sym here) fits.here)
fits_at streams who other entry earlier here none fits (inr apart) =
    let stays : stream_of other (entry ∷ earlier) ≡ stream_of other earlier = ap (λ (l : List ℕ). stream_of other earlier ++ l) (none other apart) ∙ append-nil (stream_of other earlier) in
    subst (λ (l : List ℕ). FramerFed (framer_at streams other) l (items_of l)) (sym stays) (fits.others other apart)

fits_entry : (streams : Streams) (who : Speaker) (entry : Entry) (earlier : List Entry) → bytes_here who entry ≡ entry.body
    → ((other : Speaker) → other ≢ who → bytes_here other entry ≡ []) → FitsWith streams who entry.body earlier → StreamsFit streams (entry ∷ earlier)
fits_entry streams who entry earlier here none fits = λ other. fits_at streams who other entry earlier here none fits (same_or_not other who)

-- an entry that has no bytes of a speaker
pub silent : (who : Speaker) (entry : Entry) → speaks who entry.kind entry.conn ≡ false → bytes_here who entry ≡ []
silent who entry none = ap (λ (b : Bool). let nothing : List ℕ = [] in cond b entry.body nothing) none

heard : (who : Speaker) (entry : Entry) → speaks who entry.kind entry.conn ≡ true → bytes_here who entry ≡ entry.body
heard who entry some = ap (λ (b : Bool). let nothing : List ℕ = [] in cond b entry.body nothing) some

client_apart : (conn : ℕ) (other : Speaker) → other ≢ speaker.Client conn → speaks other Client conn ≡ false
client_apart conn (speaker.Client i) apart = ne_eqb conn i (λ same. apart (ap speaker.Client (sym same)))
client_apart conn speaker.Server apart = refl

server_apart : (conn : ℕ) (other : Speaker) → other ≢ speaker.Server → speaks other Upstream conn ≡ false
server_apart conn (speaker.Client i) apart = refl
server_apart conn speaker.Server apart = absurd (apart refl)

-- an entry with bytes of a client, and one with bytes of the server
pub told_client : (result : Result (Unit {0}) ProcessFault) (streams : Streams) (entry : Entry) (earlier : List Entry) (told : List Happening) → entry.kind ≡ Client
    → ToldWith result streams (speaker.Client entry.conn) entry.body earlier told → ToldBy result streams entry earlier told
told_client (Ok u) streams entry earlier told kind done =
    let spoken = λ (who : Speaker). ap (λ (k : EntryKind). speaks who k entry.conn) kind in (
      fits_entry streams (speaker.Client entry.conn) entry earlier
          (heard (speaker.Client entry.conn) entry (spoken (speaker.Client entry.conn) ∙ eq-eqb entry.conn entry.conn refl))
          (λ other apart. silent other entry (spoken other ∙ client_apart entry.conn other apart)) done.0,
      done.1 ∙ ap (λ (k : EntryKind). events_by k entry earlier) (sym kind),
    )
told_client (Err fault) streams entry earlier told kind part = record {
  more = part.more;
  whole = part.whole ∙ ap (λ (k : EntryKind). events_by k entry earlier) (sym kind);
}

pub told_server : (result : Result (Unit {0}) ProcessFault) (streams : Streams) (entry : Entry) (earlier : List Entry) (told : List Happening) → entry.kind ≡ Upstream
    → ToldWith result streams speaker.Server entry.body earlier told → ToldBy result streams entry earlier told
told_server (Ok u) streams entry earlier told kind done =
    let spoken = λ (who : Speaker). ap (λ (k : EntryKind). speaks who k entry.conn) kind in (
      fits_entry streams speaker.Server entry earlier (heard speaker.Server entry (spoken speaker.Server))
          (λ other apart. silent other entry (spoken other ∙ server_apart entry.conn other apart)) done.0,
      done.1 ∙ ap (λ (k : EntryKind). events_by k entry earlier) (sym kind),
    )
told_server (Err fault) streams entry earlier told kind part = record {
  more = part.more;
  whole = part.whole ∙ ap (λ (k : EntryKind). events_by k entry earlier) (sym kind);
}
