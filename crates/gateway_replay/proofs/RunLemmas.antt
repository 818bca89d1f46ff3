-- Events, one after another: what the history gains and what is written.
use Rattle.std.proofs.Common.{◌≡◌, ◌≢◌, ℕ, false, List, [], ◌∷◌, ◌++◌, map, Option, Some, None, IfSome, Result, Ok, Err, refl, sym, ◌∙◌, ap, subst}
use Rattle.std.specs.Option.{IfNone}
use Rattle.std.specs.Prelude.{nat_eq}
use Rattle.std.specs.HashMap.{get}
use Rattle.std.proofs.lemmas.List.{append_assoc, append-nil, map-append}
use Rattle.gate_outside.specs.Contents.{Grows, GrowsByFront}
use Rattle.gate_outside.proofs.Fronts.{grows_twice}
use Rattle.rtsp_head.specs.Items.{Shape, items_of}
use Rattle.rtsp_head.specs.Shapes.{shape_of}
use Rattle.rtsp_head.specs.declared.item.Item.{Item}
use Rattle.rtsp_frame.specs.FramerState.{HeldBytes, Framed, GivesNext}
use Rattle.rtsp_frame.proofs.CutLemmas.{items_append}
use Rattle.rtsp_uri.specs.declared.base.Bases.{Bases}
use Rattle.gateway_claim.specs.declared.event.Event.{Event}
use Rattle.gateway_claim.specs.declared.event.Outcome.{Outcome}
use Rattle.gateway_claim.specs.Happenings.{Happening, ends, lags, up_ends, HistoryEntry, happened, happening_of, entry_of, entering}
use Rattle.gate_transcript.specs.declared.entry.Entry.{Entry}
use Rattle.gate_transcript.specs.declared.entry.EntryKind.{EntryKind}
use Rattle.gate_transcript.specs.declared.entry.EntryKind.TheVariants.{Enter, Client, Upstream, End, Slow, UpEnd}
use Rattle.gate_transcript.specs.declared.entry.UpWhy.{UpWhy}
use Rattle.gate_transcript.specs.Bodies.{end_reason_in}
use Rattle.gateway_replay.specs.declared.streams.Streams.{Streams}
use Rattle.gateway_replay.specs.declared.streams.Speaker.{Speaker}
use Rattle.gateway_replay.specs.declared.streams.Speaker.TheVariants as speaker
use Rattle.gateway_replay.specs.declared.core_records.ProcessFault.{ProcessFault}
use Rattle.gateway_replay.specs.declared.core_records.ProcessFault.TheVariants.{Sink, Memory}
use Rattle.gateway_replay.specs.Events.{speaks, stream_of, said_by, up_end_told, events_by}
use Rattle.gateway_replay.specs.Framers.{FramerFed}
use Rattle.gateway_replay.specs.Streams.{framer_at}
use Rattle.gateway_replay.specs.RecordTexts.{records, records_after, records_of}
use Rattle.gateway_replay.specs.CoreRecords.{Histories, Advances, EntersAs, EntersNew, with_new}
use Rattle.gateway_replay.specs.Runs.{WritesAfter, EventTaken, TakesEvent, TakesPiece, TakesSome, TakesBytes, IsFront, StreamsFit, ToldBy, TakesEntry, TakesUpEnd}
use Rattle.gateway_replay.proofs.RecordLemmas.{then_writes}
use Rattle.gateway_replay.proofs.TellLemmas.{silent, told_items, told_in_part, told_client, told_server}

pub grows_nothing : (written : Option (List ℕ)) → Grows written written []
grows_nothing None = refl
grows_nothing (Some bytes) = ap (λ (l : List ℕ). let told : Option (List ℕ) = Some l in told) (sym (append-nil bytes))

-- histories, one after another
pub happened-append : (one other : List HistoryEntry) → happened (one ++ other) ≡ happened other ++ happened one
happened-append [] other = sym (append-nil (happened other))
happened-append (e ∷ one) other =
    ap (λ (l : List Happening). l ++ (e.happening ∷ [])) (happened-append one other) ∙ append_assoc (happened other) (happened one) (e.happening ∷ [])

pub records-append : (one other : List HistoryEntry) → records (one ++ other) ≡ records other ++ records_after other one
records-append [] other = sym (append-nil (records other))
records-append (e ∷ one) other =
    ap (λ (l : List ℕ). l ++ records_of e.outcome (one ++ other)) (records-append one other)
    ∙ append_assoc (records other) (records_after other one) (records_of e.outcome (one ++ other))

records_after-append : (T one other : List HistoryEntry) → records_after T (other ++ one) ≡ records_after T one ++ records_after (one ++ T) other
records_after-append T one [] = sym (append-nil (records_after T one))
records_after-append T one (e ∷ other) =
    ap (λ (l : List ℕ). l ++ records_of e.outcome ((other ++ one) ++ T)) (records_after-append T one other)
    ∙ append_assoc (records_after T one) (records_after (one ++ T) other) (records_of e.outcome ((other ++ one) ++ T))
    ∙ ap (λ (h : List HistoryEntry). records_after T one ++ (records_after (one ++ T) other ++ records_of e.outcome h)) (append_assoc other one T)

pub advances_twice : (before between now : Histories) (one other : List HistoryEntry) → Advances before between one → Advances between now other → Advances before now (other ++ one)
advances_twice before between now one other first next =
    λ bases T s. subst (λ (l : List HistoryEntry). now bases l) (sym (append_assoc other one T)) (next bases (one ++ T) (first bases T s))

writes_twice : (T : List HistoryEntry) (before between now : Option (List ℕ)) (one other : List HistoryEntry) (r : Result (Unit {0}) ProcessFault)
    → Grows before between (records_after T one) → WritesAfter between now (one ++ T) other r → WritesAfter before now T (other ++ one) r
writes_twice T before between now one other (Ok u) first next =
    subst (λ (l : List ℕ). Grows before now l) (sym (records_after-append T one other))
    (grows_twice before between now (records_after T one) (records_after (one ++ T) other) first next)
writes_twice T before between now one other (Err Sink) first next =
    subst (λ (l : List ℕ). GrowsByFront before now l) (sym (records_after-append T one other))
    (then_writes {T = Unit {0}} {E = Unit {0}} before between now (records_after T one) (records_after (one ++ T) other) (Err tt) first next)
writes_twice T before between now one other (Err Memory) first next =
    subst (λ (l : List ℕ). Grows before now l) (sym (records_after-append T one other))
    (grows_twice before between now (records_after T one) (records_after (one ++ T) other) first next)

-- what a multiplexer that stands for a history wrote after it is what all of the longer history writes
pub grows_on : (before between now : Option (List ℕ)) (T more : List HistoryEntry) → Grows before between (records T) → Grows between now (records_after T more)
    → Grows before now (records (more ++ T))
grows_on before between now T more first next =
    subst (λ (l : List ℕ). Grows before now l) (sym (records-append more T)) (grows_twice before between now (records T) (records_after T more) first next)

pub grows_on_in_part : (before between now : Option (List ℕ)) (T more : List HistoryEntry) → Grows before between (records T) → GrowsByFront between now (records_after T more)
    → GrowsByFront before now (records (more ++ T))
grows_on_in_part before between now T more first next =
    subst (λ (l : List ℕ). GrowsByFront before now l) (sym (records-append more T))
    (then_writes {T = Unit {0}} {E = Unit {0}} before between now (records T) (records_after T more) (Err tt) first next)

-- one event
pub untaken : (made before now : Histories) (happening : Happening) (written : Option (List ℕ)) → Advances before made [] → TakesEvent made before now happening written written (Err Memory)
untaken made before now happening written kept = record { more = []; told = refl; advances = kept; written = λ bases T s. grows_nothing written }

pub taken : (made before now : Histories) (event : Event) (outcome : Outcome) (written_before written_now : Option (List ℕ))
    → Advances before now (entry_of event outcome ∷ []) → ((bases : Bases) (T : List HistoryEntry) → before bases T → Grows written_before written_now (records_of outcome T))
    → TakesEvent made before now (happening_of event) written_before written_now (Ok tt)
taken made before now event outcome written_before written_now steps grown = record { more = entry_of event outcome ∷ []; told = refl; advances = steps; written = grown }

pub taken_in_part : (made before now : Histories) (event : Event) (outcome : Outcome) (written_before written_now : Option (List ℕ))
    → Advances before made (entry_of event outcome ∷ []) → ((bases : Bases) (T : List HistoryEntry) → before bases T → GrowsByFront written_before written_now (records_of outcome T))
    → TakesEvent made before now (happening_of event) written_before written_now (Err Sink)
taken_in_part made before now event outcome written_before written_now steps grown = record { more = entry_of event outcome ∷ []; told = refl; advances = steps; written = grown }

-- the items of one stream
fed_front : (framer : HeldBytes) (stream : List ℕ) (given : List Shape) → Framed framer stream given → IsFront given (items_of stream)
fed_front framer stream given fed = record { more = framer.waiting; whole = fed.items }

pub takes_none : (framer between : HeldBytes) (next : Option Item) (stood : Histories) (who : Speaker) (piece : List ℕ) (written : Option (List ℕ))
    → ((stream : List ℕ) (given : List Shape) → Framed framer stream given → GivesNext between (stream ++ piece) given next)
    → TakesSome framer between next stood stood who piece written written
takes_none framer between next stood who piece written feeds = record {
  more = [];
  shapes = [];
  told = refl;
  advances = λ bases T s. s;
  grown = λ bases T s. grows_nothing written;
  fed = λ stream given fed. subst (λ (l : List Shape). GivesNext between (stream ++ piece) l next) (sym (append-nil given)) (feeds stream given fed);
}

-- what `next` says of a framer, whether it gave an item or none
pub gives_next : (next : Option Item) (before now : HeldBytes)
    → IfSome next (λ item. (stream : List ℕ) (given : List Shape) → Framed before stream given → Framed now stream (given ++ shape_of item ∷ []))
    → IfNone next ((stream : List ℕ) (given : List Shape) → Framed before stream given → Framed now stream given × (given ≡ items_of stream))
    → (stream : List ℕ) (given : List Shape) → Framed before stream given → GivesNext now stream given next
gives_next None before now some none = none
gives_next (Some item) before now some none = some

pub takes_one_more : (framer between framer_now : HeldBytes) (item : Item) (next : Option Item) (made before mid now : Histories) (who : Speaker) (piece : List ℕ) (written written_mid written_now : Option (List ℕ))
    → TakesSome framer between (Some item) before mid who piece written written_mid
    → ((stream : List ℕ) (given : List Shape) → Framed between stream given → GivesNext framer_now stream given next)
    → TakesEvent made mid now (said_by who (shape_of item)) written_mid written_now (Ok tt)
    → TakesSome framer framer_now next before now who piece written written_now
takes_one_more framer between framer_now item next made before mid now who piece written written_mid written_now so_far gives event = record {
  more = event.more ++ so_far.more;
  shapes = so_far.shapes ++ shape_of item ∷ [];
  told =
      happened-append event.more so_far.more
      ∙ ap (λ (l : List Happening). l ++ happened event.more) so_far.told
      ∙ ap (λ (l : List Happening). map (said_by who) so_far.shapes ++ l) event.told
      ∙ sym (map-append (said_by who) so_far.shapes (shape_of item ∷ []));
  advances = advances_twice before mid now so_far.more event.more so_far.advances event.advances;
  grown = λ bases T s.
      writes_twice T written written_mid written_now so_far.more event.more (Ok tt) (so_far.grown bases T s) (event.written bases (so_far.more ++ T) (so_far.advances bases T s));
  fed = λ stream given fed.
      subst (λ (l : List Shape). GivesNext framer_now (stream ++ piece) l next) (append_assoc given so_far.shapes (shape_of item ∷ []))
      (gives (stream ++ piece) ((given ++ so_far.shapes) ++ shape_of item ∷ []) (so_far.fed stream given fed));
}

-- where none is left, all were taken
pub takes_all : (framer framer_now : HeldBytes) (made before now : Histories) (who : Speaker) (piece : List ℕ) (written written_now : Option (List ℕ))
    → TakesSome framer framer_now None before now who piece written written_now
    → TakesPiece framer framer_now made before now who piece written written_now (Ok tt)
takes_all framer framer_now made before now who piece written written_now so_far = record {
  more = so_far.more;
  shapes = so_far.shapes;
  told = so_far.told;
  advances = so_far.advances;
  written = so_far.grown;
  fed = so_far.fed;
}

-- an event that failed ends the taking
shorter_front : (given all : List Shape) (shape : Shape) → IsFront (given ++ shape ∷ []) all → IsFront given all
shorter_front given all shape front = record { more = shape ∷ front.more; whole = sym (append_assoc given (shape ∷ []) front.more) ∙ front.whole }

pub takes_to_fault : (framer between : HeldBytes) (item : Item) (made before mid now : Histories) (who : Speaker) (piece : List ℕ) (written written_mid written_now : Option (List ℕ)) (fault : ProcessFault)
    → TakesSome framer between (Some item) before mid who piece written written_mid
    → TakesEvent made mid now (said_by who (shape_of item)) written_mid written_now (Err fault)
    → TakesPiece framer between made before now who piece written written_now (Err fault)
takes_to_fault framer between item made before mid now who piece written written_mid written_now Sink so_far event = record {
  more = event.more ++ so_far.more;
  shapes = so_far.shapes ++ shape_of item ∷ [];
  told =
      happened-append event.more so_far.more
      ∙ ap (λ (l : List Happening). l ++ happened event.more) so_far.told
      ∙ ap (λ (l : List Happening). map (said_by who) so_far.shapes ++ l) event.told
      ∙ sym (map-append (said_by who) so_far.shapes (shape_of item ∷ []));
  advances = advances_twice before mid made so_far.more event.more so_far.advances event.advances;
  written = λ bases T s.
      writes_twice T written written_mid written_now so_far.more event.more (Err Sink) (so_far.grown bases T s) (event.written bases (so_far.more ++ T) (so_far.advances bases T s));
  fed = λ stream given fed.
      fed_front between (stream ++ piece) (given ++ (so_far.shapes ++ shape_of item ∷ []))
      (subst (λ (l : List Shape). Framed between (stream ++ piece) l) (append_assoc given so_far.shapes (shape_of item ∷ [])) (so_far.fed stream given fed));
}
takes_to_fault framer between item made before mid now who piece written written_mid written_now Memory so_far event = record {
  more = event.more ++ so_far.more;
  shapes = so_far.shapes;
  told =
      happened-append event.more so_far.more
      ∙ ap (λ (l : List Happening). l ++ happened event.more) so_far.told
      ∙ ap (λ (l : List Happening). map (said_by who) so_far.shapes ++ l) event.told
      ∙ append-nil (map (said_by who) so_far.shapes);
  advances = advances_twice before mid made so_far.more event.more so_far.advances event.advances;
  written = λ bases T s.
      writes_twice T written written_mid written_now so_far.more event.more (Err Memory) (so_far.grown bases T s) (event.written bases (so_far.more ++ T) (so_far.advances bases T s));
  fed = λ stream given fed. shorter_front (given ++ so_far.shapes) (items_of (stream ++ piece)) (shape_of item) (fed_front between (stream ++ piece) ((given ++ so_far.shapes) ++ shape_of item ∷ []) (so_far.fed stream given fed));
}

-- nothing was taken where the framer's memory was wanting
pub takes_no_piece : (framer framer_now : HeldBytes) (made before now : Histories) (who : Speaker) (piece : List ℕ) (written : Option (List ℕ)) → Advances before made [] → TakesPiece framer framer_now made before now who piece written written (Err Memory)
takes_no_piece framer framer_now made before now who piece written kept = record {
  more = [];
  shapes = [];
  told = refl;
  advances = kept;
  written = λ bases T s. grows_nothing written;
  fed = λ stream given fed.
      let (later, longer) = items_append stream piece in
      record { more = framer.waiting ++ later; whole = ap (λ (l : List Shape). l ++ (framer.waiting ++ later)) (append-nil given) ∙ sym (append_assoc given framer.waiting later) ∙ ap (λ (l : List Shape). l ++ later) fed.items ∙ sym longer };
}

-- where one client's framer alone changed
pub client_others : (conn : ℕ) (streams streams_now : Streams) → ((i : ℕ) → i ≢ conn → get nat_eq streams_now.clients i ≡ get nat_eq streams.clients i) → streams_now.server ≡ streams.server
    → (other : Speaker) → other ≢ speaker.Client conn → framer_at streams_now other ≡ framer_at streams other
client_others conn streams streams_now others same (speaker.Client i) apart = others i (λ is. apart (ap speaker.Client is))
client_others conn streams streams_now others same speaker.Server apart = ap (λ (held : HeldBytes). Some held) same

-- where the server's did
pub server_others : (streams streams_now : Streams) → streams_now.clients ≡ streams.clients → (other : Speaker) → other ≢ speaker.Server → framer_at streams_now other ≡ framer_at streams other
server_others streams streams_now same (speaker.Client i) apart = ap (λ clients. get nat_eq clients i) same
server_others streams streams_now same speaker.Server apart = absurd (apart refl)

-- the bytes of one speaker, by its framer before and now
pub takes_bytes : (streams streams_now : Streams) (framer framer_now : HeldBytes) (made before now : Histories) (who : Speaker) (piece : List ℕ) (written written_now : Option (List ℕ)) (result : Result (Unit {0}) ProcessFault)
    → ((stream : List ℕ) (given : List Shape) → FramerFed (framer_at streams who) stream given → Framed framer stream given)
    → framer_at streams_now who ≡ Some framer_now
    → ((other : Speaker) → other ≢ who → framer_at streams_now other ≡ framer_at streams other)
    → TakesPiece framer framer_now made before now who piece written written_now result
    → TakesBytes streams streams_now made before now who piece written written_now result
takes_bytes streams streams_now framer framer_now made before now who piece written written_now result is_framer is_now others t = record {
  more = t.more;
  advances = t.advances;
  written = t.written;
  told = λ earlier fit. told_items result streams streams_now framer framer_now who piece t.shapes (happened t.more) earlier is_framer is_now others t.fed t.told fit;
}

-- and where they were not all taken, or memory was wanting for the framer afterwards
pub takes_in_part : (streams streams_now : Streams) (framer framer_now : HeldBytes) (made before now : Histories) (who : Speaker) (piece : List ℕ) (written written_now : Option (List ℕ)) (fault : ProcessFault)
    → ((stream : List ℕ) (given : List Shape) → FramerFed (framer_at streams who) stream given → Framed framer stream given)
    → TakesPiece framer framer_now made before now who piece written written_now (Err fault)
    → TakesBytes streams streams_now made before now who piece written written_now (Err fault)
takes_in_part streams streams_now framer framer_now made before now who piece written written_now fault is_framer t = record {
  more = t.more;
  advances = t.advances;
  written = t.written;
  told = λ earlier fit. told_in_part streams framer who piece t.shapes (happened t.more) earlier is_framer (λ stream given fed. t.fed stream given fed) t.told fit;
}

pub takes_but_memory : (streams streams_now : Streams) (framer framer_now : HeldBytes) (made before now : Histories) (who : Speaker) (piece : List ℕ) (written written_now : Option (List ℕ))
    → ((stream : List ℕ) (given : List Shape) → FramerFed (framer_at streams who) stream given → Framed framer stream given) → Advances now made []
    → TakesPiece framer framer_now made before now who piece written written_now (Ok tt)
    → TakesBytes streams streams_now made before now who piece written written_now (Err Memory)
takes_but_memory streams streams_now framer framer_now made before now who piece written written_now is_framer kept t = record {
  more = t.more;
  advances = advances_twice before now made t.more [] t.advances kept;
  written = t.written;
  told = λ earlier fit. told_in_part streams framer who piece t.shapes (happened t.more) earlier is_framer
      (λ stream given fed. record { more = []; whole = append-nil (given ++ t.shapes) ∙ (t.fed stream given fed).1 }) t.told fit;
}

-- Entries. A connection that enters never did before.
pub takes_client : (streams streams_now : Streams) (made before now : Histories) (entry : Entry) (written written_now : Option (List ℕ)) (result : Result (Unit {0}) ProcessFault) → entry.kind ≡ Client
    → TakesBytes streams streams_now made before now (speaker.Client entry.conn) entry.body written written_now result
    → TakesEntry streams streams_now made (with_new entry.kind entry.conn before) now entry written written_now result
takes_client streams streams_now made before now entry written written_now result kind t = record {
  more = t.more;
  advances = λ bases T s. t.advances bases T s.0;
  written = λ bases T s. t.written bases T s.0;
  told = λ earlier fit. told_client result streams_now entry earlier (happened t.more) kind (t.told earlier fit);
}

pub takes_server : (streams streams_now : Streams) (made before now : Histories) (entry : Entry) (written written_now : Option (List ℕ)) (result : Result (Unit {0}) ProcessFault) → entry.kind ≡ Upstream
    → TakesBytes streams streams_now made before now speaker.Server entry.body written written_now result
    → TakesEntry streams streams_now made (with_new entry.kind entry.conn before) now entry written written_now result
takes_server streams streams_now made before now entry written written_now result kind t = record {
  more = t.more;
  advances = λ bases T s. t.advances bases T s.0;
  written = λ bases T s. t.written bases T s.0;
  told = λ earlier fit. told_server result streams_now entry earlier (happened t.more) kind (t.told earlier fit);
}

no_bytes : (streams : Streams) (entry : Entry) (earlier : List Entry) → ((who : Speaker) → speaks who entry.kind entry.conn ≡ false) → StreamsFit streams earlier → StreamsFit streams (entry ∷ earlier)
no_bytes streams entry earlier none fit =
    λ who.
    let same : stream_of who (entry ∷ earlier) ≡ stream_of who earlier = ap (λ (l : List ℕ). stream_of who earlier ++ l) (silent who entry (none who)) ∙ append-nil (stream_of who earlier) in
    subst (λ (l : List ℕ). FramerFed (framer_at streams who) l (items_of l)) (sym same) (fit who)

enter_silent : (who : Speaker) (conn : ℕ) → speaks who Enter conn ≡ false
enter_silent (speaker.Client i) conn = refl
enter_silent speaker.Server conn = refl

end_silent : (who : Speaker) (conn : ℕ) → speaks who End conn ≡ false
end_silent (speaker.Client i) conn = refl
end_silent speaker.Server conn = refl

pub takes_enter : (streams : Streams) (made before now : Histories) (entry : Entry) (written : Option (List ℕ)) → entry.kind ≡ Enter → EntersAs before now entry.conn
    → TakesEntry streams streams made (with_new entry.kind entry.conn before) now entry written written (Ok tt)
takes_enter streams made before now entry written kind steps = record {
  more = entering entry.conn ∷ [];
  advances = λ bases T s. steps bases T s.0 (subst (λ (k : EntryKind). EntersNew k entry.conn T) kind s.1);
  written = λ bases T s. grows_nothing written;
  told = λ earlier fit. (
    no_bytes streams entry earlier (λ who. ap (λ (k : EntryKind). speaks who k entry.conn) kind ∙ enter_silent who entry.conn) fit,
    ap (λ (k : EntryKind). events_by k entry earlier) (sym kind),
  );
}

pub takes_no_enter : (streams : Streams) (made before now : Histories) (entry : Entry) (written : Option (List ℕ)) → Advances before made []
    → TakesEntry streams streams made (with_new entry.kind entry.conn before) now entry written written (Err Memory)
takes_no_enter streams made before now entry written kept = record {
  more = [];
  advances = λ bases T s. kept bases T s.0;
  written = λ bases T s. grows_nothing written;
  told = λ earlier fit. record { more = events_by entry.kind entry earlier; whole = refl };
}

slow_silent : (who : Speaker) (conn : ℕ) → speaks who Slow conn ≡ false
slow_silent (speaker.Client i) conn = refl
slow_silent speaker.Server conn = refl

up_end_silent : (who : Speaker) (conn : ℕ) → speaks who UpEnd conn ≡ false
up_end_silent (speaker.Client i) conn = refl
up_end_silent speaker.Server conn = refl

-- an entry that has no bytes and is one event
told_event : (streams : Streams) (entry : Entry) (earlier : List Entry) (happening : Happening) (told : List Happening) (result : Result (Unit {0}) ProcessFault)
    → ((who : Speaker) → speaks who entry.kind entry.conn ≡ false) → happening ∷ [] ≡ events_by entry.kind entry earlier
    → StreamsFit streams earlier → EventTaken happening told result → ToldBy result streams entry earlier told
told_event streams entry earlier happening told (Ok u) none tells fit event = (no_bytes streams entry earlier none fit, event ∙ tells)
told_event streams entry earlier happening told (Err Sink) none tells fit event = record { more = []; whole = append-nil told ∙ event ∙ tells }
told_event streams entry earlier happening told (Err Memory) none tells fit event = record {
  more = events_by entry.kind entry earlier;
  whole = ap (λ (l : List Happening). l ++ events_by entry.kind entry earlier) event;
}

takes_event : (streams : Streams) (made before now : Histories) (entry : Entry) (happening : Happening) (written_before written_now : Option (List ℕ)) (result : Result (Unit {0}) ProcessFault)
    → ((who : Speaker) → speaks who entry.kind entry.conn ≡ false) → ((earlier : List Entry) → happening ∷ [] ≡ events_by entry.kind entry earlier)
    → TakesEvent made before now happening written_before written_now result
    → TakesEntry streams streams made (with_new entry.kind entry.conn before) now entry written_before written_now result
takes_event streams made before now entry happening written_before written_now result none tells event = record {
  more = event.more;
  advances = λ bases T s. event.advances bases T s.0;
  written = λ bases T s. event.written bases T s.0;
  told = λ earlier fit. told_event streams entry earlier happening (happened event.more) result none (tells earlier) fit event.told;
}

pub takes_end : (streams : Streams) (made before now : Histories) (entry : Entry) (written_before written_now : Option (List ℕ)) (result : Result (Unit {0}) ProcessFault) → entry.kind ≡ End
    → TakesEvent made before now (ends entry.conn) written_before written_now result
    → TakesEntry streams streams made (with_new entry.kind entry.conn before) now entry written_before written_now result
takes_end streams made before now entry written_before written_now result kind event =
    takes_event streams made before now entry (ends entry.conn) written_before written_now result
    (λ who. ap (λ (k : EntryKind). speaks who k entry.conn) kind ∙ end_silent who entry.conn)
    (λ earlier. ap (λ (k : EntryKind). events_by k entry earlier) (sym kind)) event

pub takes_slow : (streams : Streams) (made before now : Histories) (entry : Entry) (written_before written_now : Option (List ℕ)) (result : Result (Unit {0}) ProcessFault) → entry.kind ≡ Slow
    → TakesEvent made before now (lags entry.conn) written_before written_now result
    → TakesEntry streams streams made (with_new entry.kind entry.conn before) now entry written_before written_now result
takes_slow streams made before now entry written_before written_now result kind event =
    takes_event streams made before now entry (lags entry.conn) written_before written_now result
    (λ who. ap (λ (k : EntryKind). speaks who k entry.conn) kind ∙ slow_silent who entry.conn)
    (λ earlier. ap (λ (k : EntryKind). events_by k entry earlier) (sym kind)) event

-- the end of the connection to the server: an entry whose body has no reason tells nothing
takes_nothing : (streams : Streams) (made before now : Histories) (entry : Entry) (written : Option (List ℕ)) → ((who : Speaker) → speaks who entry.kind entry.conn ≡ false)
    → ((earlier : List Entry) → [] ≡ events_by entry.kind entry earlier) → Advances before now []
    → TakesEntry streams streams made (with_new entry.kind entry.conn before) now entry written written (Ok tt)
takes_nothing streams made before now entry written none tells kept = record {
  more = [];
  advances = λ bases T s. kept bases T s.0;
  written = λ bases T s. grows_nothing written;
  told = λ earlier fit. (no_bytes streams entry earlier none fit, tells earlier);
}

takes_up_end_by : (streams : Streams) (made before now : Histories) (entry : Entry) (reason : Option UpWhy) (written_before written_now : Option (List ℕ)) (result : Result (Unit {0}) ProcessFault)
    → ((who : Speaker) → speaks who entry.kind entry.conn ≡ false) → ((earlier : List Entry) → up_end_told reason ≡ events_by entry.kind entry earlier)
    → TakesUpEnd made before now reason written_before written_now result
    → TakesEntry streams streams made (with_new entry.kind entry.conn before) now entry written_before written_now result
takes_up_end_by streams made before now entry None written_before written_now result none tells event =
    subst (λ (r : Result (Unit {0}) ProcessFault). TakesEntry streams streams made (with_new entry.kind entry.conn before) now entry written_before written_now r) (sym event.2)
    (subst (λ (w : Option (List ℕ)). TakesEntry streams streams made (with_new entry.kind entry.conn before) now entry written_before w (Ok tt)) (sym event.1)
    (takes_nothing streams made before now entry written_before none tells event.0))
takes_up_end_by streams made before now entry (Some reason) written_before written_now result none tells event =
    takes_event streams made before now entry (up_ends reason) written_before written_now result none tells event

pub takes_up_end : (streams streams_now : Streams) (made before now : Histories) (entry : Entry) (written_before written_now : Option (List ℕ)) (result : Result (Unit {0}) ProcessFault) → entry.kind ≡ UpEnd
    → streams_now ≡ streams → TakesUpEnd made before now (end_reason_in entry.body) written_before written_now result
    → TakesEntry streams streams_now made (with_new entry.kind entry.conn before) now entry written_before written_now result
takes_up_end streams streams_now made before now entry written_before written_now result kind same event =
    subst (λ (s : Streams). TakesEntry streams s made (with_new entry.kind entry.conn before) now entry written_before written_now result) (sym same)
    (takes_up_end_by streams made before now entry (end_reason_in entry.body) written_before written_now result
    (λ who. ap (λ (k : EntryKind). speaks who k entry.conn) kind ∙ up_end_silent who entry.conn)
    (λ earlier. ap (λ (k : EntryKind). events_by k entry earlier) (sym kind)) event)
