-- What a transcript tells of the server are items, and what its players see is a run of the table.
use Rattle.std.proofs.Common.{◌≡◌, ℕ, zero, suc, ◌+◌, Bool, true, false, List, [], ◌∷◌, ◌++◌, length, drop, map, Option, Some, None, refl, sym, subst}
use Rattle.std.specs.List.{AllByRecursion}
use Rattle.rtsp_head.specs.Items.{Shape, Cut, shape_at, first_extent, is_bad, behind, cut_with, cut_by, items_of}
use Rattle.rtsp_head.specs.declared.item.Extent.{Extent}
use Rattle.rtsp_frame.proofs.AloneLemmas.{first_alone}
use Rattle.rtsp_uri.specs.declared.base.Bases.{Bases}
use Rattle.gate_transcript.specs.declared.entry.Entry.{Entry}
use Rattle.gate_transcript.specs.declared.entry.EntryKind.{EntryKind}
use Rattle.gate_transcript.specs.declared.entry.EntryKind.TheVariants.{Enter, Client, Upstream, End, Slow, UpEnd}
use Rattle.gate_transcript.specs.declared.entry.UpWhy.{UpWhy}
use Rattle.gate_transcript.specs.Bodies.{end_reason_in}
use Rattle.gateway_claim.specs.Follows.{IsHistory}
use Rattle.gateway_claim.specs.Happenings.{Happening, hears, HistoryEntry, happened}
use Rattle.gateway_claim.specs.SeenRun.{IsItemHeard, AreItemsHeard, IsSeenRun}
use Rattle.gateway_claim.proofs.SeenRunLemmas.{history_seen}
use Rattle.gateway_replay.specs.declared.streams.Speaker.{Speaker}
use Rattle.gateway_replay.specs.declared.streams.Speaker.TheVariants as speaker
use Rattle.gateway_replay.specs.Events.{stream_of, new_items, said_by, events_with, up_end_told, events_by, events_of}
use Rattle.gateway_replay.specs.Runs.{ToldInPart}

-- Each item that is cut from a stream is one item when it is read alone.
abbrev AreAlone : List Shape → Type 0
AreAlone shapes = AllByRecursion (λ shape. IsItemHeard (hears shape)) shapes

behind_alone : (bad : Bool) (shape : Shape) (later : Cut) → IsItemHeard (hears shape) → AreAlone later.items → AreAlone (behind bad shape later).items
behind_alone true shape later one more = (one, tt)
behind_alone false shape later one more = (one, more)

first_cut : (found : Option Extent) (bytes : List ℕ) (again : List ℕ → Cut) → first_extent bytes ≡ found → ((rest : List ℕ) → AreAlone (again rest).items) → AreAlone (cut_with found bytes again).items
first_cut None bytes again is all = tt
first_cut (Some extent) bytes again is all =
    behind_alone (is_bad extent.span.kind) (shape_at bytes extent) (again (drop (extent.skipped + extent.span.len) bytes)) (first_alone bytes extent is) (all (drop (extent.skipped + extent.span.len) bytes))

cut_alone : (most : ℕ) (bytes : List ℕ) → AreAlone (cut_by most bytes).items
cut_alone zero bytes = tt
cut_alone (suc most) bytes = first_cut (first_extent bytes) bytes (cut_by most) refl (cut_alone most)

dropped : (n : ℕ) (shapes : List Shape) → AreAlone shapes → AreAlone (drop n shapes)
dropped zero shapes all = all
dropped (suc n) [] all = tt
dropped (suc n) (shape ∷ shapes) all = dropped n shapes all.1

new_alone : (stream piece : List ℕ) → AreAlone (new_items stream piece)
new_alone stream piece = dropped (length (items_of stream)) (items_of (stream ++ piece)) (cut_alone (length (stream ++ piece)) (stream ++ piece))

-- So is each item of the server that happens.
abbrev AreHeard : List Happening → Type 0
AreHeard happenings = AllByRecursion IsItemHeard happenings

both_heard : (one other : List Happening) → AreHeard one → AreHeard other → AreHeard (one ++ other)
both_heard [] other first second = second
both_heard (happening ∷ one) other first second = (first.0, both_heard one other first.1 second)

front_heard : (one other : List Happening) → AreHeard (one ++ other) → AreHeard one
front_heard [] other all = tt
front_heard (happening ∷ one) other all = (all.0, front_heard one other all.1)

rest_heard : (one other : List Happening) → AreHeard (one ++ other) → AreHeard other
rest_heard [] other all = all
rest_heard (happening ∷ one) other all = rest_heard one other all.1

said_heard : (who : Speaker) (shapes : List Shape) → AreAlone shapes → AreHeard (map (said_by who) shapes)
said_heard who [] all = tt
said_heard (speaker.Client i) (shape ∷ shapes) all = (tt, said_heard (speaker.Client i) shapes all.1)
said_heard speaker.Server (shape ∷ shapes) all = (all.0, said_heard speaker.Server shapes all.1)

with_heard : (who : Speaker) (piece : List ℕ) (earlier : List Entry) → AreHeard (events_with who piece earlier)
with_heard who piece earlier = said_heard who (new_items (stream_of who earlier) piece) (new_alone (stream_of who earlier) piece)

end_heard : (reason : Option UpWhy) → AreHeard (up_end_told reason)
end_heard None = tt
end_heard (Some reason) = (tt, tt)

entry_heard : (kind : EntryKind) (entry : Entry) (earlier : List Entry) → AreHeard (events_by kind entry earlier)
entry_heard Enter entry earlier = (tt, tt)
entry_heard Client entry earlier = with_heard (speaker.Client entry.conn) entry.body earlier
entry_heard Upstream entry earlier = with_heard speaker.Server entry.body earlier
entry_heard End entry earlier = (tt, tt)
entry_heard Slow entry earlier = (tt, tt)
entry_heard UpEnd entry earlier = end_heard (end_reason_in entry.body)

events_heard : (entries : List Entry) → AreHeard (events_of entries)
events_heard [] = tt
events_heard (entry ∷ earlier) = both_heard (events_of earlier) (events_by entry.kind entry earlier) (events_heard earlier) (entry_heard entry.kind entry earlier)

-- So is each in a history of them.
history_heard : (history : List HistoryEntry) → AreHeard (happened history) → AreItemsHeard history
history_heard [] all = tt
history_heard (entry ∷ earlier) all =
    ((rest_heard (happened earlier) (entry.happening ∷ []) all).0, history_heard earlier (front_heard (happened earlier) (entry.happening ∷ []) all))

pub replayed_seen : (bases : Bases) (entries : List Entry) (history : List HistoryEntry) (i : ℕ) → IsHistory bases history → ToldInPart (happened history) (events_of entries) → IsSeenRun i history
replayed_seen bases entries history i is told =
    history_seen bases history i is
    (history_heard history (front_heard (happened history) told.more (subst AreHeard (sym told.whole) (events_heard entries))))
