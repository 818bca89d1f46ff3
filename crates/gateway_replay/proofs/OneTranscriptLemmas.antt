-- Who enters in a history is who enters by the entries that tell it.
use Rattle.std.proofs.Common.{◌≡◌, ◌∙◌, ℕ, Bool, true, false, ◌==◌, ◌&&◌, ◌||◌, List, [], ◌∷◌, ◌++◌, map, Option, Some, None, refl, sym, ap}
use Rattle.rtsp_head.specs.Items.{Shape}
use Rattle.rtsp_uri.specs.declared.base.Bases.{Bases}
use Rattle.gate_transcript.specs.declared.entry.Entry.{Entry}
use Rattle.gate_transcript.specs.declared.entry.EntryKind.{EntryKind}
use Rattle.gate_transcript.specs.declared.entry.EntryKind.TheVariants.{Enter, Client, Upstream, End, Slow, UpEnd}
use Rattle.gate_transcript.specs.declared.entry.UpWhy.{UpWhy}
use Rattle.gate_transcript.specs.Bodies.{end_reason_in}
use Rattle.gate_transcript.specs.Transcript.{is_enter, has_entered}
use Rattle.gateway_claim.specs.Cores.{ever_entered}
use Rattle.gateway_claim.specs.Follows.{IsHistory}
use Rattle.gateway_claim.specs.Happenings.{Happening, HistoryEntry, enters_here, happened}
use Rattle.gateway_claim.specs.OnePlayer.{IsOnlyPlayer, HasAll}
use Rattle.gateway_claim.proofs.AskLemmas.{one_player}
use Rattle.gateway_replay.specs.declared.streams.Speaker.{Speaker}
use Rattle.gateway_replay.specs.declared.streams.Speaker.TheVariants as speaker
use Rattle.gateway_replay.specs.Events.{new_items, stream_of, said_by, up_end_told, events_by, events_of}
use Rattle.gateway_replay.specs.OneTranscript.{EntersAlone}

-- whether connection j enters in a list of what happens
abbrev enters_in : ℕ → List Happening → Bool
enters_in j [] = false
enters_in j (one ∷ more) = enters_here j one || enters_in j more

enters_both : (j : ℕ) (xs ys : List Happening) → enters_in j (xs ++ ys) ≡ (enters_in j xs || enters_in j ys)
enters_both j [] ys = refl
enters_both j (x ∷ xs) ys = by (enters_here j x) (enters_both j xs ys)
  where
    by : (here : Bool) → enters_in j (xs ++ ys) ≡ (enters_in j xs || enters_in j ys) → (here || enters_in j (xs ++ ys)) ≡ ((here || enters_in j xs) || enters_in j ys)
    by true later = refl
    by false later = later

turn_or : (a b : Bool) → (a || (b || false)) ≡ (b || a)
turn_or true true = refl
turn_or true false = refl
turn_or false true = refl
turn_or false false = refl

ever_told : (j : ℕ) (T : List HistoryEntry) → enters_in j (happened T) ≡ ever_entered j T
ever_told j [] = refl
ever_told j (e ∷ T) =
    enters_both j (happened T) (e.happening ∷ [])
    ∙ ap (λ was. was || (enters_here j e.happening || false)) (ever_told j T)
    ∙ turn_or (ever_entered j T) (enters_here j e.happening)

-- the items of a speaker enter nobody
said_enters : (j : ℕ) (who : Speaker) (shapes : List Shape) → enters_in j (map (said_by who) shapes) ≡ false
said_enters j who [] = refl
said_enters j (speaker.Client i) (shape ∷ shapes) = said_enters j (speaker.Client i) shapes
said_enters j speaker.Server (shape ∷ shapes) = said_enters j speaker.Server shapes

up_end_enters : (j : ℕ) (reason : Option UpWhy) → enters_in j (up_end_told reason) ≡ false
up_end_enters j None = refl
up_end_enters j (Some reason) = refl

or_false : (here : Bool) → (here || false) ≡ here
or_false true = refl
or_false false = refl

entry_enters : (j : ℕ) (kind : EntryKind) (entry : Entry) (earlier : List Entry) → enters_in j (events_by kind entry earlier) ≡ (is_enter kind && entry.conn == j)
entry_enters j Enter entry earlier = or_false (entry.conn == j)
entry_enters j Client entry earlier = said_enters j (speaker.Client entry.conn) (new_items (stream_of (speaker.Client entry.conn) earlier) entry.body)
entry_enters j Upstream entry earlier = said_enters j speaker.Server (new_items (stream_of speaker.Server earlier) entry.body)
entry_enters j End entry earlier = refl
entry_enters j Slow entry earlier = refl
entry_enters j UpEnd entry earlier = up_end_enters j (end_reason_in entry.body)

swap_or : (a b : Bool) → (a || b) ≡ (b || a)
swap_or true true = refl
swap_or true false = refl
swap_or false true = refl
swap_or false false = refl

told_enters : (j : ℕ) (entries : List Entry) → enters_in j (events_of entries) ≡ has_entered j entries
told_enters j [] = refl
told_enters j (entry ∷ earlier) =
    enters_both j (events_of earlier) (events_by entry.kind entry earlier)
    ∙ ap (λ was. was || enters_in j (events_by entry.kind entry earlier)) (told_enters j earlier)
    ∙ ap (λ now. has_entered j earlier || now) (entry_enters j entry.kind entry earlier)
    ∙ swap_or (has_entered j earlier) (is_enter entry.kind && entry.conn == j)

-- So no other connection enters in a history that tells them.
pub only_told : (entries : List Entry) (history : List HistoryEntry) (i : ℕ) → happened history ≡ events_of entries → EntersAlone i entries → IsOnlyPlayer i history
only_told entries history i told alone j other = sym (ever_told j history) ∙ ap (enters_in j) told ∙ told_enters j entries ∙ alone j other

pub one_transcript : (bases : Bases) (entries : List Entry) (history : List HistoryEntry) (i : ℕ) → IsHistory bases history → happened history ≡ events_of entries → EntersAlone i entries → HasAll bases i history
one_transcript bases entries history i is told alone = one_player bases history i is (only_told entries history i told alone)
