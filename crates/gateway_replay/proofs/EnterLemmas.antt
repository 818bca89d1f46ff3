-- Who entered is told by what happened.
use Rattle.std.proofs.Common.{◌≡◌, ℕ, Bool, true, false, ◌==◌, ◌&&◌, ◌||◌, List, [], ◌∷◌, ◌++◌, Option, None, Some, refl, sym, ◌∙◌, ap, map}
use Rattle.rtsp_head.specs.Items.{Shape}
use Rattle.gateway_claim.specs.Happenings.{Happening, HistoryEntry, enters_here, happened}
use Rattle.gateway_claim.specs.Cores.{ever_entered}
use Rattle.gate_transcript.specs.declared.entry.Entry.{Entry}
use Rattle.gate_transcript.specs.declared.entry.EntryKind.{EntryKind}
use Rattle.gate_transcript.specs.declared.entry.EntryKind.TheVariants.{Enter, Client, Upstream, End, Slow, UpEnd}
use Rattle.gate_transcript.specs.declared.entry.UpWhy.{UpWhy}
use Rattle.gate_transcript.specs.Bodies.{end_reason_in}
use Rattle.gate_transcript.specs.Transcript.{is_enter, has_entered}
use Rattle.gateway_replay.specs.declared.streams.Speaker.{Speaker}
use Rattle.gateway_replay.specs.declared.streams.Speaker.TheVariants as speaker
use Rattle.gateway_replay.specs.Events.{new_items, stream_of, said_by, up_end_told, events_by, events_of}

abbrev any_enters : ℕ → List Happening → Bool
any_enters i [] = false
any_enters i (h ∷ hs) = enters_here i h || any_enters i hs

or_assoc : (a b c : Bool) → ((a || b) || c) ≡ (a || (b || c))
or_assoc true b c = refl
or_assoc false b c = refl

any-append : (i : ℕ) (one other : List Happening) → any_enters i (one ++ other) ≡ (any_enters i one || any_enters i other)
any-append i [] other = refl
any-append i (h ∷ hs) other = ap (λ b. enters_here i h || b) (any-append i hs other) ∙ sym (or_assoc (enters_here i h) (any_enters i hs) (any_enters i other))

or_back : (a b : Bool) → (a || b) ≡ (b || a)
or_back true true = refl
or_back true false = refl
or_back false true = refl
or_back false false = refl

or_none : (a b c : Bool) → b ≡ c → (c || (a || false)) ≡ (a || b)
or_none true b c e = or_back c true
or_none false b c e = or_back c false ∙ sym e

-- who ever entered is told by what happened
ever_told : (i : ℕ) (T : List HistoryEntry) → any_enters i (happened T) ≡ ever_entered i T
ever_told i [] = refl
ever_told i (e ∷ T) = any-append i (happened T) (e.happening ∷ []) ∙ or_none (enters_here i e.happening) (ever_entered i T) (any_enters i (happened T)) (sym (ever_told i T))

item_enters : (i : ℕ) (who : Speaker) (shape : Shape) → enters_here i (said_by who shape) ≡ false
item_enters i (speaker.Client conn) shape = refl
item_enters i speaker.Server shape = refl

none_enters : (i : ℕ) (who : Speaker) (shapes : List Shape) → any_enters i (map (said_by who) shapes) ≡ false
none_enters i who [] = refl
none_enters i who (s ∷ shapes) = ap (λ b. b || any_enters i (map (said_by who) shapes)) (item_enters i who s) ∙ none_enters i who shapes

up_end_enters : (i : ℕ) (reason : Option UpWhy) → any_enters i (up_end_told reason) ≡ false
up_end_enters i None = refl
up_end_enters i (Some reason) = refl

told_enters : (i : ℕ) (kind : EntryKind) (entry : Entry) (earlier : List Entry) → any_enters i (events_by kind entry earlier) ≡ (is_enter kind && entry.conn == i)
told_enters i Enter entry earlier = at (entry.conn == i)
  where
    at : (b : Bool) → (b || false) ≡ b
    at true = refl
    at false = refl
told_enters i Client entry earlier = none_enters i (speaker.Client entry.conn) (new_items (stream_of (speaker.Client entry.conn) earlier) entry.body)
told_enters i Upstream entry earlier = none_enters i speaker.Server (new_items (stream_of speaker.Server earlier) entry.body)
told_enters i End entry earlier = refl
told_enters i Slow entry earlier = refl
told_enters i UpEnd entry earlier = up_end_enters i (end_reason_in entry.body)

entered_events : (i : ℕ) (entries : List Entry) → any_enters i (events_of entries) ≡ has_entered i entries
entered_events i [] = refl
entered_events i (e ∷ entries) =
    any-append i (events_of entries) (events_by e.kind e entries)
    ∙ ap (λ b. b || any_enters i (events_by e.kind e entries)) (entered_events i entries)
    ∙ ap (λ b. has_entered i entries || b) (told_enters i e.kind e entries)
    ∙ or_back (has_entered i entries) (is_enter e.kind && e.conn == i)

-- a connection that never entered by an entry never entered in their history
pub entered_never : (i : ℕ) (T : List HistoryEntry) (entries : List Entry) → happened T ≡ events_of entries → has_entered i entries ≡ false → ever_entered i T ≡ false
entered_never i T entries same none = sym (ever_told i T) ∙ ap (any_enters i) same ∙ entered_events i entries ∙ none
