-- What a multiplexer stands for, before and after the end of the connection to the server.
use Rattle.std.proofs.Common.{◌≡◌, ◌∙◌, ℕ, ◌+◌, ◌-◌, ◌^◌, min, ◌&&◌, Bool, true, false, cond, List, [], ◌∷◌, Option, Some, None, refl, sym, ap, subst, arith}
use Rattle.std.specs.Prelude.{is_some, is_none}
use Rattle.std.specs.Option.{option_or}
use Rattle.rtsp_uri.specs.declared.base.Bases.{Bases}
use Rattle.gateway_claim.specs.declared.event.Outcome.{Outcome}
use Rattle.gateway_claim.specs.declared.event.UpCause.{UpCause}
use Rattle.gateway_claim.specs.Cores.{ever_entered}
use Rattle.gateway_claim.specs.Happenings.{Happening, HistoryEntry, fault_in, standing, silent}
use Rattle.gateway_claim.specs.OwnEvents.{turn, books_of}
use Rattle.gateway_claim.specs.Follows.{effect, breach, up_due, IsHistory, outcome_with, next}
use Rattle.gateway_claim.specs.Tells.{is_dropped, frames_in, dropped_frames}
use Rattle.gateway_claim.proofs.TurnLawLemmas.{next_history}
use Rattle.gateway_mux.specs.declared.mux.Mux.{Mux}
use Rattle.gateway_mux.specs.Pictures.{IsPictureOf}
use Rattle.gateway_mux.specs.Stands.{picture_of, Stands, IsFresh, bases_of}

-- While the connection to the server stands, that is all of the history.
pub standing_open : (T : List HistoryEntry) → fault_in T ≡ None → standing T ≡ T
standing_open [] open_still = refl
standing_open (e ∷ T) open_still = ap (λ (f : Option UpCause). let all : List HistoryEntry = e ∷ T in cond (is_some f) (standing T) all) open_still

-- The entry that ends it comes after all that stands.
pub standing_ended : (T : List HistoryEntry) (e : HistoryEntry) → fault_in T ≡ None → is_some e.outcome.fault ≡ true → standing (e ∷ T) ≡ T
standing_ended T e open_still some =
    ap (λ (f : Option UpCause). let all : List HistoryEntry = e ∷ T in cond (is_some (option_or f e.outcome.fault)) (standing T) all) open_still
    ∙ ap (λ (b : Bool). let all : List HistoryEntry = e ∷ T in cond b (standing T) all) some
    ∙ standing_open T open_still

-- After that end no entry stands.
pub standing_over : (T : List HistoryEntry) (e : HistoryEntry) (cause : UpCause) → fault_in T ≡ Some cause → standing (e ∷ T) ≡ standing T
standing_over T e cause ended = ap (λ (f : Option UpCause). let all : List HistoryEntry = e ∷ T in cond (is_some (option_or f e.outcome.fault)) (standing T) all) ended

-- The fault of an entry is the history's, where there was none.
pub fault_now : (T : List HistoryEntry) (e : HistoryEntry) → fault_in T ≡ None → fault_in (e ∷ T) ≡ e.outcome.fault
fault_now T e open_still = ap (λ was. option_or was e.outcome.fault) open_still

pub fault_before : (T : List HistoryEntry) (e : HistoryEntry) (cause : UpCause) → fault_in T ≡ Some cause → fault_in (e ∷ T) ≡ Some cause
fault_before T e cause ended = ap (λ was. option_or was e.outcome.fault) ended

-- Where nothing is handed out
abbrev pub silent_entry : Happening → HistoryEntry
silent_entry h = record { happening = h; outcome = silent }

not_counted : (dropped : Bool) → (dropped && false) ≡ false
not_counted true = refl
not_counted false = refl

dropped_over : (T : List HistoryEntry) (e : HistoryEntry) (cause : UpCause) → fault_in T ≡ Some cause → dropped_frames (e ∷ T) ≡ dropped_frames T
dropped_over T e cause ended =
    ap (λ (f : Option UpCause). min (cond (is_dropped e.happening e.outcome && is_none f) 1 0 + frames_in T) (2 ^ 64 - 1)) ended
    ∙ ap (λ (t : Bool). min (cond t 1 0 + frames_in T) (2 ^ 64 - 1)) (not_counted (is_dropped e.happening e.outcome))
    ∙ ap (λ n. min n (2 ^ 64 - 1)) (zero_more (frames_in T))
  where
    zero_more : (n : ℕ) → 0 + n ≡ n
    zero_more n = grind arith

-- After the end every event is an entry that hands out nothing, and what stands and is counted stays.
pub over_follows : (bases : Bases) (T : List HistoryEntry) (h : Happening) (cause : UpCause) → IsHistory bases T → fault_in T ≡ Some cause
    → IsHistory bases (silent_entry h ∷ T) × (fault_in (silent_entry h ∷ T) ≡ Some cause) × (standing (silent_entry h ∷ T) ≡ standing T) × (dropped_frames (silent_entry h ∷ T) ≡ dropped_frames T)
over_follows bases T h cause history ended =
    let out : next bases T h ≡ silent =
    ap (λ (f : Option UpCause). cond (is_some f) silent (outcome_with (breach bases T h) (turn (books_of T) h) (up_due bases T h) (effect bases T h))) ended in (
      subst (λ (one : Outcome). IsHistory bases (record { happening = h; outcome = one } ∷ T)) out (next_history bases T h history),
      fault_before T (silent_entry h) cause ended,
      standing_over T (silent_entry h) cause ended,
      dropped_over T (silent_entry h) cause ended,
    )

-- The count of dropped frames, which stops at the greatest number of 64 bits.
capped : (more n : ℕ) → min (more + n) (2 ^ 64 - 1) ≡ min (min n (2 ^ 64 - 1) + more) (2 ^ 64 - 1)
capped more n = omega arith

capped_twice : (n : ℕ) → min (min n (2 ^ 64 - 1) + 0) (2 ^ 64 - 1) ≡ min n (2 ^ 64 - 1)
capped_twice n = omega arith

counted : (dropped : Bool) → (dropped && true) ≡ dropped
counted true = refl
counted false = refl

pub drops : (T : List HistoryEntry) (e : HistoryEntry) → fault_in T ≡ None → dropped_frames (e ∷ T) ≡ min (dropped_frames T + cond (is_dropped e.happening e.outcome) 1 0) (2 ^ 64 - 1)
drops T e open_still =
    ap (λ (f : Option UpCause). min (cond (is_dropped e.happening e.outcome && is_none f) 1 0 + frames_in T) (2 ^ 64 - 1)) open_still
    ∙ ap (λ (t : Bool). min (cond t 1 0 + frames_in T) (2 ^ 64 - 1)) (counted (is_dropped e.happening e.outcome))
    ∙ capped (cond (is_dropped e.happening e.outcome) 1 0) (frames_in T)

pub drops_one : (T : List HistoryEntry) (e : HistoryEntry) → fault_in T ≡ None → is_dropped e.happening e.outcome ≡ true → dropped_frames (e ∷ T) ≡ min (dropped_frames T + 1) (2 ^ 64 - 1)
drops_one T e open_still dropped = drops T e open_still ∙ ap (λ (t : Bool). min (dropped_frames T + cond t 1 0) (2 ^ 64 - 1)) dropped

pub drops_none : (T : List HistoryEntry) (e : HistoryEntry) → fault_in T ≡ None → is_dropped e.happening e.outcome ≡ false → dropped_frames (e ∷ T) ≡ dropped_frames T
drops_none T e open_still dropped =
    drops T e open_still ∙ ap (λ (t : Bool). min (dropped_frames T + cond t 1 0) (2 ^ 64 - 1)) dropped ∙ capped_twice (frames_in T)

-- What a multiplexer has while the connection to the server stands is what its whole history has.
pub open_picture : (mux : Mux) (T : List HistoryEntry) → Stands mux T → mux.ended ≡ None → IsPictureOf (bases_of mux) (picture_of mux.connections) T
open_picture mux T stands none =
    subst (λ (all : List HistoryEntry). IsPictureOf (bases_of mux) (picture_of mux.connections) all) (standing_open T (sym stands.has_ended ∙ none)) stands.is_picture

-- After the end a multiplexer that stays as it is stands for the longer history.
pub over_stands : (mux : Mux) (T : List HistoryEntry) (h : Happening) (cause : UpCause) → Stands mux T → mux.ended ≡ Some cause → Stands mux (silent_entry h ∷ T)
over_stands mux T h cause stands ended =
    let over = over_follows (bases_of mux) T h cause stands.is_history (sym stands.has_ended ∙ ended) in
    record {
      is_history = over.0;
      has_ended = ended ∙ sym over.1;
      counts = stands.counts ∙ sym over.3;
      is_picture = subst (λ (all : List HistoryEntry). IsPictureOf (bases_of mux) (picture_of mux.connections) all) (sym over.2) stands.is_picture;
    }

-- After an event while the connection to the server stands: what the multiplexer has is what the history has without the
-- event, where it ends that connection, and with it, where it does not.
pub standing_next : (T : List HistoryEntry) (e : HistoryEntry) → fault_in T ≡ None → standing (e ∷ T) ≡ cond (is_some e.outcome.fault) T (e ∷ T)
standing_next T e open_still =
    ap (λ (f : Option UpCause). let all : List HistoryEntry = e ∷ T in cond (is_some f) (standing T) all) (fault_now T e open_still)
    ∙ ap (λ (before : List HistoryEntry). let all : List HistoryEntry = e ∷ T in cond (is_some e.outcome.fault) before all) (standing_open T open_still)

pub next_stands : (mux : Mux) (T : List HistoryEntry) (e : HistoryEntry) → IsHistory (bases_of mux) (e ∷ T) → fault_in T ≡ None → mux.ended ≡ e.outcome.fault → mux.dropped ≡ dropped_frames (e ∷ T)
    → IsPictureOf (bases_of mux) (picture_of mux.connections) (cond (is_some e.outcome.fault) T (e ∷ T)) → Stands mux (e ∷ T)
next_stands mux T e history open_still ended counts is = record {
  is_history = history;
  has_ended = ended ∙ sym (fault_now T e open_still);
  counts = counts;
  is_picture = subst (λ (all : List HistoryEntry). IsPictureOf (bases_of mux) (picture_of mux.connections) all) (sym (standing_next T e open_still)) is;
}

-- A number that never entered is fresh.
pub never_fresh : (mux : Mux) (T : List HistoryEntry) (conn : ℕ) → Stands mux T → ever_entered conn T ≡ false → IsFresh mux conn
never_fresh mux T conn stands never = ∣ record { history = T; stood = stands; never = never } ∣₁
