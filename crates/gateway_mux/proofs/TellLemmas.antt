-- What the multiplexer tells of its connections is what its history tells.
use Rattle.std.proofs.Common.{◌≡◌, ◌∙◌, ℕ, ◌^◌, ◌≤◌, ◌<◌, ◌&&◌, not, Bool, true, false, cond, List, [], ◌∷◌, length, Option, Some, None, refl, sym, ap}
use Rattle.std.specs.Prelude.{is_some, is_none}
use Rattle.std.specs.Option.{option_map}
use Rattle.rtsp_uri.specs.declared.base.Bases.{Bases}
use Rattle.client_slot.specs.declared.purpose.Purpose.{Purpose}
use Rattle.client_slot.specs.Client.{Client}
use Rattle.client_slot.specs.Renumber.{purpose_under}
use Rattle.client_machine.specs.Alone.{is_live, is_empty_list}
use Rattle.client_machine.proofs.KeepLemmas.{live_unclosed}
use Rattle.gateway_claim.specs.declared.event.UpCause.{UpCause}
use Rattle.gateway_claim.specs.Happenings.{HistoryEntry, fault_in, standing, entered, shut, is_alive}
use Rattle.gateway_claim.specs.OwnEvents.{books_of, own}
use Rattle.gateway_claim.specs.Follows.{IsHistory}
use Rattle.gateway_claim.specs.Turns.{shared}
use Rattle.gateway_claim.specs.Tells.{IsFirstAlive, is_busy_private, is_busy, waiting_private, requests_waiting}
use Rattle.gateway_claim.proofs.CaseLemmas.{not_over, faults_over}
use Rattle.gateway_claim.proofs.NextLemmas.{shut_as_alone}
use Rattle.gateway_claim.proofs.AgreeLemmas.{alone}
use Rattle.gateway_claim.proofs.WaitLemmas.{still_waiting, closed_waiting}
use Rattle.gateway_mux.specs.Departure.{IsKeptUnlessGone}
use Rattle.gateway_mux.specs.Pictures.{Picture, IsPictureOf}
use Rattle.gateway_mux.specs.Stands.{Stands, picture_of, bases_of}
use Rattle.gateway_mux.specs.declared.mux.Mux.{Mux}
use Rattle.gateway_mux.proofs.OverLemmas.{over_dead, kept_alive}
use Rattle.gateway_mux.proofs.PictureLemmas.{none_in, kept_in}
use Rattle.gateway_mux.proofs.StandLemmas.{standing_open, open_picture}

-- whether a connection is alive or busy, where it entered
abbrev pub is_alive_client : Option Client → Bool
is_alive_client None = false
is_alive_client (Some client) = client.alive

abbrev pub is_busy_client : Option Client → Bool
is_busy_client None = false
is_busy_client (Some client) = client.alive && is_some client.pending

-- A connection that entered was not closed exactly where the machine alone is live.
alive_live : (bases : Bases) (T : List HistoryEntry) → IsHistory bases T → (i : ℕ) → entered i T ≡ true → is_alive i T ≡ is_live (alone bases T i)
alive_live bases T history i en =
    ap (λ t. t && is_empty_list (shut i T)) en ∙ ap is_empty_list (shut_as_alone bases T history i) ∙ sym (live_unclosed bases (own bases i T))

pub alive_in : (bases : Bases) (one : Picture) (T : List HistoryEntry) → IsPictureOf bases one T → (i : ℕ) → is_alive i T ≡ is_alive_client (one.clients i)
alive_in bases one T is i = by (entered i T) refl
  where
    by : (t : Bool) → entered i T ≡ t → is_alive i T ≡ is_alive_client (one.clients i)
    by true e =
        alive_live bases T is.is_history i e
        ∙ ap (λ over. not over && (alone bases T i).client.alive) (not_over bases T is.standing i)
        ∙ kept_alive (one.clients i) (shared (books_of T) i (alone bases T i).client) (kept_in bases one T is i e) is_alive_client refl (λ client. client.alive) (λ client. refl) (λ client dead. dead)
    by false e = ap (λ t. t && is_empty_list (shut i T)) e ∙ sym (ap is_alive_client (none_in bases one T is i e))

-- An open request is open in every numbering.
pending_same : (pairs : ℕ → ℕ) (pending : Option Purpose) → is_some pending ≡ is_some (option_map (purpose_under pairs) pending)
pending_same pairs None = refl
pending_same pairs (Some purpose) = refl

pub busy_in : (bases : Bases) (one : Picture) (T : List HistoryEntry) → IsPictureOf bases one T → (i : ℕ) → is_busy bases i T ≡ is_busy_client (one.clients i)
busy_in bases one T is i = by (entered i T) refl
  where
    by : (t : Bool) → entered i T ≡ t → is_busy bases i T ≡ is_busy_client (one.clients i)
    by true e =
        ap (λ t. is_busy_private (cond t (Some (alone bases T i)) None)) e
        ∙ ap (λ over. not over && ((alone bases T i).client.alive && is_some (alone bases T i).client.pending)) (not_over bases T is.standing i)
        ∙ ap (λ open_now. (alone bases T i).client.alive && open_now) (pending_same ((books_of T).pair_of i) (alone bases T i).client.pending)
        ∙ kept_alive (one.clients i) (shared (books_of T) i (alone bases T i).client) (kept_in bases one T is i e) is_busy_client refl (λ client. client.alive && is_some client.pending) (λ client. refl)
        (λ client dead. ap (λ t. t && is_some client.pending) dead)
    by false e = ap (λ t. is_busy_private (cond t (Some (alone bases T i)) None)) e ∙ sym (ap is_busy_client (none_in bases one T is i e))

-- The first number from this one on of a connection that is alive.
abbrev pub IsFirstLive : (ℕ → Option Client) → ℕ → Option ℕ → Type 0
IsFirstLive clients from None = (i : ℕ) → from ≤ i → i < 2 ^ 32 → is_alive_client (clients i) ≡ false
IsFirstLive clients from (Some conn) = (from ≤ conn) × (is_alive_client (clients conn) ≡ true) × ((i : ℕ) → from ≤ i → i < conn → is_alive_client (clients i) ≡ false)

pub first_alive : (bases : Bases) (one : Picture) (T : List HistoryEntry) → IsPictureOf bases one T → (from : ℕ) (result : Option ℕ) → IsFirstLive one.clients from result → IsFirstAlive from T result
first_alive bases one T is from None first = λ i low high. alive_in bases one T is i ∙ first i low high
first_alive bases one T is from (Some conn) first = (first.0, alive_in bases one T is conn ∙ first.1, λ i low high. alive_in bases one T is i ∙ first.2 i low high)

-- After the end of the connection to the server no connection is alive, and none is busy.
pub alive_over : (bases : Bases) (T : List HistoryEntry) (cause : UpCause) → IsHistory bases T → fault_in T ≡ Some cause → (i : ℕ) → is_alive i T ≡ false
alive_over bases T cause history ended i = by (entered i T) refl
  where
    by : (t : Bool) → entered i T ≡ t → is_alive i T ≡ false
    by true e = alive_live bases T history i e ∙ ap (λ over. not over && (alone bases T i).client.alive) (faults_over bases T history cause ended i e)
    by false e = ap (λ t. t && is_empty_list (shut i T)) e

pub busy_over : (bases : Bases) (T : List HistoryEntry) (cause : UpCause) → IsHistory bases T → fault_in T ≡ Some cause → (i : ℕ) → is_busy bases i T ≡ false
busy_over bases T cause history ended i = by (entered i T) refl
  where
    by : (t : Bool) → entered i T ≡ t → is_busy bases i T ≡ false
    by true e =
        ap (λ t. is_busy_private (cond t (Some (alone bases T i)) None)) e
        ∙ ap (λ over. not over && ((alone bases T i).client.alive && is_some (alone bases T i).client.pending)) (faults_over bases T history cause ended i e)
    by false e = ap (λ t. is_busy_private (cond t (Some (alone bases T i)) None)) e

-- So a multiplexer tells it, before that end and after it.
pub told_alive : (mux : Mux) (T : List HistoryEntry) → Stands mux T → (i : ℕ) → is_alive i T ≡ (is_none mux.ended && is_alive_client ((picture_of mux.connections).clients i))
told_alive mux T stands i = by mux.ended refl
  where
    by : (ended : Option UpCause) → mux.ended ≡ ended → is_alive i T ≡ (is_none mux.ended && is_alive_client ((picture_of mux.connections).clients i))
    by None e =
        alive_in (bases_of mux) (picture_of mux.connections) T (open_picture mux T stands e) i
        ∙ sym (ap (λ (f : Option UpCause). is_none f && is_alive_client ((picture_of mux.connections).clients i)) e)
    by (Some cause) e =
        alive_over (bases_of mux) T cause stands.is_history (sym stands.has_ended ∙ e) i
        ∙ sym (ap (λ (f : Option UpCause). is_none f && is_alive_client ((picture_of mux.connections).clients i)) e)

pub told_busy : (mux : Mux) (T : List HistoryEntry) → Stands mux T → (i : ℕ) → is_busy (bases_of mux) i T ≡ (is_none mux.ended && is_busy_client ((picture_of mux.connections).clients i))
told_busy mux T stands i = by mux.ended refl
  where
    by : (ended : Option UpCause) → mux.ended ≡ ended → is_busy (bases_of mux) i T ≡ (is_none mux.ended && is_busy_client ((picture_of mux.connections).clients i))
    by None e =
        busy_in (bases_of mux) (picture_of mux.connections) T (open_picture mux T stands e) i
        ∙ sym (ap (λ (f : Option UpCause). is_none f && is_busy_client ((picture_of mux.connections).clients i)) e)
    by (Some cause) e =
        busy_over (bases_of mux) T cause stands.is_history (sym stands.has_ended ∙ e) i
        ∙ sym (ap (λ (f : Option UpCause). is_none f && is_busy_client ((picture_of mux.connections).clients i)) e)

-- How many requests of a connection wait: of one that is not kept, since it is over, none does.
abbrev pub waiting_of : Option Client → ℕ
waiting_of None = 0
waiting_of (Some client) = length client.waiting

kept_waiting : (one : Option Client) (its : Client) → IsKeptUnlessGone one (Some its) → (its.alive ≡ false → its.waiting ≡ []) → length its.waiting ≡ waiting_of one
kept_waiting None its is none = ap length (none (over_dead its is))
kept_waiting (Some client) its is none = ap waiting_of is

pub waiting_in : (bases : Bases) (one : Picture) (T : List HistoryEntry) → IsPictureOf bases one T → (i : ℕ) → requests_waiting bases i T ≡ waiting_of (one.clients i)
waiting_in bases one T is i = by (entered i T) refl
  where
    by : (t : Bool) → entered i T ≡ t → requests_waiting bases i T ≡ waiting_of (one.clients i)
    by true e =
        ap (λ t. waiting_private (cond t (Some (alone bases T i)) None)) e
        ∙ kept_waiting (one.clients i) (shared (books_of T) i (alone bases T i).client) (kept_in bases one T is i e) (closed_waiting bases (own bases i T))
    by false e = ap (λ t. waiting_private (cond t (Some (alone bases T i)) None)) e ∙ sym (ap waiting_of (none_in bases one T is i e))

-- The entries before the end of the connection to the server tell it also after that end.
standing_more : (bases : Bases) (T : List HistoryEntry) (e : HistoryEntry) (i : ℕ) (ended : Option UpCause) → IsHistory bases (e ∷ T) → fault_in (e ∷ T) ≡ ended → requests_waiting bases i (standing T) ≡ requests_waiting bases i T
    → requests_waiting bases i (standing (e ∷ T)) ≡ requests_waiting bases i (e ∷ T)
standing_more bases T e i None history is earlier = ap (requests_waiting bases i) (standing_open (e ∷ T) is)
standing_more bases T e i (Some cause) history is earlier =
    ap (λ (f : Option UpCause). let all : List HistoryEntry = e ∷ T in requests_waiting bases i (cond (is_some f) (standing T) all)) is
    ∙ earlier
    ∙ sym (still_waiting bases T e i history.0 history.1 (ap is_some is))

pub waiting_standing : (bases : Bases) (T : List HistoryEntry) → IsHistory bases T → (i : ℕ) → requests_waiting bases i (standing T) ≡ requests_waiting bases i T
waiting_standing bases [] history i = refl
waiting_standing bases (e ∷ T) history i = standing_more bases T e i (fault_in (e ∷ T)) history refl (waiting_standing bases T history.0 i)
