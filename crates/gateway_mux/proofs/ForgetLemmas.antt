-- What the multiplexer keeps once a connection that is over was forgotten.
use Rattle.std.proofs.Common.{◌≡◌, ◌≢◌, ◌∙◌, ◌==◌, ◌&&◌, ◌-◌, not, Bool, true, false, cond, ℕ, ◌≤◌, List, Option, Some, None, is_some, refl, sym, ap, subst, arith}
use Rattle.std.proofs.Math.Logic.{∥∥₁_map}
use Rattle.std.proofs.lemmas.Bool.{eqb-true, eq-eqb}
use Rattle.rtsp_uri.specs.declared.base.Bases.{Bases}
use Rattle.client_slot.specs.Client.{Client}
use Rattle.gateway_claim.specs.declared.event.Outcome.{Outcome}
use Rattle.gateway_claim.specs.Happenings.{Happening, HistoryEntry}
use Rattle.gateway_claim.specs.Turns.{shared_in}
use Rattle.connection_table.specs.declared.table.ConnectionTable.{ConnectionTable}
use Rattle.gateway_mux.specs.declared.upstream.UpstreamBooks.{UpstreamBooks}
use Rattle.gateway_mux.specs.Moves.{IsNext, IsCommitted}
use Rattle.connection_table.specs.Over.{is_over, unless_over}
use Rattle.gateway_mux.specs.Departure.{IsKeptUnlessGone}
use Rattle.gateway_mux.specs.Pictures.{Picture, picture, IsPictureOf, IsKept}
use Rattle.gateway_mux.specs.Room.{is_in, idle_count, unbound_count, HasRoom}
use Rattle.connection_table.specs.Tables.{client_at, is_ready}
use Rattle.gateway_mux.specs.Spare.{left}
use Rattle.session_one.specs.declared.parts.TheConstants.{MOST_SESSIONS}
use Rattle.gateway_mux.proofs.KeepLemmas.{room_same}
use Rattle.gateway_mux.proofs.OverLemmas.{kept_along, kept_unless_over}
use Rattle.gateway_mux.proofs.ReadyLemmas.{IsKeptReady}
use Rattle.gateway_mux.proofs.RoomLemmas.{without, in_without, once_without, sum_without}

-- One connection is kept no longer, where it is over.
pub record IsForgotten (conn : ℕ) (before after : ℕ → Option Client) : Type 0 where
  pub others : (i : ℕ) → conn ≢ i → after i ≡ before i
  pub here : after conn ≡ unless_over (before conn)

apart : (conn i : ℕ) → (conn == i) ≡ false → conn ≢ i
apart conn i e same = true_false (sym (eq-eqb conn i same) ∙ e)
  where
    true_false : true ≡ false → ⊥
    true_false e = cc

forgotten_clients : (conn : ℕ) (before after its : ℕ → Option Client) → IsForgotten conn before after → ((i : ℕ) → IsKeptUnlessGone (before i) (its i)) → (i : ℕ) → IsKeptUnlessGone (after i) (its i)
forgotten_clients conn before after its forgets kept i = by (conn == i) refl
  where
    by : (t : Bool) → (conn == i) ≡ t → IsKeptUnlessGone (after i) (its i)
    by true e =
        subst (λ (k : ℕ). IsKeptUnlessGone (after k) (its k)) (eqb-true conn i e)
        (kept_along forgets.here (kept_unless_over (before conn) (its conn) (kept conn)) refl)
    by false e = kept_along (forgets.others i (apart conn i e)) (kept i) refl

-- The history is the same.
forgotten_picture : (bases : Bases) (conn : ℕ) (seats after : ConnectionTable) (upstream : UpstreamBooks) (T : List HistoryEntry) → IsForgotten conn (client_at seats) (client_at after) → IsPictureOf bases (picture seats upstream) T → IsPictureOf bases (picture after upstream) T
forgotten_picture bases conn seats after upstream T forgets is = record {
  is_history = is.is_history;
  standing = is.standing;
  clients = forgotten_clients conn (client_at seats) (client_at after) (λ i. shared_in bases i T) forgets is.clients;
  asker = is.asker;
  held = is.held;
  holder = is.holder;
  issued = is.issued;
}

-- The room is enough for those that are left.
forgotten_room : (conn : ℕ) (before after : ℕ → Option Client) (a b : ℕ) → IsForgotten conn before after → HasRoom before a b → HasRoom after a b
forgotten_room conn before after a b forgets room = by (after conn) (before conn) refl refl forgets.here
  where
    other : (k : ℕ) → k ≢ conn → before k ≡ after k
    other k ne = sym (forgets.others k (λ same. ne (sym same)))

    gone : after conn ≡ None → HasRoom after a b
    gone none = record {
      roster = without conn room.roster;
      once = once_without conn room.roster room.once;
      all = λ k. in_without conn k room.roster ∙ all k (conn == k) refl;
      for_requests = low (sum_without (λ i. idle_count (before i)) (λ i. idle_count (after i)) conn room.roster (λ k ne. ap idle_count (other k ne))) room.for_requests;
      for_sessions = low (sum_without (λ i. unbound_count (before i)) (λ i. unbound_count (after i)) conn room.roster (λ k ne. ap unbound_count (other k ne))) room.for_sessions;
    }
      where
        all : (k : ℕ) (t : Bool) → (conn == k) ≡ t → (not t && is_in k room.roster) ≡ is_some (after k)
        all k true e = sym (ap (λ n. is_some (after n)) (sym (eqb-true conn k e)) ∙ ap is_some none)
        all k false e = room.all k ∙ ap is_some (sym (forgets.others k (apart conn k e)))

        low : {m n most : ℕ} → m ≤ n → n ≤ most → m ≤ most
        low first second = omega (arith, first, second)

    same : before conn ≡ after conn → HasRoom after a b
    same is = room_same before after a b (λ k. at k (conn == k) refl) room
      where
        at : (k : ℕ) (t : Bool) → (conn == k) ≡ t → after k ≡ before k
        at k true e = ap after (sym (eqb-true conn k e)) ∙ sym is ∙ ap before (eqb-true conn k e)
        at k false e = forgets.others k (apart conn k e)

    by : (now was : Option Client) → after conn ≡ now → before conn ≡ was → now ≡ unless_over was → HasRoom after a b
    by None was none e is = gone none
    by (Some client) None some e is = absurd (some_none client is)
      where
        some_none : (client : Client) → Some client ≡ None → ⊥
        some_none client e = cc
    by (Some client) (Some old) some e is = same (e ∙ sym (stays (is_over old) is) ∙ sym some)
      where
        stays : (t : Bool) → Some client ≡ cond t None (Some old) → Some client ≡ Some old
        stays true e = cc
        stays false e = e

forgotten_kept : (bases : Bases) (conn : ℕ) (seats after : ConnectionTable) (upstream : UpstreamBooks) (a b : ℕ) → IsForgotten conn (client_at seats) (client_at after) → IsKept bases (picture seats upstream) a b → IsKept bases (picture after upstream) a b
forgotten_kept bases conn seats after upstream a b forgets keeps = record {
  history = keeps.history;
  is_of = forgotten_picture bases conn seats after upstream keeps.history forgets keeps.is_of;
  room = forgotten_room conn (client_at seats) (client_at after) a b forgets keeps.room;
  low = keeps.low;
}

pub forgotten_ready : (bases : Bases) (conn : ℕ) (seats after : ConnectionTable) (upstream : UpstreamBooks) → IsForgotten conn (client_at seats) (client_at after) → is_ready after ≡ is_ready seats → IsKeptReady bases seats upstream → IsKeptReady bases after upstream
forgotten_ready bases conn seats after upstream forgets ready keeps = record {
  kept = subst (λ (b : Bool). ∥ IsKept bases (picture after upstream) (upstream.requests.spare - cond b 1 0) (upstream.sessions.spare - cond b MOST_SESSIONS 0) ∥₁) (sym ready)
      (∥∥₁_map keeps.kept (forgotten_kept bases conn seats after upstream (left 1 upstream.requests.spare seats) (left MOST_SESSIONS upstream.sessions.spare seats) forgets));
  spare = λ is. keeps.spare (sym ready ∙ is);
  spare_session = λ is. keeps.spare_session (sym ready ∙ is);
}

pub forgotten_commits : (bases : Bases) (one : Picture) (conn : ℕ) (seats after : ConnectionTable) (upstream : UpstreamBooks) (h : Happening) (outcome : Outcome) → IsForgotten conn (client_at seats) (client_at after)
    → IsCommitted bases one (picture seats upstream) h outcome → IsCommitted bases one (picture after upstream) h outcome
forgotten_commits bases one conn seats after upstream h outcome forgets commits T is =
    let now : IsNext bases (picture seats upstream) T h outcome = commits T is in
    record { is_next = now.is_next; is_after = forgotten_picture bases conn seats after upstream _ forgets now.is_after }
