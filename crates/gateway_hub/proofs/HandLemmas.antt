-- One event more: what was put for clients.
use Rattle.std.proofs.Common.{◌≡◌, ◌∙◌, ℕ, ◌<◌, Bool, true, false, cond, ◌||◌, ◌==◌, List, [], ◌∷◌, ◌++◌, Option, Some, None, refl, sym, ap, subst, inl, inr, arith}
use Rattle.std.proofs.lemmas.Bool.{eqb-true}
use Rattle.client_ports.specs.declared.parcel.Parcel.{Parcel}
use Rattle.client_ports.specs.declared.parcel.Parcel.TheVariants as parcels
use Rattle.client_ports.specs.declared.putter.Putter.{Putter}
use Rattle.client_ports.specs.Ends.{put_of, fulls_of}
use Rattle.gateway_claim.specs.declared.event.Outcome.{Outcome}
use Rattle.gateway_claim.specs.declared.event.ToClient.{ToClient}
use Rattle.gateway_claim.specs.Happenings.{Happening, HistoryEntry, enters, takes, ends, lags, hears, up_ends, pieces_to, sent, is_alive}
use Rattle.hub_queues.specs.declared.line.HubConnection.{HubConnection}
use Rattle.hub_queues.specs.declared.line.Place.{Place}
use Rattle.hub_queues.specs.Closes.{lags_here, lagged}
use Rattle.hub_queues.specs.Parcels.{as_parcels}
use Rattle.hub_queues.specs.Places.{line_at, PutsInto, HandsOut}
use Rattle.gateway_hub.specs.Keeps.{IsHanded}
use Rattle.gateway_hub.specs.Take.{may_hand}
use Rattle.gateway_hub.proofs.OrderLemmas.{Orders, handed_living}
use Rattle.gateway_hub.proofs.HistoryLemmas.{entry}
use Rattle.gateway_hub.proofs.LineLemmas.{was_before, KeepsPart}

-- An event that may hand a client something finds none too slow.
no_lag : (i : ℕ) (h : Happening) → may_hand h ≡ true → lags_here i h ≡ false
no_lag i (enters conn) may = cc
no_lag i (takes conn shape) may = refl
no_lag i (ends conn) may = cc
no_lag i (lags conn) may = cc
no_lag i (hears shape) may = refl
no_lag i (up_ends why) may = cc

or_right : (a b : Bool) → a ≡ false → (a || b) ≡ true → b ≡ true
or_right true b is either = cc
or_right false b is either = either

-- Nothing was put for a client, and nothing is handed to it.
pub handed_same : (i : ℕ) (put : List Parcel) (fulls : ℕ) (T : List HistoryEntry) (h : Happening) (o : Outcome) → pieces_to i o.to_client ≡ [] → (lags_here i h ≡ true → 0 < fulls) → IsHanded i put fulls T → IsHanded i put fulls (entry h o ∷ T)
handed_same i put fulls T h o none lag was =
    let same : sent i (entry h o ∷ T) ≡ sent i T = ap (λ (l : List (List ℕ)). l ++ sent i T) none in
    record {
      whole = λ z. was.whole z ∙ ap as_parcels (sym same);
      cut = λ some. let c = was.cut some in (c.0, c.1, same ∙ c.2, c.3);
      slow = λ l. by (lags_here i h) refl l;
    }
  where
    by : (b : Bool) → lags_here i h ≡ b → (b || lagged i T) ≡ true → 0 < fulls
    by true is l = lag is
    by false is l = was.slow l

-- A piece is handed to a client whose port was never full: it is put, or its port is full now.
handed_piece : (i : ℕ) (bytes : List ℕ) (full : Bool) (before after : Putter) (T : List HistoryEntry) (h : Happening) (o : Outcome) → pieces_to i o.to_client ≡ bytes ∷ [] → lags_here i h ≡ false → is_alive i T ≡ true
    → (lagged i T ≡ true → is_alive i T ≡ false) → fulls_of before ≡ 0 → PutsInto bytes full before after → IsHanded i (put_of before) (fulls_of before) T → IsHanded i (put_of after) (fulls_of after) (entry h o ∷ T)
handed_piece i bytes true before after T h o piece lag alive dead none puts was =
    let more : sent i (entry h o ∷ T) ≡ bytes ∷ sent i T = ap (λ (l : List (List ℕ)). l ++ sent i T) piece in
    let some : 0 < fulls_of after = puts.refused refl in
    record {
      whole = λ z. absurd (omega arith);
      cut = λ _. (bytes, sent i T, more, puts.put ∙ was.whole none);
      slow = λ _. some;
    }
handed_piece i bytes false before after T h o piece lag alive dead none puts was =
    let more : sent i (entry h o ∷ T) ≡ bytes ∷ sent i T = ap (λ (l : List (List ℕ)). l ++ sent i T) piece in
    let still : fulls_of after ≡ 0 = puts.landed refl ∙ none in
    record {
      whole = λ _. puts.put ∙ ap (λ (l : List Parcel). l ++ parcels.Bytes bytes ∷ []) (was.whole none) ∙ ap as_parcels (sym more);
      cut = λ some. absurd (omega arith);
      slow = λ l. let d = dead (or_right (lags_here i h) (lagged i T) lag l) in absurd (cc);
    }

-- what was put for each client
abbrev pub HandsLines : List Place → List HistoryEntry → Type 0
HandsLines places history = (i : ℕ) (line : HubConnection) → line_at places i ≡ Some line → IsHanded i (put_of line.outward) (fulls_of line.outward) history

outgoing_same : (i : ℕ) (was now : Putter) (T : List HistoryEntry) → now ≡ was → IsHanded i (put_of was) (fulls_of was) T → IsHanded i (put_of now) (fulls_of now) T
outgoing_same i was now T same = subst (λ (p : Putter). IsHanded i (put_of p) (fulls_of p) T) (sym same)

-- the end in its port of a line
abbrev pub outgoing : HubConnection → Putter
outgoing line = line.outward

pub lines_same : (before after : List Place) (T : List HistoryEntry) → KeepsPart outgoing before after → HandsLines before T → HandsLines after T
lines_same before after T kept hands i line at =
    let w = kept i line at in
    outgoing_same i w.0.outward line.outward T w.2 (hands i w.0 w.1)

piece_other : (conn i : ℕ) (bytes : List ℕ) → (conn == i) ≡ false → cond (conn == i) (bytes ∷ []) [] ≡ []
piece_other conn i bytes other = ap (λ b. cond b (bytes ∷ []) []) other

piece_here : (conn i : ℕ) (bytes : List ℕ) → (conn == i) ≡ true → cond (conn == i) (bytes ∷ []) [] ≡ bytes ∷ []
piece_here conn i bytes here = ap (λ b. cond b (bytes ∷ []) []) here

pub hands_more : (before after : List Place) (refused : Option ℕ) (T : List HistoryEntry) (h : Happening) (o : Outcome) → Orders T h o → HandsOut o.to_client refused before after
    → ((i : ℕ) → lagged i T ≡ true → is_alive i T ≡ false)
    → (may_hand h ≡ true → (i : ℕ) (line : HubConnection) → line_at before i ≡ Some line → is_alive i T ≡ true → fulls_of line.outward ≡ 0)
    → ((i : ℕ) (line : HubConnection) → line_at before i ≡ Some line → lags_here i h ≡ true → 0 < fulls_of line.outward)
    → HandsLines before T → HandsLines after (entry h o ∷ T)
hands_more before after refused T h o orders out dead ready lag hands = by o.to_client refl out
  where
    by : (piece : Option ToClient) → o.to_client ≡ piece → HandsOut piece refused before after → HandsLines after (entry h o ∷ T)
    by None is same i line at =
        let was : line_at before i ≡ Some line = ap (λ (l : List Place). line_at l i) (sym same.1) ∙ at in
        handed_same i (put_of line.outward) (fulls_of line.outward) T h o (ap (pieces_to i) is) (lag i line was) (hands i line was)
    by (Some piece) is changed i line at =
        let w = was_before piece.conn _ before after changed.2 i line at in
        let living = handed_living T h o piece is orders in
        elim w.2 [
          | inl x ↦
              let alive : is_alive i T ≡ true = ap (λ n. is_alive n T) (sym (eqb-true piece.conn i x.0)) ∙ living.0 in
              handed_piece i piece.bytes changed.0 w.0.outward line.outward T h o (ap (pieces_to i) is ∙ piece_here piece.conn i piece.bytes x.0) (no_lag i h living.1) alive (dead i) (ready living.1 i w.0 w.1 alive) x.1.outward (hands i w.0 w.1)
          | inr x ↦
              outgoing_same i w.0.outward line.outward (entry h o ∷ T) (ap outgoing x.1)
              (handed_same i (put_of w.0.outward) (fulls_of w.0.outward) T h o (ap (pieces_to i) is ∙ piece_other piece.conn i piece.bytes x.0) (lag i w.0 w.1) (hands i w.0 w.1))
        ]
