-- The records of the gateway of one player are those of its history.
use Rattle.std.proofs.Common.{◌≡◌, ◌∙◌, ℕ, zero, suc, ◌≤◌, ◌<◌, ◌^◌, ◌==◌, ◌&&◌, not, nat_lt, Bool, true, false, cond, List, [], ◌∷◌, ◌++◌, Option, Some, None, refl, sym, ap, subst, arith, append_assoc, inl, inr, ◌⊎◌}
use Rattle.std.specs.Prelude.{is_some}
use Rattle.std.specs.Option.{option_or}
use Rattle.std.proofs.lemmas.Bool.{eq-eqb, eqb-true, ltb-true, ltb-false, lt-ltb, le-ltb, cases_order, cond-true}
use Rattle.std.proofs.lemmas.List.{append-nil}
use Rattle.rtsp_uri.specs.declared.base.Bases.{Bases}
use Rattle.client_machine.specs.declared.why.CloseWhy.{CloseWhy}
use Rattle.client_machine.specs.declared.why.CloseWhy.TheVariants.{Upstream}
use Rattle.client_machine.specs.Alone.{is_empty_list}
use Rattle.client_machine.proofs.KeepLemmas.{live_unclosed}
use Rattle.gate_transcript.specs.declared.entry.Entry.{Entry}
use Rattle.gateway_claim.specs.declared.event.Closed.{Closed}
use Rattle.gateway_claim.specs.declared.event.Closed.TheVariants.{Nobody, One, All}
use Rattle.gateway_claim.specs.declared.event.Outcome.{Outcome}
use Rattle.gateway_claim.specs.declared.event.UpCause.{UpCause}
use Rattle.gateway_claim.specs.Follows.{IsHistory, breach, effect, next, outcome_with, up_due}
use Rattle.gateway_claim.specs.Happenings.{Happening, HistoryEntry, entered, fault_in, happened, is_alive, silent}
use Rattle.gateway_claim.specs.OnePlayer.{IsOnlyPlayer}
use Rattle.gateway_claim.specs.OwnEvents.{books_of, own, turn}
use Rattle.gateway_claim.proofs.AgreeLemmas.{alone}
use Rattle.gateway_claim.proofs.AskLemmas.{alive_is_only, only_before}
use Rattle.gateway_claim.proofs.CaseLemmas.{not_over}
use Rattle.gateway_claim.proofs.NextLemmas.{next_follows, one_next, shut_as_alone}
use Rattle.gateway_replay.specs.Events.{events_of}
use Rattle.gateway_replay.specs.OneTranscript.{EntersAlone}
use Rattle.gateway_replay.proofs.EndLemmas.{numbers_are}
use Rattle.gateway_replay.proofs.OneTranscriptLemmas.{only_told}
use Rattle.gateway_replay.specs.RecordTexts.{close_record, closed_records, end_record, ends, ends_below, fault_record, numbers, piece_record, records, records_of, up_record}
use Rattle.lone_records.specs.LoneGateway.{LoneGateway, new_lone, close_alone, handed_alone, lone_next, outcome_alone, records_alone, records_from, records_then}
use Rattle.lone_records.proofs.OwnBookLemmas.{true_false}
use Rattle.lone_records.proofs.LoneLemmas.{lone_in, handed_is, next_is, ended_is}

-- The gateway has come to where a history stands.
record IsAt (bases : Bases) (T : List HistoryEntry) (i : ℕ) (lone : LoneGateway) : Type 0 where
  fault : lone.fault ≡ fault_in T
  is : fault_in T ≡ None → lone ≡ lone_in bases i T

ended_next : (bases : Bases) (i : ℕ) (lone : LoneGateway) (h : Happening) (cause : UpCause) → lone.fault ≡ Some cause → lone_next bases i lone h ≡ lone
ended_next bases i lone h cause ended = cond-true (is_some lone.fault) lone _ (ap is_some ended)

ended_out : (bases : Bases) (i : ℕ) (lone : LoneGateway) (h : Happening) (cause : UpCause) → lone.fault ≡ Some cause → outcome_alone bases i lone h ≡ silent
ended_out bases i lone h cause ended = ap (λ (f : Option UpCause). cond (is_some f) silent (handed_alone bases i lone h)) ended

at_next : (bases : Bases) (T : List HistoryEntry) (e : HistoryEntry) (i : ℕ) (lone : LoneGateway) → IsHistory bases (e ∷ T) → IsOnlyPlayer i T → IsAt bases T i lone → IsAt bases (e ∷ T) i (lone_next bases i lone e.happening)
at_next bases T e i lone history only at = by (fault_in T) refl (fault_in (e ∷ T)) refl
  where
    now : (before : Option UpCause) → fault_in T ≡ before → option_or before e.outcome.fault ≡ fault_in (e ∷ T)
    now before was = ap (λ f. option_or f e.outcome.fault) (sym was)

    none_some : (cause : UpCause) → None ≡ Some cause → ⊥
    none_some cause e = cc

    by : (before : Option UpCause) → fault_in T ≡ before → (after : Option UpCause) → fault_in (e ∷ T) ≡ after → IsAt bases (e ∷ T) i (lone_next bases i lone e.happening)
    by (Some cause) was after is =
        let same : lone_next bases i lone e.happening ≡ lone = ended_next bases i lone e.happening cause (at.fault ∙ was) in
        let still : fault_in (e ∷ T) ≡ Some cause = sym (now (Some cause) was) in record {
          fault = ap (λ (l : LoneGateway). l.fault) same ∙ at.fault ∙ was ∙ sym still;
          is = λ standing. absurd (none_some cause (sym standing ∙ still));
        }
    by None was None is =
        let here : lone_next bases i lone e.happening ≡ lone_in bases i (e ∷ T) =
        ap (λ (l : LoneGateway). lone_next bases i l e.happening) (at.is was) ∙ next_is bases T i e.happening history.0 only was e history.1 refl is in record {
          fault = ap (λ (l : LoneGateway). l.fault) here;
          is = λ standing. here;
        }
    by None was (Some cause) is =
        let wrong : breach bases T e.happening ≡ Some cause = sym history.1.fault ∙ now None was ∙ is in record {
          fault = ap (λ (l : LoneGateway). (lone_next bases i l e.happening).fault) (at.is was) ∙ ended_is bases T i e.happening history.0 only was cause wrong ∙ sym is;
          is = λ standing. absurd (none_some cause (sym standing ∙ is));
        }

out_is : (bases : Bases) (T : List HistoryEntry) (e : HistoryEntry) (i : ℕ) (lone : LoneGateway) → IsHistory bases (e ∷ T) → IsOnlyPlayer i T → IsAt bases T i lone → outcome_alone bases i lone e.happening ≡ e.outcome
out_is bases T e i lone history only at = by (fault_in T) refl ∙ sym made
  where
    made : e.outcome ≡ next bases T e.happening
    made = ap (λ (one : HistoryEntry). one.outcome) (one_next bases T e (record { happening = e.happening; outcome = next bases T e.happening }) history.1 (next_follows bases T e.happening history.0) refl)

    by : (before : Option UpCause) → fault_in T ≡ before → outcome_alone bases i lone e.happening ≡ next bases T e.happening
    by (Some cause) was = ended_out bases i lone e.happening cause (at.fault ∙ was) ∙ sym (ap (λ (f : Option UpCause). cond (is_some f) silent (outcome_with (breach bases T e.happening) (turn (books_of T) e.happening) (up_due bases T e.happening) (effect bases T e.happening))) was)
    by None was = ap (λ (l : LoneGateway). outcome_alone bases i l e.happening) (at.is was) ∙ handed_is bases T i e.happening history.0 only was

-- At the end of the server's connection one close is written, where the player was alive.
ends_one : (i : ℕ) (T : List HistoryEntry) (n : ℕ) → IsOnlyPlayer i T → ends_below n T ≡ cond (is_alive i T && nat_lt i n) (close_record i Upstream) []
ends_one i T zero only = by (is_alive i T)
  where
    by : (alive : Bool) → ◌≡◌ {A = List ℕ} [] (cond (alive && nat_lt i 0) (close_record i Upstream) [])
    by true = sym (ap (λ t. cond {A = List ℕ} t (close_record i Upstream) []) (le-ltb i 0 (omega arith)))
    by false = refl
ends_one i T (suc n) only = ap (λ (l : List ℕ). l ++ end_record n T) (ends_one i T n only) ∙ by (n == i) refl
  where
    dead : (n == i) ≡ false → (alive : Bool) → is_alive n T ≡ alive → cond alive (close_record n Upstream) [] ≡ []
    dead other true is = absurd (true_false (sym (eq-eqb n i (alive_is_only i T n only is)) ∙ other))
    dead other false is = refl

    less : (i n : ℕ) → (n == i) ≡ false → nat_lt i n ≡ nat_lt i (suc n)
    less i n other = by (nat_lt i n) refl
      where
        above : (n ≡ i) ⊎ ((n < i) ⊎ (i < n)) → n ≤ i → suc n ≤ i
        above (inl same) low = absurd (true_false (sym (eq-eqb n i same) ∙ other))
        above (inr (inl below)) low = omega (arith, below)
        above (inr (inr over)) low = absurd (omega (arith, over, low))

        by : (t : Bool) → nat_lt i n ≡ t → t ≡ nat_lt i (suc n)
        by true e = sym (lt-ltb i (suc n) (omega (arith, ltb-true i n e)))
        by false e = sym (le-ltb i (suc n) (above (cases_order n i) (ltb-false i n e)))

    own_end : (alive : Bool) (i : ℕ) → cond (alive && nat_lt i i) (close_record i Upstream) [] ++ cond alive (close_record i Upstream) [] ≡ cond (alive && nat_lt i (suc i)) (close_record i Upstream) []
    own_end true i =
        ap (λ t. cond {A = List ℕ} t (close_record i Upstream) [] ++ close_record i Upstream) (le-ltb i i (omega arith))
        ∙ sym (ap (λ t. cond {A = List ℕ} t (close_record i Upstream) []) (lt-ltb i (suc i) (omega arith)))
    own_end false i = refl

    by : (t : Bool) → (n == i) ≡ t → cond (is_alive i T && nat_lt i n) (close_record i Upstream) [] ++ end_record n T ≡ cond (is_alive i T && nat_lt i (suc n)) (close_record i Upstream) []
    by true same = subst (λ k. cond (is_alive i T && nat_lt i k) (close_record i Upstream) [] ++ end_record k T ≡ cond (is_alive i T && nat_lt i (suc k)) (close_record i Upstream) []) (sym (eqb-true n i same)) (own_end (is_alive i T) i)
    by false other =
        ap (λ (l : List ℕ). cond (is_alive i T && nat_lt i n) (close_record i Upstream) [] ++ l) (dead other (is_alive n T) refl)
        ∙ append-nil (cond (is_alive i T && nat_lt i n) (close_record i Upstream) [])
        ∙ ap (λ t. cond (is_alive i T && t) (close_record i Upstream) []) (less i n other)

ends_is : (i : ℕ) (T : List HistoryEntry) → IsOnlyPlayer i T → i < 2 ^ 32 → ends T ≡ cond (is_alive i T) (close_record i Upstream) []
ends_is i T only low =
    ends_one i T numbers only ∙ ap (λ t. cond (is_alive i T && t) (close_record i Upstream) []) (lt-ltb i numbers (omega (arith, low, numbers_are))) ∙ by (is_alive i T)
  where
    by : (alive : Bool) → cond (alive && true) (close_record i Upstream) [] ≡ cond alive (close_record i Upstream) []
    by true = refl
    by false = refl

alive_is : (bases : Bases) (T : List HistoryEntry) (i : ℕ) → IsHistory bases T → fault_in T ≡ None → is_alive i T ≡ (entered i T && (alone bases T i).client.alive)
alive_is bases T i history standing =
    ap (λ (closes : List CloseWhy). entered i T && is_empty_list closes) (shut_as_alone bases T history i)
    ∙ ap (λ live. entered i T && live) (sym (live_unclosed bases (own bases i T)))
    ∙ ap (λ over. entered i T && (not over && (alone bases T i).client.alive)) (not_over bases T standing i)

closes_by : (i : ℕ) (T : List HistoryEntry) (alive : Bool) (out : Outcome) → (out.closed ≡ All → ends T ≡ cond alive (close_record i Upstream) []) → records_of out T ≡ records_then i alive out
closes_by i T alive out all = ap (λ (l : List ℕ). piece_record out.to_client ++ up_record out.to_up ++ l ++ fault_record out.fault) (by out.closed refl)
  where
    by : (closed : Closed) → out.closed ≡ closed → closed_records closed T ≡ close_alone i alive closed
    by Nobody is = refl
    by (One conn why) is = refl
    by All is = all is

entry_records : (bases : Bases) (T : List HistoryEntry) (e : HistoryEntry) (i : ℕ) (lone : LoneGateway) → i < 2 ^ 32 → IsHistory bases (e ∷ T) → IsOnlyPlayer i T → IsAt bases T i lone
    → records_of e.outcome T ≡ records_then i (lone.entered && lone.player.client.alive) (outcome_alone bases i lone e.happening)
entry_records bases T e i lone low history only at =
    closes_by i T (lone.entered && lone.player.client.alive) e.outcome (by (fault_in T) refl)
    ∙ ap (records_then i (lone.entered && lone.player.client.alive)) (sym (out_is bases T e i lone history only at))
  where
    silent_open : (out : Outcome) → silent ≡ out → out.closed ≡ All → ⊥
    silent_open out same all = let open_still : Nobody ≡ All = ap (λ (one : Outcome). one.closed) same ∙ all in cc

    by : (before : Option UpCause) → fault_in T ≡ before → e.outcome.closed ≡ All → ends T ≡ cond (lone.entered && lone.player.client.alive) (close_record i Upstream) []
    by (Some cause) was all = absurd (silent_open e.outcome (sym (ended_out bases i lone e.happening cause (at.fault ∙ was)) ∙ out_is bases T e i lone history only at) all)
    by None was all =
        ends_is i T only low ∙ ap (λ t. cond t (close_record i Upstream) []) (alive_is bases T i history.0 was)
        ∙ sym (ap (λ (l : LoneGateway). cond (l.entered && l.player.client.alive) (close_record i Upstream) []) (at.is was))

-- All that happens, one after another.
abbrev through : Bases → ℕ → LoneGateway → List Happening → LoneGateway
through bases i lone [] = lone
through bases i lone (h ∷ later) = through bases i (lone_next bases i lone h) later

through_more : (bases : Bases) (i : ℕ) (lone : LoneGateway) (hs : List Happening) (h : Happening) → through bases i lone (hs ++ h ∷ []) ≡ lone_next bases i (through bases i lone hs) h
through_more bases i lone [] h = refl
through_more bases i lone (one ∷ hs) h = through_more bases i (lone_next bases i lone one) hs h

abbrev records_at : Bases → ℕ → LoneGateway → Happening → List ℕ
records_at bases i lone h = records_then i (lone.entered && lone.player.client.alive) (outcome_alone bases i lone h)

records_more : (bases : Bases) (i : ℕ) (lone : LoneGateway) (hs : List Happening) (h : Happening) → records_from bases i lone (hs ++ h ∷ []) ≡ records_from bases i lone hs ++ records_at bases i (through bases i lone hs) h
records_more bases i lone [] h = append-nil (records_at bases i lone h)
records_more bases i lone (one ∷ hs) h =
    ap (λ (l : List ℕ). records_at bases i lone one ++ l) (records_more bases i (lone_next bases i lone one) hs h)
    ∙ sym (append_assoc (records_at bases i lone one) (records_from bases i (lone_next bases i lone one) hs) (records_at bases i (through bases i (lone_next bases i lone one) hs) h))

all_records : (bases : Bases) (T : List HistoryEntry) (i : ℕ) → i < 2 ^ 32 → IsHistory bases T → IsOnlyPlayer i T
    → (records T ≡ records_from bases i new_lone (happened T)) × IsAt bases T i (through bases i new_lone (happened T))
all_records bases [] i low history only = (refl, record { fault = refl; is = λ standing. refl })
all_records bases (e ∷ T) i low history only =
    let rest = only_before i T e only in
    let before = all_records bases T i low history.0 rest in
    let lone : LoneGateway = through bases i new_lone (happened T) in (
      ap (λ (l : List ℕ). l ++ records_of e.outcome T) before.0
          ∙ ap (λ (l : List ℕ). records_from bases i new_lone (happened T) ++ l) (entry_records bases T e i lone low history rest before.1)
          ∙ sym (records_more bases i new_lone (happened T) e.happening),
      subst (IsAt bases (e ∷ T) i) (sym (through_more bases i new_lone (happened T) e.happening)) (at_next bases T e i lone history rest before.1),
    )

pub transcript_records : (bases : Bases) (entries : List Entry) (history : List HistoryEntry) (i : ℕ) → i < 2 ^ 32 → IsHistory bases history → happened history ≡ events_of entries → EntersAlone i entries
    → records history ≡ records_alone bases i (events_of entries)
transcript_records bases entries history i low is told alone_in =
    (all_records bases history i low is (only_told entries history i told alone_in)).0 ∙ ap (records_alone bases i) told
