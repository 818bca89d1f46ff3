-- What the multiplexer stands for after each of its calls.
use Rattle.std.proofs.Common.{◌≡◌, ◌∙◌, ℕ, ◌+◌, ◌-◌, ◌^◌, ◌≤◌, ◌<◌, min, ◌&&◌, nat_lt, Bool, true, false, List, ◌∷◌, Option, Some, None, Result, Ok, Err, OnErr, refl, sym, ap, subst, arith}
use Rattle.std.specs.Prelude.{is_some, is_none, IfOk}
use Rattle.gate_bytes.specs.declared.memory.Memory.{Memory}
use Rattle.rtsp_uri.specs.declared.base.Bases.{Bases}
use Rattle.gateway_claim.specs.declared.event.Event.{Event}
use Rattle.gateway_claim.specs.declared.event.Outcome.{Outcome}
use Rattle.gateway_claim.specs.declared.event.UpCause.{UpCause}
use Rattle.gateway_claim.specs.Cores.{IsNewTo, ever_entered}
use Rattle.gateway_claim.specs.Happenings.{Happening, HistoryEntry, fault_in, standing, silent, is_alive, happening_of, entry_of, entered, entering}
use Rattle.gateway_claim.specs.Follows.{IsHistory}
use Rattle.gateway_claim.specs.Tells.{is_frame_item, is_dropped, dropped_frames, is_busy, IsFirstAlive}
use Rattle.gateway_claim.proofs.AskLemmas.{never_part}
use Rattle.gateway_claim.proofs.TurnLawLemmas.{next_history}
use Rattle.gateway_mux.specs.declared.act.Act.{Act}
use Rattle.gateway_mux.specs.declared.mux.Mux.{Mux}
use Rattle.gateway_mux.specs.Acts.{IsAct, IsShortAct, IsKeyed}
use Rattle.gateway_mux.specs.Enter.{IsNewIn, IsEntered, IsAsBefore}
use Rattle.gateway_mux.specs.Moves.{IsNext, IsCommitted}
use Rattle.gateway_mux.specs.Pictures.{Picture, IsPictureOf}
use Rattle.gateway_mux.specs.Stands.{Stands, IsActFor, picture_of, bases_of}
use Rattle.gateway_mux.proofs.EnterLemmas.{enter_follows}
use Rattle.gateway_mux.proofs.OverLemmas.{kept_along}
use Rattle.gateway_mux.proofs.StandLemmas.{standing_open, fault_now, drops_one, drops_none, open_picture, over_stands}
use Rattle.gateway_mux.proofs.TellLemmas.{alive_in, is_alive_client, alive_over, busy_over}

below : (i at : ℕ) → nat_lt i at ≡ true → i < at
below i at e = grind (arith, e)

beyond : (i at : ℕ) → nat_lt i at ≡ false → at ≤ i
beyond i at e = grind (arith, e)

here : (i at : ℕ) → nat_lt i at ≡ false → i < at + 1 → at ≡ i
here i at e high = grind (arith, e, high)

-- None that is alive has a number from this one on up to that one.
abbrev pub NoneAlive : Bases → Picture → ℕ → ℕ → Type 0
NoneAlive bases one from to = (T : List HistoryEntry) → IsPictureOf bases one T → (i : ℕ) → from ≤ i → i < to → is_alive i T ≡ false

-- nor up to the next that entered
pub none_before : (bases : Bases) (one : Picture) (from at conn : ℕ) → NoneAlive bases one from at → ((i : ℕ) → at ≤ i → i < conn → one.clients i ≡ None) → NoneAlive bases one from conn
none_before bases one from at conn before absent T is i low high = by_place (nat_lt i at) refl
  where
    by_place : (b : Bool) → nat_lt i at ≡ b → is_alive i T ≡ false
    by_place true e = before T is i low (below i at e)
    by_place false e = alive_in bases one T is i ∙ ap is_alive_client (absent i (beyond i at e) high)

-- nor behind it, where it isn't alive
pub none_behind : (bases : Bases) (one : Picture) (from conn : ℕ) → NoneAlive bases one from conn → ((T : List HistoryEntry) → IsPictureOf bases one T → is_alive conn T ≡ false) → NoneAlive bases one from (conn + 1)
none_behind bases one from conn before dead T is i low high = by_place (nat_lt i conn) refl
  where
    by_place : (b : Bool) → nat_lt i conn ≡ b → is_alive i T ≡ false
    by_place true e = before T is i low (below i conn e)
    by_place false e = subst (λ (n : ℕ). is_alive n T ≡ false) (here i conn e high) (dead T is)

-- Behind the last number of 32 bits there is none.
pub none_left : (bases : Bases) (one : Picture) (from conn : ℕ) (result : Option ℕ) → NoneAlive bases one from (conn + 1) → (conn + 1 < 2 ^ 32 → ⊥) → result ≡ None
    → (T : List HistoryEntry) → IsPictureOf bases one T → IsFirstAlive from T result
none_left bases one from conn result before last is_none T is = subst (λ (found : Option ℕ). IsFirstAlive from T found) (sym is_none) (λ i low high. before T is i low (grind (arith, last, high)))

-- what is known of a value that is there, or isn't
pub still_open : (ended : Option UpCause) → is_some ended ≡ false → ended ≡ None
still_open None e = refl
still_open (Some cause) e = cc

none_there : {A : Type 0} (value : Option A) → is_some value ≡ false → is_none value ≡ true
none_there None e = refl
none_there (Some value) e = cc

some_there : {A : Type 0} (value : Option A) → is_some value ≡ true → is_none value ≡ false
some_there None e = cc
some_there (Some value) e = refl

-- After the end an event hands out nothing.
over_by : (mux : Mux) (T : List HistoryEntry) (h : Happening) (ended : Option UpCause) → mux.ended ≡ ended → is_some ended ≡ true → Stands mux T → Stands mux (record { happening = h; outcome = silent } ∷ T)
over_by mux T h None e over stands = cc
over_by mux T h (Some cause) e over stands = over_stands mux T h cause stands e

pub silent_stands : (mux : Mux) (h : Happening) (outcome : Outcome) → is_some mux.ended ≡ true → outcome ≡ silent → (T : List HistoryEntry) → Stands mux T → Stands mux (record { happening = h; outcome = outcome } ∷ T)
silent_stands mux h outcome over is T stands =
    subst (λ (out : Outcome). Stands mux (record { happening = h; outcome = out } ∷ T)) (sym is) (over_by mux T h mux.ended refl over stands)

-- What was planned, before the end and after it
pub planned : (ended : Option UpCause) (mux : Mux) (event : Event) (plan : Act) → is_some ended ≡ false → IsActFor ended mux event plan
    → IsAct (bases_of mux) (picture_of mux.connections) (happening_of event) plan × IsShortAct plan × IsKeyed mux.connections.seats plan
planned None mux event plan e is = is
planned (Some cause) mux event plan e is = cc

-- after the end any plan will do
pub plan_over : (ended : Option UpCause) (mux : Mux) (event : Event) (plan : Act) → is_some ended ≡ true → IsActFor ended mux event plan
plan_over (Some cause) mux event plan e = tt
plan_over None mux event plan e = cc

-- what an event does is a plan for it
pub plan_for : (ended : Option UpCause) (mux : Mux) (event : Event) (plan : Act) → is_some ended ≡ false → IsAct (bases_of mux) (picture_of mux.connections) (happening_of event) plan → IsShortAct plan → IsKeyed mux.connections.seats plan
    → IsActFor ended mux event plan
plan_for None mux event plan e act short key = (act, short, key)
plan_for (Some cause) mux event plan e act short key = cc

-- so is what a plan gives, where it gives one
pub act_for : (ended : Option UpCause) (mux : Mux) (event : Event) (planned : Result Act Memory) → is_some ended ≡ false → IfOk planned (IsAct (bases_of mux) (picture_of mux.connections) (happening_of event)) → IfOk planned IsShortAct
    → IfOk planned (IsKeyed mux.connections.seats) → IfOk planned (IsActFor ended mux event)
act_for ended mux event (Ok act) e is short key = plan_for ended mux event act e is short key
act_for ended mux event (Err memory) e is short key = tt

-- Whether the event was a frame that was dropped
pub frame_dropped : (h : Happening) (outcome : Outcome) → is_frame_item h ≡ true → is_some outcome.to_client ≡ false → is_some outcome.to_up.message ≡ false → is_dropped h outcome ≡ true
frame_dropped h outcome frame no_client no_message =
    ap (λ t. t && (is_none outcome.to_client && is_none outcome.to_up.message)) frame
    ∙ ap (λ t. t && is_none outcome.to_up.message) (none_there outcome.to_client no_client)
    ∙ none_there outcome.to_up.message no_message

pub other_item : (h : Happening) (outcome : Outcome) → is_frame_item h ≡ false → is_dropped h outcome ≡ false
other_item h outcome frame = ap (λ t. t && (is_none outcome.to_client && is_none outcome.to_up.message)) frame

both_false : (s t : Bool) → (s && (t && false)) ≡ false
both_false true true = refl
both_false true false = refl
both_false false t = refl

first_false : (s t : Bool) → (s && (false && t)) ≡ false
first_false true t = refl
first_false false t = refl

pub client_handed : (h : Happening) (outcome : Outcome) → is_some outcome.to_client ≡ true → is_dropped h outcome ≡ false
client_handed h outcome some =
    ap (λ t. is_frame_item h && (t && is_none outcome.to_up.message)) (some_there outcome.to_client some) ∙ first_false (is_frame_item h) (is_none outcome.to_up.message)

pub message_handed : (h : Happening) (outcome : Outcome) → is_some outcome.to_up.message ≡ true → is_dropped h outcome ≡ false
message_handed h outcome some =
    ap (λ t. is_frame_item h && (is_none outcome.to_client && t)) (some_there outcome.to_up.message some) ∙ both_false (is_frame_item h) (is_none outcome.to_client)

-- What an event hands out is the next entry, and what the multiplexer has after it is that of the longer history.
committed : (mux new : Mux) (e : HistoryEntry) (T : List HistoryEntry) → Stands mux T → mux.ended ≡ None → new.ended ≡ e.outcome.fault → bases_of new ≡ bases_of mux
    → IsNext (bases_of mux) (picture_of new.connections) T e.happening e.outcome → new.dropped ≡ dropped_frames (e ∷ T) → Stands new (e ∷ T)
committed mux new e T stands open_still ended bases is counts = record {
  is_history =
      subst (λ (b : Bases). IsHistory b (e ∷ T)) (sym bases)
      (subst (λ (out : Outcome). IsHistory (bases_of mux) (record { happening = e.happening; outcome = out } ∷ T)) (sym is.is_next) (next_history (bases_of mux) T e.happening stands.is_history));
  has_ended = ended ∙ sym (fault_now T e (sym stands.has_ended ∙ open_still));
  counts = counts;
  is_picture = subst (λ (b : Bases). IsPictureOf b (picture_of new.connections) (standing (e ∷ T))) (sym bases) is.is_after;
}

pub commit_drops : (mux new : Mux) (event : Event) (outcome : Outcome) → mux.ended ≡ None → new.ended ≡ outcome.fault → bases_of new ≡ bases_of mux
    → IsCommitted (bases_of mux) (picture_of mux.connections) (picture_of new.connections) (happening_of event) outcome → new.dropped ≡ min (mux.dropped + 1) (2 ^ 64 - 1) → is_dropped (happening_of event) outcome ≡ true
    → (T : List HistoryEntry) → Stands mux T → Stands new (entry_of event outcome ∷ T)
commit_drops mux new event outcome open_still ended bases commits count dropped T stands =
    committed mux new (entry_of event outcome) T stands open_still ended bases (commits T (open_picture mux T stands open_still))
    (count ∙ ap (λ n. min (n + 1) (2 ^ 64 - 1)) stands.counts ∙ sym (drops_one T (entry_of event outcome) (sym stands.has_ended ∙ open_still) dropped))

pub commit_stands : (mux new : Mux) (event : Event) (outcome : Outcome) → mux.ended ≡ None → new.ended ≡ outcome.fault → bases_of new ≡ bases_of mux
    → IsCommitted (bases_of mux) (picture_of mux.connections) (picture_of new.connections) (happening_of event) outcome → new.dropped ≡ mux.dropped → is_dropped (happening_of event) outcome ≡ false
    → (T : List HistoryEntry) → Stands mux T → Stands new (entry_of event outcome ∷ T)
commit_stands mux new event outcome open_still ended bases commits count dropped T stands =
    committed mux new (entry_of event outcome) T stands open_still ended bases (commits T (open_picture mux T stands open_still))
    (count ∙ stands.counts ∙ sym (drops_none T (entry_of event outcome) (sym stands.has_ended ∙ open_still) dropped))

-- A connection enters.
entered_picture : (mux new : Mux) (conn : ℕ) (T : List HistoryEntry) → Stands mux T → mux.ended ≡ None → entered conn T ≡ false
    → IsEntered conn (picture_of mux.connections) (picture_of new.connections) → IsPictureOf (bases_of mux) (picture_of new.connections) (entering conn ∷ T)
entered_picture mux new conn T stands open_still never is =
    enter_follows (bases_of mux) (picture_of mux.connections) (picture_of new.connections) T conn (open_picture mux T stands open_still) never is.clients is.asker is.held is.holder is.issued

pub entered_stands : (mux new : Mux) (conn : ℕ) → mux.ended ≡ None → new.ended ≡ mux.ended → new.dropped ≡ mux.dropped → bases_of new ≡ bases_of mux
    → IsEntered conn (picture_of mux.connections) (picture_of new.connections) → (T : List HistoryEntry) → Stands mux T → ever_entered conn T ≡ false → Stands new (entering conn ∷ T)
entered_stands mux new conn open_still ended count bases is T stands never =
    let still : fault_in T ≡ None = sym stands.has_ended ∙ open_still in
    let after : IsPictureOf (bases_of mux) (picture_of new.connections) (entering conn ∷ T) = entered_picture mux new conn T stands open_still (never_part T conn never) is in
    record {
      is_history = subst (λ (b : Bases). IsHistory b (entering conn ∷ T)) (sym bases) after.is_history;
      has_ended = ended ∙ open_still ∙ sym (fault_now T (entering conn) still);
      counts = count ∙ stands.counts ∙ sym (drops_none T (entering conn) still refl);
      is_picture =
          subst (λ (b : Bases). IsPictureOf b (picture_of new.connections) (standing (entering conn ∷ T))) (sym bases)
          (subst (λ (all : List HistoryEntry). IsPictureOf (bases_of mux) (picture_of new.connections) all) (sym (standing_open (entering conn ∷ T) (fault_now T (entering conn) still))) after);
    }

-- Nothing changed.
as_before : (bases : Bases) (one after : Picture) (T : List HistoryEntry) → IsAsBefore one after → IsPictureOf bases one T → IsPictureOf bases after T
as_before bases one after T same is = record {
  is_history = is.is_history;
  standing = is.standing;
  clients = λ i. kept_along (same.clients i) (is.clients i) refl;
  asker = λ number. same.asker number ∙ is.asker number;
  held = λ pair. same.held pair ∙ is.held pair;
  holder = λ id. same.holder id ∙ is.holder id;
  issued = same.issued ∙ is.issued;
}

-- Where it stands for a history without that number, so does what it has.
pub new_picture : (mux after : Mux) (conn : ℕ) → mux.ended ≡ None → bases_of after ≡ bases_of mux → IsAsBefore (picture_of mux.connections) (picture_of after.connections) → IsNewTo (Stands mux) conn
    → IsNewIn (bases_of after) (picture_of after.connections) conn
new_picture mux after conn open_still bases same new = record {
  history = new.history;
  is_of = subst (λ (b : Bases). IsPictureOf b (picture_of after.connections) new.history) (sym bases)
      (as_before (bases_of mux) (picture_of mux.connections) (picture_of after.connections) new.history same (open_picture mux new.history new.stood open_still));
  never = never_part new.history conn new.never;
}

pub unchanged_stands : (mux new : Mux) → new.ended ≡ mux.ended → new.dropped ≡ mux.dropped → bases_of new ≡ bases_of mux → IsAsBefore (picture_of mux.connections) (picture_of new.connections)
    → (T : List HistoryEntry) → Stands mux T → Stands new T
unchanged_stands mux new ended count bases same T stands = record {
  is_history = subst (λ (b : Bases). IsHistory b T) (sym bases) stands.is_history;
  has_ended = ended ∙ stands.has_ended;
  counts = count ∙ stands.counts;
  is_picture =
      subst (λ (b : Bases). IsPictureOf b (picture_of new.connections) (standing T)) (sym bases) (as_before (bases_of mux) (picture_of mux.connections) (picture_of new.connections) (standing T) same stands.is_picture);
}

-- After the end none is alive, and none is busy.
dead_by : (mux : Mux) (T : List HistoryEntry) (ended : Option UpCause) → Stands mux T → mux.ended ≡ ended → is_some ended ≡ true → (i : ℕ) → false ≡ is_alive i T
dead_by mux T (Some cause) stands e over i = sym (alive_over (bases_of mux) T cause stands.is_history (sym stands.has_ended ∙ e) i)
dead_by mux T None stands e over i = cc

pub dead_over : (mux : Mux) (T : List HistoryEntry) → Stands mux T → is_some mux.ended ≡ true → (i : ℕ) → false ≡ is_alive i T
dead_over mux T stands over i = dead_by mux T mux.ended stands refl over i

idle_by : (mux : Mux) (T : List HistoryEntry) (ended : Option UpCause) → Stands mux T → mux.ended ≡ ended → is_some ended ≡ true → (i : ℕ) → false ≡ is_busy (bases_of mux) i T
idle_by mux T (Some cause) stands e over i = sym (busy_over (bases_of mux) T cause stands.is_history (sym stands.has_ended ∙ e) i)
idle_by mux T None stands e over i = cc

pub idle_over : (mux : Mux) (T : List HistoryEntry) → Stands mux T → is_some mux.ended ≡ true → (i : ℕ) → false ≡ is_busy (bases_of mux) i T
idle_over mux T stands over i = idle_by mux T mux.ended stands refl over i

-- what holds anyway holds after an error
pub on_err_always : {T E : Type 0} (result : Result T E) (P : Type 0) → P → OnErr result P
on_err_always (Ok x) P p = tt
on_err_always (Err e) P p = p
