-- What is spare for the next connection, through a turn and an entering.
use Rattle.std.proofs.Common.{◌≡◌, ◌∙◌, ◌≤◌, ◌<◌, ◌+◌, ◌-◌, ℕ, Bool, true, false, cond, List, Option, Some, None, IsSome, IfSome, Result, Ok, Err, OnOk, OnErr, refl, sym, ap, subst, arith}
use Rattle.std.specs.Prelude.{is_some, is_none}
use Rattle.std.proofs.Math.Logic.{∥∥₁_map, ∥∥₁_elim}
use Rattle.std.proofs.Props.{props}
use Rattle.rtsp_uri.specs.declared.base.Bases.{Bases}
use Rattle.gate_bytes.specs.declared.memory.Memory.{Memory}
use Rattle.session_one.specs.declared.parts.TheConstants.{MOST_SESSIONS}
use Rattle.channel_map.specs.declared.map.Held.{Held}
use Rattle.up_books.specs.Ids.{Ids, holder_in}
use Rattle.up_books.specs.Numbers.{IssuedNumbers, asker_in}
use Rattle.client_slot.specs.Client.{Client}
use Rattle.client_machine.specs.declared.parts.Done.{Done}
use Rattle.connection_table.specs.declared.table.ConnectionTable.{ConnectionTable}
use Rattle.gateway_mux.specs.declared.settlement.Settlement.{Settlement}
use Rattle.gateway_mux.specs.declared.turn.PlannedTurn.{PlannedTurn}
use Rattle.gateway_mux.specs.declared.upstream.UpstreamBooks.{UpstreamBooks}
use Rattle.gateway_mux.specs.Acts.{IsTurnOfSome}
use Rattle.gateway_mux.specs.Enter.{IsNewIn, IsEntered, IsAsBefore}
use Rattle.gateway_mux.specs.Pictures.{Picture, picture, IsKept}
use Rattle.connection_table.specs.Tables.{client_at, is_ready}
use Rattle.gateway_mux.specs.Spare.{left}
use Rattle.gateway_mux.specs.Settlements.{CanSettle, torn_of, binds, unbinds}
use Rattle.gateway_mux.specs.Turn.{one_if}
use Rattle.gateway_mux.proofs.CommitLemmas.{IsTurned}
use Rattle.gateway_mux.proofs.CarryLemmas.{keeps_result, still_kept}
use Rattle.gateway_mux.proofs.UpkeepLemmas.{keeps_entering, room_asked, settles_now}
use Rattle.gateway_mux.proofs.PictureLemmas.{none_in}

-- What is kept for all but the next connection is kept for all.
less_left : (each spare : ℕ) (seats : ConnectionTable) → left each spare seats ≤ spare
less_left each spare seats = omega arith

pub kept_in_all : (bases : Bases) (seats : ConnectionTable) (upstream : UpstreamBooks) → ∥ IsKept bases (picture seats upstream) (left 1 upstream.requests.spare seats) (left MOST_SESSIONS upstream.sessions.spare seats) ∥₁
    → ∥ IsKept bases (picture seats upstream) upstream.requests.spare upstream.sessions.spare ∥₁
kept_in_all bases seats upstream keeps =
    let one : Picture = picture seats upstream in
    still_kept bases one one (left 1 upstream.requests.spare seats) (left MOST_SESSIONS upstream.sessions.spare seats) upstream.requests.spare upstream.sessions.spare
    (record { clients = λ i. refl; asker = λ n. refl; held = λ p. refl; holder = λ id. refl; issued = refl })
    (less_left 1 upstream.requests.spare seats) (less_left MOST_SESSIONS upstream.sessions.spare seats) keeps

-- What a turn takes is not what is kept for the next connection: by what was spare and is, by whether that is ready, and by
-- whether the turn takes a place and gives one back.
pub still_left : (each old new : ℕ) (ready takes_one gives_one : Bool) → (ready ≡ true → each ≤ old) → (takes_one ≡ true → gives_one ≡ false → 0 < old - cond ready each 0) → new + one_if takes_one ≡ old + one_if gives_one
    → (new - cond ready each 0 + one_if takes_one ≡ old - cond ready each 0 + one_if gives_one) × (ready ≡ true → each ≤ new)
still_left each old new false takes_one gives_one some free turned = (omega (arith, turned), λ e. cc)
still_left each old new true true true some free turned = let more = some refl in (omega (arith, turned, more), λ e. omega (arith, turned, more))
still_left each old new true true false some free turned = let more = some refl in let left_one = free refl refl in (omega (arith, turned, more, left_one), λ e. omega (arith, turned, more, left_one))
still_left each old new true false true some free turned = let more = some refl in (omega (arith, turned, more), λ e. omega (arith, turned, more))
still_left each old new true false false some free turned = let more = some refl in (omega (arith, turned, more), λ e. omega (arith, turned, more))

-- One that never entered has no place yet.
pub absent_new : (bases : Bases) (one : Picture) (conn : ℕ) → ∥ IsNewIn bases one conn ∥₁ → one.clients conn ≡ None
absent_new bases one conn merely =
    none_of (one.clients conn) (∥∥₁_elim merely (Prim.hlevel props) (λ new. ap (λ (client : Option Client). is_none client) (none_in bases one new.history new.is_of conn new.never)))
  where
    none_of : (client : Option Client) → is_none client ≡ true → client ≡ None
    none_of None is = refl
    none_of (Some client) is = cc

-- A connection entered for which room was kept.
pub entering_kept : (bases : Bases) (conn : ℕ) (one after : Picture) (a b c d : ℕ) → one.clients conn ≡ None → IsEntered conn one after → c ≡ a + 1 → d ≡ b + MOST_SESSIONS → ∥ IsNewIn bases one conn ∥₁ → ∥ IsKept bases one a b ∥₁
    → ∥ IsKept bases after c d ∥₁
entering_kept bases conn one after a b c d none entered requests sessions new keeps =
    subst (λ (n : ℕ). ∥ IsKept bases after n d ∥₁) (sym requests)
    (subst (λ (n : ℕ). ∥ IsKept bases after (a + 1) n ∥₁) (sym sessions)
    (∥∥₁_elim new (Prim.hlevel props) (λ n. ∥∥₁_map keeps (keeps_entering bases conn one after a b none entered n))))

no_settled : (settled : Option Settlement) → is_some settled ≡ false → settled ≡ None
no_settled None e = refl
no_settled (Some settled) e = cc

bound_room : (asker : ℕ → Option ℕ) (held : ℕ → Option Held) (holder : List ℕ → Option ℕ) (spare conn : ℕ) (torn : Option (List ℕ)) (settled : Option Settlement)
    → IfSome settled (CanSettle asker held holder spare conn torn) → binds settled ≡ true → 0 < spare
bound_room asker held holder spare conn torn None can bound = cc
bound_room asker held holder spare conn torn (Some settled) can bound = can.has_room bound

-- What the connections keep.
pub record IsKeptReady (bases : Bases) (seats : ConnectionTable) (upstream : UpstreamBooks) : Type 0 where
  pub kept : ∥ IsKept bases (picture seats upstream) (left 1 upstream.requests.spare seats) (left MOST_SESSIONS upstream.sessions.spare seats) ∥₁
  pub spare : is_ready seats ≡ true → 0 < upstream.requests.spare
  pub spare_session : is_ready seats ≡ true → MOST_SESSIONS ≤ upstream.sessions.spare

pub keeps_ready : (bases : Bases) (seats seats_after : ConnectionTable) (upstream after : UpstreamBooks) (answer : Option (List ℕ)) (it : PlannedTurn) (result : Option Done) → IsTurnOfSome bases (picture seats upstream) answer it → IsSome result
    → IfSome result (λ done. IsTurned (picture seats upstream) (picture seats_after after) it done)
    → after.requests.spare + one_if it.asks ≡ upstream.requests.spare + one_if (is_some it.settled)
    → after.sessions.spare + one_if (binds it.settled) ≡ upstream.sessions.spare + one_if (unbinds it.settled (torn_of it.settled (client_at seats it.conn)))
    → is_ready seats_after ≡ is_ready seats → IsKeptReady bases seats upstream → IsKeptReady bases seats_after after
keeps_ready bases seats seats_after upstream after answer it result its some turned room spare ready keeps =
    let one : Picture = picture seats upstream in
    let requests = left 1 upstream.requests.spare seats in
    let sessions = left MOST_SESSIONS upstream.sessions.spare seats in
    let asked = still_left 1 upstream.requests.spare after.requests.spare (is_ready seats) it.asks (is_some it.settled) keeps.spare
    (λ asks unsettled. room_asked bases one answer it requests sessions its asks (no_settled it.settled unsettled) keeps.kept) room in
    let bound = still_left MOST_SESSIONS upstream.sessions.spare after.sessions.spare (is_ready seats) (binds it.settled) (unbinds it.settled (torn_of it.settled (client_at seats it.conn))) keeps.spare_session
    (λ binds_one frees_none. bound_room one.asker one.held one.holder sessions it.conn (torn_of it.settled (one.clients it.conn)) it.settled (settles_now bases one answer it requests sessions its keeps.kept) binds_one) spare in
    record {
      kept = subst (λ (b : Bool). ∥ IsKept bases (picture seats_after after) (after.requests.spare - cond b 1 0) (after.sessions.spare - cond b MOST_SESSIONS 0) ∥₁) (sym ready)
          (keeps_result bases one (picture seats_after after) answer it result requests sessions (after.requests.spare - cond (is_ready seats) 1 0) (after.sessions.spare - cond (is_ready seats) MOST_SESSIONS 0) its some turned
          (λ done. asked.0) (λ done. bound.0) keeps.kept);
      spare = λ is. asked.1 (sym ready ∙ is);
      spare_session = λ is. bound.1 (sym ready ∙ is);
    }

-- Room for one connection more: not yet ready, and then ready with what it can ask for.
pub room_made : (bases : Bases) (seats seats_after : ConnectionTable) (upstream after : UpstreamBooks) → is_ready seats ≡ false → is_ready seats_after ≡ true → IsAsBefore (picture seats upstream) (picture seats_after after)
    → after.requests.spare ≡ upstream.requests.spare + 1 → after.sessions.spare ≡ upstream.sessions.spare + MOST_SESSIONS → IsKeptReady bases seats upstream → IsKeptReady bases seats_after after
room_made bases seats seats_after upstream after idle ready same requests sessions keeps = record {
  kept = still_kept bases (picture seats upstream) (picture seats_after after) (left 1 upstream.requests.spare seats) (left MOST_SESSIONS upstream.sessions.spare seats) (left 1 after.requests.spare seats_after) (left MOST_SESSIONS after.sessions.spare seats_after) same
      (kept_apart 1 upstream.requests.spare after.requests.spare (is_ready seats) (is_ready seats_after) idle ready requests) (kept_apart MOST_SESSIONS upstream.sessions.spare after.sessions.spare (is_ready seats) (is_ready seats_after) idle ready sessions) keeps.kept;
  spare = λ is. omega (arith, requests);
  spare_session = λ is. omega (arith, sessions);
}
  where
    kept_apart : (each old new : ℕ) (before now : Bool) → before ≡ false → now ≡ true → new ≡ old + each → old - cond before each 0 ≤ new - cond now each 0
    kept_apart each old new false true idle_too ready_too more = omega (arith, more)
    kept_apart each old new true now idle_too ready_too more = cc
    kept_apart each old new false false idle_too ready_too more = cc

-- Where no connection more is ready for, more room does no harm.
pub room_grown : (bases : Bases) (seats seats_after : ConnectionTable) (upstream after : UpstreamBooks) → is_ready seats ≡ false → is_ready seats_after ≡ is_ready seats → IsAsBefore (picture seats upstream) (picture seats_after after)
    → upstream.requests.spare ≤ after.requests.spare → upstream.sessions.spare ≤ after.sessions.spare → IsKeptReady bases seats upstream → IsKeptReady bases seats_after after
room_grown bases seats seats_after upstream after idle ready same requests sessions keeps = record {
  kept = still_kept bases (picture seats upstream) (picture seats_after after) (left 1 upstream.requests.spare seats) (left MOST_SESSIONS upstream.sessions.spare seats) (left 1 after.requests.spare seats_after) (left MOST_SESSIONS after.sessions.spare seats_after) same
      (kept_idle 1 upstream.requests.spare after.requests.spare (is_ready seats) (is_ready seats_after) ready requests) (kept_idle MOST_SESSIONS upstream.sessions.spare after.sessions.spare (is_ready seats) (is_ready seats_after) ready sessions) keeps.kept;
  spare = λ is. absurd (true_false (sym is ∙ ready ∙ idle));
  spare_session = λ is. absurd (true_false (sym is ∙ ready ∙ idle));
}
  where
    true_false : true ≡ false → ⊥
    true_false e = cc

    kept_idle : (each old new : ℕ) (before now : Bool) → now ≡ before → old ≤ new → old - cond before each 0 ≤ new - cond now each 0
    kept_idle each old new before now alike more = let same_one : cond now each 0 ≡ cond before each 0 = ap (λ t. cond t each 0) alike in omega (arith, same_one, more)

-- A connection entered, for which room was kept.
pub room_used : (bases : Bases) (conn : ℕ) (seats seats_after : ConnectionTable) (upstream : UpstreamBooks) → is_ready seats ≡ true → is_ready seats_after ≡ false → ∥ IsNewIn bases (picture seats upstream) conn ∥₁ → IsEntered conn (picture seats upstream) (picture seats_after upstream)
    → IsKeptReady bases seats upstream → IsKeptReady bases seats_after upstream
room_used bases conn seats seats_after upstream ready used new entered keeps = record {
  kept = entering_kept bases conn (picture seats upstream) (picture seats_after upstream) (left 1 upstream.requests.spare seats) (left MOST_SESSIONS upstream.sessions.spare seats) (left 1 upstream.requests.spare seats_after) (left MOST_SESSIONS upstream.sessions.spare seats_after) (absent_new bases (picture seats upstream) conn new) entered
      (for_next 1 upstream.requests.spare (is_ready seats) (is_ready seats_after) ready used (keeps.spare ready)) (for_next MOST_SESSIONS upstream.sessions.spare (is_ready seats) (is_ready seats_after) ready used (keeps.spare_session ready)) new keeps.kept;
  spare = λ is. absurd (true_false (sym is ∙ used));
  spare_session = λ is. absurd (true_false (sym is ∙ used));
}
  where
    true_false : true ≡ false → ⊥
    true_false e = cc

    for_next : (each spare : ℕ) (before now : Bool) → before ≡ true → now ≡ false → each ≤ spare → spare - cond now each 0 ≡ spare - cond before each 0 + each
    for_next each spare true false was is some = omega (arith, some)
    for_next each spare false now was is some = cc
    for_next each spare true true was is some = cc

-- A slot for one connection more was made, or memory was wanting for it.
pub room_prepared : (bases : Bases) (seats seats_after : ConnectionTable) (upstream after : UpstreamBooks) (result : Result (Unit {0}) Memory) → OnOk result (is_ready seats_after ≡ true) → OnErr result (is_ready seats_after ≡ is_ready seats) → is_ready seats ≡ false
    → IsAsBefore (picture seats upstream) (picture seats_after after) → after.requests.spare ≡ upstream.requests.spare + 1 → after.sessions.spare ≡ upstream.sessions.spare + MOST_SESSIONS → IsKeptReady bases seats upstream → IsKeptReady bases seats_after after
room_prepared bases seats seats_after upstream after (Ok u) ready err idle same requests sessions keeps = room_made bases seats seats_after upstream after idle ready same requests sessions keeps
room_prepared bases seats seats_after upstream after (Err e) ok still idle same requests sessions keeps =
    room_grown bases seats seats_after upstream after idle still same (omega (arith, requests)) (omega (arith, sessions)) keeps

-- Room for one connection more is being made: there is room for its request, and for so many sessions.
pub record IsPreparing (seats seats_after : ConnectionTable) (upstream after : UpstreamBooks) (places : ℕ) : Type 0 where
  pub same : IsAsBefore (picture seats upstream) (picture seats_after after)
  pub idle : is_ready seats_after ≡ false
  pub requests : after.requests.spare ≡ upstream.requests.spare + 1
  pub sessions : after.sessions.spare ≡ upstream.sessions.spare + places

pub preparing_first : (seats : ConnectionTable) (upstream : UpstreamBooks) (numbers : IssuedNumbers) → is_ready seats ≡ false → numbers ≡ record upstream.requests { spare = upstream.requests.spare + 1 }
    → IsPreparing seats seats upstream (record upstream { requests = numbers }) 0
preparing_first seats upstream numbers idle is = record {
  same = record { clients = λ i. refl; asker = λ n. ap (asker_of_numbers n) is; held = λ p. refl; holder = λ id. refl; issued = ap (λ (one : IssuedNumbers). one.issued) is };
  idle = idle;
  requests = ap (λ (one : IssuedNumbers). one.spare) is;
  sessions = omega arith;
}
  where
    asker_of_numbers : ℕ → IssuedNumbers → Option ℕ
    asker_of_numbers n numbers = asker_in n numbers.loans

-- the book of sessions has the same ones bound
same_bound : (seats seats_after : ConnectionTable) (upstream after : UpstreamBooks) (ids : Ids) → ids.bound ≡ after.sessions.bound → IsAsBefore (picture seats upstream) (picture seats_after after)
    → IsAsBefore (picture seats upstream) (picture seats_after (record after { sessions = ids }))
same_bound seats seats_after upstream after ids is same = record { clients = same.clients; asker = same.asker; held = same.held; holder = λ id. ap (holder_in id) is ∙ same.holder id; issued = same.issued }

pub preparing_more : (seats seats_after : ConnectionTable) (upstream after : UpstreamBooks) (places : ℕ) (ids : Ids) → ids ≡ record after.sessions { spare = after.sessions.spare + 1 } → IsPreparing seats seats_after upstream after places
    → IsPreparing seats seats_after upstream (record after { sessions = ids }) (places + 1)
preparing_more seats seats_after upstream after places ids is preparing = record {
  same = same_bound seats seats_after upstream after ids (ap (λ (one : Ids). one.bound) is) preparing.same;
  idle = preparing.idle;
  requests = preparing.requests;
  sessions = omega (arith, preparing.sessions, ap (λ (one : Ids). one.spare) is);
}

-- memory was wanting for one of them
pub preparing_kept : (seats seats_after : ConnectionTable) (upstream after : UpstreamBooks) (places : ℕ) (ids : Ids) → ids.bound ≡ after.sessions.bound → IsPreparing seats seats_after upstream after places
    → IsAsBefore (picture seats upstream) (picture seats_after (record after { sessions = ids }))
preparing_kept seats seats_after upstream after places ids is preparing = same_bound seats seats_after upstream after ids is preparing.same

pub then_same : (seats seats_after seats_then : ConnectionTable) (upstream after : UpstreamBooks) → ((i : ℕ) → client_at seats_then i ≡ client_at seats_after i) → IsAsBefore (picture seats upstream) (picture seats_after after)
    → IsAsBefore (picture seats upstream) (picture seats_then after)
then_same seats seats_after seats_then upstream after clients same = record { clients = λ i. clients i ∙ same.clients i; asker = same.asker; held = same.held; holder = same.holder; issued = same.issued }

-- all of it was made
pub preparing_done : (bases : Bases) (seats seats_after seats_then : ConnectionTable) (upstream after : UpstreamBooks) (result : Result (Unit {0}) Memory) → is_ready seats ≡ false → OnOk result (is_ready seats_then ≡ true)
    → OnErr result (is_ready seats_then ≡ is_ready seats_after) → ((i : ℕ) → client_at seats_then i ≡ client_at seats_after i) → IsPreparing seats seats_after upstream after MOST_SESSIONS → IsKeptReady bases seats upstream
    → IsKeptReady bases seats_then after
preparing_done bases seats seats_after seats_then upstream after result idle ready err clients preparing keeps =
    room_prepared bases seats seats_then upstream after result ready (still result err) idle (then_same seats seats_after seats_then upstream after clients preparing.same) preparing.requests preparing.sessions keeps
  where
    still : (result : Result (Unit {0}) Memory) → OnErr result (is_ready seats_then ≡ is_ready seats_after) → OnErr result (is_ready seats_then ≡ is_ready seats)
    still (Ok u) same = tt
    still (Err e) same = same ∙ preparing.idle ∙ sym idle
