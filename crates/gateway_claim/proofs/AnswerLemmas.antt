-- What a reply changes for the connection that asked, where nothing is wrong with it.
use Rattle.std.proofs.Common.{◌≡◌, ◌∙◌, ℕ, ◌&&◌, nat_lt, Bool, true, false, cond, List, [], ◌∷◌, ◌++◌, Option, Some, None, IfSome, IsSome, refl, sym, ap, subst, arith, inl, inr, ◌⊎◌, length, ◌<◌}
use Rattle.std.specs.Prelude.{is_none, is_some, codes}
use Rattle.std.specs.Option.{option_or, option_and_then}
use Rattle.std.proofs.lemmas.Slice.Eq.{bytes_eq-Decides}
use Rattle.rtsp_head.specs.Headers.{field_of}
use Rattle.rtsp_head.specs.Messages.{own_fields}
use Rattle.rtsp_small.specs.Sessions.{session_of}
use Rattle.rtsp_small.specs.declared.method.Method.TheVariants as methods
use Rattle.rtsp_uri.specs.declared.base.Bases.{Bases}
use Rattle.head_two.specs.declared.reply.Reply2.{Reply2}
use Rattle.session_one.specs.declared.parts.Track.{Track}
use Rattle.session_one.specs.declared.parts.Asked.{Asked}
use Rattle.session_one.specs.Table.{same_method, is_success}
use Rattle.translate_down.specs.Replies.{told_by}
use Rattle.translate_down.proofs.FieldLemmas.{own_field, untransported_field}
use Rattle.client_slot.specs.declared.purpose.Purpose.{Purpose}
use Rattle.client_slot.specs.declared.purpose.Purpose.TheVariants as purposes
use Rattle.client_slot.specs.declared.session_turn.SessionTurn.{SessionTurn}
use Rattle.client_slot.specs.Session.{PlayerSession}
use Rattle.client_slot.specs.SessionTurns.{gone_turn, Brought, reply_turn, brought_by, turned}
use Rattle.client_slot.specs.Places.{session_at, session_where, changed_at, changed_where, empty_place}
use Rattle.client_slot.specs.Changes.{session_after, settled_place, settle_with}
use Rattle.client_slot.specs.Client.{Client}
use Rattle.client_slot.proofs.PlaceLemmas.{changed_here, changed_other, kept_each, IsAtPlace, place_is}
use Rattle.client_machine.specs.Step.{Hearing, idles, session_told, new_id, settled, settle_at, take_answer}
use Rattle.gateway_claim.specs.Books.{RequestKind, sets_up, plain, teardown_kind, Opened, Books, Final, final_of, id_said, torn_by, bound_by, is_id, settles}
use Rattle.gateway_claim.specs.Follows.{is_session_for, is_bound, grant_breach, kind_breach, session_asked}
use Rattle.gateway_claim.specs.BooksAndSlots.{kind_for, IsForSession, IsPurpose, opened_for, IsOpenFor, IsJoined}
use Rattle.gateway_claim.proofs.OtherLemmas.{IsHeldKind, IsFinal}
use Rattle.gateway_claim.proofs.SettleLemmas.{changed_or_new, IsAlike, IsOwnFinal, IsSettledAt, place_settled, at_alike, at_gone, at_granted, IsSessionSet, filled_within, same_id}

-- the final reply to the request that is open for a purpose
abbrev pub final_to : Books → ℕ → ℕ → List PlayerSession → Purpose → Bool → Option (List ℕ) → Final
final_to books i number sessions purpose success said = record { number = number; conn = i; kind = kind_for (books.pair_of i) sessions purpose; success = success; id = said }

held_kind : (books : Books) (i : ℕ) (sessions : List PlayerSession) (purpose : Purpose) → IsPurpose books i sessions purpose → IsHeldKind books i (kind_for (books.pair_of i) sessions purpose)
held_kind books i sessions purpose h4 = grind arith

own_final : (books : Books) (i number : ℕ) (sessions : List PlayerSession) (purpose : Purpose) (success : Bool) (said : Option (List ℕ)) → IsPurpose books i sessions purpose → IsOwnFinal books i number (final_to books i number sessions purpose success said)
own_final books i number sessions purpose success said is = record { number_is = refl; conn = refl; held = held_kind books i sessions purpose is }

-- what no request but SETUP and TEARDOWN changes
abbrev KeepsHeld : SessionTurn → Brought → PlayerSession → Type 0
KeepsHeld turn brought session = ((turned turn brought session).id ≡ session.id) × ((turned turn brought session).tracks ≡ session.tracks)

-- What the reply to a SETUP that succeeds says of the session: the one that was named, or a new one that nobody has.
abbrev pub SaysAt : Books → Option ℕ → List PlayerSession → Option (List ℕ) → Option (List ℕ) → Type 0
SaysAt books None sessions said new = (id : List ℕ) × (said ≡ Some id) × (new ≡ Some id) × (books.holder id ≡ None)
SaysAt books (Some place) sessions said new = (said ≡ (session_at place sessions).id) × (new ≡ None)

abbrev pub SaysFor : Books → Purpose → List PlayerSession → Bool → Option (List ℕ) → Option (List ℕ) → Type 0
SaysFor books (purposes.Client asked (Some track)) sessions true said new = SaysAt books asked.place sessions said new
SaysFor books purpose sessions other said new = Unit {0}

-- So the connection is joined then.
abbrev IsSettledSo : Books → ℕ → ℕ → ℕ → Client → Purpose → Bool → Option (List ℕ) → Option (List ℕ) → Type 0
IsSettledSo books i count code client purpose success said new =
    IsJoined (settles (Some (final_to books i (books.number_of i count) client.sessions purpose success said)) books) i (settle_with (Some purpose) count code new client) count

-- What the final reply to the open request makes of the session at the place that it changes one at, if it does.
abbrev IsSettledHere : Books → ℕ → ℕ → ℕ → Client → Purpose → Bool → Option (List ℕ) → Option (List ℕ) → Option ℕ → Type 0
IsSettledHere books i count code client purpose success said new None =
    (bound_by (kind_for (books.pair_of i) client.sessions purpose) success said ≡ None) × (torn_by (kind_for (books.pair_of i) client.sessions purpose) success ≡ None)
IsSettledHere books i count code client purpose success said new (Some k) =
    IsSettledAt books i (final_to books i (books.number_of i count) client.sessions purpose success said) (session_at k client.sessions)
    (session_at k (changed_at k (session_after purpose count code client.described new) client.sessions))

settled_where : (books : Books) (i count code : ℕ) (client : Client) (purpose : Purpose) (success : Bool) (said new : Option (List ℕ)) (place : Option ℕ) → IsJoined books i client count → IsPurpose books i client.sessions purpose
    → settled_place purpose new client.sessions ≡ place → IsSettledHere books i count code client purpose success said new place → IsSettledSo books i count code client purpose success said new
settled_where books i count code client purpose success said new None joined is at here =
    let same : (settle_with (Some purpose) count code new client).sessions ≡ client.sessions = ap (λ one. changed_where one (session_after purpose count code client.described new) client.sessions) at in
    let alike : (place : ℕ) → IsAlike (session_at place client.sessions) (session_at place (settle_with (Some purpose) count code new client).sessions) = λ place. (ap (λ (sessions : List PlayerSession). (session_at place sessions).id) same, ap (λ (sessions : List PlayerSession). (session_at place sessions).tracks) same) in
    place_settled books i count 0 client (settle_with (Some purpose) count code new client) _ (own_final books i (books.number_of i count) client.sessions purpose success said is) joined (λ place apart. alike place) (at_alike books i count 0 client _ _ (own_final books i (books.number_of i count) client.sessions purpose success said is) joined here.0 here.1 (alike 0)) refl
settled_where books i count code client purpose success said new (Some k) joined is at here =
    let change : PlayerSession → PlayerSession = session_after purpose count code client.described new in
    let same : (settle_with (Some purpose) count code new client).sessions ≡ changed_at k (session_after purpose count code client.described new) client.sessions = ap (λ one. changed_where one change client.sessions) at in
    place_settled books i count k client (settle_with (Some purpose) count code new client) _ (own_final books i (books.number_of i count) client.sessions purpose success said is) joined
    (λ place apart. let other = changed_other k place change client.sessions apart in
    (ap (λ (sessions : List PlayerSession). (session_at place sessions).id) same ∙ ap (λ (one : PlayerSession). one.id) other, ap (λ (sessions : List PlayerSession). (session_at place sessions).tracks) same ∙ ap (λ (one : PlayerSession). one.tracks) other))
    (subst (λ (sessions : List PlayerSession). IsSettledAt books i (final_to books i (books.number_of i count) client.sessions purpose success said) (session_at k client.sessions) (session_at k sessions)) (sym same) here) refl

-- Nothing is bound, no session ends, and the session there keeps its id and its streams.
calm : (books : Books) (i count code : ℕ) (client : Client) (purpose : Purpose) (success : Bool) (said new : Option (List ℕ)) → IsJoined books i client count → IsPurpose books i client.sessions purpose
    → bound_by (kind_for (books.pair_of i) client.sessions purpose) success said ≡ None → torn_by (kind_for (books.pair_of i) client.sessions purpose) success ≡ None
    → ((session : PlayerSession) → KeepsHeld (reply_turn purpose code (is_some new) session.state) (brought_by purpose count client.described new) session) → IsSettledSo books i count code client purpose success said new
calm books i count code client purpose success said new joined is none left keeps =
    settled_where books i count code client purpose success said new (settled_place purpose new client.sessions) joined is refl (by (settled_place purpose new client.sessions))
  where
    by : (place : Option ℕ) → IsSettledHere books i count code client purpose success said new place
    by None = (none, left)
    by (Some k) =
        at_alike books i count k client _ _ (own_final books i (books.number_of i count) client.sessions purpose success said is) joined none left (
          kept_each (λ session. session.id) k k (session_after purpose count code client.described new) client.sessions (keeps (session_at k client.sessions)).0,
          kept_each (λ session. session.tracks) k k (session_after purpose count code client.described new) client.sessions (keeps (session_at k client.sessions)).1,
        )

-- A TEARDOWN for a place leaves it empty.
gone : (books : Books) (i count code k : ℕ) (client : Client) (purpose : Purpose) (success shut : Bool) (said new : Option (List ℕ)) → IsJoined books i client count → IsPurpose books i client.sessions purpose
    → settled_place purpose new client.sessions ≡ Some k → kind_for (books.pair_of i) client.sessions purpose ≡ teardown_kind shut (session_at k client.sessions).id → cond shut true success ≡ true
    → reply_turn purpose code (is_some new) (session_at k client.sessions).state ≡ gone_turn → IsSettledSo books i count code client purpose success said new
gone books i count code k client purpose success shut said new joined is at kind ends turn =
    settled_where books i count code client purpose success said new (Some k) joined is at
    (at_gone books i count k client shut _ _ (own_final books i (books.number_of i count) client.sessions purpose success said is) joined kind ends (grind (arith, changed_or_new)) (grind (arith, changed_or_new)))

plain_kind : (tears success : Bool) (id said : Option (List ℕ)) → ((tears && success) ≡ false) ⊎ (id ≡ None)
    → (bound_by (cond tears (teardown_kind false id) plain) success said ≡ None) × (torn_by (cond tears (teardown_kind false id) plain) success ≡ None)
plain_kind tears success id said calm = grind arith

-- A player's request that is no SETUP.
asked_settled : (books : Books) (i count code : ℕ) (client : Client) (asked : Asked) (said new : Option (List ℕ)) → IsJoined books i client count → IsPurpose books i client.sessions (purposes.Client asked None)
    → IsSettledSo books i count code client (purposes.Client asked None) (is_success code) said new
asked_settled books i count code client asked said new joined is = by (same_method asked.method methods.Teardown && is_success code) refl
  where
    placed : settled_place (purposes.Client asked None) new client.sessions ≡ asked.place
    placed = grind arith

    tears : (place : Option ℕ) → asked.place ≡ place → (same_method asked.method methods.Teardown && is_success code) ≡ true → IsSettledSo books i count code client (purposes.Client asked None) (is_success code) said new
    tears None at e =
        settled_where books i count code client (purposes.Client asked None) (is_success code) said new None joined is (placed ∙ at)
        (plain_kind (same_method asked.method methods.Teardown) (is_success code) (session_where asked.place client.sessions).id said (inr (ap (λ place. (session_where place client.sessions).id) at)))
    tears (Some k) at e = gone books i count code k client (purposes.Client asked None) (is_success code) false said new joined is (placed ∙ at) (grind arith) (grind arith) (grind arith)

    by : (t : Bool) → (same_method asked.method methods.Teardown && is_success code) ≡ t → IsSettledSo books i count code client (purposes.Client asked None) (is_success code) said new
    by true e = tears asked.place refl e
    by false e =
        let none = plain_kind (same_method asked.method methods.Teardown) (is_success code) (session_where asked.place client.sessions).id said (inl e) in
        calm books i count code client (purposes.Client asked None) (is_success code) said new joined is none.0 none.1 (λ session. grind arith)

-- A SETUP, whose place is that of the session that it names, or the lowest empty one.
setup_brings : (asked : Asked) (track : Track) (number code : ℕ) (described new : Option (List ℕ)) (session : PlayerSession) → asked.method ≡ methods.Setup → is_success code ≡ true
    → ((session_after (purposes.Client asked (Some track)) number code described new session).id ≡ cond (is_some new) new session.id)
    × ((session_after (purposes.Client asked (Some track)) number code described new session).tracks ≡ session.tracks ++ track ∷ [])
setup_brings asked track number code described new session method success = grind arith

setup_settled : (books : Books) (i count code : ℕ) (client : Client) (asked : Asked) (track : Track) (success : Bool) (said new : Option (List ℕ)) → is_success code ≡ success → IsJoined books i client count
    → IsPurpose books i client.sessions (purposes.Client asked (Some track)) → SaysFor books (purposes.Client asked (Some track)) client.sessions success said new
    → IsSettledSo books i count code client (purposes.Client asked (Some track)) success said new
setup_settled books i count code client asked track false said new e joined is says =
    calm books i count code client (purposes.Client asked (Some track)) false said new joined is refl refl (λ session. grind arith)
setup_settled books i count code client asked track true said new e joined is says = at_place asked.place refl is.2 says
  where
    placed : settled_place (purposes.Client asked (Some track)) new client.sessions ≡ option_or asked.place (cond (is_some new) (empty_place client.sessions) None)
    placed = grind arith

    at : (k : ℕ) (id : List ℕ) → k < length client.sessions → settled_place (purposes.Client asked (Some track)) new client.sessions ≡ Some k → said ≡ Some id → cond (is_some new) new (session_at k client.sessions).id ≡ Some id
        → IsSessionSet books (session_at k client.sessions).id id → IsSettledSo books i count code client (purposes.Client asked (Some track)) true said new
    at k id within place is_said is_id set =
        let brings = setup_brings asked track count code client.described new (session_at k client.sessions) is.1 e in
        let here = changed_here k (session_after (purposes.Client asked (Some track)) count code client.described new) client.sessions within in
        settled_where books i count code client (purposes.Client asked (Some track)) true said new (Some k) joined is place
        (at_granted books i count k client track id _ _ (own_final books i (books.number_of i count) client.sessions (purposes.Client asked (Some track)) true said is) joined is.0 refl refl is_said set
        (ap (λ (session : PlayerSession). session.id) here ∙ brings.0 ∙ is_id) (ap (λ (session : PlayerSession). session.tracks) here ∙ brings.1))

    at_place : (place : Option ℕ) → asked.place ≡ place → IsForSession place client.sessions → SaysAt books place client.sessions said new → IsSettledSo books i count code client (purposes.Client asked (Some track)) true said new
    at_place (Some k) is_at some says = by (session_at k client.sessions).id refl some
      where
        by : (id : Option (List ℕ)) → (session_at k client.sessions).id ≡ id → IsSome id → IsSettledSo books i count code client (purposes.Client asked (Some track)) true said new
        by None there some = cc
        by (Some id) there some =
            at k id (filled_within k id client.sessions there) (placed ∙ ap (λ place. option_or place (cond (is_some new) (empty_place client.sessions) None)) is_at) (says.0 ∙ there)
            (ap (λ (one : Option (List ℕ)). cond (is_some one) one (session_at k client.sessions).id) says.1 ∙ there) (subst (λ (one : Option (List ℕ)). IsSessionSet books one id) (sym there) refl)
    at_place None is_at some (id, is_said, is_new, free) = by (empty_place client.sessions) refl some
      where
        by : (one : Option ℕ) → empty_place client.sessions ≡ one → IsSome one → IsSettledSo books i count code client (purposes.Client asked (Some track)) true said new
        by None empty some = cc
        by (Some k) empty some =
            let there : IsAtPlace (λ session. is_none session.id) k client.sessions = place_is (λ session. is_none session.id) k client.sessions empty in
            at k id there.within (placed ∙ ap (λ place. option_or place (cond (is_some new) (empty_place client.sessions) None)) is_at ∙ ap (λ (one : Option (List ℕ)). cond (is_some one) (empty_place client.sessions) None) is_new ∙ empty)
            is_said (ap (λ (one : Option (List ℕ)). cond (is_some one) one (session_at k client.sessions).id) is_new) (grind (arith, there.passes))

pub own_settled : (books : Books) (i count code : ℕ) (client : Client) (purpose : Purpose) (said new : Option (List ℕ)) → IsJoined books i client count → IsPurpose books i client.sessions purpose
    → SaysFor books purpose client.sessions (is_success code) said new → IsSettledSo books i count code client purpose (is_success code) said new
own_settled books i count code client (purposes.Client asked (Some track)) said new joined is says = setup_settled books i count code client asked track (is_success code) said new refl joined is says
own_settled books i count code client (purposes.Client asked None) said new joined is says = asked_settled books i count code client asked said new joined is
own_settled books i count code client (purposes.Released play) said new joined is says = calm books i count code client (purposes.Released play) (is_success code) said new joined is refl refl (λ session. grind arith)
own_settled books i count code client (purposes.Closing place) said new joined is says = gone books i count code place client (purposes.Closing place) (is_success code) true said new joined is refl refl refl refl

-- What a reply says of the session is told.
pub told_session : (reply : Reply2) → session_told (told_by reply) ≡ option_and_then session_of (field_of reply.head.headers (codes "Session"))
told_session reply = ap (option_and_then session_of) (untransported_field (own_fields reply.head.headers) (codes "Session") refl ∙ own_field reply.head.headers (codes "Session") refl)

-- A grant that is right.
abbrev pub RightGrant : Books → Option (List ℕ) → Reply2 → Type 0
RightGrant books session reply = (is_session_for session (id_said reply) ≡ true) × ((is_none session && is_bound books (id_said reply)) ≡ false)

pub right_grant : (books : Books) (pair : ℕ) (session : Option (List ℕ)) (reply : Reply2) → grant_breach books pair session reply ≡ None → RightGrant books session reply
right_grant books pair session reply none = grind arith

-- Nobody else has the session that is bound.
own_bound : (books : Books) (i count : ℕ) (client : Client) (place : Option ℕ) (said new : Option (List ℕ)) → IsJoined books i client count → SaysAt books place client.sessions said new
    → (id : List ℕ) (j : ℕ) → is_id said id ≡ true → books.holder id ≡ Some j → j ≡ i
own_bound books i count client None said new joined (one, is_said, is_new, free) id j is here =
    let same : id ≡ one = same_id one id (sym (ap (λ (some : Option (List ℕ)). is_id some id) is_said) ∙ is) in
    let none : None ≡ Some j = sym free ∙ ap books.holder (sym same) ∙ here in cc
own_bound books i count client (Some place) None new joined says id j is here = cc
own_bound books i count client (Some place) (Some one) new joined says id j is here =
    let both : Some i ≡ Some j = sym (joined.holds place one (sym says.0)) ∙ ap books.holder (sym (same_id one id is)) ∙ here in
    let same : i ≡ j = cc in sym same

-- What the reply to the open request makes of the sessions.
pub record IsSaid (books : Books) (i : ℕ) (purpose : Purpose) (sessions : List PlayerSession) (success : Bool) (reply : Reply2) : Type 0 where
  pub says : SaysFor books purpose sessions success (id_said reply) (new_id purpose (told_by reply))
  pub bound : (id : List ℕ) (j : ℕ) → is_id (bound_by (kind_for (books.pair_of i) sessions purpose) success (id_said reply)) id ≡ true → books.holder id ≡ Some j → j ≡ i

nothing_bound : (books : Books) (i : ℕ) (kind : RequestKind) (success : Bool) (said : Option (List ℕ)) → bound_by kind success said ≡ None → (id : List ℕ) (j : ℕ) → is_id (bound_by kind success said) id ≡ true → books.holder id ≡ Some j → j ≡ i
nothing_bound books i kind success said none id j is here = let e : false ≡ true = sym (ap (λ (some : Option (List ℕ)). is_id some id) none) ∙ is in cc

pub said_for : (books : Books) (i count : ℕ) (client : Client) (purpose : Purpose) (reply : Reply2) → IsJoined books i client count → client.pending ≡ Some purpose → IsPurpose books i client.sessions purpose
    → kind_breach books (kind_for (books.pair_of i) client.sessions purpose) (session_asked client.sessions client.pending) reply ≡ None → IsSaid books i purpose client.sessions (is_success reply.code) reply
said_for books i count client (purposes.Client asked (Some track)) reply joined e is none =
    grind (arith, right_grant, told_session, bytes_eq-Decides, own_bound, (subst (λ (pending : Option Purpose). kind_breach books (sets_up (books.pair_of i track.pair)) (session_asked client.sessions pending) reply ≡ None) e none))
said_for books i count client (purposes.Client asked None) reply joined e is none = record { says = tt; bound = nothing_bound books i (kind_for (books.pair_of i) client.sessions (purposes.Client asked None)) (is_success reply.code) (id_said reply) (grind arith) }
said_for books i count client (purposes.Released play) reply joined e is none = record { says = tt; bound = λ id j bound here. cc }
said_for books i count client (purposes.Closing place) reply joined e is none = record { says = tt; bound = nothing_bound books i (teardown_kind true (session_at place client.sessions).id) (is_success reply.code) (id_said reply) (grind arith) }

-- A session that ends is the connection's.
torn_place : (books : Books) (i count : ℕ) (client : Client) (shut success : Bool) (place : Option ℕ) (id : List ℕ) → IsJoined books i client count → is_id (torn_by (teardown_kind shut (session_where place client.sessions).id) success) id ≡ true → books.holder id ≡ Some i
torn_place books i count client shut success None id joined torn = cc
torn_place books i count client shut success (Some place) id joined torn = by shut success (session_at place client.sessions).id refl torn
  where
    by : (shut success : Bool) (session : Option (List ℕ)) → (session_at place client.sessions).id ≡ session → is_id (torn_by (teardown_kind shut session) success) id ≡ true → books.holder id ≡ Some i
    by shut success None e torn = cc
    by true success (Some one) e torn = joined.holds place id (e ∙ ap (λ one. Some one) (sym (same_id one id torn)))
    by false true (Some one) e torn = joined.holds place id (e ∙ ap (λ one. Some one) (sym (same_id one id torn)))
    by false false (Some one) e torn = cc

own_torn : (books : Books) (i count : ℕ) (client : Client) (purpose : Purpose) (success : Bool) (id : List ℕ) → IsJoined books i client count → is_id (torn_by (kind_for (books.pair_of i) client.sessions purpose) success) id ≡ true → books.holder id ≡ Some i
own_torn books i count client (purposes.Client asked (Some track)) success id joined torn = cc
own_torn books i count client (purposes.Client asked None) success id joined torn = grind (arith, torn_place)
own_torn books i count client (purposes.Released play) success id joined torn = cc
own_torn books i count client (purposes.Closing place) success id joined torn = torn_place books i count client true success (Some place) id joined torn

-- The connection that asked, and the final reply, as they are then.
abbrev pub IsAnswered : Books → ℕ → ℕ → Option Final → Hearing → Type 0
IsAnswered books i count final heard = IsJoined (settles final books) i heard.effect.client count × IfSome final (λ one. IsFinal books one × (one.conn ≡ i))

pub answered : (bases : Bases) (books : Books) (i count : ℕ) (client : Client) (reply : Reply2) (opened : Opened) (ssrc : Option ℕ) → IsJoined books i client count → books.opened reply.cseq ≡ Some opened → opened.conn ≡ i
    → kind_breach books opened.kind (session_asked client.sessions client.pending) reply ≡ None → IsAnswered books i count (final_of reply (Some opened)) (take_answer bases count (told_by reply) ssrc client)
answered bases books i count client reply opened ssrc joined here conn right = early_or (nat_lt reply.code 200)
  where
    last : (reply.cseq ≡ books.number_of i count) × IsSome client.pending
    last = joined.last reply.cseq opened here conn

    at_purpose : (purpose : Purpose) → client.pending ≡ Some purpose → IsOpenFor books i (books.number_of i count) client.sessions (Some purpose)
        → IsAnswered books i count (Some (record { number = reply.cseq; conn = opened.conn; kind = opened.kind; success = is_success reply.code; id = id_said reply })) (settled bases count purpose (told_by reply) ssrc client)
    at_purpose purpose e now =
        let both : Some opened ≡ Some (opened_for books i client.sessions purpose) = sym here ∙ ap books.opened last.0 ∙ now.0 in
        let same : opened ≡ opened_for books i client.sessions purpose = cc in
        subst (λ (one : Opened). IsAnswered books i count (Some (record { number = reply.cseq; conn = one.conn; kind = one.kind; success = is_success reply.code; id = id_said reply })) (settled bases count purpose (told_by reply) ssrc client)) (sym same)
        (subst (λ (number : ℕ). IsAnswered books i count (Some (record { number = number; conn = i; kind = kind_for (books.pair_of i) client.sessions purpose; success = is_success reply.code; id = id_said reply })) (settled bases count purpose (told_by reply) ssrc client)) (sym last.0)
        (grind (arith, own_settled, held_kind, own_torn, now.0, now.1, (said_for books i count client purpose reply joined e now.1 (subst (λ (one : Opened). kind_breach books one.kind (session_asked client.sessions client.pending) reply ≡ None) same right)))))

    none_some : (pending : Option Purpose) → pending ≡ None → IsSome pending → ⊥
    none_some pending e h = grind arith

    at_pending : (pending : Option Purpose) → client.pending ≡ pending → IsOpenFor books i (books.number_of i count) client.sessions pending
        → IsAnswered books i count (Some (record { number = reply.cseq; conn = opened.conn; kind = opened.kind; success = is_success reply.code; id = id_said reply })) (settle_at bases count pending (told_by reply) ssrc client)
    at_pending pending e now = grind (arith, none_some, last, at_purpose)

    early_or : (early : Bool)
        → IsAnswered books i count (cond early None (Some (record { number = reply.cseq; conn = opened.conn; kind = opened.kind; success = is_success reply.code; id = id_said reply })))
        (cond early (idles client) (settle_at bases count client.pending (told_by reply) ssrc client))
    early_or true = (joined, tt)
    early_or false = at_pending client.pending refl joined.pending
