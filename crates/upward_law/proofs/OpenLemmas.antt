-- A request that the server is handed is the one that its connection has open then, the books have it so, and each of its headers
-- stands once.
use Rattle.std.proofs.Common.{◌≡◌, ◌∙◌, ℕ, suc, ◌+◌, ◌<◌, ◌^◌, ◌==◌, ◌&&◌, nat_lt, Bool, true, false, cond, List, [], ◌∷◌, ◌++◌, length, take, Option, Some, None, refl, sym, ap, subst, unwrap_or, arith}
use Rattle.std.specs.Prelude.{codes, is_some}
use Rattle.std.specs.Option.{option_and_then}
use Rattle.std.specs.Str.{bytes_eq}
use Rattle.std.proofs.lemmas.Bool.{eq-eqb, ltb-true}
use Rattle.gate_bytes.specs.Ascii.{space}
use Rattle.rtsp_head.specs.HeadParts as heads
use Rattle.rtsp_head.specs.Headers.{field_of}
use Rattle.rtsp_head.specs.Starts.{is_unspaced}
use Rattle.rtsp_small.specs.Methods.{method_name}
use Rattle.rtsp_small.specs.declared.cseq.TheConstants.{CSEQ_TWO_DIGITS}
use Rattle.rtsp_small.specs.declared.method.Method.TheVariants as methods
use Rattle.rtsp_uri.specs.declared.base.Bases.{Bases}
use Rattle.head_two.specs.declared.request.Request2.{Request2}
use Rattle.head_two.specs.Messages.{version_two}
use Rattle.head_two.specs.Requests.{request_text, Numbered, IsRequest}
use Rattle.head_two.proofs.ReadLemmas.{request_read, request_readable}
use Rattle.client_slot.specs.declared.purpose.Purpose.{Purpose}
use Rattle.client_machine.specs.Alone.{Private, effect_alone}
use Rattle.client_machine.specs.Events.{Effect, Outgoing, asks, carries, PrivateEvent}
use Rattle.client_machine.specs.UpTexts.{over_pair}
use Rattle.gateway_claim.specs.declared.event.ToUp.{ToUp}
use Rattle.gateway_claim.specs.declared.event.UpCause.{UpCause}
use Rattle.gateway_claim.specs.declared.event.UpMessage.{UpMessage}
use Rattle.gateway_claim.specs.declared.event.UpMessage.TheVariants.{Request}
use Rattle.gateway_claim.specs.Books.{Books, RequestKind, is_teardown_text, id_in_text, setup_kind, teardown_kind, plain, kind_of_text, kind_of, pair_asked, lends, free_in}
use Rattle.gateway_claim.specs.Follows.{said_breach, spent, effect_of_turn, effect, message_due, up_due, Follows, IsHistory}
use Rattle.gateway_claim.specs.Happenings.{Happening, HistoryEntry, fault_in, entered, nothing_up}
use Rattle.gateway_claim.specs.OwnEvents.{turn, final_in, settled_by, lends_where, has_shut, books_of, own}
use Rattle.gateway_claim.specs.Turns.{client_alone}
use Rattle.gateway_claim.proofs.AgreeLemmas.{alone, joined, IsStep, IsTurnStep, step_is, turn_step, effect_absent, effect_present, said_right, books_with, books_next, alone_next, alone_with, event_for, event_present}
use Rattle.gateway_claim.proofs.CaseLemmas.{own_event, both_none, not_over}
use Rattle.upward_law.specs.Due.{IsItemTaken}
use Rattle.upward_law.specs.HeaderNames.{HasEachHeaderOnce}
use Rattle.upward_law.specs.OpenRequest.{kind_read, IsOpenRequest}
use Rattle.upward_law.proofs.EntryLemmas.{left_for, who_sound}
use Rattle.upward_law.proofs.NameLemmas.{message_once, paired_differs}
use Rattle.upward_law.proofs.PurposeLemmas.{MeantBy, step_for}
use Rattle.upward_law.proofs.SoundLemmas.{IsSoundUp}
use Rattle.upward_law.proofs.WordLemmas.{method_unspaced, spaced, method_first}

-- The kind that a text tells is that of the request that is read.
begins_with : (word : List ℕ) (number : ℕ) (request : Request2) → is_unspaced word ≡ true → is_unspaced request.method ≡ true → bytes_eq (take (suc (length word)) (request_text number request)) (word ++ (space ∷ [])) ≡ bytes_eq request.method word
begins_with word number request none other =
    let (rest, is) = method_first number request in
    ap (λ (text : List ℕ). bytes_eq (take (suc (length word)) text) (word ++ (space ∷ []))) is ∙ spaced word request.method rest none other

kind_told : (number : ℕ) (request : Request2) (pair : Option ℕ) (shut : Bool) → IsRequest number request → kind_of_text (request_text number request) pair shut ≡ kind_read request pair shut
kind_told number request pair shut is =
    let other : is_unspaced request.method ≡ true = method_unspaced request.method request.uri is.writable.start in
    let text = request_text number request in
    ap (λ t. cond t (setup_kind pair) (cond (is_teardown_text text) (teardown_kind shut (id_in_text text)) plain)) (begins_with (codes "SETUP") number request refl other)
    ∙ ap (λ t. cond (bytes_eq request.method (codes "SETUP")) (setup_kind pair) (cond t (teardown_kind shut (id_in_text text)) plain)) (begins_with (codes "TEARDOWN") number request refl other)
    ∙ ap (λ (id : Option (List ℕ)). cond (bytes_eq request.method (codes "SETUP")) (setup_kind pair) (cond (bytes_eq request.method (codes "TEARDOWN")) (teardown_kind shut id) plain))
    (ap (option_and_then (λ (one : Numbered). field_of one.request.headers (codes "Session"))) (request_read number request is))

-- What the books have of the last request.
lent_pair : (books : Books) (i count : ℕ) (kind : RequestKind) (p : ℕ) → count ≡ books.counts i → pair_asked kind ≡ Some p → (lends i kind books).pair_of i (count + 1) ≡ p
lent_pair books i count kind p counted asked =
    let here : (i == i && (count + 1 == books.counts i + 1)) ≡ true = ap (λ t. t && (count + 1 == books.counts i + 1)) (eq-eqb i i refl) ∙ eq-eqb (count + 1) (books.counts i + 1) (ap (λ n. n + 1) counted) in
    ap (λ t. cond t (unwrap_or (pair_asked kind) (books.pair_of i (count + 1))) (books.pair_of i (count + 1))) here ∙ ap (λ (one : Option ℕ). unwrap_or one (books.pair_of i (count + 1))) asked

lent_open : (books : Books) (i : ℕ) (kind : RequestKind) → (lends i kind books).opened (books.issued + 1) ≡ Some (record { conn = i; kind = kind })
lent_open books i kind = ap (λ t. cond t (Some (record { conn = i; kind = kind })) (books.opened (books.issued + 1))) (eq-eqb (books.issued + 1) (books.issued + 1) refl)

setup_pair : (request : Request2) (free : Option ℕ) (shut : Bool) (p : ℕ) → free ≡ Some p → request.method ≡ method_name methods.Setup → pair_asked (kind_read request free shut) ≡ Some p
setup_pair request free shut p is setup =
    ap (λ (method : List ℕ). pair_asked (kind_read (record request { method = method }) free shut)) setup
    ∙ ap (λ (one : Option ℕ). pair_asked (setup_kind one)) is

-- The connection whose turn it is, once a request went up.
pub turn_for : (bases : Bases) (T : List HistoryEntry) (e : HistoryEntry) (i : ℕ) (pairs : ℕ → ℕ) → IsHistory bases T → fault_in (e ∷ T) ≡ None → turn (books_of T) e.happening ≡ Some i → said_breach bases T e.happening ≡ None
    → MeantBy (free_in (settled_by (books_of T) e.happening)) ((alone bases T i).count + 1) pairs (client_alone bases (e ∷ T) i).sessions (effect_of_turn bases T (Some i) e.happening).message (client_alone bases (e ∷ T) i).pending
turn_for bases T e i pairs history standing turns said = by (entered i T) (own_event bases T i h) refl refl
  where
    h : Happening
    h = e.happening

    p : Private
    p = alone bases T i

    free : Option ℕ
    free = free_in (settled_by (books_of T) h)

    stood : fault_in T ≡ None
    stood = (both_none (fault_in T) e.outcome.fault standing).0

    silent : (message : Option Outgoing) → message ≡ None → MeantBy free (p.count + 1) pairs (client_alone bases (e ∷ T) i).sessions message (client_alone bases (e ∷ T) i).pending
    silent message none = subst (λ (one : Option Outgoing). MeantBy free (p.count + 1) pairs (client_alone bases (e ∷ T) i).sessions one (client_alone bases (e ∷ T) i).pending) (sym none) tt

    by : (en : Bool) (event : Option PrivateEvent) → entered i T ≡ en → own_event bases T i h ≡ event
        → MeantBy free (p.count + 1) pairs (client_alone bases (e ∷ T) i).sessions (effect_of_turn bases T (Some i) h).message (client_alone bases (e ∷ T) i).pending
    by false event en is = silent (effect_of_turn bases T (Some i) h).message (effect_absent bases T h i en)
    by true None en is = silent (effect_of_turn bases T (Some i) h).message (ap (λ (done : Effect). done.message) (effect_present bases T h i None en is))
    by true (Some event) en is =
        let made : IsStep bases (books_of T) (final_in (books_of T) h) i p event =
        subst (λ (one : Option PrivateEvent). IsTurnStep bases (books_of T) i p one (final_in (books_of T) h)) is (turn_step bases T i h ((joined bases T history stood).1 i) en turns said) in
        let same : alone bases (e ∷ T) i ≡ alone_with bases (own bases i T) (Some event) =
        alone_next bases T e i standing ∙ ap (alone_with bases (own bases i T)) (ap (λ who. event_for bases T h who i) turns ∙ event_present bases T h i event en is) in
        subst (λ (done : Effect). MeantBy free (p.count + 1) pairs (client_alone bases (e ∷ T) i).sessions done.message (client_alone bases (e ∷ T) i).pending) (sym (effect_present bases T h i (Some event) en is))
        (subst (λ (one : Private). MeantBy free (p.count + 1) pairs one.client.sessions (effect_alone bases p event).message one.client.pending) (sym same)
        (subst (λ (done : Effect). MeantBy free (p.count + 1) pairs done.client.sessions done.message done.client.pending) (sym (step_is bases (books_of T) (final_in (books_of T) h) i p event (not_over bases T stood i) made))
        (step_for bases p.count free (p.count + 1) pairs p.client event)))

-- the books then
books_asked : (bases : Bases) (T : List HistoryEntry) (e : HistoryEntry) (i : ℕ) (text : List ℕ) → Follows bases T e → fault_in (e ∷ T) ≡ None → turn (books_of T) e.happening ≡ Some i
    → message_due (books_of T) (settled_by (books_of T) e.happening) (Some i) (effect_of_turn bases T (Some i) e.happening).message ≡ Some (Request text)
    → books_of (e ∷ T) ≡ lends i (kind_of_text text (free_in (settled_by (books_of T) e.happening)) (has_shut (Some i) (e ∷ T))) (settled_by (books_of T) e.happening)
books_asked bases T e i text follows standing turns is =
    books_next bases T e follows standing
    ∙ ap (λ (who : Option ℕ). books_with (books_of T) e.happening who (effect_of_turn bases T who e.happening).message (has_shut who (e ∷ T))) turns
    ∙ ap (λ (one : Option UpMessage). lends_where (Some i) (kind_of one (free_in (settled_by (books_of T) e.happening)) (has_shut (Some i) (e ∷ T))) (settled_by (books_of T) e.happening)) is

-- A request that goes up is the open one, and each of its headers stands once.
record IsAskedSo (bases : Bases) (T : List HistoryEntry) (e : HistoryEntry) (text : List ℕ) : Type 0 where
  opens : IsOpenRequest bases T e text
  once : HasEachHeaderOnce text

-- By what is open.
asked_open : (bases : Bases) (T : List HistoryEntry) (e : HistoryEntry) (i : ℕ) (request : Request2) (named : Option ℕ) → IsHistory bases T → Follows bases T e → fault_in (e ∷ T) ≡ None → turn (books_of T) e.happening ≡ Some i
    → (effect_of_turn bases T (Some i) e.happening).message ≡ Some (asks request named)
    → IsAskedSo bases T e (request_text ((books_of T).issued + 1) (over_pair named (free_in (settled_by (books_of T) e.happening)) request))
asked_open bases T e i request named history follows standing turns is = by (client_alone bases (e ∷ T) i).pending refl meant
  where
    h : Happening
    h = e.happening

    settled : Books
    settled = settled_by (books_of T) h

    free : Option ℕ
    free = free_in settled

    shut : Bool
    shut = has_shut (Some i) (e ∷ T)

    number : ℕ
    number = (books_of T).issued + 1

    up : Request2
    up = over_pair named free request

    stood : fault_in T ≡ None
    stood = (both_none (fault_in T) e.outcome.fault standing).0

    made : (effect bases T h).message ≡ Some (asks request named)
    made = ap (λ (who : Option ℕ). (effect_of_turn bases T who h).message) turns ∙ is

    short : number < 10 ^ CSEQ_TWO_DIGITS
    short = numbered (books_of T).issued request named (ap (spent (books_of T).issued) (sym made) ∙ left_for bases T e follows standing)
      where
        numbered : (issued : ℕ) (request : Request2) (named : Option ℕ) → spent issued (Some (asks request named)) ≡ None → issued + 1 < 10 ^ CSEQ_TWO_DIGITS
        numbered issued request named left = grind (arith, nat_lt, ltb-true)

    sound : IsRequest number up
    sound = subst (IsSoundUp (IsItemTaken h) free) made (who_sound bases T h (turn (books_of T) h) history stood refl (said_right bases T e follows standing)) number short

    lent : books_of (e ∷ T) ≡ lends i (kind_of_text (request_text number up) free shut) settled
    lent = books_asked bases T e i (request_text number up) follows standing turns (ap (message_due (books_of T) settled (Some i)) is)

    right : (p : ℕ) → free ≡ Some p → up.method ≡ method_name methods.Setup → (books_of (e ∷ T)).pair_of i ((alone bases T i).count + 1) ≡ p
    right p found setup =
        ap (λ (books : Books). books.pair_of i ((alone bases T i).count + 1)) lent
        ∙ lent_pair settled i (alone bases T i).count (kind_of_text (request_text number up) free shut) p ((joined bases T history stood).1 i).counted
        (ap pair_asked (kind_told number up free shut sound) ∙ setup_pair up free shut p found setup)

    meant : MeantBy free ((alone bases T i).count + 1) ((books_of (e ∷ T)).pair_of i) (client_alone bases (e ∷ T) i).sessions (Some (asks request named)) (client_alone bases (e ∷ T) i).pending
    meant = subst (λ (message : Option Outgoing). MeantBy free ((alone bases T i).count + 1) ((books_of (e ∷ T)).pair_of i) (client_alone bases (e ∷ T) i).sessions message (client_alone bases (e ∷ T) i).pending) is
        (turn_for bases T e i ((books_of (e ∷ T)).pair_of i) history standing turns (said_right bases T e follows standing))

    by : (pending : Option Purpose) → (client_alone bases (e ∷ T) i).pending ≡ pending → MeantBy free ((alone bases T i).count + 1) ((books_of (e ∷ T)).pair_of i) (client_alone bases (e ∷ T) i).sessions (Some (asks request named)) pending
        → IsAskedSo bases T e (request_text number up)
    by None here meant = absurd meant
    by (Some purpose) here meant = record {
      opens = record {
        asked = record { number = number; request = up };
        read = request_read number up sound;
        number = sym (ap (λ (books : Books). books.issued) lent);
        conn = i;
        turns = turns;
        opened = ap (λ (books : Books). books.opened number) lent
            ∙ lent_open settled i (kind_of_text (request_text number up) free shut)
            ∙ ap (λ (kind : RequestKind). Some (record { conn = i; kind = kind })) (kind_told number up free shut sound);
        purpose = purpose;
        is_open = here;
        says = meant.1 right;
      };
      once = message_once (heads.Request up.method up.uri version_two) number up.headers up.body (request_readable number up sound) (paired_differs named free request meant.0);
    }

-- by the message
message_open : (bases : Bases) (T : List HistoryEntry) (e : HistoryEntry) (i : ℕ) (text : List ℕ) (message : Option Outgoing) → IsHistory bases T → Follows bases T e → fault_in (e ∷ T) ≡ None → turn (books_of T) e.happening ≡ Some i
    → (effect_of_turn bases T (Some i) e.happening).message ≡ message → message_due (books_of T) (settled_by (books_of T) e.happening) (Some i) message ≡ Some (Request text) → IsAskedSo bases T e text
message_open bases T e i text None history follows standing turns is due = cc
message_open bases T e i text (Some (carries pair half rest)) history follows standing turns is due = cc
message_open bases T e i text (Some (asks request named)) history follows standing turns is due =
    let same : request_text ((books_of T).issued + 1) (over_pair named (free_in (settled_by (books_of T) e.happening)) request) ≡ text = cc in
    subst (λ (one : List ℕ). IsAskedSo bases T e one) same (asked_open bases T e i request named history follows standing turns is)

-- by whose turn it is, and by whether the connection to the server stands
who_open : (bases : Bases) (T : List HistoryEntry) (e : HistoryEntry) (text : List ℕ) (who : Option ℕ) → IsHistory bases T → Follows bases T e → fault_in (e ∷ T) ≡ None → turn (books_of T) e.happening ≡ who
    → message_due (books_of T) (settled_by (books_of T) e.happening) who (effect_of_turn bases T who e.happening).message ≡ Some (Request text) → IsAskedSo bases T e text
who_open bases T e text None history follows standing turns due = cc
who_open bases T e text (Some i) history follows standing turns due = message_open bases T e i text (effect_of_turn bases T (Some i) e.happening).message history follows standing turns refl due

entry_open : (bases : Bases) (T : List HistoryEntry) (e : HistoryEntry) (text : List ℕ) (fault : Option UpCause) → IsHistory bases T → Follows bases T e → fault_in (e ∷ T) ≡ fault
    → (cond (is_some fault) nothing_up (up_due bases T e.happening)).message ≡ Some (Request text) → IsAskedSo bases T e text
entry_open bases T e text (Some cause) history follows is due = cc
entry_open bases T e text None history follows is due = who_open bases T e text (turn (books_of T) e.happening) history follows is refl due

request_asked : (bases : Bases) (T : List HistoryEntry) (e : HistoryEntry) (text : List ℕ) → IsHistory bases T → Follows bases T e → e.outcome.to_up.message ≡ Some (Request text) → IsAskedSo bases T e text
request_asked bases T e text history follows due = entry_open bases T e text (fault_in (e ∷ T)) history follows refl (ap (λ (up : ToUp). up.message) (sym follows.spelled) ∙ due)

pub open_request : (bases : Bases) (T : List HistoryEntry) (e : HistoryEntry) (text : List ℕ) → IsHistory bases T → Follows bases T e → e.outcome.to_up.message ≡ Some (Request text) → IsOpenRequest bases T e text
open_request bases T e text history follows due = (request_asked bases T e text history follows due).opens

pub request_once : (bases : Bases) (T : List HistoryEntry) (e : HistoryEntry) (text : List ℕ) → IsHistory bases T → Follows bases T e → e.outcome.to_up.message ≡ Some (Request text) → HasEachHeaderOnce text
request_once bases T e text history follows due = (request_asked bases T e text history follows due).once
