-- What is planned for an event of a player is what it does.
use Rattle.std.proofs.Common.{◌≡◌, ◌∙◌, ℕ, ◌+◌, ◌≤◌, ◌==◌, nat_lt, not, Bool, true, false, cond, List, Option, Some, None, IsSome, refl, sym, ap, subst, arith}
use Rattle.std.specs.Prelude.{is_some}
use Rattle.std.specs.Option.{option_map}
use Rattle.std.proofs.lemmas.Bool.{eqb-true}
use Rattle.std.proofs.Math.Logic.{∥∥₁_elim}
use Rattle.std.proofs.Props.{props}
use Rattle.rtsp_head.specs.Items.{Shape}
use Rattle.rtsp_head.specs.declared.item.ItemKind.{ItemKind}
use Rattle.rtsp_head.specs.declared.item.ItemKind.TheVariants as kinds
use Rattle.rtsp_uri.specs.declared.base.Bases.{Bases}
use Rattle.up_books.specs.declared.cseq.TheConstants.{LAST_NUMBER}
use Rattle.up_books.specs.Numbers.{next_number}
use Rattle.client_slot.specs.declared.purpose.Purpose.{Purpose}
use Rattle.client_slot.specs.Places.{tracks_of}
use Rattle.client_slot.specs.Client.{Client}
use Rattle.client_machine.specs.declared.parts.PlannedStep.{PlannedStep}
use Rattle.client_machine.specs.declared.why.CloseWhy.{CloseWhy}
use Rattle.client_machine.specs.declared.why.CloseWhy.TheVariants.{BadItem}
use Rattle.client_machine.specs.OpenRequests.{AsksBy}
use Rattle.client_machine.specs.Events.{Outgoing, asks, carries, Effect, arrive, end, slow}
use Rattle.client_machine.specs.Frames.{channel_in, behind_channel, Half, half_for, half_of}
use Rattle.client_machine.specs.declared.frames.StreamHalf.{StreamHalf}
use Rattle.client_machine.specs.Step.{idles, carry, take_item, take, closes, hear, heard_step}
use Rattle.client_machine.specs.Plans.{Comes, requests, shuts, heard_by, effect_by, IsPlan}
use Rattle.gateway_claim.specs.declared.event.UpCause.{UpCause}
use Rattle.gateway_claim.specs.declared.event.UpCause.TheVariants.{CseqSpent}
use Rattle.gateway_claim.specs.Happenings.{Happening, enters, takes, ends, lags, hears, up_ends}
use Rattle.gateway_claim.specs.OwnEvents.{settled_by}
use Rattle.gateway_claim.specs.Books.{free_in}
use Rattle.gateway_claim.specs.Follows.{spent}
use Rattle.gateway_claim.specs.Turns.{number_heard}
use Rattle.gateway_mux.specs.declared.turn_facts.TurnFacts.{TurnFacts}
use Rattle.gateway_mux.specs.declared.turn.PlannedTurn.{PlannedTurn}
use Rattle.gateway_mux.specs.Acts.{IsPlannedTurn, IsSaid, IsClosing, IsBadKind, IsAct, answers_alone}
use Rattle.gateway_mux.specs.Moves.{wrong_in, step_in, IsIdleAt, IsIdleTurn, IsIdle, IsEndAt}
use Rattle.gateway_mux.specs.Pictures.{Picture, books_in, IsKept}
use Rattle.gateway_mux.specs.Turn.{free_once}
use Rattle.gateway_mux.proofs.SettlementLemmas.{IsSettledTurn, settled_free}
use Rattle.gateway_mux.proofs.AfterTurnLemmas.{effect_asks}

-- An item of a connection that hears nothing in it.
idle_item : (bases : Bases) (one : Picture) (conn : ℕ) (shape : Shape) → ((client : Client) → one.clients conn ≡ Some client → take client.alive shape client ≡ idles client) → IsIdle bases one (takes conn shape) None
idle_item bases one conn shape idle = record { answers = refl; said = refl; settles = refl; idle = by (one.clients conn) refl }
  where
    by : (client : Option Client) → one.clients conn ≡ client → IsIdleAt bases one (takes conn shape) client
    by None e = tt
    by (Some client) e = record { raw = arrive shape false; is_raw = refl; idle = idle client e }

some_same : (a b : Client) → Some a ≡ Some b → b ≡ a
some_same a b e = cc

pub idle_dead : (bases : Bases) (one : Picture) (conn : ℕ) (shape : Shape) (client : Client) → one.clients conn ≡ Some client → client.alive ≡ false → IsIdle bases one (takes conn shape) None
idle_dead bases one conn shape client here dead =
    idle_item bases one conn shape (λ other there. ap (λ t. take t shape other) (ap (λ (c : Client). c.alive) (some_same client other (sym here ∙ there)) ∙ dead))

pub idle_no_half : (bases : Bases) (one : Picture) (conn : ℕ) (shape : Shape) (client : Client) → one.clients conn ≡ Some client → client.alive ≡ true → shape.kind ≡ kinds.Frame
    → half_for (channel_in shape) (tracks_of client.sessions) ≡ None → IsIdle bases one (takes conn shape) None
idle_no_half bases one conn shape client here alive kind none = idle_item bases one conn shape by
  where
    by : (other : Client) → one.clients conn ≡ Some other → take other.alive shape other ≡ idles other
    by other there =
        let same : other ≡ client = some_same client other (sym here ∙ there) in
        ap (λ t. take t shape other) (ap (λ (c : Client). c.alive) same ∙ alive)
        ∙ ap (λ k. take_item k shape other) kind
        ∙ ap (λ (half : Option Half). carry half (behind_channel shape) other) (ap (λ (c : Client). half_for (channel_in shape) (tracks_of c.sessions)) same ∙ none)

pub idle_response : (bases : Bases) (one : Picture) (conn : ℕ) (shape : Shape) → shape.kind ≡ kinds.Response → IsIdle bases one (takes conn shape) None
idle_response bases one conn shape kind = idle_item bases one conn shape (λ client here. by client client.alive)
  where
    by : (client : Client) (alive : Bool) → take alive shape client ≡ idles client
    by client true = ap (λ k. take_item k shape client) kind
    by client false = refl

-- A request comes to a connection.
pub request_said : (bases : Bases) (one : Picture) (conn : ℕ) (shape : Shape) → shape.kind ≡ kinds.Request → IsSaid bases one (takes conn shape) (record { conn = conn; number = 0; settled = None; answer = None }) (requests shape)
request_said bases one conn shape kind = record {
  raw = arrive shape false;
  turns = refl;
  is_raw = refl;
  right = refl;
  answers = refl;
  is_sound = kind;
  says = λ client. refl;
  settles = λ client here. tt;
  absent = λ none. refl;
}

-- A close comes to it.
bad_closes : (kind : ItemKind) (shape : Shape) (client : Client) → IsBadKind kind → take_item kind shape client ≡ closes true BadItem client
bad_closes kinds.Request shape client is_bad = absurd is_bad
bad_closes kinds.Response shape client is_bad = absurd is_bad
bad_closes kinds.Frame shape client is_bad = absurd is_bad
bad_closes (kinds.Bad kind) shape client is_bad = refl

bad_takes : (alive : Bool) (shape : Shape) (client : Client) → IsBadKind shape.kind → closes alive BadItem client ≡ take alive shape client
bad_takes true shape client is_bad = sym (bad_closes shape.kind shape client is_bad)
bad_takes false shape client is_bad = refl

pub closing_said : (bases : Bases) (one : Picture) (conn : ℕ) (why : CloseWhy) (h : Happening) → IsClosing conn why h → IsSaid bases one h (record { conn = conn; number = 0; settled = None; answer = None }) (shuts why)
closing_said bases one conn why (enters i) closing = absurd closing
closing_said bases one conn why (takes i shape) closing = record {
  raw = arrive shape false;
  turns = ap (λ n. Some n) closing.0;
  is_raw = refl;
  right = refl;
  answers = refl;
  is_sound = tt;
  says = λ client. ap (λ one_why. closes client.alive one_why client) closing.1 ∙ bad_takes client.alive shape client closing.2;
  settles = λ client here. tt;
  absent = λ none. refl;
}
closing_said bases one conn why (ends i) closing = record {
  raw = end;
  turns = ap (λ n. Some n) closing.0;
  is_raw = refl;
  right = refl;
  answers = refl;
  is_sound = tt;
  says = λ client. ap (λ one_why. closes client.alive one_why client) closing.1;
  settles = λ client here. tt;
  absent = λ none. refl;
}
closing_said bases one conn why (lags i) closing = record {
  raw = slow;
  turns = ap (λ n. Some n) closing.0;
  is_raw = refl;
  right = refl;
  answers = refl;
  is_sound = tt;
  says = λ client. ap (λ one_why. closes client.alive one_why client) closing.1;
  settles = λ client here. tt;
  absent = λ none. refl;
}
closing_said bases one conn why (hears shape) closing = absurd closing
closing_said bases one conn why (up_ends cause) closing = absurd closing

-- The turn of a connection that never entered.
pub absent_act : (bases : Bases) (one : Picture) (h : Happening) (it : TurnFacts) (comes : Comes) → IsSaid bases one h it comes → one.clients it.conn ≡ None → IsAct bases one h (answers_alone it.answer)
absent_act bases one h it comes said none = by it.answer idle
  where
    idle : IsIdle bases one h it.answer
    idle = record {
      answers = said.answers;
      said = said.right;
      settles = said.absent none;
      idle = subst (λ (who : Option ℕ). IsIdleTurn bases one h who) (sym said.turns) (subst (λ (client : Option Client). IsIdleAt bases one h client) (sym none) tt);
    }

    by : (answer : Option (List ℕ)) → IsIdle bases one h answer → IsAct bases one h (answers_alone answer)
    by None idle = idle
    by (Some answer) idle = idle

-- The lowest pair that is free once that is settled is what the books have.
pub free_kept : (bases : Bases) (one : Picture) (a b : ℕ) (h : Happening) (it : TurnFacts) (comes : Comes) (client : Client) → ∥ IsKept bases one a b ∥₁ → IsSaid bases one h it comes → one.clients it.conn ≡ Some client
    → free_once it.settled one.held ≡ free_in (settled_by (books_in one) h)
free_kept bases one a b h it comes client merely said here =
    let at : IsSettledTurn one h it.conn client it.settled = record { turns = said.turns; here = here; said = said.right; settles = said.settles client here } in
    ∥∥₁_elim merely (Prim.hlevel props) (λ keeps. settled_free bases one keeps.history h it.conn client it.settled keeps.is_of at)

-- What the machine does at the turn of a connection.
effect_said : (bases : Bases) (one : Picture) (h : Happening) (it : TurnFacts) (comes : Comes) (client : Client) → (said : IsSaid bases one h it comes) → one.clients it.conn ≡ Some client → free_once it.settled one.held ≡ free_in (settled_by (books_in one) h)
    → effect_by bases it.number (free_once it.settled one.held) client comes ≡ step_in bases one h client said.raw
effect_said bases one h it comes client said here free =
    ap (λ heard. heard_step bases (free_once it.settled one.held) heard) (said.says client)
    ∙ ap (λ pair. heard_step bases pair (hear bases (number_heard h) client said.raw)) free

-- The numbers are spent, or one is left.
spent_at : (issued : ℕ) (free : Option ℕ) (old pending : Option Purpose) (message : Option Outgoing) → AsksBy free old message pending → is_some message ≡ true → next_number issued ≡ None → spent issued message ≡ Some CseqSpent
spent_at issued free old pending None by_it some none = cc
spent_at issued free old pending (Some (asks request named)) by_it some none = by (issued == LAST_NUMBER) refl none
  where
    by : (t : Bool) → (issued == LAST_NUMBER) ≡ t → cond t None (Some (issued + 1)) ≡ None → spent issued (Some (asks request named)) ≡ Some CseqSpent
    by true e none = ap (λ n. spent n (Some (asks request named))) (eqb-true issued LAST_NUMBER e)
    by false e none = cc
spent_at issued free old pending (Some (carries pair half rest)) by_it some none = absurd by_it

left_at : (issued : ℕ) (message : Option Outgoing) → issued ≤ LAST_NUMBER → (is_some message ≡ true → IsSome (next_number issued)) → spent issued message ≡ None
left_at issued None low left = refl
left_at issued (Some (asks request named)) low left = by (issued == LAST_NUMBER) refl (left refl)
  where
    by : (t : Bool) → (issued == LAST_NUMBER) ≡ t → IsSome (cond t None (Some (issued + 1))) → spent issued (Some (asks request named)) ≡ None
    by true e some = cc
    by false e some = ap (λ t. cond t None (Some CseqSpent)) (less issued low e)
      where
        less : (issued : ℕ) → issued ≤ 999999999 → (issued == 999999999) ≡ false → nat_lt issued 999999999 ≡ true
        less issued low e = grind arith
left_at issued (Some (carries pair half rest)) low left = refl

pub spent_act : (bases : Bases) (one : Picture) (a b : ℕ) (h : Happening) (it : TurnFacts) (comes : Comes) (client : Client) (plan : PlannedStep) (goes : Bool) → ∥ IsKept bases one a b ∥₁ → IsSaid bases one h it comes → one.clients it.conn ≡ Some client
    → IsPlan bases (one.issued + 1) (free_once it.settled one.held) client comes plan → goes ≡ is_some (effect_by bases it.number (free_once it.settled one.held) client comes).message → goes ≡ true → next_number one.issued ≡ None → IsEndAt bases one h (wrong_in one h) CseqSpent
spent_act bases one a b h it comes client plan goes keeps said here planned is up none =
    let free = free_kept bases one a b h it comes client keeps said here in
    subst (λ (wrong : Option UpCause). IsEndAt bases one h wrong CseqSpent) (sym said.right)
    (record {
      i = it.conn;
      client = client;
      raw = said.raw;
      turns = said.turns;
      here = here;
      is_raw = said.is_raw;
      said = said.right;
      spends = ap (λ (effect : Effect). spent one.issued effect.message) (sym (effect_said bases one h it comes client said here free))
          ∙ spent_at one.issued (free_once it.settled one.held) (heard_by bases it.number client comes).effect.client.pending (effect_by bases it.number (free_once it.settled one.held) client comes).client.pending
          (effect_by bases it.number (free_once it.settled one.held) client comes).message (effect_asks bases it.number (free_once it.settled one.held) client comes said.is_sound)
          (sym is ∙ up) none;
    })

pub turned_act : (bases : Bases) (one : Picture) (a b : ℕ) (h : Happening) (it : TurnFacts) (comes : Comes) (client : Client) (plan : PlannedStep) (goes : Bool) (key next : ℕ) → ∥ IsKept bases one a b ∥₁ → next ≡ one.issued + 1 → (said : IsSaid bases one h it comes) → one.clients it.conn ≡ Some client
    → IsPlan bases (one.issued + 1) (free_once it.settled one.held) client comes plan → goes ≡ is_some (effect_by bases it.number (free_once it.settled one.held) client comes).message → one.issued ≤ LAST_NUMBER → (goes ≡ true → IsSome (next_number one.issued))
    → IsPlannedTurn bases one h it.answer (record { conn = it.conn; key = key; number = it.number; next = next; settled = it.settled; plan = plan; asks = goes })
turned_act bases one a b h it comes client plan goes key next keeps is_next said here planned is low left = let free = free_kept bases one a b h it comes client keeps said here in record {
  client = client;
  raw = said.raw;
  comes = comes;
  its_turn = record {
    turns = said.turns;
    here = here;
    is_raw = said.is_raw;
    said = said.right;
    left = left_at one.issued (step_in bases one h client said.raw).message low (λ some. left (is ∙ ap (λ (effect : Effect). is_some effect.message) (effect_said bases one h it comes client said here free) ∙ some));
  };
  answers = said.answers;
  is_sound = said.is_sound;
  says = said.says client;
  next = is_next;
  settles = said.settles client here;
  plan = subst (λ (n : ℕ). IsPlan bases n (free_once it.settled one.held) client comes plan) (sym is_next) planned;
  asks = is;
}

-- The turn of a connection whose request is planned.
pub request_turn : (bases : Bases) (one : Picture) (a b conn key number : ℕ) (pair : Option ℕ) (shape : Shape) (client : Client) (plan : PlannedStep) (goes : Bool) (it : PlannedTurn) → ∥ IsKept bases one a b ∥₁ → shape.kind ≡ kinds.Request → one.clients conn ≡ Some client → number ≡ one.issued → pair ≡ free_once None one.held
    → IsPlan bases (number + 1) pair client (requests shape) plan → ((next : ℕ) (free : Option ℕ) → IsPlan bases next free client (requests shape) plan → goes ≡ is_some (effect_by bases 0 free client (requests shape)).message)
    → one.issued ≤ LAST_NUMBER → (goes ≡ true → IsSome (next_number one.issued)) → it ≡ record { conn = conn; key = key; number = 0; next = number + 1; settled = None; plan = plan; asks = goes }
    → IsPlannedTurn bases one (takes conn shape) None it
request_turn bases one a b conn key number pair shape client plan goes it keeps kind here issued free planned is low left whole =
    let now : IsPlan bases (one.issued + 1) (free_once None one.held) client (requests shape) plan =
    subst (λ (n : ℕ). IsPlan bases (n + 1) (free_once None one.held) client (requests shape) plan) issued
    (subst (λ (lowest : Option ℕ). IsPlan bases (number + 1) lowest client (requests shape) plan) free planned) in
    subst (λ (turn : PlannedTurn). IsPlannedTurn bases one (takes conn shape) None turn) (sym whole)
    (turned_act bases one a b (takes conn shape) (record { conn = conn; number = 0; settled = None; answer = None }) (requests shape) client plan goes key (number + 1) keeps (ap (λ n. n + 1) issued)
    (request_said bases one conn shape kind) here now (is (one.issued + 1) (free_once None one.held) now) low left)

pub half_none : (result : Option StreamHalf) (half : Option Half) → option_map half_of result ≡ half → result ≡ None → half ≡ None
half_none result half is none = sym is ∙ ap (option_map half_of) none

-- No number is left, or one is.
pub none_left : (number next : Option ℕ) (is : Bool) → next ≡ number → is_some next ≡ not is → is ≡ true → number ≡ None
none_left None next is same told none = refl
none_left (Some n) next is same told none = absurd (true_false (ap is_some (sym same) ∙ told ∙ ap not none))
  where
    true_false : true ≡ false → ⊥
    true_false e = cc

pub one_left : (number next : Option ℕ) (is : Bool) → next ≡ number → is_some next ≡ not is → is ≡ false → IsSome number
one_left None next is same told none = absurd (false_true (ap is_some (sym same) ∙ told ∙ ap not none))
  where
    false_true : false ≡ true → ⊥
    false_true e = cc
one_left (Some n) next is same told none = refl

-- the connection of which alone is said that it has its turn
pub said_conn : (conn : ℕ) (client : Client) (one : Picture) (it : TurnFacts) → it ≡ record { conn = conn; number = 0; settled = None; answer = None } → one.clients conn ≡ Some client → one.clients it.conn ≡ Some client
said_conn conn client one it is here = ap (λ (said : TurnFacts). one.clients said.conn) is ∙ here
