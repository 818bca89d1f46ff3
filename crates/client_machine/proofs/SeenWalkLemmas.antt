-- Walks of the table, and how replies in a row are read.
use Rattle.std.proofs.Common.{◌≡◌, ◌∙◌, ℕ, zero, suc, ◌+◌, ◌*◌, ◌≤◌, Bool, true, false, cond, List, [], ◌∷◌, ◌++◌, length, map, Option, Some, refl, sym, ap, subst, unwrap_or, arith}
use Rattle.std.specs.Prelude.{slice_index}
use Rattle.std.specs.Option.{option_and_then, option_map}
use Rattle.std.specs.List.{AllByRecursion, flat_map}
use Rattle.std.proofs.lemmas.Grind.{flat_map-append}
use Rattle.std.proofs.lemmas.List.Elements.{filter-append}
use Rattle.std.proofs.lemmas.List.{append_assoc, append-nil, length-append, drop_all, map-append}
use Rattle.rtsp_head.specs.Messages.{Front, first_message}
use Rattle.rtsp_head.specs.Items.{Shape}
use Rattle.rtsp_head.proofs.StreamLemmas.{front_read}
use Rattle.rtsp_small.specs.declared.method.Method.{Method}
use Rattle.head_one.specs.declared.reply.Reply1.{Reply1}
use Rattle.head_one.specs.Requests.{request_of_item}
use Rattle.translate_up.specs.Leads.{method_asked, number_asked, led_by}
use Rattle.head_one.specs.Replies.{reply_start, reply_text, reply_message, IsReply}
use Rattle.head_one.proofs.ReadLemmas.{reply_told}
use Rattle.session_one.specs.declared.table.State.{State}
use Rattle.session_one.specs.Table.{next_of, is_allowed}
use Rattle.client_machine.specs.Alone.{piece}
use Rattle.client_machine.specs.Frames.{frame_text}
use Rattle.client_machine.specs.SeenRun.{SeenStep, is_about, steps_about, may_become, IsWalk, TellNumbers, reply_before, replies_by, replies_in, and_replies, replies_handed}
use Rattle.client_machine.proofs.EachLemmas.{both_so, by_test}

-- A session can be in the state that it is in, and what it can be in from there.
pub may_self : (s : State) → may_become s s ≡ true
may_self s = grind arith

-- one walk after another
pub walk_more : (from mid to : State) (xs ys : List SeenStep) → IsWalk from xs mid → IsWalk mid ys to → IsWalk from (xs ++ ys) to
walk_more from mid to [] ys first second = subst (λ (s : State). IsWalk s ys to) first second
walk_more from mid to (x ∷ xs) ys first second = (first.0, first.1, walk_more first.0 mid to xs ys first.2 second)

about_more : (id : List ℕ) (xs ys : List SeenStep) → steps_about id (xs ++ ys) ≡ steps_about id xs ++ steps_about id ys
about_more id xs ys = filter-append (is_about id) xs ys

-- A walk for each id, from the states that the sessions had.
abbrev pub AreWalks : (List ℕ → State) → List SeenStep → (List ℕ → State) → Type 0
AreWalks from steps to = (id : List ℕ) → IsWalk (from id) (steps_about id steps) (to id)

pub walks_more : (from mid to : List ℕ → State) (xs ys : List SeenStep) → AreWalks from xs mid → AreWalks mid ys to → AreWalks from (xs ++ ys) to
walks_more from mid to xs ys first second id = grind (arith, about_more, walk_more)

-- the states after one step more
abbrev pub led_for : (List ℕ → State) → SeenStep → State → List ℕ → State
led_for from step to id = cond (is_about id step) to (from id)

-- What a success moves: the state of the walk by its row, and that of the session, which may have ended to play since.
pub record IsMoved (walked state : State) (method : Method) : Type 0 where
  pub next : State
  pub row : next_of walked method ≡ Some next
  pub became : may_become next (unwrap_or (next_of state method) state) ≡ true

pub moved : (walked state : State) (method : Method) → may_become walked state ≡ true → is_allowed walked method ≡ true → IsMoved walked state method
moved walked state method may allowed = grind arith

-- the text of the replies of steps, each of which can be read back
abbrev pub texts : List SeenStep → List ℕ
texts steps = flat_map (λ step. reply_text step.reply) steps

abbrev pub AreReplies : List SeenStep → Type 0
AreReplies steps = AllByRecursion (λ step. IsReply step.reply) steps

-- Steps that answer the first of some requests by these bytes, and walk from states to others. The other requests are left.
pub record IsWalked (at : List ℕ → State) (requests : List Shape) (text : List ℕ) (now : List ℕ → State) (left : List Shape) : Type 0 where
  pub steps : List SeenStep
  pub walks : AreWalks at steps now
  pub numbers : TellNumbers steps
  pub readable : AreReplies steps
  pub text_is : text ≡ texts steps
  pub requests_are : requests ≡ map (λ (step : SeenStep). step.request) steps ++ left

-- nothing is answered
abbrev pub none_walked : (at : List ℕ → State) (requests : List Shape) (text : List ℕ) → text ≡ [] → IsWalked at requests text at requests
none_walked at requests text none = record { steps = []; walks = λ id. refl; numbers = tt; readable = tt; text_is = none; requests_are = refl }

-- one request is
pub step_walked : (at : List ℕ → State) (step : SeenStep) (before to : State) (left : List Shape) (text : List ℕ) → ((id : List ℕ) → is_about id step ≡ true → may_become (at id) before ≡ true)
    → led_by before (method_asked (request_of_item step.request)) step.reply.code ≡ Some to → step.reply.cseq ≡ number_asked (request_of_item step.request) → IsReply step.reply → text ≡ reply_text step.reply
    → IsWalked at (step.request ∷ left) text (led_for at step to) left
step_walked at step before to left text reached leads number readable is = record {
  steps = step ∷ [];
  walks = λ id. by_test (is_about id step) (λ here. IsWalk (at id) (cond here (step ∷ []) []) (cond here to (at id))) (λ is. (to, record { before = before; reached = reached id is; leads = leads }, refl)) (λ is. refl);
  numbers = (number, tt);
  readable = (readable, tt);
  text_is = is ∙ sym (append-nil (reply_text step.reply));
  requests_are = refl;
}

-- some are, and then others
abbrev pub walked_more : (at mid now : List ℕ → State) (requests between left : List Shape) (first second : List ℕ) → IsWalked at requests first mid between → IsWalked mid between second now left → IsWalked at requests (first ++ second) now left
walked_more at mid now requests between left first second a b = record {
  steps = a.steps ++ b.steps;
  walks = walks_more at mid now a.steps b.steps a.walks b.walks;
  numbers = both_so _ a.steps b.steps a.numbers b.numbers;
  readable = both_so _ a.steps b.steps a.readable b.readable;
  text_is = ap (λ t. t ++ second) a.text_is ∙ ap (λ t. texts a.steps ++ t) b.text_is ∙ sym (flat_map-append (λ (step : SeenStep). reply_text step.reply) a.steps b.steps);
  requests_are = a.requests_are
      ∙ ap (λ (l : List Shape). map (λ (step : SeenStep). step.request) a.steps ++ l) b.requests_are
      ∙ sym (append_assoc (map (λ (step : SeenStep). step.request) a.steps) (map (λ (step : SeenStep). step.request) b.steps) left)
      ∙ ap (λ (l : List Shape). l ++ left) (sym (map-append (λ (step : SeenStep). step.request) a.steps b.steps));
}

-- more requests come behind those that are left
abbrev pub walked_and : (at now : List ℕ → State) (requests left extra : List Shape) (text : List ℕ) → IsWalked at requests text now left → IsWalked at (requests ++ extra) text now (left ++ extra)
walked_and at now requests left extra text one = record {
  steps = one.steps;
  walks = one.walks;
  numbers = one.numbers;
  readable = one.readable;
  text_is = one.text_is;
  requests_are = ap (λ (l : List Shape). l ++ extra) one.requests_are ∙ append_assoc (map (λ (step : SeenStep). step.request) one.steps) left extra;
}

-- A reply that was written stands first, and is no less than a byte.
reply_front : (reply : Reply1) (rest : List ℕ) → IsReply reply → first_message (reply_text reply ++ rest) ≡ Some (record { message = reply_message reply; rest = rest })
reply_front reply rest is = front_read (reply_start reply) reply.cseq reply.headers reply.body rest (record { writable = is.writable; no_frame = refl; own = is.own; short = is.held })

abbrev begins : List ℕ → Bool
begins [] = false
begins (b ∷ bytes) = true

more_long : (text more : List ℕ) (n : ℕ) → begins text ≡ true → n ≤ length more → suc n ≤ length (text ++ more)
more_long text more n e le = grind (arith, length-append)

few_replies : (steps : List SeenStep) → length steps ≤ length (texts steps)
few_replies [] = omega arith
few_replies (step ∷ more) = more_long (reply_text step.reply) (texts more) (length more) refl (few_replies more)

-- They are read one by one.
read_by : (most : ℕ) (steps : List SeenStep) → AreReplies steps → length steps ≤ most → replies_by most (texts steps) ≡ Some (map (λ (step : SeenStep). step.reply) steps)
read_by zero [] all few = refl
read_by (suc most) [] all few = refl
read_by zero (step ∷ more) all few = absurd (omega (arith, few))
read_by (suc most) (step ∷ more) all few =
    ap (λ (o : Option Front). reply_before o (replies_by most)) (reply_front step.reply (texts more) all.0)
    ∙ ap (λ (o : Option Reply1). option_and_then (λ reply. option_map (λ replies. reply ∷ replies) (replies_by most (texts more))) o) (reply_told step.reply all.0)
    ∙ ap (λ (o : Option (List Reply1)). option_map (λ replies. step.reply ∷ replies) o) (read_by most more all.1 (omega (arith, few)))

read_piece : (steps : List SeenStep) → AreReplies steps → replies_in (texts steps) ≡ Some (map (λ (step : SeenStep). step.reply) steps)
read_piece steps all = read_by (length (texts steps)) steps all (few_replies steps)

-- What stands behind the channel of a whole frame: the length of its load, the greater byte first, and the load.
abbrev pub IsLoad : List ℕ → Type 0
IsLoad rest = (2 ≤ length rest) × (length rest ≡ 2 + (256 * slice_index rest 0 + slice_index rest 1))

-- A whole frame is passed over.
read_frame : (channel : ℕ) (rest : List ℕ) → IsLoad rest → replies_in (frame_text channel rest) ≡ Some []
read_frame channel rest is = grind (arith, drop_all)

-- Bytes are one piece, where there is one.
one_piece : (bytes : List ℕ) → begins bytes ≡ true → piece bytes ≡ bytes ∷ []
one_piece bytes some = grind arith

-- So are those of a piece after earlier ones, and a frame brings none.
pub handed_more : (steps : List SeenStep) (pieces : List (List ℕ)) (before : List Reply1) → AreReplies steps → replies_handed pieces ≡ Some before
    → replies_handed (piece (texts steps) ++ pieces) ≡ Some (before ++ map (λ (step : SeenStep). step.reply) steps)
handed_more [] pieces before all e = e ∙ ap (λ (l : List Reply1). Some l) (sym (append-nil before))
handed_more (step ∷ more) pieces before all e =
    ap (λ (l : List (List ℕ)). replies_handed (l ++ pieces)) (one_piece (texts (step ∷ more)) refl)
    ∙ ap (λ (o : Option (List Reply1)). and_replies o (replies_in (texts (step ∷ more)))) e ∙ ap (and_replies (Some before)) (read_piece (step ∷ more) all)

pub handed_frame : (channel : ℕ) (rest : List ℕ) (pieces : List (List ℕ)) (before : List Reply1) → IsLoad rest → replies_handed pieces ≡ Some before
    → replies_handed (piece (frame_text channel rest) ++ pieces) ≡ Some before
handed_frame channel rest pieces before is e =
    ap (λ (l : List (List ℕ)). replies_handed (l ++ pieces)) (one_piece (frame_text channel rest) refl)
    ∙ ap (λ (o : Option (List Reply1)). and_replies o (replies_in (frame_text channel rest))) e ∙ ap (and_replies (Some before)) (read_frame channel rest is) ∙ ap (λ (l : List Reply1). Some l) (append-nil before)
