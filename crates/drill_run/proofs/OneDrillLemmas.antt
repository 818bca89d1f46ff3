-- Two drills of the same words are one drill.
use Rattle.std.proofs.Common.{◌≡◌, ℕ, ◌+◌, ◌≤◌, List, [], ◌∷◌, ◌++◌, Some, None, inl, inr, refl, sym, ap, ◌∙◌, subst, arith}
use Rattle.std.specs.Prelude.{◌⊎◌}
use Rattle.std.proofs.lemmas.Bool.{cases_eq}
use Rattle.rtsp_uri.specs.declared.base.Bases.{Bases}
use Rattle.gateway_claim.specs.Happenings.{HistoryEntry, happened}
use Rattle.gateway_claim.specs.Cores.{IsCoreHistory}
use Rattle.gateway_claim.proofs.AskLemmas.{Following, FollowsOnce}
use Rattle.drill_run.specs.declared.turn.Who.{Who}
use Rattle.drill_run.specs.declared.turn.Who.TheVariants.{Client, Server}
use Rattle.drill_run.specs.Turns.{Drilled, DrillRun, begins, goes_on, started, Turn, candidates, drawn_among, after_draw, after_saying, after_entries, turn_told}
use Rattle.drill_server.specs.Draws.{next_draw}

-- a list with one more at its end is none
none_snoc : {X : Type 0} (xs : List X) (x : X) → [] ≡ xs ++ x ∷ [] → ⊥
none_snoc [] x same = cc
none_snoc (y ∷ xs) x same = cc

-- equal lists with one more at their ends have equal fronts and ends
same_ends : {X : Type 0} (xs ys : List X) (x y : X) → xs ++ x ∷ [] ≡ ys ++ y ∷ [] → (xs ≡ ys) × (x ≡ y)
same_ends [] [] x y same = (refl, cc)
same_ends [] (b ∷ ys) x y same = absurd (none_snoc ys y (cc))
same_ends (a ∷ xs) [] x y same = absurd (none_snoc xs x (cc))
same_ends (a ∷ xs) (b ∷ ys) x y same =
    let rest = same_ends xs ys x y (cc) in
    let first : a ≡ b = cc in
    (ap (λ (l : _). a ∷ l) rest.0 ∙ ap (λ c. c ∷ ys) first, rest.1)

-- the entries before the newest ones are a history too
made_before : (follows : Following) (bases : Bases) (more earlier : List HistoryEntry) → IsCoreHistory follows bases (more ++ earlier) → IsCoreHistory follows bases earlier
made_before follows bases [] earlier made = made
made_before follows bases (e ∷ more) earlier made = made_before follows bases more earlier made.0

-- after one history the same happenings have the same entries
same_more : (follows : Following) → FollowsOnce follows → (bases : Bases) (earlier one other : List HistoryEntry) → IsCoreHistory follows bases (one ++ earlier) → IsCoreHistory follows bases (other ++ earlier)
    → happened one ≡ happened other → one ≡ other
same_more follows once bases earlier [] [] made make same = refl
same_more follows once bases earlier [] (e ∷ T) made make same = absurd (none_snoc (happened T) e.happening same)
same_more follows once bases earlier (d ∷ S) [] made make same = absurd (none_snoc (happened S) d.happening (sym same))
same_more follows once bases earlier (d ∷ S) (e ∷ T) made make same =
    let ends = same_ends (happened S) (happened T) d.happening e.happening same in
    let before : S ≡ T = same_more follows once bases earlier S T made.0 make.0 ends.0 in
    let now : d ≡ e = once bases (T ++ earlier) d e (subst (λ (l : List HistoryEntry). follows bases (l ++ earlier) d) before made.1) make.1 ends.1 in
    ap (λ (l : List HistoryEntry). d ∷ l) before ∙ ap (λ (x : HistoryEntry). x ∷ T) now

-- what entries do to a drill's history
entries_history : (more : List HistoryEntry) (drilled : Drilled) → (after_entries more drilled).history ≡ more ++ drilled.history
entries_history [] drilled = refl
entries_history (e ∷ more) drilled = ap (λ (l : List HistoryEntry). e ∷ l) (entries_history more drilled)

-- and to the number of its turns
pub entries_turns : (more : List HistoryEntry) (drilled : Drilled) → (after_entries more drilled).turns ≡ drilled.turns
entries_turns [] drilled = refl
entries_turns (e ∷ more) drilled = entries_turns more drilled

saying_history : (who : Who) (drilled : Drilled) → (after_saying who drilled).history ≡ drilled.history
saying_history (Client i) drilled = refl
saying_history Server drilled = refl

pub saying_turns : (who : Who) (drilled : Drilled) → (after_saying who drilled).turns ≡ drilled.turns
saying_turns (Client i) drilled = refl
saying_turns Server drilled = refl

pub turn_history : (drilled next : Drilled) (turn : Turn drilled next) → next.history ≡ turn.more ++ drilled.history
turn_history drilled next turn =
    ap (λ (d : Drilled). d.history) turn.after
    ∙ entries_history turn.more (after_saying turn.who (after_draw drilled))
    ∙ ap (λ (l : List HistoryEntry). turn.more ++ l) (saying_history turn.who (after_draw drilled))

pub turn_turns : (drilled next : Drilled) → Turn drilled next → next.turns ≡ drilled.turns + 1
turn_turns drilled next turn =
    ap (λ (d : Drilled). d.turns) turn.after
    ∙ entries_turns turn.more (after_saying turn.who (after_draw drilled))
    ∙ saying_turns turn.who (after_draw drilled)

same_some : (one other : Who) → Some one ≡ Some other → one ≡ other
same_some one other same = cc

-- There is at most one next turn.
one_turn : (follows : Following) → FollowsOnce follows → (bases : Bases) (drilled next other : Drilled) → Turn drilled next → Turn drilled other
    → IsCoreHistory follows bases next.history → IsCoreHistory follows bases other.history → next ≡ other
one_turn follows once bases drilled next other a b made make =
    let who : a.who ≡ b.who = same_some a.who b.who (sym a.drawn ∙ b.drawn) in
    let told : happened a.more ≡ happened b.more = a.told ∙ ap (λ (w : Who). turn_told w drilled) who ∙ sym b.told in
    let more : a.more ≡ b.more =
    same_more follows once bases drilled.history a.more b.more
    (subst (λ (l : List HistoryEntry). IsCoreHistory follows bases l) (turn_history drilled next a) made)
    (subst (λ (l : List HistoryEntry). IsCoreHistory follows bases l) (turn_history drilled other b) make)
    told in
    a.after
    ∙ ap (λ (l : List HistoryEntry). after_entries l (after_saying a.who (after_draw drilled))) more
    ∙ ap (λ (w : Who). after_entries b.more (after_saying w (after_draw drilled))) who
    ∙ sym b.after

-- the last turn of a drill
record LastTurn (players number : ℕ) (drilled : Drilled) : Type 0 where
  before : Drilled
  ran : DrillRun players number before
  turn : Turn before drilled

last_turn : (players number : ℕ) (drilled : Drilled) → DrillRun players number drilled → (drilled ≡ started players number) ⊎ LastTurn players number drilled
last_turn players number drilled begins = inl refl
last_turn players number drilled (goes_on before next ran turn) = inr (record { before = before; ran = ran; turn = turn })

-- the history before a turn is one too
turn_made_before : (follows : Following) (bases : Bases) (drilled next : Drilled) → Turn drilled next → IsCoreHistory follows bases next.history → IsCoreHistory follows bases drilled.history
turn_made_before follows bases drilled next turn made =
    made_before follows bases turn.more drilled.history (subst (λ (l : List HistoryEntry). IsCoreHistory follows bases l) (turn_history drilled next turn) made)

-- Drills with as many turns are the same.
same_turns : (follows : Following) → FollowsOnce follows → (bases : Bases) (players number : ℕ) (one other : Drilled) → DrillRun players number one → DrillRun players number other
    → one.turns ≡ other.turns → IsCoreHistory follows bases one.history → IsCoreHistory follows bases other.history → one ≡ other
same_turns follows once bases players number one other begins other_ran turns made make =
    elim (last_turn players number other other_ran) [
      | inl first ↦ sym first
      | inr last ↦ absurd (let more : other.turns ≡ last.before.turns + 1 = turn_turns last.before other last.turn in omega (arith, turns, more))
    ]
same_turns follows once bases players number one other (goes_on before next ran turn) other_ran turns made make =
    elim (last_turn players number other other_ran) [
      | inl first ↦ absurd (let more : next.turns ≡ before.turns + 1 = turn_turns before next turn in let none : other.turns ≡ 0 = ap (λ (d : Drilled). d.turns) first in omega (arith, turns, more, none))
      | inr last ↦
          let more : next.turns ≡ before.turns + 1 = turn_turns before next turn in
          let other_more : other.turns ≡ last.before.turns + 1 = turn_turns last.before other last.turn in
          let same : before ≡ last.before =
          same_turns follows once bases players number before last.before ran last.ran (omega (arith, turns, more, other_more))
          (turn_made_before follows bases before next turn made) (turn_made_before follows bases last.before other last.turn make) in
          one_turn follows once bases last.before next other (subst (λ (d : Drilled). Turn d next) same turn) last.turn made make
    ]

-- Where nobody can have a turn there is none.
no_turn_left : (drilled next : Drilled) → candidates drilled ≡ [] → Turn drilled next → ⊥
no_turn_left drilled next none turn =
    let nobody : None ≡ Some turn.who = sym (ap (λ (whos : List Who). drawn_among whos (next_draw drilled.draw)) none) ∙ turn.drawn in
    cc

-- No drill has more turns than one that has ended.
no_more_turns : (follows : Following) → FollowsOnce follows → (bases : Bases) (players number : ℕ) (ended one : Drilled) → DrillRun players number ended → candidates ended ≡ [] → IsCoreHistory follows bases ended.history
    → DrillRun players number one → IsCoreHistory follows bases one.history → one.turns ≤ ended.turns
no_more_turns follows once bases players number ended one ended_ran none make begins made = omega arith
no_more_turns follows once bases players number ended one ended_ran none make (goes_on before next ran turn) made =
    let earlier : IsCoreHistory follows bases before.history = turn_made_before follows bases before next turn made in
    let fewer : before.turns ≤ ended.turns = no_more_turns follows once bases players number ended before ended_ran none make ran earlier in
    let more : next.turns ≡ before.turns + 1 = turn_turns before next turn in
    elim (cases_eq before.turns ended.turns) [
      | inl equal ↦
          let same : before ≡ ended = same_turns follows once bases players number before ended ran ended_ran equal earlier make in
          absurd (no_turn_left ended next none (subst (λ (d : Drilled). Turn d next) same turn))
      | inr differ ↦ omega (arith, fewer, more, differ)
    ]

-- Two drills that ended are the same.
pub one_drill : (follows : Following) → FollowsOnce follows → (bases : Bases) (players number : ℕ) (one other : Drilled) → DrillRun players number one → DrillRun players number other
    → candidates one ≡ [] → candidates other ≡ [] → IsCoreHistory follows bases one.history → IsCoreHistory follows bases other.history → one ≡ other
one_drill follows once bases players number one other ran other_ran ended other_ended made make =
    let few = no_more_turns follows once bases players number other one other_ran other_ended make ran made in
    let many = no_more_turns follows once bases players number one other ran ended made other_ran make in
    same_turns follows once bases players number one other ran other_ran (omega (arith, few, many)) made make
