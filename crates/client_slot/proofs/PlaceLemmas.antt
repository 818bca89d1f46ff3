-- The places of a connection's sessions.
use Rattle.std.proofs.Common.{◌≡◌, ◌≢◌, ◌∙◌, ℕ, zero, suc, ◌+◌, ◌<◌, Bool, true, false, cond, List, [], ◌∷◌, length, drop, map, Option, Some, None, refl, sym, ap, subst, add-one, drop-cons, arith}
use Rattle.std.specs.Prelude.{slice_index_or, slice_set}
use Rattle.client_slot.specs.Session.{PlayerSession, new_session}
use Rattle.client_slot.specs.Places.{session_at, changed_at, changed_where, first_place}

-- a session that is replaced by what it changes to
pub set_changed : (place : ℕ) (change : PlayerSession → PlayerSession) (sessions : List PlayerSession) → place < length sessions
    → slice_set sessions place (change (session_at place sessions)) ≡ changed_at place change sessions
set_changed place change [] within = absurd (omega (arith, within))
set_changed zero change (one ∷ more) within = refl
set_changed (suc place) change (one ∷ more) within = ap (λ later. one ∷ later) (set_changed place change more (omega (arith, within)))

-- within the list the default does not matter
same_default : (place : ℕ) (sessions : List PlayerSession) (d e : PlayerSession) → place < length sessions → slice_index_or sessions place d ≡ slice_index_or sessions place e
same_default place [] d e within = absurd (omega (arith, within))
same_default zero (one ∷ more) d e within = refl
same_default (suc place) (one ∷ more) d e within = same_default place more d e (omega (arith, within))

-- a session is taken out of its place, changed, and put back
pub set_back : (place at : ℕ) (change : PlayerSession → PlayerSession) (sessions : List PlayerSession) (was new : PlayerSession) → at ≡ place → place < length sessions
    → was ≡ slice_index_or sessions at was → new ≡ change was → slice_set sessions at new ≡ changed_at place change sessions
set_back place at change sessions was new same within is changed =
    let here : was ≡ session_at place sessions = is ∙ ap (λ k. slice_index_or sessions k was) same ∙ same_default place sessions was new_session within in
    ap (λ one. slice_set sessions one new) same ∙ ap (slice_set sessions place) (changed ∙ ap change here) ∙ set_changed place change sessions within

pub set_where : (given : Option ℕ) (place at : ℕ) (change : PlayerSession → PlayerSession) (sessions : List PlayerSession) (was new : PlayerSession) → given ≡ Some place → at ≡ place → place < length sessions
    → was ≡ slice_index_or sessions at was → new ≡ change was → slice_set sessions at new ≡ changed_where given change sessions
set_where given place at change sessions was new is same within here changed =
    set_back place at change sessions was new same within here changed ∙ sym (ap (λ one. changed_where one change sessions) is)

pub set_there : (given : Option ℕ) (place at : ℕ) (change : PlayerSession → PlayerSession) (sessions : List PlayerSession) (d new : PlayerSession) → given ≡ Some place → at ≡ place → place < length sessions
    → new ≡ change (slice_index_or sessions at d) → slice_set sessions at new ≡ changed_where given change sessions
set_there given place at change sessions d new is same within changed =
    set_where given place at change sessions (slice_index_or sessions at d) new is same within
    (ap (λ k. slice_index_or sessions k d) same ∙ same_default place sessions d (slice_index_or sessions at d) within ∙ ap (λ k. slice_index_or sessions k (slice_index_or sessions at d)) (sym same)) changed

pub lent_at : (place at : ℕ) (sessions : List PlayerSession) (lent : PlayerSession) → at ≡ place → place < length sessions → lent ≡ slice_index_or sessions at lent → lent ≡ session_at place sessions
lent_at place at sessions lent same within is = is ∙ ap (λ k. slice_index_or sessions k lent) same ∙ same_default place sessions lent new_session within

-- the first sessions are changed
abbrev pub front_changed : ℕ → (PlayerSession → PlayerSession) → List PlayerSession → List PlayerSession
front_changed zero change sessions = sessions
front_changed (suc count) change [] = []
front_changed (suc count) change (one ∷ more) = change one ∷ front_changed count change more

pub front_length : (count : ℕ) (change : PlayerSession → PlayerSession) (sessions : List PlayerSession) → length (front_changed count change sessions) ≡ length sessions
front_length zero change sessions = refl
front_length (suc count) change [] = refl
front_length (suc count) change (one ∷ more) = ap suc (front_length count change more)

front_step : (count : ℕ) (change : PlayerSession → PlayerSession) (sessions : List PlayerSession) → changed_at count change (front_changed count change sessions) ≡ front_changed (suc count) change sessions
front_step zero change [] = refl
front_step zero change (one ∷ more) = refl
front_step (suc count) change [] = refl
front_step (suc count) change (one ∷ more) = ap (λ later. change one ∷ later) (front_step count change more)

pub front_next : (count : ℕ) (change : PlayerSession → PlayerSession) (sessions now : List PlayerSession) → now ≡ front_changed count change sessions → changed_at count change now ≡ front_changed (count + 1) change sessions
front_next count change sessions now is = ap (changed_at count change) is ∙ front_step count change sessions ∙ ap (λ n. front_changed n change sessions) (sym (add-one count))

pub front_all : (change : PlayerSession → PlayerSession) (sessions : List PlayerSession) → front_changed (length sessions) change sessions ≡ map change sessions
front_all change [] = refl
front_all change (one ∷ more) = ap (λ later. change one ∷ later) (front_all change more)

-- a change at a place keeps the number of places
pub changed_length : (place : ℕ) (change : PlayerSession → PlayerSession) (sessions : List PlayerSession) → length (changed_at place change sessions) ≡ length sessions
changed_length place change [] = refl
changed_length zero change (one ∷ more) = refl
changed_length (suc place) change (one ∷ more) = ap suc (changed_length place change more)

pub where_length : (place : Option ℕ) (change : PlayerSession → PlayerSession) (sessions : List PlayerSession) → length (changed_where place change sessions) ≡ length sessions
where_length None change sessions = refl
where_length (Some place) change sessions = changed_length place change sessions

-- a change that changes nothing
pub nothing_changed : (place : ℕ) (change : PlayerSession → PlayerSession) (sessions : List PlayerSession) → ((session : PlayerSession) → change session ≡ session) → changed_at place change sessions ≡ sessions
nothing_changed place change [] same = refl
nothing_changed zero change (one ∷ more) same = ap (λ first. first ∷ more) (same one)
nothing_changed (suc place) change (one ∷ more) same = ap (λ later. one ∷ later) (nothing_changed place change more same)

pub nothing_changed_where : (place : Option ℕ) (change : PlayerSession → PlayerSession) (sessions : List PlayerSession) → ((session : PlayerSession) → change session ≡ session) → changed_where place change sessions ≡ sessions
nothing_changed_where None change sessions same = refl
nothing_changed_where (Some place) change sessions same = nothing_changed place change sessions same

-- the session at a place, once that at another one or at this one is changed
pub changed_here : (place : ℕ) (change : PlayerSession → PlayerSession) (sessions : List PlayerSession) → place < length sessions → session_at place (changed_at place change sessions) ≡ change (session_at place sessions)
changed_here place change [] within = absurd (omega (arith, within))
changed_here zero change (one ∷ more) within = refl
changed_here (suc place) change (one ∷ more) within = changed_here place change more (omega (arith, within))

pub changed_other : (place at : ℕ) (change : PlayerSession → PlayerSession) (sessions : List PlayerSession) → at ≢ place → session_at at (changed_at place change sessions) ≡ session_at at sessions
changed_other place at change [] apart = refl
changed_other zero zero change (one ∷ more) apart = absurd (apart refl)
changed_other zero (suc at) change (one ∷ more) apart = refl
changed_other (suc place) zero change (one ∷ more) apart = refl
changed_other (suc place) (suc at) change (one ∷ more) apart = changed_other place at change more (λ e. apart (ap suc e))

-- what a change keeps of the session at its place it keeps of each
pub kept_each : {A : Type 0} (part : PlayerSession → A) (place at : ℕ) (change : PlayerSession → PlayerSession) (sessions : List PlayerSession)
    → part (change (session_at place sessions)) ≡ part (session_at place sessions) → part (session_at at (changed_at place change sessions)) ≡ part (session_at at sessions)
kept_each part place at change [] same = refl
kept_each part zero zero change (one ∷ more) same = same
kept_each part zero (suc at) change (one ∷ more) same = refl
kept_each part (suc place) zero change (one ∷ more) same = refl
kept_each part (suc place) (suc at) change (one ∷ more) same = kept_each part place at change more same

-- the search for a place, one on
left_at : (place : ℕ) (sessions : List PlayerSession) → place < length sessions → drop place sessions ≡ session_at place sessions ∷ drop (place + 1) sessions
left_at place sessions within = rw (add-one, drop-cons sessions place new_session within) refl

pub next_first : (test : PlayerSession → Bool) (at place : ℕ) (sessions : List PlayerSession) → place < length sessions → test (session_at place sessions) ≡ false
    → first_place test (at + 1) (drop (place + 1) sessions) ≡ first_place test at (drop place sessions)
next_first test at place sessions within other =
    sym (ap (λ (passes : Bool). cond passes (Some at) (first_place test (at + 1) (drop (place + 1) sessions))) other)
    ∙ sym (ap (first_place test at) (left_at place sessions within))

pub here_first : (test : PlayerSession → Bool) (at place : ℕ) (sessions : List PlayerSession) → place < length sessions → test (session_at place sessions) ≡ true
    → first_place test at (drop place sessions) ≡ Some at
here_first test at place sessions within same =
    ap (first_place test at) (left_at place sessions within)
    ∙ ap (λ (passes : Bool). cond passes (Some at) (first_place test (at + 1) (drop (place + 1) sessions))) same

-- the first place that passes a test is the same where the change does not change the test
pub first_changed : (test : PlayerSession → Bool) (from place : ℕ) (change : PlayerSession → PlayerSession) (sessions : List PlayerSession)
    → test (change (session_at place sessions)) ≡ test (session_at place sessions) → first_place test from (changed_at place change sessions) ≡ first_place test from sessions
first_changed test from place change [] same = refl
first_changed test from zero change (one ∷ more) same = ap (λ (passes : Bool). cond passes (Some from) (first_place test (from + 1) more)) same
first_changed test from (suc place) change (one ∷ more) same = ap (λ (later : Option ℕ). cond (test one) (Some from) later) (first_changed test (from + 1) place change more same)

-- The first place that passes a test is one, and its session passes.
pub record IsFirst (test : PlayerSession → Bool) (from place : ℕ) (sessions : List PlayerSession) : Type 0 where
  pub at : ℕ
  pub is : place ≡ from + at
  pub within : at < length sessions
  pub passes : test (session_at at sessions) ≡ true

first_by : (test : PlayerSession → Bool) (from place : ℕ) (one : PlayerSession) (more : List PlayerSession) (passes : Bool) → test one ≡ passes
    → (first_place test (from + 1) more ≡ Some place → IsFirst test (from + 1) place more) → cond passes (Some from) (first_place test (from + 1) more) ≡ Some place → IsFirst test from place (one ∷ more)
first_by test from place one more true is later h = let same : from ≡ place = cc in record { at = 0; is = omega (arith, same); within = omega arith; passes = is }
first_by test from place one more false is later h =
    let found = later h in
    record { at = suc found.at; is = omega (arith, found.is); within = omega (arith, found.within); passes = found.passes }

pub first_is : (test : PlayerSession → Bool) (from place : ℕ) (sessions : List PlayerSession) → first_place test from sessions ≡ Some place → IsFirst test from place sessions
first_is test from place [] e = cc
first_is test from place (one ∷ more) e = first_by test from place one more (test one) refl (first_is test (from + 1) place more) e

-- from the first place on
pub record IsAtPlace (test : PlayerSession → Bool) (place : ℕ) (sessions : List PlayerSession) : Type 0 where
  pub within : place < length sessions
  pub passes : test (session_at place sessions) ≡ true

pub place_is : (test : PlayerSession → Bool) (place : ℕ) (sessions : List PlayerSession) → first_place test 0 sessions ≡ Some place → IsAtPlace test place sessions
place_is test place sessions e =
    let first = first_is test 0 place sessions e in
    let same : first.at ≡ place = omega (arith, first.is) in
    record { within = subst (λ (k : ℕ). k < length sessions) same first.within; passes = subst (λ (k : ℕ). test (session_at k sessions) ≡ true) same first.passes }

-- each session changes, and a test does not see it
pub first_mapped : (test : PlayerSession → Bool) (change : PlayerSession → PlayerSession) (from : ℕ) (sessions : List PlayerSession)
    → ((session : PlayerSession) → test (change session) ≡ test session) → first_place test from (map change sessions) ≡ first_place test from sessions
first_mapped test change from [] blind = refl
first_mapped test change from (one ∷ more) blind =
    ap (λ (here : Bool). cond here (Some from) (first_place test (from + 1) (map change more))) (blind one)
    ∙ ap (λ (later : Option ℕ). cond (test one) (Some from) later) (first_mapped test change (from + 1) more blind)

pub at_mapped : {A : Type 0} (part : PlayerSession → A) (change : PlayerSession → PlayerSession) (place : ℕ) (sessions : List PlayerSession)
    → ((session : PlayerSession) → part (change session) ≡ part session) → part (session_at place (map change sessions)) ≡ part (session_at place sessions)
at_mapped part change place [] same = refl
at_mapped part change zero (one ∷ more) same = same one
at_mapped part change (suc place) (one ∷ more) same = at_mapped part change place more same

pub mapped_length : (change : PlayerSession → PlayerSession) (sessions : List PlayerSession) → length (map change sessions) ≡ length sessions
mapped_length change [] = refl
mapped_length change (one ∷ more) = ap suc (mapped_length change more)

-- two changes that do the same
pub same_changes : (place : ℕ) (change other : PlayerSession → PlayerSession) (sessions : List PlayerSession) → ((session : PlayerSession) → change session ≡ other session) → changed_at place change sessions ≡ changed_at place other sessions
same_changes place change other [] same = refl
same_changes zero change other (one ∷ more) same = ap (λ first. first ∷ more) (same one)
same_changes (suc place) change other (one ∷ more) same = ap (λ later. one ∷ later) (same_changes place change other more same)

pub same_changes_where : (place : Option ℕ) (change other : PlayerSession → PlayerSession) (sessions : List PlayerSession) → ((session : PlayerSession) → change session ≡ other session)
    → changed_where place change sessions ≡ changed_where place other sessions
same_changes_where None change other sessions same = refl
same_changes_where (Some place) change other sessions same = same_changes place change other sessions same
