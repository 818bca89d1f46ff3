-- What is so of each one of a list, and by cases.
use Rattle.std.proofs.Common.{◌≡◌, ℕ, zero, suc, Bool, true, false, cond, List, [], ◌∷◌, ◌++◌, map, Option, Some, None, refl, arith}
use Rattle.std.specs.List.{AllByRecursion}
use Rattle.client_slot.specs.Session.{PlayerSession}
use Rattle.client_slot.specs.Places.{session_at, session_where, changed_at, changed_where}

pub each_so : {A : Type 0} (P Q : A → Type 0) (all : List A) → ((one : A) → P one → Q one) → AllByRecursion P all → AllByRecursion Q all
each_so P Q [] weaker so = tt
each_so P Q (one ∷ more) weaker so = (weaker one so.0, each_so P Q more weaker so.1)

-- of both of two lists, and back
pub both_so : {A : Type 0} (P : A → Type 0) (first second : List A) → AllByRecursion P first → AllByRecursion P second → AllByRecursion P (first ++ second)
both_so P [] second so other = other
both_so P (one ∷ first) second so other = (so.0, both_so P first second so.1 other)

pub parts_so : {A : Type 0} (P : A → Type 0) (first second : List A) → AllByRecursion P (first ++ second) → AllByRecursion P first × AllByRecursion P second
parts_so P [] second so = (tt, so)
parts_so P (one ∷ first) second so = let rest = parts_so P first second so.1 in ((so.0, rest.0), rest.1)

-- A change at a place, or at each, that keeps what is so of a session keeps it of all.
pub changed_each : (P : PlayerSession → Type 0) (place : ℕ) (change : PlayerSession → PlayerSession) (sessions : List PlayerSession) → ((session : PlayerSession) → P session → P (change session)) → AllByRecursion P sessions → AllByRecursion P (changed_at place change sessions)
changed_each P place change [] keeps all = tt
changed_each P zero change (one ∷ more) keeps all = (keeps one all.0, all.1)
changed_each P (suc place) change (one ∷ more) keeps all = (all.0, changed_each P place change more keeps all.1)

pub where_each : (P : PlayerSession → Type 0) (place : Option ℕ) (change : PlayerSession → PlayerSession) (sessions : List PlayerSession) → ((session : PlayerSession) → P session → P (change session)) → AllByRecursion P sessions → AllByRecursion P (changed_where place change sessions)
where_each P place change sessions keeps all = grind (arith, changed_each)

pub mapped_each : (P : PlayerSession → Type 0) (change : PlayerSession → PlayerSession) (sessions : List PlayerSession) → ((session : PlayerSession) → P session → P (change session)) → AllByRecursion P sessions → AllByRecursion P (map change sessions)
mapped_each P change [] keeps all = tt
mapped_each P change (one ∷ more) keeps all = (keeps one all.0, mapped_each P change more keeps all.1)

-- What holds of a session, once that at a place is changed.
pub one_at : (P : PlayerSession → Type 0) (place at : ℕ) (change : PlayerSession → PlayerSession) (sessions : List PlayerSession) → (P (session_at place sessions) → P (change (session_at place sessions)))
    → P (session_at at sessions) → P (session_at at (changed_at place change sessions))
one_at P place at change [] keeps all = all
one_at P zero zero change (one ∷ more) keeps all = keeps all
one_at P zero (suc at) change (one ∷ more) keeps all = all
one_at P (suc place) zero change (one ∷ more) keeps all = all
one_at P (suc place) (suc at) change (one ∷ more) keeps all = one_at P place at change more keeps all

pub one_where : (P : PlayerSession → Type 0) (place : Option ℕ) (change : PlayerSession → PlayerSession) (sessions : List PlayerSession) → (P (session_where place sessions) → P (change (session_where place sessions)))
    → (at : Option ℕ) → P (session_where at sessions) → P (session_where at (changed_where place change sessions))
one_where P None change sessions keeps at all = all
one_where P (Some place) change sessions keeps None all = all
one_where P (Some place) change sessions keeps (Some at) all = one_at P place at change sessions keeps all

-- of either of two
pub either_so : {A : Type 0} (P : A → Type 0) (first : Bool) (one other : A) → P one → P other → P (cond first one other)
either_so P true one other a b = a
either_so P false one other a b = b

-- By what a test says, or by whether there is one.
pub by_test : (test : Bool) (P : Bool → Type 0) → (test ≡ true → P true) → (test ≡ false → P false) → P test
by_test true P holds fails = holds refl
by_test false P holds fails = fails refl

pub by_option : {A : Type 0} (one : Option A) (P : Option A → Type 0) → (one ≡ None → P None) → ((some : A) → one ≡ Some some → P (Some some)) → P one
by_option one P none some = grind arith
