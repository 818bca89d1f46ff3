-- Sums over the sessions of a connection, and what a change at a place makes of them.
use Rattle.std.proofs.Common.{◌≡◌, ℕ, zero, suc, ◌+◌, ◌≤◌, List, [], ◌∷◌, map, Option, Some, None, refl, arith}
use Rattle.client_slot.specs.Session.{PlayerSession, new_session}
use Rattle.client_slot.specs.Places.{session_at, changed_at, changed_where}

-- The sum over sessions, and over all but that at a place.
abbrev pub total : (PlayerSession → ℕ) → List PlayerSession → ℕ
total f [] = 0
total f (one ∷ more) = f one + total f more

abbrev pub total_but : (PlayerSession → ℕ) → ℕ → List PlayerSession → ℕ
total_but f place [] = 0
total_but f zero (one ∷ more) = total f more
total_but f (suc place) (one ∷ more) = f one + total_but f place more

-- a change that makes no more than so much more of each
changed_most : (f : PlayerSession → ℕ) (most place : ℕ) (change : PlayerSession → PlayerSession) (sessions : List PlayerSession) → ((one : PlayerSession) → f (change one) ≤ f one + most)
    → total f (changed_at place change sessions) ≤ total f sessions + most
changed_most f most place change [] each = omega arith
changed_most f most zero change (one ∷ more) each = let here = each one in omega (arith, here)
changed_most f most (suc place) change (one ∷ more) each = let rest = changed_most f most place change more each in omega (arith, rest)

pub where_most : (f : PlayerSession → ℕ) (most : ℕ) (place : Option ℕ) (change : PlayerSession → PlayerSession) (sessions : List PlayerSession) → ((one : PlayerSession) → f (change one) ≤ f one + most)
    → total f (changed_where place change sessions) ≤ total f sessions + most
where_most f most None change sessions each = omega arith
where_most f most (Some place) change sessions each = changed_most f most place change sessions each

-- the same of all but one
changed_but : (f : PlayerSession → ℕ) (but place : ℕ) (change : PlayerSession → PlayerSession) (sessions : List PlayerSession) → ((one : PlayerSession) → f (change one) ≤ f one)
    → total_but f but (changed_at place change sessions) ≤ total_but f but sessions
changed_but f but place change [] each = omega arith
changed_but f zero zero change (one ∷ more) each = omega arith
changed_but f zero (suc place) change (one ∷ more) each = let rest = changed_most f 0 place change more (λ s. let here = each s in omega (arith, here)) in omega (arith, rest)
changed_but f (suc but) zero change (one ∷ more) each = let here = each one in omega (arith, here)
changed_but f (suc but) (suc place) change (one ∷ more) each = let rest = changed_but f but place change more each in omega (arith, rest)

pub where_but : (f : PlayerSession → ℕ) (but : ℕ) (place : Option ℕ) (change : PlayerSession → PlayerSession) (sessions : List PlayerSession) → ((one : PlayerSession) → f (change one) ≤ f one)
    → total_but f but (changed_where place change sessions) ≤ total_but f but sessions
where_but f but None change sessions each = omega arith
where_but f but (Some place) change sessions each = changed_but f but place change sessions each

-- what is left where one is emptied
pub emptied_most : (f : PlayerSession → ℕ) (place : ℕ) (change : PlayerSession → PlayerSession) (sessions : List PlayerSession) → ((one : PlayerSession) → f (change one) ≡ 0)
    → total f (changed_at place change sessions) ≤ total_but f place sessions
emptied_most f place change [] none = omega arith
emptied_most f zero change (one ∷ more) none = let here = none one in omega (arith, here)
emptied_most f (suc place) change (one ∷ more) none = let rest = emptied_most f place change more none in omega (arith, rest)

-- one that has some, of which the change takes one
pub changed_less : (f : PlayerSession → ℕ) (place : ℕ) (change : PlayerSession → PlayerSession) (sessions : List PlayerSession) → f new_session ≡ 0 → f (change (session_at place sessions)) + 1 ≤ f (session_at place sessions)
    → total f (changed_at place change sessions) + 1 ≤ total f sessions
changed_less f place change [] none less = absurd (omega (arith, none, less))
changed_less f zero change (one ∷ more) none less = omega (arith, less)
changed_less f (suc place) change (one ∷ more) none less = let rest = changed_less f place change more none less in omega (arith, rest)

pub but_less : (f : PlayerSession → ℕ) (place : ℕ) (sessions : List PlayerSession) → f new_session ≡ 0 → 1 ≤ f (session_at place sessions) → total_but f place sessions + 1 ≤ total f sessions
but_less f place [] none some = absurd (omega (arith, none, some))
but_less f zero (one ∷ more) none some = omega (arith, some)
but_less f (suc place) (one ∷ more) none some = let rest = but_less f place more none some in omega (arith, rest)

pub mapped_none : (f : PlayerSession → ℕ) (change : PlayerSession → PlayerSession) (sessions : List PlayerSession) → ((one : PlayerSession) → f (change one) ≡ 0) → total f (map change sessions) ≡ 0
mapped_none f change [] none = refl
mapped_none f change (one ∷ more) none = let here = none one in let rest = mapped_none f change more none in omega (arith, here, rest)
