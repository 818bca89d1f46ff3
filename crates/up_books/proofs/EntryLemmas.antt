-- Lemmas on the entries of a book, for keys that a test tells apart.
use Rattle.std.proofs.Common.{◌≡◌, ◌∙◌, ℕ, zero, suc, ◌+◌, ◌<◌, ◌≤◌, Bool, true, false, List, [], ◌∷◌, length, get_or, Option, Some, None, if◌then◌else◌, refl, sym, ap, arith}
use Rattle.std.specs.List.{position, position_from, insert, remove}
use Rattle.std.proofs.lemmas.Iterator.Adapters.{position_from-zero}
use Rattle.std.proofs.lemmas.List.Quantifiers.{position-Some}
use Rattle.up_books.specs.declared.entry.BookEntry.{BookEntry}
use Rattle.up_books.specs.Entries.{conn_of_key}

-- no key has two entries
abbrev pub HasEachKeyOnce : {K : Type 0} → (K → K → Bool) → List (BookEntry K) → Type 0
HasEachKeyOnce same [] = Unit {0}
HasEachKeyOnce same (entry ∷ entries) = (conn_of_key same entry.key entries ≡ None) × HasEachKeyOnce same entries

-- a test of keys that tells them apart
pub record TellsApart (K : Type 0) (same : K → K → Bool) : Type 0 where
  pub equal : (a b : K) → same a b ≡ true → a ≡ b
  pub alike : (a : K) → same a a ≡ true

-- a key that no entry has
none_by : (b : Bool) (i conn : ℕ) (place rest : Option ℕ) → (place ≡ None → rest ≡ None) → (if b then Some i else place) ≡ None → (if b then Some conn else rest) ≡ None
none_by true i conn place rest later none = cc
none_by false i conn place rest later none = later none

conn_of_key-none_from : (K : Type 0) (same : K → K → Bool) (key : K) (entries : List (BookEntry K)) (i : ℕ) → position_from (λ entry. same entry.key key) i entries ≡ None → conn_of_key same key entries ≡ None
conn_of_key-none_from K same key [] i none = refl
conn_of_key-none_from K same key (entry ∷ entries) i none =
    none_by (same entry.key key) i entry.conn (position_from (λ one. same one.key key) (i + 1) entries) (conn_of_key same key entries)
    (conn_of_key-none_from K same key entries (i + 1)) none

pub conn_of_key-none : (K : Type 0) (same : K → K → Bool) (key : K) (entries : List (BookEntry K)) → position (λ entry. same entry.key key) entries ≡ None → conn_of_key same key entries ≡ None
conn_of_key-none K same key entries none =
    conn_of_key-none_from K same key entries 0 (sym (position_from-zero (λ entry. same entry.key key) entries) ∙ none)

-- the entry at a place is the first that has the key
pub record IsFirst {K : Type 0} (same : K → K → Bool) (key : K) (entries : List (BookEntry K)) (at : ℕ) (d : BookEntry K) : Type 0 where
  pub low : at < length entries
  pub here : same (get_or entries at d).key key ≡ true
  pub before : (k : ℕ) → k < at → same (get_or entries k d).key key ≡ false

pub first-position : (K : Type 0) (same : K → K → Bool) (key : K) (entries : List (BookEntry K)) (at : ℕ) (d : BookEntry K) → position (λ entry. same entry.key key) entries ≡ Some at → IsFirst same key entries at d
first-position K same key entries at d is =
    let facts = position-Some (λ entry. same entry.key key) entries at d is in
    record { low = facts.0; here = facts.1; before = facts.2 }

first-tail : (K : Type 0) (same : K → K → Bool) (key : K) (entry : BookEntry K) (entries : List (BookEntry K)) (at : ℕ) (d : BookEntry K) → IsFirst same key (entry ∷ entries) (suc at) d → IsFirst same key entries at d
first-tail K same key entry entries at d is = record { low = omega (arith, is.low); here = is.here; before = λ k lower. is.before (suc k) (omega arith) }

pub conn_of_key-some : (K : Type 0) (same : K → K → Bool) (key : K) (entries : List (BookEntry K)) (at : ℕ) (d : BookEntry K) → IsFirst same key entries at d → conn_of_key same key entries ≡ Some (get_or entries at d).conn
conn_of_key-some K same key [] at d is = absurd (omega (arith, is.low))
conn_of_key-some K same key (entry ∷ entries) zero d is = let here : same entry.key key ≡ true = is.here in rw here
conn_of_key-some K same key (entry ∷ entries) (suc at) d is =
    let first : same entry.key key ≡ false = is.before 0 (omega arith) in
    rw first (conn_of_key-some K same key entries at d (first-tail K same key entry entries at d is))

-- two keys that are not one, whichever is asked about the other
other_way : (K : Type 0) (same : K → K → Bool) → TellsApart K same → (a b : K) → same a b ≡ false → same b a ≡ false
other_way K same tells a b apart = way_by (same b a) refl where
  way_by : (one : Bool) → same b a ≡ one → same b a ≡ false
  way_by true e = let equal : b ≡ a = tells.equal b a e in let alike : same a b ≡ true = rw equal (tells.alike a) in cc
  way_by false e = e

-- one entry more, of a key that no entry had
fresh_by : (b : Bool) (conn : ℕ) (rest : Option ℕ) → (if b then Some conn else rest) ≡ None → (b ≡ false) × (rest ≡ None)
fresh_by true conn rest none = cc
fresh_by false conn rest none = (refl, none)

fresh-tail : (K : Type 0) (same : K → K → Bool) (key : K) (entry : BookEntry K) (entries : List (BookEntry K)) → conn_of_key same key (entry ∷ entries) ≡ None → (same entry.key key ≡ false) × (conn_of_key same key entries ≡ None)
fresh-tail K same key entry entries none = fresh_by (same entry.key key) entry.conn (conn_of_key same key entries) none

append_by : (first one : Bool) (a b : ℕ) (rest : Option ℕ) → (first ≡ true → one ≡ false) → (if first then Some a else (if one then Some b else rest)) ≡ (if one then Some b else (if first then Some a else rest))
append_by true true a b rest apart = let contradiction : true ≡ false = apart refl in cc
append_by true false a b rest apart = refl
append_by false one a b rest apart = refl

pub conn_of_key-insert : (K : Type 0) (same : K → K → Bool) → TellsApart K same → (entries : List (BookEntry K)) (at : ℕ) (one : BookEntry K) (key : K)
    → at ≤ length entries → conn_of_key same one.key entries ≡ None → conn_of_key same key (insert entries at one) ≡ (if same key one.key then Some one.conn else conn_of_key same key entries)
conn_of_key-insert K same tells entries zero one key within fresh = first_by (same one.key key) (same key one.key) refl refl where
  first_by : (b d : Bool) → same one.key key ≡ b → same key one.key ≡ d → (if b then Some one.conn else conn_of_key same key entries) ≡ (if d then Some one.conn else conn_of_key same key entries)
  first_by true true e f = refl
  first_by false false e f = refl
  first_by true false e f = let other : same one.key key ≡ false = other_way K same tells key one.key f in cc
  first_by false true e f = let other : same key one.key ≡ false = other_way K same tells one.key key e in cc
conn_of_key-insert K same tells [] (suc at) one key within fresh = absurd (omega arith)
conn_of_key-insert K same tells (entry ∷ entries) (suc at) one key within fresh =
    let parts = fresh-tail K same one.key entry entries fresh in
    rw (conn_of_key-insert K same tells entries at one key (omega arith) parts.1)
    (append_by (same entry.key key) (same key one.key) entry.conn one.conn (conn_of_key same key entries)
    (λ is. let equal : entry.key ≡ key = tells.equal entry.key key is in rw equal at parts.0))

-- a key that each entry is apart from
pub conn_of_key-absent : (K : Type 0) (same : K → K → Bool) (key : K) (entries : List (BookEntry K)) → ((k : ℕ) (d : BookEntry K) → k < length entries → same (get_or entries k d).key key ≡ false) → conn_of_key same key entries ≡ None
conn_of_key-absent K same key [] apart = refl
conn_of_key-absent K same key (entry ∷ entries) apart =
    rw (apart 0 entry (omega arith)) (conn_of_key-absent K same key entries (λ k d low. apart (suc k) d (omega arith)))

pub absent-each : (K : Type 0) (same : K → K → Bool) (key : K) (entries : List (BookEntry K)) → conn_of_key same key entries ≡ None → (k : ℕ) (d : BookEntry K) → k < length entries → same (get_or entries k d).key key ≡ false
absent-each K same key [] none k d low = absurd (omega arith)
absent-each K same key (entry ∷ entries) none zero d low = (fresh-tail K same key entry entries none).0
absent-each K same key (entry ∷ entries) none (suc k) d low = absent-each K same key entries (fresh-tail K same key entry entries none).1 k d (omega arith)

position_from-absent : (K : Type 0) (same : K → K → Bool) (key : K) (entries : List (BookEntry K)) (i : ℕ) → ((k : ℕ) (d : BookEntry K) → k < length entries → same (get_or entries k d).key key ≡ false) → position_from (λ entry. same entry.key key) i entries ≡ None
position_from-absent K same key [] i apart = refl
position_from-absent K same key (entry ∷ entries) i apart =
    rw (apart 0 entry (omega arith)) (position_from-absent K same key entries (i + 1) (λ k d low. apart (suc k) d (omega arith)))

pub position-absent : (K : Type 0) (same : K → K → Bool) (key : K) (entries : List (BookEntry K)) → ((k : ℕ) (d : BookEntry K) → k < length entries → same (get_or entries k d).key key ≡ false) → position (λ entry. same entry.key key) entries ≡ None
position-absent K same key entries apart = position_from-zero (λ entry. same entry.key key) entries ∙ position_from-absent K same key entries 0 apart

-- the first entry that has a key
position_from-first : (K : Type 0) (same : K → K → Bool) (key : K) (entries : List (BookEntry K)) (i at place : ℕ) → place ≡ i + at → at < length entries → ((d : BookEntry K) → same (get_or entries at d).key key ≡ true)
    → ((k : ℕ) (d : BookEntry K) → k < at → same (get_or entries k d).key key ≡ false) → position_from (λ entry. same entry.key key) i entries ≡ Some place
position_from-first K same key [] i at place sum within here before = absurd (omega arith)
position_from-first K same key (entry ∷ entries) i zero place sum within here before =
    let same_place : i ≡ place = omega arith in rw (here entry) (ap (λ (n : ℕ). Some n) same_place)
position_from-first K same key (entry ∷ entries) i (suc at) place sum within here before =
    rw (before 0 entry (omega arith))
    (position_from-first K same key entries (i + 1) at place (omega arith) (omega arith) here (λ k d low. before (suc k) d (omega arith)))

pub position-first : (K : Type 0) (same : K → K → Bool) (key : K) (entries : List (BookEntry K)) (at : ℕ) → at < length entries → ((d : BookEntry K) → same (get_or entries at d).key key ≡ true)
    → ((k : ℕ) (d : BookEntry K) → k < at → same (get_or entries k d).key key ≡ false) → position (λ entry. same entry.key key) entries ≡ Some at
position-first K same key entries at within here before =
    position_from-zero (λ entry. same entry.key key) entries ∙ position_from-first K same key entries 0 at at (omega arith) within here before

-- without the entry of a key
pub conn_of_key-remove : (K : Type 0) (same : K → K → Bool) → TellsApart K same → (entries : List (BookEntry K)) (at : ℕ) (d : BookEntry K) (key other : K)
    → HasEachKeyOnce same entries → IsFirst same key entries at d → conn_of_key same other (remove entries at) ≡ (if same other key then None else conn_of_key same other entries)
conn_of_key-remove K same tells [] at d key other once is = absurd (omega (arith, is.low))
conn_of_key-remove K same tells (entry ∷ entries) zero d key other once is = here_by (same other key) refl where
  equal : entry.key ≡ key
  equal = tells.equal entry.key key is.here

  here_by : (one : Bool) → same other key ≡ one → conn_of_key same other entries ≡ (if one then None else conn_of_key same other (entry ∷ entries))
  here_by true e =
      let found : other ≡ entry.key = tells.equal other key e ∙ sym equal in rw found once.0
  here_by false e =
      let apart : same entry.key other ≡ false = rw equal (other_way K same tells other key e) in rw apart
conn_of_key-remove K same tells (entry ∷ entries) (suc at) d key other once is =
    let apart : same entry.key key ≡ false = is.before 0 (omega arith) in
    rw (conn_of_key-remove K same tells entries at d key other once.1 (first-tail K same key entry entries at d is))
    (later_by (same entry.key other) (same other key) entry.conn (conn_of_key same other entries) (λ here. let equal : entry.key ≡ other = tells.equal entry.key other here in rw equal at apart))
  where
    later_by : (first one : Bool) (a : ℕ) (rest : Option ℕ) → (first ≡ true → one ≡ false) → (if first then Some a else (if one then None else rest)) ≡ (if one then None else (if first then Some a else rest))
    later_by true true a rest apart = let contradiction : true ≡ false = apart refl in cc
    later_by true false a rest apart = refl
    later_by false one a rest apart = refl
