-- What a search among rising numbers tells of the key that stands beside a number.
use Rattle.std.proofs.Common.{◌≡◌, ◌∙◌, ℕ, ◌<◌, ◌≤◌, ◌==◌, nat_lt, Bool, true, false, List, length, Option, Some, None, is_some, get_or, if◌then◌else◌, refl, sym, ap, subst, arith}
use Rattle.std.specs.declared.result.Result.{Result}
use Rattle.std.specs.declared.result.Result.TheVariants.{Ok, Err}
use Rattle.std.specs.List.Sorted.{IsBinarySearchResult}
use Rattle.std.specs.Ordering.{nat_cmp}
use Rattle.std.specs.List.{remove}
use Rattle.std.proofs.lemmas.Bool.{eqb-true}
use Rattle.std.proofs.lemmas.List.Edits.{length-remove}
use Rattle.std.proofs.lemmas.List.Sorted.{searched}
use Rattle.connection_table.specs.RisingNumbers.{IsRising, key_beside}
use Rattle.connection_table.proofs.OrderLemmas.{IsAbsent, absent_beside, found_beside, never_falls, removed_beside, removed_rises}

abbrev IsSearched : List ℕ → ℕ → Result ℕ ℕ → Type 0
IsSearched numbers conn result = IsBinarySearchResult (λ y. nat_cmp y conn) numbers result

-- a number that was found
pub found_key : (numbers keys slice : List ℕ) (conn place : ℕ) → slice ≡ numbers → IsRising numbers → length keys ≡ length numbers → IsSearched slice conn (Ok place) → (place < length numbers) × (key_beside numbers keys conn ≡ Some (get_or keys place 0))
found_key numbers keys slice conn place same rises paired found =
    let at = searched numbers conn (Ok place) (subst (λ (all : List ℕ). IsSearched all conn (Ok place)) same found) (never_falls numbers rises) in
    (at.0, found_beside numbers keys conn place rises paired at.0 at.1)

-- the place of a number that was not found: lower ones stand before it, and higher ones from it on
pub record IsPlace (numbers : List ℕ) (conn place : ℕ) : Type 0 where
  pub within : place ≤ length numbers
  pub low : (k : ℕ) → k < place → get_or numbers k 0 < conn
  pub high : (k : ℕ) → place ≤ k → k < length numbers → conn < get_or numbers k 0

pub is_place : (numbers slice : List ℕ) (conn place : ℕ) → slice ≡ numbers → IsRising numbers → IsSearched slice conn (Err place) → IsPlace numbers conn place
is_place numbers slice conn place same rises found =
    let at = searched numbers conn (Err place) (subst (λ (all : List ℕ). IsSearched all conn (Err place)) same found) (never_falls numbers rises) in
    record { within = at.0; low = at.1; high = at.2 }

-- no number from that one on, and below the one that stands at its place, is there
pub absent_here : (numbers : List ℕ) (from place i : ℕ) → IsPlace numbers from place → from ≤ i → ((k : ℕ) → place ≤ k → k < length numbers → i < get_or numbers k 0) → IsAbsent numbers i
absent_here numbers from place i is low high k within same = by (nat_lt k place) refl where
  by : (b : Bool) → nat_lt k place ≡ b → ⊥
  by true e = let under : k < place = grind (arith, e) in let less = is.low k under in omega (arith, less, low, same)
  by false e = let over : place ≤ k = grind (arith, e) in let more = high k over within in omega (arith, more, same)

pub missing_key : (numbers keys slice : List ℕ) (conn place : ℕ) → slice ≡ numbers → IsRising numbers → IsSearched slice conn (Err place) → key_beside numbers keys conn ≡ None
missing_key numbers keys slice conn place same rises found =
    let is = is_place numbers slice conn place same rises found in
    absent_beside numbers keys conn (absent_here numbers conn place conn is (grind arith) is.high)

-- the first number from that one on, which was not found
pub record IsNextAt (numbers keys : List ℕ) (from conn : ℕ) : Type 0 where
  pub low : from ≤ conn
  pub gap : (i : ℕ) → from ≤ i → i < conn → key_beside numbers keys i ≡ None
  pub there : is_some (key_beside numbers keys conn) ≡ true

pub next_at : (numbers keys : List ℕ) (from place : ℕ) → IsRising numbers → length keys ≡ length numbers → IsPlace numbers from place → place < length numbers → IsNextAt numbers keys from (get_or numbers place 0)
next_at numbers keys from place rises paired is within = record {
  low = let up = is.high place (grind arith) within in omega (arith, up);
  gap = λ i low under. absent_beside numbers keys i (absent_here numbers from place i is low (λ k over inside. let up = never_falls numbers rises place k over inside in omega (arith, up, under)));
  there = ap is_some (found_beside numbers keys (get_or numbers place 0) place rises paired within refl);
}

pub none_from : (numbers keys : List ℕ) (from place i : ℕ) → IsPlace numbers from place → length numbers ≤ place → from ≤ i → key_beside numbers keys i ≡ None
none_from numbers keys from place i is past low = absent_beside numbers keys i (absent_here numbers from place i is low (λ k over inside. absurd (omega (arith, past, over, inside))))

-- A number that was found is taken out, with its key.
pub record IsWithout (numbers keys left left_keys : List ℕ) (conn : ℕ) : Type 0 where
  pub keys_left : (i : ℕ) → key_beside left left_keys i ≡ (if conn == i then None else key_beside numbers keys i)
  pub rising : IsRising left
  pub paired : length left_keys ≡ length left

pub taken_out : (numbers keys slice : List ℕ) (conn place : ℕ) → slice ≡ numbers → IsRising numbers → length keys ≡ length numbers → IsSearched slice conn (Ok place) → IsWithout numbers keys (remove numbers place) (remove keys place) conn
taken_out numbers keys slice conn place same rises paired found =
    let at = searched numbers conn (Ok place) (subst (λ (all : List ℕ). IsSearched all conn (Ok place)) same found) (never_falls numbers rises) in
    let within = at.0 in
    record {
      keys_left = λ i. removed_beside numbers keys conn place i rises paired within at.1;
      rising = removed_rises numbers place rises within;
      paired = let one = length-remove numbers place within in let other = length-remove keys place (omega (arith, within, paired)) in omega (arith, one, other, paired);
    }

-- one that was not found isn't there
pub stays_out : (key : ℕ → Option ℕ) (conn i : ℕ) → key conn ≡ None → key i ≡ (if conn == i then None else key i)
stays_out key conn i none = by (conn == i) refl where
  by : (t : Bool) → (conn == i) ≡ t → key i ≡ (if t then None else key i)
  by true e = ap key (sym (eqb-true conn i e)) ∙ none
  by false e = refl
