-- Lemmas on the ids of sessions.
use Rattle.std.proofs.Common.{◌≡◌, ◌∙◌, ℕ, Bool, true, false, List, get_or, Some, None, if◌then◌else◌, refl, sym, ap}
use Rattle.std.specs.Str.{bytes_eq}
use Rattle.std.specs.declared.cmp.Ordering.{Ordering}
use Rattle.std.specs.declared.cmp.Ordering.TheVariants.{Less, Equal, Greater}
use Rattle.std.specs.Ordering.{is_eq, nat_cmp, ordering_then}
use Rattle.std.specs.Cmp.Lexicographic.{slice_cmp}
use Rattle.std.specs.List.{position, insert, remove}
use Rattle.std.proofs.lemmas.Slice.Eq.{bytes_eq-Decides}
use Rattle.std.proofs.lemmas.Cmp.{nat_cmp_total, nat_list_cmp_total, on_total, then_total, tied_itself}
use Rattle.std.proofs.lemmas.Map.Text.{is_eq-slice_cmp}
use Rattle.up_books.specs.declared.entry.BookEntry.{BookEntry}
use Rattle.up_books.specs.Entries.{IsGapFor}
use Rattle.up_books.specs.Ids.{id_end, id_order, holder_in, IsIds}
use Rattle.up_books.proofs.EntryLemmas.{TellsApart, conn_of_key-none, conn_of_key-some, first-position, conn_of_key-insert, conn_of_key-remove}
use Rattle.up_books.proofs.KeyLemmas.{IsKeyOrder, tells_apart, rising-once, rising-remove, rising-insert}

-- Of two orders, one after the other, the second alone tells which keys are one, where the first parts none of these.
then_equal : (o p : Ordering) → ordering_then o p ≡ Equal → p ≡ Equal
then_equal Less p e = cc
then_equal Equal p e = e
then_equal Greater p e = cc

then_tells : (same : Bool) (o p : Ordering) → same ≡ is_eq p → (same ≡ true → o ≡ Equal) → same ≡ is_eq (ordering_then o p)
then_tells true o p tells one = rw (one refl) tells
then_tells false Less p tells one = refl
then_tells false Equal p tells one = tells
then_tells false Greater p tells one = refl

pub ids_order : IsKeyOrder (List ℕ) bytes_eq id_order
ids_order = record {
  total = then_total (on_total id_end nat_cmp_total) nat_list_cmp_total;
  one = λ a b is. same_by a b (then_equal (nat_cmp (id_end a) (id_end b)) (slice_cmp nat_cmp a b) is);
  tells = λ a b. then_tells (bytes_eq a b) (nat_cmp (id_end a) (id_end b)) (slice_cmp nat_cmp a b) (sym (is_eq-slice_cmp a b)) (λ same. ends_by a b ((bytes_eq-Decides a b).0 same));
} where
  same_by : (a b : List ℕ) → slice_cmp nat_cmp a b ≡ Equal → a ≡ b
  same_by a b is = (bytes_eq-Decides a b).0 (sym (is_eq-slice_cmp a b) ∙ ap is_eq is)

  ends_by : (a b : List ℕ) → a ≡ b → nat_cmp (id_end a) (id_end b) ≡ Equal
  ends_by a b same = rw same (tied_itself nat_cmp_total (id_end b))

ids_tell : TellsApart (List ℕ) bytes_eq
ids_tell = tells_apart (List ℕ) bytes_eq id_order ids_order

-- which place tells whose an id is
pub holder-none : (id : List ℕ) (bound : List (BookEntry (List ℕ))) → position (λ entry. bytes_eq entry.key id) bound ≡ None → holder_in id bound ≡ None
holder-none id bound none = conn_of_key-none (List ℕ) bytes_eq id bound none

pub holder-some : (id : List ℕ) (bound : List (BookEntry (List ℕ))) (at : ℕ) (d : BookEntry (List ℕ)) → position (λ entry. bytes_eq entry.key id) bound ≡ Some at → holder_in id bound ≡ Some (get_or bound at d).conn
holder-some id bound at d is = conn_of_key-some (List ℕ) bytes_eq id bound at d (first-position (List ℕ) bytes_eq id bound at d is)

-- an id that no connection has is bound
pub holder-bind : (id : List ℕ) (conn : ℕ) (other : List ℕ) (at : ℕ) (bound : List (BookEntry (List ℕ))) → IsGapFor id_order id at bound → holder_in id bound ≡ None
    → holder_in other (insert bound at (record { key = id; conn = conn })) ≡ (if bytes_eq other id then Some conn else holder_in other bound)
holder-bind id conn other at bound gap fresh = conn_of_key-insert (List ℕ) bytes_eq ids_tell bound at (record { key = id; conn = conn }) other gap.within fresh

pub ids-bind : (id : List ℕ) (conn at : ℕ) (bound : List (BookEntry (List ℕ))) → IsGapFor id_order id at bound → IsIds bound → IsIds (insert bound at (record { key = id; conn = conn }))
ids-bind id conn at bound gap is = rising-insert (List ℕ) bytes_eq id_order ids_order bound at (record { key = id; conn = conn }) gap is

-- an id is bound no longer
pub holder-free : (id other : List ℕ) (at : ℕ) (bound : List (BookEntry (List ℕ))) (d : BookEntry (List ℕ)) → IsIds bound → position (λ entry. bytes_eq entry.key id) bound ≡ Some at
    → holder_in other (remove bound at) ≡ (if bytes_eq other id then None else holder_in other bound)
holder-free id other at bound d is found = conn_of_key-remove (List ℕ) bytes_eq ids_tell bound at d id other (rising-once (List ℕ) bytes_eq id_order ids_order bound is) (first-position (List ℕ) bytes_eq id bound at d found)

pub ids-free : (id : List ℕ) (at : ℕ) (bound : List (BookEntry (List ℕ))) (d : BookEntry (List ℕ)) → IsIds bound → position (λ entry. bytes_eq entry.key id) bound ≡ Some at → IsIds (remove bound at)
ids-free id at bound d is found = rising-remove (List ℕ) bytes_eq id_order ids_order bound at (first-position (List ℕ) bytes_eq id bound at d found).low is

-- where it was not bound, nothing changes
pub holder-absent : (id other : List ℕ) (bound : List (BookEntry (List ℕ))) → holder_in id bound ≡ None → holder_in other bound ≡ (if bytes_eq other id then None else holder_in other bound)
holder-absent id other bound none = absent_by (bytes_eq other id) refl where
  absent_by : (b : Bool) → bytes_eq other id ≡ b → holder_in other bound ≡ (if b then None else holder_in other bound)
  absent_by true e = let equal : other ≡ id = (bytes_eq-Decides other id).0 e in rw equal none
  absent_by false e = refl
