-- Lemmas on entries whose keys rise by an order that tells keys apart.
use Rattle.std.proofs.Common.{◌≡◌, ◌∙◌, ℕ, suc, ◌+◌, ◌-◌, ◌<◌, ◌≤◌, Bool, true, false, List, [], ◌∷◌, ◌++◌, length, get_or, Some, None, Result, Ok, Err, IfErr, inl, inr, refl, sym, ap, arith}
use Rattle.std.specs.declared.cmp.Ordering.{Ordering}
use Rattle.std.specs.declared.cmp.Ordering.TheVariants.{Less, Equal, Greater}
use Rattle.std.specs.Ordering.{is_eq, is_lt, ordering_index, ordering_reverse}
use Rattle.std.specs.Cmp.{IsTotalOrder}
use Rattle.std.specs.Result.{result_ok}
use Rattle.std.specs.List.{position, insert, remove}
use Rattle.std.specs.List.Sorted.{IsSearchInRange, IsBinarySearchResult, IsNonDecreasingBy}
use Rattle.std.proofs.lemmas.Bool.{cases_lt, cases_eq}
use Rattle.std.proofs.lemmas.Cmp.{tied_itself}
use Rattle.std.proofs.lemmas.List.Edits.{length-insert, get_or-insert_below, get_or-insert_at, get_or-insert_above, length-remove, get_or-remove_below, get_or-remove_above}
use Rattle.std.proofs.lemmas.List.Sorted.{searchable_from_sorted}
use Rattle.up_books.specs.declared.entry.BookEntry.{BookEntry}
use Rattle.up_books.specs.Entries.{HasRisingKeys, IsGapFor}
use Rattle.up_books.proofs.EntryLemmas.{TellsApart, HasEachKeyOnce, conn_of_key-absent, position-absent, position-first}

-- an order of keys, of which two are equal exactly where a test says that they are one
pub record IsKeyOrder (K : Type 0) (same : K → K → Bool) (order : K → K → Ordering) : Type 0 where
  pub total : IsTotalOrder order
  pub one : (a b : K) → order a b ≡ Equal → a ≡ b
  pub tells : (a b : K) → same a b ≡ is_eq (order a b)

equal_by : (o : Ordering) → is_eq o ≡ true → o ≡ Equal
equal_by Less e = cc
equal_by Equal e = refl
equal_by Greater e = cc

pub insert-end : {X : Type 0} (xs : List X) (y : X) → insert xs (length xs) y ≡ xs ++ y ∷ []
insert-end [] y = refl
insert-end (x ∷ xs) y = ap (λ ys. x ∷ ys) (insert-end xs y)

module _ (K : Type 0) (same : K → K → Bool) (order : K → K → Ordering) (laws : IsKeyOrder K same order) where
  pub tells_apart : TellsApart K same
  tells_apart = record { equal = λ a b is. laws.one a b (equal_by (order a b) (sym (laws.tells a b) ∙ is)); alike = λ a. laws.tells a a ∙ ap is_eq (tied_itself laws.total a) }

  -- a key that is lower or higher is another
  back : (a b : K) (o : Ordering) → order a b ≡ o → order b a ≡ ordering_reverse o
  back a b o is = laws.total.antisymm b a ∙ ap ordering_reverse is

  lower : (a b : K) → order a b ≡ Less → same a b ≡ false
  lower a b is = laws.tells a b ∙ ap is_eq is

  higher : (a b : K) → order a b ≡ Greater → same a b ≡ false
  higher a b is = laws.tells a b ∙ ap is_eq is

  -- keys that rise are each there once
  rising-tail : (entry : BookEntry K) (entries : List (BookEntry K)) → HasRisingKeys order (entry ∷ entries) → HasRisingKeys order entries
  rising-tail entry entries rises i j d before within = rises (suc i) (suc j) d (omega (arith, before)) (omega (arith, within))

  pub rising-once : (entries : List (BookEntry K)) → HasRisingKeys order entries → HasEachKeyOnce same entries
  rising-once [] rises = tt
  rising-once (entry ∷ entries) rises = (
    conn_of_key-absent K same entry.key entries (λ k d low. higher _ _ (back _ _ Less (rises 0 (suc k) d (omega arith) (omega (arith, low))))),
    rising-once entries (rising-tail entry entries rises),
  )

  -- where a key stands, it stands first; a gap for it tells that it doesn't
  pub position-found : (entries : List (BookEntry K)) (key : K) (at : ℕ) → HasRisingKeys order entries → at < length entries → ((d : BookEntry K) → order (get_or entries at d).key key ≡ Equal)
      → position (λ entry. same entry.key key) entries ≡ Some at
  position-found entries key at rises within is =
      position-first K same key entries at within (λ d. laws.tells _ _ ∙ ap is_eq (is d))
      (λ k d low. let equal : (get_or entries at d).key ≡ key = laws.one _ _ (is d) in rw equal at (lower _ _ (rises k at d low within)))

  pub position-gap : (entries : List (BookEntry K)) (key : K) (at : ℕ) → IsGapFor order key at entries → position (λ entry. same entry.key key) entries ≡ None
  position-gap entries key at gap = position-absent K same key entries (λ k d low. elim (cases_lt k at) [
    | inl below ↦ lower _ _ (gap.below k d below)
    | inr above ↦ higher _ _ (gap.above k d above low)
  ])

  -- all that stand up to a lower key are lower, and all from a higher one on are higher
  pub lower-below : (entries : List (BookEntry K)) (key : K) (at : ℕ) → HasRisingKeys order entries → at < length entries → ((d : BookEntry K) → order (get_or entries at d).key key ≡ Less)
      → (k : ℕ) (d : BookEntry K) → k < at + 1 → order (get_or entries k d).key key ≡ Less
  lower-below entries key at rises within low k d up_to = elim (cases_eq k at) [
    | inl is ↦ rw is (low d)
    | inr apart ↦ laws.total.trans _ _ _ (rises k at d (omega arith) within) (low d)
  ]

  pub higher-above : (entries : List (BookEntry K)) (key : K) (at : ℕ) → HasRisingKeys order entries → at < length entries → ((d : BookEntry K) → order (get_or entries at d).key key ≡ Greater)
      → (k : ℕ) (d : BookEntry K) → at ≤ k → k < length entries → order (get_or entries k d).key key ≡ Greater
  higher-above entries key at rises within high k d from bound = elim (cases_eq k at) [
    | inl is ↦ rw is (high d)
    | inr apart ↦ back _ _ Less (laws.total.trans _ _ _ (back _ _ Greater (high d)) (rises at k d (omega arith) bound))
  ]

  -- what a search by halving answers
  comparisons_rise : (entries : List (BookEntry K)) (key : K) → HasRisingKeys order entries → IsNonDecreasingBy (λ entry. ordering_index (order entry.key key)) entries
  comparisons_rise entries key rises =
      searchable_from_sorted laws.total (λ (entry : BookEntry K). entry.key) entries key (λ k d low high. ap is_lt (back _ _ Less (rises k (k + 1) d (omega arith) high)))

  pub searched : (entries : List (BookEntry K)) (key : K) (r : Result ℕ ℕ) → HasRisingKeys order entries → IsSearchInRange r (length entries) → IsBinarySearchResult (λ entry. order entry.key key) entries r
      → record { found : result_ok r ≡ position (λ entry. same entry.key key) entries; gap : IfErr r (λ at. IsGapFor order key at entries) }
  searched entries key (Ok at) rises in_range is = record { found = sym (position-found entries key at rises in_range is); gap = tt }
  searched entries key (Err at) rises in_range parted =
      let parts = parted (comparisons_rise entries key rises) in
      let gap : IsGapFor order key at entries = record { within = in_range; below = λ k d low. parts.0 k d (omega arith) low; above = λ k d low high. parts.1 k d low high } in
      record { found = sym (position-gap entries key at gap); gap = gap }

  -- without one entry
  pub rising-remove : (entries : List (BookEntry K)) (at : ℕ) → at < length entries → HasRisingKeys order entries → HasRisingKeys order (remove entries at)
  rising-remove entries at within rises i j d before bound =
      let shorter = length-remove entries at within in
      elim (cases_lt j at) [
        | inl low ↦ rw (get_or-remove_below entries at d i (omega arith) within, get_or-remove_below entries at d j low within) (rises i j d before (omega arith))
        | inr high ↦ elim (cases_lt i at) [
          | inl low ↦ rw (get_or-remove_below entries at d i low within, get_or-remove_above entries at d j high within) (rises i (j + 1) d (omega arith) (omega (arith, shorter, bound)))
          | inr both ↦ rw (get_or-remove_above entries at d i both within, get_or-remove_above entries at d j high within) (rises (i + 1) (j + 1) d (omega arith) (omega (arith, shorter, bound)))
        ]
      ]

  -- with one entry more, in the gap for its key
  module _ (entries : List (BookEntry K)) (at : ℕ) (new : BookEntry K) (gap : IsGapFor order new.key at entries) (rises : HasRisingKeys order entries) where
    abbrev all : List (BookEntry K)
    all = insert entries at new

    above : (d : BookEntry K) (k : ℕ) → at < k → get_or all k d ≡ get_or entries (k - 1) d
    above d k over = let next : k ≡ k - 1 + 1 = omega arith in ap (λ q. get_or all q d) next ∙ get_or-insert_above entries at new d (k - 1) (omega arith) gap.within

    here : (d : BookEntry K) (k : ℕ) → k ≡ at → get_or all k d ≡ new
    here d k is = ap (λ q. get_or all q d) is ∙ get_or-insert_at entries at new d gap.within

    past : (d : BookEntry K) (i j : ℕ) → i < j → at < j → j - 1 < length entries → order (get_or all i d).key (get_or entries (j - 1) d).key ≡ Less
    past d i j before over within = elim (cases_lt i at) [
      | inl low ↦ rw (get_or-insert_below entries at new d i low gap.within) (rises i (j - 1) d (omega arith) within)
      | inr high ↦ elim (cases_eq i at) [
        | inl is ↦ rw (here d i is) (back _ _ Greater (gap.above (j - 1) d (omega arith) within))
        | inr apart ↦ rw (above d i (omega arith)) (rises (i - 1) (j - 1) d (omega arith) within)
      ]
    ]

    pub rising-insert : HasRisingKeys order (insert entries at new)
    rising-insert i j d before bound =
        let longer = length-insert entries at new gap.within in
        elim (cases_lt j at) [
          | inl low ↦ rw (get_or-insert_below entries at new d i (omega arith) gap.within, get_or-insert_below entries at new d j low gap.within) (rises i j d before (omega (arith, gap.within)))
          | inr high ↦ elim (cases_eq j at) [
            | inl is ↦ rw (get_or-insert_below entries at new d i (omega arith) gap.within, here d j is) (gap.below i d (omega arith))
            | inr apart ↦ rw (above d j (omega arith)) (past d i j before (omega arith) (omega (arith, longer, bound)))
          ]
        ]
