-- A pair of channels that is held is one of all.
use Rattle.std.proofs.Common.{◌≡◌, ℕ, ◌<◌, ◌==◌, Bool, true, false, cond, List, [], ◌∷◌, Option, Some, None, IsSome, IfSome, refl, subst}
use Rattle.std.specs.Prelude.{is_some}
use Rattle.std.proofs.lemmas.Bool.{eqb-true}
use Rattle.channel_map.specs.declared.map.TheConstants.{PAIRS}
use Rattle.channel_map.proofs.PairLemmas.{lowest_free_below}
use Rattle.gateway_claim.specs.declared.event.UpMessage.{UpMessage}
use Rattle.gateway_claim.specs.declared.event.UpMessage.TheVariants.{Request, Frame}
use Rattle.gateway_claim.specs.Books.{RequestKind, plain, is_setup_text, is_teardown_text, setup_kind, teardown_kind, id_in_text, kind_of_text, kind_of, HeldPair, Books, new_books, pair_asked, is_pair, lends, Final, torn_by, held_left, granted_to, held_then, settles, free_in}
use Rattle.gateway_claim.specs.Happenings.{HistoryEntry, fault_in}
use Rattle.gateway_claim.specs.OwnEvents.{turn, settled_by, final_in, lends_where, has_shut, books_after, books_of}

abbrev pub IsLow : Books → Type 0
IsLow books = (p : ℕ) → IsSome (books.held p) → p < PAIRS

-- what is settled
then_held : (final : Option Final) (p : ℕ) (held : Option HeldPair) → IsSome (held_then final p held) → IsSome held
then_held None p held some = some
then_held (Some final) p (Some held) some = refl
then_held (Some final) p None some = absurd (by (is_pair (pair_asked final.kind) p) final.success some)
  where
    by : (t success : Bool) → IsSome (cond t (granted_to success final.id None) (held_left (torn_by final.kind final.success) None)) → ⊥
    by true true some = cc
    by true false some = cc
    by false success some = cc

settled_low : (books : Books) (final : Option Final) → IsLow books → IsLow (settles final books)
settled_low books final low p some = low p (then_held final p (books.held p) some)

-- what is asked
free_low : (books : Books) → IfSome (free_in books) (λ pair. pair < PAIRS)
free_low books = by (free_in books) refl
  where
    by : (lowest : Option ℕ) → free_in books ≡ lowest → IfSome lowest (λ pair. pair < PAIRS)
    by None e = tt
    by (Some pair) e = lowest_free_below _ pair e

text_low : (text : List ℕ) (pair : Option ℕ) (shut : Bool) → IfSome pair (λ one. one < PAIRS) → IfSome (pair_asked (kind_of_text text pair shut)) (λ one. one < PAIRS)
text_low text pair shut low = by (is_setup_text text) (is_teardown_text text) pair (id_in_text text) shut low
  where
    by : (t u : Bool) (one : Option ℕ) (id : Option (List ℕ)) (shut : Bool) → IfSome one (λ p. p < PAIRS) → IfSome (pair_asked (cond t (setup_kind one) (cond u (teardown_kind shut id) plain))) (λ p. p < PAIRS)
    by true u None id shut low = tt
    by true u (Some one) id shut low = low
    by false true one None shut low = tt
    by false true one (Some id) true low = tt
    by false true one (Some id) false low = tt
    by false false one id shut low = tt

kind_low : (message : Option UpMessage) (pair : Option ℕ) (shut : Bool) → IfSome pair (λ one. one < PAIRS) → IfSome (kind_of message pair shut) (λ kind. IfSome (pair_asked kind) (λ one. one < PAIRS))
kind_low None pair shut low = tt
kind_low (Some (Request text)) pair shut low = text_low text pair shut low
kind_low (Some (Frame text)) pair shut low = tt

lent_low : (books : Books) (conn : ℕ) (kind : RequestKind) → IfSome (pair_asked kind) (λ one. one < PAIRS) → IsLow books → IsLow (lends conn kind books)
lent_low books conn kind asked low p some = by (pair_asked kind) asked some
  where
    here : (one : ℕ) → one < PAIRS → (t : Bool) → (one == p) ≡ t → IsSome (cond t (Some (record { conn = conn; session = None })) (books.held p)) → p < PAIRS
    here one within true e some = subst (λ (n : ℕ). n < PAIRS) (eqb-true one p e) within
    here one within false e some = low p some

    by : (pair : Option ℕ) → IfSome pair (λ one. one < PAIRS) → IsSome (cond (is_pair pair p) (Some (record { conn = conn; session = None })) (books.held p)) → p < PAIRS
    by None asked some = low p some
    by (Some one) asked some = here one asked (one == p) refl some

lends_low : (who : Option ℕ) (kind : Option RequestKind) (books : Books) → IfSome kind (λ one. IfSome (pair_asked one) (λ pair. pair < PAIRS)) → IsLow books → IsLow (lends_where who kind books)
lends_low None kind books asked low = low
lends_low (Some conn) None books asked low = low
lends_low (Some conn) (Some kind) books asked low = lent_low books conn kind asked low

none_low : IsLow new_books
none_low p some = cc

pub books_low : (T : List HistoryEntry) → IsLow (books_of T)
books_low [] = none_low
books_low (entry ∷ earlier) = by (is_some (fault_in (entry ∷ earlier))) (books_low earlier)
  where
    by : (t : Bool) → IsLow (books_of earlier) → IsLow (cond t (books_of earlier) (books_after (books_of earlier) earlier entry))
    by true low = low
    by false low =
        lends_low (turn (books_of earlier) entry.happening)
        (kind_of entry.outcome.to_up.message (free_in (settled_by (books_of earlier) entry.happening)) (has_shut (turn (books_of earlier) entry.happening) (entry ∷ earlier)))
        (settled_by (books_of earlier) entry.happening)
        (kind_low entry.outcome.to_up.message (free_in (settled_by (books_of earlier) entry.happening)) (has_shut (turn (books_of earlier) entry.happening) (entry ∷ earlier)) (free_low (settled_by (books_of earlier) entry.happening)))
        (settled_low (books_of earlier) (final_in (books_of earlier) entry.happening) low)
