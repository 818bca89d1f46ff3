-- What a final reply settles changes nothing for any other connection.
use Rattle.std.proofs.Common.{◌≡◌, ◌≢◌, ℕ, ◌==◌, true, false, List, Option, None, Some, ◌⊎◌, arith}
use Rattle.client_slot.specs.Client.{Client}
use Rattle.gateway_claim.specs.Books.{RequestKind, sets_up, Opened, HeldPair, Books, pair_asked, is_pair, Final, torn_by, bound_by, is_id, is_torn_with, settles}
use Rattle.gateway_claim.specs.BooksAndSlots.{IsHeldFor, IsJoined, AreSound}
use Rattle.client_machine.proofs.EachLemmas.{each_so}

-- Two that are different have unequal numbers.
pub differs : (a b : ℕ) → a ≢ b → (a == b) ≡ false
differs a b ne = grind arith

-- The pair of an open SETUP is held by who asked it.
abbrev pub IsHeldKind : Books → ℕ → RequestKind → Type 0
IsHeldKind books i (sets_up pair) = books.held pair ≡ Some (record { conn = i; session = None })
IsHeldKind books i one = Unit {0}

-- A final reply is one to an open request, whose pair is held; a session that it binds is nobody else's; and one that it ends
-- is bound to who asked.
pub record IsFinal (books : Books) (final : Final) : Type 0 where
  pub opened : books.opened final.number ≡ Some (record { conn = final.conn; kind = final.kind })
  pub held : IsHeldKind books final.conn final.kind
  pub bound : (id : List ℕ) (j : ℕ) → is_id (bound_by final.kind final.success final.id) id ≡ true → books.holder id ≡ Some j → j ≡ final.conn
  pub torn : (id : List ℕ) → is_id (torn_by final.kind final.success) id ≡ true → books.holder id ≡ Some final.conn

-- What is held then was held by the same connection, and for the same session or as the pair of the SETUP that is granted.
pub record WasHeld (books : Books) (final : Final) (p : ℕ) (held : HeldPair) : Type 0 where
  pub before : HeldPair
  pub was : books.held p ≡ Some before
  pub conn : before.conn ≡ held.conn
  pub session : ((is_pair (pair_asked final.kind) p ≡ true) × (final.success ≡ true) × (held.session ≡ final.id)) ⊎ ((before ≡ held) × (is_torn_with (torn_by final.kind final.success) held.session ≡ false))

pub was_held : (books : Books) (final : Final) (p : ℕ) (held : HeldPair) → (settles (Some final) books).held p ≡ Some held → WasHeld books final p held
was_held books final p held h = grind arith

-- A session of another connection does not end.
held_for : (books : Books) (final : Final) (j : ℕ) (session : Option (List ℕ)) (own : ℕ) → IsFinal books final → AreSound books → j ≢ final.conn → IsHeldFor books j session own → IsHeldFor (settles (Some final) books) j session own
held_for books final j session own is_final sound ne h = ((grind (arith, h.0)), h.1)

-- what is open was open
pub was_open : (books : Books) (final : Final) (g : ℕ) (opened : Opened) → (settles (Some final) books).opened g ≡ Some opened → ((g == final.number) ≡ false) × (books.opened g ≡ Some opened)
was_open books final g opened h = grind arith

-- Another connection is joined as before.
pub other_settled : (books : Books) (final : Final) (j : ℕ) (client : Client) (count : ℕ) → IsFinal books final → AreSound books → j ≢ final.conn → IsJoined books j client count → IsJoined (settles (Some final) books) j client count
other_settled books final j client count is_final sound ne joined = grind (arith, each_so, held_for, was_open)
