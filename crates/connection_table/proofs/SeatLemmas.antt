-- Lemmas on the keys of connections and what is kept under them.
use Rattle.std.proofs.Common.{◌≡◌, ◌≢◌, ℕ, true, false, Option, None, Some, is_some, refl, ◌∙◌, ap, subst}
use Rattle.std.specs.Option.{option_and_then}
use Rattle.slab.specs.Slab.{get as slab_get}
use Rattle.client_slot.specs.Client.{Client}
use Rattle.connection_table.specs.declared.table.KeyedSlot.{KeyedSlot}
use Rattle.connection_table.specs.declared.table.ConnectionTable.{ConnectionTable}
use Rattle.connection_table.specs.Tables.{client_at, IsKeyOf, IsSeatAt}

-- a key that none of the connections has
pub not_among : (keys : ℕ → Option ℕ) (slots : ℕ → Option Client) (key : ℕ) → ((i k : ℕ) → keys i ≡ Some k → is_some (slots k) ≡ true) → slots key ≡ None → (i : ℕ) → keys i ≢ Some key
not_among keys slots key held none i is =
    let here : is_some (slots key) ≡ true = held i key is in
    let not_here : is_some (slots key) ≡ false = ap is_some none in
    cc

-- where more is kept, all that was is
pub kept_more : (keys : ℕ → Option ℕ) (old new : ℕ → Option Client) (key : ℕ) → ((i k : ℕ) → keys i ≡ Some k → is_some (old k) ≡ true) → old key ≡ None → ((k : ℕ) → k ≢ key → new k ≡ old k)
    → (i k : ℕ) → keys i ≡ Some k → new k ≡ old k
kept_more keys old new key held none others i k is = others k (λ same. not_among keys old key held none i (is ∙ ap (λ n. Some n) same))

-- a connection that is not there has no key
pub absent_key : (slots : ℕ → Option Client) (at : Option ℕ) → ((k : ℕ) → at ≡ Some k → is_some (slots k) ≡ true) → option_and_then slots at ≡ None → at ≡ None
absent_key slots None held none = refl
absent_key slots (Some k) held none =
    let here : is_some (slots k) ≡ true = held k refl in
    let not_here : is_some (slots k) ≡ false = ap is_some none in
    cc

pub same_clients : (keys : ℕ → Option ℕ) (old new : ℕ → Option Client) (i : ℕ) → ((i k : ℕ) → keys i ≡ Some k → new k ≡ old k) → option_and_then new (keys i) ≡ option_and_then old (keys i)
same_clients keys old new i kept = by (keys i) refl where
  by : (at : Option ℕ) → keys i ≡ at → option_and_then new at ≡ option_and_then old at
  by None e = refl
  by (Some k) e = kept i k e

-- One key's slot changes, and every other key keeps what it had.
pub record Changes (conn key : ℕ) (keys : ℕ → Option ℕ) (old new : ℕ → Option Client) : Type 0 where
  pub found : keys conn ≡ Some key
  pub apart : (i : ℕ) → keys i ≡ Some key → conn ≡ i
  pub others : (k : ℕ) → k ≢ key → new k ≡ old k

pub changes_other : {conn key : ℕ} {keys : ℕ → Option ℕ} {old new : ℕ → Option Client} → (c : Changes conn key keys old new) (i : ℕ) (at : Option ℕ) → keys i ≡ at → conn ≢ i →
    option_and_then new at ≡ option_and_then old at
changes_other c i None e other = refl
changes_other c i (Some k) e other = c.others k (λ same. other (c.apart i (e ∙ ap (λ n. Some n) same)))

-- what is kept of a connection, under its key
pub kept_at : (seats : ConnectionTable) (conn key : ℕ) → IsKeyOf seats conn key → client_at seats conn ≡ slab_get seats.slots key
kept_at seats conn key is = ap (λ (at : Option ℕ). option_and_then (λ k. slab_get seats.slots k) at) is

-- what is kept at a seat that is there
pub seated : (seats : ConnectionTable) (conn : ℕ) (seat : Option KeyedSlot) (one : KeyedSlot) → IsSeatAt seats conn seat → seat ≡ Some one → IsKeyOf seats conn one.key × (client_at seats conn ≡ Some one.slot.now)
seated seats conn seat one at is = subst (λ (seat : Option KeyedSlot). IsSeatAt seats conn seat) is at
