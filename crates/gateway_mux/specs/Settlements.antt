-- What a final reply settles, as the code has it (this project's own).
use Rattle.std.specs.Prelude.{◌≡◌, ℕ, ◌==◌, ◌||◌, Bool, true, false, is_none, is_some, List, [], ◌∷◌, Option, Some, None, IsSome, IfSome, ◌<◌, if◌then◌else◌}
use Rattle.std.specs.Str.{bytes_eq}
use Rattle.channel_map.specs.declared.map.TheConstants.{PAIRS}
use Rattle.channel_map.specs.declared.map.Held.{Held}
use Rattle.channel_map.specs.declared.map.Freed.{Freed}
use Rattle.channel_map.specs.declared.map.Freed.TheVariants.{Nothing, Pair, Granted}
use Rattle.channel_map.specs.PairSets.{is_in_set}
use Rattle.channel_map.specs.Pairs.{kept, granted_now}
use Rattle.session_one.specs.declared.parts.TheConstants.{MOST_SESSIONS}
use Rattle.session_one.specs.declared.parts.Track.{Track}
use Rattle.client_slot.specs.Places.{session_where}
use Rattle.client_slot.specs.Client.{Client}
use Rattle.gateway_claim.specs.Books.{RequestKind, sets_up, tears_down, closes, plain, Final, torn_by, bound_by, is_id}
use Rattle.gateway_claim.specs.Follows.{session_asked}
use Rattle.gateway_mux.specs.declared.settlement.Settlement.{Settlement}

-- whether one of these streams has a pair of channels
abbrev pub has_pair : ℕ → List Track → Bool
has_pair pair [] = false
has_pair pair (track ∷ tracks) = track.pair == pair || has_pair pair tracks

-- the pair that is granted
abbrev pub granted_by : RequestKind → Bool → Option ℕ
granted_by (sets_up pair) true = Some pair
granted_by (sets_up pair) false = None
granted_by (tears_down id) success = None
granted_by (closes id) success = None
granted_by plain success = None

-- the id that has to be bound: that of a session that the SETUP did not name
abbrev pub bound_new : Final → Option (List ℕ) → Option (List ℕ)
bound_new final named = if is_none named then bound_by final.kind final.success final.id else None

-- the pairs of these streams are freed
abbrev pub IsFreedSet : List Track → Freed → Type 0
IsFreedSet tracks Nothing = ⊥
IsFreedSet tracks (Pair pair) = ⊥
IsFreedSet tracks (Granted pairs) = (p : ℕ) → p < PAIRS → is_in_set pairs p ≡ has_pair p tracks

-- the pairs of a session that ends, where one does
abbrev pub IsFreedWith : Option (List ℕ) → List Track → Freed → Type 0
IsFreedWith None tracks freed = freed ≡ Nothing
IsFreedWith (Some id) tracks freed = IsFreedSet tracks freed

-- A SETUP that fails frees its pair, and any other reply those of the session that ends.
abbrev pub IsFreedAs : RequestKind → Bool → List Track → Freed → Type 0
IsFreedAs (sets_up pair) true tracks freed = freed ≡ Nothing
IsFreedAs (sets_up pair) false tracks freed = freed ≡ Pair pair
IsFreedAs (tears_down id) success tracks freed = IsFreedWith (torn_by (tears_down id) success) tracks freed
IsFreedAs (closes id) success tracks freed = IsFreedSet tracks freed
IsFreedAs plain success tracks freed = freed ≡ Nothing

-- by the final reply, where one came, and by the connection
pub record IsSettled (final : Final) (client : Client) (settled : Settlement) : Type 0 where
  pub number : settled.number ≡ final.number
  pub granted : settled.granted ≡ granted_by final.kind final.success
  pub bound : settled.bound ≡ bound_new final (session_asked client.sessions client.pending)
  pub within : IfSome settled.torn (λ place. place < MOST_SESSIONS)
  pub torn : (session_where settled.torn client.sessions).id ≡ torn_by final.kind final.success
  pub freed : IsFreedAs final.kind final.success (session_where settled.torn client.sessions).tracks settled.freed

-- what the code settles is what the reply does
abbrev pub AreSettled : Option Final → Client → Option Settlement → Type 0
AreSettled None client None = Unit {0}
AreSettled None client (Some settled) = ⊥
AreSettled (Some final) client None = ⊥
AreSettled (Some final) client (Some settled) = IsSettled final client settled

-- the id of the session that ends
abbrev pub torn_of : Option Settlement → Option Client → Option (List ℕ)
torn_of None client = None
torn_of (Some settled) None = None
torn_of (Some settled) (Some client) = (session_where settled.torn client.sessions).id

-- who holds a pair once that is settled
abbrev pub held_by : Option ℕ → Freed → ℕ → Option Held → Option Held
held_by None freed pair held = kept freed held
held_by (Some granted) freed pair held = if pair == granted then granted_now held else held

-- which connection has a session's id, once one is bound, or one ends
abbrev pub holder_by : Option (List ℕ) → Option (List ℕ) → ℕ → List ℕ → Option ℕ → Option ℕ
holder_by None torn conn id holder = if is_id torn id then None else holder
holder_by (Some bound) torn conn id holder = if bytes_eq id bound then Some conn else holder

-- The books can settle that: the request is open, the pair is held, there is room for a new session, which nobody has, and
-- the session that ends is the connection's.
pub record CanSettle (asker : ℕ → Option ℕ) (held : ℕ → Option Held) (holder : List ℕ → Option ℕ) (spare conn : ℕ) (torn : Option (List ℕ)) (settled : Settlement) : Type 0 where
  pub is_open : asker settled.number ≡ Some conn
  pub is_held : IfSome settled.granted (λ pair. IsSome (held pair))
  pub has_room : IsSome settled.bound → 0 < spare
  pub is_fresh : IfSome settled.bound (λ id. holder id ≡ None)
  pub is_own : IfSome torn (λ id. holder id ≡ Some conn)

-- whether a session's place in the book is given back
abbrev pub gives_back : Option (List ℕ) → Option (List ℕ) → Bool
gives_back (Some bound) torn = false
gives_back None torn = is_some torn

-- whether it binds a session, and whether it frees one
abbrev pub binds : Option Settlement → Bool
binds None = false
binds (Some settled) = is_some settled.bound

-- whether a reply ends a session
abbrev pub unbinds : Option Settlement → Option (List ℕ) → Bool
unbinds None torn = false
unbinds (Some settled) torn = gives_back settled.bound torn

-- where a final reply came
abbrev pub asker_settled : Option Settlement → ℕ → Option ℕ → Option ℕ
asker_settled None number asker = asker
asker_settled (Some settled) number asker = if number == settled.number then None else asker

-- who holds a pair once a reply is settled
abbrev pub held_settled : Option Settlement → ℕ → Option Held → Option Held
held_settled None pair held = held
held_settled (Some settled) pair held = held_by settled.granted settled.freed pair held

-- who has a session once a reply is settled
abbrev pub holder_settled : Option Settlement → Option (List ℕ) → ℕ → List ℕ → Option ℕ → Option ℕ
holder_settled None torn conn id holder = holder
holder_settled (Some settled) torn conn id holder = holder_by settled.bound torn conn id holder
