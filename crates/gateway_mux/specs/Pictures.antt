-- What the multiplexer has of its connections while the connection to the server stands, as functions, and when that is
-- what a history has (this project's own).
use Rattle.std.specs.Prelude.{◌≡◌, ◌<◌, ℕ, List, [], ◌∷◌, Option, Some, None, IsSome, is_some, if◌then◌else◌}
use Rattle.std.specs.Option.{option_map}
use Rattle.rtsp_uri.specs.declared.base.Bases.{Bases}
use Rattle.channel_map.specs.declared.map.TheConstants.{PAIRS}
use Rattle.channel_map.specs.declared.map.Held.{Held}
use Rattle.channel_map.specs.Pairs.{held_at}
use Rattle.up_books.specs.Ids.{holder_of}
use Rattle.up_books.specs.Numbers.{asker_of}
use Rattle.client_slot.specs.Client.{Client}
use Rattle.client_slot.specs.Session.{PlayerSession}
use Rattle.gateway_claim.specs.Books.{Opened, HeldPair, Books}
use Rattle.gateway_claim.specs.Happenings.{HistoryEntry, fault_in}
use Rattle.gateway_claim.specs.OwnEvents.{books_of}
use Rattle.gateway_claim.specs.Follows.{IsHistory}
use Rattle.gateway_claim.specs.Turns.{shared_in}
use Rattle.connection_table.specs.declared.table.ConnectionTable.{ConnectionTable}
use Rattle.gateway_mux.specs.declared.upstream.UpstreamBooks.{UpstreamBooks}
use Rattle.gateway_mux.specs.Departure.{IsKeptUnlessGone}
use Rattle.gateway_mux.specs.Room.{HasRoom}
use Rattle.gateway_mux.specs.Settlements.{has_pair}
use Rattle.connection_table.specs.Tables.{client_at}
use Rattle.gateway_mux.specs.Turn.{kind_open}

-- the players' connections; who asked each open request; who holds each pair of channels; which connection has each
-- session; and how many numbers were issued
pub record Picture : Type 0 where
  pub clients : ℕ → Option Client
  pub asker : ℕ → Option ℕ
  pub held : ℕ → Option Held
  pub holder : List ℕ → Option ℕ
  pub issued : ℕ

-- what the multiplexer has, as functions
abbrev pub picture : ConnectionTable → UpstreamBooks → Picture
picture seats upstream = record {
  clients = client_at seats;
  asker = λ number. asker_of upstream.requests number;
  held = λ pair. held_at pair upstream.channels;
  holder = λ id. holder_of upstream.sessions id;
  issued = upstream.requests.issued;
}

-- The same as the books of a history. What a connection alone would count is no part of it.
abbrev pub opened_in : Picture → ℕ → Option Opened
opened_in picture number = option_map (λ conn. record { conn = conn; kind = kind_open (picture.clients conn) }) (picture.asker number)

-- the id of the session one of whose streams has a pair
abbrev pub session_holding : ℕ → List PlayerSession → Option (List ℕ)
session_holding pair [] = None
session_holding pair (one ∷ more) = if has_pair pair one.tracks then one.id else session_holding pair more

-- that of a connection
abbrev pub session_on : ℕ → Option Client → Option (List ℕ)
session_on pair None = None
session_on pair (Some client) = session_holding pair client.sessions

-- a pair that is held, with the session that it is held for
abbrev pub held_for : Picture → Held → HeldPair
held_for picture held = record { conn = held.conn; session = if held.granted then session_on held.pair (picture.clients held.conn) else None }

-- who holds a pair
abbrev pub held_in : Picture → ℕ → Option HeldPair
held_in picture pair = option_map (held_for picture) (picture.held pair)

-- a pair that is held, as the channels have it, which know no session
abbrev pub bare_held : ℕ → HeldPair → Held
bare_held pair held = record { conn = held.conn; pair = pair; granted = is_some held.session }

-- the books of a picture
abbrev pub books_in : Picture → Books
books_in picture = record {
  opened = opened_in picture;
  held = held_in picture;
  holder = picture.holder;
  giver = λ number. None;
  own_number = λ number. 0;
  own_pair = λ pair. 0;
  number_of = λ conn own. 0;
  pair_of = λ conn own. 0;
  counts = λ conn. 0;
  issued = picture.issued;
}

-- The list is a history in which the connection to the server stands, each connection is as it has it but for those that
-- are over, and so are the numbers of requests, the pairs of channels and the sessions.
pub record IsPictureOf (bases : Bases) (one : Picture) (history : List HistoryEntry) : Type 0 where
  pub is_history : IsHistory bases history
  pub standing : fault_in history ≡ None
  pub clients : (i : ℕ) → IsKeptUnlessGone (one.clients i) (shared_in bases i history)
  pub asker : (number : ℕ) → one.asker number ≡ option_map (λ opened. opened.conn) ((books_of history).opened number)
  pub held : (pair : ℕ) → one.held pair ≡ option_map (bare_held pair) ((books_of history).held pair)
  pub holder : (id : List ℕ) → one.holder id ≡ (books_of history).holder id
  pub issued : one.issued ≡ (books_of history).issued

-- There is such a history, and the books have room for all that the connections can still ask for.
pub record IsKept (bases : Bases) (one : Picture) (requests sessions : ℕ) : Type 0 where
  pub history : List HistoryEntry
  pub is_of : IsPictureOf bases one history
  pub room : HasRoom one.clients requests sessions
  pub low : (pair : ℕ) → IsSome (one.held pair) → pair < PAIRS
