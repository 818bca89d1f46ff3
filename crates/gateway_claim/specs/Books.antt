-- What a history keeps of the numbers, the pairs of channels and the sessions of the one connection to the server, as
-- functions; and what becomes of that where a request goes up (RFC 7826, 7) and where its final reply comes (13.3 and 13.7;
-- the rest is this project's own).
use Rattle.std.specs.Prelude.{ℕ, Bool, codes, take, List, Option, Some, None, if◌then◌else◌, ◌+◌, ◌==◌, ◌&&◌, false, nat_lt, true, is_none, unwrap_or}
use Rattle.std.specs.Option.{option_and_then, option_map, option_map_or}
use Rattle.std.specs.Str.{bytes_eq}
use Rattle.rtsp_head.specs.Headers.{field_of}
use Rattle.head_two.specs.Requests.{request_in}
use Rattle.gateway_claim.specs.declared.event.UpMessage.{UpMessage}
use Rattle.gateway_claim.specs.declared.event.UpMessage.TheVariants.{Request}
use Rattle.rtsp_small.specs.Sessions.{session_of}
use Rattle.head_two.specs.declared.reply.Reply2.{Reply2}
use Rattle.session_one.specs.Table.{is_success}
use Rattle.channel_map.specs.Pairs.{lowest_free}

-- A SETUP with the pair of channels that it asks for; the TEARDOWN of a session, with its id; such a one of a connection
-- that closed; or any other.
pub data RequestKind : Type 0 where
  sets_up : (pair : ℕ) → RequestKind
  tears_down : (id : List ℕ) → RequestKind
  closes : (id : List ℕ) → RequestKind
  plain : RequestKind

-- a request line that begins with SETUP
abbrev pub is_setup_text : List ℕ → Bool
is_setup_text text = bytes_eq (take 6 text) (codes "SETUP ")

-- a request line that begins with TEARDOWN
abbrev pub is_teardown_text : List ℕ → Bool
is_teardown_text text = bytes_eq (take 9 text) (codes "TEARDOWN ")

-- a SETUP that holds a pair, or a request of another kind
abbrev pub setup_kind : Option ℕ → RequestKind
setup_kind pair = option_map_or sets_up pair plain

-- the session that a request names in its field Session (RFC 7826, 18.49)
abbrev pub id_in_text : List ℕ → Option (List ℕ)
id_in_text text = option_and_then (λ one. field_of one.request.headers (codes "Session")) (request_in text)

-- the TEARDOWN of a session by its player, or of a connection that closed; one that names no session ends none
abbrev pub teardown_kind : Bool → Option (List ℕ) → RequestKind
teardown_kind shut None = plain
teardown_kind shut (Some id) = if shut then closes id else tears_down id

-- by the pair that a SETUP asks for, and by whether its connection has closed
abbrev pub kind_of_text : List ℕ → Option ℕ → Bool → RequestKind
kind_of_text text pair shut = if is_setup_text text then setup_kind pair else (if is_teardown_text text then teardown_kind shut (id_in_text text) else plain)

-- the kind of the request that goes up, where one does
abbrev pub kind_of : Option UpMessage → Option ℕ → Bool → Option RequestKind
kind_of (Some (Request text)) pair shut = Some (kind_of_text text pair shut)
kind_of message pair shut = None

-- an open request: the connection that asked it, and what it is for
pub record Opened : Type 0 where
  pub conn : ℕ
  pub kind : RequestKind

-- a pair of channels that is held: by which connection, and for which session, by its id; for none yet while the SETUP is
-- open
pub record HeldPair : Type 0 where
  pub conn : ℕ
  pub session : Option (List ℕ)

-- The open request with a number; who holds a pair of channels; which connection has a session's id. And, of all that was
-- ever given: the connection that a number was given to; the own number of the request with a number; the own number of
-- the SETUP that a pair was last given for; back from a connection and its own number, the number of its request and the
-- pair of its SETUP; how many requests of a connection went up; and how many in all.
pub record Books : Type 0 where
  pub opened : ℕ → Option Opened
  pub held : ℕ → Option HeldPair
  pub holder : List ℕ → Option ℕ
  pub giver : ℕ → Option ℕ
  pub own_number : ℕ → ℕ
  pub own_pair : ℕ → ℕ
  pub number_of : ℕ → ℕ → ℕ
  pub pair_of : ℕ → ℕ → ℕ
  pub counts : ℕ → ℕ
  pub issued : ℕ

-- nothing was given yet
abbrev pub new_books : Books
new_books = record {
  opened = λ number. None;
  held = λ pair. None;
  holder = λ id. None;
  giver = λ number. None;
  own_number = λ number. 0;
  own_pair = λ pair. 0;
  number_of = λ conn own. 0;
  pair_of = λ conn own. 0;
  counts = λ conn. 0;
  issued = 0;
}

-- the pair that a request of this kind asks for
abbrev pub pair_asked : RequestKind → Option ℕ
pair_asked (sets_up pair) = Some pair
pair_asked kind = None

-- whether a pair of channels is given, and is this one
abbrev pub is_pair : Option ℕ → ℕ → Bool
is_pair None pair = false
is_pair (Some one) pair = one == pair

-- a request of a connection went up with the next number
abbrev pub lends : ℕ → RequestKind → Books → Books
lends conn kind books = record {
  opened = λ number. if number == books.issued + 1 then Some (record { conn = conn; kind = kind }) else books.opened number;
  held = λ pair. if is_pair (pair_asked kind) pair then Some (record { conn = conn; session = None }) else books.held pair;
  holder = books.holder;
  giver = λ number. if number == books.issued + 1 then Some conn else books.giver number;
  own_number = λ number. if number == books.issued + 1 then books.counts conn + 1 else books.own_number number;
  own_pair = λ pair. if is_pair (pair_asked kind) pair then books.counts conn + 1 else books.own_pair pair;
  number_of = λ i own. if i == conn && own == books.counts conn + 1 then books.issued + 1 else books.number_of i own;
  pair_of = λ i own. if i == conn && own == books.counts conn + 1 then unwrap_or (pair_asked kind) (books.pair_of i own) else books.pair_of i own;
  counts = λ i. if i == conn then books.counts conn + 1 else books.counts i;
  issued = books.issued + 1;
}

-- the id in a reply's field Session
abbrev pub id_said : Reply2 → Option (List ℕ)
id_said reply = option_map (λ session. session.id) (option_and_then session_of (field_of reply.head.headers (codes "Session")))

-- A final reply: the number of its request, who asked it and for what, whether it is a success, and the session's id that
-- it says.
pub record Final : Type 0 where
  pub number : ℕ
  pub conn : ℕ
  pub kind : RequestKind
  pub success : Bool
  pub id : Option (List ℕ)

-- a reply as a final one: its code is at least 200, and its request is open
abbrev pub final_of : Reply2 → Option Opened → Option Final
final_of reply None = None
final_of reply (Some opened) =
    if nat_lt reply.code 200 then None
    else Some (record { number = reply.cseq; conn = opened.conn; kind = opened.kind; success = is_success reply.code; id = id_said reply })

-- The session that ends with a reply: that of a TEARDOWN with a success, and that of a connection that closed with any.
abbrev pub torn_by : RequestKind → Bool → Option (List ℕ)
torn_by (tears_down id) true = Some id
torn_by (closes id) success = Some id
torn_by kind success = None

-- the session that is bound
abbrev pub bound_by : RequestKind → Bool → Option (List ℕ) → Option (List ℕ)
bound_by (sets_up pair) true id = id
bound_by kind success id = None

-- whether this is the id of a session
abbrev pub is_id : Option (List ℕ) → List ℕ → Bool
is_id None id = false
is_id (Some one) id = bytes_eq id one

-- whether a pair is held for a session that ends
abbrev pub is_torn_with : Option (List ℕ) → Option (List ℕ) → Bool
is_torn_with torn None = false
is_torn_with torn (Some id) = is_id torn id

-- who holds a pair once a session has ended
abbrev pub held_left : Option (List ℕ) → Option HeldPair → Option HeldPair
held_left torn held = option_and_then (λ one. if is_torn_with torn one.session then None else Some one) held

-- who holds the pair of a SETUP: a success grants it for the session that the reply says, and any other reply frees it
abbrev pub granted_to : Bool → Option (List ℕ) → Option HeldPair → Option HeldPair
granted_to true id held = option_map (λ one. record { conn = one.conn; session = id }) held
granted_to false id held = None

-- who holds a pair then
abbrev pub held_then : Option Final → ℕ → Option HeldPair → Option HeldPair
held_then None pair held = held
held_then (Some final) pair held =
    if is_pair (pair_asked final.kind) pair then granted_to final.success final.id held else held_left (torn_by final.kind final.success) held

-- which connection has a session's id then
abbrev pub holder_then : Option Final → List ℕ → Option ℕ → Option ℕ
holder_then None id holder = holder
holder_then (Some final) id holder =
    if is_id (bound_by final.kind final.success final.id) id then Some final.conn
    else (if is_id (torn_by final.kind final.success) id then None else holder)

-- who asked a number once a final reply has settled it
abbrev pub opened_then : Option Final → ℕ → Option Opened → Option Opened
opened_then None number opened = opened
opened_then (Some final) number opened = if number == final.number then None else opened

-- the books after a final reply, where one came
abbrev pub settles : Option Final → Books → Books
settles final books = record books {
  opened = λ number. opened_then final number (books.opened number);
  held = λ pair. held_then final pair (books.held pair);
  holder = λ id. holder_then final id (books.holder id);
}

-- the lowest pair of channels that is free
abbrev pub free_in : Books → Option ℕ
free_in books = lowest_free (λ pair. is_none (books.held pair))
