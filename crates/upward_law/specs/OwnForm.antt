-- What a connection asks, as it is read, in that connection's own numbers (this project's own): its requests are counted from 1
-- on, and a pair of channels has the number of the SETUP that it was granted to. The channels that a SETUP asks for (RFC 7826,
-- 18.54) are the server's connection's, and are left out.
use Rattle.std.specs.Prelude.{◌≡◌, ℕ, ◌+◌, ◌*◌, ◌/◌, ◌%◌, drop, map, List, [], ◌∷◌, ◌++◌, Option, if◌then◌else◌}
use Rattle.std.specs.Option.{option_map, option_to_list}
use Rattle.rtsp_uri.specs.declared.base.Bases.{Bases}
use Rattle.head_two.specs.declared.request.Request2.{Request2}
use Rattle.translate_up.specs.Upward.{without_transport}
use Rattle.client_machine.specs.Alone.{private_after, effect_after}
use Rattle.client_machine.specs.Events.{Outgoing, asks, carries, PrivateEvent}
use Rattle.gateway_claim.specs.declared.event.ToUp.{ToUp}
use Rattle.gateway_claim.specs.Books.{Books}
use Rattle.gateway_claim.specs.Happenings.{HistoryEntry}
use Rattle.gateway_claim.specs.OwnEvents.{turn, is_turn, books_of}
use Rattle.upward_law.specs.ServerStream.{ServerRead, reads_answer, reads_request, reads_frame, AreRead}
use Rattle.upward_law.specs.Due.{message_bytes}

-- a request without the channels that it asks for
abbrev pub without_channels : Request2 → Request2
without_channels request = record request { headers = without_transport request.headers }

-- what is read, in the own numbers of the connection that it is of, by the books
abbrev pub in_own_numbers : Books → ServerRead → ServerRead
in_own_numbers books (reads_answer answer) = reads_answer answer
in_own_numbers books (reads_request asked) = reads_request (record { number = books.own_number asked.number; request = without_channels asked.request })
in_own_numbers books (reads_frame channel load) = reads_frame (2 * books.own_pair (channel / 2) + channel % 2) load

-- a message of a connection alone, where a request has this number
abbrev pub message_alone : ℕ → Outgoing → ServerRead
message_alone number (asks request named) = reads_request (record { number = number; request = request })
message_alone number (carries pair half rest) = reads_frame (2 * pair + half) (drop 2 rest)

-- all that a connection alone asks on its events, the newest first
abbrev pub read_alone : Bases → List PrivateEvent → List ServerRead
read_alone bases [] = []
read_alone bases (event ∷ events) = option_to_list (option_map (message_alone ((private_after bases events).count + 1)) (effect_after bases events event).message) ++ read_alone bases events

-- the bytes of the message of connection i, by whose turn it is
abbrev pub bytes_for : ℕ → Option ℕ → ToUp → List ℕ
bytes_for i who up = if is_turn i who then message_bytes up.message else []

-- What is read of the bytes that the server was handed in the turns of connection i is this, in its own numbers, the newest
-- first.
abbrev pub AreReadFor : ℕ → List HistoryEntry → List ServerRead → Type 0
AreReadFor i [] items = items ≡ []
AreReadFor i (entry ∷ earlier) items =
    (here later : List ServerRead) × AreRead (bytes_for i (turn (books_of earlier) entry.happening) entry.outcome.to_up) here
    × (items ≡ map (in_own_numbers (books_of (entry ∷ earlier))) here ++ later) × AreReadFor i earlier later
