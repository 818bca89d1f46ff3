-- What can happen to one connection, and what one event does (this project's own). No number and no channel of the server's
-- one connection is a part of it: a pair of channels has the number of the SETUP that it was granted to, in the row of the
-- connection's own requests.
use Rattle.std.specs.Prelude.{ℕ, Bool, List, Option, [], ◌++◌, Some, None}
use Rattle.rtsp_head.specs.Items.{Shape}
use Rattle.rtsp_small.specs.declared.notify.NotifyReason.{NotifyReason}
use Rattle.session_two.specs.declared.names.Names.{Names}
use Rattle.translate_down.specs.Replies.{Told}
use Rattle.std.specs.Option.{option_or}
use Rattle.head_two.specs.declared.request.Request2.{Request2}
use Rattle.client_slot.specs.Client.{Client}
use Rattle.client_machine.specs.declared.why.CloseWhy.{CloseWhy}

-- An item of its client comes; the final reply, or one before it, to its open request comes, with what it tells and the
-- source that its Transport names; the server's notify of a session comes, which names one of its requests, or the
-- number 0, which none of them has, or nothing; a frame of the server comes on a half of a pair of channels; the client
-- ends; its queue of bytes is full; or the connection to the server ends. The mark of an item and of a reply says that all
-- pairs of channels are held after it, and that a SETUP is to be treated.
pub data PrivateEvent : Type 0 where
  arrive : (shape : Shape) → (full : Bool) → PrivateEvent
  answer : (told : Told) → (ssrc : Option ℕ) → (full : Bool) → PrivateEvent
  note : (id : List ℕ) → (reason : NotifyReason) → (names : Names) → PrivateEvent
  media : (pair half : ℕ) → (rest : List ℕ) → PrivateEvent
  end : PrivateEvent
  slow : PrivateEvent
  up_end : PrivateEvent

-- A message to the server: a request, and a SETUP with the pair of channels that it asks for, which is none of its
-- headers yet; or a frame on a half of a pair, all of it behind its channel.
pub data Outgoing : Type 0 where
  asks : (request : Request2) → (pair : Option ℕ) → Outgoing
  carries : (pair half : ℕ) → (rest : List ℕ) → Outgoing

-- the connection then, the bytes that its client is handed, the message that goes up, and the close
pub record Effect : Type 0 where
  pub client : Client
  pub hand : List ℕ
  pub message : Option Outgoing
  pub close : Option CloseWhy

-- nothing but that the connection is so
abbrev pub stays : Client → Effect
stays client = record { client = client; hand = []; message = None; close = None }

-- the connection is so, and a message goes up
abbrev pub sends : Outgoing → Client → Effect
sends message client = record { client = client; hand = []; message = Some message; close = None }

-- the connection is so, and its client is handed bytes
abbrev pub hands : List ℕ → Client → Effect
hands bytes client = record { client = client; hand = bytes; message = None; close = None }

-- One effect and then another one, which begins with the connection that the first leaves.
abbrev pub then_effect : Effect → Effect → Effect
then_effect first second = record {
  client = second.client;
  hand = first.hand ++ second.hand;
  message = option_or first.message second.message;
  close = option_or first.close second.close;
}
