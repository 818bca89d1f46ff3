-- What the gateway answers by itself is one reply, which is read back whatever follows it (RFC 2326, 7).
use Rattle.std.specs.Prelude.{◌≡◌, List, ℕ, ◌∷◌, ◌++◌, Some}
use Rattle.std.specs.Option.{option_map}
use Rattle.rtsp_head.specs.Messages.{messages_of}
use Rattle.head_one.specs.declared.reply.Reply1.{Reply1}
use Rattle.head_one.specs.Replies.{reply_message, client_reply_in}
use Rattle.translate_up.specs.declared.decision.Decision.{Decision}
use Rattle.translate_up.specs.declared.decision.Decision.TheVariants.{Answer, Forward, Queue, Setup}

-- a text that is one reply
pub record IsOneReply (text : List ℕ) : Type 0 where
  pub reply : Reply1
  pub one : client_reply_in text ≡ Some reply
  pub row : (rest : List ℕ) → messages_of (text ++ rest) ≡ option_map (λ more. reply_message reply ∷ more) (messages_of rest)

-- What is answered at once is one reply.
abbrev pub AnswersOneReply : Decision → Type 0
AnswersOneReply (Answer text) = IsOneReply text
AnswersOneReply (Forward request asked) = Unit {0}
AnswersOneReply (Queue play text) = IsOneReply text
AnswersOneReply (Setup request asked pair) = Unit {0}
