-- What a reply to a player says, without where it lies in memory.
use Rattle.std.specs.Prelude.{ℕ, List, Option}
use Rattle.rtsp_head.specs.HeadParts.{HeaderParts}

-- a reply: its code, its number, its headers but for the number and the length, and its body
pub record ClientReply : Type 0 where
  pub code : ℕ
  pub cseq : Option ℕ
  pub headers : List HeaderParts
  pub body : List ℕ
