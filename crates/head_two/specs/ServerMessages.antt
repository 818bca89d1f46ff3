-- What the server's replies and requests, and requests to it, say, without where they lie in memory.
use Rattle.std.specs.Prelude.{ℕ, List}
use Rattle.rtsp_head.specs.HeadParts.{HeaderParts, HeadParts}

-- a reply: its code, its number, its head and its body
pub record ReplyParts : Type 0 where
  pub code : ℕ
  pub cseq : ℕ
  pub head : HeadParts
  pub body : List ℕ

-- a request of the server: its method, its number and its head
pub record AskParts : Type 0 where
  pub method : List ℕ
  pub cseq : ℕ
  pub head : HeadParts

-- a request to the server: its method, its URI, its headers but for the number and the length, and its body
pub record ServerRequest : Type 0 where
  pub method : List ℕ
  pub uri : List ℕ
  pub headers : List HeaderParts
  pub body : List ℕ
