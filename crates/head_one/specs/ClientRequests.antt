-- What a player's request says, without where it lies in memory.
use Rattle.std.specs.Prelude.{ℕ, List}
use Rattle.rtsp_head.specs.HeadParts.{HeadParts}
use Rattle.rtsp_small.specs.declared.method.Method.{Method}

-- a request: its method, its URI, its number, its head and its body
pub record ClientRequest : Type 0 where
  pub method : Method
  pub uri : List ℕ
  pub cseq : ℕ
  pub head : HeadParts
  pub body : List ℕ
