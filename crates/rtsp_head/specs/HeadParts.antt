-- What a head says, without where it lies in memory.
use Rattle.std.specs.Prelude.{ℕ, List}

-- What the first line says (RFC 2326, 6.1 and 7.1; RFC 7826, 7.1 and 8.1): a method, a URI and a version, or a version, a
-- code and a reason.
pub data Start : Type 0 where
  Request : List ℕ → List ℕ → List ℕ → Start
  Status : List ℕ → ℕ → List ℕ → Start

-- a header: its name, and its value without the blanks round it
pub record HeaderParts : Type 0 where
  pub name : List ℕ
  pub value : List ℕ

-- a head: its first line, and its headers in their order
pub record HeadParts : Type 0 where
  pub start : Start
  pub headers : List HeaderParts
