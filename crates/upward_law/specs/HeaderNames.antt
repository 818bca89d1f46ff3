-- No header of a message stands twice, and so none hides another one of its name (names are compared as RFC 7826, 5.2, says; that
-- no name stands twice, not even one whose values are lists, is this project's own).
use Rattle.std.specs.Prelude.{◌≡◌, ℕ, Bool, true, ◌&&◌, not, List, [], ◌∷◌, Some}
use Rattle.std.specs.List.{list_all}
use Rattle.gate_bytes.specs.Tokens.{equal_fold}
use Rattle.rtsp_head.specs.declared.header.Header.{Header}
use Rattle.rtsp_head.specs.Messages.{Message, message_of}

-- whether no two headers have one name, without ASCII case
abbrev pub names_differ : List Header → Bool
names_differ [] = true
names_differ (header ∷ headers) = list_all (λ other. not (equal_fold other.name header.name)) headers && names_differ headers

-- A text is one message, each of whose headers has a name of its own, the number and the length of the body among them.
pub record HasEachHeaderOnce (text : List ℕ) : Type 0 where
  pub message : Message
  pub read : message_of text ≡ Some message
  pub once : names_differ message.head.headers ≡ true
