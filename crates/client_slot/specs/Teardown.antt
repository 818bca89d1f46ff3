-- A TEARDOWN to the server (RFC 7826, 13.7).
use Rattle.std.specs.Prelude.{ℕ, codes, List, [], ◌∷◌}
use Rattle.head_two.specs.declared.request.Request2.{Request2}

-- of what a URI stands for, with the session's id
abbrev pub teardown_request : List ℕ → List ℕ → Request2
teardown_request uri id = record {
  method = codes "TEARDOWN";
  uri = uri;
  headers = record { name = codes "Session"; value = id } ∷ [];
  body = [];
}
