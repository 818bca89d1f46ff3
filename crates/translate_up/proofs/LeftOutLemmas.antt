-- Without the channels to the server, a SETUP is what was decided.
use Rattle.std.proofs.Common.{◌≡◌, ℕ, Bool, true, false, not, cond, List, [], ◌∷◌, Option, refl, ◌∙◌, ap}
use Rattle.std.specs.Prelude.{codes}
use Rattle.std.specs.List.{list_all, filter}
use Rattle.std.specs.Str.{bytes_eq}
use Rattle.std.proofs.lemmas.Bool.{and_parts}
use Rattle.gate_bytes.specs.Tokens.{equal_fold}
use Rattle.rtsp_head.specs.declared.header.Header.{Header}
use Rattle.rtsp_transport.specs.declared.channels.Pair.{Pair}
use Rattle.head_one.specs.declared.request.Request1.{Request1}
use Rattle.rtsp_range.specs.declared.range.Range.{Range}
use Rattle.rtsp_head.specs.Optional.{field_headers}
use Rattle.rtsp_head.proofs.FieldLemmas.{names_hold}
use Rattle.translate_up.specs.Views.{Judged}
use Rattle.translate_up.specs.Fields.{Said}
use Rattle.translate_up.specs.Upward.{fields_up, request_up, transport_header, headers_with_transport, with_transport, is_other, without_transport}

all_kept : (test : Header → Bool) (headers : List Header) → list_all test headers ≡ true → filter test headers ≡ headers
all_kept test [] h = refl
all_kept test (header ∷ headers) h =
    let parts = and_parts (test header) (list_all test headers) h in
    ap (λ t. cond t (header ∷ filter test headers) (filter test headers)) parts.0 ∙ ap (λ hs. header ∷ hs) (all_kept test headers parts.1)

-- The channels that were put in are left out again.
left_out : (pair : Pair) (headers : List Header) → without_transport (headers_with_transport pair headers) ≡ without_transport headers
left_out pair [] = refl
left_out pair (header ∷ headers) = here (bytes_eq header.name (codes "Accept-Ranges")) (left_out pair headers)
  where
    here : (due : Bool) → without_transport (headers_with_transport pair headers) ≡ without_transport headers →
        without_transport (cond due (transport_header pair ∷ header ∷ headers) (header ∷ headers_with_transport pair headers)) ≡ without_transport (header ∷ headers)
    here true rest = refl
    here false rest = ap (λ hs. cond (is_other header) (header ∷ hs) hs) rest

pub transport_left_out : (judged : Judged) (request : Request1) (said : Said) (uri : List ℕ) (range : Option Range) (pair : Pair) →
    without_transport (with_transport pair (request_up judged request said uri range)).headers ≡ (request_up judged request said uri range).headers
transport_left_out judged request said uri range pair =
    let headers = field_headers (fields_up judged request said range) in
    left_out pair headers ∙ all_kept is_other headers (names_hold is_other (λ name. not (equal_fold name (codes "Transport"))) (λ header other. other) (fields_up judged request said range) refl)
