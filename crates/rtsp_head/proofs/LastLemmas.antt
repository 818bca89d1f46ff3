-- The last header of a list of them, with which a line goes on or above which it begins another.
use Rattle.std.proofs.Common.{◌≡◌, ℕ, ◌<◌, Bool, true, false, cond, nat_lt, List, [], ◌∷◌, ◌++◌, length, Some, Result, Ok, Err, refl, sym, ◌∙◌, ap, arith}
use Rattle.std.specs.Result.{OnOk, IsOk}
use Rattle.std.proofs.lemmas.Bool.{lt-ltb}
use Rattle.gate_bytes.specs.Ascii.{space}
use Rattle.gate_bytes.specs.Tokens.{trimmed}
use Rattle.rtsp_head.specs.declared.fault.HeadFault.{HeadFault}
use Rattle.rtsp_head.specs.declared.fault.HeadFault.TheVariants as faults
use Rattle.rtsp_head.specs.declared.header.Header.{Header}
use Rattle.rtsp_head.specs.declared.headers.TheConstants.{MOST_HEADERS}
use Rattle.rtsp_head.specs.Headers.{SoFar, headers_in, header_limit, continued, with_header}
use Rattle.rtsp_head.specs.LastHeader.{apart}

-- what was read, without a fault
abbrev pub read_so_far : SoFar → Result SoFar HeadFault
read_so_far so_far = Ok so_far

pub weaker : {A E : Type 0} (r : Result A E) (P Q : Type 0) → (P → Q) → OnOk r P → OnOk r Q
weaker (Ok x) P Q f h = f h
weaker (Err e) P Q f h = tt

-- the last header stands apart
apart_last : (above : List Header) (header : Header) → apart (above ++ header ∷ []) ≡ record { above = above; last = Some header }
apart_last [] header = refl
apart_last (first ∷ []) header = refl
apart_last (first ∷ next ∷ more) header = ap (λ (s : SoFar). record { above = first ∷ s.above; last = s.last }) (apart_last (next ∷ more) header)

-- its value is closed
closed_last : (above : List Header) (name value : List ℕ) → headers_in (apart (above ++ record { name = name; value = value } ∷ [])) ≡ above ++ record { name = name; value = trimmed value } ∷ []
closed_last above name value = ap headers_in (apart_last above (record { name = name; value = value }))

-- the last header is taken off, and put back with its value trimmed
pub closes : (old rest new : List Header) (field : Header) (name value shut : List ℕ) → old ≡ rest ++ field ∷ [] → record { name = name; value = value } ≡ field → shut ≡ trimmed value
    → new ≡ rest ++ record { name = name; value = shut } ∷ [] → new ≡ headers_in (apart old)
closes old rest new field name value shut lost seen shut_is is =
    let was : old ≡ rest ++ record { name = name; value = value } ∷ [] = lost ∙ ap (λ (h : Header). rest ++ h ∷ []) (sym seen) in
    is ∙ ap (λ (v : List ℕ). rest ++ record { name = name; value = v } ∷ []) shut_is
    ∙ sym (ap (λ (l : List Header). headers_in (apart l)) was ∙ closed_last rest name value)

-- the last header is taken off, and put back with more text
pub goes : (old rest new : List Header) (field : Header) (name value text more : List ℕ) → old ≡ rest ++ field ∷ [] → record { name = name; value = value } ≡ field → more ≡ value ++ (space ∷ text)
    → new ≡ rest ++ record { name = name; value = more } ∷ [] → continued (apart old) text (apart old).last ≡ Ok (apart new)
goes old rest new field name value text more lost seen more_is is =
    let was : old ≡ rest ++ record { name = name; value = value } ∷ [] = lost ∙ ap (λ (h : Header). rest ++ h ∷ []) (sym seen) in
    let before : apart old ≡ record { above = rest; last = Some (record { name = name; value = value }) } = ap apart was ∙ apart_last rest (record { name = name; value = value }) in
    ap (λ (s : SoFar). continued s text s.last) before
    ∙ ap (λ (v : List ℕ). read_so_far (record { above = rest; last = Some (record { name = name; value = v }) })) (sym more_is)
    ∙ ap read_so_far (sym (ap apart is ∙ apart_last rest (record { name = name; value = more })))

-- a header is put behind those that are closed
pub begun : (so_far : SoFar) (shut new : List Header) (name value placed : List ℕ) → shut ≡ headers_in so_far → length shut < MOST_HEADERS → new ≡ shut ++ record { name = name; value = placed } ∷ [] → placed ≡ value
    → with_header header_limit so_far (record { name = name; value = value }) ≡ Ok (apart new)
begun so_far shut new name value placed shut_is few is placed_is =
    let count : length (headers_in so_far) < MOST_HEADERS = omega (arith, few, ap length shut_is) in
    let room : nat_lt (length (headers_in so_far)) MOST_HEADERS ≡ true = lt-ltb (length (headers_in so_far)) MOST_HEADERS count in
    ap (λ (t : Bool). cond t (read_so_far (record { above = headers_in so_far; last = Some (record { name = name; value = value }) })) (Err faults.Many)) room
    ∙ ap (λ (l : List Header). read_so_far (record { above = l; last = Some (record { name = name; value = value }) })) (sym shut_is)
    ∙ ap (λ (v : List ℕ). read_so_far (record { above = shut; last = Some (record { name = name; value = v }) })) (sym placed_is)
    ∙ ap read_so_far (sym (ap apart is ∙ apart_last shut (record { name = name; value = placed })))

-- a value without blanks at its ends is closed
pub tidy_last : (shut new : List Header) (name value placed : List ℕ) → new ≡ shut ++ record { name = name; value = placed } ∷ [] → placed ≡ value → trimmed value ≡ value → headers_in (apart new) ≡ new
tidy_last shut new name value placed is placed_is tidy =
    ap (λ (l : List Header). headers_in (apart l)) is ∙ closed_last shut name placed
    ∙ ap (λ (v : List ℕ). shut ++ record { name = name; value = v } ∷ []) (ap trimmed placed_is ∙ tidy ∙ sym placed_is) ∙ sym is

-- where one header more is taken, fewer stand than may
pub has_place : (so_far : SoFar) (header : Header) → IsOk (with_header header_limit so_far header) → length (headers_in so_far) < MOST_HEADERS
has_place so_far header ok = by_test (nat_lt (length (headers_in so_far)) MOST_HEADERS) refl ok
  where
    by_test : (room : Bool) → nat_lt (length (headers_in so_far)) MOST_HEADERS ≡ room → IsOk (cond room (read_so_far (record { above = headers_in so_far; last = Some header })) (Err faults.Many)) → length (headers_in so_far) < MOST_HEADERS
    by_test true is ok = grind arith
    by_test false is ok = cc
