-- The method of a request is told by how its text begins.
use Rattle.std.proofs.Common.{◌≡◌, ◌∙◌, ℕ, suc, ◌==◌, ◌&&◌, not, Bool, true, false, List, [], ◌∷◌, ◌++◌, length, take, Option, Some, refl, ap, append_assoc, arith}
use Rattle.std.specs.List.{flat_map}
use Rattle.std.specs.Str.{bytes_eq}
use Rattle.std.proofs.lemmas.Bool.{and_parts}
use Rattle.gate_bytes.specs.Ascii.{cr, lf, space}
use Rattle.rtsp_head.specs.declared.header.Header.{Header}
use Rattle.rtsp_head.specs.HeadText.{ended, header_text, start_text, is_line_text, is_part, is_start}
use Rattle.rtsp_head.specs.HeadParts.{Start, Request}
use Rattle.rtsp_head.specs.Messages.{message_headers, message_text}
use Rattle.rtsp_head.specs.Starts.{is_unspaced, names_protocol}
use Rattle.head_two.specs.declared.request.Request2.{Request2}
use Rattle.head_two.specs.Messages.{version_two}
use Rattle.head_two.specs.Requests.{request_text}

-- a word that holds no space, before a space
spaced_by : (b c : ℕ) (other : Bool) → not (b == c) ≡ true → ((b == c) && other) ≡ false
spaced_by b c other apart = grind arith

turned : (b c : ℕ) → not (b == c) ≡ true → not (c == b) ≡ true
turned b c apart = grind arith

pub spaced : (word method rest : List ℕ) → is_unspaced word ≡ true → is_unspaced method ≡ true → bytes_eq (take (suc (length word)) (method ++ (space ∷ rest))) (word ++ (space ∷ [])) ≡ bytes_eq method word
spaced [] [] rest none other = refl
spaced [] (b ∷ method) rest none other = spaced_by b space _ (and_parts (not (b == space)) (is_unspaced method) other).0
spaced (c ∷ word) [] rest none other = spaced_by space c _ (turned c space (and_parts (not (c == space)) (is_unspaced word) none).0)
spaced (c ∷ word) (b ∷ method) rest none other =
    ap (λ t. (b == c) && t) (spaced word method rest (and_parts (not (c == space)) (is_unspaced word) none).1 (and_parts (not (b == space)) (is_unspaced method) other).1)

-- what stands behind the first line of a message
abbrev behind_line : Option ℕ → List Header → List ℕ → List ℕ
behind_line number headers body = (cr ∷ lf ∷ []) ++ (flat_map (λ header. ended (header_text header)) (message_headers number headers body) ++ ((cr ∷ lf ∷ []) ++ body))

line_first : (start : Start) (number : Option ℕ) (headers : List Header) (body : List ℕ) → message_text start number headers body ≡ start_text start ++ behind_line number headers body
line_first start number headers body = simp append_assoc

pub method_first : (number : ℕ) (request : Request2) → (rest : List ℕ) × (request_text number request ≡ request.method ++ (space ∷ rest))
method_first number request =
    let more = request.uri ++ (space ∷ version_two) in
    let behind = behind_line (Some number) request.headers request.body in
    (more ++ behind, line_first (Request request.method request.uri version_two) (Some number) request.headers request.body ∙ append_assoc request.method (space ∷ more) behind)

-- A method holds no space.
first_part : (a b c d e : Bool) → ((((a && b) && c) && d) && e) ≡ true → a ≡ true
first_part a b c d e all = grind arith

pub method_unspaced : (method uri : List ℕ) → is_start (Request method uri version_two) ≡ true → is_unspaced method ≡ true
method_unspaced method uri first =
    (and_parts (not (length method == 0)) (is_unspaced method)
    (first_part (is_part method) (not (names_protocol method)) (is_part uri) (is_part version_two && names_protocol version_two) (is_line_text method && is_line_text uri && is_line_text version_two) first)).1
