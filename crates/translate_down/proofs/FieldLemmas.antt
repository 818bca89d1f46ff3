-- A field is looked up alike with and without fields of other names.
use Rattle.std.proofs.Common.{◌≡◌, ℕ, Bool, true, false, cond, ◌||◌, not, List, [], ◌∷◌, Some, filter, find, refl, sym, ◌∙◌, ap}
use Rattle.std.specs.Prelude.{codes, option_map}
use Rattle.std.specs.Str.{bytes_eq, str_to_ascii_lowercase}
use Rattle.std.proofs.lemmas.Slice.Eq.{bytes_eq-Decides}
use Rattle.gate_bytes.specs.Tokens.{equal_fold}
use Rattle.rtsp_head.specs.declared.header.Header.{Header}
use Rattle.rtsp_head.specs.Headers.{field_of}
use Rattle.rtsp_head.specs.Messages.{is_added, own_fields}
use Rattle.translate_down.specs.Replies.{is_no_transport}

-- the headers of a name are all kept
abbrev Keeps : (Header → Bool) → List ℕ → Type 0
Keeps keep name = (header : Header) → equal_fold header.name name ≡ true → keep header ≡ true

kept_step : (kept named : Bool) (keep : Header → Bool) (header : Header) (name : List ℕ) (more : List Header) → keep header ≡ kept → equal_fold header.name name ≡ named → (named ≡ true → kept ≡ true) →
    field_of (filter keep more) name ≡ field_of more name → field_of (filter keep (header ∷ more)) name ≡ field_of (header ∷ more) name
kept_step false true keep header name more k n is rest = let none : false ≡ true = is refl in cc
kept_step false false keep header name more k n is rest =
    ap (λ t. field_of (cond t (header ∷ filter keep more) (filter keep more)) name) k
    ∙ rest
    ∙ sym (ap (λ t. option_map (λ (found : Header). found.value) (cond t (Some header) (find (λ (one : Header). equal_fold one.name name) more))) n)
kept_step true true keep header name more k n is rest =
    ap (λ t. field_of (cond t (header ∷ filter keep more) (filter keep more)) name) k
    ∙ ap (λ t. option_map (λ (found : Header). found.value) (cond t (Some header) (find (λ (one : Header). equal_fold one.name name) (filter keep more)))) n
    ∙ sym (ap (λ t. option_map (λ (found : Header). found.value) (cond t (Some header) (find (λ (one : Header). equal_fold one.name name) more))) n)
kept_step true false keep header name more k n is rest =
    ap (λ t. field_of (cond t (header ∷ filter keep more) (filter keep more)) name) k
    ∙ ap (λ t. option_map (λ (found : Header). found.value) (cond t (Some header) (find (λ (one : Header). equal_fold one.name name) (filter keep more)))) n
    ∙ rest
    ∙ sym (ap (λ t. option_map (λ (found : Header). found.value) (cond t (Some header) (find (λ (one : Header). equal_fold one.name name) more))) n)

-- A field is found alike among the headers that are kept, where those of its name are.
kept_field : (keep : Header → Bool) (name : List ℕ) (headers : List Header) → Keeps keep name → field_of (filter keep headers) name ≡ field_of headers name
kept_field keep name [] keeps = refl
kept_field keep name (header ∷ more) keeps =
    kept_step (keep header) (equal_fold header.name name) keep header name more refl refl (keeps header) (kept_field keep name more keeps)

-- a header of this name, in any case, is not one of another name
other_name : (header : Header) (name other : List ℕ) → equal_fold header.name name ≡ true → equal_fold header.name other ≡ equal_fold name other
other_name header name other named =
    let same : str_to_ascii_lowercase header.name ≡ str_to_ascii_lowercase name = (bytes_eq-Decides (str_to_ascii_lowercase header.name) (str_to_ascii_lowercase name)).0 named in
    ap (λ lower. bytes_eq lower (str_to_ascii_lowercase other)) same

-- neither the number nor the body's length
abbrev pub IsOwn : List ℕ → Type 0
IsOwn name = (equal_fold name (codes "CSeq") || equal_fold name (codes "Content-Length")) ≡ false

abbrev pub IsNoTransport : List ℕ → Type 0
IsNoTransport name = equal_fold name (codes "Transport") ≡ false

-- without the number and the body's length
pub own_field : (headers : List Header) (name : List ℕ) → IsOwn name → field_of (own_fields headers) name ≡ field_of headers name
own_field headers name own = kept_field (λ header. not (is_added header)) name headers (λ header named.
    ap not (ap (λ t. t || equal_fold header.name (codes "Content-Length")) (other_name header name (codes "CSeq") named)
    ∙ ap (λ t. equal_fold name (codes "CSeq") || t) (other_name header name (codes "Content-Length") named)
    ∙ own))

-- without the transport
pub untransported_field : (headers : List Header) (name : List ℕ) → IsNoTransport name → field_of (filter is_no_transport headers) name ≡ field_of headers name
untransported_field headers name other = kept_field is_no_transport name headers (λ header named. ap not (other_name header name (codes "Transport") named ∙ other))
