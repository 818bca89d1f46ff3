-- What holds of each named field holds of all headers that are written of them.
use Rattle.std.proofs.Common.{◌≡◌, ℕ, ◌+◌, ◌≤◌, Bool, true, false, cond, find, sym, ◌&&◌, List, [], ◌∷◌, ◌++◌, length, Option, None, Some, IfSome, refl, ◌∙◌, ap, arith}
use Rattle.std.specs.Prelude.{option_map}
use Rattle.std.specs.Option.{option_or}
use Rattle.std.specs.List.{list_all}
use Rattle.std.proofs.lemmas.Bool.{and_parts}
use Rattle.std.proofs.lemmas.List.{length-append}
use Rattle.std.proofs.lemmas.List.Folds.{list_all-append}
use Rattle.gate_bytes.specs.Tokens.{is_token, equal_fold}
use Rattle.rtsp_head.specs.Headers.{field_of}
use Rattle.rtsp_head.specs.declared.header.Header.{Header}
use Rattle.rtsp_head.specs.HeadText.{is_value, is_header}
use Rattle.rtsp_head.specs.Optional.{header_with, Field, then_headers, field_headers, told_value}

-- what holds of each field
abbrev pub EachField : (Field → Type 0) → List Field → Type 0
EachField holds [] = Unit {0}
EachField holds (field ∷ fields) = holds field × EachField holds fields

-- the field's header passes a test, where it has one
abbrev pub HeaderPasses : (Header → Bool) → Field → Type 0
HeaderPasses test field = IfSome field.value (λ value. test (record { name = field.name; value = value }) ≡ true)

one_holds : (test : Header → Bool) (name : List ℕ) (value : Option (List ℕ)) → IfSome value (λ v. test (record { name = name; value = v }) ≡ true) →
    list_all test (header_with name value) ≡ true
one_holds test name None h = refl
one_holds test name (Some value) h = ap (λ t. t && true) h

then_hold : (test : Header → Bool) (headers : List Header) (fields : List Field) → list_all test headers ≡ true → EachField (HeaderPasses test) fields →
    list_all test (then_headers headers fields) ≡ true
then_hold test headers [] here h = here
then_hold test headers (field ∷ fields) here h =
    then_hold test (headers ++ header_with field.name field.value) fields
    (list_all-append test headers (header_with field.name field.value) ∙ ap (λ t. t && list_all test (header_with field.name field.value)) here ∙ one_holds test field.name field.value h.0)
    h.1

-- What holds of each named field holds of all.
pub fields_hold : (test : Header → Bool) (fields : List Field) → EachField (HeaderPasses test) fields → list_all test (field_headers fields) ≡ true
fields_hold test fields h = then_hold test [] fields refl h

name_passes : (test : Header → Bool) (names : List ℕ → Bool) → ((header : Header) → names header.name ≡ true → test header ≡ true) →
    (name : List ℕ) (value : Option (List ℕ)) → names name ≡ true → IfSome value (λ v. test (record { name = name; value = v }) ≡ true)
name_passes test names by name None h = tt
name_passes test names by name (Some value) h = by (record { name = name; value = value }) h

each_named : (test : Header → Bool) (names : List ℕ → Bool) → ((header : Header) → names header.name ≡ true → test header ≡ true) →
    (fields : List Field) → list_all (λ field. names field.name) fields ≡ true → EachField (HeaderPasses test) fields
each_named test names by [] h = tt
each_named test names by (field ∷ fields) h =
    let parts = and_parts (names field.name) (list_all (λ field. names field.name) fields) h in
    (name_passes test names by field.name field.value parts.0, each_named test names by fields parts.1)

-- What the names alone decide holds of all, where it holds of each name.
pub names_hold : (test : Header → Bool) (names : List ℕ → Bool) → ((header : Header) → names header.name ≡ true → test header ≡ true) →
    (fields : List Field) → list_all (λ field. names field.name) fields ≡ true → list_all test (field_headers fields) ≡ true
names_hold test names by fields h = fields_hold test fields (each_named test names by fields h)

-- the value of a field can be written, where there is one
abbrev pub HasValue : Field → Type 0
HasValue field = IfSome field.value (λ value. is_value value ≡ true)

both_pass : (name : List ℕ) (value : Option (List ℕ)) → is_token name ≡ true → IfSome value (λ v. is_value v ≡ true) → IfSome value (λ v. is_header (record { name = name; value = v }) ≡ true)
both_pass name None token h = tt
both_pass name (Some value) token h = ap (λ t. t && is_value value) token ∙ h

each_passes : (fields : List Field) → list_all (λ field. is_token field.name) fields ≡ true → EachField HasValue fields → EachField (HeaderPasses is_header) fields
each_passes [] names values = tt
each_passes (field ∷ fields) names values =
    let parts = and_parts (is_token field.name) (list_all (λ field. is_token field.name) fields) names in
    (both_pass field.name field.value parts.0 values.0, each_passes fields parts.1 values.1)

-- Fields whose names are tokens and whose values can be written make headers that can be written.
pub fields_sound : (fields : List Field) → list_all (λ field. is_token field.name) fields ≡ true → EachField HasValue fields → list_all is_header (field_headers fields) ≡ true
fields_sound fields names values = fields_hold is_header fields (each_passes fields names values)

few_with : (name : List ℕ) (value : Option (List ℕ)) → length (header_with name value) ≤ 1
few_with name None = omega arith
few_with name (Some value) = omega arith

then_few : (headers : List Header) (fields : List Field) → length (then_headers headers fields) ≤ length headers + length fields
then_few headers [] = omega arith
then_few headers (field ∷ fields) =
    omega (arith, then_few (headers ++ header_with field.name field.value) fields, length-append headers (header_with field.name field.value), few_with field.name field.value)

-- There are no more headers than fields.
pub fields_few : (fields : List Field) → length (field_headers fields) ≤ length fields
fields_few fields = omega (arith, then_few [] fields)

-- a field of one header
one_by : (name other text : List ℕ) (same : Bool) → equal_fold other name ≡ same → field_of (header_with other (Some text)) name ≡ cond same (Some text) None
one_by name other text same is = ap (λ t. option_map (λ (header : Header). header.value) (cond t (Some (record { name = other; value = text })) None)) is ∙ by same
  where
    by : (same : Bool) → option_map (λ (header : Header). header.value) (cond same (Some (record { name = other; value = text })) None) ≡ cond same (Some text) None
    by true = refl
    by false = refl

none_by : (same : Bool) → cond {A = Option (List ℕ)} same None None ≡ None
none_by true = refl
none_by false = refl

one_field : (name other : List ℕ) (value : Option (List ℕ)) → field_of (header_with other value) name ≡ cond (equal_fold other name) value None
one_field name other None = sym (none_by (equal_fold other name))
one_field name other (Some text) = one_by name other text (equal_fold other name) refl

step_by : (header : Header) (name : List ℕ) (headers more : List Header) (same : Bool) → equal_fold header.name name ≡ same →
    field_of (headers ++ more) name ≡ option_or (field_of headers name) (field_of more name) →
    field_of (header ∷ (headers ++ more)) name ≡ option_or (field_of (header ∷ headers) name) (field_of more name)
step_by header name headers more true is rest =
    ap (λ t. option_map (λ (h : Header). h.value) (cond t (Some header) (find (λ (h : Header). equal_fold h.name name) (headers ++ more)))) is
    ∙ sym (ap (λ t. option_or (option_map (λ (h : Header). h.value) (cond t (Some header) (find (λ (h : Header). equal_fold h.name name) headers))) (field_of more name)) is)
step_by header name headers more false is rest =
    ap (λ t. option_map (λ (h : Header). h.value) (cond t (Some header) (find (λ (h : Header). equal_fold h.name name) (headers ++ more)))) is
    ∙ rest
    ∙ sym (ap (λ t. option_or (option_map (λ (h : Header). h.value) (cond t (Some header) (find (λ (h : Header). equal_fold h.name name) headers))) (field_of more name)) is)

-- a field of two lists of headers in a row
pub two_fields : (name : List ℕ) (headers more : List Header) → field_of (headers ++ more) name ≡ option_or (field_of headers name) (field_of more name)
two_fields name [] more = refl
two_fields name (header ∷ headers) more = step_by header name headers more (equal_fold header.name name) refl (two_fields name headers more)

or_assoc : (one two three : Option (List ℕ)) → option_or (option_or one two) three ≡ option_or one (option_or two three)
or_assoc None two three = refl
or_assoc (Some text) two three = refl

then_field : (name : List ℕ) (headers : List Header) (fields : List Field) → field_of (then_headers headers fields) name ≡ option_or (field_of headers name) (told_value name fields)
then_field name headers [] = or_nothing (field_of headers name)
  where
    or_nothing : (value : Option (List ℕ)) → value ≡ option_or value None
    or_nothing None = refl
    or_nothing (Some text) = refl
then_field name headers (field ∷ fields) =
    then_field name (headers ++ header_with field.name field.value) fields
    ∙ ap (λ o. option_or o (told_value name fields)) (two_fields name headers (header_with field.name field.value) ∙ ap (option_or (field_of headers name)) (one_field name field.name field.value))
    ∙ or_assoc (field_of headers name) (cond (equal_fold field.name name) field.value None) (told_value name fields)

-- A field is found by its name among the headers that are written.
pub field_told : (name : List ℕ) (fields : List Field) → field_of (field_headers fields) name ≡ told_value name fields
field_told name fields = then_field name [] fields
