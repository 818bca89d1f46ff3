-- A test of each reason of the list is a rule at each code.
use Rattle.std.proofs.Common.{◌≡◌, ℕ, ◌==◌, Bool, true, false, cond, List, [], ◌∷◌, Option, Some, refl, sym, ◌∙◌, ap}
use Rattle.std.specs.List.{list_all}
use Rattle.std.proofs.lemmas.Bool.{and_parts, eqb-true}
use Rattle.std.proofs.lemmas.Option.{same_Some}
use Rattle.rtsp_status.specs.Reasons.{Reason, reasons, reason_in, reason_of, fits_line}

found_with : (test : ℕ → List ℕ → Bool) (one : Reason) (later : Option (List ℕ)) (code : ℕ) (text : List ℕ) (t : Bool) → (code == one.code) ≡ t
    → test one.code one.text ≡ true → (later ≡ Some text → test code text ≡ true) → cond t (Some one.text) later ≡ Some text → test code text ≡ true
found_with test one later code text false e this more h = more h
found_with test one later code text true e this more h =
    ap (λ c. test c text) (eqb-true code one.code e) ∙ ap (test one.code) (sym (same_Some one.text text h)) ∙ this

found_in : (test : ℕ → List ℕ → Bool) (table : List Reason) (code : ℕ) (text : List ℕ) → list_all (λ one. test one.code one.text) table ≡ true
    → reason_in table code ≡ Some text → test code text ≡ true
found_in test [] code text h e = cc
found_in test (one ∷ more) code text h e =
    let parts = and_parts (test one.code one.text) (list_all (λ one. test one.code one.text) more) h in
    found_with test one (reason_in more code) code text (code == one.code) refl parts.0 (λ later. found_in test more code text parts.1 later) e

-- a code with a reason has three digits, and its reason stands in one line
pub reason_fits : (code : ℕ) (text : List ℕ) → reason_of code ≡ Some text → fits_line code text ≡ true
reason_fits code text h = found_in fits_line reasons code text refl h
