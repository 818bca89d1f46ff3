-- What `url` tells of a word, as a base.
use Rattle.std.proofs.Common.{◌≡◌, ℕ, ◌≤◌, ◌&&◌, Bool, true, false, cond, List, [], ◌∷◌, ◌++◌, length, Option, Some, None, Ok, refl, sym, ◌∙◌, ap, arith, append-nil}
use Rattle.std.specs.Prelude.{nat_le, decimal}
use Rattle.std.proofs.lemmas.Bool.{le-leb}
use Rattle.gate_bytes.specs.Ascii.{colon}
use Rattle.url.specs.declared.host.Host.{Host}
use Rattle.url.specs.declared.slicing.Position.TheVariants.{BeforeUsername, AfterPort}
use Rattle.url.specs.Host.{host_text}
use Rattle.url.specs.Parts.{Parts, host_or_empty, text_between}
use Rattle.url.specs.Parser.{parse_url}
use Rattle.url.specs.Input.{is_empty}
use Rattle.std.proofs.lemmas.Option.{same_Some}
use Rattle.rtsp_uri.specs.declared.base.Base.{Base}
use Rattle.rtsp_uri.specs.Bases.{MadeOf}
use Rattle.rtsp_uri.specs.BaseTexts.{is_base_text}
use Rattle.rtsp_uri.specs.Words.{authority_text, names_base, base_named, base_in}

no_bytes : (xs : List ℕ) → is_empty xs ≡ true → xs ≡ []
no_bytes [] h = refl
no_bytes (x ∷ xs) h = absurd (grind (arith, h))

-- a URL without a user name and a password has its host and port between the slashes and the path
abbrev bare : List ℕ → List ℕ → List ℕ → Option (Host (List ℕ)) → Option ℕ → List ℕ → Option (List ℕ) → Option (List ℕ) → Parts
bare scheme username password host port path query fragment =
    record { scheme = scheme; username = username; password = password; host = host; port = port; path = path; query = query; fragment = fragment }

bare_text : (scheme : List ℕ) (host : Option (Host (List ℕ))) (port : Option ℕ) (path : List ℕ) (query fragment : Option (List ℕ))
    → text_between (bare scheme [] [] host port path query fragment) BeforeUsername AfterPort ≡ authority_text (bare scheme [] [] host port path query fragment)
bare_text scheme host None path query fragment = refl
bare_text scheme host (Some port) path query fragment =
    let url = bare scheme [] [] host (Some port) path query fragment in
    ap (λ t. host_text (host_or_empty url) ++ (colon ∷ t)) (append-nil (decimal port))

fields_text : (scheme username password : List ℕ) (host : Option (Host (List ℕ))) (port : Option ℕ) (path : List ℕ) (query fragment : Option (List ℕ))
    → username ≡ [] → password ≡ []
    → text_between (bare scheme username password host port path query fragment) BeforeUsername AfterPort ≡ authority_text (bare scheme username password host port path query fragment)
fields_text scheme username password host port path query fragment u p = rw (u, p) (bare_text scheme host port path query fragment)

pub bare_authority : (url : Parts) → names_base url ≡ true → text_between url BeforeUsername AfterPort ≡ authority_text url
bare_authority url h =
    fields_text url.scheme url.username url.password url.host url.port url.path url.query url.fragment
    (no_bytes url.username (grind (arith, h))) (no_bytes url.password (grind (arith, h)))

chosen : (long names : Bool) (text : List ℕ) → long ≡ true → names ≡ true
    → cond long (cond (names && is_base_text text) (Some text) None) None ≡ cond (is_base_text text) (Some text) None
chosen true true text l n = refl
chosen true false text l n = cc
chosen false names text l n = cc

-- the base of a word that `url` reads so
pub base_read : (word : List ℕ) (url : Parts) (text : List ℕ) → length word ≤ 255 → parse_url None word ≡ Ok url → names_base url ≡ true
    → text ≡ text_between url BeforeUsername AfterPort → base_in word ≡ cond (is_base_text text) (Some text) None
base_read word url text short read names is =
    ap (λ r. cond (nat_le (length word) 255) (base_named r) None) read
    ∙ chosen (nat_le (length word) 255) (names_base url) (authority_text url) (le-leb (length word) 255 short) names
    ∙ ap (λ t. cond (is_base_text t) (Some t) None) (sym (is ∙ bare_authority url names))

-- what was made of a text is what the word names
pub made_some : (text : List ℕ) (made : Option Base) (base : Base) (answer : Option (List ℕ)) → MadeOf text made → made ≡ Some base
    → answer ≡ cond (is_base_text text) (Some text) None → answer ≡ Some base.text
made_some text None base answer h is e = cc
made_some text (Some other) base answer h is e =
    let text_is : base.text ≡ text = sym (ap (λ (b : Base). b.text) (same_Some other base is)) ∙ h.1 in
    e ∙ ap (λ t. cond t (Some text) None) h.0 ∙ ap (λ t. Some t) (sym text_is)

pub made_none : (text : List ℕ) (made : Option Base) (answer : Option (List ℕ)) → MadeOf text made → made ≡ None
    → answer ≡ cond (is_base_text text) (Some text) None → answer ≡ None
made_none text None answer h is e = e ∙ ap (λ t. cond t (Some text) None) h
made_none text (Some base) answer h is e = cc
