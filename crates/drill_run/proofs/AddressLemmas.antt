-- An address is told by its text.
use Rattle.std.proofs.Common.{◌≡◌, ℕ, List, length, take, Option, Some, sym, ap, ◌∙◌, subst, arith}
use Rattle.std.proofs.Props.{props}
use Rattle.rtsp_uri.specs.declared.base.Base.{Base}
use Rattle.rtsp_uri.specs.declared.base.Bases.{Bases}
use Rattle.rtsp_uri.specs.declared.grammar.UriPlaces.{UriPlaces}
use Rattle.rtsp_uri.specs.BaseTexts.{IsBase}

whole_prop : (text host : List ℕ) (port : Option ℕ) → IsProp (IsBase text host port)
whole_prop text host port = hlevel props

-- an address of these parts
abbrev address : (text host : List ℕ) (port : Option ℕ) → IsBase text host port → Base
address text host port whole = record { text = text; host = host; port = port; whole = whole }

same_parts : (text host other_host : List ℕ) (port other_port : Option ℕ) (one : IsBase text host port) (other : IsBase text other_host other_port) → host ≡ other_host → port ≡ other_port
    → address text host port one ≡ address text other_host other_port other
same_parts text host other_host port other_port one other hosts ports =
    subst (λ (h : List ℕ). (o : IsBase text h other_port) → address text host port one ≡ address text h other_port o) hosts
    (subst (λ (p : Option ℕ). (o : IsBase text host p) → address text host port one ≡ address text host p o) ports
    (λ o. ap (address text host port) (whole_prop text host port one o)))
    other

same_places : (one other : UriPlaces) → Some one ≡ Some other → one ≡ other
same_places one other same = cc

same_text : (text host other_host : List ℕ) (port other_port : Option ℕ) (one : IsBase text host port) (other : IsBase text other_host other_port) → address text host port one ≡ address text other_host other_port other
same_text text host other_host port other_port one other =
    let places = same_places _ _ (sym one.places ∙ other.places) in
    let ends = ap (λ (p : UriPlaces). p.host_end) places in
    let long : length host ≡ length other_host = omega (arith, ends) in
    same_parts text host other_host port other_port one other (sym one.begins ∙ ap (λ n. take n text) long ∙ other.begins) (ap (λ (p : UriPlaces). p.port) places)

-- Addresses with one text are one.
same_address : (one other : Base) → one.text ≡ other.text → one ≡ other
same_address one other same =
    subst (λ (text : List ℕ). (whole : IsBase text other.host other.port) → one ≡ address text other.host other.port whole) same
    (λ whole. same_text one.text one.host other.host one.port other.port one.whole whole) other.whole

-- the addresses that a gateway stands between
abbrev between : Base → Base → Bases
between front up = record { front = front; up = up }

pub same_bases : (one other : Bases) → one.front.text ≡ other.front.text → one.up.text ≡ other.up.text → one ≡ other
same_bases one other front up =
    ap (λ (b : Base). between b one.up) (same_address one.front other.front front) ∙ ap (λ (b : Base). between other.front b) (same_address one.up other.up up)
