-- Words that were checked by their kinds.
use Rattle.std.proofs.Common.{◌≡◌, ℕ, ◌+◌, ◌≤◌, ◌<◌, Bool, true, false, cond, List, [], ◌∷◌, length, map, get_or, Option, Some, None, refl, sym, ap, ◌∙◌, arith}
use Rattle.std.proofs.lemmas.List.{length-map}
use Rattle.command_line.specs.declared.kinds.Kind.TheVariants.{Base, Stations}
use Rattle.command_line.specs.declared.kinds.Kind.{Kind}
use Rattle.command_line.specs.Kinds.{is_of, first_fault}
use Rattle.command_line.specs.Words.{serve_kinds}
use Rattle.command_line.specs.ClapCommands.{clap_line, serve_line}

-- the words are of these kinds, one after the other, and no more
abbrev pub AreOf : List Kind → List (List ℕ) → Type 0
AreOf [] [] = Unit {0}
AreOf [] (word ∷ words) = ⊥
AreOf (kind ∷ kinds) [] = ⊥
AreOf (kind ∷ kinds) (word ∷ words) = (is_of kind word ≡ true) × AreOf kinds words

-- a test that leaves no fault
passed : (test : Bool) (place : ℕ) (more : Option ℕ) → cond test more (Some place) ≡ None → (test ≡ true) × (more ≡ None)
passed true place more h = (refl, h)
passed false place more h = cc

pub are_of : (place : ℕ) (kinds : List Kind) (words : List (List ℕ)) → first_fault place kinds words ≡ None → AreOf kinds words
are_of place [] [] h = tt
are_of place [] (word ∷ words) h = cc
are_of place (kind ∷ kinds) [] h = cc
are_of place (kind ∷ kinds) (word ∷ words) h =
    let right = passed (is_of kind word) place (first_fault (place + 1) kinds words) h in
    (right.0, are_of (place + 1) kinds words right.1)

pub same_count : (kinds : List Kind) (words : List (List ℕ)) → AreOf kinds words → length words ≡ length kinds
same_count [] [] h = refl
same_count [] (word ∷ words) h = absurd h
same_count (kind ∷ kinds) [] h = absurd h
same_count (kind ∷ kinds) (word ∷ words) h = let rest = same_count kinds words h.1 in omega (arith, rest)

-- a list of two, by its elements
pub two_of : {A : Type 0} (xs : List A) (x y : A) → 2 ≤ length xs → length xs < 3 → x ≡ get_or xs 0 x → y ≡ get_or xs 1 y → xs ≡ x ∷ y ∷ []
two_of [] x y least most at_0 at_1 = absurd (omega (arith, least))
two_of (a ∷ []) x y least most at_0 at_1 = absurd (omega (arith, least))
two_of (a ∷ b ∷ []) x y least most at_0 at_1 = cc
two_of (a ∷ b ∷ c ∷ more) x y least most at_0 at_1 = absurd (omega (arith, most))

-- a list of five, by its elements
pub five_of : {A : Type 0} (xs : List A) (x y z u v : A) → 5 ≤ length xs → length xs < 6 → x ≡ get_or xs 0 x → y ≡ get_or xs 1 y → z ≡ get_or xs 2 z → u ≡ get_or xs 3 u →
    v ≡ get_or xs 4 v → xs ≡ x ∷ y ∷ z ∷ u ∷ v ∷ []
five_of [] x y z u v least most at_0 at_1 at_2 at_3 at_4 = absurd (omega (arith, least))
five_of (a ∷ []) x y z u v least most at_0 at_1 at_2 at_3 at_4 = absurd (omega (arith, least))
five_of (a ∷ b ∷ []) x y z u v least most at_0 at_1 at_2 at_3 at_4 = absurd (omega (arith, least))
five_of (a ∷ b ∷ c ∷ []) x y z u v least most at_0 at_1 at_2 at_3 at_4 = absurd (omega (arith, least))
five_of (a ∷ b ∷ c ∷ d ∷ []) x y z u v least most at_0 at_1 at_2 at_3 at_4 = absurd (omega (arith, least))
five_of (a ∷ b ∷ c ∷ d ∷ e ∷ []) x y z u v least most at_0 at_1 at_2 at_3 at_4 = cc
five_of (a ∷ b ∷ c ∷ d ∷ e ∷ f ∷ more) x y z u v least most at_0 at_1 at_2 at_3 at_4 = absurd (omega (arith, most))

-- two words that were checked: the line, and what each is
pub record TwoRight {A : Type 0} (f : A → List ℕ) (one_kind other_kind : Kind) (xs : List A) (x y : A) : Type 0 where
  pub line : map f xs ≡ f x ∷ f y ∷ []
  pub one : is_of one_kind (f x) ≡ true
  pub other : is_of other_kind (f y) ≡ true

pub two_right : {A : Type 0} (f : A → List ℕ) (one_kind other_kind : Kind) (xs : List A) (x y : A) → first_fault 1 (one_kind ∷ other_kind ∷ []) (map f xs) ≡ None →
    2 ≤ length xs → length xs < 3 → x ≡ get_or xs 0 x → y ≡ get_or xs 1 y → TwoRight f one_kind other_kind xs x y
two_right f one_kind other_kind xs x y checked least most at_0 at_1 =
    let line = ap (map f) (two_of xs x y least most at_0 at_1) in
    let right = are_of 1 (one_kind ∷ other_kind ∷ []) (f x ∷ f y ∷ []) (ap (first_fault 1 (one_kind ∷ other_kind ∷ [])) (sym line) ∙ checked) in
    record { line = line; one = right.0; other = right.1.0 }

-- five words that were checked
pub record ServeRight {A : Type 0} (f : A → List ℕ) (xs : List A) (front up listen stations recorder : A) : Type 0 where
  pub line : map f xs ≡ f front ∷ f up ∷ f listen ∷ f stations ∷ f recorder ∷ []
  pub front_right : is_of Base (f front) ≡ true
  pub up_right : is_of Base (f up) ≡ true
  pub stations_right : is_of Stations (f stations) ≡ true

pub serve_right : {A : Type 0} (f : A → List ℕ) (xs : List A) (x y z u v : A) → first_fault 1 serve_kinds (map f xs) ≡ None →
    5 ≤ length xs → length xs < 6 → x ≡ get_or xs 0 x → y ≡ get_or xs 1 y → z ≡ get_or xs 2 z → u ≡ get_or xs 3 u → v ≡ get_or xs 4 v → ServeRight f xs x y z u v
serve_right f xs x y z u v checked least most at_0 at_1 at_2 at_3 at_4 =
    let line = ap (map f) (five_of xs x y z u v least most at_0 at_1 at_2 at_3 at_4) in
    let right = are_of 1 serve_kinds (f x ∷ f y ∷ f z ∷ f u ∷ f v ∷ []) (ap (first_fault 1 serve_kinds) (sym line) ∙ checked) in
    record { line = line; front_right = right.0; up_right = right.1.0; stations_right = right.1.1.1.0 }

-- as many words as kinds
pub counted : {A : Type 0} (f : A → List ℕ) (kinds : List Kind) (xs : List A) → first_fault 1 kinds (map f xs) ≡ None → length xs ≡ length kinds
counted f kinds xs checked = sym (length-map xs f) ∙ same_count kinds (map f xs) (are_of 1 kinds (map f xs) checked)

-- the words of two lines that are the same
pub same_two : (name a b one other : List ℕ) → clap_line name a b ≡ clap_line name one other → (one ≡ a) × (other ≡ b)
same_two name a b one other same = (cc, cc)

-- the words of two lines of five that are the same
pub record SameFive (a b c d e front up listen stations recorder : List ℕ) : Type 0 where
  pub front_same : front ≡ a
  pub up_same : up ≡ b
  pub listen_same : listen ≡ c
  pub stations_same : stations ≡ d
  pub recorder_same : recorder ≡ e

pub same_five : (a b c d e front up listen stations recorder : List ℕ) → serve_line a b c d e ≡ serve_line front up listen stations recorder →
    SameFive a b c d e front up listen stations recorder
same_five a b c d e front up listen stations recorder same = record { front_same = cc; up_same = cc; listen_same = cc; stations_same = cc; recorder_same = cc }
