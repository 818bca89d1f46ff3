-- A test of each byte, over the parts of a text.
use Rattle.std.proofs.Common.{◌≡◌, ℕ, zero, suc, ◌+◌, ◌-◌, Bool, true, false, ◌&&◌, ◌==◌, not, cond, List, [], ◌∷◌, ◌++◌, length, take, drop, get_or, Option, None, Some, refl, sym, ◌∙◌, ap, subst, arith}
use Rattle.std.specs.Option.{option_map}
use Rattle.std.specs.List.{list_all, slice_split, onto_first}
use Rattle.std.specs.Str.Lines.{lines, lines_of_parts, strip_carriage_return}
use Rattle.std.proofs.lemmas.Bool.{and_parts, eqb-true}
use Rattle.std.proofs.lemmas.List.{take-append-drop}
use Rattle.std.proofs.lemmas.List.Folds.{list_all-append}
use Rattle.gate_bytes.specs.Ascii.{lf, cr}
use Rattle.gate_bytes.specs.Tokens.{without_front, without_end, trimmed}
use Rattle.gate_bytes.specs.Places.{place_of, cut_at}
use Rattle.rtsp_head.specs.Lines.{before_empty, head_lines, has_control}
use Rattle.rtsp_head.specs.HeadText.{is_line_text}
use Rattle.rtsp_head.proofs.LineLemmas.{ends_line}

pub all_parts : (p : ℕ → Bool) (front back : List ℕ) → list_all p (front ++ back) ≡ true → (list_all p front ≡ true) × (list_all p back ≡ true)
all_parts p front back h = and_parts (list_all p front) (list_all p back) (sym (list_all-append p front back) ∙ h)

all_take : (p : ℕ → Bool) (n : ℕ) (text : List ℕ) → list_all p text ≡ true → list_all p (take n text) ≡ true
all_take p n text h = (all_parts p (take n text) (drop n text) (ap (list_all p) (take-append-drop n text) ∙ h)).0

all_front : (p : ℕ → Bool) (text : List ℕ) → list_all p text ≡ true → list_all p (without_front text) ≡ true
all_front p [] h = refl
all_front p (b ∷ text) h =
    let parts = and_parts (p b) (list_all p text) h in
    let rest : list_all p (without_front text) ≡ true = all_front p text parts.1 in
    grind arith

all_end : (p : ℕ → Bool) (text : List ℕ) → list_all p text ≡ true → list_all p (without_end text) ≡ true
all_end p [] h = refl
all_end p (b ∷ text) h =
    let parts = and_parts (p b) (list_all p text) h in
    let rest : list_all p (without_end text) ≡ true = all_end p text parts.1 in
    grind arith

-- What holds of each byte holds of each that trimming leaves.
pub all_trimmed : (p : ℕ → Bool) (text : List ℕ) → list_all p text ≡ true → list_all p (trimmed text) ≡ true
all_trimmed p text h = all_end p (without_front text) (all_front p text h)

-- no LF
abbrev pub goes_through : ℕ → Bool
goes_through b = not (b == lf)

-- the same of each line
abbrev pub are_lines : List (List ℕ) → Bool
are_lines lines = list_all (λ line. list_all goes_through line) lines

onto_kept : (b : ℕ) (parts : List (List ℕ)) → goes_through b ≡ true → are_lines parts ≡ true → are_lines (onto_first b parts) ≡ true
onto_kept b [] through h = ap (λ t. (t && true) && true) through
onto_kept b (part ∷ parts) through h = ap (λ t. (t && list_all goes_through part) && are_lines parts) through ∙ h

split_kept : (b : ℕ) (test : Bool) (parts : List (List ℕ)) → ends_line b ≡ test → are_lines parts ≡ true → are_lines (cond test ([] ∷ parts) (onto_first b parts)) ≡ true
split_kept b true parts e h = h
split_kept b false parts e h = onto_kept b parts (ap not e) h

split_lines : (bytes : List ℕ) → are_lines (slice_split ends_line bytes) ≡ true
split_lines [] = refl
split_lines (b ∷ bytes) = split_kept b (ends_line b) (slice_split ends_line bytes) refl (split_lines bytes)

strip_kept : (line : List ℕ) → list_all goes_through line ≡ true → list_all goes_through (strip_carriage_return line) ≡ true
strip_kept line h = by_test (get_or line (length line - 1) 0 == cr)
  where
    by_test : (test : Bool) → list_all goes_through (cond test (take (length line - 1) line) line) ≡ true
    by_test true = all_take goes_through (length line - 1) line h
    by_test false = h

both_true : (a b : Bool) → a ≡ true → b ≡ true → a && b ≡ true
both_true a b ha hb = ap (λ t. t && b) ha ∙ hb

last_kept : (part : List ℕ) (test : Bool) → list_all goes_through part ≡ true → are_lines (cond test [] (part ∷ [])) ≡ true
last_kept part true h = refl
last_kept part false h = ap (λ t. t && true) h

parts_kept : (parts : List (List ℕ)) → are_lines parts ≡ true → are_lines (lines_of_parts parts) ≡ true
parts_kept [] h = refl
parts_kept (part ∷ []) h = last_kept part (length part == 0) (and_parts (list_all goes_through part) true h).0
parts_kept (part ∷ next ∷ more) h =
    let all = and_parts (list_all goes_through part) (are_lines (next ∷ more)) h in
    both_true _ _ (strip_kept part all.0) (parts_kept (next ∷ more) all.1)

before_kept : (lines : List (List ℕ)) → are_lines lines ≡ true → are_lines (before_empty lines) ≡ true
before_kept [] h = refl
before_kept ([] ∷ more) h = refl
before_kept ((b ∷ line) ∷ more) h =
    let all = and_parts (list_all goes_through (b ∷ line)) (are_lines more) h in
    both_true _ _ all.0 (before_kept more all.1)

-- The lines of a head hold no LF.
pub head_lines_kept : (bytes : List ℕ) → are_lines (head_lines bytes) ≡ true
head_lines_kept bytes = before_kept (lines bytes) (parts_kept (slice_split ends_line bytes) (split_lines bytes))

-- A line without LF and control bytes fits into one line.
pub fits_line : (text : List ℕ) → list_all goes_through text ≡ true → has_control text ≡ false → is_line_text text ≡ true
fits_line [] h c = refl
fits_line (b ∷ text) h c =
    let parts = and_parts (goes_through b) (list_all goes_through text) h in
    let later : has_control text ≡ false = grind arith in
    let rest : is_line_text text ≡ true = fits_line text parts.1 later in
    grind arith

-- how a text was cut: at the first byte of a kind
pub record Cut (byte : ℕ) (text front back : List ℕ) : Type 0 where
  pub whole : text ≡ front ++ (byte ∷ back)
  pub clean : list_all (λ b. not (b == byte)) front ≡ true

cut_step : (byte b : ℕ) (text : List ℕ) (test : Bool) (later : Option ℕ) (k : ℕ) → (b == byte) ≡ test → cond test (Some 0) (option_map (λ j. j + 1) later) ≡ Some k →
    ((j : ℕ) → later ≡ Some j → Cut byte text (take j text) (drop (j + 1) text)) → Cut byte (b ∷ text) (take k (b ∷ text)) (drop (k + 1) (b ∷ text))
cut_step byte b text true later zero e h rest = record { whole = ap (λ c. c ∷ text) (eqb-true b byte e); clean = refl }
cut_step byte b text true later (suc k) e h rest = absurd (grind arith)
cut_step byte b text false None k e h rest = cc
cut_step byte b text false (Some j) zero e h rest = absurd (grind arith)
cut_step byte b text false (Some j) (suc k) e h rest =
    let same : j ≡ k = grind arith in
    let cut : Cut byte text (take k text) (drop (k + 1) text) = subst (λ n. Cut byte text (take n text) (drop (n + 1) text)) same (rest j refl) in
    let next : suc k + 1 ≡ suc (k + 1) = omega arith in
    rw next (record { whole = ap (λ t. b ∷ t) cut.whole; clean = both_true _ _ (ap not e) cut.clean })

place_cut : (byte : ℕ) (text : List ℕ) (k : ℕ) → place_of byte text ≡ Some k → Cut byte text (take k text) (drop (k + 1) text)
place_cut byte [] k h = cc
place_cut byte (b ∷ text) k h = cut_step byte b text (b == byte) (place_of byte text) k refl h (place_cut byte text)

abbrev pub CutIfSome : ℕ → List ℕ → Option (List ℕ × List ℕ) → Type 0
CutIfSome byte text None = Unit {0}
CutIfSome byte text (Some parts) = Cut byte text parts.0 parts.1

-- A cut is at the first byte of its kind.
pub cut_found : (byte : ℕ) (text : List ℕ) → CutIfSome byte text (cut_at byte text)
cut_found byte text = by_place (place_of byte text) refl
  where
    by_place : (place : Option ℕ) → place_of byte text ≡ place → CutIfSome byte text (option_map (λ k. (take k text, drop (k + 1) text)) place)
    by_place None e = tt
    by_place (Some k) e = place_cut byte text k e
