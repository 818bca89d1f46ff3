-- A head is lines and an empty line, and its length is that of the head that is read.
use Rattle.std.proofs.Common.{◌≡◌, ℕ, zero, suc, ◌+◌, ◌<◌, ◌≤◌, Bool, true, false, cond, eqb, List, [], ◌∷◌, ◌++◌, length, take, drop, Option, Some, None, inl, inr, refl, sym, ap, ◌∙◌, subst, arith, append_assoc, take-append-drop}
use Rattle.std.specs.Option.{option_map}
use Rattle.std.proofs.lemmas.List.{take_at, take-take, drop-take, length-append, length-drop, nil_from_length}
use Rattle.std.proofs.lemmas.Bool.{eqb-true, eq-eqb, cases_Bool}
use Rattle.gate_bytes.specs.Ascii as ascii
use Rattle.gate_bytes.specs.Places.{place_of}
use Rattle.gate_bytes.proofs.PlaceLemmas.{place_within}
use Rattle.rtsp_head.specs.Items.{head_len}
use Rattle.rtsp_head.specs.Spellings.{empty_line, IsLine, AreLines, with_ends, EndsEmpty}
use Rattle.rtsp_head.specs.Lines.{is_empty_line}
use Rattle.rtsp_head.proofs.HeadEndLemmas.{later, place_turn, head_ends, head_goes_on, head_needs_lf}

-- From lines to the length

full_line : (line : List ℕ) → IsLine line → is_empty_line line ≡ false
full_line [] h = absurd (h.not_nothing refl)
full_line (b ∷ []) h =
    elim (cases_Bool (eqb b ascii.cr)) [
      | inl cr ↦ absurd (h.not_cr (ap (λ (n : ℕ). n ∷ []) (eqb-true b ascii.cr cr)))
      | inr other ↦ other
    ]
full_line (b ∷ c ∷ line) h = refl

place_behind : (byte : ℕ) (line more : List ℕ) → place_of byte line ≡ None → place_of byte (line ++ (byte ∷ more)) ≡ Some (length line)
place_behind byte [] more h = ap (λ (t : Bool). cond t (Some 0) (option_map (λ k. k + 1) (place_of byte more))) (eq-eqb byte byte refl)
place_behind byte (b ∷ line) more h =
    no_turn_at (eqb b byte) (place_of byte line) (place_of byte (line ++ (byte ∷ more))) (length line) (place_behind byte line more) h
  where
    no_turn_at : (t : Bool) (o p : Option ℕ) (n : ℕ) → (o ≡ None → p ≡ Some n) → cond t (Some 0) (option_map (λ k. k + 1) o) ≡ None → cond t (Some 0) (option_map (λ k. k + 1) p) ≡ Some (suc n)
    no_turn_at true o p n f h = cc
    no_turn_at false None p n f h =
        let e : n + 1 ≡ suc n = omega arith in ap (option_map (λ k. k + 1)) (f refl) ∙ ap (λ k. Some k) e
    no_turn_at false (Some k) p n f h = cc

drop_past : (byte : ℕ) (line more : List ℕ) → drop (suc (length line)) (line ++ (byte ∷ more)) ≡ more
drop_past byte [] more = refl
drop_past byte (b ∷ line) more = drop_past byte line more

parted : (line lines end rest : List ℕ) → line ++ ascii.lf ∷ [] ++ lines ++ end ++ rest ≡ line ++ (ascii.lf ∷ (lines ++ end ++ rest))
parted line lines end rest = simp append_assoc

counted : (line lines end : List ℕ) → suc (length line) + length (lines ++ end) ≡ length (line ++ ascii.lf ∷ [] ++ lines ++ end)
counted line lines end = simp length-append (omega arith)

-- the head that is read of lines and an empty line is these
pub ended_len : (lines : List (List ℕ)) (last : Bool) (rest : List ℕ) → AreLines lines → head_len (with_ends lines ++ empty_line last ++ rest) ≡ Some (length (with_ends lines ++ empty_line last))
ended_len [] true rest h = refl
ended_len [] false rest h = refl
ended_len (line ∷ lines) last rest h =
    let more = with_ends lines ++ empty_line last ++ rest in
    let text = line ++ (ascii.lf ∷ more) in
    let place : place_of ascii.lf text ≡ Some (length line) = place_behind ascii.lf line more h.0.no_lf in
    let full : is_empty_line (take (length line) text) ≡ false =
    ap is_empty_line (take_at line (ascii.lf ∷ more) (length line) refl) ∙ full_line line h.0 in
    ap head_len (parted line (with_ends lines) (empty_line last) rest)
    ∙ head_goes_on text (length line) place full
    ∙ ap (λ (l : List ℕ). later (suc (length line)) (head_len l)) (drop_past ascii.lf line more)
    ∙ ap (later (suc (length line))) (ended_len lines last rest h.1)
    ∙ ap (λ (n : ℕ). Some n) (counted line (with_ends lines) (empty_line last))

-- the head that is read of a text that begins so
pub ends_len : (front rest : List ℕ) → EndsEmpty front → head_len (front ++ rest) ≡ Some (length front)
ends_len front rest h =
    subst (λ (l : List ℕ). head_len (l ++ rest) ≡ Some (length l)) (sym h.spelled) (ended_len h.lines h.last rest h.are_lines)

-- From the length to lines

-- the line that ends at the first LF
line_at : (text : List ℕ) (end : ℕ) → place_of ascii.lf text ≡ Some end → (place_of ascii.lf (take end text) ≡ None) × (take (suc end) text ≡ take end text ++ ascii.lf ∷ [])
line_at [] end h = cc
line_at (b ∷ text) end h =
    place_turn (eqb b ascii.lf) (place_of ascii.lf text) end ((place_of ascii.lf (take end (b ∷ text)) ≡ None) × (take (suc end) (b ∷ text) ≡ take end (b ∷ text) ++ ascii.lf ∷ []))
    (λ t e.
    subst (λ (n : ℕ). (place_of ascii.lf (take n (b ∷ text)) ≡ None) × (take (suc n) (b ∷ text) ≡ take n (b ∷ text) ++ ascii.lf ∷ [])) (sym e)
    (refl, ap (λ (n : ℕ). n ∷ []) (eqb-true b ascii.lf t)))
    (λ k t at e.
    let more = line_at text k at in
    subst (λ (n : ℕ). (place_of ascii.lf (take n (b ∷ text)) ≡ None) × (take (suc n) (b ∷ text) ≡ take n (b ∷ text) ++ ascii.lf ∷ [])) e (
      ap (λ (t : Bool). cond t (Some 0) (option_map (λ k. k + 1) (place_of ascii.lf (take k text)))) t
          ∙ ap (option_map (λ k. k + 1)) more.0,
      ap (λ (l : List ℕ). b ∷ l) more.1,
    )) h

empty_ends : (line : List ℕ) → is_empty_line line ≡ true → EndsEmpty (line ++ ascii.lf ∷ [])
empty_ends [] h = record { lines = []; last = false; are_lines = tt; spelled = refl }
empty_ends (b ∷ []) h = record {
  lines = [];
  last = true;
  are_lines = tt;
  spelled = ap (λ (n : ℕ). n ∷ ascii.lf ∷ []) (eqb-true b ascii.cr h);
}
empty_ends (b ∷ c ∷ line) h = cc

full_is_line : (line : List ℕ) → place_of ascii.lf line ≡ None → is_empty_line line ≡ false → IsLine line
full_is_line line none full = record {
  no_lf = none;
  not_nothing = λ e. let never : true ≡ false = sym (ap is_empty_line e) ∙ full in cc never;
  not_cr = λ e. let never : true ≡ false = sym (ap is_empty_line e) ∙ full in cc never;
}

line_first : (line more : List ℕ) → IsLine line → EndsEmpty more → EndsEmpty (line ++ ascii.lf ∷ [] ++ more)
line_first line more is h = record {
  lines = line ∷ h.lines;
  last = h.last;
  are_lines = (is, h.are_lines);
  spelled = ap (λ (l : List ℕ). line ++ ascii.lf ∷ [] ++ l) h.spelled ∙ sym (append_assoc (line ++ ascii.lf ∷ []) (with_ends h.lines) (empty_line h.last));
}

later_some : (m k : ℕ) (o : Option ℕ) (P : Type 0) → ((j : ℕ) → o ≡ Some j → m + j ≡ k → P) → later m o ≡ Some k → P
later_some m k None P f h = cc
later_some m k (Some j) P f h = f j refl (cc)

pub take_sum : (n m : ℕ) (xs : List ℕ) → take (n + m) xs ≡ take n xs ++ take m (drop n xs)
take_sum n m xs =
    sym (take-append-drop n (take (n + m) xs))
    ∙ ap (λ (l : List ℕ). l ++ drop n (take (n + m) xs)) (take-take n (n + m) xs (omega arith))
    ∙ ap (λ (l : List ℕ). take n xs ++ l) (drop-take n m xs)

place_cases : (text : List ℕ) (o : Option ℕ) (P : Type 0) → place_of ascii.lf text ≡ o → (place_of ascii.lf text ≡ None → P) → ((end : ℕ) → place_of ascii.lf text ≡ Some end → P) → P
place_cases text None P e f g = f e
place_cases text (Some end) P e f g = g end e

ends_by : (n : ℕ) (text : List ℕ) (k : ℕ) → length text ≤ n → head_len text ≡ Some k → EndsEmpty (take k text)
ends_by zero text k le h =
    let nothing : text ≡ [] = nil_from_length text (omega arith) in
    let never : None ≡ Some k = sym (ap head_len nothing) ∙ h in
    cc never
ends_by (suc n) text k le h =
    place_cases text (place_of ascii.lf text) (EndsEmpty (take k text)) refl
    (λ none. let never : None ≡ Some k = sym (head_needs_lf text true none) ∙ h in cc never)
    (λ end at.
    let line = line_at text end at in
    let below : end < length text = place_within ascii.lf text end at in
    elim (cases_Bool (is_empty_line (take end text))) [
      | inl empty ↦
          let found : Some (end + 1) ≡ Some k = sym (head_ends text end at empty) ∙ h in
          let same : suc end ≡ k = omega (arith, same_number (end + 1) k found) in
          subst (λ (m : ℕ). EndsEmpty (take m text)) same
          (subst (λ (l : List ℕ). EndsEmpty l) (sym line.1) (empty_ends (take end text) empty))
      | inr full ↦
          later_some (suc end) k (head_len (drop (suc end) text)) (EndsEmpty (take k text))
          (λ j at_left same.
          let shorter : length (drop (suc end) text) ≤ n = omega (arith, length-drop (suc end) text) in
          subst (λ (m : ℕ). EndsEmpty (take m text)) same
          (subst (λ (l : List ℕ). EndsEmpty l)
          (sym (take_sum (suc end) j text ∙ ap (λ (l : List ℕ). l ++ take j (drop (suc end) text)) line.1))
          (line_first (take end text) (take j (drop (suc end) text)) (full_is_line (take end text) line.0 full)
          (ends_by n (drop (suc end) text) j shorter at_left))))
          (sym (head_goes_on text end at full) ∙ h)
    ])
  where
    same_number : (a b : ℕ) → ◌≡◌ {A = Option ℕ} (Some a) (Some b) → a ≡ b
    same_number a b h = cc

-- a head that is read is lines and an empty line
pub ends_found : (text : List ℕ) (k : ℕ) → head_len text ≡ Some k → EndsEmpty (take k text)
ends_found text k h = ends_by (length text) text k (omega arith) h

-- where none is read there is none
none_read : (text : List ℕ) (o : Option ℕ) → head_len text ≡ o → ((front rest : List ℕ) → EndsEmpty front → text ≡ front ++ rest → ⊥) → head_len text ≡ None
none_read text None at never = at
none_read text (Some k) at never =
    absurd (never (take k text) (drop k text) (ends_found text k at) (sym (take-append-drop k text)))

pub endless_none : (text : List ℕ) → ((front rest : List ℕ) → EndsEmpty front → text ≡ front ++ rest → ⊥) → head_len text ≡ None
endless_none text never = none_read text (head_len text) refl never

pub none_endless : (text front rest : List ℕ) → head_len text ≡ None → EndsEmpty front → text ≡ front ++ rest → ⊥
none_endless text front rest none h split =
    let never : None ≡ Some (length front) = sym none ∙ ap head_len split ∙ ends_len front rest h in
    cc never
