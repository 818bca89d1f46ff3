-- Heads that came whole: their least length, their front, and what pays for the looks at the end of the bytes.
use Rattle.std.proofs.Common.{◌≡◌, ℕ, zero, suc, ◌+◌, ◌-◌, ◌*◌, ◌<◌, ◌≤◌, Bool, true, false, cond, ◌&&◌, ◌||◌, ◌==◌, List, [], ◌∷◌, ◌++◌, length, take, drop, get_or, Option, Some, None, refl, sym, ap, ◌∙◌, subst, arith, eqb-true, take-append-drop}
use Rattle.std.specs.Option.{option_map, is_some}
use Rattle.std.proofs.lemmas.Bool.{and_parts}
use Rattle.std.proofs.lemmas.List.{length-drop, get_or-drop}
use Rattle.gate_bytes.specs.Ascii.{lf, cr}
use Rattle.rtsp_head.specs.Lines.{is_empty_line}
use Rattle.rtsp_head.specs.Items.{begins_with_lf, begins_blank, head_from, head_len}
use Rattle.rtsp_head.specs.LineWalk.{IsPassed}
use Rattle.rtsp_head.proofs.PassLemmas.{ends_bare, ends_crlf}
use Rattle.rtsp_frame.specs.Lines.{ends_empty}
use Rattle.rtsp_frame.proofs.HeadLemmas.{head_from_fits}

-- a line that is not empty has bytes
pub full_some : (line : List ℕ) → is_empty_line line ≡ false → 0 < length line
full_some [] h = cc
full_some (b ∷ line) h = omega arith

-- a front of bytes that begin with no empty line doesn't either
pub still_full : (bytes : List ℕ) (n : ℕ) → begins_blank bytes ≡ false → begins_blank (take n bytes) ≡ false
still_full bytes zero h = refl
still_full [] (suc n) h = refl
still_full (b ∷ []) (suc n) h = by n
  where
    by : (n : ℕ) → begins_blank (b ∷ take n []) ≡ false
    by zero = h
    by (suc n) = h
still_full (b ∷ c ∷ bytes) (suc zero) h = less (b == lf) (b == cr) (c == lf) h
  where
    less : (x y z : Bool) → x || (y && z) ≡ false → x || (y && false) ≡ false
    less true y z h = cc
    less false true z h = refl
    less false false z h = refl
still_full (b ∷ c ∷ bytes) (suc (suc n)) h = h

pub suc_some : (n : ℕ) (o : Option ℕ) (P : Type 0) → ((k : ℕ) → o ≡ Some k → suc k ≡ n → P) → option_map suc o ≡ Some n → P
suc_some n None P f h = cc
suc_some n (Some k) P f h = let e : suc k ≡ n = cc in f k refl e

two_at_least : (bytes : List ℕ) (n : ℕ) → head_from false bytes ≡ Some n → 2 ≤ n
two_at_least [] n h = cc
two_at_least (b ∷ bytes) n h = by (b == lf) (b == cr && begins_with_lf bytes) h
  where
    by : (ten blank : Bool) → cond (ten && false) (Some 1) (option_map suc (head_from (ten || (false && blank)) bytes)) ≡ Some n → 2 ≤ n
    by true blank e = suc_some n (head_from true bytes) (2 ≤ n) (λ k at sum. let some = (head_from_fits bytes true k at).0 in omega arith) e
    by false blank e = suc_some n (head_from false bytes) (2 ≤ n) (λ k at sum. let some = (head_from_fits bytes false k at).0 in omega arith) e

-- a head has a line that is not empty, and an empty one
pub head_long : (bytes : List ℕ) (n : ℕ) → begins_blank bytes ≡ false → head_len bytes ≡ Some n → 3 ≤ n
head_long [] n full h = cc
head_long (b ∷ bytes) n full h = by (b == lf) (b == cr && begins_with_lf bytes) full h
  where
    by : (ten blank : Bool) → ten || blank ≡ false → cond (ten && true) (Some 1) (option_map suc (head_from (ten || (true && blank)) bytes)) ≡ Some n → 3 ≤ n
    by true blank f e = cc
    by false true f e = cc
    by false false f e = suc_some n (head_from false bytes) (3 ≤ n) (λ k at sum. let two = two_at_least bytes k at in omega arith) e

-- a head is the head of its own bytes
pub head_kept : (bytes : List ℕ) (starts : Bool) (n : ℕ) → head_from starts bytes ≡ Some n → head_from starts (take n bytes) ≡ Some n
head_kept [] starts n h = cc
head_kept (b ∷ []) starts n h = by (b == lf && starts) refl h
  where
    by : (t : Bool) → (b == lf && starts) ≡ t → cond t (Some 1) None ≡ Some n → head_from starts (take n (b ∷ [])) ≡ Some n
    by true e f = let one : 1 ≡ n = cc in subst (λ (m : ℕ). head_from starts (take m (b ∷ [])) ≡ Some m) one (ap (λ (t : Bool). cond t (Some 1) None) e)
    by false e f = cc
head_kept (b ∷ c ∷ bytes) starts n h =
    kept (b == lf && starts) refl (λ k at. head_kept (c ∷ bytes) (b == lf || (starts && (b == cr && c == lf))) k at) h
  where
    past : (k : ℕ) → head_from (b == lf || (starts && (b == cr && c == lf))) (take k (c ∷ bytes)) ≡ Some k → 0 < k → suc k ≡ n → (b == lf && starts) ≡ false
        → head_from starts (take n (b ∷ c ∷ bytes)) ≡ Some n
    past zero at some sum e = absurd (omega arith)
    past (suc j) at some sum e =
        subst (λ (m : ℕ). head_from starts (take m (b ∷ c ∷ bytes)) ≡ Some m) sum
        (ap (λ (t : Bool). cond t (Some 1) (option_map suc (head_from (b == lf || (starts && (b == cr && c == lf))) (c ∷ take j bytes)))) e ∙ ap (option_map suc) at)

    kept : (t : Bool) → (b == lf && starts) ≡ t
        → ((k : ℕ) → head_from (b == lf || (starts && (b == cr && c == lf))) (c ∷ bytes) ≡ Some k → head_from (b == lf || (starts && (b == cr && c == lf))) (take k (c ∷ bytes)) ≡ Some k)
        → cond t (Some 1) (option_map suc (head_from (b == lf || (starts && (b == cr && c == lf))) (c ∷ bytes))) ≡ Some n
        → head_from starts (take n (b ∷ c ∷ bytes)) ≡ Some n
    kept true e again f = let one : 1 ≡ n = cc in subst (λ (m : ℕ). head_from starts (take m (b ∷ c ∷ bytes)) ≡ Some m) one (ap (λ (t : Bool). cond t (Some 1) None) e)
    kept false e again f =
        suc_some n (head_from (b == lf || (starts && (b == cr && c == lf))) (c ∷ bytes)) (head_from starts (take n (b ∷ c ∷ bytes)) ≡ Some n)
        (λ k at sum. past k (again k at) (head_from_fits (c ∷ bytes) _ k at).0 sum e) f

left_some : (n : ℕ) (rest : List ℕ) (m : ℕ) → option_map (λ k. m + k) (head_len rest) ≡ Some n → 0 < length rest
left_some n [] m h = cc
left_some n (b ∷ rest) m h = omega arith

-- the empty line of a head is left behind its lines
pub end_left : (bytes rest : List ℕ) (n : ℕ) → head_len bytes ≡ Some n → IsPassed (take n bytes) rest → 0 < length rest
end_left bytes rest n h passed = left_some n rest _ (sym passed.ends ∙ head_kept bytes true n h)

-- the looks at the end and the search of a head leave enough for its check
pub looks_paid : (searched line before looked sought done len : ℕ) → looked ≤ before + 3 → (0 < searched → looked ≡ before) → sought + 2 * searched ≤ looked + 2 * len
    → 2 * sought + 2 * searched + line ≤ 2 * looked + 3 * len + 1 → done + 2 ≤ sought + 4 * len → 3 ≤ len → done + 2 * searched ≤ before + 6 * len
looks_paid zero line before looked sought done len few later cost lines check long = omega arith
looks_paid (suc n) line before looked sought done len few later cost lines check long = let same : looked ≡ before = later (omega arith) in omega arith

-- and the search of a head that goes on leaves enough for them
pub looks_paid_on : (searched line before looked sought len : ℕ) → 2 * looked ≤ 2 * before + len → (0 < searched → looked ≡ before) → sought + 2 * searched ≤ looked + 2 * len
    → 2 * sought + 2 * searched + line ≤ 2 * looked + 3 * len → sought + 2 * searched ≤ before + 2 * len
looks_paid_on zero line before looked sought len few later cost lines = omega arith
looks_paid_on (suc n) line before looked sought len few later cost lines = let same : looked ≡ before = later (omega arith) in omega arith

some_none : (o : Option ℕ) (rest : Option ℕ) (m : ℕ) → is_some o ≡ true → o ≡ option_map (λ k. m + k) rest → rest ≡ None → ⊥
some_none o (Some k) m some same none = cc
some_none None None m some same none = cc
some_none (Some n) None m some same none = cc

-- Where bytes hold a head, so do those that are left behind lines of it.
pub rest_ends : (bytes rest : List ℕ) → is_some (head_len bytes) ≡ true → IsPassed bytes rest → head_len rest ≡ None → ⊥
rest_ends bytes rest some passed none = some_none (head_len bytes) (head_len rest) _ some passed.ends none

two_bytes : (bytes : List ℕ) → length bytes ≡ 2 → bytes ≡ get_or bytes 0 0 ∷ get_or bytes 1 0 ∷ []
two_bytes [] h = cc
two_bytes (b ∷ []) h = absurd (omega arith)
two_bytes (b ∷ c ∷ []) h = refl
two_bytes (b ∷ c ∷ d ∷ bytes) h = absurd (omega arith)

three_bytes : (bytes : List ℕ) → length bytes ≡ 3 → bytes ≡ get_or bytes 0 0 ∷ get_or bytes 1 0 ∷ get_or bytes 2 0 ∷ []
three_bytes [] h = cc
three_bytes (b ∷ bytes) h = ap (λ (l : List ℕ). b ∷ l) (two_bytes bytes (omega arith))

from_end : (bytes : List ℕ) (k i : ℕ) → i < k → k ≤ length bytes → get_or (drop (length bytes - k) bytes) i 0 ≡ get_or bytes (length bytes - (k - i)) 0
from_end bytes k i less fits =
    let sum : length bytes - k + i ≡ length bytes - (k - i) = omega arith in
    get_or-drop (length bytes - k) bytes i 0 ∙ ap (λ (n : ℕ). get_or bytes n 0) sum

-- Bytes that end with an empty line hold a head.
pub ends_whole : (bytes : List ℕ) → 3 ≤ length bytes → ends_empty bytes ≡ true → is_some (head_len bytes) ≡ true
ends_whole bytes long ends =
    let parts = and_parts (get_or bytes (length bytes - 1) 0 == lf) _ ends in
    by (get_or bytes (length bytes - 2) 0 == lf) refl (eqb-true (get_or bytes (length bytes - 1) 0) lf parts.0) parts.1
  where
    by : (bare : Bool) → (get_or bytes (length bytes - 2) 0 == lf) ≡ bare → get_or bytes (length bytes - 1) 0 ≡ lf
        → bare || (get_or bytes (length bytes - 2) 0 == cr && get_or bytes (length bytes - 3) 0 == lf) ≡ true → is_some (head_len bytes) ≡ true
    by true e last h =
        let second = eqb-true (get_or bytes (length bytes - 2) 0) lf e in
        let tail : drop (length bytes - 2) bytes ≡ lf ∷ lf ∷ [] =
        two_bytes (drop (length bytes - 2) bytes) (omega (arith, length-drop (length bytes - 2) bytes))
        ∙ ap (λ (b : ℕ). b ∷ get_or (drop (length bytes - 2) bytes) 1 0 ∷ []) (from_end bytes 2 0 (omega arith) (omega arith) ∙ second)
        ∙ ap (λ (b : ℕ). lf ∷ b ∷ []) (from_end bytes 2 1 (omega arith) (omega arith) ∙ last) in
        subst (λ (l : List ℕ). is_some (head_len l) ≡ true)
        (ap (λ (l : List ℕ). take (length bytes - 2) bytes ++ l) (sym tail) ∙ take-append-drop (length bytes - 2) bytes)
        (ends_bare (take (length bytes - 2) bytes))
    by false e last h =
        let more = and_parts (get_or bytes (length bytes - 2) 0 == cr) (get_or bytes (length bytes - 3) 0 == lf) h in
        let second = eqb-true (get_or bytes (length bytes - 2) 0) cr more.0 in
        let third = eqb-true (get_or bytes (length bytes - 3) 0) lf more.1 in
        let tail : drop (length bytes - 3) bytes ≡ lf ∷ cr ∷ lf ∷ [] =
        three_bytes (drop (length bytes - 3) bytes) (omega (arith, length-drop (length bytes - 3) bytes))
        ∙ ap (λ (b : ℕ). b ∷ get_or (drop (length bytes - 3) bytes) 1 0 ∷ get_or (drop (length bytes - 3) bytes) 2 0 ∷ []) (from_end bytes 3 0 (omega arith) long ∙ third)
        ∙ ap (λ (b : ℕ). lf ∷ b ∷ get_or (drop (length bytes - 3) bytes) 2 0 ∷ []) (from_end bytes 3 1 (omega arith) long ∙ second)
        ∙ ap (λ (b : ℕ). lf ∷ cr ∷ b ∷ []) (from_end bytes 3 2 (omega arith) long ∙ last) in
        subst (λ (l : List ℕ). is_some (head_len l) ≡ true)
        (ap (λ (l : List ℕ). take (length bytes - 3) bytes ++ l) (sym tail) ∙ take-append-drop (length bytes - 3) bytes)
        (ends_crlf (take (length bytes - 3) bytes))
