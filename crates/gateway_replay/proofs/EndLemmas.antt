-- The closes at the end of the server's connection, number by number.
use Rattle.std.proofs.Common.{◌≡◌, ℕ, zero, suc, ◌+◌, ◌-◌, ◌^◌, ◌<◌, ◌≤◌, Bool, false, true, cond, List, [], ◌++◌, refl, sym, ◌∙◌, ap, arith}
use Rattle.std.proofs.lemmas.List.{append_assoc, append-nil}
use Rattle.gateway_claim.specs.Happenings.{HistoryEntry, is_alive}
use Rattle.client_machine.specs.declared.why.CloseWhy.TheVariants.{Upstream}
use Rattle.gateway_replay.specs.RecordTexts.{close_record, end_record, ends_below, numbers, ends}

pub numbers_are : numbers ≡ 4294967296
unfolding numbers
numbers_are = refl

-- numbers of connections that are not alive add nothing
dead_end : (i : ℕ) (T : List HistoryEntry) → is_alive i T ≡ false → end_record i T ≡ []
dead_end i T dead = ap (λ (b : Bool). let none : List ℕ = [] in cond b (close_record i Upstream) none) dead

living_end : (i : ℕ) (T : List HistoryEntry) → is_alive i T ≡ true → end_record i T ≡ close_record i Upstream
living_end i T alive = ap (λ (b : Bool). let none : List ℕ = [] in cond b (close_record i Upstream) none) alive

quiet_by : (k from to : ℕ) (T : List HistoryEntry) → to ≡ from + k → ((i : ℕ) → from ≤ i → i < to → is_alive i T ≡ false) → ends_below to T ≡ ends_below from T
quiet_by zero from to T sum dead = let same : to ≡ from = omega arith in ap (λ (n : ℕ). ends_below n T) same
quiet_by (suc k) from to T sum dead =
    let last : to ≡ suc (from + k) = omega arith in
    ap (λ (n : ℕ). ends_below n T) last
    ∙ ap (λ (l : List ℕ). ends_below (from + k) T ++ l) (dead_end (from + k) T (dead (from + k) (omega arith) (omega arith)))
    ∙ append-nil (ends_below (from + k) T)
    ∙ quiet_by k from (from + k) T refl (λ i low high. dead i low (omega arith))

ends_quiet : (from to : ℕ) (T : List HistoryEntry) → from ≤ to → ((i : ℕ) → from ≤ i → i < to → is_alive i T ≡ false) → ends_below to T ≡ ends_below from T
ends_quiet from to T reach dead = quiet_by (to - from) from to T (omega arith) dead

-- the next that is alive
pub ends_next : (from conn : ℕ) (T : List HistoryEntry) → from ≤ conn → is_alive conn T ≡ true → ((i : ℕ) → from ≤ i → i < conn → is_alive i T ≡ false)
    → ends_below (suc conn) T ≡ ends_below from T ++ close_record conn Upstream
ends_next from conn T reach alive dead =
    ap (λ (l : List ℕ). l ++ end_record conn T) (ends_quiet from conn T reach dead) ∙ ap (λ (l : List ℕ). ends_below from T ++ l) (living_end conn T alive)

-- none is alive any more
pub ends_last : (from : ℕ) (T : List HistoryEntry) → from ≤ 4294967296 → ((i : ℕ) → from ≤ i → i < 2 ^ 32 → is_alive i T ≡ false) → ends_below from T ≡ ends T
ends_last from T reach dead =
    sym (ends_quiet from numbers T (omega (arith, numbers_are)) (λ i low high. dead i low (omega (arith, numbers_are))))

-- what is below a number is a front of all
rest_by : (k n to : ℕ) (T : List HistoryEntry) → to ≡ n + k → (rest : List ℕ) × (ends_below n T ++ rest ≡ ends_below to T)
rest_by zero n to T sum =
    let same : n ≡ to = omega arith in
    ([], append-nil (ends_below n T) ∙ ap (λ (m : ℕ). ends_below m T) same)
rest_by (suc k) n to T sum =
    let less = rest_by k n (n + k) T refl in
    let last : suc (n + k) ≡ to = omega arith in (
      less.0 ++ end_record (n + k) T,
      sym (append_assoc (ends_below n T) less.0 (end_record (n + k) T)) ∙ ap (λ (l : List ℕ). l ++ end_record (n + k) T) less.1 ∙ ap (λ (m : ℕ). ends_below m T) last,
    )

pub ends_rest : (n : ℕ) (T : List HistoryEntry) → n ≤ 4294967296 → (rest : List ℕ) × (ends_below n T ++ rest ≡ ends T)
ends_rest n T reach = rest_by (numbers - n) n numbers T (omega (arith, numbers_are))
