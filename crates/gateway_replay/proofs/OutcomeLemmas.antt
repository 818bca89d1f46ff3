-- The records of one event, one part after another.
use Rattle.std.proofs.Common.{◌≡◌, ◌≢◌, ℕ, suc, ◌<◌, ◌≤◌, ◌==◌, ◌&&◌, not, Bool, true, false, List, ◌++◌, Option, None, Some, Result, Err, refl, sym, ◌∙◌, ap, subst, arith}
use Rattle.std.specs.Prelude.{nat_le, nat_lt}
use Rattle.std.proofs.lemmas.Bool.{leb-true, leb-false, ltb-true, ltb-false, ne_eqb, eqb-false}
use Rattle.gate_outside.specs.Contents.{Grows, GrowsByFront, WritesAll}
use Rattle.gate_outside.proofs.Fronts.{grows_twice}
use Rattle.gateway_claim.specs.Happenings.{HistoryEntry}
use Rattle.gateway_claim.specs.Tells.{IsFirstAlive}
use Rattle.client_machine.specs.declared.why.CloseWhy.TheVariants.{Upstream}
use Rattle.gateway_replay.specs.RecordTexts.{close_record, ends_below, ends}
use Rattle.gateway_replay.proofs.RecordLemmas.{front_longer, then_writes}
use Rattle.gateway_replay.specs.declared.alive.Living.{Living}
use Rattle.gateway_replay.specs.Alive.{lives, IsFirstLiving}
use Rattle.gateway_replay.specs.CoreRecords.{AreLiving, ClosesSoFar}
use Rattle.gateway_replay.proofs.EndLemmas.{ends_next, ends_last, ends_rest}
use Rattle.gateway_replay.proofs.RunLemmas.{grows_nothing}

-- four parts, of which the first failed, the second, the third, or the last may have failed
pub fails_at_first : (before now : Option (List ℕ)) (a b c d : List ℕ) → GrowsByFront before now a → GrowsByFront before now (a ++ b ++ c ++ d)
fails_at_first before now a b c d part =
    front_longer before now (a ++ b ++ c) d (front_longer before now (a ++ b) c (front_longer before now a b part))

pub fails_at_second : (before one now : Option (List ℕ)) (a b c d : List ℕ) → Grows before one a → GrowsByFront one now b
    → GrowsByFront before now (a ++ b ++ c ++ d)
fails_at_second before one now a b c d first part =
    front_longer before now (a ++ b ++ c) d
    (front_longer before now (a ++ b) c (then_writes {T = Unit {0}} {E = Unit {0}} before one now a b (Err tt) first part))

pub fails_at_third : (before one two now : Option (List ℕ)) (a b c d : List ℕ) → Grows before one a → Grows one two b → GrowsByFront two now c
    → GrowsByFront before now (a ++ b ++ c ++ d)
fails_at_third before one two now a b c d first second part =
    front_longer before now (a ++ b ++ c) d
    (then_writes {T = Unit {0}} {E = Unit {0}} before two now (a ++ b) c (Err tt) (grows_twice before one two a b first second) part)

pub writes_last : {T E : Type 0} → (before one two three now : Option (List ℕ)) (a b c d : List ℕ) (r : Result T E)
    → Grows before one a → Grows one two b → Grows two three c → WritesAll three now d r → WritesAll before now (a ++ b ++ c ++ d) r
writes_last before one two three now a b c d r first second third last =
    then_writes before three now (a ++ b ++ c) d r
    (grows_twice before two three (a ++ b) c (grows_twice before one two a b first second) third) last

-- the closes of those that are alive, one after another
pub end_more : (from conn : ℕ) (T : List HistoryEntry) (before one now : Option (List ℕ)) → IsFirstAlive from T (Some conn) → Grows before one (ends_below from T)
    → Grows one now (close_record conn Upstream) → Grows before now (ends_below (suc conn) T)
end_more from conn T before one now first so_far written =
    subst (λ (l : List ℕ). Grows before now l) (sym (ends_next from conn T first.0 first.1 first.2))
    (grows_twice before one now (ends_below from T) (close_record conn Upstream) so_far written)

pub end_fails : (from conn : ℕ) (T : List HistoryEntry) (before one now : Option (List ℕ)) → IsFirstAlive from T (Some conn) → suc conn ≤ 4294967296
    → Grows before one (ends_below from T) → GrowsByFront one now (close_record conn Upstream) → GrowsByFront before now (ends T)
end_fails from conn T before one now first reach so_far part =
    let here = then_writes {T = Unit {0}} {E = Unit {0}} before one now (ends_below from T) (close_record conn Upstream) (Err tt) so_far part in
    let rest = ends_rest (suc conn) T reach in
    subst (λ (l : List ℕ). GrowsByFront before now l) (ap (λ (l : List ℕ). l ++ rest.0) (sym (ends_next from conn T first.0 first.1 first.2)) ∙ rest.1)
    (front_longer before now (ends_below from T ++ close_record conn Upstream) rest.0 here)

pub end_last : (from : ℕ) (T : List HistoryEntry) (before now : Option (List ℕ)) → from ≤ 4294967296 → IsFirstAlive from T None → Grows before now (ends_below from T)
    → Grows before now (ends T)
end_last from T before now reach none so_far = subst (λ (l : List ℕ). Grows before now l) (ends_last from T reach none) so_far

-- The closes so far, of those that were alive: none is written yet, one more is, or all are.
pub closes_none : (living : Living) (written : Option (List ℕ)) → ClosesSoFar living living written written
closes_none living written = record { from = 0; reach = omega arith; gone = λ i below. absurd (omega arith); left = λ i from. refl; grown = λ T alive. grows_nothing written }

first_from : (before now : Living) (written_before written_now : Option (List ℕ)) (conn : ℕ) → (so_far : ClosesSoFar before now written_before written_now) → IsFirstLiving now conn → so_far.from ≤ conn
first_from before now written_before written_now conn so_far first = by (nat_le so_far.from conn) refl
  where
    by : (b : Bool) → nat_le so_far.from conn ≡ b → so_far.from ≤ conn
    by true is = leb-true so_far.from conn is
    by false is = let gone = so_far.gone conn (leb-false so_far.from conn is) in let alive = first.is in cc

first_alive : (before now : Living) (written_before written_now : Option (List ℕ)) (conn : ℕ) (T : List HistoryEntry) → (so_far : ClosesSoFar before now written_before written_now) → IsFirstLiving now conn
    → AreLiving before T → IsFirstAlive so_far.from T (Some conn)
first_alive before now written_before written_now conn T so_far first alive =
    let reach = first_from before now written_before written_now conn so_far first in (
      reach,
      sym (alive conn) ∙ sym (so_far.left conn reach) ∙ first.is,
      λ i from below. sym (alive i) ∙ sym (so_far.left i from) ∙ first.lowest i below,
    )

without : (i conn : ℕ) (was : Bool) → conn < i → (not (conn == i) && was) ≡ was
without i conn was above = ap (λ b. not b && was) (ne_eqb conn i (λ same. let low : conn < conn = subst (λ n. conn < n) (sym same) above in omega arith))

gone_by : (here was : Bool) → (here ≡ false → was ≡ false) → (not here && was) ≡ false
gone_by true was = λ no. refl
gone_by false was = λ no. no refl

below_apart : (i conn : ℕ) → conn ≢ i → i < suc conn → i < conn
below_apart i conn other below = by (nat_lt i conn) refl
  where
    by : (b : Bool) → nat_lt i conn ≡ b → i < conn
    by true is = ltb-true i conn is
    by false is = let over = ltb-false i conn is in absurd (other (omega arith))

pub closes_more : (before now new : Living) (written_before written_mid written_now : Option (List ℕ)) (conn : ℕ) → conn < 4294967296 → ClosesSoFar before now written_before written_mid → IsFirstLiving now conn
    → ((i : ℕ) → lives new i ≡ (not (conn == i) && lives now i)) → Grows written_mid written_now (close_record conn Upstream) → ClosesSoFar before new written_before written_now
closes_more before now new written_before written_mid written_now conn fits so_far first taken written =
    let reach = first_from before now written_before written_mid conn so_far first in record {
      from = suc conn;
      reach = omega arith;
      gone = λ i below. taken i ∙ gone_by (conn == i) (lives now i) (λ apart. first.lowest i (below_apart i conn (eqb-false conn i apart) below));
      left = λ i from. taken i ∙ without i conn (lives now i) (omega arith) ∙ so_far.left i (omega arith);
      grown = λ T alive. end_more so_far.from conn T written_before written_mid written_now (first_alive before now written_before written_mid conn T so_far first alive) (so_far.grown T alive) written;
    }

pub closes_fail : (before now : Living) (written_before written_mid written_now : Option (List ℕ)) (conn : ℕ) (T : List HistoryEntry) → conn < 4294967296 → ClosesSoFar before now written_before written_mid → IsFirstLiving now conn
    → AreLiving before T → GrowsByFront written_mid written_now (close_record conn Upstream) → GrowsByFront written_before written_now (ends T)
closes_fail before now written_before written_mid written_now conn T fits so_far first alive part =
    end_fails so_far.from conn T written_before written_mid written_now (first_alive before now written_before written_mid conn T so_far first alive) (omega arith) (so_far.grown T alive) part

pub closes_all : (before now : Living) (written_before written_now : Option (List ℕ)) (T : List HistoryEntry) → ClosesSoFar before now written_before written_now → ((i : ℕ) → lives now i ≡ false)
    → AreLiving before T → Grows written_before written_now (ends T)
closes_all before now written_before written_now T so_far none alive =
    end_last so_far.from T written_before written_now so_far.reach (λ i from fits. sym (alive i) ∙ sym (so_far.left i from) ∙ none i) (so_far.grown T alive)
