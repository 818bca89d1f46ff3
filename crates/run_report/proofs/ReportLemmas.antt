-- Texts that are written one after the other.
use Rattle.std.proofs.Common.{◌≡◌, ◌<◌, ◌+◌, ◌-◌, ℕ, zero, suc, List, [], ◌++◌, Option, Result, Ok, Err, sym, ◌∙◌, ap, subst, append_assoc, arith}
use Rattle.std.proofs.lemmas.List.{append-nil}
use Rattle.gateway_hub.specs.declared.receipts.Receipts.{Receipts}
use Rattle.gateway_hub.specs.Receipts.{last_receipt}
use Rattle.run_report.specs.Report.{receipt_line_in, lines_below}
use Rattle.gate_outside.specs.Contents.{Grows, GrowsByFront, WritesAll}
use Rattle.gate_outside.proofs.Fronts.{grows_twice}

-- the first text was cut
pub cut_first : (before now : Option (List ℕ)) (xs ys : List ℕ) → GrowsByFront before now xs → GrowsByFront before now (xs ++ ys)
cut_first before now xs ys part = record {
  front = part.front;
  rest = part.rest ++ ys;
  whole = sym (append_assoc part.front part.rest ys) ∙ ap (λ (l : List ℕ). l ++ ys) part.whole;
  grown = part.grown;
}

-- the second text was cut
pub cut_second : (before between now : Option (List ℕ)) (xs ys : List ℕ) → Grows before between xs → GrowsByFront between now ys → GrowsByFront before now (xs ++ ys)
cut_second before between now xs ys first part = record {
  front = xs ++ part.front;
  rest = part.rest;
  whole = append_assoc xs part.front part.rest ∙ ap (λ (l : List ℕ). xs ++ l) part.whole;
  grown = grows_twice before between now xs part.front first part.grown;
}

-- the first text was written, and then the second, or a front of it
pub then_writes : {T E : Type 0} (before between now : Option (List ℕ)) (xs ys : List ℕ) (result : Result T E) → Grows before between xs → WritesAll between now ys result → WritesAll before now (xs ++ ys) result
then_writes before between now xs ys (Ok u) first then = grows_twice before between now xs ys first then
then_writes before between now xs ys (Err e) first then = cut_second before between now xs ys first then

-- the lines up to a connection, and then those of later ones
lines_more : (receipts : Receipts) (i k : ℕ) → (rest : List ℕ) × (lines_below (suc i) receipts ++ rest ≡ lines_below (k + suc i) receipts)
lines_more receipts i zero = ([], append-nil (lines_below (suc i) receipts) ∙ ap (λ (n : ℕ). lines_below n receipts) (let same : suc i ≡ 0 + suc i = omega arith in same))
lines_more receipts i (suc k) =
    let before = lines_more receipts i k in
    let next : suc (k + suc i) ≡ suc k + suc i = omega arith in (
      before.0 ++ receipt_line_in (last_receipt receipts (k + suc i)),
      sym (append_assoc (lines_below (suc i) receipts) before.0 (receipt_line_in (last_receipt receipts (k + suc i))))
          ∙ (ap (λ (l : List ℕ). l ++ receipt_line_in (last_receipt receipts (k + suc i))) before.1 ∙ ap (λ (n : ℕ). lines_below n receipts) next),
    )

-- a line was cut, of a connection that is not behind the last one
pub cut_line : (receipts : Receipts) (i n : ℕ) (before between now : Option (List ℕ)) → i < n → Grows before between (lines_below i receipts)
    → GrowsByFront between now (receipt_line_in (last_receipt receipts i)) → GrowsByFront before now (lines_below n receipts)
cut_line receipts i n before between now within lines part =
    let later = lines_more receipts i (n - suc i) in
    let reached : (n - suc i) + suc i ≡ n = omega (arith, within) in
    subst (λ (l : List ℕ). GrowsByFront before now l) (later.1 ∙ ap (λ (m : ℕ). lines_below m receipts) reached)
    (cut_first before now (lines_below (suc i) receipts) later.0 (cut_second before between now (lines_below i receipts) (receipt_line_in (last_receipt receipts i)) lines part))
