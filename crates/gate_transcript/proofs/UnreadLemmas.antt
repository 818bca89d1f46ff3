-- What a read puts behind the bytes that are held.
use Rattle.std.proofs.Common.{◌≡◌, ℕ, ◌+◌, ◌≤◌, List, ◌++◌, length, take, Option, Some, None, ap, ◌∙◌, arith, length-append}
use Rattle.std.proofs.lemmas.List.{take-take, take-append-le}
use Rattle.std.proofs.Math.Seq.{take-append-add}
use Rattle.gate_outside.specs.Contents.{ReadsOk}

-- of a buffer that begins with what was held, and goes on with what was read, so much is kept
pub read_joined : (k n m : ℕ) (held slice into post tail : List ℕ) → take k slice ≡ held → k ≡ length held → n ≤ length into → k + n ≤ m
    → take (k + n) (take m ((take k slice ++ (into ++ post)) ++ tail)) ≡ held ++ take n into
read_joined k n m held slice into post tail front size short le =
    take-take (k + n) m ((take k slice ++ (into ++ post)) ++ tail) le
    ∙ (ap (λ (l : List ℕ). take (k + n) ((l ++ (into ++ post)) ++ tail)) front
    ∙ (ap (λ (j : ℕ). take (j + n) ((held ++ (into ++ post)) ++ tail)) size
    ∙ (take-append-le (length held + n) (held ++ (into ++ post)) tail (let a = length-append held (into ++ post) in let b = length-append into post in omega arith)
    ∙ (take-append-add held (into ++ post) n
    ∙ ap (λ (l : List ℕ). held ++ l) (take-append-le n into post short)))))

-- what was read is the front of the buffer
pub read_front : (before now : Option (List ℕ)) (n : ℕ) (buffer : List ℕ) → ReadsOk before now n buffer → ReadsOk before now n (take n buffer)
read_front None now n buffer reads = reads
read_front (Some bytes) now n buffer reads =
    record { within = reads.within; front = take-take n n buffer (omega arith) ∙ reads.front; left = reads.left; end = reads.end }
