-- The next number goes out.
use Rattle.std.proofs.Common.{◌<◌, arith}
use Rattle.up_books.specs.declared.cseq.TheConstants.{LAST_NUMBER}
use Rattle.up_books.proofs.NumberLemmas.{asker-issue, numbers-issue}
use Rattle.up_books.proofs.cseq.CseqBook.issue.Goals as goal

pub invariant_of-self : goal.invariant_of-self
invariant_of-self c =
    let low : c.self.inside.issued < LAST_NUMBER = omega (arith, c.self.invariant.0.last) in
    (rw c.push_reserved.ensures.items (numbers-issue c.self.inside.issued c.args.conn c.self.inside.loans.items low c.self.invariant.0), omega arith)

pub returns-clause-open : goal.returns-clause-open
returns-clause-open c n = rw (c.push_reserved.ensures.items, ← c.self.view_is) (asker-issue c.self.inside.issued c.args.conn n c.self.inside.loans.items c.self.invariant.0)
