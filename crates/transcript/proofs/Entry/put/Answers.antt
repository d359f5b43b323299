-- `transcript::Entry::put` meets its contract: the head and the data, stored one behind the other, are the entry's 16 bytes.
-- Assumes nothing.
use Prim.Native.Nat.{◌<◌, ◌+◌}
use mathlib.Core.Path.{ap, ◌∙◌}
use borrow.Author.Rules.{rules}
use lib.Seq.{sets}
use Rattle.transcript.proofs.Laid.{entry_laid}
use Rattle.transcript.proofs.Entry.put.Goals as goal

pub returns : goal.returns
returns c =
    let copy = c.copy in
    let a = c.args in
    let h : a.self.address < 65536 = search rules in
    c.copy-2.ensures
    ∙ ap (λ l. sets l (a.at + 8) a.self.bytes) copy.ensures
    ∙ entry_laid a.s.now a.at a.self h
