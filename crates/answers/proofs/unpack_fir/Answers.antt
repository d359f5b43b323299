-- `answers::unpack_fir` meets its contract: bytes of another length, or the numbers of the bytes copied.
-- Assumes nothing.
use mathlib.Core.Path.{ap, ◌∙◌}
use mathlib.Core.List.{List}
use native.Mathlib.Omega.{arith}
use lib.IntN.{ℤ}
use Rattle.fir.specs.Packing.{no_bytes, unpack_of}
use Rattle.answers.specs.Lent.{word_bytes}
use Rattle.refusals.specs.Lent.{lent_to}
use Rattle.answers.proofs.Giving.{no_unpacking, unpacking}
use Rattle.refusals.proofs.Giving.{covered}
use Rattle.answers.proofs.unpack_fir.Goals as goal

pub returns-then-bytes-ne20 : goal.returns-then-bytes-ne20
returns-then-bytes-ne20 c = let a = c.args in no_unpacking a.bytes.now a.out.now (λ e. omega arith)

pub returns : goal.returns
returns c =
    let a = c.args in
    let bytes = a.bytes.now in
    c.lend_words.ensures
    ∙ ap (λ (v : List ℤ). lent_to 0 0 (word_bytes v) a.out.now)
    (c.unpack_fir-v.ensures ∙ ap unpack_of (c.copy.ensures ∙ covered no_bytes bytes (omega arith)))
    ∙ unpacking bytes a.out.now (omega arith)
