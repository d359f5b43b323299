-- `status::locks` meets its contract. Assumes nothing.
use mathlib.Core.Path.{ap}
use mathlib.Core.Bool.{not}
use Prim.Native.Nat.{ℕ}
use borrow.Author.Rules.{rules}
use lib.Bits.{bit_and}
use lib.Dec.{eqb}
use Rattle.status.proofs.locks.Goals as goal

pub returns : goal.returns
returns c = ap (λ (r : ℕ). not (eqb (bit_and r 0x40) 0)) c.bit_reverse.ensures
