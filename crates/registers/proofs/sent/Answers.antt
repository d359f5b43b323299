-- `registers::sent` meets its contract: the shift loses no bit. Assumes nothing.
use mathlib.Core.Path.{ap}
use Prim.Native.Nat.{ℕ}
use lib.Bits.{bit_or}
use Rattle.registers.specs.Rates.{masked_of, sent_of}
use Rattle.registers.proofs.Values.{doubled}
use borrow.Author.Rules.{rules}
use Rattle.registers.proofs.sent.Goals as goal

pub returns : goal.returns
unfolding sent_of
returns c = ap (λ (x : ℕ). bit_or (masked_of c.args.ratio) x) (doubled c.args.ratio)
