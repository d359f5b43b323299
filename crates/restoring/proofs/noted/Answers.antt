-- `restoring::noted` meets its contract. The loop's invariant: the registers from the j-th on, over what is told by then, are all registers of the write over what was told.
-- Assumes nothing.
use Prim.Native.Nat.{ℕ, ◌+◌, ◌-◌}
use mathlib.Core.Path.{◌≡◌, ap, ◌∙◌}
use native.Mathlib.Omega.{arith}
use lib.ListN.{get_or}
use Rattle.attempts.specs.Attempts.{done, first_of}
use Rattle.restoring.specs.Standing.{known_as, only, over, told}
use Rattle.restoring.proofs.Telling.{other_chip, other_kind, rest, rest_end, rest_start, rest_turn}
use Rattle.restoring.proofs.noted.Goals as goal

pub returns-then-e-ne-I2C_WRITE : goal.returns-then-e-ne-I2C_WRITE
returns-then-e-ne-I2C_WRITE c =
    let a = c.args in
    other_kind a.address a.e a.known.now c.if-e-ne-I2C_WRITE.true

pub returns-then-e-address : goal.returns-then-e-address
returns-then-e-address c =
    let a = c.args in
    other_chip a.address a.e a.known.now c.if-e-address.true

pub loop-j-preserved : goal.loop-j-preserved
loop-j-preserved c =
    let l = c.loop-j in
    let e = c.args.e in
    let first = first_of e in
    let there : l.j - 1 + 1 ≡ l.j = omega arith in
    let on : l.j + 1 - 1 ≡ l.j - 1 + 1 = omega arith in
    let at : first + l.j - 1 ≡ first + (l.j - 1) = omega arith in
    let was = c.marked.ensures
    ∙ ap (λ (m : ℕ). over (only (first + l.j - 1) (known_as m (get_or e.bytes l.j 0))) 0 l.known) c.mark_of-mark.ensures
    ∙ ap (λ (r : ℕ). over (only r (told (get_or e.bytes l.j 0) (done e))) 0 l.known) at in
    ap (λ (k : ℕ). over (rest first e.n (done e) e.bytes k) 0 c.marked.new.known) on
    ∙ rest_turn first e.n (done e) e.bytes l.known (l.j - 1) _ (omega arith) (rw there was)
    ∙ l.invariant

pub returns : goal.returns
returns c =
    let l = c.loop-j in
    let a = c.args in
    rest_end (first_of a.e) a.e.n (done a.e) a.e.bytes l.known (l.j - 1) (omega arith)
    ∙ l.invariant
    ∙ rest_start a.address a.e a.known.now c.if-e-ne-I2C_WRITE.false c.if-e-address.false
