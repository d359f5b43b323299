-- `pll::fraction` meets its contract. The loop's invariant: the turns that are left, from here, give what all give from the start;
-- `n` doubles as they pass; and S is small enough for the next turn. Assumes nothing.
use Rattle.std.proofs.Common.{◌≡◌, ◌-◌, ◌*◌, ◌^◌, ◌≤◌}
use Rattle.pll.specs.Fraction.{turns_of, sum_of}
use Rattle.pll.proofs.fraction.Given as goal

abbrev pub invariant-loop : goal.invariant-loop
invariant-loop l = record {
  same : turns_of (16 - l.counter) l.k l.n l.s ≡ sum_of l.k l.f;
  least : 2 ≤ l.n;
  doubled : l.n * 2 ^ (16 - l.counter) ≡ 131_072;
  small : l.s.sum ≤ 32_768 * l.n;
}
