-- `r82xx::Tuner::new` meets its contract. Each return is one law of the definition, with what the calls before it ensure. Assumes nothing.
use borrow.Author.Tests.{eq-eqb, le-leb, lt-leb, ne_eqb}
use Rattle.r82xx.specs.Record.{made_of}
use Rattle.r82xx.proofs.Tuner.new.Goals as goal

pub returns-then-nominal-lt1 : goal.returns-then-nominal-lt1
unfolding made_of
returns-then-nominal-lt1 c = simp (c.fresh.ensures, lt-leb _ _ c.if-nominal-lt1.true)

pub returns-then-nominal-gt4294967295 : goal.returns-then-nominal-gt4294967295
unfolding made_of
returns-then-nominal-gt4294967295 c = simp (c.fresh.ensures, le-leb _ _ c.if-nominal-lt1.false, lt-leb _ _ c.if-nominal-gt4294967295.true)

pub returns-then-kind-eq0 : goal.returns-then-kind-eq0
unfolding made_of
returns-then-kind-eq0 c =
    simp (c.fresh-then-kind-eq0.ensures, le-leb _ _ c.if-nominal-lt1.false, le-leb _ _ c.if-nominal-gt4294967295.false, eq-eqb _ _ c.if-kind-eq0.true)

pub returns-then-kind-eq1 : goal.returns-then-kind-eq1
unfolding made_of
returns-then-kind-eq1 c =
    simp (c.fresh-then-kind-eq1.ensures, le-leb _ _ c.if-nominal-lt1.false, le-leb _ _ c.if-nominal-gt4294967295.false, ne_eqb _ _ c.if-kind-eq0.false, eq-eqb _ _ c.if-kind-eq1.true)

pub returns : goal.returns
unfolding made_of
returns c =
    simp (c.fresh.ensures, le-leb _ _ c.if-nominal-lt1.false, le-leb _ _ c.if-nominal-gt4294967295.false, ne_eqb _ _ c.if-kind-eq0.false, ne_eqb _ _ c.if-kind-eq1.false)
