-- `bands::bands_ascend` meets its contract. The loop's invariant: whether the bands that are left ascend says it for all.
-- Assumes nothing.
use Rattle.std.proofs.Common.{rules, ◌≡◌, true, MatchOption}
use mathlib.Core.Path.{◌∙◌}
use lib.Dec.{ltb}
use Rattle.bands.proofs.Laws.{ascending_on, ascending_stop}
use Rattle.bands.proofs.bands_ascend.Goals as goal

pub returns-then-not-fits-is_none_or : goal.returns-then-not-fits-is_none_or
returns-then-not-fits-is_none_or c =
    let now = c.in-Some.ensures.steps in
    let l = c.loop-bytes in
    let begins : MatchOption l.before (c.is_none_or.result ≡ true) (λ last. c.is_none_or.result ≡ ltb last c.band_in-b.result.first) = search rules in
    ascending_stop _ _ _ _ _ _ now.1.0 (now.1.1 ∙ l.invariant.1) c.band_in-b.ensures c.fits.ensures l.before begins
    c.if-not-fits-is_none_or.true
    ∙ l.invariant.2

pub loop-bytes-preserved : goal.loop-bytes-preserved
loop-bytes-preserved c =
    let now = c.in-Some.ensures.steps in
    let l = c.loop-bytes in
    let begins : MatchOption l.before (c.is_none_or.result ≡ true) (λ last. c.is_none_or.result ≡ ltb last c.band_in-b.result.first) = search rules in (
      tt,
      now.0 ∙ l.invariant.1,
      ascending_on _ _ _ _ _ _ now.1.0 (now.1.1 ∙ l.invariant.1) c.band_in-b.ensures c.fits.ensures l.before begins
          c.if-not-fits-is_none_or.false
          ∙ l.invariant.2,
    )
