-- Document 02, #102: "The table's rule is proved once over all its entries."
-- Assumes nothing.
use mathlib.Core.Path.{◌≡◌}
use mathlib.Core.Bool.{Bool}
use mathlib.Core.List.{List, [], ◌∷◌}
use Prim.Native.Nat.{ℕ, zero, suc, ◌<◌}
use lib.Dec.{eqb, eqb→eq}
use lib.ListN.{get_or}
use Rattle.below.proofs.Test.{below}
use Rattle.status.specs.Reversal.{reversed}

-- n bytes from b on, each reversed
unfoldable pub from : ℕ → ℕ → List ℕ
from b zero = []
from b (suc n) = reversed b ∷ from (suc b) n

right : ℕ → Bool
right b = eqb (get_or (from 0 256) b 0) (reversed b)

-- at place b of the sheet stands b reversed: at each of the 256, by one computed test
pub rule : (b : ℕ) → b < 256 → get_or (from 0 256) b 0 ≡ reversed b
unfolding right reversed from
rule b h = eqb→eq (get_or (from 0 256) b 0) (reversed b) (below right 256 tt b h)
