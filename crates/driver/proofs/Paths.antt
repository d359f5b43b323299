-- The tuner's own part of a board's path, by its kind. Assumes nothing.
use Prim.Native.Nat.{ℕ}
use mathlib.Core.Path.{◌≡◌, sym, ap, ◌∙◌}
use mathlib.Core.List.{List}
use Rattle.transcript.specs.declared.Entry.{Entry}
use Rattle.board.specs.declared.Path.{Path}
use Rattle.chip.specs.declared.Update.{Update}
use Rattle.chip.specs.Steps.{Line, while_open, run, updates}
use Rattle.pll.specs.declared.Kind.{Kind}
use Rattle.pll.specs.declared.Kind.TheVariants.{R820T, R828D}
use Rattle.writes.specs.Lists.{path_updates}
use Rattle.driver.specs.Programs.{tuner_path}

pub still : {L : Type 0} (put : L → ℕ → Entry → L) (os : List ℕ) (kind : Kind) (path : Path) (w : Line L) → kind ≡ R820T → w ≡ run put os (tuner_path kind path) w
unfolding run
still put os kind path w e = rw e

pub own_path : (kind : Kind) (path : Path) (us : List Update) → kind ≡ R828D → us ≡ path_updates path → while_open (updates us) ≡ tuner_path kind path
own_path kind path us e u = ap (λ (l : List Update). while_open (updates l)) u ∙ sym (ap (λ (k : Kind). tuner_path k path) e)
