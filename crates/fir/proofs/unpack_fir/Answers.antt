-- `fir::unpack_fir` meets its contract: the twenty are taken one by one, and what each call ensures is that part of the definition.
-- Assumes nothing.
use mathlib.Core.Path.{refl, ap, ◌∙◌}
use Prim.Native.Nat.{ℕ, ◌+◌, ◌*◌, ◌/◌, ◌%◌}
use lib.Dec.{lit<, lit≤}
use lib.ListN.{get_or}
use Rattle.fir.specs.Packing.{unpack_of}
use Rattle.fir.proofs.Lists.{cons, listed_at}
use Rattle.fir.proofs.Widths.{told}
use Rattle.fir.proofs.unpack_fir.Goals as goal

pub returns : goal.returns
unfolding unpack_of
returns c =
    let short8 = c.short-8 in
    let short7 = c.short-7 in
    let short6 = c.short-6 in
    let short5 = c.short-5 in
    let short4 = c.short-4 in
    let short3 = c.short-3 in
    let short2 = c.short-2 in
    let short = c.short in
    let split4 = c.split-t in
    let split3 = c.split-s in
    let split2 = c.split-q in
    let split = c.split-p in
    let args = c.args in
    let b = args.b in
    let at : ℕ → ℕ = λ k. get_or b k 0 in
    (cons (told 128 (at 0) short.result (lit< tt) (lit≤ tt) short.ensures)
    (cons (told 128 (at 1) short2.result (lit< tt) (lit≤ tt) short2.ensures)
    (cons (told 128 (at 2) short3.result (lit< tt) (lit≤ tt) short3.ensures)
    (cons (told 128 (at 3) short4.result (lit< tt) (lit≤ tt) short4.ensures)
    (cons (told 128 (at 4) short5.result (lit< tt) (lit≤ tt) short5.ensures)
    (cons (told 128 (at 5) short6.result (lit< tt) (lit≤ tt) short6.ensures)
    (cons (told 128 (at 6) short7.result (lit< tt) (lit≤ tt) short7.ensures)
    (cons (told 128 (at 7) short8.result (lit< tt) (lit≤ tt) short8.ensures)
    (cons (told 2048 (at 8 * 16 + at 9 / 16) split.result.0 (lit< tt) (lit≤ tt) split.ensures.0)
    (cons (told 2048 (at 9 % 16 * 256 + at 10) split.result.1 (lit< tt) (lit≤ tt) split.ensures.1)
    (cons (told 2048 (at 11 * 16 + at 12 / 16) split2.result.0 (lit< tt) (lit≤ tt) split2.ensures.0)
    (cons (told 2048 (at 12 % 16 * 256 + at 13) split2.result.1 (lit< tt) (lit≤ tt) split2.ensures.1)
    (cons (told 2048 (at 14 * 16 + at 15 / 16) split3.result.0 (lit< tt) (lit≤ tt) split3.ensures.0)
    (cons (told 2048 (at 15 % 16 * 256 + at 16) split3.result.1 (lit< tt) (lit≤ tt) split3.ensures.1)
    (cons (told 2048 (at 17 * 16 + at 18 / 16) split4.result.0 (lit< tt) (lit≤ tt) split4.ensures.0)
    (cons (told 2048 (at 18 % 16 * 256 + at 19) split4.result.1 (lit< tt) (lit≤ tt) split4.ensures.1)
    refl))))))))))))))))
    ∙ ap unpack_of (listed_at 0 b 20 c.well_formed.0.1.0.1)
