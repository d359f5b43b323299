-- `fir::bytes_of` meets its contract: the sixteen are taken one by one, and what each call ensures is that part of the definition.
-- Assumes nothing.
use mathlib.Core.Path.{◌≡◌, refl, ap, ◌∙◌}
use Prim.Native.Nat.{ℕ, ◌+◌, ◌*◌, ◌/◌, ◌%◌}
use lib.IntN.{ℤ, pos}
use lib.ListN.{get_or}
use Rattle.fir.specs.Packing.{low_of, pack_of}
use Rattle.fir.proofs.Lists.{cons, listed_at}
use Rattle.fir.proofs.Widths.{kept}
use Rattle.fir.proofs.bytes_of.Goals as goal

-- the byte that two share, by both
middle : {a a' b b' : ℤ} → a ≡ a' → b ≡ b' → low_of 2048 a % 16 * 16 + low_of 2048 b / 256 ≡ low_of 2048 a' % 16 * 16 + low_of 2048 b' / 256
middle p q = λ i. low_of 2048 (p i) % 16 * 16 + low_of 2048 (q i) / 256

pub returns : goal.returns
unfolding pack_of
returns c =
    let join4 = c.join-t in
    let join-arg8 = c.join-arg-8-1 in
    let join-arg7 = c.join-arg-7-1 in
    let join3 = c.join-s in
    let join-arg6 = c.join-arg-6-1 in
    let join-arg5 = c.join-arg-5-1 in
    let join2 = c.join-q in
    let join-arg4 = c.join-arg-4-1 in
    let join-arg3 = c.join-arg-3-1 in
    let join = c.join-p in
    let join-arg2 = c.join-arg-2-1 in
    let join-arg = c.join-arg-1 in
    let args = c.args in
    let v = args.v in
    let at : ℕ → ℤ = λ k. get_or v k (pos 0) in
    (cons (c.byte.ensures ∙ ap (low_of 128) (kept (at 0) c.byte-arg-1.given))
    (cons (c.byte-2.ensures ∙ ap (low_of 128) (kept (at 1) c.byte-arg-2-1.given))
    (cons (c.byte-3.ensures ∙ ap (low_of 128) (kept (at 2) c.byte-arg-3-1.given))
    (cons (c.byte-4.ensures ∙ ap (low_of 128) (kept (at 3) c.byte-arg-4-1.given))
    (cons (c.byte-5.ensures ∙ ap (low_of 128) (kept (at 4) c.byte-arg-5-1.given))
    (cons (c.byte-6.ensures ∙ ap (low_of 128) (kept (at 5) c.byte-arg-6-1.given))
    (cons (c.byte-7.ensures ∙ ap (low_of 128) (kept (at 6) c.byte-arg-7-1.given))
    (cons (c.byte-8.ensures ∙ ap (low_of 128) (kept (at 7) c.byte-arg-8-1.given))
    (cons (join.ensures.0 ∙ ap (λ (z : ℤ). low_of 2048 z / 16) (kept (at 8) join-arg.given))
    (cons (join.ensures.1 ∙ middle (kept (at 8) join-arg.given) (kept (at 9) join-arg2.given))
    (cons (join.ensures.2 ∙ ap (λ (z : ℤ). low_of 2048 z % 256) (kept (at 9) join-arg2.given))
    (cons (join2.ensures.0 ∙ ap (λ (z : ℤ). low_of 2048 z / 16) (kept (at 10) join-arg3.given))
    (cons (join2.ensures.1 ∙ middle (kept (at 10) join-arg3.given) (kept (at 11) join-arg4.given))
    (cons (join2.ensures.2 ∙ ap (λ (z : ℤ). low_of 2048 z % 256) (kept (at 11) join-arg4.given))
    (cons (join3.ensures.0 ∙ ap (λ (z : ℤ). low_of 2048 z / 16) (kept (at 12) join-arg5.given))
    (cons (join3.ensures.1 ∙ middle (kept (at 12) join-arg5.given) (kept (at 13) join-arg6.given))
    (cons (join3.ensures.2 ∙ ap (λ (z : ℤ). low_of 2048 z % 256) (kept (at 13) join-arg6.given))
    (cons (join4.ensures.0 ∙ ap (λ (z : ℤ). low_of 2048 z / 16) (kept (at 14) join-arg7.given))
    (cons (join4.ensures.1 ∙ middle (kept (at 14) join-arg7.given) (kept (at 15) join-arg8.given))
    (cons (join4.ensures.2 ∙ ap (λ (z : ℤ). low_of 2048 z % 256) (kept (at 15) join-arg8.given))
    refl))))))))))))))))))))
    ∙ ap pack_of (listed_at (pos 0) v 16 c.well_formed.0.1.0.1)
