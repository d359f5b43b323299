-- `gain::truncated` meets its contract at every f32: a NaN is 0, and any other is read off its bits by the laws of proofs/Truncation.antt.
-- Assumes nothing.
use mathlib.Core.Path.{◌≡◌, sym, ap, ◌∙◌, subst}
use mathlib.Core.Bool.{Bool, true, false}
use Prim.Native.Nat.{ℕ, ◌-◌, ◌<◌, ◌≤◌, ◌^◌, min}
use native.Mathlib.Nat.{min-le_right, le_trans, le_of_eq}
use native.Mathlib.Omega.{arith}
use borrow.Author.Rules.{rules}
use borrow.Author.Tests.{le-leb, lt-leb}
use mir.Syntax.{w32}
use mir.Val.{SFits, to_z}
use mir.ValLaws.{to_z_pos, to_z-of_z}
use lib.Dec.{T, leb}
use lib.IntN.{ℤ, pos, negsuc, ◌-ℤ◌}
use lib.Ieee.{Float, binary32, fits, ne, to_bits, to_signed}
use lib.Ieee.Casts.{to_signed_in}
use lib.Ieee.Compare.{differs_from_itself}
use Rattle.gain.proofs.Truncation.{held, whole_of, of_float, no_nan, inside, outside, nought, negated}
use Rattle.gain.proofs.truncated.Goals as goal

-- an answer that is right for the pattern's sign is the contract's
signed : (x : Float) (z : ℤ) (s : Bool) → T (fits binary32 x) → ne x x ≡ false → leb 0x8000_0000 (to_bits binary32 x) ≡ s
    → z ≡ held s (whole_of (to_bits binary32 x)) → z ≡ to_signed 31 x
signed x z s f h b e = e ∙ ap (λ (t : Bool). held t (whole_of (to_bits binary32 x))) (sym b) ∙ sym (of_float x f (no_nan x h))

-- what the last line works out, before it is put into 32 bits and read back
negative : (x : Float) (n : ℕ) → T (fits binary32 x) → ne x x ≡ false → 0x8000_0000 ≤ to_bits binary32 x
    → n ≡ min (whole_of (to_bits binary32 x)) (2 ^ 31) → 0 < n → negsuc 0 -ℤ to_z w32 (n - 1) ≡ to_signed 31 x
negative x n f h b e p =
    let most : n ≤ 2 ^ 31 = le_trans (le_of_eq e) (min-le_right (whole_of (to_bits binary32 x)) (2 ^ 31)) in
    let m : n - 1 < 2 ^ 31 = omega arith in
    ap (λ (z : ℤ). negsuc 0 -ℤ z) (to_z_pos w32 (n - 1) m)
    ∙ signed x (negsuc 0 -ℤ pos (n - 1)) true f h (le-leb 0x8000_0000 (to_bits binary32 x) b) (negated (whole_of (to_bits binary32 x)) n e p)

last : (c : goal.Else-size-eq0) → negsuc 0 -ℤ to_z w32 (c.whole_part-size.result - 1) ≡ to_signed 31 c.args.x
last c =
    let whole_part = c.whole_part-size in
    negative c.args.x whole_part.result
    (subst T (sym c.well_formed.0.1) tt)
    c.if-x.false
    c.if-bits-lt2147483648.false
    whole_part.ensures
    (omega arith)

pub returns-then-x : goal.returns-then-x
unfolding to_signed
returns-then-x c = sym (ap (to_signed 31) (differs_from_itself c.args.x (subst T (sym c.if-x.true) tt)))

pub float_to_bits-bits : goal.float_to_bits-bits
float_to_bits-bits c = no_nan c.args.x c.if-x.false

pub returns-then-size-lt2147483648 : goal.returns-then-size-lt2147483648
returns-then-size-lt2147483648 c =
    let whole_part = c.whole_part-size in
    let n = whole_part.result in
    let args = c.args in
    let x = args.x in
    to_z_pos w32 n (search rules)
    ∙ signed x (pos n) false (subst T (sym c.well_formed.0.1) tt) c.if-x.false
    (lt-leb 0x8000_0000 (to_bits binary32 x) c.if-bits-lt2147483648.true)
    (inside (whole_of (to_bits binary32 x)) n whole_part.ensures c.if-size-lt2147483648.true)

pub returns-then-bits-lt2147483648 : goal.returns-then-bits-lt2147483648
returns-then-bits-lt2147483648 c =
    let whole_part = c.whole_part-size in
    let n = whole_part.result in
    let args = c.args in
    let x = args.x in
    signed x (pos 0x7fff_ffff) false (subst T (sym c.well_formed.0.1) tt) c.if-x.false
    (lt-leb 0x8000_0000 (to_bits binary32 x) c.if-bits-lt2147483648.true)
    (outside (whole_of (to_bits binary32 x)) n whole_part.ensures c.if-size-lt2147483648.false)

pub returns-then-size-eq0 : goal.returns-then-size-eq0
returns-then-size-eq0 c =
    let whole_part = c.whole_part-size in
    let n = whole_part.result in
    let args = c.args in
    let x = args.x in
    signed x (pos 0) true (subst T (sym c.well_formed.0.1) tt) c.if-x.false
    (le-leb 0x8000_0000 (to_bits binary32 x) c.if-bits-lt2147483648.false)
    (nought (whole_of (to_bits binary32 x)) n whole_part.ensures c.if-size-eq0.true)

pub overflow_sub-result-2 : goal.overflow_sub-result-2
overflow_sub-result-2 c =
    subst (SFits w32) (sym (last c)) (record { sfits = to_signed_in 31 c.args.x })

pub returns : goal.returns
returns c = to_z-of_z w32 _ (overflow_sub-result-2 c) ∙ last c
