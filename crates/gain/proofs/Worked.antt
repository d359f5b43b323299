-- Document 01, "Worked numbers": "3.2 dB: index 3, 2.7. NaN: index 0. Product -2,147,483,520: index 0 (a Rust release build wraps to 28)."
-- Besides: the ends of the cut, a tie, and the bits of all 29 answers. Gains are written by their binary32 bits. Assumes nothing.
use mathlib.Core.Path.{◌≡◌, refl}
use mathlib.Core.List.{[], ◌∷◌, map}
use Prim.Native.Nat.{ℕ}
use lib.IntN.{pos, negsuc}
use lib.Ieee.{Float, nan, binary32, mul, div, of_int, of_bits, to_bits, to_signed}
use Rattle.gain.specs.Product.{gain_of, tenths_of}
use Rattle.gain.specs.Steps.{chosen_of, nearest_in, nearest_of, steps, step_at}

-- a gain of 3.2 dB, and one whose product is -2,147,483,520
abbrev pub three_two : Float
three_two = of_bits binary32 0x404c_cccd

abbrev pub far_below : Float
far_below = of_bits binary32 0xcd4c_cccc

pub three_two_index : chosen_of three_two ≡ 3
unfolding steps chosen_of tenths_of nearest_of nearest_in mul of_bits to_signed
three_two_index = refl

-- 2.7 in binary32
pub three_two_answer : to_bits binary32 (gain_of (step_at 3)) ≡ 0x402c_cccd
unfolding steps gain_of div of_int of_bits to_bits
three_two_answer = refl

pub nan_index : chosen_of nan ≡ 0
unfolding steps chosen_of tenths_of nearest_of nearest_in mul to_signed
nan_index = refl

pub far_below_tenths : tenths_of far_below ≡ negsuc 2_147_483_519
unfolding tenths_of mul of_bits to_signed
far_below_tenths = refl

pub far_below_index : chosen_of far_below ≡ 0
unfolding steps chosen_of tenths_of nearest_of nearest_in mul of_bits to_signed
far_below_index = refl

-- 1e30, -1e30, both infinities, -0.0, the least subnormal
pub cut-ends :
    map (λ (b : ℕ). tenths_of (of_bits binary32 b)) (0x7149_f2ca ∷ 0xf149_f2ca ∷ 0x7f80_0000 ∷ 0xff80_0000 ∷ 0x8000_0000 ∷ 1 ∷ [])
    ≡ pos 2_147_483_647 ∷ negsuc 2_147_483_647 ∷ pos 2_147_483_647 ∷ negsuc 2_147_483_647 ∷ pos 0 ∷ pos 0 ∷ []
unfolding tenths_of mul of_bits to_signed
cut-ends = refl

-- each lies as far from one step as from the next: 32 from 27 and 37, 57 from 37 and 77, 82 from 77 and 87, 202 from 197 and 207
pub ties : map nearest_of (pos 32 ∷ pos 57 ∷ pos 82 ∷ pos 202 ∷ []) ≡ 3 ∷ 4 ∷ 5 ∷ 11 ∷ []
unfolding steps nearest_of nearest_in
ties = refl

pub answers :
    map (λ (s : ℕ). to_bits binary32 (gain_of s)) steps
    ≡ 0x0000_0000 ∷ 0x3f66_6666 ∷ 0x3fb3_3333 ∷ 0x402c_cccd ∷ 0x406c_cccd ∷ 0x40f6_6666 ∷ 0x410b_3333 ∷ 0x4148_0000 ∷ 0x4166_6666
    ∷ 0x417b_3333 ∷ 0x4184_cccd ∷ 0x419d_999a ∷ 0x41a5_999a ∷ 0x41b7_3333 ∷ 0x41cb_3333 ∷ 0x41e0_0000 ∷ 0x41ed_999a ∷ 0x4203_3333
    ∷ 0x4207_3333 ∷ 0x4211_999a ∷ 0x4214_cccd ∷ 0x421a_6666 ∷ 0x4220_cccd ∷ 0x4228_6666 ∷ 0x422d_999a ∷ 0x422f_999a ∷ 0x4232_0000
    ∷ 0x4240_0000 ∷ 0x4246_6666 ∷ []
unfolding steps gain_of div of_int of_bits to_bits
answers = refl
