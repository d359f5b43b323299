-- Document 01, "Worked numbers": "`FIR_DEFAULT`: ca dc d7 d8 e0 f2 0e 35 06 50 9c 0d 71 11 14 71 74 19 41 a5."
-- Besides: the ends of both widths. Assumes nothing.
use mathlib.Core.Path.{◌≡◌, refl}
use mathlib.Core.Bool.{true, false}
use mathlib.Core.List.{[], ◌∷◌, map}
use lib.IntN.{pos, negsuc}
use Rattle.fir.specs.Packing.{fir_default, fir_fits, low_of, pack_of, packed, within}

pub default-packed :
    packed fir_default
    ≡ record {
      refusal = 0;
      bytes =
          0xca ∷ 0xdc ∷ 0xd7 ∷ 0xd8 ∷ 0xe0 ∷ 0xf2 ∷ 0x0e ∷ 0x35 ∷ 0x06 ∷ 0x50 ∷ 0x9c ∷ 0x0d ∷ 0x71 ∷ 0x11 ∷ 0x14 ∷ 0x71 ∷ 0x74 ∷ 0x19 ∷ 0x41
          ∷ 0xa5 ∷ [];
    }
unfolding packed pack_of fir_fits
default-packed = refl

-- -128 and 127 fit eight bits, -129 and 128 do not; -2048 and 2047 fit twelve, -2049 and 2048 do not
pub narrow_ends : map (within 128) (negsuc 127 ∷ pos 127 ∷ negsuc 128 ∷ pos 128 ∷ []) ≡ true ∷ true ∷ false ∷ false ∷ []
narrow_ends = refl

pub wide_ends : map (within 2048) (negsuc 2047 ∷ pos 2047 ∷ negsuc 2048 ∷ pos 2048 ∷ []) ≡ true ∷ true ∷ false ∷ false ∷ []
wide_ends = refl

pub low_ends : map (low_of 2048) (negsuc 0 ∷ negsuc 2047 ∷ pos 2047 ∷ []) ≡ 0xfff ∷ 0x800 ∷ 0x7ff ∷ []
low_ends = refl
