-- At 28,800,000 Hz and an IF of 2,300,000 Hz, tuned to 107 MHz: the oscillator stands 12 Hz beside 109,300,000. A hop to 107.5 MHz that is cut between 0x14 and
-- 0x16, and then reloaded, leaves N of the new station and S of the old: 108,800,012 Hz is what is recorded. Assumes nothing.
use Prim.Native.Nat.{◌+◌}
use mathlib.Core.Path.{◌≡◌, refl}
use Rattle.pll.specs.declared.Kind.TheVariants.{R828D}
use Rattle.std.specs.Prelude.{Some}
use Rattle.pll.specs.Divide.{first_mixer, in_vco}
use Rattle.pll.specs.Fraction.{turn_of, turns_of}
use Rattle.pll.specs.Plan.{plan_of, plan_with}
use Rattle.pll.specs.Setting.{setting_of}
use Rattle.oscillator.specs.Registers.{five, hz_in}

pub tuned : hz_in 28_800_000 (five 0x8b 0x80 0xcb 0xe4 0xb8) ≡ 109_300_012
tuned = refl

pub cut : hz_in 28_800_000 (five 0x8b 0x80 0x0c 0xe4 0xb8) ≡ 108_800_012 + 2_300_000
cut = refl

-- whole, it has no fraction: bit 3 of 0x12 is set, and what 0x15 and 0x16 hold is nothing
pub whole : hz_in 28_800_000 (five 0x8b 0x88 0x0c 0xe4 0xb8) ≡ 109_800_000
whole = refl

-- what a ppm may cost: at -1 ppm K is 28,799 where R / 1000 is 28,799.972, and a tuning of the FM band has its oscillator 287 Hz above what was asked. At
-- 0 ppm none of that divider is more than 87 Hz off (Sharp.antt)
pub one_ppm_plan : plan_of R828D 100_799_560 28_799_972
    ≡ Some (record { m = 32; number = 4; n = 55; setting = 0x8a; fraction = 57_589; sum = 0xfffe; rest = 1 })
unfolding in_vco first_mixer setting_of turn_of turns_of plan_with plan_of
one_ppm_plan = refl

pub one_ppm : hz_in 28_799_972 (five 0x80 0x00 0x8a 0xfe 0xff) ≡ 100_799_560 + 287
one_ppm = refl
