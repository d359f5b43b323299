-- Document 01, "Worked numbers (marked * are proved)": each starred line, in its order, a field for each number.
use Rattle.std.specs.Prelude.{ℕ, ◌*◌, ◌≡◌, Bool, true, false, [], ◌∷◌, pos, neg_ℤ, Option, Some, None}
use Rattle.std.specs.Float.{binary32, nan}
use Rattle.std.specs.Float.Ieee.{of_bits, to_bits}
use Rattle.refusals.specs.Table.{RATIO}
use Rattle.board.specs.declared.Board.TheVariants.{V4}
use Rattle.board.specs.declared.Path.TheVariants.{Hf, Vhf}
use Rattle.board.specs.Plans as board
use Rattle.fir.specs.Packing.{fir_default, packed}
use Rattle.gain.specs.Product.{gain_of, tenths_of}
use Rattle.gain.specs.Steps.{chosen_of, step_at}
use Rattle.pll.specs.declared.Kind.{Kind}
use Rattle.pll.specs.declared.Kind.TheVariants.{R820T, R828D}
use Rattle.pll.specs.declared.Plan.{Plan}
use Rattle.pll.specs.Plan.{whole_of, plan_of}
use Rattle.pll.specs.Setting.{setting_of}
use Rattle.reference.specs.Correct.{corrected_of}
use Rattle.registers.specs.Rates.{if_value_of, if_regs_of, ratio_of, rate_number, sent_of, three_of, true_of}

-- the divider and N of a plan; of a refusal 0, which no line below names
abbrev pub divider_in : Option Plan → ℕ
divider_in (Some p) = p.m
divider_in None = 0

abbrev pub whole_in : Option Plan → ℕ
whole_in (Some p) = p.n
whole_in None = 0

abbrev pub taken : Option Plan → Bool
taken (Some p) = true
taken None = false

pub record Worked : Type 0 where
  -- lo 27,656,250: m 64; 27,656,249 refused
  pub lowest : divider_in (plan_of R828D 27_656_250 28_800_000) ≡ 64
  pub below : plan_of R828D 27_656_249 28_800_000 ≡ None
  -- 885,000,000: m 2; 884,999,999: m 4
  pub by_two : divider_in (plan_of R828D 885_000_000 28_800_000) ≡ 2
  pub by_four : divider_in (plan_of R828D 884_999_999 28_800_000) ≡ 4
  -- 1,799,999,999 taken, 1,800,000,000 refused (R 28,800,000, R828D)
  pub highest : taken (plan_of R828D 1_799_999_999 28_800_000) ≡ true
  pub above : plan_of R828D 1_800_000_000 28_800_000 ≡ None
  -- R 16,000,000, R820T: lo 1,023,999,999 taken, N 63; 1,024,000,000 refused
  pub at_cap : whole_in (plan_of R820T 1_023_999_999 16_000_000) ≡ 63
  pub past_cap : plan_of R820T 1_024_000_000 16_000_000 ≡ None
  -- R828D, R 28,800,000, lo 102,300,000: m 32, N 56, 0x14 = 0xca, F 48,000, S 0xd556, rest 1
  pub broadcast :
      plan_of R828D 102_300_000 28_800_000 ≡ Some (record { m = 32; number = 4; n = 56; setting = 0xca; fraction = 48_000; sum = 0xd556; rest = 1 })
  -- R 100,000,000, lo 885,000,000: N 8, 0x14 = 0xc0. Document 02, #111: "document 01's line with N 8 becomes a refusal". The formulas give both still
  pub small_whole : whole_of (885_000_000 * 2) 100_000_000 ≡ 8
  pub wrapped : setting_of 8 ≡ 0xc0
  pub too_small : (kind : Kind) → plan_of kind 885_000_000 100_000_000 ≡ None
  -- the first reference at which an N is below 13, and the one before it
  pub least_whole : (kind : Kind) → whole_in (plan_of kind 885_000_000 68_076_923) ≡ 13
  pub below_least : (kind : Kind) → plan_of kind 885_000_000 68_076_924 ≡ None
  -- 28,800,000 at -1 ppm: 28,799,972; at -1,000,000: refused
  pub minus_one : corrected_of 28_800_000 (neg_ℤ (pos 1)) ≡ Some 28_799_972
  pub minus_all : corrected_of 28_800_000 (neg_ℤ (pos 1_000_000)) ≡ None
  -- 3.2 dB: index 3, 2.7 (both by their binary32 bits). NaN: index 0
  pub three_two : chosen_of (of_bits binary32 0x404c_cccd) ≡ 3
  pub two_seven : to_bits binary32 (gain_of (step_at 3)) ≡ 0x402c_cccd
  pub no_number : chosen_of nan ≡ 0
  -- Product -2,147,483,520: index 0
  pub product : tenths_of (of_bits binary32 0xcd4c_cccc) ≡ neg_ℤ (pos 2_147_483_520)
  pub far_below : chosen_of (of_bits binary32 0xcd4c_cccc) ≡ 0
  -- IF 3,570,000 at 28,800,000: 38 11 12; positive 07 ee ee
  pub if_sent : three_of (if_value_of 3_570_000 28_800_000) ≡ 0x38 ∷ 0x11 ∷ 0x12 ∷ []
  pub if_positive : if_regs_of 3_570_000 28_800_000 ≡ record { refusal = 0; bytes = 0x07 ∷ 0xee ∷ 0xee ∷ [] }
  -- Rate 2,048,000: 0x03840000. Rate 225,000: 0
  pub rate_wide : sent_of (ratio_of 2_048_000 28_800_000) ≡ 0x0384_0000
  pub rate_narrow : sent_of (ratio_of 225_000 28_800_000) ≡ 0
  -- Document 02, #103: that rate is refused; "At 28,800,000 that is 225,001 to 300,000, and 900,001 upward", the numbers at whose sides the answer changes
  pub too_narrow : rate_number 225_000 28_800_000 ≡ RATIO
  pub narrowest : rate_number 225_001 28_800_000 ≡ 0
  pub last_narrow : rate_number 300_000 28_800_000 ≡ 0
  pub first_between : rate_number 300_001 28_800_000 ≡ RATIO
  pub last_between : rate_number 900_000 28_800_000 ≡ RATIO
  pub first_wide : rate_number 900_001 28_800_000 ≡ 0
  -- Document 02, #104: the true rates of that line's first, of the first rate whose true one is another and of the one before it, and of the last u32, past 32 bits
  pub true_wide : true_of 2_048_000 28_800_000 ≡ 2_048_000
  pub last_true : true_of 5_497_288 28_800_000 ≡ 5_497_288
  pub first_other : true_of 5_497_289 28_800_000 ≡ 5_497_290
  pub true_most : true_of 4_294_967_295 28_800_000 ≡ 4_295_120_011
  -- V4: 28,799,999 goes to 57,599,999 inverted; 28,800,000 stays
  pub shifted : board.board_plan V4 28_799_999 ≡ record { hz = 57_599_999; inverted = true; path = Some Hf; notch = false }
  pub stays : board.board_plan V4 28_800_000 ≡ record { hz = 28_800_000; inverted = false; path = Some Vhf; notch = false }
  -- Notch holds 85,000,000 and 112,000,000, not 112,000,001
  pub notch_first : board.in_notch 85_000_000 ≡ true
  pub notch_last : board.in_notch 112_000_000 ≡ true
  pub notch_past : board.in_notch 112_000_001 ≡ false
  -- `FIR_DEFAULT`: ca dc d7 d8 e0 f2 0e 35 06 50 9c 0d 71 11 14 71 74 19 41 a5
  pub fir-default :
      packed fir_default
      ≡ record {
        refusal = 0;
        bytes =
            0xca ∷ 0xdc ∷ 0xd7 ∷ 0xd8 ∷ 0xe0 ∷ 0xf2 ∷ 0x0e ∷ 0x35 ∷ 0x06 ∷ 0x50 ∷ 0x9c ∷ 0x0d ∷ 0x71 ∷ 0x11 ∷ 0x14 ∷ 0x71 ∷ 0x74 ∷ 0x19 ∷ 0x41 ∷ 0xa5
            ∷ [];
      }
