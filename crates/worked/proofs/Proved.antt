-- Every starred number holds: antt computes each side, here or in the crate of the definition, whose theorem is cited. Assumes nothing.
use mathlib.Core.Path.{◌≡◌, refl}
use Rattle.board.proofs.Worked.{last_below, first_above}
use Rattle.fir.proofs.Worked.{default-packed}
use Rattle.gain.proofs.Worked.{three_two_index, three_two_answer, nan_index, far_below_tenths, far_below_index}
use Rattle.pll.specs.declared.Kind.{Kind}
use Rattle.pll.specs.declared.Kind.TheVariants.{R820T, R828D}
use Rattle.std.specs.Prelude.{None}
use Rattle.pll.specs.Divide.{in_vco, first_mixer}
use Rattle.pll.specs.Setting.{setting_of}
use Rattle.pll.specs.Fraction.{turn_of, turns_of}
use Rattle.pll.specs.Plan.{plan_with, plan_of}
use Rattle.reference.specs.Correct.{corrected_of}
use Rattle.registers.specs.Rates.{ratio_holds, if_regs_of, rate_number, sent_of, true_of}
use Rattle.worked.specs.Numbers.{whole_in, Worked}

too_small : (kind : Kind) → plan_of kind 885_000_000 100_000_000 ≡ None
unfolding in_vco first_mixer setting_of turn_of turns_of plan_with plan_of
too_small R820T = refl
too_small R828D = refl

least_whole : (kind : Kind) → whole_in (plan_of kind 885_000_000 68_076_923) ≡ 13
unfolding in_vco first_mixer setting_of turn_of turns_of plan_with plan_of
least_whole R820T = refl
least_whole R828D = refl

below_least : (kind : Kind) → plan_of kind 885_000_000 68_076_924 ≡ None
unfolding in_vco first_mixer setting_of turn_of turns_of plan_with plan_of
below_least R820T = refl
below_least R828D = refl

pub worked : Worked
unfolding in_vco first_mixer setting_of turn_of turns_of plan_with plan_of corrected_of if_regs_of sent_of ratio_holds rate_number true_of
worked =
    record {
      lowest = refl;
      below = refl;
      by_two = refl;
      by_four = refl;
      highest = refl;
      above = refl;
      at_cap = refl;
      past_cap = refl;
      broadcast = refl;
      small_whole = refl;
      wrapped = refl;
      too_small = too_small;
      least_whole = least_whole;
      below_least = below_least;
      minus_one = refl;
      minus_all = refl;
      three_two = three_two_index;
      two_seven = three_two_answer;
      no_number = nan_index;
      product = far_below_tenths;
      far_below = far_below_index;
      if_sent = refl;
      if_positive = refl;
      rate_wide = refl;
      rate_narrow = refl;
      too_narrow = refl;
      narrowest = refl;
      last_narrow = refl;
      first_between = refl;
      last_between = refl;
      first_wide = refl;
      true_wide = refl;
      last_true = refl;
      first_other = refl;
      true_most = refl;
      shifted = last_below;
      stays = first_above;
      notch_first = refl;
      notch_last = refl;
      notch_past = refl;
      fir-default = default-packed;
    }
