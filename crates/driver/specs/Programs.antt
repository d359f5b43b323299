-- What the two calls of src/lib.rs that have steps do, in its order. Document 01, "Demodulator": "`set_sample_rate`: an IF of 0 stays 0 for all later
-- rates, until an IF is set"; "The record": "Its DDC byte follows the plan for the recorded frequency."
-- Assumes nothing.
use Rattle.std.specs.Prelude.{ℕ, Bool, cond, List, [], ◌++◌, eqb, leb, get_or}
use Rattle.board.specs.declared.Path.{Path}
use Rattle.board.specs.declared.Path.TheVariants.{Hf, Vhf, Uhf}
use Rattle.chip.specs.Steps.{Step, while_open, updates}
use Rattle.demod.specs.Programs.{ddc_steps, if_steps, rate_steps, reset_steps}
use Rattle.device.specs.Gpio.{bit_steps, output_steps}
use Rattle.pll.specs.declared.Kind.{Kind}
use Rattle.pll.specs.declared.Kind.TheVariants.{R820T, R828D}
use Rattle.writes.specs.Lists.{bandwidth_updates, if_updates, path_updates}

-- the IF that a rate asks for, by the IF so far
abbrev pub if_for : ℕ → ℕ → ℕ
if_for now rate = cond (eqb now 0) 0 (cond (leb 2_500_000 rate) 3_570_000 (cond (leb 1_000_000 rate) 2_300_000 0))

-- the tuner's IF and bandwidth, a bracket each
abbrev pub filter_steps : ℕ → ℕ → List Step
filter_steps hz rate = while_open (updates (if_updates hz)) ++ while_open (updates (bandwidth_updates rate))

-- the demodulator is set up again: reset, rate, IF
abbrev pub demod_setup : ℕ → ℕ → ℕ → List Step
demod_setup hz rate xtal = reset_steps ++ (rate_steps rate xtal ++ if_steps hz xtal)

-- `set_sample_rate` after its refusals: 7, 9 and the DDC byte, which the reset has cleared
abbrev pub sample_rate_steps : ℕ → ℕ → ℕ → Bool → List Step
sample_rate_steps hz rate xtal inverted = filter_steps hz rate ++ (demod_setup hz rate xtal ++ ddc_steps inverted)

-- the level of GPIO 5: low for HF, high for the others
abbrev pub level_for : Path → ℕ
level_for Hf = 0
level_for Vhf = 1
level_for Uhf = 1

-- the tuner's own path, which an R820T does not have
abbrev pub tuner_path : Kind → Path → List Step
tuner_path R820T path = []
tuner_path R828D path = while_open (updates (path_updates path))

-- `apply_input_path`: GPIO 5's direction and bit, then the tuner's path
abbrev pub board_path_steps : Kind → Path → List ℕ → List Step
board_path_steps kind path rs =
    output_steps 5 (get_or rs 0 0) (get_or rs 1 0) ++ (bit_steps 5 (level_for path) (get_or rs 2 0) ++ tuner_path kind path)
