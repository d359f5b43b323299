-- What each call of src/demod.rs does, in its order: a program of plain steps. Document 01, "Demodulator"; numbers from src/registers.rs.
-- Assumes nothing.
use Rattle.std.specs.Prelude.{ℕ, suc, ◌/◌, ◌%◌, ◌^◌, Bool, true, false, List, [], ◌∷◌, ◌++◌, map, replicate}
use Rattle.chip.specs.Entries.{wait}
use Rattle.chip.specs.Steps.{Step}
use Rattle.chip.specs.Steps.Step.{Plain}
use Rattle.device.specs.declared.Access.{Access}
use Rattle.device.specs.Accesses.{access, access_step, block_write, block_write16, demod_write, demod_write16}
use Rattle.fir.specs.Packing.{fir_default, pack_of}
use Rattle.registers.specs.Rates.{if_value_of, ratio_of, sent_of}

-- `reset_demod`: the soft reset on, then off
unfoldable pub reset_steps : List Step
reset_steps = Plain (demod_write 1 0x01 0x14) ∷ Plain (demod_write 1 0x01 0x10) ∷ []

-- `set_tuner_low_if`, `set_tuner_zero_if`
unfoldable pub low_if_steps : List Step
low_if_steps = Plain (demod_write 1 0xb1 0x1a) ∷ Plain (demod_write 0 0x08 0x4d) ∷ []

unfoldable pub zero_if_steps : List Step
zero_if_steps = Plain (demod_write 1 0xb1 0x1b) ∷ Plain (demod_write 0 0x08 0x4c) ∷ []

-- `write_reg_direct`
unfoldable pub direct_steps : ℕ → ℕ → ℕ → List Step
direct_steps page register value = Plain (demod_write page register value) ∷ []

-- the DDC byte, with the spectrum inverted or not
abbrev pub ddc_byte : Bool → ℕ
ddc_byte true = 0x05
ddc_byte false = 0x01

unfoldable pub ddc_steps : Bool → List Step
ddc_steps inverted = Plain (demod_write 1 0x15 (ddc_byte inverted)) ∷ []

-- "IF: 0x19..0x1b get -(if·2^22 / xtal) modulo 2^22": 22 bits, high first. Kind 4 is a demod write of 8 bits, kind 5 of 16
abbrev pub if_rows : ℕ → ℕ → List Access
if_rows hz xtal =
    access 4 1 0x19 (if_value_of hz xtal / 2 ^ 16)
    ∷ access 4 1 0x1a (if_value_of hz xtal / 2 ^ 8 % 2 ^ 8)
    ∷ access 4 1 0x1b (if_value_of hz xtal % 2 ^ 8)
    ∷ []

unfoldable pub if_steps : ℕ → ℕ → List Step
if_steps hz xtal = map access_step (if_rows hz xtal)

-- "Rate: r = xtal·2^22 / rate, kept to 32 bits, and 0x0ffffffc, then bit 27 copied into bit 28; written as in `set_sample_rate_xtal`"
abbrev pub rate_rows : ℕ → ℕ → List Access
rate_rows rate xtal =
    access 5 1 0x9f (sent_of (ratio_of rate xtal) / 2 ^ 16)
    ∷ access 5 1 0xa1 (sent_of (ratio_of rate xtal) % 2 ^ 16)
    ∷ access 4 1 0x3f 0x00
    ∷ access 4 1 0x3e 0x00
    ∷ []

unfoldable pub rate_steps : ℕ → ℕ → List Step
rate_steps rate xtal = map access_step (rate_rows rate xtal)

-- `start_streaming`, `stop_streaming`: EPA_CTL of block USB, DEMOD_CTL of block SYS
unfoldable pub start_steps : List Step
start_steps = Plain (block_write16 1 0x2148 0x1002) ∷ Plain (block_write16 1 0x2148 0x0000) ∷ []

unfoldable pub stop_steps : List Step
stop_steps = Plain (block_write16 1 0x2148 0x1002) ∷ Plain (block_write 2 0x3000 0x20) ∷ []

-- bytes to the registers of page 1 from one upward
unfoldable pub upward : ℕ → List ℕ → List Step
upward register [] = []
upward register (b ∷ bs) = Plain (demod_write 1 register b) ∷ upward (suc register) bs

-- `init_baseband`: the USB and system blocks, the wait, the reset, DDC off
unfoldable pub power_steps : List Step
power_steps =
    Plain (block_write 1 0x2000 0x09)
    ∷ Plain (block_write16 1 0x2158 0x0002)
    ∷ Plain (block_write16 1 0x2148 0x1002)
    ∷ Plain (block_write 2 0x300b 0x22)
    ∷ Plain (block_write 2 0x3000 0xe8)
    ∷ Plain (wait 100)
    ∷ Plain (demod_write 1 0x01 0x14)
    ∷ Plain (demod_write 1 0x01 0x10)
    ∷ Plain (demod_write 1 0x15 0x00)
    ∷ Plain (demod_write16 1 0x16 0x0000)
    ∷ []

-- `set_fir`: the twenty bytes of FIR_DEFAULT from 0x1c
unfoldable pub fir_steps : List Step
fir_steps = upward 0x1c (pack_of fir_default)

unfoldable pub mode_steps : List Step
mode_steps =
    Plain (demod_write 0 0x19 0x05)
    ∷ Plain (demod_write 1 0x93 0xf0)
    ∷ Plain (demod_write 1 0x94 0x0f)
    ∷ Plain (demod_write 1 0x11 0x00)
    ∷ Plain (demod_write 1 0x04 0x00)
    ∷ Plain (demod_write 0 0x61 0x60)
    ∷ Plain (demod_write 0 0x06 0x80)
    ∷ Plain (demod_write 1 0xb1 0x1b)
    ∷ Plain (demod_write 0 0x0d 0x83)
    ∷ []

-- `init_baseband`, and `power_on`, which is the same: six zeros from 0x16, the FIR, the modes
unfoldable pub init_steps : List Step
init_steps = (power_steps ++ upward 0x16 (replicate 6 0)) ++ (fir_steps ++ mode_steps)
