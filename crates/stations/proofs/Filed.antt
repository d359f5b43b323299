-- Where the centre is within its bound on every chip and every demodulator, the centre that entries tell is sure and within it too: the bound is one of the
-- answer's own number. Assumes nothing.
use Prim.Native.Nat.{ℕ, suc, ◌+◌, ◌-◌, ◌*◌, ◌/◌, ◌%◌, ◌^◌, ◌≤◌, ◌<◌}
use mathlib.Core.Path.{◌≡◌, refl, subst}
use mathlib.Core.Bool.{true}
use mathlib.Core.List.{List}
use native.Mathlib.Omega.{arith}
use native.Mathlib.Nat.{le_of_mul-le-mul_left, lt-mul-div-succ, mul-div-le, mul-le-mul_left, mul-lt-mul_of_pos_left, pow-succ'}
use lib.Pow.{pow_pos}
use Rattle.transcript.specs.declared.Entry.{Entry}
use Rattle.attempts.specs.Attempts as chip
use Rattle.attempts.specs.Attempts.{Regs, tuner_at}
use Rattle.attempts.specs.Namings.{Played}
use Rattle.attempts.proofs.Played.{some_played}
use Rattle.evidence.specs.Demodulator.{Place, demodulator, place}
use Rattle.evidence.specs.Evidence.{centre_of, chip_byte, code_in, demod_byte, if_mark, if_places, if_units, if_word, lo_mark, lo_units, oscillator}
use Rattle.evidence.proofs.Held.{held}
use Rattle.evidence.proofs.Marks.{centre_exactly}
use Rattle.evidence.proofs.Units.{lo_exactly}
use Rattle.oscillator.specs.Registers.{Bytes, divider_in, stands_by, vco_in}
use Rattle.oscillator.proofs.Oscillator.{each_five, same_divider, same_vco}
use Rattle.registers.specs.Rates.{negated_of}
use Rattle.stations.specs.Centre.{Centred, Filed}

-- ---- the bound in units, and in whole Hz

module _ (hz xtal v m vco lo : ℕ) (some : 0 < m) (units : lo * m ≡ 128 * vco)
    (low : 2 ^ 22 * (65_536 * (hz * m)) + 65_536 * (m * (v * xtal)) ≤ 2 ^ 22 * vco + 2 ^ 22 * (65_536 * 24_999))
    (high : 2 ^ 22 * vco ≤ 2 ^ 22 * (65_536 * (hz * m)) + 65_536 * (m * (v * xtal)) + 2 ^ 22 * (65_536 * 17_998) + 65_536 * (m * xtal)) where
  abbrev offset : ℕ
  offset = 2 * (v * xtal)

  fits : 24_999 ≤ hz * m → offset ≤ lo
  fits far =
      let times : m * offset ≤ m * lo = omega (arith, units, low, far) in
      le_of_mul-le-mul_left times some

  cut_below : offset ≤ lo → hz * m < (centre_of lo offset + 1) * m + 24_999
  unfolding centre_of
  cut_below le =
      let c : ℕ = (lo - offset) / 2 ^ 23 in
      let cut : lo - offset < 2 ^ 23 * (c + 1) = lt-mul-div-succ (lo - offset) (omega arith) in
      let more : lo < 2 ^ 23 * (c + 1) + offset = omega (arith, cut, le) in
      let times : m * lo < m * (2 ^ 23 * (c + 1) + offset) = mul-lt-mul_of_pos_left more some in
      omega (arith, units, low, times)

  cut_above : offset ≤ lo → 2 ^ 22 * (centre_of lo offset * m) ≤ 2 ^ 22 * (hz * m) + 2 ^ 22 * 17_998 + m * xtal
  unfolding centre_of
  cut_above le =
      let c : ℕ = (lo - offset) / 2 ^ 23 in
      let part : 2 ^ 23 * c ≤ lo - offset = mul-div-le (lo - offset) (2 ^ 23) in
      let less : 2 ^ 23 * c + offset ≤ lo = omega (arith, part, le) in
      let times : m * (2 ^ 23 * c + offset) ≤ m * lo = mul-le-mul_left m less in
      omega (arith, units, high, times)

-- ---- on any chip and any demodulator, so of what is told

module _ (address r xtal hz : ℕ) (all : List Entry) (lo_two : lo_mark address all ≡ 2) (if_two : if_mark all ≡ 2) (far : 12_500 ≤ hz)
    (near : (before now : Regs) → chip.Played address all before now → (was is : Place → ℕ) → Played demodulator all was is
    → Centred hz r xtal (negated_of (if_word (λ q. is (place 1 q)))) now × (code_in now ≤ 7)) where
  abbrev told : Bytes
  told = chip_byte address all

  abbrev steps : ℕ
  steps = negated_of (if_word (demod_byte all))

  pub filed_by : Filed hz address r xtal all
  unfolding if_units
  filed_by =
      let some_chip = some_played (tuner_at address) all (λ q. 0) in
      let some-demod = some_played demodulator all (λ q. 0) in
      let now : Regs = some_chip.0 in
      let is : Place → ℕ = some-demod.0 in
      let w = near (λ q. 0) now some_chip.1 (λ q. 0) is some-demod.1 in
      let a = held (tuner_at address) (λ q. q) all (λ q. 0) now some_chip.1 oscillator lo_two in
      let b = held demodulator (place 1) all (λ q. 0) is some-demod.1 if_places if_two in
      let same : (i : ℕ) → stands_by i ≡ true → now i ≡ told i =
      each_five (λ i. now i ≡ told i) a.0 a.1.0 a.1.1.0 a.1.1.1.0 a.1.1.1.1.0 in
      let md : divider_in now ≡ divider_in told = same_divider r now told same in
      let vd : negated_of (if_word (λ q. is (place 1 q))) ≡ steps = (λ i. negated_of (65_536 * (b.0 i % 64) + (256 * b.1.0 i + b.1.1.0 i))) in
      let vco : vco_in r now ≡ vco_in r told = same_vco r now told same in
      let c : Centred hz r xtal steps now = subst (λ (x : ℕ). Centred hz r xtal x now) vd w.0 in
      let near-low = subst (λ (x : ℕ). 2 ^ 22 * (65_536 * (hz * x)) + 65_536 * (x * (steps * xtal)) ≤ 2 ^ 22 * vco_in r now + 2 ^ 22 * (65_536 * 24_999)) md c.below in
      let near-high =
      subst (λ (x : ℕ). 2 ^ 22 * vco_in r now ≤ 2 ^ 22 * (65_536 * (hz * x)) + 65_536 * (x * (steps * xtal)) + 2 ^ 22 * (65_536 * 17_998) + 65_536 * (x * xtal)) md c.above in
      let low = subst (λ (x : ℕ). 2 ^ 22 * (65_536 * (hz * divider_in told)) + 65_536 * (divider_in told * (steps * xtal)) ≤ 2 ^ 22 * x + 2 ^ 22 * (65_536 * 24_999)) vco near-low in
      let high =
      subst (λ (x : ℕ). 2 ^ 22 * x ≤ 2 ^ 22 * (65_536 * (hz * divider_in told)) + 65_536 * (divider_in told * (steps * xtal)) + 2 ^ 22 * (65_536 * 17_998) + 65_536 * (divider_in told * xtal)) vco
      near-high in
      by low high (subst (λ (x : ℕ). x / 32 ≤ 7) (same 0x10 refl) w.1)
    where
      by : 2 ^ 22 * (65_536 * (hz * divider_in told)) + 65_536 * (divider_in told * (steps * xtal)) ≤ 2 ^ 22 * vco_in r told + 2 ^ 22 * (65_536 * 24_999)
          → 2 ^ 22 * vco_in r told ≤ 2 ^ 22 * (65_536 * (hz * divider_in told)) + 65_536 * (divider_in told * (steps * xtal)) + 2 ^ 22 * (65_536 * 17_998) + 65_536 * (divider_in told * xtal)
          → code_in told ≤ 7 → Filed hz address r xtal all
      by low high few =
          let m : ℕ = divider_in told in
          let some : 0 < m = pow_pos (suc (code_in told)) in
          let two : 2 ≤ m = omega (arith, pow-succ' 2 (code_in told), pow_pos (code_in told)) in
          let units : lo_units r told * m ≡ 128 * vco_in r told = lo_exactly r told few in
          let wide : hz * 2 ≤ hz * m = mul-le-mul_left hz two in
          let le : if_units xtal (demod_byte all) ≤ lo_units r told = fits hz xtal steps m (vco_in r told) (lo_units r told) some units low high (omega (arith, wide, far)) in
          record {
            lo = lo_two;
            offset = if_two;
            mark = (centre_exactly address r xtal all).1 (lo_two, if_two, le);
            below = cut_below hz xtal steps m (vco_in r told) (lo_units r told) some units low high le;
            above = cut_above hz xtal steps m (vco_in r told) (lo_units r told) some units low high le;
          }
