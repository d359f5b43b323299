-- One law for each way in which a test of the code goes: a band where it lies, its shift by its bits, a turn of each loop over a table's bands.
-- Assumes nothing.
use Prim.Native.Nat.{ℕ, suc, ◌+◌, ◌-◌, ◌/◌, ◌<◌, ◌≤◌}
use mathlib.Core.Path.{◌≡◌}
use mathlib.Core.Bool.{Bool, true, false, cond, ◌&&◌}
use mathlib.Core.List.{List, [], ◌∷◌, ◌++◌}
use native.Mathlib.Omega.{arith}
use borrow.Author.Tests.{le-ltb, lt-ltb}
use lib.Dec.{ltb, leb-zero}
use Rattle.std.specs.Prelude.{Option, Some, None, MatchOption}
use Rattle.std.proofs.lemmas.List.{take-append-le, drop-append-le}
use lib.ListN.{length, drop, length-append, length-drop, get_or-append}
use lib.Seq.{drop_at}
use mir.Syntax.{w64}
use mir.Facts.{to_z_pos}
use Rattle.refusals.specs.Table.{FREQUENCY}
use Rattle.bands.specs.declared.Band.{Band}
use Rattle.bands.specs.Tables.{ascending, band_of, bands_in, bands_of, fits_of, holds, plan_at, plan_in, refused, tuned}

-- ---- the shift: up by bits below 2^63, else down by what they lack to 2^64

module _ (b : Band) (hz : ℕ) where
  pub shifted_up : b.shift < 9223372036854775808 → hz + b.shift < 18446744073709551616 → tuned b (hz + b.shift) ≡ plan_at b hz
  unfolding plan_at
  shifted_up low h = rw (to_z_pos w64 low, lt-ltb (hz + b.shift) 18446744073709551616 h)

  pub past_64 : b.shift < 9223372036854775808 → 18446744073709551616 ≤ hz + b.shift → refused FREQUENCY ≡ plan_at b hz
  unfolding plan_at
  past_64 low h = rw (to_z_pos w64 low, le-ltb (hz + b.shift) 18446744073709551616 h)

  pub shifted_down : 9223372036854775808 ≤ b.shift → b.shift < 18446744073709551616 → hz < 18446744073709551616
      → 18446744073709551615 - b.shift + 1 ≤ hz → tuned b (hz - (18446744073709551615 - b.shift + 1)) ≡ plan_at b hz
  unfolding plan_at
  shifted_down high most word h =
      let down : suc (18446744073709551616 - suc b.shift) ≡ 18446744073709551615 - b.shift + 1 = omega arith in
      let less : hz - (18446744073709551615 - b.shift + 1) < 18446744073709551616 = omega arith in
      rw (le-ltb b.shift 9223372036854775808 high, down, le-ltb hz (18446744073709551615 - b.shift + 1) h, lt-ltb (hz - (18446744073709551615 - b.shift + 1)) 18446744073709551616 less)

  pub below_0 : 9223372036854775808 ≤ b.shift → b.shift < 18446744073709551616 → hz < 18446744073709551615 - b.shift + 1 → refused FREQUENCY ≡ plan_at b hz
  unfolding plan_at
  below_0 high most h =
      let down : suc (18446744073709551616 - suc b.shift) ≡ 18446744073709551615 - b.shift + 1 = omega arith in
      rw (le-ltb b.shift 9223372036854775808 high, down, lt-ltb hz (18446744073709551615 - b.shift + 1) h)

-- ---- a table in chunks of 27 bytes

-- a band is read from its 27 bytes, whatever stands behind them
band_first : (x t : List ℕ) → length x ≡ 27 → band_of (x ++ t) ≡ band_of x
unfolding band_of
band_first x t long =
    rw (
      take-append-le 8 x t (omega (arith, long)),
      drop-append-le 8 x t (omega (arith, long)),
      take-append-le 8 (drop 8 x) t (omega (arith, long, length-drop 8 x)),
      drop-append-le 16 x t (omega (arith, long)),
      take-append-le 8 (drop 16 x) t (omega (arith, long, length-drop 16 x)),
      get_or-append x t 0 24 (omega (arith, long)),
      get_or-append x t 0 25 (omega (arith, long)),
      get_or-append x t 0 26 (omega (arith, long)),
    )

pub bands_turn : (s x t : List ℕ) → s ≡ x ++ t → length x ≡ 27 → bands_of s ≡ band_of x ∷ bands_of t
unfolding bands_in
bands_turn s x t whole long =
    let count : length (x ++ t) / 27 ≡ suc (length t / 27) = omega (arith, length-append x t, long) in
    rw (whole, count, band_first x t long, drop_at x t 27 long)

pub bands_end : (s : List ℕ) → length s < 27 → bands_of s ≡ []
unfolding bands_in
bands_end s short =
    let none : length s / 27 ≡ 0 = omega arith in
    rw none

module _ (s x t : List ℕ) (hz : ℕ) (b : Band) (test : Bool) (whole : s ≡ x ++ t) (long : length x ≡ 27) (is : b ≡ band_of x) (tested : test ≡ holds b hz) where
  plan_turn : plan_in (bands_of s) hz ≡ cond test (plan_at b hz) (plan_in (bands_of t) hz)
  unfolding plan_in
  plan_turn = rw (bands_turn s x t whole long, ← is, ← tested)

  pub plan_found : test ≡ true → plan_at b hz ≡ plan_in (bands_of s) hz
  plan_found e = rw (plan_turn, e)

  pub plan_on : test ≡ false → plan_in (bands_of t) hz ≡ plan_in (bands_of s) hz
  plan_on e = rw (plan_turn, e)

pub plan_end : (s : List ℕ) (hz : ℕ) → length s < 27 → refused FREQUENCY ≡ plan_in (bands_of s) hz
unfolding plan_in
plan_end s hz short = rw (bands_end s short)

-- where a band may begin: anywhere, or past the last of the one before
abbrev pub least_past : Option ℕ → ℕ
least_past None = 0
least_past (Some last) = suc last

module _ (s x t : List ℕ) (b : Band) (fit past : Bool) (whole : s ≡ x ++ t) (long : length x ≡ 27) (is : b ≡ band_of x) (fits : fit ≡ fits_of b) where
  ascending_turn : (o : Option ℕ) → MatchOption o (past ≡ true) (λ last. past ≡ ltb last b.first)
      → ascending (least_past o) (bands_of s) ≡ (fit && past) && ascending (suc b.last) (bands_of t)
  unfolding ascending
  ascending_turn None e = rw (bands_turn s x t whole long, ← is, ← fits, e, leb-zero b.first)
  ascending_turn (Some last) e = rw (bands_turn s x t whole long, ← is, ← fits, e)

  module _ (o : Option ℕ) (begins : MatchOption o (past ≡ true) (λ last. past ≡ ltb last b.first)) where
    pub ascending_on : (fit && past) ≡ true → ascending (suc b.last) (bands_of t) ≡ ascending (least_past o) (bands_of s)
    ascending_on e = rw (ascending_turn o begins, e)

    pub ascending_stop : (fit && past) ≡ false → false ≡ ascending (least_past o) (bands_of s)
    ascending_stop e = rw (ascending_turn o begins, e)

pub ascending_end : (s : List ℕ) (least : ℕ) → length s < 27 → true ≡ ascending least (bands_of s)
unfolding ascending
ascending_end s least short = rw (bands_end s short)
