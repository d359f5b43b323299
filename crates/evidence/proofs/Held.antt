-- What is sure is held: by any chip and by any demodulator that the entries were played on. The premises stand at the heads of
-- crates/attempts/specs/Namings.antt and specs/Demodulator.antt. Assumes nothing.
use Prim.Native.Nat.{ℕ}
use mathlib.Core.Path.{◌≡◌, ◌∙◌}
use mathlib.Core.List.{List, [], ◌∷◌}
use Rattle.transcript.specs.declared.Entry.{Entry}
use Rattle.attempts.specs.Attempts as chip
use Rattle.attempts.specs.Attempts.{Regs, tuner_at}
use Rattle.attempts.specs.Namings.{Naming, Played, byte_in, last_in}
use Rattle.attempts.proofs.Doubt.{sure_byte}
use Rattle.evidence.specs.Alike.{Agree}
use Rattle.evidence.specs.Demodulator.{Place, demodulator, last_at, place}
use Rattle.evidence.specs.Evidence.{chip_byte, ddc_mark, demod_byte, if_mark, if_places, if_units, lasts, lo_mark, lo_units, mark_all, oscillator, rate_in, rate_mark, rate_places}
use Rattle.evidence.proofs.Marks.{Each, Sure, one_mark, sure_exactly, sure_known}

module _ {P : Type 0} (any : Naming P) (at : ℕ → P) (es : List Entry) (before now : P → ℕ) (played : Played any es before now) where
  agree : (rs : List ℕ) → Each Sure (lasts (λ r. last_in any es (at r)) rs) → Agree (λ r. now (at r)) (λ r. byte_in 0 (last_in any es (at r))) rs
  agree [] p = tt
  agree (r ∷ rs) p = (sure_byte any es before now (at r) 0 played (sure_known (last_in any es (at r)) p.0), agree rs p.1)

  pub held : (rs : List ℕ) → mark_all (lasts (λ r. last_in any es (at r)) rs) ≡ 2 → Agree (λ r. now (at r)) (λ r. byte_in 0 (last_in any es (at r))) rs
  held rs h = agree rs ((sure_exactly (lasts (λ r. last_in any es (at r)) rs)).0 h)

-- the oscillator, on the tuner's chip
pub lo_held : (address r : ℕ) (es : List Entry) (before now : Regs) → chip.Played address es before now → lo_mark address es ≡ 2
    → lo_units r now ≡ lo_units r (chip_byte address es)
unfolding lo_units
lo_held address r es before now played h =
    let p = held (tuner_at address) (λ q. q) es before now played oscillator h in
    rw (p.0, p.1.0, p.1.1.0, p.1.1.1.0, p.1.1.1.1.0)

module _ (es : List Entry) (before now : Place → ℕ) (played : Played demodulator es before now) where
  -- the demodulator's registers of page 1
  abbrev pub page : ℕ → ℕ
  page r = now (place 1 r)

  pub if_held : (xtal : ℕ) → if_mark es ≡ 2 → if_units xtal page ≡ if_units xtal (demod_byte es)
  unfolding if_units
  if_held xtal h =
      let p = held demodulator (place 1) es before now played if_places h in
      rw (p.0, p.1.0, p.1.1.0)

  pub rate_held : (xtal : ℕ) → rate_mark es ≡ 2 → rate_in xtal page ≡ rate_in xtal (demod_byte es)
  unfolding rate_in
  rate_held xtal h =
      let p = held demodulator (place 1) es before now played rate_places h in
      rw (p.0, p.1.0, p.1.1.0, p.1.1.1.0)

  pub ddc_held : ddc_mark es ≡ 2 → page 0x15 ≡ demod_byte es 0x15
  ddc_held h = (held demodulator (place 1) es before now played (0x15 ∷ []) (one_mark (last_at es 0x15) ∙ h)).0
