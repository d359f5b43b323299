-- What a long file's older part may be summed up in: what entries tell of a station depends on those before them only through the last attempts at thirteen
-- places, and lock and tries only through their two numbers, or not at all where a register that a plan sets is named later. Assumes nothing.
use Prim.Native.Nat.{ℕ}
use mathlib.Core.Path.{◌≡◌, refl, sym, ap, ◌∙◌}
use mathlib.Core.Bool.{true}
use mathlib.Core.List.{List, [], ◌∷◌, ◌++◌}
use Rattle.transcript.specs.declared.Entry.{Entry}
use Rattle.attempts.specs.Attempts as chip
use Rattle.attempts.specs.Attempts.{tuner_at}
use Rattle.attempts.specs.Namings.{Last, Naming, byte_in, last_from, last_in}
use Rattle.attempts.specs.Namings.Last.{Never}
use Rattle.attempts.proofs.Lasts.{last_append}
use Rattle.evidence.specs.Alike.{Agree, Alike, SameLasts, demod_places}
use Rattle.evidence.specs.Demodulator.{demodulator, last_at, place}
use Rattle.evidence.specs.Evidence.{centre_of, chip_byte, demod_byte, if_mark, if_places, if_units, lasts, lock_mark, lo_mark, lo_units, mark_all, mark_of, oscillator, rate_in, rate_places, tries_of}
use Rattle.evidence.proofs.Heard.{Heard, heard, heard_append, heard_plans, heard_from, plans}

-- the same entries after both
module _ {P : Type 0} (any : Naming P) (at : ℕ → P) (es gs fs : List Entry) where
  abbrev pub Same : List ℕ → Type 0
  Same rs = Agree (λ r. last_in any es (at r)) (λ r. last_in any gs (at r)) rs

  agree_after : (rs : List ℕ) → Same rs → Agree (λ r. last_in any (es ++ fs) (at r)) (λ r. last_in any (gs ++ fs) (at r)) rs
  agree_after [] p = tt
  agree_after (r ∷ rs) p =
      (last_append any Never es fs (at r) ∙ ap (λ (l : Last). last_from any l fs (at r)) p.0 ∙ sym (last_append any Never gs fs (at r)), agree_after rs p.1)

agree_lasts : (f g : ℕ → Last) (rs : List ℕ) → Agree f g rs → lasts f rs ≡ lasts g rs
agree_lasts f g [] p = refl
agree_lasts f g (r ∷ rs) p =
    let rest = agree_lasts f g rs p.1 in
    λ i. p.0 i ∷ rest i

module _ (address r xtal : ℕ) (es gs : List Entry) (same : SameLasts address es gs) where
  same_lo : lo_units r (chip_byte address es) ≡ lo_units r (chip_byte address gs)
  unfolding lo_units
  same_lo =
      let p = same.chip in
      rw (p.0, p.1.0, p.1.1.0, p.1.1.1.0, p.1.1.1.1.0)

  same_offset : if_units xtal (demod_byte es) ≡ if_units xtal (demod_byte gs)
  unfolding if_units
  same_offset =
      let p = same.demod.1 in
      rw (p.0, p.1.0, p.1.1.0)

  same_rate : rate_in xtal (demod_byte es) ≡ rate_in xtal (demod_byte gs)
  unfolding rate_in
  same_rate =
      let p = same.demod.1.1.1.1 in
      rw (p.0, p.1.0, p.1.1.0, p.1.1.1.0)

  lo_two : lo_mark address es ≡ lo_mark address gs
  lo_two = ap mark_all (agree_lasts (chip.last_in address es) (chip.last_in address gs) oscillator same.chip)

  if_two : if_mark es ≡ if_mark gs
  if_two =
      let p = same.demod.1 in
      ap mark_all (agree_lasts (last_at es) (last_at gs) if_places (p.0, (p.1.0, (p.1.1.0, tt))))

  pub alike : Alike address r xtal es gs
  alike =
      let p = same.demod in
      record {
        lo_mark_lem = lo_two;
        if_mark_lem = if_two;
        rate_mark_lem = ap mark_all (agree_lasts (last_at es) (last_at gs) rate_places p.1.1.1.1);
        ddc_mark_lem = ap mark_of p.0;
        centre_mark_lem = rw (same_lo, same_offset, lo_two, if_two);
        ddc = ap (byte_in 0) p.0;
        word = rw (p.1.0, p.1.1.0, p.1.1.1.0);
        ratio = rw (p.1.1.1.1.0, p.1.1.1.1.1.0, p.1.1.1.1.1.1.0, p.1.1.1.1.1.1.1.0);
        rate = same_rate;
        lo = same_lo;
        offset = same_offset;
        centre = (λ i. centre_of (same_lo i) (same_offset i));
      }

module _ (address : ℕ) (es gs fs : List Entry) where
  -- all but lock and tries
  pub evidence_by_lasts : SameLasts address es gs → (r xtal : ℕ) → Alike address r xtal (es ++ fs) (gs ++ fs)
  evidence_by_lasts same r xtal =
      alike address r xtal (es ++ fs) (gs ++ fs) (record {
        chip = agree_after (tuner_at address) (λ q. q) es gs fs oscillator same.chip;
        demod = agree_after demodulator (place 1) es gs fs demod_places same.demod;
      })

  -- lock and tries: not at all where a register that a plan sets was named since
  pub heard_since : plans address fs ≡ true → (lock_mark address (es ++ fs) ≡ lock_mark address (gs ++ fs)) × (tries_of address (es ++ fs) ≡ tries_of address (gs ++ fs))
  heard_since p =
      let none : Heard = heard 0 0 in
      let both : heard_from address none (es ++ fs) ≡ heard_from address none (gs ++ fs) =
      heard_append address none es fs ∙ heard_plans address fs p (heard_from address none es) (heard_from address none gs) ∙ sym (heard_append address none gs fs) in
      (ap (λ (h : Heard). h.mark) both, ap (λ (h : Heard). h.count) both)

  -- else by the two numbers
  pub heard_by_two : lock_mark address es ≡ lock_mark address gs → tries_of address es ≡ tries_of address gs
      → (lock_mark address (es ++ fs) ≡ lock_mark address (gs ++ fs)) × (tries_of address (es ++ fs) ≡ tries_of address (gs ++ fs))
  heard_by_two p q =
      let none : Heard = heard 0 0 in
      let both : heard_from address none (es ++ fs) ≡ heard_from address none (gs ++ fs) =
      heard_append address none es fs ∙ (λ i. heard_from address (heard (p i) (q i)) fs) ∙ sym (heard_append address none gs fs) in
      (ap (λ (h : Heard). h.mark) both, ap (λ (h : Heard). h.count) both)
