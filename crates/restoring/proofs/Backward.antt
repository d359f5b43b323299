-- The walk from the end of a slice: one section more, a stop at what is no section, and the start of the slice.
-- Assumes nothing.
use Prim.Native.Nat.{ℕ, ◌+◌, ◌-◌, ◌*◌, ◌≤◌, ◌<◌}
use mathlib.Core.Path.{◌≡◌, refl, sym, ap, ap₂, ◌∙◌}
use mathlib.Core.Bool.{true, false, true≢false}
use mathlib.Core.List.{List, [], ◌++◌}
use native.Mathlib.Omega.{arith}
use lib.ListN.{length, take, drop}
use lib.Seq.{length-take-le, take-length, take-take}
use Rattle.transcript.specs.declared.Entry.{Entry}
use Rattle.std.specs.Prelude.{Some, None}
use Rattle.transcript.specs.Sections.{all_fit, count_of, entries_in, entries_of, is_section, section_at, section_entries, section_of, start_of}
use Rattle.transcript.proofs.Reading.{found, lies, sound, unread}
use Rattle.transcript.proofs.Exact.{entries_in-take}
use Rattle.sections.specs.Chain.{chain, chain_entries}
use Rattle.sections.proofs.Walk.{chain_empty, chain_step, entries_empty, entries_step}
use Rattle.restore.specs.Restore.{refused_by}
use Rattle.restoring.specs.Standing.{Known, over, known_in}
use Rattle.restoring.proofs.Telling.{Joins, over_both_lem, over_empty}

handed : (p : List ℕ) → is_section p ≡ true → section_entries p ≡ entries_in (count_of p) (drop (start_of p) p)
unfolding entries_of
handed p good = rw good (entries_in-take (count_of p) (drop (start_of p) p))

-- the part of a slice up to `end`
module _ (s p : List ℕ) (end : ℕ) (is : p ≡ take (end - 0) s) (some : 0 < end) (inside : end ≤ length s) where
  whole : p ≡ take end s
  whole =
      let all : end - 0 ≡ end = omega arith in
      is ∙ ap (λ (k : ℕ). take k s) all

  long : length p ≡ end
  long = ap length whole ∙ length-take-le end s inside

  pub stopped : chain (take end s) ≡ chain s → None ≡ section_of p → chain s ≡ false
  stopped same h = sym same ∙ ap chain (sym whole) ∙ chain_step p (omega (arith, long)) ∙ rw (unread p h)

  module _ (start count : ℕ) (read : Some (section_at start count) ≡ section_of p) where
    good : is_section p ≡ true
    good = (found p start count read).0

    start_is : start ≡ start_of p
    start_is = (found p start count read).1.0

    count_is : count ≡ count_of p
    count_is = (found p start count read).1.1

    pub lower : start < end
    lower = omega (arith, start_is, long, (sound p good).long)

    pub few : count ≤ 4096
    few = (lies p start count read).0

    pub within : start + 16 * count ≤ length p
    within = (lies p start count read).1

    pub fit : all_fit count (drop start p) ≡ true
    fit = ap₂ (λ (k i : ℕ). all_fit k (drop i p)) count_is start_is ∙ (sound p good).fit

    front : take (start_of p) p ≡ take start s
    front = ap₂ (λ (k : ℕ) (l : List ℕ). take k l) (sym start_is) whole ∙ take-take start end s (omega (arith, lower))

    pub chain_on : chain (take start s) ≡ chain (take end s)
    chain_on = sym (ap chain (sym whole) ∙ chain_step p (omega (arith, long)) ∙ rw (good, front))

    entries_on : chain_entries (take end s) ≡ chain_entries (take start s) ++ entries_in count (drop start p)
    entries_on =
        ap chain_entries (sym whole)
        ∙ entries_step p (omega (arith, long))
        ∙ ap₂ (λ (l : List ℕ) (es : List Entry). chain_entries l ++ es) front (handed p good ∙ ap₂ (λ (k i : ℕ). entries_in k (drop i p)) (sym count_is) (sym start_is))

    -- whatever a walk gathers of entries, older ones after newer ones
    pub turned : {S : Type 0} (all : List Entry → S → S) (l next : S) → Joins all → next ≡ all (entries_in count (drop start p)) l
        → all (chain_entries (take start s)) next ≡ all (chain_entries (take end s)) l
    turned all l next both was =
        ap (all (chain_entries (take start s))) was
        ∙ both (chain_entries (take start s)) (entries_in count (drop start p)) l
        ∙ ap (λ (es : List Entry). all es l) (sym entries_on)

    pub told_on : (address : ℕ) (l next : List Known) → next ≡ over (known_in address (entries_in count (drop start p))) 0 l
        → over (known_in address (chain_entries (take start s))) 0 next ≡ over (known_in address (chain_entries (take end s))) 0 l
    told_on address l next was = turned (λ es. over (known_in address es) 0) l next (over_both_lem address) was

-- the start of the slice
module _ (s : List ℕ) (end : ℕ) (none_left : end ≡ 0) (same : chain (take end s) ≡ chain s) where
  pub all_sections : 0 ≡ refused_by s
  all_sections = rw (← same, none_left, chain_empty [] refl)

  pub all_turned : {S : Type 0} (all : List Entry → S → S) (l : S) → l ≡ all [] l → l ≡ all (chain_entries (take end s)) l
  all_turned all l empty = empty ∙ ap (λ (es : List Entry). all es l) (sym (ap (λ (k : ℕ). chain_entries (take k s)) none_left ∙ entries_empty [] refl))

  pub all_told : (address : ℕ) (l : List Known) → l ≡ over (known_in address (chain_entries (take end s))) 0 l
  all_told address l = all_turned (λ es. over (known_in address es) 0) l (over_empty address l)

pub refused : (s : List ℕ) → chain s ≡ false → 12 ≡ refused_by s
refused s h = rw h

pub not_both : {A : Type 0} (s : List ℕ) → chain s ≡ false → chain s ≡ true → A
not_both s h k = absurd (true≢false (sym k ∙ h))

pub begin : (s : List ℕ) → take (length s) s ≡ s
begin s = take-length s
