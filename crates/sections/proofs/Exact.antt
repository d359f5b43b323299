-- The walk accepts exactly sections end to end: any good sections, joined, are accepted with all their entries in order, and whatever is accepted is
-- such sections. Assumes nothing.
use Prim.Native.Nat.{ℕ, zero, suc, ◌≤◌, ◌<◌}
use mathlib.Core.Path.{◌≡◌, refl, sym, ap, ap₂, ◌∙◌}
use mathlib.Core.Bool.{true}
use mathlib.Core.List.{List, [], ◌∷◌, ◌++◌, append-nil, append_assoc}
use native.Mathlib.Omega.{arith}
use lib.ListN.{length, take, length-take}
use Rattle.wire.specs.Bytes.{Bytes}
use Rattle.wire.proofs.Widths.{bytes_take}
use Rattle.transcript.specs.declared.Entry.{Entry}
use Rattle.transcript.specs.Sections.{AllFit, Parted, before_of, is_section, section_bytes, section_entries, start_of}
use Rattle.transcript.proofs.Reading.{both, found, sound}
use Rattle.transcript.proofs.Exact.{read_then_written, written_then_read}
use Rattle.sections.specs.Chain.{Good, chain, chain_entries, end_to_end, together}
use Rattle.sections.proofs.Walk.{chain_empty, chain_step, entries_empty, entries_step}

before_taken : (s : List ℕ) → is_section s ≡ true → before_of s ≡ take (start_of s) s
unfolding before_of
before_taken s h = rw h

-- a slice in two: what the walk says of bytes and one section after them
module _ (p : List ℕ) (es : List Entry) (fit : AllFit es) (most : length es ≤ 4096) where
  parted : Parted (p ++ section_bytes es) p es
  parted = written_then_read p es fit most

  section : is_section (p ++ section_bytes es) ≡ true
  section = (found (p ++ section_bytes es) (length p) (length es) (sym parted.accepted)).0

  some : 0 < length (p ++ section_bytes es)
  some = omega (arith, (sound (p ++ section_bytes es) section).long)

  front : take (start_of (p ++ section_bytes es)) (p ++ section_bytes es) ≡ p
  front = sym (before_taken (p ++ section_bytes es) section) ∙ parted.before

  pub one_more : chain p ≡ true → chain (p ++ section_bytes es) ≡ true
  one_more h = chain_step (p ++ section_bytes es) some ∙ rw (section, front) h

  pub entries_more : chain_entries (p ++ section_bytes es) ≡ chain_entries p ++ es
  entries_more = entries_step (p ++ section_bytes es) some ∙ ap₂ (λ (l : List ℕ) (fs : List Entry). chain_entries l ++ fs) front parted.entries

-- good sections after bytes that are accepted
joined_after : (p : List ℕ) (ess : List (List Entry)) → Good ess → chain p ≡ true
    → (chain (p ++ end_to_end ess) ≡ true) × (chain_entries (p ++ end_to_end ess) ≡ chain_entries p ++ together ess)
joined_after p [] g h = (ap chain (append-nil p) ∙ h, ap chain_entries (append-nil p) ∙ sym (append-nil (chain_entries p)))
joined_after p (es ∷ ess) g h =
    let next = p ++ section_bytes es in
    let rest = joined_after next ess g.1 (one_more p es g.0.0 g.0.1 h) in
    let same : next ++ end_to_end ess ≡ p ++ (section_bytes es ++ end_to_end ess) = append_assoc p (section_bytes es) (end_to_end ess) in (
      ap chain (sym same) ∙ rest.0,
      ap chain_entries (sym same) ∙ rest.1 ∙ ap (λ (l : List Entry). l ++ together ess) (entries_more p es g.0.0 g.0.1)
          ∙ append_assoc (chain_entries p) es (together ess),
    )

-- sections end to end are accepted, with all their entries, oldest first
pub accepted : (ess : List (List Entry)) → Good ess → (chain (end_to_end ess) ≡ true) × (chain_entries (end_to_end ess) ≡ together ess)
accepted ess g =
    let all = joined_after [] ess g (chain_empty [] refl) in
    (all.0, all.1 ∙ ap (λ (l : List Entry). l ++ together ess) (entries_empty [] refl))

-- ---- and nothing else is

end_append : (ess fss : List (List Entry)) → end_to_end (ess ++ fss) ≡ end_to_end ess ++ end_to_end fss
end_append [] fss = refl
end_append (es ∷ ess) fss = ap (λ (l : List ℕ). section_bytes es ++ l) (end_append ess fss) ∙ sym (append_assoc (section_bytes es) (end_to_end ess) (end_to_end fss))

good_append : (ess fss : List (List Entry)) → Good ess → Good fss → Good (ess ++ fss)
good_append [] fss g h = h
good_append (es ∷ ess) fss g h = (g.0, good_append ess fss g.1 h)

no_length : (s : List ℕ) → length s ≡ 0 → s ≡ []
no_length [] h = refl
no_length (x ∷ xs) h = absurd (omega arith)

-- whatever is accepted is good sections end to end
only_by : (n : ℕ) (s : List ℕ) → length s ≤ n → Bytes s → chain s ≡ true → (ess : List (List Entry)) × Good ess × (s ≡ end_to_end ess)
only_by zero s l b h = ([], tt, no_length s (omega arith))
only_by (suc n) [] l b h = ([], tt, refl)
only_by (suc n) (x ∷ xs) l b h =
    let s = x ∷ xs in
    let two = both (is_section s) (chain (take (start_of s) s)) (sym (chain_step s (omega arith)) ∙ h) in
    let whole = read_then_written s b two.0 in
    let long = (sound s two.0).long in
    let less : length (take (start_of s) s) ≤ n = omega (arith, length-take (start_of s) s, long) in
    let rest = only_by n (take (start_of s) s) less (bytes_take (start_of s) s b) two.1 in
    let last = section_entries s in (
      rest.0 ++ (last ∷ []),
      good_append rest.0 (last ∷ []) rest.1 ((whole.fit, whole.most), tt),
      whole.whole
          ∙ ap (λ (l : List ℕ). l ++ section_bytes last) (before_taken s two.0 ∙ rest.2)
          ∙ ap (λ (l : List ℕ). end_to_end rest.0 ++ l) (sym (append-nil (section_bytes last)))
          ∙ sym (end_append rest.0 (last ∷ [])),
    )

pub only : (s : List ℕ) → Bytes s → chain s ≡ true → (ess : List (List Entry)) × Good ess × (s ≡ end_to_end ess)
only s b h = only_by (length s) s (omega arith) b h
