-- The cases of both calls: what each refusal and the last case leave.
-- Assumes nothing.
use Prim.Native.Nat.{ℕ, ◌+◌, ◌*◌, ◌<◌, ◌≤◌}
use mathlib.Core.Path.{◌≡◌, refl, sym, ap, ap₂, ◌∙◌}
use mathlib.Core.List.{List, [], map}
use mathlib.Core.Bool.{Bool, true, false, cond}
use native.Mathlib.Omega.{arith}
use lib.ListN.{length, take, drop}
use lib.Seq.{sets}
use Rattle.transcript.specs.declared.Entry.{Entry}
use Rattle.std.specs.Prelude.{Some, None}
use Rattle.std.proofs.lemmas.Option.{cond_some}
use Rattle.transcript.specs.Entries.{bare}
use Rattle.transcript.specs.Sections.{all_fit, count_of, entries_in, entries_of, is_section, section_at, section_bytes, section_entries, section_of, start_of}
use Rattle.transcript.proofs.Exact.{entries_in-take}
use Rattle.transcript.proofs.Reading.{cond_none, found, lies, sound, unread}
use Rattle.refusals.specs.declared.Answer.TheVariants as answer
use Rattle.refusals.specs.Lent.{given}
use Rattle.refusals.proofs.Giving as giving
use Rattle.refusals.specs.Table.{ROOM, SECTION, EXPANSION}
use Rattle.expansion.specs.Expansion as spec
use Rattle.expansion.specs.Expansion.{all_expand, all_heard, expand_into, expanded, heard_entries, read_into, size_of}
use Rattle.expansion.proofs.Hearing.{section_long}

-- ---- a section

-- a number that was found
is_so : (b : Bool) (n k : ℕ) → Some k ≡ cond b (Some n) None → (b ≡ true) × (k ≡ n)
is_so b n k h = let p = cond_some b n k (sym h) in (p.0, sym p.1)

module _ (s out : List ℕ) where
  pub no_section : None ≡ section_of s → given (answer.Refused SECTION) out ≡ expand_into s out
  unfolding expand_into
  no_section h =
      let never : is_section s ≡ false = unread s h in
      rw never (giving.refused SECTION (length (expanded (section_entries s))) (expanded (section_entries s)) out (omega arith))

  module _ (start count : ℕ) (h : Some (section_at start count) ≡ section_of s) where
    entries : entries_in count (drop start s) ≡ section_entries s
    unfolding entries_of
    entries =
        let f = found s start count h in
        ap₂ (λ (k i : ℕ). entries_in k (drop i s)) f.1.1 f.1.0
        ∙ sym (entries_in-take (count_of s) (drop (start_of s) s))
        ∙ ap (λ (b : Bool). entries_in (count_of s) (cond b (take (16 * count_of s) (drop (start_of s) s)) [])) (sym f.0)

    pub ready : (count ≤ 4096) × (start + 16 * count ≤ length s) × (all_fit count (drop start s) ≡ true)
    ready =
        let f = found s start count h in
        let l = lies s start count h in
        (l.0, l.1, ap₂ (λ (k i : ℕ). all_fit k (drop i s)) f.1.1 f.1.0 ∙ (sound s f.0).fit)

    pub cannot : None ≡ size_of (entries_in count (drop start s)) → given (answer.Refused EXPANSION) out ≡ expand_into s out
    unfolding expand_into size_of
    cannot q =
        let p : all_expand (section_entries s) ≡ false = ap all_expand (sym entries) ∙ cond_none (all_expand (entries_in count (drop start s))) (length (expanded (entries_in count (drop start s)))) q in
        rw ((found s start count h).0, p) (giving.refused EXPANSION (length (expanded (section_entries s))) (expanded (section_entries s)) out (omega arith))

    module _ (k : ℕ) (q : Some k ≡ size_of (entries_in count (drop start s))) where
      pub sized : (all_expand (entries_in count (drop start s)) ≡ true) × (k ≡ length (expanded (entries_in count (drop start s))))
      unfolding size_of
      sized = is_so (all_expand (entries_in count (drop start s))) (length (expanded (entries_in count (drop start s)))) k q

      all : all_expand (section_entries s) ≡ true
      all = ap all_expand (sym entries) ∙ sized.0

      long : k ≡ length (expanded (section_entries s))
      long = sized.1 ∙ ap (λ (es : List Entry). length (expanded es)) entries

      pub too_short : length out < k → given (answer.Refused ROOM) out ≡ expand_into s out
      unfolding expand_into
      too_short r =
          rw ((found s start count h).0, all) (giving.too_short 0 (length (expanded (section_entries s))) (expanded (section_entries s)) out refl (omega (arith, long)))

      pub written : (last : List ℕ) → k ≤ length out → last ≡ sets out 0 (expanded (entries_in count (drop start s))) → given (answer.Done k) last ≡ expand_into s out
      unfolding expand_into
      written last r e =
          ap₂ (λ (n : ℕ) (l : List ℕ). given (answer.Done n) l) long (e ∙ ap (λ (es : List Entry). sets out 0 (expanded es)) entries)
          ∙ rw ((found s start count h).0, all) (giving.laid 0 (length (expanded (section_entries s))) (expanded (section_entries s)) out refl (omega (arith, long)))

-- ---- packets

module _ (b out : List ℕ) where
  abbrev bytes : List ℕ
  bytes = section_bytes (map bare (heard_entries 4096 b))

  pub no_packets : None ≡ spec.count_of b → given (answer.Refused EXPANSION) out ≡ read_into b out
  unfolding read_into spec.count_of
  no_packets q =
      rw (cond_none (all_heard 4096 b) (length (heard_entries 4096 b)) q) (giving.refused EXPANSION (length bytes) bytes out (omega arith))

  module _ (k : ℕ) (q : Some k ≡ spec.count_of b) where
    pub counts : (all_heard 4096 b ≡ true) × (k ≡ length (heard_entries 4096 b))
    unfolding spec.count_of
    counts = is_so (all_heard 4096 b) (length (heard_entries 4096 b)) k q

    whole : 16 * k + 8 ≡ length bytes
    whole = omega (arith, counts.1, section_long b)

    pub no_room : length out < 16 * k + 8 → given (answer.Refused ROOM) out ≡ read_into b out
    unfolding read_into
    no_room r = rw counts.0 (giving.too_short 0 (length bytes) bytes out refl (omega (arith, whole)))

    pub read : (last : List ℕ) → 16 * k + 8 ≤ length out → last ≡ sets out 0 bytes → given (answer.Done (16 * k + 8)) last ≡ read_into b out
    unfolding read_into
    read last r e =
        ap₂ (λ (n : ℕ) (l : List ℕ). given (answer.Done n) l) whole e ∙ rw counts.0 (giving.laid 0 (length bytes) bytes out refl (omega (arith, whole)))
