-- The file that a host appended its sections to reads back as the entries of its calls, in order: what `pasetone_restore` and `pasetone_evidence` read is what
-- was sent. Assumes nothing.
use Prim.Native.Nat.{ℕ, ◌+◌, ◌*◌, ◌%◌, ◌≤◌, ◌<◌}
use mathlib.Core.Path.{◌≡◌, refl, sym, ap, subst, ◌∙◌}
use mathlib.Core.Bool.{Bool, true, false, cond}
use mathlib.Core.List.{List, [], ◌++◌, append-nil}
use native.Mathlib.Omega.{arith}
use borrow.Author.Tests.{eqb-false}
use lib.Dec.{eqb}
use lib.ListN.{length, take}
use Rattle.transcript.specs.declared.Entry.{Entry}
use Rattle.transcript.specs.Sections.{Parted, section_bytes}
use Rattle.sections.specs.Chain.{chain, chain_entries}
use Rattle.sections.proofs.Exact.{entries_more, one_more}
use Rattle.sections.proofs.Walk.{chain_empty, entries_empty}
use Rattle.device.specs.Calls.{no_chip}
use Rattle.reply.specs.declared.Reply.{Reply}
use Rattle.reply.specs.Replies.{call_reply}
use Rattle.sequences.specs.Asides.{Aside, aside_asked, aside_entries, aside_given, aside_result}
use Rattle.sequences.proofs.Asides.{aside_stepping}
use Rattle.sequences.proofs.Demand as sequence
use Rattle.sequences.proofs.Ties.{entries_most}
use Rattle.carried.specs.Carried.{Carried}
use Rattle.carried.specs.Carried.Carried.{fresh as first, next as more, between as aside}
use Rattle.carried.specs.Exported.{aside_entries_of, leaves, read_by}
use Rattle.carried.specs.Night.{Night, appended}
use Rattle.carried.specs.Night.Night.{fresh, next, between}
use Rattle.carried.proofs.Demand.{aside_entries_lem, section_read}

-- it is the same sequence
pub night_carried : (b : List ℕ) (es : List Entry) (file : List ℕ) → Night b es file → Carried b es
night_carried b es file (fresh kind address nominal out small h) = first kind address nominal out small h
night_carried b es file (next c xs old n k h) = more c xs (night_carried c xs old n) k h
night_carried b es file (between c xs old n a g) = aside c xs (night_carried c xs old n) a g

abbrev pub Reads : List ℕ → List Entry → Type 0
Reads file es = (chain file ≡ true) × (chain_entries file ≡ es)

-- one section more, or none
reads_more : (file : List ℕ) (es : List Entry) → Reads file es → (r : Reply) (room : List ℕ)
    → (0 < r.count → Parted (take (16 * r.count + 8) room) [] (read_by r room)) → Reads (file ++ appended r room) (es ++ read_by r room)
reads_more file es p r room parted = go (eqb r.count 0) refl
  where
    go : (b : Bool) → eqb r.count 0 ≡ b → Reads (file ++ appended r room) (es ++ read_by r room)
    go true e = rw (e, append-nil file, append-nil es) p
    go false e =
        let some : 0 < r.count = omega (arith, eqb-false r.count 0 e) in
        let q = parted some in
        let fs : List Entry = read_by r room in
        let is : appended r room ≡ section_bytes fs = ap (λ (z : Bool). cond z [] (take (16 * r.count + 8) room)) e ∙ q.whole in
        rw is (one_more file fs q.fit q.most p.0, entries_more file fs q.fit q.most ∙ ap (λ (l : List Entry). l ++ fs) p.1)

-- a call that takes no record
aside_parted : (a : Aside) → aside_given a.other ≡ true → 0 < (call_reply (aside_result a)).count
    → Parted (take (16 * (call_reply (aside_result a)).count + 8) (aside_result a).room) [] (aside_entries_of a)
aside_parted a g some =
    let most : length (aside_entries a) ≤ 4096 = entries_most 4096 a.outcomes (aside_asked a) no_chip (aside_stepping a g).few in
    let whole : (aside_result a).count % 4_294_967_296 ≡ (aside_result a).count = omega (arith, sequence.aside_count a g, most) in
    let more-than : 0 < (aside_result a).count = omega (arith, some, whole) in
    subst (Parted (take (16 * (call_reply (aside_result a)).count + 8) (aside_result a).room) []) (sym (aside_entries_lem a g))
    (subst (λ (n : ℕ). Parted (take (16 * n + 8) (aside_result a).room) [] (aside_entries a)) (sym whole) (sequence.aside_read a g more-than))

-- any night: the file is sections end to end, and their entries are those that the host read, oldest first
pub night_read : (b : List ℕ) (es : List Entry) (file : List ℕ) → Night b es file → Reads file es
night_read b es file (fresh kind address nominal out small h) = (chain_empty [] refl, entries_empty [] refl)
night_read b es file (next c xs old n k h) =
    reads_more old xs (night_read c xs old n) (leaves k c).reply (leaves k c).room (section_read c xs (night_carried c xs old n) k h)
night_read b es file (between c xs old n a g) = reads_more old xs (night_read c xs old n) (call_reply (aside_result a)) (aside_result a).room (aside_parted a g)
