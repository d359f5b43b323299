-- The header's rule, for every call: "What step i is depends on the outcomes and replies before it alone"; and what a host that goes by it has. Assumes nothing.
use Prim.Native.Nat.{ℕ}
use mathlib.Core.Path.{◌≡◌, refl, ap}
use mathlib.Core.Bool.{true}
use mathlib.Core.List.{List, []}
use native.Mathlib.Omega.{arith}
use lib.ListN.{length, take}
use Rattle.device.specs.Calls.{no_chip}
use Rattle.device.specs.Gpio.Order.{Output, Bit}
use Rattle.r82xx.specs.declared.Tuner.{Tuner}
use Rattle.r82xx.specs.Orders as tuner
use Rattle.r82xx.specs.Orders.Order.{Initialize, Reload, Bandwidth, IfFreq, Gain, GainIndex, InputPath, Tune, Notch, GainTold, IfTold, TableTold}
use Rattle.sequences.specs.Asides.{Other, aside_row}
use Rattle.sequences.specs.Asides.Other.{Pin, Demod}
use Rattle.sequences.specs.Calls.{Order, row_of, sound_for}
use Rattle.sequences.specs.Calls.Order.{Tuned, SampleRate, Correction, BoardPath, BoardTune}
use Rattle.rounds.specs.Scripts.{Agree, Ask, InOrder, Same, Script, Sized, made, order_with, other_with, refusal, took, tuner_with}
use Rattle.rounds.specs.Scripts.Ask.{On, Beside}
use Rattle.rounds.proofs.Rows.{order_kin, other_kin, rows_alike, rows_order, rows_refused}

-- whether the records are in their ranges has nothing to do with replies
pub sound_alike : (qs ps : List ℕ) (o : Order) (t : Tuner) → sound_for (order_with qs o) t ≡ sound_for (order_with ps o) t
sound_alike qs ps (Tuned o) t = refl
sound_alike qs ps (SampleRate rate table d) t = refl
sound_alike qs ps (Correction ppm d) t = refl
sound_alike qs ps (BoardPath path own) t = refl
sound_alike qs ps (BoardTune hz table own d) t = refl

-- "which step is entry i, and whether there is one, depends only on the outcomes below i and on the replies that the reads below i took"
pub depends_on_before : (a : Ask) (i : ℕ) (s u : Script) → Agree a i (took (take i (made a s))) s u → Same i (made a s) (made a u)
depends_on_before (On o t) i s u g =
    let k : ℕ = took (take i (made (On o t) s)) in
    rows_alike s.outcomes u.outcomes i k s.replies u.replies g.outcomes t.chip Tuner (row_of (order_with s.replies o) t) (row_of (order_with u.replies o) t)
    (order_kin k s.replies u.replies g.replies o t) (sound_for (order_with s.replies o) t) (sound_for (order_with u.replies o) t)
    (length s.outcomes) (length u.outcomes) (length s.room) (length u.room) g.refused (omega arith)
depends_on_before (Beside o) i s u g =
    let k : ℕ = took (take i (made (Beside o) s)) in
    rows_alike s.outcomes u.outcomes i k s.replies u.replies g.outcomes no_chip (Unit {0}) (aside_row (other_with s.replies o)) (aside_row (other_with u.replies o))
    (other_kin k s.replies u.replies g.replies o) true true
    (length s.outcomes) (length u.outcomes) (length s.room) (length u.room) g.refused (omega arith)

-- scripts that are equally long are refused alike: so of two of them nothing else is asked
pub refused_alike : (a : Ask) (s u : Script) → Sized s u → refusal a s ≡ refusal a u
refused_alike (On o t) s u h =
    rows_refused 0 s.replies u.replies Tuner (row_of (order_with s.replies o) t) (row_of (order_with u.replies o) t)
    (order_kin 0 s.replies u.replies refl o t)
    (sound_for (order_with s.replies o) t) (sound_for (order_with u.replies o) t) (sound_alike s.replies u.replies o t)
    (length s.outcomes) (length u.outcomes) h.outcomes (length s.room) (length u.room) h.room h.replies
refused_alike (Beside o) s u h =
    rows_refused 0 s.replies u.replies (Unit {0}) (aside_row (other_with s.replies o)) (aside_row (other_with u.replies o))
    (other_kin 0 s.replies u.replies refl o) true true refl
    (length s.outcomes) (length u.outcomes) h.outcomes (length s.room) (length u.room) h.room h.replies

-- "reply bytes in order of reading": the data of each read are the next replies
pub in_order : (a : Ask) (s : Script) → InOrder s.replies 0 (made a s)
in_order (On o t) s =
    let k : ℕ = took (made (On o t) s) in
    let row = row_of (order_with s.replies o) t in
    rows_order s.outcomes k s.replies s.replies t.chip Tuner row row (order_kin k s.replies s.replies refl o t) (sound_for (order_with s.replies o) t)
    (length s.room) (omega arith)
in_order (Beside o) s =
    let k : ℕ = took (made (Beside o) s) in
    let row = aside_row (other_with s.replies o) in
    rows_order s.outcomes k s.replies s.replies no_chip (Unit {0}) row row (other_kin k s.replies s.replies refl o) true (length s.room) (omega arith)

-- ---- and that is every call: each has a script with its own replies

own_tuner : (o : tuner.Order) → (rs : List ℕ) × (tuner_with rs o ≡ o)
own_tuner Initialize = ([], refl)
own_tuner Reload = ([], refl)
own_tuner (Bandwidth hz) = ([], refl)
own_tuner (IfFreq hz) = ([], refl)
own_tuner (Gain db) = ([], refl)
own_tuner (GainIndex k) = ([], refl)
own_tuner (InputPath path) = ([], refl)
own_tuner (Tune hz rs) = (rs, refl)
own_tuner (Notch on) = ([], refl)
own_tuner GainTold = ([], refl)
own_tuner IfTold = ([], refl)
own_tuner TableTold = ([], refl)

pub own_replies : (o : Order) → (rs : List ℕ) × (order_with rs o ≡ o)
own_replies (Tuned o) = ((own_tuner o).0, ap Tuned (own_tuner o).1)
own_replies (SampleRate rate table d) = ([], refl)
own_replies (Correction ppm d) = ([], refl)
own_replies (BoardPath path rs) = (rs, refl)
own_replies (BoardTune hz table rs d) = (rs, refl)

pub own_aside : (o : Other) → (rs : List ℕ) × (other_with rs o ≡ o)
own_aside (Pin (Output pin rs)) = (rs, refl)
own_aside (Pin (Bit pin value rs)) = (rs, refl)
own_aside (Demod o) = ([], refl)
