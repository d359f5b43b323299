-- `transcript::row_fits` meets its contract: each line of the match has the tests of its line of the table.
-- Assumes nothing.
use Prim.Native.Nat.{◌<◌}
use mathlib.Core.Path.{sym, ap, ◌∙◌}
use mathlib.Core.Bool.{◌&&◌}
use lib.Dec.{leb}
use borrow.Author.Rules.{rules}
use Rattle.transcript.specs.Table.{row_fits, n_low, n_high, outcome_most, target_most, address_most, first_most}
use Rattle.transcript.proofs.Words.{any_byte, any_least, beyond, no_line}
use Rattle.transcript.proofs.row_fits.Goals as goal

pub returns-in-1 : goal.returns-in-1
unfolding row_fits n_low n_high outcome_most target_most address_most first_most
returns-in-1 c =
    let a = c.args in
    sym (ap (λ k. row_fits k a.o a.t a.n a.a a.b) c.in-1.is)

pub returns-in-2 : goal.returns-in-2
unfolding row_fits n_low n_high outcome_most target_most address_most first_most
returns-in-2 c =
    let a = c.args in
    any_byte (leb a.o 1) (leb 1 a.n) (leb a.n 8) (leb a.a 0) a.t a.b (search rules) (search rules)
    ∙ sym (ap (λ k. row_fits k a.o a.t a.n a.a a.b) c.in-2.is)

pub returns-in-3 : goal.returns-in-3
unfolding row_fits n_low n_high outcome_most target_most address_most first_most
returns-in-3 c =
    let a = c.args in
    any_byte (leb a.o 1) (leb 1 a.n) (leb a.n 5) (leb a.a 0) a.t a.b (search rules) (search rules)
    ∙ sym (ap (λ k. row_fits k a.o a.t a.n a.a a.b) c.in-3.is)

pub returns-in-4 : goal.returns-in-4
unfolding row_fits n_low n_high outcome_most target_most address_most first_most
returns-in-4 c =
    let a = c.args in
    any_byte (leb a.o 1) (leb 1 a.n) (leb a.n 1) (leb a.a 65535) a.t a.b (search rules) (search rules)
    ∙ sym (ap (λ k. row_fits k a.o a.t a.n a.a a.b) c.in-4.is)

pub returns-in-5 : goal.returns-in-5
unfolding row_fits n_low n_high outcome_most target_most address_most first_most
returns-in-5 c =
    let a = c.args in
    any_byte (leb a.o 1) (leb 2 a.n) (leb a.n 2) (leb a.a 65535) a.t a.b (search rules) (search rules)
    ∙ sym (ap (λ k. row_fits k a.o a.t a.n a.a a.b) c.in-5.is)

pub returns-in-6 : goal.returns-in-6
unfolding row_fits n_low n_high outcome_most target_most address_most first_most
returns-in-6 c =
    let a = c.args in
    any_byte (leb a.o 1) (leb 1 a.n) (leb a.n 1) (leb a.a 65535) a.t a.b (search rules) (search rules)
    ∙ sym (ap (λ k. row_fits k a.o a.t a.n a.a a.b) c.in-6.is)

pub returns-in-7 : goal.returns-in-7
unfolding row_fits n_low n_high outcome_most target_most address_most first_most
returns-in-7 c =
    let a = c.args in
    any_byte (leb a.o 1) (leb 2 a.n) (leb a.n 2) (leb a.a 65535) a.t a.b (search rules) (search rules)
    ∙ sym (ap (λ k. row_fits k a.o a.t a.n a.a a.b) c.in-7.is)

pub returns-in-8 : goal.returns-in-8
unfolding row_fits n_low n_high outcome_most target_most address_most first_most
returns-in-8 c =
    let a = c.args in
    any_byte (leb a.o 1) (leb 1 a.n) (leb a.n 1) (leb a.a 65535) a.t a.b (search rules) (search rules)
    ∙ sym (ap (λ k. row_fits k a.o a.t a.n a.a a.b) c.in-8.is)

pub returns-in-9 : goal.returns-in-9
unfolding row_fits n_low n_high outcome_most target_most address_most first_most
returns-in-9 c =
    let a = c.args in
    any_least (leb a.o 0 && leb a.t 0) (leb a.n 0) (leb a.a 65535) (leb a.b 0) a.n
    ∙ sym (ap (λ k. row_fits k a.o a.t a.n a.a a.b) c.in-9.is)

pub returns-in_default : goal.returns-in_default
returns-in_default c =
    let a = c.args in
    let k = a.k in
    let r = c.in_default.in_default-own.rest in
    let low : 0 < k → 4 < k = λ some.
    beyond 3 k (beyond 2 k (beyond 1 k (beyond 0 k some r.0.0.0.0.0.0.0.0.1) r.0.0.0.0.0.0.0.1) r.0.0.0.0.0.0.1) r.0.0.0.0.0.1 in
    let high : 4 < k → 9 < k = λ four.
    beyond 8 k (beyond 7 k (beyond 6 k (beyond 5 k (beyond 4 k four r.0.0.0.0.1) r.0.0.0.1) r.0.0.1) r.0.1) r.1 in
    no_line k a.o a.t a.n a.a a.b (λ some. high (low some))
