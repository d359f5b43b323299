-- `transcript::Entry::get` meets its contract: the fields of the 16 bytes are those of their entry.
-- Assumes nothing.
use Prim.Native.Nat.{◌+◌, ◌-◌}
use mathlib.Core.Path.{◌≡◌, ap, ◌∙◌}
use native.Mathlib.Omega.{arith}
use lib.ListN.{length, take, drop, length-take, length-drop}
use Rattle.transcript.proofs.Fitting.{entry_made}
use Rattle.transcript.proofs.Entry.get.Goals as goal

pub returns : goal.returns
returns c =
    let copy = c.copy_from_slice in
    let a = c.args in
    let part = drop a.at a.s.now in
    let wide : a.at + 16 - a.at ≡ 16 = omega arith in
    let room : length part ≡ length a.s.now - a.at = length-drop a.at a.s.now in
    let long : length (take 16 part) ≡ 16 = length-take 16 part ∙ omega arith in
    entry_made (take (a.at + 16 - a.at) part) (take 16 part) c.get.result copy.new.self
    (ap (λ k. take k part) wide) long c.get.ensures.0 copy.ensures.after
