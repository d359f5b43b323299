-- `stream::gather` meets its contract: bytes that are none of a stream, or both copies one behind the other. Assumes nothing.
use mathlib.Core.Path.{◌≡◌, ap, ◌∙◌}
use native.Mathlib.Omega.{arith}
use Prim.Native.Nat.{◌+◌, ◌≤◌}
use lib.ListN.{length, length-take, take}
use lib.Seq.{length-sets}
use Rattle.stream.proofs.Laws.{all_gathered, at_most_eight, nine_bytes, none_gathered, part_length, used_bounds}
use Rattle.stream.proofs.gather.Goals as goal

pub returns-in_err-held : goal.returns-in_err-held
returns-in_err-held c = c.from_residual.ensures ∙ none_gathered c.args.stream.now c.args.chunk.now c.in_err-held.ensures

pub overflow_sub-held : goal.overflow_sub-held
overflow_sub-held c = omega (arith, at_most_eight c.args.stream.now c.args.chunk.now _ c.in_ok-held.ensures)

pub overflow_add-held : goal.overflow_add-held
overflow_add-held c = omega (arith, at_most_eight c.args.stream.now c.args.chunk.now _ c.in_ok-held.ensures)

pub slice_bounds-copy-end-2 : goal.slice_bounds-copy-end-2
slice_bounds-copy-end-2 c =
    let b = c.args.stream.now in
    let chunk = c.args.chunk.now in
    omega (arith, at_most_eight b chunk _ c.in_ok-held.ensures, nine_bytes b chunk _ c.in_ok-held.ensures)

pub copy-requires : goal.copy-requires
copy-requires c = simp length-take (omega (arith, at_most_eight c.args.stream.now c.args.chunk.now _ c.in_ok-held.ensures))

pub copy-requires-2 : goal.copy-requires-2
copy-requires-2 c =
    let b = c.args.stream.now in
    let chunk = c.args.chunk.now in
    let read = c.in_ok-held.ensures in
    let u : c.in_ok-held.held + c.min-used.result ≤ 9 = (used_bounds b chunk _ read _ c.min-used.ensures).1 in
    let k : length (take c.min-used.result chunk) ≡ c.min-used.result = part_length b chunk _ read _ c.min-used.ensures in
    let n : length c.copy.new.dst ≡ 9 = ap length c.copy.ensures ∙ simp length-sets in
    omega arith

pub returns : goal.returns
returns c = all_gathered c.args.stream.now c.args.chunk.now _ c.in_ok-held.ensures _ c.min-used.ensures _ _ c.copy.ensures c.copy-2.ensures
