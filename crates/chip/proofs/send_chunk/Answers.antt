-- `chip::send_chunk` meets its contract. Each return is one law of the definition, with what the calls before it ensure. Assumes nothing.
use Rattle.chip.proofs.Laws.{by_bytes}
use Rattle.std.proofs.Common.{◌≡◌, ℕ, ◌+◌, ◌≤◌, List, get_or, ap, ◌∙◌, arith, rules}
use Rattle.chip.specs.InCode.{in_room}
use Rattle.chip.proofs.Chunks.{some, seven, inside, first_register}
use Rattle.chip.proofs.send_chunk.Goals as goal

pub send-requires : goal.send-requires
send-requires c =
    let chunk_bytes_lem = c.chunk_bytes-bytes in
    let args = c.args in
    let pre = c.requires in
    let k = args.k in
    let s : 1 ≤ k.size = some k pre.0 in
    let t : k.size ≤ 7 = seven k pre.0 in
    let u : k.at + k.size ≤ 27 = inside k pre.0 in
    let r : get_or chunk_bytes_lem.result 0 0 ≡ 5 + k.at = ap (λ (l : List ℕ). get_or l 0 0) chunk_bytes_lem.ensures ∙ first_register _ _ _ in omega arith
