-- A host's loop over the exported call is the feeding of the definition, and so the cuts of the line can't be seen. Document 02, #105.
-- Assumes nothing.
use Prim.Native.Nat.{ℕ, zero, suc, ◌≤◌}
use mathlib.Core.Path.{◌≡◌, refl, sym, ap, ◌∙◌}
use mathlib.Core.Bool.{Bool, true, false, cond}
use mathlib.Core.List.{List, [], ◌∷◌}
use native.Mathlib.Omega.{arith}
use native.Mathlib.Nat.{add-zero}
use lib.Dec.{eqb}
use Rattle.drivers.specs.Drivers.{Hops}
use Rattle.stream.specs.Commands.{command_of}
use lib.ListN.{drop, length}
use Rattle.wire.specs.Parts.{joined}
use Rattle.stream.specs.Feeding.{Fed, Ran, call_once, calls, completed, feed, waiting}
use Rattle.stream.specs.Pending.{gathered, stream_bytes, used_by}
use Rattle.stream.proofs.Cuts.{counted, feed_append, host_loop, still_less}
use Rattle.stream.proofs.Images.{back, kept}
use Rattle.commands.specs.Over.{Feeds, completed_by, feed_over, gotten_over, run_over, waiting_by}
use Rattle.commands.specs.Lines.{Lends, Records, CommandResult, after_call, exec_by, feeds_of, host_calls, host_feeds, line_of}

module _ (table : List ℕ) (lends : ℕ → Lends) where
  abbrev exec : ℕ → List ℕ → Records → Ran Records CommandResult
  exec = exec_by table lends

  -- the exported call on the bytes of a stream that waits so
  call_by : (chunk : List ℕ) (w : Fed Records CommandResult) → length w.pending ≤ 8
      → feeds_of table lends chunk (line_of w)
      ≡ gotten_over (used_by w.pending chunk) (gathered w.pending chunk) table (lends w.number).replies (lends w.number).outcomes w.state.driver
      w.state.tuner (lends w.number).room
  unfolding feed_over
  call_by chunk w h =
      rw (kept w.pending h)
      (ap
      (λ (p : List ℕ). gotten_over (used_by p chunk) (gathered p chunk) table (lends w.number).replies (lends w.number).outcomes w.state.driver
      w.state.tuner (lends w.number).room) (back w.pending))

  -- one call leaves the line as one call of the definition does, and uses as much of the chunk
  same_call : (chunk : List ℕ) (w : Fed Records CommandResult) → length w.pending ≤ 8
      → (after_call (feeds_of table lends chunk (line_of w)) (line_of w) ≡ line_of (call_once exec chunk w)) × ((feeds_of table lends chunk (line_of w)).answer.used ≡ used_by w.pending chunk)
  unfolding call_once exec_by
  same_call chunk w h = (
    ap (λ (f : Feeds). after_call f (line_of w)) (call_by chunk w h) ∙ (go (eqb (length (gathered w.pending chunk)) 9)).0,
    ap (λ (f : Feeds). f.answer.used) (call_by chunk w h) ∙ (go (eqb (length (gathered w.pending chunk)) 9)).1,
  )
    where
      bytes : List ℕ
      bytes = gathered w.pending chunk

      u : ℕ
      u = used_by w.pending chunk

      l : Lends
      l = lends w.number

      ran : Hops
      ran = run_over (command_of bytes) table l.replies l.outcomes w.state.driver w.state.tuner l.room

      still : Feeds
      still = waiting_by u bytes w.state.driver w.state.tuner l.room

      go : (b : Bool)
          → (after_call (cond b (completed_by u ran) still) (line_of w) ≡ line_of (cond b (completed exec bytes w) (waiting exec bytes w)))
          × ((cond b (completed_by u ran) still).answer.used ≡ u)
      go true = (refl, refl)
      go false = (ap (λ (n : ℕ). record { stream = stream_bytes bytes; records = w.state; number = n; told = w.told }) (add-zero w.number), refl)

  -- "Feeding the stream in any cuts": one chunk, by as many calls as it takes
  pub one_chunk : (turns : ℕ) (chunk : List ℕ) (w : Fed Records CommandResult) → length w.pending ≤ 8 → host_calls table lends turns chunk (line_of w) ≡ line_of (calls exec turns chunk w)
  unfolding host_calls calls
  one_chunk zero chunk w h = refl
  one_chunk (suc turns) chunk w h =
      let s = same_call chunk w h in
      let again : host_calls table lends turns (drop (used_by w.pending chunk) chunk) (line_of (call_once exec chunk w)) ≡ line_of (calls exec turns (drop (used_by w.pending chunk) chunk) (call_once exec chunk w)) =
      one_chunk turns (drop (used_by w.pending chunk) chunk) (call_once exec chunk w) (still_less exec chunk w h) in
      go (eqb (length chunk) 0)
      ((λ i. host_calls table lends turns (drop (s.1 i) chunk) (s.0 i)) ∙ again)
    where
      go : (b : Bool)
          → host_calls table lends turns (drop (feeds_of table lends chunk (line_of w)).answer.used chunk)
          (after_call (feeds_of table lends chunk (line_of w)) (line_of w))
          ≡ line_of (calls exec turns (drop (used_by w.pending chunk) chunk) (call_once exec chunk w))
          → cond b (line_of w) (host_calls table lends turns (drop (feeds_of table lends chunk (line_of w)).answer.used chunk) (after_call (feeds_of table lends chunk (line_of w)) (line_of w)))
          ≡ line_of (cond b w (calls exec turns (drop (used_by w.pending chunk) chunk) (call_once exec chunk w)))
      go true e = refl
      go false e = e

  -- the host's loop, chunk by chunk, is the feeding of all bytes end to end
  pub any_cuts : (cs : List (List ℕ)) (w : Fed Records CommandResult) → length w.pending ≤ 8 → host_feeds table lends cs (line_of w) ≡ line_of (feed exec (joined cs) w)
  unfolding host_feeds joined feed
  any_cuts [] w h = refl
  any_cuts (c ∷ cs) w h =
      let one : host_calls table lends (length c) c (line_of w) ≡ line_of (feed exec c w) =
      one_chunk (length c) c w h ∙ ap line_of (host_loop exec (length c) c w h (omega arith)) in
      ap (host_feeds table lends cs) one
      ∙ any_cuts cs (feed exec c w) (counted exec c w h).few
      ∙ ap line_of (sym (feed_append exec c (joined cs) w))

  -- so any two ways to cut the same bytes leave the same stream, records, answers and transcripts
  pub cuts_agree : (cs ds : List (List ℕ)) (w : Fed Records CommandResult) → length w.pending ≤ 8 → joined cs ≡ joined ds → host_feeds table lends cs (line_of w) ≡ host_feeds table lends ds (line_of w)
  cuts_agree cs ds w h e = any_cuts cs w h ∙ ap (λ (bs : List ℕ). line_of (feed exec bs w)) e ∙ sym (any_cuts ds w h)
