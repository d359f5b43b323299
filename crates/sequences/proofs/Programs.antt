-- The programs of the calls: every step of them passes crate `history`'s test, and how many steps they have. Assumes nothing.
use Prim.Native.Nat.{ℕ, zero, suc, ◌+◌, ◌-◌, ◌*◌, ◌≤◌}
use mathlib.Core.Path.{◌≡◌, refl}
use mathlib.Core.Bool.{Bool, true, false, cond}
use mathlib.Core.List.{List, [], ◌∷◌, ◌++◌}
use native.Mathlib.Omega.{arith}
use borrow.Author.Tests.{leb-true, ne_eqb}
use lib.Dec.{eqb, ltb}
use lib.ListN.{length, get_or, take, drop, length-append, length-map}
use lib.Seq.{sets, length-sets}
use Rattle.std.specs.Prelude.{Option, Some, None}
use Rattle.transcript.specs.Entries.{zeros, zeros8}
use Rattle.board.specs.declared.Path.{Path}
use Rattle.board.specs.declared.Path.TheVariants.{Hf, Vhf, Uhf}
use Rattle.chip.specs.declared.Update.{Update}
use Rattle.chip.specs.Entries.{wait}
use Rattle.chip.specs.Steps.{Step, all_in, while_open, every, in_range, masked, update_step, updates}
use Rattle.chip.specs.Steps.Step.{Close, Plain}
use Rattle.chip.proofs.Laws.{and_left}
use Rattle.pll.specs.declared.Kind.{Kind}
use Rattle.pll.specs.declared.Kind.TheVariants.{R820T, R828D}
use Rattle.pll.specs.declared.Plan.{Plan}
use Rattle.std.specs.Prelude.{Option, Some, None}
use Rattle.tuning.specs.Mux.{mux_updates, pll_updates, range_of}
use Rattle.tuning.specs.Tries.{after_try, again, fine_of, locked, locks_at, power_of, repair_updates, reply_bytes, status_steps, tries_from, try_read}
use Rattle.tuning.specs.Program.{inner_steps, pll_steps, tune_steps}
use Rattle.tuning.proofs.Turns.{pick_every}
use Rattle.writes.specs.Lists.{bandwidth_updates, if_updates, init_array, init_updates, path_updates}
use Rattle.writes.specs.Programs.{init_steps, send_all}
use Rattle.writes.proofs.Lists.{bandwidth_in, if_in, init_in, path_in}
use Rattle.device.specs.Gpio.{bit_steps, output_steps}
use Rattle.board.specs.declared.Plan as board-plan
use Rattle.boards.specs.Hops.{ddc_part, hop_steps, path_part, path_replies}
use Rattle.demod.specs.Programs.{ddc_steps, if_steps, rate_steps, reset_steps}
use Rattle.driver.specs.Programs.{demod_setup, board_path_steps, filter_steps, level_for, sample_rate_steps, tuner_path}
use Rattle.driver.proofs.Lengths.{path_length_r820t, path_length_r828d}
use Rattle.history.specs.Programs.{fine}
use Rattle.history.proofs.Fine.{every_append, every_drop, fine_behind, fine_pointer, fine_read, fine_reload, fine_updates, fine_wait}
use Rattle.sequences.specs.Calls.{is_byte}
use Rattle.sequences.proofs.Beside.{beside_bit, beside_ddc, beside_if, beside_output, beside_rate, beside_reset, fines}

-- ---- masked writes, behind an open repeater

pub fine_bracket : (us : List Update) → all_in us ≡ true → every fine (while_open (updates us)) ≡ true
fine_bracket us h = fine_behind (updates us) (fine_updates us h)

-- ---- initialise

pub fine_init : every fine init_steps ≡ true
fine_init =
    every_append fine (send_all init_array) (while_open (updates init_updates) ++ while_open (updates (if_updates 2_300_000))) (fine_reload init_array)
    (every_append fine (while_open (updates init_updates)) (while_open (updates (if_updates 2_300_000))) (fine_bracket init_updates init_in)
    (fine_bracket (if_updates 2_300_000) (if_in 2_300_000)))

-- ---- a tuning

pick_most : (b : Bool) (xs ys : List Update) (n : ℕ) → length xs ≤ n → length ys ≤ n → length (cond b xs ys) ≤ n
pick_most true xs ys n h k = h
pick_most false xs ys n h k = k

-- the repair is of the record's registers, and one write at most
module _ (kind : Kind) (number byte : ℕ) where
  abbrev down : List Update
  down = masked 0x10 ((number - 1) * 32) 0xe0 ∷ []

  abbrev up : List Update
  up = masked 0x10 ((number + 1) * 32) 0xe0 ∷ []

  repair_in : all_in (repair_updates kind number byte) ≡ true
  unfolding repair_updates every
  repair_in =
      pick_every in_range (ltb (power_of kind) (fine_of byte)) down (cond (ltb (fine_of byte) (power_of kind)) up []) refl
      (pick_every in_range (ltb (fine_of byte) (power_of kind)) up [] refl refl)

  repair_most : length (repair_updates kind number byte) ≤ 1
  unfolding repair_updates
  repair_most =
      pick_most (ltb (power_of kind) (fine_of byte)) down (cond (ltb (fine_of byte) (power_of kind)) up []) 1 (omega arith)
      (pick_most (ltb (fine_of byte) (power_of kind)) up [] 1 (omega arith) (omega arith))

tune_in : (notch : Bool) (hz : ℕ) (p : Plan) → all_in (mux_updates notch (range_of hz) ++ pll_updates p) ≡ true
unfolding every
tune_in notch hz p = refl

mux_in : (notch : Bool) (hz : ℕ) → all_in (mux_updates notch (range_of hz)) ≡ true
unfolding every
mux_in notch hz = refl

again_in : (i : ℕ) → all_in (again i) ≡ true
unfolding every
again_in i = pick_every in_range (eqb i 0) (masked 0x12 0x06 0xff ∷ []) [] refl refl

locked_in_lem : all_in locked ≡ true
unfolding every
locked_in_lem = refl

-- the first of five or of three replies, and the zeros behind them
five_small : (l : List ℕ) → every is_byte l ≡ true → get_or (sets zeros8 0 (take 5 l)) 0 0 ≤ 255
unfolding every
five_small [] h = omega arith
five_small (a ∷ []) h = leb-true a 255 (and_left (is_byte a) true h)
five_small (a ∷ b ∷ []) h = leb-true a 255 (and_left (is_byte a) (every is_byte (b ∷ [])) h)
five_small (a ∷ b ∷ c ∷ []) h = leb-true a 255 (and_left (is_byte a) (every is_byte (b ∷ c ∷ [])) h)
five_small (a ∷ b ∷ c ∷ d ∷ []) h = leb-true a 255 (and_left (is_byte a) (every is_byte (b ∷ c ∷ d ∷ [])) h)
five_small (a ∷ b ∷ c ∷ d ∷ e ∷ l) h = leb-true a 255 (and_left (is_byte a) (every is_byte (b ∷ c ∷ d ∷ e ∷ l)) h)

five_padded : (l : List ℕ) → zeros (drop 5 (sets zeros8 0 (take 5 l))) ≡ true
unfolding zeros
five_padded [] = refl
five_padded (a ∷ []) = refl
five_padded (a ∷ b ∷ []) = refl
five_padded (a ∷ b ∷ c ∷ []) = refl
five_padded (a ∷ b ∷ c ∷ d ∷ []) = refl
five_padded (a ∷ b ∷ c ∷ d ∷ e ∷ l) = refl

three_small : (l : List ℕ) → every is_byte l ≡ true → get_or (sets zeros8 0 (take 3 l)) 0 0 ≤ 255
unfolding every
three_small [] h = omega arith
three_small (a ∷ []) h = leb-true a 255 (and_left (is_byte a) true h)
three_small (a ∷ b ∷ []) h = leb-true a 255 (and_left (is_byte a) (every is_byte (b ∷ [])) h)
three_small (a ∷ b ∷ c ∷ l) h = leb-true a 255 (and_left (is_byte a) (every is_byte (b ∷ c ∷ l)) h)

three_padded : (l : List ℕ) → zeros (drop 3 (sets zeros8 0 (take 3 l))) ≡ true
unfolding zeros
three_padded [] = refl
three_padded (a ∷ []) = refl
three_padded (a ∷ b ∷ []) = refl
three_padded (a ∷ b ∷ c ∷ l) = refl

module _ (address : ℕ) (rs : List ℕ) (small : address ≤ 255) (bytes : every is_byte rs ≡ true) where
  fine_status : every fine (status_steps address rs) ≡ true
  unfolding every reply_bytes
  fine_status =
      rw (
        fine_wait 2 (omega arith),
        fine_pointer address small,
        fine_read address 5 (sets zeros8 0 (take 5 (drop 0 rs))) small (omega arith) (omega arith) (five_small (drop 0 rs) (every_drop is_byte 0 rs bytes))
            (length-sets zeros8 0 (take 5 (drop 0 rs))) (five_padded (drop 0 rs)),
      )

  fine_try : (i : ℕ) → every fine (try_read address rs i) ≡ true
  unfolding every reply_bytes
  fine_try i =
      rw (
        fine_pointer address small,
        fine_read address 3 (sets zeros8 0 (take 3 (drop (5 + 3 * i) rs))) small (omega arith) (omega arith)
            (three_small (drop (5 + 3 * i) rs) (every_drop is_byte (5 + 3 * i) rs bytes)) (length-sets zeros8 0 (take 3 (drop (5 + 3 * i) rs)))
            (three_padded (drop (5 + 3 * i) rs)),
      )

  fine_after : (i : ℕ) → every fine (after_try i) ≡ true
  unfolding every
  fine_after i = every_append fine (updates (again i)) (Plain (wait 1) ∷ []) (fine_updates (again i) (again_in i)) (rw (fine_wait 1 (omega arith)))

  fine_tries : (left i : ℕ) → every fine (tries_from address rs left i) ≡ true
  unfolding tries_from every
  fine_tries zero i = refl
  fine_tries (suc left) i =
      every_append fine (try_read address rs i) (cond (locks_at rs i) (updates locked) (after_try i ++ tries_from address rs left (i + 1))) (fine_try i)
      (pick_every fine (locks_at rs i) (updates locked) (after_try i ++ tries_from address rs left (i + 1)) (fine_updates locked locked_in_lem)
      (every_append fine (after_try i) (tries_from address rs left (i + 1)) (fine_after i) (fine_tries left (i + 1))))

  fine_pll : (kind : Kind) (number : ℕ) → every fine (pll_steps address kind number rs) ≡ true
  fine_pll kind number =
      every_append fine (status_steps address rs) (updates (repair_updates kind number (get_or rs 4 0)) ++ tries_from address rs 10 0) fine_status
      (every_append fine (updates (repair_updates kind number (get_or rs 4 0))) (tries_from address rs 10 0)
      (fine_updates (repair_updates kind number (get_or rs 4 0)) (repair_in kind number (get_or rs 4 0))) (fine_tries 10 0))

  fine_inner : (kind : Kind) (notch : Bool) (plan : Option Plan) (hz : ℕ) → every fine (inner_steps address kind notch plan hz rs) ≡ true
  unfolding inner_steps
  fine_inner kind notch None hz = fine_updates (mux_updates notch (range_of hz)) (mux_in notch hz)
  fine_inner kind notch (Some p) hz =
      every_append fine (updates (mux_updates notch (range_of hz) ++ pll_updates p)) (pll_steps address kind p.number rs)
      (fine_updates (mux_updates notch (range_of hz) ++ pll_updates p) (tune_in notch hz p)) (fine_pll kind p.number)

  pub fine_tune : (kind : Kind) (notch : Bool) (plan : Option Plan) (hz : ℕ) → every fine (tune_steps address kind notch plan hz rs) ≡ true
  fine_tune kind notch plan hz = fine_behind (inner_steps address kind notch plan hz rs) (fine_inner kind notch plan hz)

-- ---- the driver's two

pub fine_rate : (hz rate xtal : ℕ) (inverted : Bool) → every fine (sample_rate_steps hz rate xtal inverted) ≡ true
fine_rate hz rate xtal inverted =
    every_append fine (filter_steps hz rate) (demod_setup hz rate xtal ++ ddc_steps inverted)
    (every_append fine (while_open (updates (if_updates hz))) (while_open (updates (bandwidth_updates rate))) (fine_bracket (if_updates hz) (if_in hz))
    (fine_bracket (bandwidth_updates rate) (bandwidth_in rate)))
    (every_append fine (demod_setup hz rate xtal) (ddc_steps inverted)
    (every_append fine reset_steps (rate_steps rate xtal ++ if_steps hz xtal) (fines reset_steps beside_reset)
    (every_append fine (rate_steps rate xtal) (if_steps hz xtal) (fines (rate_steps rate xtal) (beside_rate rate xtal)) (fines (if_steps hz xtal) (beside_if hz xtal))))
    (fines (ddc_steps inverted) (beside_ddc inverted)))

own_path : (kind : Kind) (path : Path) → every fine (tuner_path kind path) ≡ true
unfolding every
own_path R820T path = refl
own_path R828D path = fine_bracket (path_updates path) (path_in path)

pub fine_board : (kind : Kind) (path : Path) (rs : List ℕ) → every fine (board_path_steps kind path rs) ≡ true
fine_board kind path rs =
    every_append fine (output_steps 5 (get_or rs 0 0) (get_or rs 1 0)) (bit_steps 5 (level_for path) (get_or rs 2 0) ++ tuner_path kind path)
    (fines (output_steps 5 (get_or rs 0 0) (get_or rs 1 0)) (beside_output 5 (get_or rs 0 0) (get_or rs 1 0)))
    (every_append fine (bit_steps 5 (level_for path) (get_or rs 2 0)) (tuner_path kind path)
    (fines (bit_steps 5 (level_for path) (get_or rs 2 0)) (beside_bit 5 (level_for path) (get_or rs 2 0))) (own_path kind path))

-- ---- the board-level tune

no_steps : every fine [] ≡ true
unfolding every
no_steps = refl

fine_path_part : (kind : Kind) (route : Option Path) (rs : List ℕ) → every fine (path_part kind route rs) ≡ true
fine_path_part R820T route rs = no_steps
fine_path_part R828D None rs = no_steps
fine_path_part R828D (Some path) rs = fine_board R828D path rs

fine_ddc_part : (plan : Option Plan) (inverted : Bool) → every fine (ddc_part plan inverted) ≡ true
fine_ddc_part None inverted = no_steps
fine_ddc_part (Some p) inverted = fines (ddc_steps inverted) (beside_ddc inverted)

pub fine_hop : (address : ℕ) (rs : List ℕ) → address ≤ 255 → every is_byte rs ≡ true → (kind : Kind) (p : board-plan.Plan) (plan : Option Plan) → every fine (hop_steps kind address p plan rs) ≡ true
fine_hop address rs small bytes kind p plan =
    let k : ℕ = path_replies kind p.path in
    every_append fine (path_part kind p.path rs) (tune_steps address kind p.notch plan p.hz (drop k rs) ++ ddc_part plan p.inverted) (fine_path_part kind p.path rs)
    (every_append fine (tune_steps address kind p.notch plan p.hz (drop k rs)) (ddc_part plan p.inverted)
    (fine_tune address (drop k rs) small (every_drop is_byte k rs bytes) kind p.notch plan p.hz) (fine_ddc_part plan p.inverted))

-- ---- how many steps

again_length : (i : ℕ) → length (updates (again i)) ≤ 1 - i
again_length zero = omega arith
again_length (suc i) =
    let later : eqb (suc i) 0 ≡ false = ne_eqb (suc i) 0 (λ e. omega arith) in
    rw later (omega arith)

try_length : (address : ℕ) (rs : List ℕ) (left i : ℕ) (deeper : List Step) → length deeper ≤ 3 * left + (1 - (i + 1)) → (b : Bool)
    → length (try_read address rs i ++ cond b (updates locked) (after_try i ++ deeper)) ≤ 3 * suc left + (1 - i)
try_length address rs left i deeper h true = omega arith
try_length address rs left i deeper h false =
    omega (arith, length-append (after_try i) deeper, length-append (updates (again i)) (Plain (wait 1) ∷ []), again_length i, h)

tries_length : (address : ℕ) (rs : List ℕ) (left i : ℕ) → length (tries_from address rs left i) ≤ 3 * left + (1 - i)
unfolding tries_from
tries_length address rs zero i = omega arith
tries_length address rs (suc left) i =
    try_length address rs left i (tries_from address rs left (i + 1)) (tries_length address rs left (i + 1)) (locks_at rs i)

repair_length : (kind : Kind) (number byte : ℕ) → length (updates (repair_updates kind number byte)) ≤ 1
repair_length kind number byte = omega (arith, length-map (repair_updates kind number byte) update_step, repair_most kind number byte)

pll_length : (address : ℕ) (kind : Kind) (number : ℕ) (rs : List ℕ) → length (pll_steps address kind number rs) ≤ 35
pll_length address kind number rs =
    omega (arith, length-append (updates (repair_updates kind number (get_or rs 4 0))) (tries_from address rs 10 0), repair_length kind number (get_or rs 4 0), tries_length address rs 10 0)

inner_length : (address : ℕ) (kind : Kind) (notch : Bool) (plan : Option Plan) (hz : ℕ) (rs : List ℕ) → length (inner_steps address kind notch plan hz rs) ≤ 51
unfolding inner_steps
inner_length address kind notch None hz rs = omega arith
inner_length address kind notch (Some p) hz rs =
    omega (arith, pll_length address kind p.number rs)

-- "tune 53"
pub tune_length : (address : ℕ) (kind : Kind) (notch : Bool) (plan : Option Plan) (hz : ℕ) (rs : List ℕ) → length (tune_steps address kind notch plan hz rs) ≤ 53
tune_length address kind notch plan hz rs =
    omega (arith, length-append (inner_steps address kind notch plan hz rs) (Close ∷ []), inner_length address kind notch plan hz rs)

pub path_length : (path : Path) → length (while_open (updates (path_updates path))) ≡ 4
path_length Hf = refl
path_length Vhf = refl
path_length Uhf = refl

-- "board path 10"; on R820T 6
pub board_length : (kind : Kind) (path : Path) (rs : List ℕ) → length (board_path_steps kind path rs) ≤ 10
board_length R820T path rs = omega (arith, path_length_r820t path rs)
board_length R828D path rs = omega (arith, path_length_r828d path rs)

path_part_length : (kind : Kind) (route : Option Path) (rs : List ℕ) → length (path_part kind route rs) ≤ 10
path_part_length R820T route rs = omega arith
path_part_length R828D None rs = omega arith
path_part_length R828D (Some path) rs = board_length R828D path rs

ddc_part_length : (plan : Option Plan) (inverted : Bool) → length (ddc_part plan inverted) ≤ 1
unfolding ddc_steps
ddc_part_length None inverted = omega arith
ddc_part_length (Some p) inverted = omega arith

-- #113: "of at most 64 entries"
pub hop_length : (kind : Kind) (address : ℕ) (p : board-plan.Plan) (plan : Option Plan) (rs : List ℕ) → length (hop_steps kind address p plan rs) ≤ 64
hop_length kind address p plan rs =
    let tail : List Step = tune_steps address kind p.notch plan p.hz (drop (path_replies kind p.path) rs) in
    omega (
      arith,
      length-append (path_part kind p.path rs) (tail ++ ddc_part plan p.inverted),
      length-append tail (ddc_part plan p.inverted),
      path_part_length kind p.path rs,
      tune_length address kind p.notch plan p.hz (drop (path_replies kind p.path) rs),
      ddc_part_length plan p.inverted,
    )
