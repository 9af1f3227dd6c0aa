-- There is room for each line after those before it.
use Rattle.std.proofs.Common.{List, ℕ, [], ◌∷◌, ◌++◌, ◌+◌, ◌≤◌, length, arith, length-append}
use Rattle.text.specs.Decimal.{codes}
use Rattle.lines.specs.Line.{line}
use Rattle.lines.specs.Written.{RoomFor, Writes, Puts}
use Rattle.lines.proofs.WriteLaws.{writes_then}
use Rattle.listed.specs.Inside.{counted_stages, tick_lines, write_count_of, read_count_of, trial_text}
use Rattle.listed.proofs.put_trial.Goals as goal

module _ (n k : ℕ) (s f x : List ℕ) where
  abbrev orders : List ℕ
  orders = line (codes "order") (n ∷ k ∷ [])

  abbrev writes : List ℕ
  writes = line (codes "write") (counted_stages (write_count_of s))

  abbrev reads : List ℕ
  reads = line (codes "read") (counted_stages (read_count_of s))

  abbrev ticks : List ℕ
  ticks = tick_lines k f

  room : RoomFor (trial_text n k s f) 0 x → length orders + length writes + length reads + length ticks ≤ length x
  room fits = omega (arith, fits, length-append orders (writes ++ (reads ++ ticks)), length-append writes (reads ++ ticks), length-append reads ticks)

  -- the first line was written
  ordered : {y : List ℕ} {r : ℕ} → RoomFor (trial_text n k s f) 0 x → Puts orders 0 x y r → Writes orders 0 x y r
  ordered fits puts = puts.written (omega (arith, room fits))

pub put_side-write_end-requires-clause-room_for : goal.put_side-write_end-requires-clause-room_for
unfolding codes
put_side-write_end-requires-clause-room_for c =
    let fits = c.requires.room_for in
    omega (arith, room _ _ c.args.sheet.now c.args.frame.now _ fits, ordered _ _ c.args.sheet.now c.args.frame.now _ fits c.put_line-order_end.ensures)

pub put_side-read_end-requires-clause-room_for : goal.put_side-read_end-requires-clause-room_for
unfolding codes
put_side-read_end-requires-clause-room_for c =
    let fits = c.requires.room_for in
    omega (arith, room _ _ c.args.sheet.now c.args.frame.now _ fits, ordered _ _ c.args.sheet.now c.args.frame.now _ fits c.put_line-order_end.ensures)

pub put_ticks-requires-clause-room_for : goal.put_ticks-requires-clause-room_for
unfolding codes
put_ticks-requires-clause-room_for c =
    let fits = c.requires.room_for in
    omega (arith, room _ _ c.args.sheet.now c.args.frame.now _ fits, ordered _ _ c.args.sheet.now c.args.frame.now _ fits c.put_line-order_end.ensures)

pub returns : goal.returns
unfolding codes
returns c =
    writes_then (ordered _ _ c.args.sheet.now c.args.frame.now _ c.requires.room_for c.put_line-order_end.ensures)
    (writes_then c.put_side-write_end.ensures (writes_then c.put_side-read_end.ensures c.put_ticks.ensures))
