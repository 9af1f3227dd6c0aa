-- The memory is the first 2^(n+1) places of two arrays of zeros.
use Rattle.std.proofs.Common.{ℕ, ◌≡◌, ◌+◌, ◌-◌, ◌*◌, ◌^◌, ◌≤◌, List, length, take, replicate, sym, ap, ◌∙◌, arith, pow_mono, pow-add, take_at}
use lib.ListN.{length-replicate, replicate-append-replicate}
use lib.Seq.{length-take-le}
use Rattle.kinds.proofs.FrameLaws.{in_order_length}
use Rattle.trial.specs.Inside.{Numbered, Entering}
use Rattle.trial.proofs.run_frame.Goals as goal

zeros_part : (m l : ℕ) → m ≤ l → ◌≡◌ {A = List ℕ} (take m (replicate l 0)) (replicate m 0)
zeros_part m l h =
    let whole : m + (l - m) ≡ l = omega arith in
    ap (λ (x : ℕ). take m (replicate x 0)) (sym whole) ∙ ap (take m) (sym (replicate-append-replicate m (l - m) 0)) ∙ take_at (replicate m 0) _ m (length-replicate m 0)

module _ {n k : ℕ} {s f : List ℕ} (numbered : Numbered n k s f) where
  abbrev room : ℕ
  room = 2 * length f

  abbrev zeros : List ℕ
  zeros = replicate 2048 0

  count : length f ≡ 2 ^ n
  count = ap length numbered.words ∙ in_order_length (2 ^ n) _

  ports_few : 2 ^ k ≤ 32
  ports_few = pow_mono {i = k} {j = 5} (omega (arith, numbered.runnable.sized.most))

  places : room ≡ 2 ^ (n + 1)
  places = omega (arith, count, pow-add 2 n 1)

  places_few : room ≤ 2048
  places_few = omega (arith, places, pow_mono {i = n + 1} {j = 11} (omega (arith, numbered.runnable.sized.frame.most)))

  half : room ≡ length (take room zeros)
  half = sym (length-take-le room zeros places_few)

  entering : {p : ℕ} → p ≡ 2 ^ k → Entering n k s f (take p (replicate 32 0)) (take room zeros) (take room zeros)
  entering {p} wide =
      let none = zeros_part room 2048 places_few ∙ ap (λ (m : ℕ). replicate m 0) places in
      record { numbered = numbered; room = length-take-le p (replicate 32 0) (omega (arith, wide, ports_few)) ∙ wide; words = none; marks = none }

pub slice_bounds-words-end : goal.slice_bounds-words-end
slice_bounds-words-end c = places_few c.requires

pub slice_bounds-words-end-2 : goal.slice_bounds-words-end-2
slice_bounds-words-end-2 c = half c.requires

pub slice_bounds-marks-end : goal.slice_bounds-marks-end
slice_bounds-marks-end c = places_few c.requires

pub slice_bounds-marks-end-2 : goal.slice_bounds-marks-end-2
slice_bounds-marks-end-2 c = half c.requires

pub slice_bounds-out-end : goal.slice_bounds-out-end
slice_bounds-out-end c = omega (arith, c.ports-ports.ensures, ports_few c.requires)

pub slice_bounds-take_in-end : goal.slice_bounds-take_in-end
slice_bounds-take_in-end c = sym (length-take-le c.ports-ports.result (replicate 32 0) (omega (arith, c.ports-ports.ensures, ports_few c.requires)))

pub take_in-state-requires : goal.take_in-state-requires
take_in-state-requires c = entering c.requires c.ports-ports.ensures

pub hand_out-requires : goal.hand_out-requires
hand_out-requires c = record { runnable = c.requires.runnable; entered = c.take_in-state.ensures; room = count c.requires }
