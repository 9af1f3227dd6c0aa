-- Where a run starts.
--   fresh_any          whatever words of 32 bits the memory holds, a run with zero marks, nothing coming in, half 0 and an idle reader is fresh
--   fresh_possible     a fresh run's state is possible
--   fresh_clock        and its clock idle
--   is_fresh           the fresh stand over zeros is one
use Prim.Native.Nat.{ℕ, ◌+◌, ◌^◌}
use mathlib.Core.Path.{◌≡◌, refl, ap₂}
use mathlib.Core.List.{List}
use native.Mathlib.Omega.{arith}
use lib.ListN.{length, replicate, length-replicate, get_or-replicate}
use lib.Pow.{pow_pos}
use Rattle.kinds.specs.Frame.{tick_bits, ticks}
use Rattle.bits.specs.Image.{AllBelow}
use Rattle.sheet.specs.Layout.{AllZero}
use Rattle.state.specs.States.{clock_of, Possible}
use Rattle.memory.specs.Memory.{Memory}
use Rattle.promise.specs.Run.{Stand, Fresh}
use Rattle.promise.specs.Answered.{fresh_stand}

pub fresh_any : {n k : ℕ} (m : Memory) → length m.words ≡ 2 ^ (n + 1) → AllBelow (2 ^ 32) m.words → length m.marks ≡ 2 ^ (n + 1) → AllZero m.marks
    → Fresh n k (record { state = record { a = 0; h = 0; r = ticks n k }; memory = m })
fresh_any m lent words marks zeros = record {
  words_lent = lent;
  words = words;
  marks_lent = marks;
  marks_zero = zeros;
  nothing_coming = refl;
  half = refl;
  idle = refl;
}

module _ {n k : ℕ} {x : Stand} (fresh : Fresh n k x) where
  pub fresh_possible : Possible (ticks n k) x.state
  fresh_possible = omega (arith, fresh.nothing_coming, fresh.half, fresh.idle, pow_pos (tick_bits n k))

  pub fresh_clock : clock_of x.state ≡ record { a = 0; r = ticks n k }
  fresh_clock = ap₂ (λ (a r : ℕ). record { a = a; r = r }) fresh.nothing_coming fresh.idle

pub is_fresh : (n k : ℕ) → Fresh n k (fresh_stand n k)
is_fresh n k =
    let zeros : List ℕ = replicate (2 ^ (n + 1)) 0 in
    fresh_any (record { words = zeros; marks = zeros }) long (λ j h. rw (all_zero j h) (omega arith)) long all_zero
  where
    long : length (replicate {A = ℕ} (2 ^ (n + 1)) 0) ≡ 2 ^ (n + 1)
    long = length-replicate (2 ^ (n + 1)) 0

    all_zero : AllZero (replicate (2 ^ (n + 1)) 0)
    all_zero j h = get_or-replicate (2 ^ (n + 1)) j 0 0 (rw long at h)
