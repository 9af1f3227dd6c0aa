-- What the functions inside the crate promise one another.
--   stands_at n k s j            where the run of the sheet s stands before call j of the trial
--   leaves_in n k s j            what it hands out in call j
--   frame_handed n k s           all that it hands out in the blank ticks, place by place
--   Here n k s j st ws ms       the run stands there in the state st, with the words ws and the marks ms
--   Runnable n k s              sizes are sound, and s is planned for an order
--   Numbered n k s f            and f is words 0 to 2^n - 1
--   Entering n k s f out ws ms  and there is room for a tick, and the memory is zeros
--   Leaving n k s st f ws ms    the sheet is runnable, the frame has come in, and f has room for it
use Rattle.std.specs.Prelude.{ℕ, ◌+◌, ◌^◌, ◌≡◌, List, length, get_or, replicate}
use Rattle.kinds.specs.Edition.{edition1, Sized}
use Rattle.kinds.specs.Frame.{ticks, tick_of, port_of, in_order}
use Rattle.order.specs.Order.{Order}
use Rattle.state.specs.declared.State.{State}
use Rattle.promise.specs.Run.{Stand}
use Rattle.promise.specs.Answered.{fresh_stand, stands, outcome_at, called_on}
use Rattle.construction.specs.Planned.{IsPlanned}
use Rattle.trial.specs.Trial.{trial_calls}

abbrev pub stands_at : ℕ → ℕ → List ℕ → ℕ → Stand
stands_at n k s = stands (called_on edition1 n k s (trial_calls n k)) (fresh_stand n k)

abbrev pub leaves_in : ℕ → ℕ → List ℕ → ℕ → List ℕ
leaves_in n k s j = (outcome_at (called_on edition1 n k s (trial_calls n k)) (fresh_stand n k) j).leaving

abbrev pub frame_handed : ℕ → ℕ → List ℕ → List ℕ
frame_handed n k s = in_order (2 ^ n) (λ q. get_or (leaves_in n k s (ticks n k + tick_of k q)) (port_of k q) 0)

pub record Here (n k : ℕ) (s : List ℕ) (j : ℕ) (st : State) (ws ms : List ℕ) : Type 0 where
  pub stands : ◌≡◌ {A = Stand} (record { state = st; memory = record { words = ws; marks = ms } }) (stands_at n k s j)

pub record Runnable (n k : ℕ) (s : List ℕ) : Type 0 where
  pub sized : Sized edition1 n k
  pub columns : List ℕ
  pub order : Order n columns
  pub planned : IsPlanned edition1 n k columns s

pub record Numbered (n k : ℕ) (s f : List ℕ) : Type 0 where
  pub runnable : Runnable n k s
  pub words : f ≡ in_order (2 ^ n) (λ i. i)

pub record Entering (n k : ℕ) (s f out ws ms : List ℕ) : Type 0 where
  pub numbered : Numbered n k s f
  pub room : length out ≡ 2 ^ k
  pub words : ws ≡ replicate (2 ^ (n + 1)) 0
  pub marks : ms ≡ replicate (2 ^ (n + 1)) 0

pub record Leaving (n k : ℕ) (s : List ℕ) (st : State) (f ws ms : List ℕ) : Type 0 where
  pub runnable : Runnable n k s
  pub entered : Here n k s (ticks n k) st ws ms
  pub room : length f ≡ 2 ^ n
