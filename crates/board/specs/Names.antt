-- The tools under C names: each answers, as a number of 01's table, what the tool answers.
--   outside_sizes e n k     what comes before 2 where a tool takes n and k: 1
--   outside_n e n           the same where it takes no k
--   state_in l              the state in the places l: a, h, r
--   state_out st            the places of the state st
--   said_after a l          the places l after the run answered a. Done: the first is 1 if a tick was handed out, else 0, and the others keep their content. Refused: as after any refusal
--   Reports a st st' l l' r     what C is told of the run's answer a: its number r, the state st', and the places l'
--   Buffers                what C lends the run to write in: the places of the state, the memory, the out buffer, and the places for what is said
--   lent_in ws b            what the run is lent, where the words ws come
--   RunsAs e n k s ws b b' r    the run: where the words ws come, the buffers b become b', and r is the number of the answer
--   sums_after a l          the places l after the price tool answered a: the three sums; on a refusal, as they came
--   PricesAs e n k s l l' r     the price: the places l become l', and r is the number of the answer
--   ListsAs e b t t' l l' s s' r   the listing: the text t, the place l for its length and the places s become t', l' and s', and r is the number of the answer
use Rattle.std.specs.Prelude.{ℕ, ◌≡◌, cond, List, [], ◌∷◌, length, get_or, drop, Result, Ok, Err}
use Rattle.std.proofs.Math.Option.{some}
use Rattle.kinds.specs.Edition.{Edition, SizedN, Sized}
use Rattle.kinds.specs.Decisions.{sized_n?, sized?}
use Rattle.kinds.specs.First.{Reason}
use Rattle.kinds.specs.Reasons.{outside}
use Rattle.kinds.specs.Lengths.{exactly}
use Rattle.kinds.specs.Refusal.{said, given}
use Rattle.kinds.specs.declared.Refusal.{Refusal}
use Rattle.price.specs.Price.{Prices, sums_of}
use Rattle.price.specs.declared.Sums.{Sums}
use Rattle.memory.specs.Memory.{Memory}
use Rattle.state.specs.declared.State.{State}
use Rattle.lent.specs.Lent.{Lent}
use Rattle.call.specs.Tool.{state_after}
use Rattle.call.specs.declared.Ran.{Ran}
use Rattle.run.specs.Tool.{Runs}
use Rattle.card.specs.Card.{Readable, n_on, k_on, unreadable}
use Rattle.list.specs.Tool.{Lists}
use Rattle.told.specs.Told.{named, Besides, AnswersAs}

abbrev pub outside_sizes : Edition → ℕ → ℕ → List Reason
outside_sizes e n k = outside (Sized e n k) (sized? e n k) ∷ []

abbrev pub outside_n : Edition → ℕ → List Reason
outside_n e n = outside (SizedN e n) (sized_n? e n) ∷ []

abbrev pub state_in : List ℕ → State
state_in l = record { a = get_or l 0 0; h = get_or l 1 0; r = get_or l 2 0 }

abbrev pub state_out : State → List ℕ
state_out st = st.a ∷ st.h ∷ st.r ∷ []

abbrev pub said_after : Result Ran Refusal → List ℕ → List ℕ
said_after (Ok ran) l = cond ran.handed 1 0 ∷ drop 1 l
said_after (Err x) l = named (some x) l

pub record Reports (a : Result Ran Refusal) (st st' l l' : List ℕ) (r : ℕ) : Type 0 where
  pub number : r ≡ given (said a)
  pub state : st' ≡ state_out (state_after (state_in st) a)
  pub said : l' ≡ said_after a l

pub record Buffers : Type 0 where
  pub state : List ℕ
  pub memory : Memory
  pub out : List ℕ
  pub said : List ℕ

abbrev pub lent_in : List ℕ → Buffers → Lent
lent_in ws b = record { state = state_in b.state; came = ws; memory = b.memory; out = b.out }

pub record RunsAs (e : Edition) (n k : ℕ) (s ws : List ℕ) (b b' : Buffers) (r : ℕ) : Type 0 where
  pub tool : Besides (outside_sizes e n k) ((length b.state, exactly 3) ∷ (length b.said, exactly 3) ∷ []) r
      ((a : Result Ran Refusal) × Runs e n k s (lent_in ws b) (record { answer = a; memory = b'.memory; out = b'.out }) × Reports a b.state b'.state b.said b'.said r) (b' ≡ b)

abbrev pub sums_after : Result Sums Refusal → List ℕ → List ℕ
sums_after (Ok p) l = sums_of (Ok p)
sums_after (Err x) l = l

pub record PricesAs (e : Edition) (n k : ℕ) (s l l' : List ℕ) (r : ℕ) : Type 0 where
  pub tool : Besides (outside_sizes e n k) ((length l, exactly 3) ∷ []) r ((a : Result Sums Refusal) × Prices e n k s a × (r ≡ given (said a)) × (l' ≡ sums_after a l)) (l' ≡ l)

abbrev pub ListsAs : Edition → List ℕ → List ℕ → List ℕ → List ℕ → List ℕ → List ℕ → List ℕ → ℕ → Type 0
ListsAs e b t t' l l' s s' r =
    (d : Dec (Readable b)) → AnswersAs (unreadable d ∷ outside_sizes e (n_on d) (k_on d)) (Lists e b t t' l l') ((t' ≡ t) × (l' ≡ l)) s s' r
