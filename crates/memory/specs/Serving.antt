-- A call that is served unless it must not go on.
--   serve_table after k A m out         2 where the lengths do not fit, and then those of the faults; after says which marks 12 is judged on, as `judged_on` has it
--   Serves after k A m out r m' out'   the core of a call: r is the first of that table that applies; where none does, the words are taken out and stored; on a refusal all is as it came
use Rattle.std.specs.Prelude.{ℕ, ◌≡◌, Bool, List, ◌∷◌, length, Result}
use Rattle.kinds.specs.Answers.{Answers, over_front}
use Rattle.kinds.specs.First.{Reason, unless}
use Rattle.kinds.specs.Refusal.{said}
use Rattle.kinds.specs.declared.Refusal.{Refusal}
use Rattle.kinds.specs.declared.Refusal.TheVariants.{Length}
use Rattle.faults.specs.Table.{fault_table}
use Rattle.memory.specs.Memory.{Memory, Access, Fitting, words_at, served}
use Rattle.memory.specs.Decisions.{fitting?}

abbrev pub serve_table : Bool → ℕ → Access → Memory → List ℕ → List Reason
serve_table after k A m out =
    let fitting = Fitting (length A.writes) (length A.words) (length A.reads) (length out) in
    unless Length fitting (fitting? (length A.writes) (length A.words) (length A.reads) (length out)) ∷ fault_table after k A.writes A.reads m.marks

abbrev pub Serves : Bool → ℕ → Access → Memory → List ℕ → Result Unit Refusal → Memory → List ℕ → Type 0
Serves after k A m out r m' out' =
    Answers (serve_table after k A m out) (said r) ((m' ≡ served A m) × (out' ≡ over_front (words_at A.reads m.words) out)) ((m' ≡ m) × (out' ≡ out))
