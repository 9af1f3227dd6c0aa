-- What a call answers.
--   comes_refused     how a refusal is what comes of a call: its table gives it, and everything is as it came
--   comes_checked     so is one that a check gives, which goes by the reasons before 11 to 14
--   comes_done        how an answer is where the table gives none
--   comes_past        where neither of two tables gives a reason before 11 to 14, the same comes of a call by either
--   serving_refuses, serving_does      where neither sizes, lengths nor state are wrong, what serving the cells that a call writes and reads answers and leaves is what comes of the call
--   comes_unique      a call has one answer, and leaves one memory and one out buffer
--   calls_checked     how a refusal of 1, 2 or 10, that a check gives, meets the tool's promise
--   calls_past        how an answer does where none of them applies
--   calls_unique      for sides that are shown the tool has one answer
--   before_unique     and so it has where 1, 2 or 10 applies, whatever the sides are
use Prim.Native.Nat.{ℕ}
use mathlib.Core.Path.{◌≡◌, refl, sym, ap, ◌∙◌}
use mathlib.Core.Bool.{Bool, false}
use mathlib.Core.List.{List, ◌++◌}
use mathlib.Core.Option.{Option, none, some}
use native.Mathlib.Omega.{arith}
use lib.ListN.{length}
use Rattle.std.specs.Prelude.{Result, Ok, Err}
use lib.Pow.{pow_mono}
use Rattle.kinds.specs.Answers.{over_front}
use Rattle.kinds.specs.Edition.{Edition, edition1}
use Rattle.kinds.specs.Frame.{ticks}
use Rattle.kinds.specs.First.{Reason, first_of}
use Rattle.kinds.specs.Refusal.{said}
use Rattle.kinds.specs.declared.Refusal.{Refusal}
use Rattle.kinds.proofs.FirstLaws.{none_some, first_before, first_skip, first_append, first_none}
use Rattle.sheet.specs.Sheet.{Side}
use Rattle.switches.specs.Cells.{cell_of}
use Rattle.maps.specs.Opened.{Shows}
use Rattle.maps.specs.declared.OpenSide.{OpenSide}
use Rattle.state.specs.States.{reading, next}
use Rattle.state.specs.declared.State.{State}
use Rattle.faults.specs.Table.{faults}
use Rattle.memory.specs.Memory.{Memory, Access, words_at, served}
use Rattle.memory.specs.Serving.{serve_table, Serves}
use Rattle.call.specs.Call.{reads_of, writes_of, access_of, Outcome, call}
use Rattle.lent.specs.Lent.{Lent, lengths_of, call_table}
use Rattle.call.specs.Tool.{After, state_after, handed_out, ComesOf, Calls}
use Rattle.call.specs.declared.Ran.{Ran}
use Rattle.lent.proofs.LentLaws.{SoundCall, call_sound}
use Rattle.call.proofs.PlaceLaws.{came_few, reads_few, writes_length}
use Rattle.call.proofs.CallLaws.{call_given, call_refused, call_done, call_past}

comes_by : {o x : Outcome} {b : Lent} {l : After} → o ≡ x → ComesOf x b l → ComesOf o b l
comes_by e c = rw e c

module _ (t : List Reason) (n k : ℕ) (f g : ℕ → ℕ) (b : Lent) where
  abbrev this : Outcome
  this = call t n k f g b.state b.came b.memory

  abbrev first : Option Refusal
  first = first_of (t ++ faults k (writes_of n k f b.state b.came) (reads_of n k g b.state) b.memory.marks b.memory.marks)

  this_given : this.refusal ≡ first
  this_given = call_given t n k f g b.state b.came b.memory

  module _ {m : Memory} {out : List ℕ} where
    pub comes_refused : {x : Refusal} → first ≡ some x → m ≡ b.memory → out ≡ b.out → ComesOf this b (record { answer = Err x; memory = m; out = out })
    comes_refused given memory buffer =
        comes_by (call_refused t n k f g b.state b.came b.memory (this_given ∙ given))
        (record { refusal = refl; state = refl; handed = refl; memory = memory; buffer = buffer })

    pub comes_done : {st : State} {handed : Bool} → first ≡ none → st ≡ next (ticks n k) b.state b.came → handed ≡ reading (ticks n k) b.state
        → m ≡ served (access_of n k f g b.state b.came) b.memory → out ≡ over_front (words_at (reads_of n k g b.state) b.memory.words) b.out
        → ComesOf this b (record { answer = Ok (record { state = st; handed = handed }); memory = m; out = out })
    comes_done given state handed memory buffer =
        comes_by (call_done t n k f g b.state b.came b.memory (this_given ∙ given))
        (record { refusal = refl; state = state; handed = handed; memory = memory; buffer = buffer })

  pub comes_checked : {x : Refusal} → some x ≡ first_of t → ComesOf this b (record { answer = Err x; memory = b.memory; out = b.out })
  comes_checked given = comes_refused (first_before t _ (sym given)) refl refl

  pub comes_past : (u : List Reason) {l : After} → first_of t ≡ none → first_of u ≡ none → ComesOf (call u n k f g b.state b.came b.memory) b l → ComesOf this b l
  comes_past u given none_given = comes_by (call_past t n k f g b.state b.came b.memory given ∙ sym (call_past u n k f g b.state b.came b.memory none_given))

same_ran : {s t : State} {h i : Bool} → s ≡ t → h ≡ i → ◌≡◌ {A = Ran} (record { state = s; handed = h }) (record { state = t; handed = i })
same_ran s t = cc

same_answer : (st : State) (a b : Result Ran Refusal) → said a ≡ said b → state_after st a ≡ state_after st b → handed_out a ≡ handed_out b → a ≡ b
same_answer st (Ok p) (Ok q) r s t = ap Ok (same_ran s t)
same_answer st (Ok p) (Err y) r s t = none_some r
same_answer st (Err x) (Ok q) r s t = none_some (sym r)
same_answer st (Err x) (Err y) r s t = cc

same_left : {a b : Result Ran Refusal} {m v : Memory} {o u : List ℕ} → a ≡ b → m ≡ v → o ≡ u
    → ◌≡◌ {A = After} (record { answer = a; memory = m; out = o }) (record { answer = b; memory = v; out = u })
same_left answer memory out = cc

pub comes_unique : {o : Outcome} {b : Lent} {l r : After} → ComesOf o b l → ComesOf o b r → l ≡ r
comes_unique {b = b} {l = l} {r = r} x y =
    same_left (same_answer b.state l.answer r.answer (x.refusal ∙ sym y.refusal) (x.state ∙ sym y.state) (x.handed ∙ sym y.handed))
    (x.memory ∙ sym y.memory) (x.buffer ∙ sym y.buffer)

module _ (e : Edition) (n k : ℕ) (w r : OpenSide) (b : Lent) where
  abbrev table : List Reason
  table = call_table e n k b.state (lengths_of b)

  pub calls_checked : {x : Refusal} → some x ≡ first_of table → Calls e n k w r b (record { answer = Err x; memory = b.memory; out = b.out })
  calls_checked given = record {
    before = λ y applies. record { refusal = given ∙ applies; state = refl; handed = refl; memory = refl; buffer = refl };
    over = λ W R _ _. comes_checked table n k (cell_of k W) (cell_of k R) b given;
    as_it_came = λ _ _. (refl, refl);
  }

  pub calls_past : {l : After} → first_of table ≡ none
      → ((W R : Side) → Shows n k w W → Shows n k r R → ComesOf (call table n k (cell_of k W) (cell_of k R) b.state b.came b.memory) b l)
      → ((x : Refusal) → said l.answer ≡ some x → (l.memory ≡ b.memory) × (l.out ≡ b.out)) → Calls e n k w r b l
  calls_past given over kept = record { before = λ x applies. none_some (sym given ∙ applies); over = over; as_it_came = kept }

  module _ {l q : After} (x : Calls e n k w r b l) (y : Calls e n k w r b q) where
    pub calls_unique : {W R : Side} → Shows n k w W → Shows n k r R → l ≡ q
    calls_unique write read = comes_unique (x.over _ _ write read) (y.over _ _ write read)

    pub before_unique : {z : Refusal} → first_of table ≡ some z → l ≡ q
    before_unique applies = comes_unique (x.before _ applies) (y.before _ applies)

module _ (n k : ℕ) (f g : ℕ → ℕ) (b : Lent) (ok : SoundCall edition1 n k b.state (lengths_of b)) where
  abbrev before : List Reason
  before = call_table edition1 n k b.state (lengths_of b)

  abbrev access : Access
  access = access_of n k f g b.state b.came

  as_many : length b.came ≡ length access.writes
  as_many = sym (writes_length n k f b.state b.came ok.right.0)

  serving_given : first_of (serve_table false k access b.memory b.out) ≡ first_of (before ++ faults k access.writes access.reads b.memory.marks b.memory.marks)
  serving_given =
      let ports = pow_mono {i = k} {j = 5} (omega (arith, ok.sized.most)) in
      let reads = reads_few n k g b.state in
      first_skip _ _ (λ wrong. wrong (record { a_word_each = as_many; room = omega (arith, reads, ok.right.1.0) }))
      ∙ first_skip _ _ (λ many. many (record { written = omega (arith, as_many, came_few ok.right.0, ports); read = omega (arith, reads, ports) }))
      ∙ sym (first_append before _ ((first_none before).0 ((call_sound edition1 n k b.state (lengths_of b)).1 ok)))

  module _ {m : Memory} {out : List ℕ} where
    pub serving_refuses : {x : Refusal} → Serves false k access b.memory b.out (Err x) m out
        → ComesOf (call before n k f g b.state b.came b.memory) b (record { answer = Err x; memory = m; out = out })
    serving_refuses serves =
        let (memory, buffer) = serves.refused _ refl in
        comes_refused before n k f g b (sym serving_given ∙ sym serves.is_first) memory buffer

    pub serving_does : {st : State} {handed : Bool} {u : Unit} → Serves false k access b.memory b.out (Ok u) m out
        → st ≡ next (ticks n k) b.state b.came → handed ≡ reading (ticks n k) b.state
        → ComesOf (call before n k f g b.state b.came b.memory) b (record { answer = Ok (record { state = st; handed = handed }); memory = m; out = out })
    serving_does serves state handed =
        let (memory, buffer) = serves.done refl in
        comes_done before n k f g b (sym serving_given ∙ sym serves.is_first) state handed memory buffer
