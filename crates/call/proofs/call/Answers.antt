-- Past the check there is room for the ports, a half starts within the memory, and the marks are asked of the cells of whichever sides are shown.
use Rattle.std.proofs.Common.{ℕ, ◌≡◌, ◌-◌, ◌*◌, ◌^◌, ◌<◌, ◌≤◌, false, cond, List, Result, Ok, Err, length, take, replicate, refl, sym, ap, ◌∙◌, arith, pow_mono}
use native.Mathlib.Nat.{mul-le-mul}
use lib.Seq.{length-take-le}
use borrow.Author.Tests.{lt-ltb, le-ltb}
use Rattle.std.proofs.lemmas.Result.{err_from_is_err_and}
use Rattle.kinds.specs.Answers.{if_holds}
use Rattle.kinds.specs.Edition.{edition1}
use Rattle.kinds.specs.Frame.{ticks}
use Rattle.kinds.specs.declared.Refusal.{Refusal}
use Rattle.kinds.proofs.TruthLaws.{holds_yes}
use Rattle.kinds.proofs.FirstLaws.{none_some}
use Rattle.sheet.specs.Sheet.{Side}
use Rattle.switches.specs.Cells.{cell_of}
use Rattle.maps.specs.Opened.{Shows}
use Rattle.maps.specs.declared.OpenSide.{OpenSide}
use Rattle.state.specs.Decisions.{possible?}
use Rattle.state.specs.States.{Possible, reading, next}
use Rattle.state.specs.declared.State.{State}
use Rattle.memory.specs.Memory.{Memory}
use Rattle.memory.specs.Serving.{Serves}
use Rattle.lent.specs.Lent.{Lent, lengths_of}
use Rattle.lent.proofs.LentLaws.{SoundCall, call_sound}
use Rattle.call.specs.Call.{reads_of, writes_of, access_of}
use Rattle.call.specs.Inside.{most_ports, ListsPlaces}
use Rattle.call.proofs.PlaceLaws.{came_few, reads_length, reads_few, are_places, are_writes, are_reads}
use Rattle.call.proofs.ToolLaws.{calls_checked, calls_past, serving_refuses, serving_does}
use Rattle.call.proofs.call.Goals as goal
use Rattle.call.proofs.call.Goals.{In_ok-sizes, Joined-handed, then-handed, else-handed}

abbrev zeros : List ℕ
zeros = replicate most_ports 0

part_length : (m : ℕ) → m ≤ most_ports → length (take m zeros) ≡ m
part_length m few = length-take-le m zeros few

-- the places of a tick, in the first m of them
record Listed (o : OpenSide) (c base m : ℕ) (l : List ℕ) : Type 0 where
  same : length l ≡ length (take m zeros)
  places : ListsPlaces o c base (take m zeros) l

-- where the halves start
half_start : {h n half : ℕ} → h < 2 → n ≤ 10 → half ≡ 2 ^ n → h * half ≤ 2 ^ 10
half_start {h} {n} {half} l few e =
    let short : half ≤ 2 ^ 10 = omega (arith, e, pow_mono few) in
    let lower : h ≤ 1 = omega arith in
    omega (arith, mul-le-mul lower short)

-- past the check
module _ (c : In_ok-sizes) where
  abbrev lent : Lent
  lent = record {
    state = c.args.state;
    came = c.args.came.now;
    memory = record { words = c.args.words.now; marks = c.args.marks.now };
    out = c.args.out.now;
  }

  abbrev n : ℕ
  n = c.args.n

  abbrev k : ℕ
  k = c.args.k

  abbrev st : State
  st = c.args.state

  abbrev ws : List ℕ
  ws = c.args.came.now

  sound : SoundCall edition1 n k st (lengths_of lent)
  sound = (call_sound edition1 n k st (lengths_of lent)).0 (sym c.in_ok-sizes.ensures.answer)

  ports_few : 2 ^ k ≤ most_ports
  ports_few = pow_mono {i = k} {j = 5} (omega (arith, sound.sized.most))

  frame_ticks : {T : ℕ} → T ≡ ticks c.in_ok-sizes.sizes.n c.in_ok-sizes.sizes.k → T ≡ ticks n k
  frame_ticks e = let is = c.in_ok-sizes.ensures.sizes in rw (is.0, is.1) at e

  module _ {half : ℕ} (e : half ≡ 2 ^ c.in_ok-sizes.sizes.n) where
    half_is : half ≡ 2 ^ n
    half_is = e ∙ ap (λ (i : ℕ). 2 ^ i) c.in_ok-sizes.ensures.sizes.0

    into : st.h * half ≤ 2 ^ 10
    into = half_start sound.possible.half sound.sized.frame.most half_is

    from : (1 - st.h) * half ≤ 2 ^ 10
    from = half_start (omega arith) sound.sized.frame.most half_is

  -- how many words come and leave
  arriving_few : length ws ≤ most_ports
  arriving_few = omega (arith, came_few sound.right.0, ports_few)

  module _ {T leaving : ℕ} (t : T ≡ ticks c.in_ok-sizes.sizes.n c.in_ok-sizes.sizes.k) (e : leaving ≡ cond (reading T st) (length c.args.out.now) 0) where
    leaving_is : leaving ≡ cond (reading (ticks n k) st) (2 ^ k) 0
    leaving_is = rw (frame_ticks t, sound.right.1.0) at e

    leaving_few : leaving ≤ most_ports
    leaving_few = omega (arith, leaving_is, reads_length n k (λ i. i) st, reads_few n k (λ i. i) st, ports_few)

  -- the places that are written, and those that are read
  writes_are : {half : ℕ} {l : List ℕ} (W : Side) → half ≡ 2 ^ c.in_ok-sizes.sizes.n → Listed c.args.write.now st.a (st.h * half) (length ws) l → Shows n k c.args.write.now W
      → l ≡ writes_of n k (cell_of k W) st ws
  writes_are {l = l} W h w shows =
      are_writes n k (cell_of k W) st l ws sound.right.0 (w.same ∙ part_length (length ws) arriving_few)
      (λ e. are_places n k W st.h st.a (ap (λ (x : ℕ). st.h * x) (half_is h)) (w.places n k W shows (sym w.same ∙ e)))

  reads_are : {half T leaving : ℕ} {l : List ℕ} (R : Side) → half ≡ 2 ^ c.in_ok-sizes.sizes.n → T ≡ ticks c.in_ok-sizes.sizes.n c.in_ok-sizes.sizes.k
      → leaving ≡ cond (reading T st) (length c.args.out.now) 0 → Listed c.args.read.now st.r ((1 - st.h) * half) leaving l → Shows n k c.args.read.now R → l ≡ reads_of n k (cell_of k R) st
  reads_are {leaving = leaving} {l = l} R h t count r shows =
      are_reads n k (cell_of k R) st l (r.same ∙ part_length leaving (leaving_few t count) ∙ leaving_is t count)
      (λ e. are_places n k R (1 - st.h) st.r (ap (λ (x : ℕ). (1 - st.h) * x) (half_is h)) (r.places n k R shows (sym r.same ∙ e)))

  -- what the core of the call did
  serves : {half T leaving : ℕ} {written read : List ℕ} {m : Memory} {out : List ℕ} (r : Result Unit Refusal) → half ≡ 2 ^ c.in_ok-sizes.sizes.n
      → T ≡ ticks c.in_ok-sizes.sizes.n c.in_ok-sizes.sizes.k → leaving ≡ cond (reading T st) (length c.args.out.now) 0 → Listed c.args.write.now st.a (st.h * half) (length ws) written
      → Listed c.args.read.now st.r ((1 - st.h) * half) leaving read
      → Serves false k (record { writes = written; words = ws; reads = read }) lent.memory lent.out r m out
      → (W R : Side) → Shows n k c.args.write.now W → Shows n k c.args.read.now R
      → Serves false k (access_of n k (cell_of k W) (cell_of k R) st ws) lent.memory lent.out r m out
  serves r h t count w d did W R write-shows read-shows = rw (writes_are W h w write-shows, reads_are R h t count d read-shows) at did

-- as many words leave as there are places in the out buffer, or none
leaving_of : (c : Joined-handed) → c.if-handed.leaving ≡ cond (reading c.ticks-ticks.result c.args.state) (length c.args.out.now) 0
leaving_of c = elim c.if-handed.branch [
  | then-handed w ↦ rw (lt-ltb c.args.state.r c.ticks-ticks.result w.if-handed.true) w.leaving-is
  | else-handed w ↦ rw (le-ltb c.args.state.r c.ticks-ticks.result w.if-handed.false) w.leaving-is
]

-- a possible state goes on
goes_on : {T : ℕ} (U : ℕ) (st : State) (ws : List ℕ) {x : State} → T ≡ U → Possible U st → x ≡ if_holds (possible? T st) (next T st ws) st → x ≡ next U st ws
goes_on U st ws same ok e = rw same at e ∙ holds_yes (possible? U st) _ _ ok

pub returns-in_err-sizes : goal.returns-in_err-sizes
returns-in_err-sizes c =
    let args = c.args in
    let p = err_from_is_err_and c.from_residual.result c.from_residual.ensures.1 in
    rw (p.1, p.2)
    (calls_checked edition1 args.n args.k args.write.now args.read.now
    (record { state = args.state; came = args.came.now; memory = record { words = args.words.now; marks = args.marks.now }; out = args.out.now })
    c.in_err-sizes.ensures.answer)

pub slice_bounds-writes-end : goal.slice_bounds-writes-end
slice_bounds-writes-end c = arriving_few (goal.at.slice_bounds-writes-end c).In_ok-sizes

pub slice_bounds-writes-end-2 : goal.slice_bounds-writes-end-2
slice_bounds-writes-end-2 c = sym (part_length _ (arriving_few (goal.at.slice_bounds-writes-end-2 c).In_ok-sizes))

pub slice_bounds-reads-end : goal.slice_bounds-reads-end
slice_bounds-reads-end c = leaving_few (goal.at.slice_bounds-reads-end c).In_ok-sizes c.ticks-ticks.ensures (leaving_of (goal.at.slice_bounds-reads-end c).Joined-handed)

pub slice_bounds-reads-end-2 : goal.slice_bounds-reads-end-2
slice_bounds-reads-end-2 c = sym (part_length _ (leaving_few (goal.at.slice_bounds-reads-end-2 c).In_ok-sizes c.ticks-ticks.ensures (leaving_of (goal.at.slice_bounds-reads-end-2 c).Joined-handed)))

pub overflow_mul-into : goal.overflow_mul-into
overflow_mul-into c = omega (arith, into (goal.at.overflow_mul-into c).In_ok-sizes c.words-half.ensures)

pub places_of-requires-clause-base_bound : goal.places_of-requires-clause-base_bound
places_of-requires-clause-base_bound c = omega (arith, into (goal.at.places_of-requires-clause-base_bound c).In_ok-sizes c.words-half.ensures)

pub overflow_sub-from : goal.overflow_sub-from
overflow_sub-from c = omega (arith, (sound (goal.at.overflow_sub-from c).In_ok-sizes).possible.half)

pub returns-in_err-serve : goal.returns-in_err-serve
returns-in_err-serve c =
    let args = c.args in
    let at = goal.at.returns-in_err-serve c in
    let it = at.In_ok-sizes in
    let served =
    serves it (Err c.in_err-serve.field-0.0) c.words-half.ensures c.ticks-ticks.ensures (leaving_of at.Joined-handed)
    (record { same = c.places_of.auto.places; places = c.places_of.ensures }) (record { same = c.places_of-2.auto.places; places = c.places_of-2.ensures })
    c.in_err-serve.ensures
    in
    let p = err_from_is_err_and c.from_residual-in_err-serve.result c.from_residual-in_err-serve.ensures.1 in
    rw (p.1, p.2)
    (calls_past edition1 args.n args.k args.write.now args.read.now (lent it) (sym c.in_ok-sizes.ensures.answer)
    (λ W R write-shows read-shows. serving_refuses args.n args.k (cell_of args.k W) (cell_of args.k R) (lent it) (sound it) (served W R write-shows read-shows))
    (λ _ _. c.in_err-serve.ensures.refused _ refl))

pub returns : goal.returns
returns c =
    let args = c.args in
    let at = goal.at.returns c in
    let it = at.In_ok-sizes in
    let served =
    serves it (Ok c.in_ok-serve.field-0) c.words-half.ensures c.ticks-ticks.ensures (leaving_of at.Joined-handed)
    (record { same = c.places_of.auto.places; places = c.places_of.ensures }) (record { same = c.places_of-2.auto.places; places = c.places_of-2.ensures })
    c.in_ok-serve.ensures
    in
    let frame = frame_ticks it c.ticks-ticks.ensures in
    calls_past edition1 args.n args.k args.write.now args.read.now (lent it) (sym c.in_ok-sizes.ensures.answer)
    (λ W R write-shows read-shows.
    serving_does args.n args.k (cell_of args.k W) (cell_of args.k R) (lent it) (sound it) (served W R write-shows read-shows)
    (goes_on (ticks args.n args.k) args.state args.came.now frame (sound it).possible c.next.ensures)
    (ap (λ (T : ℕ). reading T args.state) frame))
    (λ _. none_some)
