-- Where the order is planned and run, what is listed is its listing; where the trial is refused, the columns are no order.
use Rattle.std.proofs.Common.{List, ℕ, [], ◌∷◌, ◌++◌, ◌≡◌, ◌^◌, ◌≤◌, Result, Ok, Err, Some, None, length, take, refl, sym, ap, ap₂, subst, ◌∙◌, arith}
use Rattle.std.specs.Result.{IsOk, result_ok}
use lib.ListN.{replicate}
use lib.Pow.{pow_mono}
use lib.Seq.{length-take-le}
use Rattle.kinds.specs.Edition.{edition1, Sized}
use Rattle.kinds.specs.Decisions.{sized?}
use Rattle.kinds.specs.Lengths.{Wanted, exactly}
use Rattle.kinds.specs.Sizes.{AreSizes}
use Rattle.kinds.specs.declared.Refusal.{Refusal}
use Rattle.kinds.specs.declared.sizes.Sizes.{Sizes}
use Rattle.kinds.proofs.AnswerLaws.{done_none, answers_done}
use Rattle.order.specs.Order.{Order}
use Rattle.order.proofs.TableLaws.{order_sound}
use Rattle.sheet.specs.Table.{sheet_lengths}
use Rattle.construction.specs.Planned.{planned_sheet}
use Rattle.trial.specs.Trial.{words_as_they_leave, Tries}
use Rattle.lines.specs.Written.{RoomFor}
use Rattle.listed.specs.Inside.{Tried, trial_text}
use Rattle.listed.specs.Listing.{listing}
use Rattle.listed.specs.Tool.{text_places}
use Rattle.listed.proofs.RoomLaws.{listing_fits}
use Rattle.listed.proofs.TrialLaws.{planned_tried, planned_text}
use Rattle.listed.proofs.list_order.Goals as goal

few_words : {n k : ℕ} → Sized edition1 n k → 2 ^ n ≤ 1024
few_words {n} sized = pow_mono {i = n} {j = 10} sized.frame.most

abbrev zeros : List ℕ
zeros = replicate 1024 0

is_done : (r : Result Unit Refusal) → Some tt ≡ result_ok r → IsOk r
is_done (Ok x) e = refl
is_done (Err y) e = absurd cc

not_done : (r : Result Unit Refusal) → None ≡ result_ok r → ¬ IsOk r
not_done (Ok x) e h = cc
not_done (Err y) e h = cc

sizes_are : {n k : ℕ} (r : Result Sizes Refusal) (s : Sizes) → AreSizes n k r → Some s ≡ result_ok r → (s.n ≡ n) × (s.k ≡ k)
sizes_are (Ok x) s (n, k) e = (cc, cc)
sizes_are (Err y) s are e = absurd cc

-- the order was tried out, within the sizes i and j, which are n and k
record TriedOut (n k : ℕ) (C : List ℕ) (i j words : ℕ) (r : Result Unit Refusal) (sheet frame : List ℕ) : Type 0 where
  within : Sized edition1 i j
  sizes : (i ≡ n) × (j ≡ k)
  is : words ≡ 2 ^ i
  tries : Tries edition1 n k C (replicate 64 0) sheet (take words zeros) frame r

module _ {n k : ℕ} {C : List ℕ} {i j words : ℕ} {r : Result Unit Refusal} {sheet frame : List ℕ} (out : TriedOut n k C i j words r sheet frame) where
  sized : Sized edition1 n k
  sized = rw (sym out.sizes.0, sym out.sizes.1) out.within

  lent : length (take words zeros) ≡ 2 ^ n
  lent = length-take-le words zeros (omega (arith, out.is, few_words out.within)) ∙ out.is ∙ ap (λ (m : ℕ). 2 ^ m) out.sizes.0

  abbrev lengths : List (ℕ × Wanted)
  lengths = sheet_lengths edition1 (replicate 64 0) ++ (length (take words zeros), exactly (2 ^ n)) ∷ []

  tried : Order n C → IsOk r
  tried o = answers_done r ((order_sound (sized? edition1 n k) n C lengths).1 (sized, (refl, (lent, tt)), o)) out.tries

  module _ (done : IsOk r) where
    order : Order n C
    order = ((order_sound (sized? edition1 n k) n C lengths).0 (sym out.tries.is_first ∙ done_none r done)).2

    planned : sheet ≡ planned_sheet edition1 n k C
    planned = (out.tries.done (done_none r done)).planned.constructed

    lamps : frame ≡ words_as_they_leave n C
    lamps = (out.tries.done (done_none r done)).frame

    listable : Tried j sheet frame
    listable = rw (out.sizes.1, planned, lamps) (planned_tried sized order)

    text : trial_text i j sheet frame ≡ listing n k C
    text = rw (out.sizes.0, out.sizes.1, planned, lamps) (planned_text sized order)

    room : (x : List ℕ) → text_places ≤ length x → RoomFor (trial_text i j sheet frame) 0 x
    room x places = omega (arith, ap length text, listing_fits sized order, places)

pub slice_bounds-frame-end : goal.slice_bounds-frame-end
slice_bounds-frame-end c = omega (arith, c.words.ensures, few_words c.in_ok-sizes.sizes.sized)

pub slice_bounds-frame-end-2 : goal.slice_bounds-frame-end-2
slice_bounds-frame-end-2 c = sym (length-take-le _ zeros (omega (arith, c.words.ensures, few_words c.in_ok-sizes.sizes.sized)))

pub returns-in_err-ok : goal.returns-in_err-ok
returns-in_err-ok c =
    let sizes = sizes_are c.new.result c.in_ok-sizes.sizes c.new.ensures.sizes c.in_ok-sizes.ensures.value in
    let refused = not_done c.trial.result c.in_err-ok.ensures.value in
    rw c.from_residual-in_err-ok.ensures
    (record { written = λ l. absurd (refused (tried (record { within = c.in_ok-sizes.sizes.sized; sizes = sizes; is = c.words.ensures; tries = c.trial.ensures }) l.order)); left = λ _. (refl, refl) })

pub put_trial-requires-clause-tried : goal.put_trial-requires-clause-tried
put_trial-requires-clause-tried c =
    let sizes = sizes_are c.new.result c.in_ok-sizes.sizes c.new.ensures.sizes c.in_ok-sizes.ensures.value in
    listable (record { within = c.in_ok-sizes.sizes.sized; sizes = sizes; is = c.words.ensures; tries = c.trial.ensures }) (is_done c.trial.result c.in_ok-ok.ensures.value)

pub put_trial-requires-clause-room_for : goal.put_trial-requires-clause-room_for
put_trial-requires-clause-room_for c =
    let sizes = sizes_are c.new.result c.in_ok-sizes.sizes c.new.ensures.sizes c.in_ok-sizes.ensures.value in
    room (record { within = c.in_ok-sizes.sizes.sized; sizes = sizes; is = c.words.ensures; tries = c.trial.ensures }) (is_done c.trial.result c.in_ok-ok.ensures.value) _ (omega arith)

pub returns : goal.returns
returns c =
    let sizes = sizes_are c.new.result c.in_ok-sizes.sizes c.new.ensures.sizes c.in_ok-sizes.ensures.value in
    let done = is_done c.trial.result c.in_ok-ok.ensures.value in
    let out : TriedOut c.args.n c.args.k c.args.columns.now c.in_ok-sizes.sizes.n c.in_ok-sizes.sizes.k c.words.result c.trial.result c.trial.new.sheet c.trial.new.frame = record { within = c.in_ok-sizes.sizes.sized; sizes = sizes; is = c.words.ensures; tries = c.trial.ensures } in
    record {
      written = λ _. (c.put_trial.result, refl, rw (← text out done) c.put_trial.ensures);
      left = λ not. absurd (not (record { sized = sized out; order = order out done; places = omega arith }));
    }
