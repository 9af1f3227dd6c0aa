-- The run over one frame and then as many blank calls, from a fresh stand, where f and g are the maps for every frame, and u i is word i of the frame.
--   write_banks, own_cells     where no call of the frame is refused, the banks of f are apart, and f gives each word its own cell
--   right_fits                 where no call is refused, and the one word that is not 0 leaves when and where it is due, whichever word it is, f and g fit the order P
use Prim.Native.Nat.{ℕ, zero, suc, ◌+◌, ◌-◌, ◌*◌, ◌^◌, ◌<◌, ◌≤◌}
use mathlib.Core.Path.{◌≡◌, refl, sym, ap, ap₂, ◌∙◌}
use mathlib.Core.Bool.{cond}
use mathlib.Core.List.{List, [], ◌∷◌}
use mathlib.Core.Logic.{◌≢◌}
use mathlib.Core.Option.{none}
use native.Mathlib.Decide.{ℕ_discrete, dec_lt}
use native.Mathlib.Nat.{add-suc, suc-mul}
use native.Mathlib.Numerals.{add-one}
use native.Mathlib.Omega.{arith}
use borrow.Author.Tests.{lt-ltb, le-ltb, eq-eqb, ne_eqb}
use lib.Dec.{eqb}
use lib.ListN.{length, get_or, replicate, length-replicate, get_or-replicate}
use lib.Pow.{pow_pos, split}
use Rattle.kinds.specs.Frame.{tick_bits, ticks, tick_of, port_of, word_at, bank_of}
use Rattle.kinds.specs.First.{EachReason}
use Rattle.kinds.proofs.FrameLaws.{frame_whole, tick_lt, port_lt}
use Rattle.kinds.proofs.TruthLaws.{stable}
use Rattle.span.specs.Maps.{Injective, Bijection}
use Rattle.span.proofs.Counting.{apart_injective, injective_onto}
use Rattle.state.specs.States.{clock_of, next}
use Rattle.state.specs.declared.State.{State}
use Rattle.state.proofs.ClockLaws.{read_more, read_idle}
use Rattle.state.proofs.StateLaws.{next_blank, next_part, next_full}
use Rattle.faults.specs.Marks.{put}
use Rattle.faults.specs.Faults.{Clash, SomeFilled}
use Rattle.faults.specs.Table.{faults}
use Rattle.faults.proofs.MarkLaws.{put_length, put_other}
use Rattle.faults.proofs.FaultLaws.{Different, apart}
use Rattle.memory.specs.Memory.{Memory, stored, words_at, served}
use Rattle.memory.proofs.MemoryLaws.{words_at_law}
use Rattle.memory.proofs.CountLaws.{put_in}
use Rattle.call.specs.Call.{places_of, reads_of, writes_of, access_of, Outcome, carried_out}
use Rattle.call.proofs.PlaceLaws.{places_at, places_length, places_clash, places_below}
use Rattle.call.proofs.CallLaws.{call_done}
use Rattle.promise.specs.Series.{call_at, due_call, due_port, one_frame}
use Rattle.promise.specs.Seen.{Leaves}
use Rattle.promise.specs.Run.{Stand, standing}
use Rattle.promise.specs.Answered.{fresh_stand, stands, outcome_at, seen_at, called}
use Rattle.realise.proofs.Fits.{BanksApart, FitsOrder}
use Rattle.promise.proofs.AnsweredLaws.{nothing_wrong}
use Rattle.realise.proofs.OneFrame.{came, came_at, some_came, blank_call}

-- the state before call c of the frame, and before blank call c after it
abbrev coming : ℕ → ℕ → State
coming T c = record { a = c; h = 0; r = T }

abbrev leaving : ℕ → State
leaving c = record { a = 0; h = 1; r = c }

module _ (T c : ℕ) where
  next_coming : (ws : List ℕ) → 0 < length ws → suc c < T → next T (coming T c) ws ≡ coming T (suc c)
  next_coming [] came h = absurd (omega arith)
  next_coming (w ∷ ws) came h = rw (next_part T (coming T c) w ws (omega arith), read_idle T (clock_of (coming T c)) (omega arith), add-one c)

  next_turned : (ws : List ℕ) → 0 < length ws → suc c ≡ T → next T (coming T c) ws ≡ leaving 0
  next_turned [] came h = absurd (omega arith)
  next_turned (w ∷ ws) came h = next_full T (coming T c) w ws (omega arith)

  next_leaving : c < T → next T (leaving c) [] ≡ leaving (suc c)
  next_leaving h = rw (next_blank T (leaving c) (omega arith), read_more T (clock_of (leaving c)) h, add-one c)

-- word i has v i in its cell, for each i below b
abbrev InCells : (ℕ → ℕ) → (ℕ → ℕ) → List ℕ → ℕ → Type 0
InCells f v l b = (i : ℕ) → i < b → get_or l (f i) 0 ≡ v i

module _ (n k : ℕ) (f : ℕ → ℕ) (c : ℕ) where
  abbrev cells : List ℕ
  cells = places_of n k f 0 c

  coming_writes : (ws : List ℕ) → 0 < length ws → writes_of n k f (coming (ticks n k) c) ws ≡ cells
  coming_writes [] came = absurd (omega arith)
  coming_writes (w ∷ ws) came = refl

  coming_reads : reads_of n k f (coming (ticks n k) c) ≡ []
  coming_reads = rw (le-ltb (ticks n k) (ticks n k) (omega arith))

  leaving_reads : c < ticks n k → reads_of n k f (leaving c) ≡ cells
  leaving_reads h = rw (lt-ltb c (ticks n k) h)

  cells_length : length cells ≡ 2 ^ k
  cells_length = places_length n k f 0 c

  cell_at : (p : ℕ) → p < 2 ^ k → get_or cells p 0 ≡ f (word_at k c p)
  cell_at p h = omega (arith, places_at n k f 0 c p h)

  tick_put : ((i : ℕ) → f i < 2 ^ n) → Different cells → ((i p : ℕ) → i < c * 2 ^ k → p < 2 ^ k → f (word_at k c p) ≢ f i)
      → (v : ℕ → ℕ) (l vs : List ℕ) → length l ≡ 2 ^ (n + 1) → length vs ≡ 2 ^ k → ((p : ℕ) → p < 2 ^ k → get_or vs p 0 ≡ v (word_at k c p))
      → InCells f v l (c * 2 ^ k) → InCells f v (put cells vs l) (suc c * 2 ^ k)
  tick_put into different new v l vs lent count each there i h = elim (dec_lt i (c * 2 ^ k)) [
    | yes early ↦
        put_other cells vs l (f i) (λ p b same. let port : p < 2 ^ k = omega (arith, cells_length) in new i p early port (sym (cell_at p port) ∙ same))
        ∙ there i early
    | no late ↦
        let p = i - c * 2 ^ k in
        let port : p < 2 ^ k = omega (arith, suc-mul c (2 ^ k)) in
        let word : word_at k c p ≡ i = omega arith in
        ap (λ (x : ℕ). get_or (put cells vs l) x 0) (ap f (sym word) ∙ sym (cell_at p port))
        ∙ put_in cells vs l different (rw lent (places_below n k f into 0 c (omega arith))) (count ∙ sym cells_length) p (rw cells_length port)
        ∙ each p port
        ∙ ap v word
  ]

abbrev zeros : ℕ → List ℕ
zeros n = replicate (2 ^ (n + 1)) 0

zeros_length : (n : ℕ) → length (zeros n) ≡ 2 ^ (n + 1)
zeros_length n = length-replicate (2 ^ (n + 1)) 0

module _ (n k : ℕ) (f g u : ℕ → ℕ) where
  abbrev T : ℕ
  T = ticks n k

  abbrev S : List (List ℕ)
  S = one_frame n k u

  abbrev before : ℕ → Stand
  before = stands (called n k (λ F. f) (λ F. g) S) (fresh_stand n k)

  abbrev outcome : ℕ → Outcome
  outcome = outcome_at (called n k (λ F. f) (λ F. g) S) (fresh_stand n k)

  -- no call before call m is refused
  abbrev pub FineBefore : ℕ → Type 0
  FineBefore m = (j : ℕ) → j < m → (outcome j).refusal ≡ none

  module _ {m : ℕ} (fine : FineBefore m) (j : ℕ) (h : j < m) where
    done : outcome j ≡ carried_out n k f g (before j).state (call_at S j) (before j).memory
    done = call_done [] n k f g (before j).state (call_at S j) (before j).memory (fine j h)

    sound : EachReason (λ r. ¬ r.applies) (faults k (writes_of n k f (before j).state (call_at S j)) (reads_of n k g (before j).state) (before j).memory.marks (before j).memory.marks)
    sound = (nothing_wrong n k f g (before j).state (call_at S j) (before j).memory).0 (fine j h)

    state_after_law : {st : State} {ws : List ℕ} → (before j).state ≡ st → call_at S j ≡ ws → (before (suc j)).state ≡ next T st ws
    unfolding standing
    state_after_law e came = ap (λ (o : Outcome). o.state) done ∙ ap₂ (next T) e came

    memory_after : (before (suc j)).memory ≡ served (access_of n k f g (before j).state (call_at S j)) (before j).memory
    unfolding standing
    memory_after = ap (λ (o : Outcome). o.memory) done

  -- the calls of the frame
  module _ (fine : FineBefore T) where
    is_coming : (c : ℕ) → c < T → (before c).state ≡ coming T c
    unfolding standing
    is_coming zero h = refl
    is_coming (suc c) h = state_after_law fine c (omega arith) (is_coming c (omega arith)) refl ∙ next_coming T c (call_at S c) (some_came n k u c (omega arith)) h

    frame_writes : (c : ℕ) → c < T → writes_of n k f (before c).state (call_at S c) ≡ cells n k f c
    frame_writes c h = ap (λ (st : State). writes_of n k f st (call_at S c)) (is_coming c h) ∙ coming_writes n k f c (call_at S c) (some_came n k u c h)

    writes_apart : (c : ℕ) → c < T → ¬ Clash k (cells n k f c)
    writes_apart c h = rw (frame_writes c h) at (sound fine c h).0

    writes_empty : (c : ℕ) → c < T → ¬ SomeFilled (before c).memory.marks (cells n k f c)
    writes_empty c h = rw (frame_writes c h) at (sound fine c h).1.0

    pub write_banks : k ≤ n → BanksApart n k f
    write_banks within c p q h below last same = writes_apart c h ((places_clash within f 0 c).1 (p, q, below, last, same))

    frame_memory : (c : ℕ) → c < T → (before (suc c)).memory ≡ stored (cells n k f c) (call_at S c) (before c).memory
    unfolding put
    frame_memory c h = memory_after fine c h ∙ rw (frame_writes c h) (rw (is_coming c h) (rw (coming_reads n k g c)))

    -- the words that came before call c stand in their cells, each with mark 1
    record InPlace (c : ℕ) : Type 0 where
      words_lent : length (before c).memory.words ≡ 2 ^ (n + 1)
      marks_lent : length (before c).memory.marks ≡ 2 ^ (n + 1)
      words : InCells f u (before c).memory.words (c * 2 ^ k)
      marks : InCells f (λ i. 1) (before c).memory.marks (c * 2 ^ k)

    new_cells : (c : ℕ) → c < T → InPlace c → (i p : ℕ) → i < c * 2 ^ k → p < 2 ^ k → f (word_at k c p) ≢ f i
    new_cells c h held i p early port same =
        let marked = ap (λ (x : ℕ). get_or (before c).memory.marks x 0) (cell_at n k f c p port ∙ same) ∙ held.marks i early in
        writes_empty c h (p, rw (cells_length n k f c) port, λ empty. omega arith)

    module _ (within : k ≤ n) (into : (i : ℕ) → f i < 2 ^ n) where
      held : (c : ℕ) → c ≤ T → InPlace c
      unfolding standing
      held zero h = record { words_lent = zeros_length n; marks_lent = zeros_length n; words = λ i b. absurd (omega arith); marks = λ i b. absurd (omega arith) }
      held (suc c) h =
          let l : c < T = omega arith in
          let m = (before c).memory in
          let cs = cells n k f c in
          let earlier = held c (omega arith) in
          let there = tick_put n k f c into (apart k cs (writes_apart c l)) (new_cells c l earlier) in
          let count = cells_length n k f c in
          record {
            words_lent = rw (frame_memory c l) (put_length cs _ m.words ∙ earlier.words_lent);
            marks_lent = rw (frame_memory c l) (put_length cs _ m.marks ∙ earlier.marks_lent);
            words = rw (frame_memory c l) (there u m.words (call_at S c) earlier.words_lent (came n k u c l) (λ p. came_at n k u c p l) earlier.words);
            marks = rw (frame_memory c l)
                (there (λ i. 1) m.marks _ earlier.marks_lent (length-replicate (length cs) 1 ∙ count) (λ p b. get_or-replicate (length cs) p 1 0 (omega arith)) earlier.marks);
          }

      pub own_cells : Injective f (2 ^ n)
      own_cells = apart_injective (λ i j l h same.
          let c = tick_of k j in
          let p = port_of k j in
          let tick : c < T = tick_lt within h in
          let port : p < 2 ^ k = port_lt k j in
          let word : word_at k c p ≡ j = split j k in
          elim (dec_lt i (c * 2 ^ k)) [
            | yes early ↦ new_cells c tick (held c (omega arith)) i p early port (ap f word ∙ sym same)
            | no late ↦
                let q = i - c * 2 ^ k in
                let same_tick : word_at k c q ≡ i = omega arith in
                write_banks within c q p tick (omega arith) port (ap (bank_of k) (ap f same_tick ∙ same ∙ ap f (sym word)))
          ])

  -- and the blank calls after it
  module _ (fine : FineBefore (2 * T)) where
    frame_fine : FineBefore T
    frame_fine j h = fine j (omega arith)

    is_leaving : (c : ℕ) → c ≤ T → (before (T + c)).state ≡ leaving c
    is_leaving zero h =
        let some = pow_pos (tick_bits n k) in
        let last = T - 1 in
        ap (λ (j : ℕ). (before j).state) (omega arith)
        ∙ state_after_law fine last (omega arith) (is_coming frame_fine last (omega arith)) refl
        ∙ next_turned T last (call_at S last) (some_came n k u last (omega arith)) (omega arith)
    is_leaving (suc c) h =
        ap (λ (j : ℕ). (before j).state) (add-suc T c)
        ∙ state_after_law fine (T + c) (omega arith) (is_leaving c (omega arith)) (blank_call n k u c (omega arith))
        ∙ next_leaving T c h

    blank_reads : (c : ℕ) → c < T → reads_of n k g (before (T + c)).state ≡ cells n k g c
    blank_reads c h = ap (reads_of n k g) (is_leaving c (omega arith)) ∙ leaving_reads n k g c h

    reads_apart : (c : ℕ) → c < T → ¬ Clash k (cells n k g c)
    reads_apart c h = rw (blank_reads c h) at (sound fine (T + c) (omega arith)).1.1.0

    read_banks : k ≤ n → BanksApart n k g
    read_banks within c p q h below last same = reads_apart c h ((places_clash within g 0 c).1 (p, q, below, last, same))

    blank_words : (c : ℕ) → c ≤ T → (before (T + c)).memory.words ≡ (before T).memory.words
    unfolding put
    blank_words zero h = ap (λ (j : ℕ). (before j).memory.words) (omega arith)
    blank_words (suc c) h =
        ap (λ (j : ℕ). (before j).memory.words) (add-suc T c)
        ∙ ap (λ (m : Memory). m.words) (memory_after fine (T + c) (omega arith))
        ∙ rw (blank_call n k u c (omega arith)) (blank_words c (omega arith))

    blank_leaving : (c p : ℕ) → c < T → p < 2 ^ k → get_or (outcome (T + c)).leaving p 0 ≡ get_or (before T).memory.words (g (word_at k c p)) 0
    blank_leaving c p h l =
        let words = (before (T + c)).memory.words in
        ap (λ (o : Outcome). get_or o.leaving p 0) (done fine (T + c) (omega arith))
        ∙ ap (λ (cs : List ℕ). get_or (words_at cs words) p 0) (blank_reads c h)
        ∙ words_at_law (cells n k g c) words p (rw (cells_length n k g c) l)
        ∙ ap₂ (λ (ws : List ℕ) (x : ℕ). get_or ws x 0) (blank_words c (omega arith)) (cell_at n k g c p l)

    -- what leaves at place q was written by a word with that content
    read_from : k ≤ n → ((i : ℕ) → f i < 2 ^ n) → (q : ℕ) → q < 2 ^ n → g q < 2 ^ n → (j : ℕ) × (f j ≡ g q) × (u j ≡ get_or (outcome (T + tick_of k q)).leaving (port_of k q) 0)
    read_from within into q l b =
        let (j, b, e) = injective_onto (λ i _. into i) (own_cells frame_fine within into) (g q) b in
        let there = (held frame_fine within into T (omega arith)).words j (rw (frame_whole within) b) in (
          j,
          e,
          sym there
              ∙ ap (λ (x : ℕ). get_or (before T).memory.words x 0) (e ∙ ap g (sym (split q k)))
              ∙ sym (blank_leaving (tick_of k q) (port_of k q) (tick_lt within l) (port_lt k q)),
        )

-- the frame whose word i is 1 and whose other words are 0
abbrev pub only : ℕ → ℕ → ℕ
only i j = cond (eqb i j) 1 0

pub only_small : (i j : ℕ) → only i j < 2 ^ 32
only_small i j = elim (ℕ_discrete i j) [ yes e ↦ rw (eq-eqb i j e) (omega arith) | no ne ↦ rw (ne_eqb i j ne) (omega arith) ]

pub only_one : (i : ℕ) → only i i ≡ 1
only_one i = rw (eq-eqb i i refl)

only_it : (i j : ℕ) → only i j ≡ 1 → i ≡ j
only_it i j same = stable (ℕ_discrete i j) (λ ne. omega (arith, rw (ne_eqb i j ne) at same))

module _ (n k : ℕ) (P f g : ℕ → ℕ) (within : k ≤ n) (into : (i : ℕ) → f i < 2 ^ n) (from : (j : ℕ) → g j < 2 ^ n) (places : Bijection P (2 ^ n)) where
  abbrev T' : ℕ
  T' = ticks n k

  pub right_fits : ((i : ℕ) → i < 2 ^ n → FineBefore n k f g (only i) (2 * ticks n k))
      → ((i : ℕ) → i < 2 ^ n
      → Leaves (seen_at (called n k (λ F. f) (λ F. g) (one_frame n k (only i))) (fresh_stand n k) (due_call 0 k P (ticks n k - 1) i)) (due_port k P i) 1)
      → FitsOrder n k P f g
  right_fits fine leaves = record {
    write_cells = into;
    read_cells = from;
    write_banks = write_banks n k f g (only 0) (λ j h. fine 0 some j (omega arith)) within;
    read_banks = read_banks n k f g (only 0) (fine 0 some) within;
    own_cells = own_cells n k f g (only 0) (λ j h. fine 0 some j (omega arith)) within into;
    places = places;
    in_order = λ i h.
        let (j, e, same) = read_from n k f g (only i) (fine i h) within into (P i) (places.into i h) (from (P i)) in
        let due : T' + tick_of k (P i) ≡ due_call 0 k P (T' - 1) i = omega (arith, pow_pos (tick_bits n k)) in
        let one = same ∙ ap (λ (c : ℕ). get_or (outcome n k f g (only i) c).leaving (port_of k (P i)) 0) due ∙ (leaves i h).word in
        ap f (only_it i j one) ∙ e;
  }
    where
      some : 0 < 2 ^ n
      some = pow_pos n
