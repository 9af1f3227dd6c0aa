-- The two halves of the memory over one call, for any two maps.
--   Cell m x Here w              cell x of the memory is filled, with the word w, exactly if Here
--   Half n m h f Here w          what half h holds, where f i is the cell of word i: the words w i for which Here i, and nothing else
--   Halves n k st m f w Q d v    what the halves hold in the state st. Of the frame that comes in: f its write map, w its words. Of the frame that is read: Q its order, d its write map, v its words
--   Held n k st m f w Q d v      where a run stands between two calls: the halves hold that, and the state is possible
--   Brings k c w ws              the call brings tick c of a frame with the words w, or nothing
--   held_fresh                   a fresh run stands so, whatever its frames
--   held_sound                   a call made there is not refused
--   held_word                    each word of the tick that is read is handed out at its place's port
--   held_stays                   after a call that does not complete the frame the run stands so for the same two frames
--   held_turns                   after one that does, it stands so for that frame, now the one that is read, and any next one
use Prim.Native.Nat.{ℕ, ◌+◌, ◌-◌, ◌^◌, ◌<◌, ◌≤◌}
use mathlib.Core.Path.{◌≡◌, refl, sym, ap, ◌∙◌}
use mathlib.Core.List.{List, [], ◌∷◌}
use mathlib.Core.Logic.{◌≢◌, ◌↔◌}
use mathlib.Core.Option.{none}
use native.Mathlib.Decide.{ℕ_discrete, dec_lt}
use native.Mathlib.Omega.{arith}
use borrow.Author.Tests.{lt-ltb, le-ltb, eq-eqb, ne_eqb}
use lib.ListN.{length, get_or, replicate, length-replicate, get_or-replicate, get_or-eq_default}
use lib.Pow.{split, high}
use Rattle.kinds.specs.Frame.{ticks, tick_of, port_of, word_at}
use Rattle.kinds.proofs.FrameLaws.{tick_lt, port_lt, word_lt}
use Rattle.kinds.proofs.FirstLaws.{first_none}
use Rattle.kinds.proofs.TruthLaws.{false≢true}
use Rattle.span.specs.Maps.{Injective, Bijection}
use Rattle.span.proofs.Counting.{injective_onto}
use Rattle.state.specs.Clocks.{Completes}
use Rattle.state.specs.States.{clock_of, Possible, words_came, next}
use Rattle.state.specs.declared.State.{State}
use Rattle.state.proofs.StateLaws.{after_the_read, after_the_write, turned, next_possible}
use Rattle.faults.specs.Marks.{Filled, put, with_marks}
use Rattle.faults.specs.Faults.{Clash, SomeFilled, SomeEmpty}
use Rattle.faults.specs.Table.{faults}
use Rattle.faults.proofs.MarkLaws.{put_nil, put_length, put_other}
use Rattle.faults.proofs.FaultLaws.{Different}
use Rattle.memory.specs.Memory.{Memory, stored, emptied, words_at, served}
use Rattle.memory.proofs.MemoryLaws.{words_at_law}
use Rattle.memory.proofs.CountLaws.{put_in}
use Rattle.call.specs.Call.{place_in, places_of, reads_of, writes_of, access_of, call}
use Rattle.call.proofs.PlaceLaws.{came_all, places_clash, halves_apart, places_at, places_length, places_below}
use Rattle.call.proofs.CallLaws.{call_given}
use Rattle.promise.proofs.SeriesLaws.{WholeTick}
use Rattle.promise.specs.Run.{Stand, Fresh}
use Rattle.realise.proofs.Fits.{BanksApart, FitsOrder}
use Rattle.promise.proofs.FreshLaws.{fresh_possible}

pub record Cell (m : Memory) (x : ℕ) (Here : Type 0) (w : ℕ) : Type 0 where
  pub filled : Here → Filled m.marks x
  pub word : Here → get_or m.words x 0 ≡ w
  pub empty : ¬ Here → get_or m.marks x 0 ≡ 0

abbrev Half : ℕ → Memory → ℕ → (ℕ → ℕ) → (ℕ → Type 0) → (ℕ → ℕ) → Type 0
Half n m h f Here w = (i : ℕ) → i < 2 ^ n → Cell m (place_in n h (f i)) (Here i) (w i)

pub record Halves (n k : ℕ) (st : State) (m : Memory) (f w Q d v : ℕ → ℕ) : Type 0 where
  pub words_lent : length m.words ≡ 2 ^ (n + 1)
  pub marks_lent : length m.marks ≡ 2 ^ (n + 1)
  pub coming : Half n m st.h f (λ i. tick_of k i < st.a) w
  pub leaving : Half n m (1 - st.h) d (λ i. st.r ≤ tick_of k (Q i)) v

pub record Held (n k : ℕ) (st : State) (m : Memory) (f w Q d v : ℕ → ℕ) : Type 0 where
  pub possible : Possible (ticks n k) st
  pub halves : Halves n k st m f w Q d v

pub record Brings (k c : ℕ) (w : ℕ → ℕ) (ws : List ℕ) : Type 0 where
  pub count : WholeTick k ws
  pub words : (p : ℕ) → p < length ws → get_or ws p 0 ≡ w (word_at k c p)

module _ {x w : ℕ} {A : Type 0} where
  cell_filled : {m : Memory} → get_or m.marks x 0 ≡ 1 → get_or m.words x 0 ≡ w → A → Cell m x A w
  cell_filled mark word here = record { filled = λ _ e. omega arith; word = λ _. word; empty = λ not. absurd (not here) }

  cell_empty : {m : Memory} → get_or m.marks x 0 ≡ 0 → ¬ A → Cell m x A w
  cell_empty mark not = record { filled = λ here. absurd (not here); word = λ here. absurd (not here); empty = λ _. mark }

  cell_same : {m m' : Memory} {B : Type 0} → get_or m'.marks x 0 ≡ get_or m.marks x 0 → get_or m'.words x 0 ≡ get_or m.words x 0 → A ↔ B → Cell m x A w
      → Cell m' x B w
  cell_same marks words still cell = record {
    filled = λ here e. cell.filled (still.1 here) (sym marks ∙ e);
    word = λ here. words ∙ cell.word (still.1 here);
    empty = λ not. marks ∙ cell.empty (λ here. not (still.0 here));
  }

-- f has a cell of a half for each word
record Own (n : ℕ) (f : ℕ → ℕ) : Type 0 where
  into : (i : ℕ) → f i < 2 ^ n
  apart : Injective f (2 ^ n)

module _ {n k : ℕ} {P f g : ℕ → ℕ} (fits : FitsOrder n k P f g) where
  own_writes : Own n f
  own_writes = record { into = fits.write_cells; apart = fits.own_cells }

  own_reads : Own n g
  own_reads = record {
    into = fits.read_cells;
    apart = λ i j l r same.
        let (x, b, p) = fits.places.onto i l in
        let (y, c, q) = fits.places.onto j r in
        cc (fits.own_cells x y b c (cc (fits.in_order x b, fits.in_order y c)));
  }

place_of : (n k : ℕ) (f : ℕ → ℕ) (h j : ℕ) → get_or (places_of n k f h (tick_of k j)) (port_of k j) 0 ≡ place_in n h (f j)
place_of n k f h j = places_at n k f h (tick_of k j) (port_of k j) (port_lt k j) ∙ ap (λ (i : ℕ). place_in n h (f i)) (split j k)

-- the state after the read, and after the write
module _ {T : ℕ} {st : State} (ok : Possible T st) where
  read_state : ((after_the_read T st).a ≡ st.a) × ((after_the_read T st).h < 2) × (st.a < (after_the_read T st).r) × ((after_the_read T st).r ≤ T)
  read_state = elim (dec_lt st.r T) [
    | yes busy ↦ rw (lt-ltb st.r T busy) (omega arith)
    | no idle ↦ rw (le-ltb st.r T (omega arith)) (omega arith)
  ]

  part : (ws : List ℕ) → ¬ Completes T (clock_of st) (words_came ws) → (after_the_write (after_the_read T st) ws).a ≢ T
  part [] not full = omega (arith, read_state)
  part (x ∷ ws) not full = not (record { possible = ok.clock; words = refl; last = omega (arith, read_state) })

  whole : (ws : List ℕ) → Completes T (clock_of st) (words_came ws)
      → ((after_the_write (after_the_read T st) ws).a ≡ T) × ((after_the_write (after_the_read T st) ws).r ≡ T) × ((after_the_write (after_the_read T st) ws).h < 2)
  whole [] full = absurd (false≢true full.words)
  whole (x ∷ ws) full = omega (arith, read_state, full.last)

module _ {n k : ℕ} (within : k ≤ n) where
  no_clash : (f : ℕ → ℕ) → BanksApart n k f → (h : ℕ) {c : ℕ} → c < ticks n k → ¬ Clash k (places_of n k f h c)
  no_clash f banks h {c} tick clash = let (p, q, b, last, same) = (places_clash within f h c).0 clash in banks c p q tick b last same

  -- what is put in the cells of a tick
  module _ {f : ℕ → ℕ} (own : Own n f) {h c : ℕ} (half : h < 2) (tick : c < ticks n k) where
    at_word : {p j : ℕ} → p < 2 ^ k → j < 2 ^ n → get_or (places_of n k f h c) p 0 ≡ place_in n h (f j) → word_at k c p ≡ j
    at_word {p} {j} b i same = own.apart (word_at k c p) j (word_lt within tick b) i (omega (arith, sym (places_at n k f h c p b) ∙ same))

    differ : Different (places_of n k f h c)
    differ p q b e same =
        let last : q < 2 ^ k = rw (places_length n k f h c) at e in
        omega (arith, at_word (omega arith) (word_lt within tick last) (same ∙ places_at n k f h c q last))

    put_elsewhere : (vs l : List ℕ) {j : ℕ} → j < 2 ^ n → tick_of k j ≢ c → get_or (put (places_of n k f h c) vs l) (place_in n h (f j)) 0 ≡ get_or l (place_in n h (f j)) 0
    put_elsewhere vs l {j} i other = put_other (places_of n k f h c) vs l (place_in n h (f j)) (
        λ p b same.
        let port : p < 2 ^ k = rw (places_length n k f h c) at b in
        other (ap (tick_of k) (sym (at_word port i same)) ∙ high c k port)
        )

    put_here : (vs l : List ℕ) → length vs ≡ 2 ^ k → length l ≡ 2 ^ (n + 1) → (j : ℕ) → tick_of k j ≡ c
        → get_or (put (places_of n k f h c) vs l) (place_in n h (f j)) 0 ≡ get_or vs (port_of k j) 0
    put_here vs l each lent j now =
        let all = places_length n k f h c in
        rw (← place_of n k f h j, now)
        (put_in (places_of n k f h c) vs l differ (λ p b. rw lent (places_below n k f own.into h c half p b)) (each ∙ sym all) (port_of k j)
        (omega (arith, port_lt k j)))

    mark_here : (b : ℕ) (l : List ℕ) → length l ≡ 2 ^ (n + 1) → (j : ℕ) → tick_of k j ≡ c → get_or (with_marks b (places_of n k f h c) l) (place_in n h (f j)) 0 ≡ b
    mark_here b l lent j now =
        rw (places_length n k f h c)
        (put_here (replicate (2 ^ k) b) l (length-replicate (2 ^ k) b) lent j now ∙ get_or-replicate (2 ^ k) (port_of k j) b 0 (port_lt k j))

  half_emptied : {Q d e v : ℕ → ℕ} → FitsOrder n k Q d e → {h r : ℕ} → h < 2 → r < ticks n k → {m : Memory} → length m.marks ≡ 2 ^ (n + 1)
      → Half n m h d (λ i. r ≤ tick_of k (Q i)) v → Half n (emptied (places_of n k e h r) m) h d (λ i. r + 1 ≤ tick_of k (Q i)) v
  half_emptied {Q} fits {r = r} half tick {m} lent held i l = rw (fits.in_order i l) (elim (ℕ_discrete (tick_of k (Q i)) r) [
    | yes now ↦ cell_empty (mark_here (own_reads fits) half tick 0 m.marks lent (Q i) now) (omega arith)
    | no other ↦ cell_same (put_elsewhere (own_reads fits) half tick _ m.marks (fits.places.into i l) other) refl (λ here. omega arith, λ here. omega arith)
        (rw (fits.in_order i l) at (held i l))
  ])

  half_stored : {f w : ℕ → ℕ} → Own n f → {h a : ℕ} → h < 2 → a < ticks n k
      → {m : Memory} → length m.words ≡ 2 ^ (n + 1) → length m.marks ≡ 2 ^ (n + 1) → (x : ℕ) (ws : List ℕ) → Brings k a w (x ∷ ws)
      → Half n m h f (λ i. tick_of k i < a) w → Half n (stored (places_of n k f h a) (x ∷ ws) m) h f (λ i. tick_of k i < a + 1) w
  half_stored {w = w} own {a = a} half tick {m} words marks x ws brings held i l = elim (ℕ_discrete (tick_of k i) a) [
    | yes now ↦ cell_filled (mark_here own half tick 1 m.marks marks i now)
        (put_here own half tick (x ∷ ws) m.words (came_all (2 ^ k) x ws brings.count) words i now
        ∙ brings.words (port_of k i) (omega (arith, came_all (2 ^ k) x ws brings.count, port_lt k i)) ∙ ap w (rw (← now) (split i k))) (omega arith)
    | no other ↦ cell_same (put_elsewhere own half tick _ m.marks l other) (put_elsewhere own half tick (x ∷ ws) m.words l other) (λ here. omega arith, λ here. omega arith)
        (held i l)
  ]

  -- what is put in the other half
  put_across : {f g : ℕ → ℕ} → Own n f → Own n g → {s h : ℕ} → s ≢ h → (c : ℕ) (vs l : List ℕ) (i : ℕ)
      → get_or (put (places_of n k f s c) vs l) (place_in n h (g i)) 0 ≡ get_or l (place_in n h (g i)) 0
  put_across {f} {g} own other {s} {h} differ c vs l i = put_other (places_of n k f s c) vs l (place_in n h (g i)) (
      λ p b same.
      halves_apart n (own.into (word_at k c p)) (other.into i) differ (sym (places_at n k f s c p (rw (places_length n k f s c) at b)) ∙ same)
      )

  pub held_fresh : {f w Q d v : ℕ → ℕ} → Bijection Q (2 ^ n) → {x : Stand} → Fresh n k x → Held n k x.state x.memory f w Q d v
  held_fresh order {x} fresh = record {
    possible = fresh_possible fresh;
    halves = record {
      words_lent = fresh.words_lent;
      marks_lent = fresh.marks_lent;
      coming = λ i l. cell_empty (unmarked _) (omega arith);
      leaving = λ i l. cell_empty (unmarked _) (omega (arith, tick_lt within (order.into i l)));
    };
  }
    where
      unmarked : (p : ℕ) → get_or x.memory.marks p 0 ≡ 0
      unmarked p = elim (dec_lt p (length x.memory.marks)) [
        | yes inside ↦ fresh.marks_zero p inside
        | no beyond ↦ get_or-eq_default x.memory.marks 0 (omega arith)
      ]

  module _ {P f g Q d e w v : ℕ → ℕ} (new : FitsOrder n k P f g) (old : FitsOrder n k Q d e) where
    after_read : {st : State} {m : Memory} → st.r < ticks n k → st.h < 2 → Halves n k st m f w Q d v
        → Halves n k (record { a = st.a; h = st.h; r = st.r + 1 }) (emptied (places_of n k e (1 - st.h) st.r) m) f w Q d v
    after_read {st} {m} tick half halves = record {
      words_lent = halves.words_lent;
      marks_lent = put_length _ _ m.marks ∙ halves.marks_lent;
      coming = λ i l.
          cell_same (put_across (own_reads old) (own_writes new) (omega arith) st.r _ m.marks i) refl (λ x. x, λ x. x) (halves.coming i l);
      leaving = half_emptied old (omega arith) tick halves.marks_lent halves.leaving;
    }

    after_write : (st : State) (r : ℕ) {m : Memory} → let now : State = record { a = st.a; h = st.h; r = r } in
        st.a < ticks n k → st.h < 2 → (ws : List ℕ) → Brings k st.a w ws → Halves n k now m f w Q d v
        → Halves n k (after_the_write now ws) (stored (writes_of n k f st ws) ws m) f w Q d v
    after_write st r tick half [] brings halves = rw (put_nil [] _, put_nil [] _) halves
    after_write st r {m} tick half (x ∷ ws) brings halves = record {
      words_lent = put_length _ (x ∷ ws) m.words ∙ halves.words_lent;
      marks_lent = put_length _ _ m.marks ∙ halves.marks_lent;
      coming = half_stored (own_writes new) half tick halves.words_lent halves.marks_lent x ws brings halves.coming;
      leaving = λ i l.
          cell_same (put_across (own_writes new) (own_writes old) (omega arith) st.a _ m.marks i)
          (put_across (own_writes new) (own_writes old) (omega arith) st.a (x ∷ ws) m.words i) (λ x. x, λ x. x) (halves.leaving i l);
    }

    after_both : {st : State} {m : Memory} {ws : List ℕ} → Possible (ticks n k) st → Brings k st.a w ws → Halves n k st m f w Q d v
        → Halves n k (after_the_write (after_the_read (ticks n k) st) ws) (served (access_of n k f e st ws) m) f w Q d v
    after_both {st} {ws = ws} ok brings halves = elim (dec_lt st.r (ticks n k)) [
      | yes busy ↦ rw (lt-ltb st.r (ticks n k) busy) (after_write st (st.r + 1) ok.clock.incoming ok.half ws brings (after_read busy ok.half halves))
      | no idle ↦ rw (le-ltb st.r (ticks n k) (omega arith)) (rw put_nil (after_write st st.r ok.clock.incoming ok.half ws brings halves))
    ]

    turn : {st : State} {m : Memory} → (st.a ≡ ticks n k) × (st.r ≡ ticks n k) × (st.h < 2) → Halves n k st m f w Q d v
        → {f' w' : ℕ → ℕ} → ((i : ℕ) → f' i < 2 ^ n) → Halves n k (turned (ticks n k) st) m f' w' P f w
    turn {st} {m} (full, read, half) halves {f'} into = rw (eq-eqb st.a (ticks n k) full) (record {
      words_lent = halves.words_lent;
      marks_lent = halves.marks_lent;
      coming = λ i l. cell_empty (emptied_at (f' i) (into i)) (omega arith);
      leaving = rw again (λ i l. cell_same refl refl (λ here. omega arith, λ here. omega (arith, tick_lt within l)) (halves.coming i l));
    })
      where
        again : 1 - (1 - st.h) ≡ st.h
        again = omega arith

        emptied_at : (x : ℕ) → x < 2 ^ n → get_or m.marks (place_in n (1 - st.h) x) 0 ≡ 0
        emptied_at x b =
            let (i, l, e) = injective_onto (λ i _. old.write_cells i) old.own_cells x b in
            rw (← e) ((halves.leaving i l).empty (λ late. omega (arith, tick_lt within (old.places.into i l))))

    module _ {st : State} {m : Memory} (held : Held n k st m f w Q d v) where
      writes_sound : (ws : List ℕ) → (¬ Clash k (writes_of n k f st ws)) × (¬ SomeFilled m.marks (writes_of n k f st ws))
      writes_sound [] = (λ (p, l, _). omega arith, λ (p, l, _). omega arith)
      writes_sound (x ∷ ws) = (
        no_clash f new.write_banks st.h held.possible.clock.incoming,
        λ (p, l, filled).
            let port : p < 2 ^ k = rw (places_length n k f st.h st.a) at l in
            filled (rw (places_at n k f st.h st.a p port)
            ((held.halves.coming (word_at k st.a p) (word_lt within held.possible.clock.incoming port)).empty (λ before. omega (arith, high st.a k port)))),
      )

      reads_sound : (¬ Clash k (reads_of n k e st)) × (¬ SomeEmpty m.marks (reads_of n k e st))
      reads_sound = elim (dec_lt st.r (ticks n k)) [
        | yes busy ↦ rw (lt-ltb st.r (ticks n k) busy) (
          no_clash e old.read_banks (1 - st.h) busy,
          λ (p, l, empty).
              let port : p < 2 ^ k = rw (places_length n k e (1 - st.h) st.r) at l in
              let (i, b, same) = old.places.onto (word_at k st.r p) (word_lt within busy port) in
              empty (rw (places_at n k e (1 - st.h) st.r p port, ← same, ← old.in_order i b)
              ((held.halves.leaving i b).filled (omega (arith, ap (tick_of k) same, high st.r k port)))),
        )
        | no idle ↦ rw (le-ltb st.r (ticks n k) (omega arith)) (λ (p, l, _). omega arith, λ (p, l, _). omega arith)
      ]

      pub held_sound : (ws : List ℕ) → (call [] n k f e st ws m).refusal ≡ none
      held_sound ws =
          call_given [] n k f e st ws m
          ∙ (first_none (faults k (writes_of n k f st ws) (reads_of n k e st) m.marks m.marks)).1
          ((writes_sound ws).0, ((writes_sound ws).1, (reads_sound.0, (reads_sound.1, tt))))

      pub held_word : (i : ℕ) → i < 2 ^ n → tick_of k (Q i) ≡ st.r → get_or (words_at (reads_of n k e st) m.words) (port_of k (Q i)) 0 ≡ v i
      held_word i l now =
          let busy : st.r < ticks n k = omega (arith, tick_lt within (old.places.into i l)) in
          let reads = places_of n k e (1 - st.h) st.r in
          let place : get_or reads (port_of k (Q i)) 0 ≡ place_in n (1 - st.h) (e (Q i)) = rw now at (place_of n k e (1 - st.h) (Q i)) in
          rw (lt-ltb st.r (ticks n k) busy) (
          words_at_law reads m.words (port_of k (Q i)) (omega (arith, places_length n k e (1 - st.h) st.r, port_lt k (Q i)))
          ∙ rw (place, ← old.in_order i l) ((held.halves.leaving i l).word (omega arith))
          )

      module _ {ws : List ℕ} (brings : Brings k st.a w ws) where
        pub held_stays : ¬ Completes (ticks n k) (clock_of st) (words_came ws) → Held n k (next (ticks n k) st ws) (served (access_of n k f e st ws) m) f w Q d v
        held_stays not = record {
          possible = next_possible (ticks n k) st ws held.possible;
          halves = rw (ne_eqb _ (ticks n k) (part held.possible ws not)) (after_both held.possible brings held.halves);
        }

        pub held_turns : Completes (ticks n k) (clock_of st) (words_came ws) → {f' w' : ℕ → ℕ} → ((i : ℕ) → f' i < 2 ^ n)
            → Held n k (next (ticks n k) st ws) (served (access_of n k f e st ws) m) f' w' P f w
        held_turns full into = record {
          possible = next_possible (ticks n k) st ws held.possible;
          halves = turn (whole held.possible ws full) (after_both held.possible brings held.halves) into;
        }
