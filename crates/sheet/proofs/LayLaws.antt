-- A side that is laid out is read as it was written.
--   Layable e n k S   the side S can be laid out: n address columns, k wiring columns and no more stages than there are places for, all in range
--   padded_used       padding a list or its beginning is the same where the rest is zero
--   flat_snoc         one stage more has two numbers more
--   flat_length       there are two numbers for a stage
--   stage_more        one stage more, written after the others
--   flat_part         stages that are read off some places are the first of these places
--   from_flat         numbers, two for each stage, are the numbers of the stages that are read off them
--   flat_stages, flat_from    the numbers of some stages are read as these stages
--   same_side         two sides with the same columns and stages are one
--   sheet_length, sheet_write, sheet_read, sheet_formed    a sheet with two sides that can be laid out has the places of a sheet, shows both, and keeps the layout
use Prim.Native.Nat.{ℕ, zero, suc, ◌+◌, ◌-◌, ◌*◌, ◌/◌, ◌%◌, ◌≤◌, ◌<◌}
use mathlib.Core.Path.{◌≡◌, refl, sym, ap, ap₂, ◌∙◌}
use mathlib.Core.List.{List, [], ◌∷◌, ◌++◌, append_assoc}
use native.Mathlib.Numerals.{add-one}
use native.Mathlib.Omega.{arith}
use lib.ListN.{length, get_or, set, take, drop, replicate, length-take, length-append}
use lib.Seq.{take-suc, take_all, take_at, drop_at, drop-drop, get_or_at, get_or-drop}
use Rattle.kinds.specs.Edition.{Edition, Sized, side_places, sheet_places}
use Rattle.bits.proofs.ImageLaws.{zeros_at}
use Rattle.bits.proofs.PaddedLaws.{padded_length, padded_at, padded_unique, padded_snoc}
use Rattle.sheet.specs.Sheet.{Side, address_places, wiring_places, count_place, stage_places, stage_at, stages_in, stages_from, side_of, write_places, read_places, write_side, read_side, flat, laid_out, sheet_of}
use Rattle.sheet.specs.declared.Stage.{Stage}
use Rattle.bits.specs.Padded.{padded_to}
use Rattle.sheet.specs.Layout.{InRange, AllZero, FormedSide, WellFormed}
use Rattle.kinds.proofs.FrameLaws.{in_order_same}
use Rattle.sheet.proofs.StageLaws.{stages_none, stages_snoc, same_stages}
use Rattle.sheet.proofs.PlaceLaws.{take_same}

pub record Layable (e : Edition) (n k : ℕ) (S : Side) : Type 0 where
  pub addresses : length S.addresses ≡ n
  pub wiring : length S.wiring ≡ k
  pub stages : length S.stages ≤ e.most_stages
  pub used : InRange n k S

module _ (m : ℕ) (l : List ℕ) where
  abbrev zeros : List ℕ
  zeros = replicate (m - length l) 0

  padded_rest : (n : ℕ) → length l ≡ n → AllZero (drop n (padded_to m l))
  padded_rest n e j h = ap (λ (r : List ℕ). get_or r j 0) (drop_at l zeros n e) ∙ zeros_at (m - length l) j

pub padded_used : (m u : ℕ) (l : List ℕ) → length l ≤ m → AllZero (drop u l) → padded_to m l ≡ padded_to m (take u l)
padded_used m u l few unused =
    padded_unique m (take u l) (padded_to m l) (omega (arith, length-take u l)) (padded_length m l few) (λ j. padded_at m l j ∙ take_same u l unused j)

-- stages as they stand on a sheet

pub flat_snoc : (ss : List Stage) (s : Stage) → flat (ss ++ (s ∷ [])) ≡ flat ss ++ (s.direction ∷ s.control ∷ [])
flat_snoc [] s = refl
flat_snoc (t ∷ ss) s = ap (λ (l : List ℕ). t.direction ∷ t.control ∷ l) (flat_snoc ss s)

pub flat_length : (ss : List Stage) → length (flat ss) ≡ 2 * length ss
flat_length [] = refl
flat_length (s ∷ ss) = omega (arith, flat_length ss)

pub stage_more : (m : ℕ) (ss : List Stage) (s : Stage) → 2 * length ss + 1 < m
    → set (set (padded_to m (flat ss)) (2 * length ss) s.direction) (2 * length ss + 1) s.control ≡ padded_to m (flat (ss ++ (s ∷ [])))
stage_more m ss s h =
    let half = flat ss ++ (s.direction ∷ []) in
    let next : length half ≡ 2 * length ss + 1 = omega (arith, length-append (flat ss) (s.direction ∷ []), flat_length ss) in
    ap₂ (λ (x y : ℕ). set (set (padded_to m (flat ss)) x s.direction) y s.control) (sym (flat_length ss)) (sym next)
    ∙ ap (λ (l : List ℕ). set l (length half) s.control) (padded_snoc m (flat ss) s.direction (omega (arith, flat_length ss)))
    ∙ padded_snoc m half s.control (omega (arith, next))
    ∙ ap (padded_to m) (append_assoc (flat ss) (s.direction ∷ []) (s.control ∷ []) ∙ sym (flat_snoc ss s))

pub flat_part : (m : ℕ) (l : List ℕ) → 2 * m ≤ length l → flat (stages_in m l) ≡ take (2 * m) l
flat_part zero l h = ap flat (stages_none l)
flat_part (suc m) l h =
    ap flat (stages_snoc m l)
    ∙ flat_snoc (stages_in m l) (stage_at l m)
    ∙ ap (λ (x : List ℕ). x ++ (get_or l (2 * m) 0 ∷ get_or l (2 * m + 1) 0 ∷ [])) (flat_part m l (omega arith))
    ∙ sym (append_assoc (take (2 * m) l) (get_or l (2 * m) 0 ∷ []) (get_or l (2 * m + 1) 0 ∷ []))
    ∙ ap (λ (x : List ℕ). x ++ (get_or l (2 * m + 1) 0 ∷ [])) (sym (take-suc l (2 * m) 0 (omega arith)))
    ∙ ap (λ (j : ℕ). take (suc (2 * m)) l ++ (get_or l j 0 ∷ [])) (add-one (2 * m))
    ∙ sym (take-suc l (suc (2 * m)) 0 (omega arith))
    ∙ ap (λ (x : ℕ). take x l) {x = suc (suc (2 * m))} {y = 2 * suc m} (omega arith)

pub from_flat : (l : List ℕ) → length l % 2 ≡ 0 → flat (stages_from l) ≡ l
from_flat l even = flat_part (length l / 2) l (omega arith) ∙ take_all (2 * (length l / 2)) l (omega arith)

stages_cons : (m d c : ℕ) (l : List ℕ) → stages_in (suc m) (d ∷ c ∷ l) ≡ record { direction = d; control = c } ∷ stages_in m l
unfolding stages_in
stages_cons m d c l =
    ap (λ (ss : List Stage). record { direction = d; control = c } ∷ ss)
    (in_order_same m (λ s. stage_at (d ∷ c ∷ l) (suc s)) (stage_at l) (λ s h.
    let first : 2 * suc s ≡ suc (suc (2 * s)) = omega arith in
    let second : 2 * suc s + 1 ≡ suc (suc (2 * s + 1)) = omega arith in
    ap₂ (λ (x y : ℕ). record { direction = get_or (d ∷ c ∷ l) x 0; control = get_or (d ∷ c ∷ l) y 0 }) first second))

pub flat_stages : (ss : List Stage) → stages_in (length ss) (flat ss) ≡ ss
flat_stages [] = stages_none []
flat_stages (s ∷ ss) = stages_cons (length ss) s.direction s.control (flat ss) ∙ ap (λ (ts : List Stage). s ∷ ts) (flat_stages ss)

pub flat_from : (ss : List Stage) → stages_from (flat ss) ≡ ss
flat_from ss = ap (λ (m : ℕ). stages_in m (flat ss)) {x = length (flat ss) / 2} {y = length ss} (omega (arith, flat_length ss)) ∙ flat_stages ss

-- a side, and a sheet

pub same_side : {a b x y : List ℕ} {c z : List Stage} → a ≡ x → b ≡ y → c ≡ z
    → ◌≡◌ {A = Side} (record { addresses = a; wiring = b; stages = c }) (record { addresses = x; wiring = y; stages = z })
same_side e f g = cc

module _ (e : Edition) (n k : ℕ) (sized : Sized e n k) where
  module _ (S : Side) (s : Layable e n k S) where
    abbrev room : ℕ
    room = 2 * e.most_stages + e.left_over

    abbrev addresses : List ℕ
    addresses = padded_to e.most_n S.addresses

    abbrev wiring : List ℕ
    wiring = padded_to e.most_k S.wiring

    abbrev stages : List ℕ
    stages = padded_to room (flat S.stages)

    abbrev from_count : List ℕ
    from_count = length S.stages ∷ stages

    addresses_length : length addresses ≡ e.most_n
    addresses_length = padded_length e.most_n S.addresses (omega (arith, s.addresses, sized.frame.most))

    wiring_length : length wiring ≡ e.most_k
    wiring_length = padded_length e.most_k S.wiring (omega (arith, s.wiring, sized.most))

    laid_length : length (laid_out e S) ≡ side_places e
    laid_length =
        let stages_length = padded_length room (flat S.stages) (omega (arith, flat_length S.stages, s.stages)) in
        omega (arith, length-append addresses (wiring ++ from_count), length-append wiring from_count, addresses_length, wiring_length, stages_length)

    after_addresses : drop e.most_n (laid_out e S) ≡ wiring ++ from_count
    after_addresses = drop_at addresses (wiring ++ from_count) e.most_n addresses_length

    laid_addresses : address_places e (laid_out e S) ≡ addresses
    laid_addresses = take_at addresses (wiring ++ from_count) e.most_n addresses_length

    laid_wiring : wiring_places e (laid_out e S) ≡ wiring
    laid_wiring = ap (take e.most_k) after_addresses ∙ take_at wiring from_count e.most_k wiring_length

    after_wiring : drop (e.most_n + e.most_k) (laid_out e S) ≡ from_count
    after_wiring =
        sym (drop-drop e.most_k e.most_n (laid_out e S)) ∙ ap (drop e.most_k) after_addresses ∙ drop_at wiring from_count e.most_k wiring_length

    laid_count : count_place e (laid_out e S) ≡ length S.stages
    laid_count =
        sym (get_or-drop e.most_n (laid_out e S) e.most_k 0)
        ∙ ap (λ (l : List ℕ). get_or l e.most_k 0) after_addresses
        ∙ get_or_at wiring (length S.stages) stages 0 e.most_k wiring_length

    laid_stages : stage_places e (laid_out e S) ≡ stages
    laid_stages = sym (drop-drop 1 (e.most_n + e.most_k) (laid_out e S)) ∙ ap (drop 1) after_wiring

    laid_side : side_of e n k (laid_out e S) ≡ S
    laid_side = same_side
        (ap (take n) laid_addresses ∙ take_at S.addresses (zeros e.most_n S.addresses) n s.addresses)
        (ap (take k) laid_wiring ∙ take_at S.wiring (zeros e.most_k S.wiring) k s.wiring)
        (ap₂ stages_in laid_count laid_stages
        ∙ same_stages (length S.stages) stages (flat S.stages) (padded_at room (flat S.stages))
        ∙ flat_stages S.stages)

    laid_formed : FormedSide e n k (laid_out e S)
    laid_formed = record {
      count = rw laid_count s.stages;
      used = rw laid_side s.used;
      addresses_unused = rw laid_addresses (padded_rest e.most_n S.addresses n s.addresses);
      wiring_unused = rw laid_wiring (padded_rest e.most_k S.wiring k s.wiring);
      stages_unused = rw laid_count (rw laid_stages (padded_rest room (flat S.stages) (2 * length S.stages) (flat_length S.stages)));
    }

  module _ (W R : Side) (write : Layable e n k W) (read : Layable e n k R) where
    pub sheet_length : length (sheet_of e W R) ≡ sheet_places e
    sheet_length = omega (arith, length-append (laid_out e W) (laid_out e R), laid_length W write, laid_length R read)

    write_part : write_places e (sheet_of e W R) ≡ laid_out e W
    write_part = take_at (laid_out e W) (laid_out e R) (side_places e) (laid_length W write)

    read_part : read_places e (sheet_of e W R) ≡ laid_out e R
    read_part = drop_at (laid_out e W) (laid_out e R) (side_places e) (laid_length W write)

    pub sheet_write : write_side e n k (sheet_of e W R) ≡ W
    sheet_write = ap (side_of e n k) write_part ∙ laid_side W write

    pub sheet_read : read_side e n k (sheet_of e W R) ≡ R
    sheet_read = ap (side_of e n k) read_part ∙ laid_side R read

    pub sheet_formed : WellFormed e n k (sheet_of e W R)
    sheet_formed = record { write = rw write_part (laid_formed W write); read = rw read_part (laid_formed R read) }
