-- Past the check both sides keep the layout, so that each can be opened.
use Rattle.std.proofs.Common.{ℕ, ◌≡◌, refl, subst, List, length, length-take, length-drop, Ok, arith}
use Rattle.kinds.specs.Edition.{edition1, Sized, sheet_places}
use Rattle.sheet.specs.Layout.{WellFormed}
use Rattle.sheet.proofs.PlaceLaws.{last_part}
use Rattle.sheet.proofs.TableLaws.{check_sound}
use Rattle.maps.specs.Inside.{OpensSide}
use Rattle.maps.proofs.open.Goals as goal
use Rattle.maps.proofs.open.Goals.{In_ok-sizes}

module _ (c : In_ok-sizes) where
  sound : Sized edition1 c.args.n c.args.k × (length c.args.sheet.now ≡ sheet_places edition1) × WellFormed edition1 c.args.n c.args.k c.args.sheet.now
  sound = check_sound (Ok c.in_ok-sizes.sizes) c.args.fits c.in_ok-sizes.ensures.answer refl

  formed : WellFormed edition1 c.in_ok-sizes.sizes.n c.in_ok-sizes.sizes.k c.args.sheet.now
  formed = let (same_n, same_k) = c.in_ok-sizes.ensures.sizes in rw (same_n, same_k) sound.2

pub slice_bounds-open_side-end : goal.slice_bounds-open_side-end
slice_bounds-open_side-end c = simp length-take (omega (arith, (sound (goal.at.slice_bounds-open_side-end c).In_ok-sizes).1))

pub open_side-write-requires : goal.open_side-write-requires
open_side-write-requires c =
    let open_at = (goal.at.open_side-write-requires c).In_ok-sizes in
    record { places = simp length-take (omega (arith, (sound open_at).1)); formed = (formed open_at).write }

pub slice_bounds-open_side-count : goal.slice_bounds-open_side-count
slice_bounds-open_side-count c = omega (arith, (sound (goal.at.slice_bounds-open_side-count c).In_ok-sizes).1)

pub slice_bounds-open_side-start : goal.slice_bounds-open_side-start
slice_bounds-open_side-start c = omega (arith, (sound (goal.at.slice_bounds-open_side-start c).In_ok-sizes).1)

pub open_side-read-requires : goal.open_side-read-requires
open_side-read-requires c =
    let open_at = (goal.at.open_side-read-requires c).In_ok-sizes in
    record {
      places = simp (length-take, length-drop) (omega (arith, (sound open_at).1));
      formed = rw (last_part c.args.sheet.now 0 32) (formed open_at).read;
    }

pub returns : goal.returns
returns c =
    let (same_n, same_k) = c.in_ok-sizes.ensures.sizes in
    record {
      answer = c.in_ok-sizes.ensures.answer;
      sides = rw (← same_n, ← same_k) (record {
        write = c.open_side-write.ensures;
        read = subst (λ (l : List ℕ). OpensSide c.in_ok-sizes.sizes.n c.in_ok-sizes.sizes.k l c.open_side-read.result) (last_part c.args.sheet.now 0 32) c.open_side-read.ensures;
      });
    }
