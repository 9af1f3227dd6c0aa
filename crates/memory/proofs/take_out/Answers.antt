use Rattle.std.proofs.Common.{ℕ, ◌≡◌, ◌+◌, ◌<◌, List, length, get_or, set, sym, ◌∙◌, arith, zero-add, add-one}
use native.Mathlib.Decide.{dec_le}
use Rattle.std.proofs.lemmas.Grind.{common_steps}
use lib.ListN.{length-map, get_or-map, length-set}
use lib.Seq.{paste-suc}
use Rattle.kinds.proofs.TruthLaws.{holds_yes}
use Rattle.memory.specs.Memory.{words_at}
use Rattle.memory.proofs.MemoryLaws.{put_done, mark_more}
use Rattle.memory.proofs.take_out.Invariants.{Taking}
use Rattle.memory.proofs.take_out.Goals as goal

module _ {cells out₀ words marks₀ out marks : List ℕ} {p : ℕ} (i : Taking cells out₀ words marks₀ out marks p) where
  onward : p < length cells → Taking cells out₀ words marks₀ (set out p (get_or words (get_or cells p 0) 0)) (set marks (get_or cells p 0) 0) (p + 1)
  onward h = record {
    room = i.room;
    same = length-set out p (get_or words (get_or cells p 0) 0) ∙ i.same;
    front =
        rw (i.front, ← get_or-map (λ x. get_or words x 0) cells p 0, add-one p)
        (simp zero-add at (paste-suc out₀ 0 (words_at cells words) p (get_or words 0 0) (omega (arith, i.room)) (omega (arith, length-map cells (λ x. get_or words x 0)))));
    clears = mark_more 0 i.clears h;
  }

  more : {word : ℕ} {marks' : List ℕ} → p < length cells → word ≡ get_or words (get_or cells p 0) 0 → marks' ≡ set marks (get_or cells p 0) 0
      → Taking cells out₀ words marks₀ (set out p word) marks' (p + 1)
  more h w m = rw (w, m) (onward h)

pub loop-p-preserved : goal.loop-p-preserved
loop-p-preserved c = more c.loop-p.invariant c.loop-p-test.true (grind (arith, common_steps)) c.put_at.ensures

pub returns-clause-marks_after : goal.returns-clause-marks_after
returns-clause-marks_after c =
    let i = c.loop-p.invariant in
    put_done i.clears c.loop-p-test.false ∙ sym (holds_yes (dec_le (length c.args.cells.now) (length c.args.out.now)) _ _ i.room)
