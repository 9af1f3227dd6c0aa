use Rattle.std.proofs.Common.{ℕ, ◌≡◌, ◌+◌, ◌<◌, List, length, get_or, set, sym, ◌∙◌}
use native.Mathlib.Decide.{ℕ_discrete}
use Rattle.kinds.proofs.TruthLaws.{holds_yes}
use Rattle.memory.proofs.MemoryLaws.{put_more, put_done, mark_more}
use Rattle.memory.proofs.store.Invariants.{Storing}
use Rattle.memory.proofs.store.Goals as goal

more : {cells came words₀ marks₀ words marks words' marks' : List ℕ} {p : ℕ} → Storing cells came words₀ marks₀ words marks p → p < length cells
    → words' ≡ set words (get_or cells p 0) (get_or came p 0) → marks' ≡ set marks (get_or cells p 0) 1 → Storing cells came words₀ marks₀ words' marks' (p + 1)
more i h w m = rw (w, m) (record { stores = put_more i.stores h; fills = mark_more 1 i.fills h })

pub loop-p-preserved : goal.loop-p-preserved
loop-p-preserved c = more c.loop-p.invariant c.loop-p-test.true c.put_at.ensures c.put_at-in-loop-p.ensures

pub returns-clause-words_after : goal.returns-clause-words_after
returns-clause-words_after c =
    let stores = c.loop-p.invariant.stores in
    put_done stores c.loop-p-test.false ∙ sym (holds_yes (ℕ_discrete (length c.args.came.now) (length c.args.cells.now)) _ _ stores.one_each)

pub returns-clause-marks_after : goal.returns-clause-marks_after
returns-clause-marks_after c =
    let i = c.loop-p.invariant in
    put_done i.fills c.loop-p-test.false ∙ sym (holds_yes (ℕ_discrete (length c.args.came.now) (length c.args.cells.now)) _ _ i.stores.one_each)
