-- The iterator stands before tick c: the words from that tick on are left to hand out, and the lines from it on are left to write.
use Rattle.std.proofs.Common.{List, ℕ, ◌≡◌, ◌*◌, ◌^◌, drop}
use Rattle.std.specs.Iterator.Adapters.{enumerate_source, enumerate_count}
use Rattle.std.specs.Slice.Iter.{chunks_rest, chunks_size}
use Rattle.lines.proofs.WriteLaws.{Left}
use Rattle.listed.specs.Inside.{tick_lines, Frames}
use Rattle.listed.proofs.TickLaws.{ticks_from}
use Rattle.listed.proofs.put_ticks.Given as goal

pub record Writing (k : ℕ) (l : List ℕ) (at : ℕ) (text₀ text : List ℕ) (place c size : ℕ) (rest : List ℕ) : Type 0 where
  pub frames : Frames k l
  pub words : size ≡ 2 ^ k
  pub others : rest ≡ drop (c * 2 ^ k) l
  pub left : Left (tick_lines k l) at text₀ (ticks_from k l c) place text

abbrev pub invariant-loop-c : goal.invariant-loop-c
invariant-loop-c l =
    let chunks = enumerate_source l.c-iterator in
    Writing l.fn.sizes.k l.frame l.at l.initial.text l.text l.place (enumerate_count l.c-iterator) (chunks_size chunks) (chunks_rest chunks)
