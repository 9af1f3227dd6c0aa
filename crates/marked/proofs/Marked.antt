-- 01's marked cases, computed.
--   marked_cases_law      each of them holds
use mathlib.Core.List.{flatten}
use mathlib.Core.Path.{refl}
use native.Mathlib.Decide.{ℕ_discrete, dec_le, dec_lt}
use lib.Count.{ones}
use Rattle.kinds.specs.Decisions.{sized?, right_lengths?}
use Rattle.kinds.specs.Frame.{in_order}
use Rattle.kinds.specs.First.{first_of}
use Rattle.kinds.specs.Decided.{some_below, each_below}
use Rattle.kinds.specs.Search.{those}
use Rattle.bits.specs.Image.{image, columns}
use Rattle.bits.specs.Decisions.{all_below?}
use Rattle.bits.specs.Parity.{parity, dot}
use Rattle.span.specs.Decisions.{bijection?, sum_of?, independent?}
use Rattle.span.specs.Scan.{kept_at, others, mask, masks}
use Rattle.span.specs.Rows.{dots, rows}
use Rattle.sheet.specs.Sheet.{stages_in}
use Rattle.sheet.specs.Decisions.{from_to?, stage_in_range?, each_stage?, in_range?, all_zero?, formed_side?, well_formed?}
use Rattle.switches.specs.Stages.{bank_after}
use Rattle.switches.specs.Written.{kept_stages_of}
use Rattle.faults.specs.Marks.{put}
use Rattle.promise.specs.Run.{standing}
use Rattle.construction.specs.Planned.{others_of_p1, ports_to_zero, kept_of_p3, read_stages_of}
use Rattle.lay.specs.Staged.{pairs}
use Rattle.marked.specs.Cases.{EachAsSaid, marked_cases}

pub marked_cases_law : EachAsSaid marked_cases
unfolding first_of ℕ_discrete dec_le dec_lt sized? right_lengths? in_order flatten ones some_below each_below those image columns all_below? parity dot bijection? sum_of? independent? kept_at others mask masks dots rows stages_in from_to? stage_in_range? each_stage? in_range? all_zero? formed_side? well_formed? bank_after kept_stages_of put standing others_of_p1 ports_to_zero kept_of_p3 pairs read_stages_of
marked_cases_law = ((refl, refl), (refl, (refl, ((refl, refl), (refl, ((refl, refl), (refl, ((refl, refl), (refl, ((refl, refl, refl, refl), ((refl, refl), ((refl, refl), (refl, (refl, (refl, (refl, tt))))))))))))))))
