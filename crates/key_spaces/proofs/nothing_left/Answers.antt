-- The nearest significant token, or 0..0: the list is exhausted, so it is one of the whole list.
use mathlib.Core.Path.{ap, ◌∙◌}
use Rattle.token.specs.Spans.{span_after}
use Rattle.output.specs.LookLaws.{looked_up_lem, report_as, none_left}
use Rattle.key_spaces.proofs.nothing_left.Goals as goal

pub returns : goal.returns
returns c = λ base events q. c.report.ensures _ events ∙ report_as _ _ _ _ _ _ _ _ (looked_up_lem _ _ base _ _ _ _ c.requires.good q c.nearest_before-last.ensures (none_left _ _ c.requires.c_value)) (ap span_after (looked_up_lem _ _ base _ _ _ _ c.requires.good q c.nearest_before-last.ensures (none_left _ _ c.requires.c_value)))
