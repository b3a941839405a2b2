-- The nearest significant token, or 0..0: the list is exhausted, so it is one of the whole list.
use mathlib.Core.Path.{refl, ap, ◌∙◌}
use Rattle.token.specs.Tokens.{all_tokens}
use Rattle.token.specs.Spans.{span_after}
use Rattle.output.specs.Pour.{put}
use Rattle.output.specs.LookLaws.{looked_up_lem, report_as, event_after_lem, none_left}
use Rattle.array_parts.proofs.turn.unclosed.Goals as goal

pub returns : goal.returns
returns c = λ base q.
    c.emit.ensures (all_tokens _ base) _
    ∙ ap (put (all_tokens _ base) _) (c.report-i.ensures (all_tokens _ base) _ ∙ report_as _ _ _ _ _ _ _ _ refl (ap span_after (looked_up_lem _ _ base _ _ _ _ c.requires.good q c.nearest_before-last.ensures (none_left _ _ c.requires.c_value))))
    ∙ event_after_lem _ _ _ _ _ (looked_up_lem _ _ base _ _ _ _ c.requires.good q c.nearest_before-last.ensures (none_left _ _ c.requires.c_value))
