-- The room of the two buffers, then the list.
use Rattle.std.proofs.Common.{List, ap, ◌∙◌, length}
use Rattle.token.specs.Tokens.{all_tokens}
use Rattle.token.specs.CheckLaws.{checked_passes, passed_laid}
use Rattle.rules.specs.Answer.{error_size, filled}
use Rattle.mistake_rules.specs.Mistakes.{Mistake, all_words}
use Rattle.mistake_rules.proofs.OutcomeLaws.{passed_end, mistakes_short, mistakes_held}
use Rattle.mistakes.proofs.TakenLaws.{mistakes_taken}
use Rattle.mistakes.proofs.mistakes_of.Goals as goal

pub list_mistakes-found-requires-clause-s_bound : goal.list_mistakes-found-requires-clause-s_bound
list_mistakes-found-requires-clause-s_bound c = (passed_end _ _ c.requires, passed_laid _ _ (checked_passes _ _ c.requires))

pub list_mistakes-found-requires-clause-s_bound_2 : goal.list_mistakes-found-requires-clause-s_bound_2
list_mistakes-found-requires-clause-s_bound_2 c = (checked_passes _ _ c.requires).few

pub returns-then-room-found : goal.returns-then-room-found
returns-then-room-found c =
    let all = all_tokens c.args.s.now c.args.base in
    let taken = mistakes_taken c.args.answer.events c.args.events.now c.args.answer.errors c.args.errors.now c.if-events-answer.false c.if-errors-answer.false in
    let listed = c.list_mistakes-found.ensures ∙ ap (λ (ms : List Mistake). record { count = length ms; buffer = filled error_size (all_words all ms) c.args.mistakes.now }) taken in
    mistakes_short all (record { answer = c.args.answer; events = c.args.events.now; errors = c.args.errors.now }) c.args.mistakes.now c.if-events-answer.false c.if-errors-answer.false _ _ listed c.if-room-found.true

pub returns : goal.returns
returns c =
    let all = all_tokens c.args.s.now c.args.base in
    let taken = mistakes_taken c.args.answer.events c.args.events.now c.args.answer.errors c.args.errors.now c.if-events-answer.false c.if-errors-answer.false in
    let listed = c.list_mistakes-found.ensures ∙ ap (λ (ms : List Mistake). record { count = length ms; buffer = filled error_size (all_words all ms) c.args.mistakes.now }) taken in
    mistakes_held all (record { answer = c.args.answer; events = c.args.events.now; errors = c.args.errors.now }) c.args.mistakes.now c.if-events-answer.false c.if-errors-answer.false _ _ listed c.if-room-found.false
