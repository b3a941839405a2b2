-- The words, where there is room.
use Rattle.std.proofs.Common.{lt-ltb, le-ltb, ◌*◌, arith}
use Rattle.rules.specs.Answer.{error_size}
use Rattle.mistake_rules.specs.Sheets.{put_at}
use Rattle.mistake_steps.proofs.PuttingLaws.{copied}
use Rattle.mistake_steps.proofs.putting.put_mistake.Goals as goal

pub returns-then-k-mistakes : goal.returns-then-k-mistakes
unfolding put_at
returns-then-k-mistakes c =
    rw (lt-ltb _ _ c.if-k-mistakes.true)
    (copied (c.args.k * error_size) _ c.args.words _ c.args.mistakes.now c.copy_from_slice.ensures.after c.copy_from_slice.ensures.len (omega arith))

pub returns-else-k-mistakes : goal.returns-else-k-mistakes
unfolding put_at
returns-else-k-mistakes c = rw (le-ltb _ _ c.if-k-mistakes.false)
