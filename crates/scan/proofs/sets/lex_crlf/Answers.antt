-- A line feed is taken too.
use mathlib.Core.Path.{sym, ◌∙◌}
use native.Mathlib.Omega.{arith}
use Rattle.places.specs.Places.{is_byte}
use Rattle.places.specs.PlaceLaws.{peeks_within}
use Rattle.scan.proofs.sets.lex_crlf.Goals as goal

pub overflow_add-result : goal.overflow_add-result
overflow_add-result c = omega (arith, peeks_within (is_byte 10) c.args.text.now c.args.at ((sym c.is_at.ensures) ∙ c.if-is_at.true))

pub returns-then-is_at : goal.returns-then-is_at
returns-then-is_at c = record { is = rw ((sym c.is_at.ensures) ∙ c.if-is_at.true); within = omega (arith, peeks_within (is_byte 10) c.args.text.now c.args.at ((sym c.is_at.ensures) ∙ c.if-is_at.true)) }

pub returns-else-is_at : goal.returns-else-is_at
returns-else-is_at c = record { is = rw ((sym c.is_at.ensures) ∙ c.if-is_at.false) (omega arith); within = c.requires }
