-- The C structure holds the entry's answer, or that to an unknown mode.
use Rattle.rules.specs.Entries.{key_entry}
use Rattle.choices.specs.ModeLaws.{known_answers, unknown_answers}
use Rattle.export_answers.specs.ExportLaws.{exports}
use Rattle.deckmarten.proofs.deckmarten_parse_key.Goals as goal

pub returns-in-Some : goal.returns-in-Some
returns-in-Some c = exports c.args.options.mode key_entry c.args.s.now c.args.base c.args.events.now c.args.errors.now _ _ _ _ c.from.ensures (known_answers c.args.options.mode key_entry c.args.s.now c.args.base c.args.events.now c.args.errors.now _ c.choose.ensures _ _ _ _ c.in-Some.is c.parse_key.ensures)

pub returns-in-None : goal.returns-in-None
returns-in-None c = exports c.args.options.mode key_entry c.args.s.now c.args.base c.args.events.now c.args.errors.now _ _ _ _ c.from-in-None.ensures (unknown_answers c.args.options.mode key_entry c.args.s.now c.args.base c.args.events.now c.args.errors.now _ c.choose.ensures _ c.in-None.is c.unknown_mode.ensures)
