-- A run that was refused has no list; else its records pass the check, and its mistakes are listed.
use native.Mathlib.Omega.{arith}
use mathlib.Core.Path.{sym}
use lib.Seq.{length-take-le}
use Rattle.text_listing.proofs.CheckLaws.{check_refused, check_few, check_room, check_passes, check_listed}
use Rattle.text_listing.proofs.list_read.Goals as goal

pub returns-then-refusal-ne0 : goal.returns-then-refusal-ne0
returns-then-refusal-ne0 c = λ text records events errors is. check_refused text records events errors c.args.mistakes.now _ _ _ _ is _ c.if-refusal-ne0.true c.checked.ensures

pub overflow_mul-size : goal.overflow_mul-size
overflow_mul-size c = record { fits = omega (arith, check_few c.requires.text c.requires.records c.requires.events c.requires.errors c.args.mistakes.now _ _ _ _ c.requires.is c.if-refusal-ne0.false) }

pub slice_bounds-mistakes_of-end : goal.slice_bounds-mistakes_of-end
slice_bounds-mistakes_of-end c = sym (length-take-le _ _ (check_room c.requires.text c.requires.records c.requires.events c.requires.errors c.args.mistakes.now _ _ _ _ c.requires.is c.if-refusal-ne0.false))

pub mistakes_of-found-requires : goal.mistakes_of-found-requires
mistakes_of-found-requires c = check_passes c.requires.text c.requires.records c.requires.events c.requires.errors c.args.mistakes.now _ _ _ _ c.requires.is c.if-refusal-ne0.false

pub returns : goal.returns
returns c = λ text records events errors is. check_listed text records events errors c.args.mistakes.now _ _ _ _ is c.if-refusal-ne0.false _ _ _ c.checked-2.ensures c.mistakes_of-found.ensures
