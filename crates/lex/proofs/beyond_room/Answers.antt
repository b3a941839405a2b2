-- There are not more than bytes and one, or they are counted.
use native.Mathlib.Omega.{arith}
use lib.ListN.{length, length-drop, drop}
use Rattle.scan.specs.Lexer.{tokens_from}
use Rattle.scan.specs.LexerLaws.{lexer_few}
use Rattle.lex.specs.LexLaws.{beyond_many, beyond_few}
use Rattle.lex.proofs.beyond_room.Goals as goal

pub returns-then-text-room : goal.returns-then-text-room
returns-then-text-room c =
    beyond_few c.args.room (length (tokens_from c.args.text.now c.args.base))
    (omega (arith, c.if-text-room.true, lexer_few 0 c.args.base (drop c.args.base c.args.text.now), length-drop c.args.base c.args.text.now))

pub count-n-requires : goal.count-n-requires
count-n-requires c = c.requires

pub returns-then-room-n : goal.returns-then-room-n
returns-then-room-n c = beyond_many c.args.room (length (tokens_from c.args.text.now c.args.base)) _ c.count-n.ensures c.if-room-n.true

pub returns : goal.returns
returns c = beyond_few c.args.room (length (tokens_from c.args.text.now c.args.base)) (omega (arith, c.if-room-n.false, c.count-n.ensures))
