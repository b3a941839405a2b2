-- A kind's number names it, and every other number is Eof.
use mathlib.Core.Path.{sym}
use Rattle.token.specs.Kinds.{kind_of}
use Rattle.token.specs.KindLaws.{rest_eof}
use Rattle.std.proofs.Common.{rules}
use Rattle.token.proofs.kind.kind_of.Goals as goal

pub returns-in-1 : goal.returns-in-1
unfolding kind_of
returns-in-1 c = search rules

pub returns-in-2 : goal.returns-in-2
unfolding kind_of
returns-in-2 c = search rules

pub returns-in-3 : goal.returns-in-3
unfolding kind_of
returns-in-3 c = search rules

pub returns-in-4 : goal.returns-in-4
unfolding kind_of
returns-in-4 c = search rules

pub returns-in-5 : goal.returns-in-5
unfolding kind_of
returns-in-5 c = search rules

pub returns-in-6 : goal.returns-in-6
unfolding kind_of
returns-in-6 c = search rules

pub returns-in-7 : goal.returns-in-7
unfolding kind_of
returns-in-7 c = search rules

pub returns-in-8 : goal.returns-in-8
unfolding kind_of
returns-in-8 c = search rules

pub returns-in-9 : goal.returns-in-9
unfolding kind_of
returns-in-9 c = search rules

pub returns-in-10 : goal.returns-in-10
unfolding kind_of
returns-in-10 c = search rules

pub returns-in-11 : goal.returns-in-11
unfolding kind_of
returns-in-11 c = search rules

pub returns-in-12 : goal.returns-in-12
unfolding kind_of
returns-in-12 c = search rules

pub returns-in-13 : goal.returns-in-13
unfolding kind_of
returns-in-13 c = search rules

pub returns-in-14 : goal.returns-in-14
unfolding kind_of
returns-in-14 c = search rules

pub returns-in-15 : goal.returns-in-15
unfolding kind_of
returns-in-15 c = search rules

pub returns-in_default : goal.returns-in_default
returns-in_default c = sym (rest_eof _ (search rules) (search rules) (search rules) (search rules) (search rules) (search rules) (search rules) (search rules) (search rules) (search rules) (search rules) (search rules) (search rules) (search rules) (search rules))
