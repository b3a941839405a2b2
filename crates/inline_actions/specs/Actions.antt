-- The table of an inline table's actions, in numbers. Assumes nothing.
use Rattle.std.specs.Prelude.{List, [], ◌∷◌, ℕ, get_or}
use Rattle.rules.specs.declared.inline_table.State.{State}
use Rattle.rules.specs.declared.inline_table.Action.{Action}
use Rattle.rules.specs.declared.inline_table.Action.TheVariants as A
use Rattle.rules.specs.InlineTable.{actions}

-- the row of a state in the table of actions
abbrev pub row_of : State → ℕ
row_of State.NeedsKey = 0
row_of State.NeedsEquals = 1
row_of State.NeedsValue = 2
row_of State.NeedsComma = 3

-- the number of an action
abbrev pub action_number : Action → ℕ
action_number A.Whitespace = 0
action_number A.Comment = 1
action_number A.Newline = 2
action_number A.Eof = 3
action_number A.ValueSep = 4
action_number A.ExtraComma = 5
action_number A.EmptyKey = 6
action_number A.KeyValSep = 7
action_number A.ExtraAssignment = 8
action_number A.KeylessArray = 9
action_number A.KeylessTable = 10
action_number A.UnassignedArray = 11
action_number A.UnassignedTable = 12
action_number A.UnassignedScalar = 13
action_number A.Array = 14
action_number A.Table = 15
action_number A.Scalar = 16
action_number A.Close = 17
action_number A.InvalidElement = 18
action_number A.ArrayWithoutOpen = 19
action_number A.Key = 20
action_number A.DotKey = 21
action_number A.KeyWithoutComma = 22
action_number A.DotKeyWithoutComma = 23

-- the action of a number, and the last of one that names none
unfoldable pub action_from : ℕ → Action
action_from n =
    get_or (A.Whitespace ∷ A.Comment ∷ A.Newline ∷ A.Eof ∷ A.ValueSep ∷ A.ExtraComma ∷ A.EmptyKey ∷ A.KeyValSep ∷ A.ExtraAssignment ∷ A.KeylessArray ∷ A.KeylessTable ∷ A.UnassignedArray ∷ A.UnassignedTable ∷ A.UnassignedScalar ∷ A.Array ∷ A.Table ∷ A.Scalar ∷ A.Close ∷ A.InvalidElement ∷ A.ArrayWithoutOpen ∷ A.Key ∷ A.DotKey ∷ A.KeyWithoutComma ∷ []) n A.DotKeyWithoutComma

abbrev pub numbers : List Action → List ℕ
numbers [] = []
numbers (x ∷ xs) = action_number x ∷ numbers xs

-- the rule's table, by the numbers of its actions: a row a state and a column a kind of token
unfoldable pub action_table : List (List ℕ)
action_table = numbers (actions State.NeedsKey) ∷ numbers (actions State.NeedsEquals) ∷ numbers (actions State.NeedsValue) ∷ numbers (actions State.NeedsComma) ∷ []
