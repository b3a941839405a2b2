-- The table of action numbers is the rule's table of actions, in each state at each kind of token.
use Rattle.std.proofs.Common.{◌≡◌, refl, List, [], ◌∷◌, ℕ, ◌-◌, ◌<◌, ◌≤◌, get_or, arith}
use Rattle.std.proofs.lemmas.List.{get_or_past}
use Rattle.token.specs.declared.kind.Kind.{Kind}
use Rattle.token.specs.Kinds.{number_of}
use Rattle.token.specs.KindLaws.{every_kind}
use Rattle.rules.specs.declared.inline_table.State.{State}
use Rattle.rules.specs.declared.inline_table.Action.TheVariants as A
use Rattle.rules.specs.InlineTable.{action_of}
use Rattle.inline_actions.specs.Actions.{row_of, action_from, action_table}

abbrev Right : State → Kind → Type 0
Right st k = action_from (get_or (get_or action_table (row_of st) []) (number_of k - 1) 0) ≡ action_of st k

pub table_right : (st : State) (k : Kind) → action_from (get_or (get_or action_table (row_of st) []) (number_of k - 1) 0) ≡ action_of st k
unfolding action_from action_table
table_right State.NeedsKey = every_kind (Right State.NeedsKey) refl refl refl refl refl refl refl refl refl refl refl refl refl refl refl refl
table_right State.NeedsEquals = every_kind (Right State.NeedsEquals) refl refl refl refl refl refl refl refl refl refl refl refl refl refl refl refl
table_right State.NeedsValue = every_kind (Right State.NeedsValue) refl refl refl refl refl refl refl refl refl refl refl refl refl refl refl refl
table_right State.NeedsComma = every_kind (Right State.NeedsComma) refl refl refl refl refl refl refl refl refl refl refl refl refl refl refl refl

pub row_small : (st : State) → row_of st < 4
row_small State.NeedsKey = omega arith
row_small State.NeedsEquals = omega arith
row_small State.NeedsValue = omega arith
row_small State.NeedsComma = omega arith

-- the same of a table that is this one, where the row and the column are the code's
pub table_entry : (t : List (List ℕ)) → t ≡ action_table → (st : State) (k : Kind) (i j : ℕ) → i ≡ row_of st → j ≡ number_of k → action_from (get_or (get_or t i []) (j - 1) 0) ≡ action_of st k
table_entry t h st k i j p q = rw (h, p, q) (table_right st k)

-- a number that is none of the other actions' is the last one's
abbrev pub NoKey : ℕ → Type 0
NoKey n = (((((((((((((((((((((((Unit {0}) × (n ≡ 0 → ⊥)) × (n ≡ 1 → ⊥)) × (n ≡ 2 → ⊥)) × (n ≡ 3 → ⊥)) × (n ≡ 4 → ⊥)) × (n ≡ 5 → ⊥)) × (n ≡ 6 → ⊥)) × (n ≡ 7 → ⊥)) × (n ≡ 8 → ⊥)) × (n ≡ 9 → ⊥)) × (n ≡ 10 → ⊥)) × (n ≡ 11 → ⊥)) × (n ≡ 12 → ⊥)) × (n ≡ 13 → ⊥)) × (n ≡ 14 → ⊥)) × (n ≡ 15 → ⊥)) × (n ≡ 16 → ⊥)) × (n ≡ 17 → ⊥)) × (n ≡ 18 → ⊥)) × (n ≡ 19 → ⊥)) × (n ≡ 20 → ⊥)) × (n ≡ 21 → ⊥)) × (n ≡ 22 → ⊥)

pub rest_action : (n : ℕ) → NoKey n → action_from n ≡ A.DotKeyWithoutComma
unfolding action_from
rest_action n h =
    let beyond : 23 ≤ n = omega (arith, h) in
    get_or_past (A.Whitespace ∷ A.Comment ∷ A.Newline ∷ A.Eof ∷ A.ValueSep ∷ A.ExtraComma ∷ A.EmptyKey ∷ A.KeyValSep ∷ A.ExtraAssignment ∷ A.KeylessArray ∷ A.KeylessTable ∷ A.UnassignedArray ∷ A.UnassignedTable ∷ A.UnassignedScalar ∷ A.Array ∷ A.Table ∷ A.Scalar ∷ A.Close ∷ A.InvalidElement ∷ A.ArrayWithoutOpen ∷ A.Key ∷ A.DotKey ∷ A.KeyWithoutComma ∷ []) n A.DotKeyWithoutComma beyond
