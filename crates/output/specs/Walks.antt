-- What every walk promises: what it leaves in the buffers is what the rule's items, poured, leave there. Assumes nothing.
use Rattle.std.specs.Prelude.{◌≡◌, List, ℕ, ◌≤◌}
use Rattle.token.specs.Tokens.{Tok, all_tokens, tokens_at, Good}
use Rattle.token.specs.declared.cursor.Cursor.{Cursor}
use Rattle.rules.specs.Out.{Out}
use Rattle.output.specs.declared.emitting.Walk.{Walk}
use Rattle.output.specs.Pour.{Bufs, bufs, pour}

-- where a walk ends: the buffers, and the tokens that are left
pub record End : Type 0 where
  pub out : Bufs
  pub rest : List Tok

-- the end of a rule's answer that is poured onto o; `all` are all tokens of the input
unfoldable pub run : List Tok → Out → Bufs → End
run all r o = record { out = pour all r.items o; rest = r.rest }

-- the end of a walk of the code
abbrev pub end_of : List ℕ → List ℕ → List ℕ → Walk → End
end_of s events errors w = record { out = bufs events errors w.n; rest = tokens_at s w.cur }

-- a walk over the records s from cursor c and buffers o, by the rule's answer r, ended with the buffers a and b and as w says
pub record Goes (s : List ℕ) (r : Out) (c : Cursor) (o : Bufs) (a b : List ℕ) (w : Walk) : Type 0 where
  pub is : (base : ℕ) → c.base ≡ base → end_of s a b w ≡ run (all_tokens s base) r o
  pub good : Good s w.cur
  pub on : c.at ≤ w.cur.at
  pub base : w.cur.base ≡ c.base
