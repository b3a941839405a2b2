-- How the code puts mistakes down, one at a time: what does not fit is counted and not written. Assumes nothing.
use Rattle.std.specs.Prelude.{ℕ, suc, ◌*◌, ◌/◌, cond, List, [], ◌∷◌, length, ltb}
use Rattle.std.proofs.lemmas.List.Edits.{sets}
use Rattle.rules.specs.Answer.{error_size}

-- a buffer, and how many mistakes were put into it
pub record Sheet : Type 0 where
  pub count : ℕ
  pub buffer : List ℕ

-- entry i, where there is room for it
unfoldable pub put_at : ℕ → List ℕ → List ℕ → List ℕ
put_at i words buffer = cond (ltb i (length buffer / error_size)) (sets buffer (i * error_size) words) buffer

abbrev pub put_one : List ℕ → Sheet → Sheet
put_one words o = record { count = suc o.count; buffer = put_at o.count words o.buffer }

-- one after the other
unfoldable pub put_all : List (List ℕ) → Sheet → Sheet
put_all [] o = o
put_all (words ∷ more) o = put_all more (put_one words o)
