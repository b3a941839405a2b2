-- Laws of the errors that are placed and numbered one by one. Proved; nothing here needs to be believed.
use mathlib.Core.Path.{◌≡◌, refl, ap, subst, ◌∙◌}
use mathlib.Core.List.{List}
use Prim.Native.Nat.{ℕ, suc, ◌+◌, ◌*◌, ◌<◌, ◌≤◌}
use native.Mathlib.Omega.{arith}
use lib.ListN.{length, get_or, set, length-set}
use Rattle.token.specs.declared.span.Span.{Span}
use Rattle.token.specs.Limits.{max_end}
use Rattle.token.specs.Laid.{Laid}
use Rattle.token.specs.Records.{count, start_at}
use Rattle.token.specs.Tokens.{all_tokens}
use Rattle.rules.specs.declared.options.Mode.{Mode}
use Rattle.rules.specs.Answer.{error_size}
use Rattle.rules.specs.Lines.{line_of}
use Rattle.line_points.specs.declared.points.LinePoint.{LinePoint}
use Rattle.line_numbers.specs.declared.numbering.Placed.{Placed}
use Rattle.blamed_commas.specs.declared.commas.Comma.{Comma}
use Rattle.line_points.specs.Points.{Begins, Counted}
use Rattle.blamed_commas.specs.Commas.{Known}
use Rattle.line_numbers.specs.Placing.{Places}
use Rattle.line_numbers.specs.Numbering.{placed_at, spanned, numbered_at, numbered_first}
use Rattle.line_points.specs.PointLaws.{counted_begun}
use Rattle.blamed_commas.specs.CommaLaws.{none_known}

-- the first i errors are numbered, the point is counted, and the comma is known
pub record Numbering (s : List ℕ) (base : ℕ) (mode : Mode) (n : ℕ) (errors₀ : List ℕ) (p : LinePoint) (m : Comma) (i : ℕ) (errors : List ℕ) : Type 0 where
  pub point : Counted s base p
  pub comma : Known s base m
  pub few : i ≤ n
  pub done : errors ≡ numbered_first mode (all_tokens s base) i errors₀
  pub kept : length errors ≡ length errors₀

pub numbering_begun : {s : List ℕ} {base : ℕ} (mode : Mode) (n : ℕ) (errors : List ℕ) {p : LinePoint} {m : Comma} → start_at s base (count s) ≤ max_end → Laid base (all_tokens s base) → Begins base p → (m.upto ≡ 0) × (m.behind ≡ 0) → Numbering s base mode n errors p m 0 errors
unfolding numbered_first
numbering_begun {s} {base} mode n errors {p} {m} h l b z = record { point = counted_begun s base p h l b; comma = none_known s base m z; few = omega arith; done = refl; kept = refl }

module _ {s : List ℕ} {base : ℕ} {mode : Mode} {n : ℕ} {errors₀ : List ℕ} {p : LinePoint} {m : Comma} {i : ℕ} {errors : List ℕ} (x : Numbering s base mode n errors₀ p m i errors) where
  pub numbering_on : i < n → {u : Placed} → Places s p.cur.base mode (get_or errors (i * error_size + 4) 0) (get_or errors (i * error_size + 5) 0) (get_or errors (i * error_size + 6) 0) u
      → Numbering s base mode n errors₀ u.point u.comma (i + 1) (set (set (set errors (i * error_size + 4) u.start) (i * error_size + 5) u.end) (i * error_size + 6) u.line)
  unfolding numbered_first
  numbering_on l {u} places =
      let b = i * error_size in
      let y = subst (λ (a : ℕ). Places s a mode (get_or errors (b + 4) 0) (get_or errors (b + 5) 0) (get_or errors (b + 6) 0) u) x.point.based places in
      let v = placed_at mode (all_tokens s base) b errors in
      let words : set (set (set errors (b + 4) u.start) (b + 5) u.end) (b + 6) u.line ≡ spanned errors b v (line_of (all_tokens s base) v.start) =
      ap (λ (w : Span). spanned errors b w u.line) y.span ∙ ap (spanned errors b v) y.line in
      let one : suc i ≡ i + 1 = omega arith in
      record {
        point = y.point;
        comma = y.comma;
        few = omega (arith, l);
        done = words ∙ ap (numbered_at mode (all_tokens s base) b) x.done ∙ ap (λ (k : ℕ). numbered_first mode (all_tokens s base) k errors₀) one;
        kept = length-set (set (set errors (b + 4) u.start) (b + 5) u.end) (b + 6) u.line ∙ length-set (set errors (b + 4) u.start) (b + 5) u.end ∙ length-set errors (b + 4) u.start ∙ x.kept;
      }
