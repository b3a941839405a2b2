-- Laws of putting mistakes down: one after the other they are what the buffer is filled with. Proved; nothing here needs to be believed.
use mathlib.Core.Path.{◌≡◌, refl, ap, sym, ◌∙◌}
use mathlib.Core.List.{List, [], ◌∷◌, ◌++◌, append-nil, append_assoc}
use Prim.Native.Nat.{ℕ, suc}
use native.Mathlib.Numerals.{add-one}
use lib.ListN.{length, length-append}
use Rattle.rules.specs.Answer.{error_size, filled}
use Rattle.filling.specs.FillLaws.{Sized}
use Rattle.filling.proofs.FillLaws.{sized_more, stored, filled_none}
use Rattle.mistake_rules.specs.Sheets.{Sheet, put_at, put_one, put_all}

pub put_append : (ws vs : List (List ℕ)) (o : Sheet) → put_all (ws ++ vs) o ≡ put_all vs (put_all ws o)
unfolding put_all
put_append [] vs o = refl
put_append (w ∷ ws) vs o = put_append ws vs (put_one w o)

-- behind entries that the buffer was filled with
put_behind : (es ws : List (List ℕ)) (l : List ℕ) → Sized error_size es → Sized error_size ws
    → put_all ws (record { count = length es; buffer = filled error_size es l }) ≡ record { count = length (es ++ ws); buffer = filled error_size (es ++ ws) l }
unfolding put_all put_at
put_behind es [] l z y = ap (λ (x : List (List ℕ)). record { count = length x; buffer = filled error_size x l }) (sym (append-nil es))
put_behind es (w ∷ ws) l z y =
    let one : suc (length es) ≡ length (es ++ (w ∷ [])) = sym (length-append es (w ∷ []) ∙ add-one (length es)) in
    (λ i. put_all ws (record { count = one i; buffer = stored error_size es w l z y.0 i }))
    ∙ put_behind (es ++ (w ∷ [])) ws l (sized_more error_size es w z y.0) y.1
    ∙ ap (λ (x : List (List ℕ)). record { count = length x; buffer = filled error_size x l }) (append_assoc es (w ∷ []) ws)

-- from the start
pub put_filled : (ws : List (List ℕ)) (l : List ℕ) → Sized error_size ws → put_all ws (record { count = 0; buffer = l }) ≡ record { count = length ws; buffer = filled error_size ws l }
put_filled ws l y = ap (λ (x : List ℕ). put_all ws (record { count = 0; buffer = x })) (sym (filled_none error_size l)) ∙ put_behind [] ws l tt y
