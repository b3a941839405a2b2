-- The bytes of the length, and behind them those of the kind, are the record.
use Rattle.std.proofs.Common.{◌≡◌, List, ℕ, [], ◌∷◌, ◌++◌, ◌+◌, ◌*◌, ◌≤◌, take, drop, length, ap, sym, ◌∙◌, append_assoc, arith}
use Rattle.std.proofs.Math.Seq.{drop-drop}
use Rattle.std.proofs.lemmas.Slice.{take-put_mid, drop-put_mid}
use borrow.Rule.Slice.PartMut.{put_mid}
use Rattle.token.specs.Writing.{put_at}
use Rattle.writing.proofs.put_record.Goals as goal

two_parts : (s : List ℕ) (at n m : ℕ) (a b c d e f : ℕ) → at + 6 ≤ length s → n ≡ 4 → m ≡ 2
    → put_mid (at + 4) m (put_mid at n s (a ∷ b ∷ c ∷ d ∷ [])) (e ∷ f ∷ []) ≡ take at s ++ (a ∷ b ∷ c ∷ d ∷ e ∷ f ∷ []) ++ drop (at + 6) s
two_parts s at n m a b c d e f h four two =
    let front : take (at + 4) (put_mid at n s (a ∷ b ∷ c ∷ d ∷ [])) ≡ take at s ++ (a ∷ b ∷ c ∷ d ∷ []) = take-put_mid at n s (a ∷ b ∷ c ∷ d ∷ []) (at + 4) (omega arith) (omega arith) in
    let six : at + 4 + 2 ≡ at + 6 = omega arith in
    let behind : drop m (drop (at + 4) (put_mid at n s (a ∷ b ∷ c ∷ d ∷ []))) ≡ drop (at + 6) s =
    rw (two, drop-drop 2 (at + 4) (put_mid at n s (a ∷ b ∷ c ∷ d ∷ [])), six) (drop-put_mid at n s (a ∷ b ∷ c ∷ d ∷ []) (at + 6) (omega arith) (omega arith) (sym four)) in
    ap (λ (l : List ℕ). l ++ (e ∷ f ∷ drop m (drop (at + 4) (put_mid at n s (a ∷ b ∷ c ∷ d ∷ []))))) front
    ∙ ap (λ (l : List ℕ). (take at s ++ (a ∷ b ∷ c ∷ d ∷ [])) ++ (e ∷ f ∷ l)) behind
    ∙ append_assoc (take at s) (a ∷ b ∷ c ∷ d ∷ []) (e ∷ f ∷ drop (at + 6) s)
    ∙ sym (append_assoc (take at s) (a ∷ b ∷ c ∷ d ∷ e ∷ f ∷ []) (drop (at + 6) s))

pub returns : goal.returns
unfolding put_at
returns c =
    let size = c.copy_from_slice.ensures.after ∙ ap (λ (bytes : List ℕ). take 4 bytes) c.to_le_bytes.ensures in
    let kind = c.copy_from_slice-2.ensures.after ∙ ap (λ (bytes : List ℕ). take 2 bytes) c.to_le_bytes-2.ensures in
    rw (size, kind) (two_parts c.args.records.now (6 * c.args.i) _ _ _ _ _ _ _ _ (c.requires) (omega arith) (omega arith))
