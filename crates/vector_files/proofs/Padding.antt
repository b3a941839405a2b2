-- Of whole words that were read, the first bytes are given, and fewer than four more. Proved; nothing here needs to be believed.
use Rattle.std.proofs.Common.{◌≡◌, ◌∙◌, sym, ap, subst, ℕ, ◌+◌, ◌-◌, ◌%◌, ◌<◌, ◌≤◌, Option, List, length, take, drop, arith}
use Rattle.std.proofs.lemmas.List.{length-drop, length-take-le, take-append-drop}
use Rattle.std.specs.Io.KnownBytes.{Consumes}
use Rattle.vector_files.specs.Padded.{ReadsPadded}

pub padded : (before after : Option (List ℕ)) (read : List ℕ) (n : ℕ) → n ≤ length read → length read < n + 4 → length read % 4 ≡ 0 → Consumes before after read → ReadsPadded before after (take n read)
padded before after read n within few whole given =
    let left : length (drop n read) ≡ length read - n = length-drop n read in
    let kept : length (take n read) ≡ n = length-take-le n read within in
    let all : length (take n read) + length (drop n read) ≡ length read = omega (arith, left, kept, within) in
    record {
      padding = drop n read;
      few = omega (arith, left, few);
      whole = ap (λ k. k % 4) all ∙ whole;
      given = subst (Consumes before after) (sym (take-append-drop n read)) given;
    }
