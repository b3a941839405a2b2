-- What holds of the tokens of every text: they lie end to end from the base to the text's end, are at most one more than bytes, and
-- their records are read again and pass the check. Proved; nothing here needs to be believed.
use Rattle.std.specs.Prelude.{◌≡◌, refl, Bool, true, false, cond, List, ℕ, ◌+◌, ◌≤◌, ◌<◌, length, drop, Ok}
use Rattle.std.proofs.Common.{ap, sym, ◌∙◌, arith, drop-drop}
use Rattle.std.proofs.lemmas.Bool.{false≢true}
use Rattle.std.proofs.Math.ListN.{length-drop}
use Rattle.token.specs.Limits.{max_records, max_end}
use Rattle.token.specs.Tokens.{all_tokens}
use Rattle.token.specs.Check.{checked}
use Rattle.token.specs.Laid.{Laid, end_of}
use Rattle.token.specs.Writing.{records_of}
use Rattle.token.specs.LaidLaws.{read_back, pass_back}
use Rattle.places.specs.Places.{is_byte, peeks, starts_with}
use Rattle.places.specs.PlaceLaws.{peeks_within}
use Rattle.scan.specs.Lexer.{tokens_of, base_of, byte_order_mark}
use Rattle.scan.specs.LexerLaws.{lexer_few}
use Rattle.scan.specs.ShortLaws.{laid, end_of_lem}

-- a byte order mark lies within the text
third : (a b c : Bool) → cond a (cond b (cond c true false) false) false ≡ true → c ≡ true
third true true true e = refl
third true true false e = absurd (false≢true e)
third true false c e = absurd (false≢true e)
third false b c e = absurd (false≢true e)

mark_long : (s : List ℕ) → starts_with byte_order_mark s ≡ true → 3 ≤ length s
mark_long s e =
    let l : 2 < length s = peeks_within (is_byte 191) s 2 (ap (peeks (is_byte 191)) (sym (drop-drop 1 1 s)) ∙ third (peeks (is_byte 239) s) (peeks (is_byte 187) (drop 1 s)) _ e) in
    omega (arith, l)

base_by : (t : Bool) (n : ℕ) → (t ≡ true → 3 ≤ n) → cond t 3 0 ≤ n
base_by true n h = h refl
base_by false n h = omega arith

pub base_within : (text : List ℕ) → base_of text ≤ length text
base_within text = base_by (starts_with byte_order_mark text) (length text) (mark_long text)

pub base_small : (text : List ℕ) → base_of text ≤ 3
base_small text = base_by (starts_with byte_order_mark text) 3 (λ e. omega arith)

module _ (text : List ℕ) where
  -- end to end, each as long as its kind allows
  pub text_laid : Laid (base_of text) (tokens_of text)
  unfolding tokens_of
  text_laid = laid 0 (base_of text) (drop (base_of text) text)

  -- to the text's end
  pub text_end_lem : end_of (base_of text) (tokens_of text) ≡ length text
  unfolding tokens_of
  text_end_lem =
      let e = end_of_lem 0 (base_of text) (drop (base_of text) text) (omega arith) in
      omega (arith, e, length-drop (base_of text) text, base_within text)

  -- at most one more than bytes
  pub text_few : length (tokens_of text) ≤ length text + 1
  unfolding tokens_of
  text_few = omega (arith, lexer_few 0 (base_of text) (drop (base_of text) text), length-drop (base_of text) text)

  module _ (short : length text ≤ max_end) where
    -- the records stand for the tokens
    pub text_read : all_tokens (records_of (tokens_of text)) (base_of text) ≡ tokens_of text
    text_read = read_back text_laid (omega (arith, text_end_lem, short))

    -- and pass the check
    pub text_passes : length (tokens_of text) ≤ max_records → checked (records_of (tokens_of text)) (base_of text) ≡ Ok tt
    text_passes few = pass_back text_laid (omega (arith, text_end_lem, short)) few
