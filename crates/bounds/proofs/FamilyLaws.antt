-- The lists of Families.antt give the most that a list of their length can. Nothing here needs to be believed.
use mathlib.Core.Path.{◌≡◌, refl, ap, sym, ◌∙◌}
use mathlib.Core.List.{List, [], ◌∷◌, ◌++◌, append-nil}
use Prim.Native.Nat.{ℕ, zero, suc, ◌+◌, ◌*◌, ◌/◌, ◌≤◌}
use native.Mathlib.Nat.{not-suc-le-zero, le_of_suc-le-suc, le_of_eq}
use native.Mathlib.Omega.{arith}
use lib.ListN.{length}
use Rattle.token.specs.declared.kind.Kind.{Kind}
use Rattle.token.specs.declared.kind.Kind.TheVariants.{Dot, Equals, RightCurlyBracket}
use Rattle.token.specs.Tokens.{Tok, tok}
use Rattle.rules.specs.declared.array.ArrayState.{ArrayState}
use Rattle.rules.specs.Out.{Place, span, Item}
use Rattle.rules.specs.Limits.{max_depth}
use Rattle.rules.specs.Messages as message
use Rattle.rules.specs.declared.options.Mode.{Mode}
use Rattle.rules.specs.Words.{events_of, errors_of}
use Rattle.rules.specs.Turns.{turns}
use Rattle.rules.specs.Skipping.{ignore_to_newline, ws_comment_newline, leftover, eof}
use Rattle.rules.specs.Keys.{key}
use Rattle.rules.specs.Array.{Nest, array_turn}
use Rattle.rules.specs.Nest.{on_open}
use Rattle.rules.specs.Value.{value}
use Rattle.rules.specs.Document.{document_turn}
use Rattle.rules.specs.Entries.{Entry, document_entry, key_entry, simple_key_entry, value_entry, parse}
use Rattle.bounds.specs.Most.{most_events, most_errors}
use Rattle.bounds.specs.Families.{run, bracketed, commented, eventful, errorful}

-- how many tokens they have
run_length : (k : Kind) (n p : ℕ) → length (run k n p) ≡ n
run_length k zero p = refl
run_length k (suc n) p = ap suc (run_length k n (suc p))

commented_length : (n p : ℕ) → length (commented n p) ≡ n
commented_length zero p = refl
commented_length (suc zero) p = refl
commented_length (suc (suc zero)) p = refl
commented_length (suc (suc (suc zero))) p = refl
commented_length (suc (suc (suc (suc n)))) p = ap (λ (m : ℕ). suc (suc m)) (commented_length (suc (suc n)) (suc (suc p)))

pub eventful_length : (e : Entry) (n : ℕ) → length (eventful e n) ≡ n
eventful_length document_entry zero = refl
eventful_length document_entry (suc zero) = refl
eventful_length document_entry (suc (suc zero)) = refl
eventful_length document_entry (suc (suc (suc zero))) = refl
eventful_length document_entry (suc (suc (suc (suc n)))) = ap (λ (m : ℕ). suc (suc m)) (run_length RightCurlyBracket (suc (suc n)) 2)
eventful_length key_entry n = run_length Dot n 0
eventful_length simple_key_entry n = run_length Dot n 0
eventful_length value_entry zero = refl
eventful_length value_entry (suc zero) = refl
eventful_length value_entry (suc (suc zero)) = refl
eventful_length value_entry (suc (suc (suc n))) = ap suc (run_length RightCurlyBracket (suc (suc n)) 1)

pub errorful_length : (e : Entry) (n : ℕ) → length (errorful e n) ≡ n
errorful_length document_entry zero = refl
errorful_length document_entry (suc zero) = refl
errorful_length document_entry (suc (suc zero)) = refl
errorful_length document_entry (suc (suc (suc zero))) = refl
errorful_length document_entry (suc (suc (suc (suc n)))) = ap (λ (m : ℕ). suc (suc m)) (run_length RightCurlyBracket (suc (suc n)) 2)
errorful_length key_entry n = run_length Dot n 0
errorful_length simple_key_entry n = commented_length n 0
errorful_length value_entry zero = refl
errorful_length value_entry (suc zero) = refl
errorful_length value_entry (suc (suc zero)) = refl
errorful_length value_entry (suc (suc (suc n))) = ap suc (run_length RightCurlyBracket (suc (suc n)) 1)

-- how many events, and errors, items give
abbrev events_in : List Tok → List Item → ℕ
events_in all is = length (events_of all is)

abbrev errors_in : Mode → List Tok → List Item → ℕ
errors_in mode all is = length (errors_of mode all is)

-- `}` in an array where a comma is wanted, n times and then the end
module _ (all : List Tok) (head : Place) (nest : Nest) where
  braces_events : (n p f : ℕ) → n ≤ f → events_in all (turns (array_turn head nest) f ArrayState.NeedsComma (run RightCurlyBracket n p)).items ≡ 3 * n + 1
  unfolding turns
  braces_events zero p zero h = refl
  braces_events zero p (suc f) h = refl
  braces_events (suc n) p zero h = absurd (not-suc-le-zero h)
  braces_events (suc n) p (suc f) h = omega (arith, braces_events n (suc p) f (le_of_suc-le-suc h))

  braces_errors : (mode : Mode) (n p f : ℕ) → n ≤ f → errors_in mode all (turns (array_turn head nest) f ArrayState.NeedsComma (run RightCurlyBracket n p)).items ≡ 2 * n + 1
  unfolding turns
  braces_errors mode zero p zero h = refl
  braces_errors mode zero p (suc f) h = refl
  braces_errors mode (suc n) p zero h = absurd (not-suc-le-zero h)
  braces_errors mode (suc n) p (suc f) h = omega (arith, braces_errors mode n (suc p) f (le_of_suc-le-suc h))

  braces_rest : (n p f : ℕ) → n ≤ f → (turns (array_turn head nest) f ArrayState.NeedsComma (run RightCurlyBracket n p)).rest ≡ []
  unfolding turns
  braces_rest zero p zero h = refl
  braces_rest zero p (suc f) h = refl
  braces_rest (suc n) p zero h = absurd (not-suc-le-zero h)
  braces_rest (suc n) p (suc f) h = braces_rest n (suc p) f (le_of_suc-le-suc h)

-- where no token is left, nothing follows
none_left : (count : List Item → ℕ) (is : List Item) (us : List Tok) → us ≡ [] → count (is ++ (eof us).items) ≡ count is
none_left count is us e = ap (λ (vs : List Tok). count (is ++ (eof vs).items)) e ∙ ap count (append-nil is)

-- nor in a document
line_ended : (count : List Item → ℕ) (is : List Item) (us : List Tok) (f : ℕ) → us ≡ []
    → count (((is ++ (ws_comment_newline us).items) ++ (turns (document_turn max_depth) f tt (ws_comment_newline us).rest).items) ++ (eof (turns (document_turn max_depth) f tt (ws_comment_newline us).rest).rest).items) ≡ count is
unfolding turns
line_ended count is us f e =
    ap (λ (vs : List Tok). count (((is ++ (ws_comment_newline vs).items) ++ (turns (document_turn max_depth) f tt (ws_comment_newline vs).rest).items) ++ (eof (turns (document_turn max_depth) f tt (ws_comment_newline vs).rest).rest).items)) e
    ∙ at_end f
  where
    nothing : count (((is ++ []) ++ []) ++ []) ≡ count is
    nothing = ap count (append-nil ((is ++ []) ++ []) ∙ append-nil (is ++ []) ∙ append-nil is)

    at_end : (g : ℕ) → count (((is ++ []) ++ (turns (document_turn max_depth) g tt []).items) ++ (eof (turns (document_turn max_depth) g tt []).rest).items) ≡ count is
    at_end zero = nothing
    at_end (suc g) = nothing

three_more : (n : ℕ) → suc (suc (suc (3 * suc n + 1))) ≡ 3 * n + 7
three_more n = omega arith

one_more : (n : ℕ) → suc (2 * suc n + 1) ≡ 2 * n + 4
one_more n = omega arith

two_more : (n : ℕ) → suc (suc (3 * n + 7)) ≡ 3 * n + 9
two_more n = omega arith

-- the array as a value, and behind `=`
module _ (all : List Tok) (n p : ℕ) where
  abbrev left : List Tok
  left = run RightCurlyBracket (suc n) (suc (suc p))

  enough : suc n ≤ length left
  enough = le_of_eq (sym (run_length RightCurlyBracket (suc n) (suc (suc p))))

  bracketed_rest : (value max_depth (bracketed (suc (suc n)) p)).rest ≡ []
  unfolding turns on_open
  bracketed_rest = braces_rest all (span p (suc p)) (on_open 63) (suc n) (suc (suc p)) (length left) enough

  bracketed_events : events_in all (value max_depth (bracketed (suc (suc n)) p)).items ≡ 3 * n + 7
  unfolding turns on_open
  bracketed_events = ap (λ (m : ℕ). suc (suc (suc m))) (braces_events all (span p (suc p)) (on_open 63) (suc n) (suc (suc p)) (length left) enough) ∙ three_more n

  bracketed_errors : (mode : Mode) → errors_in mode all (value max_depth (bracketed (suc (suc n)) p)).items ≡ 2 * n + 4
  unfolding turns on_open
  bracketed_errors mode = ap suc (braces_errors all (span p (suc p)) (on_open 63) mode (suc n) (suc (suc p)) (length left) enough) ∙ one_more n

  value_family : (count : List Item → ℕ) → count (parse value_entry (bracketed (suc (suc n)) p)).items ≡ count (value max_depth (bracketed (suc (suc n)) p)).items
  value_family count = none_left count (value max_depth (bracketed (suc (suc n)) p)).items (value max_depth (bracketed (suc (suc n)) p)).rest bracketed_rest

  document_events : events_in all (parse document_entry (tok Equals 0 1 ∷ bracketed (suc (suc n)) p)).items ≡ 3 * n + 9
  unfolding turns
  document_events =
      ap (λ (m : ℕ). suc (suc m))
      (line_ended (events_in all) (value max_depth (bracketed (suc (suc n)) p)).items (value max_depth (bracketed (suc (suc n)) p)).rest (length (bracketed (suc (suc n)) p)) bracketed_rest ∙ bracketed_events)
      ∙ two_more n

  document_errors : (mode : Mode) → errors_in mode all (parse document_entry (tok Equals 0 1 ∷ bracketed (suc (suc n)) p)).items ≡ 2 * n + 4
  unfolding turns
  document_errors mode =
      line_ended (errors_in mode all) (value max_depth (bracketed (suc (suc n)) p)).items (value max_depth (bracketed (suc (suc n)) p)).rest (length (bracketed (suc (suc n)) p)) bracketed_rest ∙ bracketed_errors mode

-- dots as a key
module _ (all : List Tok) (m : ℕ) where
  dots_events : (n p : ℕ) → events_in all (key m (run Dot n p)).items ≡ 2 * n
  dots_events zero p = refl
  dots_events (suc n) p = omega (arith, dots_events n (suc p))

  dots_errors : (mode : Mode) (n p : ℕ) → errors_in mode all (key m (run Dot n p)).items ≡ 1
  dots_errors mode zero p = refl
  dots_errors mode (suc n) p = dots_errors mode n (suc p)

  dots_rest : (n p : ℕ) → (key m (run Dot n p)).rest ≡ []
  dots_rest zero p = refl
  dots_rest (suc n) p = dots_rest n (suc p)

-- dots where one key is wanted
leftover_events : (all : List Tok) (n p : ℕ) → events_in all (leftover (run Dot n p)).items ≡ n
leftover_events all zero p = refl
leftover_events all (suc n) p = omega (arith, leftover_events all n (suc p))

alone_events : (all : List Tok) (n p : ℕ) → events_in all (parse simple_key_entry (run Dot n p)).items ≡ n
alone_events all zero p = refl
alone_events all (suc zero) p = refl
alone_events all (suc (suc n)) p = omega (arith, leftover_events all n (suc (suc p)))

-- comments with content behind them
comments_errors : (mode : Mode) (all : List Tok) (n p : ℕ) → errors_in mode all ((ignore_to_newline (commented (suc (suc n)) p)).items ++ (eof (ignore_to_newline (commented (suc (suc n)) p)).rest).items) ≡ suc (suc n) / 2
comments_errors mode all zero p = refl
comments_errors mode all (suc zero) p = refl
comments_errors mode all (suc (suc n)) p = omega (arith, comments_errors mode all n (suc (suc p)))

alone_errors : (mode : Mode) (all : List Tok) (n p : ℕ) → errors_in mode all (parse simple_key_entry (commented n p)).items ≡ n / 2 + 1
alone_errors mode all zero p = refl
alone_errors mode all (suc zero) p = refl
alone_errors mode all (suc (suc zero)) p = refl
alone_errors mode all (suc (suc (suc zero))) p = refl
alone_errors mode all (suc (suc (suc (suc n)))) p = omega (arith, comments_errors mode all n (suc (suc p)))

-- each entry's lists give the most
pub eventful_most : (e : Entry) (n : ℕ) → length (events_of (eventful e n) (parse e (eventful e n)).items) ≡ most_events e n
unfolding turns on_open
eventful_most document_entry zero = refl
eventful_most document_entry (suc zero) = refl
eventful_most document_entry (suc (suc zero)) = refl
eventful_most document_entry (suc (suc (suc zero))) = refl
eventful_most document_entry (suc (suc (suc (suc n)))) = document_events (eventful document_entry (suc (suc (suc (suc n))))) n 1
eventful_most key_entry n = none_left (events_in (run Dot n 0)) (key message.invalid_key (run Dot n 0)).items (key message.invalid_key (run Dot n 0)).rest (dots_rest (run Dot n 0) message.invalid_key n 0) ∙ dots_events (run Dot n 0) message.invalid_key n 0
eventful_most simple_key_entry n = alone_events (run Dot n 0) n 0
eventful_most value_entry zero = refl
eventful_most value_entry (suc zero) = refl
eventful_most value_entry (suc (suc zero)) = refl
eventful_most value_entry (suc (suc (suc n))) = value_family (bracketed (suc (suc n)) 0) n 0 (events_in (bracketed (suc (suc n)) 0)) ∙ bracketed_events (bracketed (suc (suc n)) 0) n 0

pub errorful_most : (mode : Mode) (e : Entry) (n : ℕ) → length (errors_of mode (errorful e n) (parse e (errorful e n)).items) ≡ most_errors e n
unfolding turns on_open
errorful_most mode document_entry zero = refl
errorful_most mode document_entry (suc zero) = refl
errorful_most mode document_entry (suc (suc zero)) = refl
errorful_most mode document_entry (suc (suc (suc zero))) = refl
errorful_most mode document_entry (suc (suc (suc (suc n)))) = document_errors (errorful document_entry (suc (suc (suc (suc n))))) n 1 mode
errorful_most mode key_entry n = none_left (errors_in mode (run Dot n 0)) (key message.invalid_key (run Dot n 0)).items (key message.invalid_key (run Dot n 0)).rest (dots_rest (run Dot n 0) message.invalid_key n 0) ∙ dots_errors (run Dot n 0) message.invalid_key mode n 0
errorful_most mode simple_key_entry n = alone_errors mode (commented n 0) n 0
errorful_most mode value_entry zero = refl
errorful_most mode value_entry (suc zero) = refl
errorful_most mode value_entry (suc (suc zero)) = refl
errorful_most mode value_entry (suc (suc (suc n))) = value_family (bracketed (suc (suc n)) 0) n 0 (errors_in mode (bracketed (suc (suc n)) 0)) ∙ bracketed_errors (bracketed (suc (suc n)) 0) n 0 mode
