-- The records of the lists of Families.antt pass the check and are read as these lists, so an entry counts the most on them. Nothing here needs to
-- be believed.
use mathlib.Core.Path.{◌≡◌, refl, ap, ◌∙◌}
use mathlib.Core.List.{List, [], ◌∷◌}
use Prim.Native.Nat.{ℕ, zero, suc, ◌+◌, ◌≤◌, ◌<◌}
use native.Mathlib.Omega.{arith}
use lib.ListN.{length}
use Rattle.std.specs.Prelude.{Ok}
use Rattle.token.specs.declared.kind.Kind.{Kind}
use Rattle.token.specs.declared.kind.Kind.TheVariants.{Dot, Equals, LeftSquareBracket, LeftCurlyBracket, RightCurlyBracket, Comment, Newline, Atom}
use Rattle.token.specs.Limits.{max_records, max_end}
use Rattle.token.specs.Kinds.{width_of}
use Rattle.token.specs.Records.{count}
use Rattle.token.specs.Tokens.{Tok, tok, all_tokens}
use Rattle.token.specs.Check.{checked}
use Rattle.token.specs.Writing.{records_of}
use Rattle.token.specs.WritingLaws.{records_length}
use Rattle.token.specs.Laid.{Spans, Laid, laid_none, laid_token, end_of}
use Rattle.token.specs.LaidLaws.{read_back, pass_back}
use Rattle.rules.specs.declared.options.Options.{Options}
use Rattle.rules.specs.Words.{events_of, errors_of}
use Rattle.rules.specs.Entries.{Entry, document_entry, key_entry, simple_key_entry, value_entry, parse}
use Rattle.rules.specs.Answer.{outcome}
use Rattle.rules.proofs.OutcomeLaws.{counted_events, counted_errors}
use Rattle.bounds.specs.Most.{most_events, most_errors}
use Rattle.bounds.specs.Families.{run, bracketed, commented, eventful, errorful}
use Rattle.bounds.proofs.FamilyLaws.{eventful_length, eventful_most, errorful_length, errorful_most}

-- they lie end to end from p, and end as many bytes behind it as they have tokens
record Lies (p n : ℕ) (ts : List Tok) : Type 0 where
  laid : Laid p ts
  end : end_of p ts ≡ p + n

none_lies : (p : ℕ) → Lies p 0 []
none_lies p = record { laid = laid_none; end = omega arith }

token_lies : (k : Kind) (p n : ℕ) (ts : List Tok) → Spans (width_of k) p (suc p) → Lies (suc p) n ts → Lies p (suc n) (tok k p (suc p) ∷ ts)
token_lies k p n ts w l = record { laid = laid_token w l.laid; end = omega (arith, l.end) }

run_lies : (k : Kind) → ((p : ℕ) → Spans (width_of k) p (suc p)) → (n p : ℕ) → Lies p n (run k n p)
run_lies k w zero p = none_lies p
run_lies k w (suc n) p = token_lies k p n (run k n (suc p)) (w p) (run_lies k w n (suc p))

longer : (p : ℕ) → p < suc p
longer p = omega arith

bracketed_lies : (n p : ℕ) → Lies p (suc n) (bracketed n p)
bracketed_lies n p = token_lies LeftSquareBracket p n (run RightCurlyBracket n (suc p)) refl (run_lies RightCurlyBracket (λ q. refl) n (suc p))

commented_lies : (n p : ℕ) → Lies p n (commented n p)
commented_lies zero p = none_lies p
commented_lies (suc zero) p = token_lies Newline p 0 [] (longer p) (none_lies (suc p))
commented_lies (suc (suc zero)) p = token_lies Newline p 1 (run Atom 1 (suc p)) (longer p) (run_lies Atom longer 1 (suc p))
commented_lies (suc (suc (suc zero))) p = token_lies Newline p 2 (run Atom 2 (suc p)) (longer p) (run_lies Atom longer 2 (suc p))
commented_lies (suc (suc (suc (suc n)))) p = token_lies Comment p (suc (suc (suc n))) _ (longer p) (token_lies Atom (suc p) (suc (suc n)) _ (longer (suc p)) (commented_lies (suc (suc n)) (suc (suc p))))

eventful_lies : (e : Entry) (n : ℕ) → Lies 0 n (eventful e n)
eventful_lies document_entry zero = none_lies 0
eventful_lies document_entry (suc zero) = run_lies Dot (λ q. refl) 1 0
eventful_lies document_entry (suc (suc zero)) = run_lies Dot (λ q. refl) 2 0
eventful_lies document_entry (suc (suc (suc zero))) = run_lies Dot (λ q. refl) 3 0
eventful_lies document_entry (suc (suc (suc (suc n)))) = token_lies Equals 0 (suc (suc (suc n))) (bracketed (suc (suc n)) 1) refl (bracketed_lies (suc (suc n)) 1)
eventful_lies key_entry n = run_lies Dot (λ q. refl) n 0
eventful_lies simple_key_entry n = run_lies Dot (λ q. refl) n 0
eventful_lies value_entry zero = none_lies 0
eventful_lies value_entry (suc zero) = run_lies LeftSquareBracket (λ q. refl) 1 0
eventful_lies value_entry (suc (suc zero)) = token_lies LeftCurlyBracket 0 1 (run Dot 1 1) refl (run_lies Dot (λ q. refl) 1 1)
eventful_lies value_entry (suc (suc (suc n))) = bracketed_lies (suc (suc n)) 0

errorful_lies : (e : Entry) (n : ℕ) → Lies 0 n (errorful e n)
errorful_lies document_entry zero = none_lies 0
errorful_lies document_entry (suc zero) = run_lies Equals (λ q. refl) 1 0
errorful_lies document_entry (suc (suc zero)) = run_lies Equals (λ q. refl) 2 0
errorful_lies document_entry (suc (suc (suc zero))) = run_lies Equals (λ q. refl) 3 0
errorful_lies document_entry (suc (suc (suc (suc n)))) = token_lies Equals 0 (suc (suc (suc n))) (bracketed (suc (suc n)) 1) refl (bracketed_lies (suc (suc n)) 1)
errorful_lies key_entry n = run_lies Dot (λ q. refl) n 0
errorful_lies simple_key_entry n = commented_lies n 0
errorful_lies value_entry zero = none_lies 0
errorful_lies value_entry (suc zero) = run_lies Equals (λ q. refl) 1 0
errorful_lies value_entry (suc (suc zero)) = run_lies Equals (λ q. refl) 2 0
errorful_lies value_entry (suc (suc (suc n))) = bracketed_lies (suc (suc n)) 0

-- so their records are counted, pass, and are read as they are
module _ (n : ℕ) (ts : List Tok) (l : Lies 0 n ts) (size : length ts ≡ n) (few : n ≤ max_records) where
  counted : count (records_of ts) ≡ n
  counted = omega (arith, records_length ts, size)

  short : end_of 0 ts ≤ max_end
  short = omega (arith, l.end, few)

  passes : checked (records_of ts) 0 ≡ Ok tt
  passes = pass_back l.laid short (omega (arith, size, few))

  read : all_tokens (records_of ts) 0 ≡ ts
  read = read_back l.laid short

pub events_attained : (options : Options) (e : Entry) (n : ℕ) (events errors : List ℕ) → n ≤ max_records → (count (records_of (eventful e n)) ≡ n) × ((outcome options e (records_of (eventful e n)) 0 events errors).answer.events ≡ most_events e n)
events_attained options e n events errors few =
    let l = eventful_lies e n in
    let s = eventful_length e n in (
      counted n (eventful e n) l s few,
      counted_events options e (records_of (eventful e n)) 0 events errors (passes n (eventful e n) l s few) ∙ ap (λ (ts : List Tok). length (events_of ts (parse e ts).items)) (read n (eventful e n) l s few) ∙ eventful_most e n,
    )

pub errors_attained : (options : Options) (e : Entry) (n : ℕ) (events errors : List ℕ) → n ≤ max_records → (count (records_of (errorful e n)) ≡ n) × ((outcome options e (records_of (errorful e n)) 0 events errors).answer.errors ≡ most_errors e n)
errors_attained options e n events errors few =
    let l = errorful_lies e n in
    let s = errorful_length e n in (
      counted n (errorful e n) l s few,
      counted_errors options e (records_of (errorful e n)) 0 events errors (passes n (errorful e n) l s few) ∙ ap (λ (ts : List Tok). length (errors_of options.mode ts (parse e ts).items)) (read n (errorful e n) l s few) ∙ errorful_most options.mode e n,
    )
