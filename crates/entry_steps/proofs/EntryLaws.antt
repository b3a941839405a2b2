-- What an entry begins with, and from its walk to its answer: one law for the four. Proved; nothing here needs to be believed.
use Rattle.std.specs.Prelude.{Result, Ok, Err}
use mathlib.Core.Path.{◌≡◌, ap, sym, subst, ◌∙◌}
use mathlib.Core.Bool.{Bool, true, false}
use mathlib.Core.List.{List}
use Prim.Native.Nat.{ℕ, suc, ◌-◌, ◌/◌}
use native.Mathlib.Omega.{arith}
use lib.ListN.{length}
use Rattle.token.specs.Records.{count}
use Rattle.token.specs.Tokens.{Tok, all_tokens, tokens_at, Good}
use Rattle.token.specs.Check.{checked}
use Rattle.token.specs.CheckLaws.{checked_passes, passed_good}
use Rattle.token.specs.CursorLaws.{at_start, left_length}
use Rattle.token.specs.declared.cursor.Cursor.{Cursor}
use Rattle.rules.specs.declared.answer.Answer.{Answer}
use Rattle.rules.specs.declared.options.Options.{Options}
use Rattle.rules.specs.Out.{Out, ◌then◌}
use Rattle.rules.specs.Skipping.{eof}
use Rattle.rules.specs.Entries.{Entry, parse}
use Rattle.rules.specs.Answer.{event_size, error_size, outcome}
use Rattle.output.specs.declared.emitting.Counts.{Counts}
use Rattle.output.specs.Pour.{Bufs, bufs, pour}
use Rattle.line_numbers.specs.Numbering.{numbered}
use Rattle.entry_steps.proofs.AnswerLaws.{outcome_ended, outcome_stopped}
use Rattle.nest.specs.Nested.{NestWalk, walk_of, is_stopped, out_of, Nested}
use Rattle.entry_steps.specs.Answers.{Answers, answer_by, answer_of, fresh, Starts, Begins, Entered}

-- what was begun, by its case
pub begun_start : {s : List ℕ} {base : ℕ} {b : Result (Cursor × Counts) Answer} {c : Cursor} {n : Counts} → Begins s base b → b ≡ Ok (c, n) → Starts s base c n
begun_start {s} {base} x e = subst (Begins s base) e x

-- a cursor at the start of a list that the check let through
pub start_good : {s : List ℕ} {base : ℕ} {c : Cursor} {n : Counts} → Starts s base c n → Good s c
start_good {s} {base} {c} x = passed_good s base c (checked_passes s base x.passed) x.at

-- and where a walk of it ended, the same list is known to have passed
pub still_passed : {s : List ℕ} {base : ℕ} {c : Cursor} {n : Counts} {g : Out} {o : Bufs} {a b : List ℕ} {v : NestWalk} → Starts s base c n → Nested s g c o a b v → checked s (walk_of v).cur.base ≡ Ok tt
still_passed {s} {base} x w = subst (λ (i : ℕ). checked s i ≡ Ok tt) (sym (w.base ∙ x.at.base)) x.passed

-- the walk of an entry by its rule, which from the start is the rule on all tokens
pub entered : {s : List ℕ} {base : ℕ} {c : Cursor} {n : Counts} {events errors a b : List ℕ} {v : NestWalk} (entry : Entry) (rule : List Tok → Out)
    → rule (all_tokens s base) then eof ≡ parse entry (all_tokens s base) → Starts s base c n → Nested s (rule (tokens_at s c)) c (bufs events errors n) a b v
    → length a ≡ length events → length b ≡ length errors → Entered entry s base events errors a b v
entered {s} {base} {c} {n} entry rule q x w h k =
    record {
      g = rule (tokens_at s c);
      c = c;
      n = n;
      start = x;
      rule = ap (λ (ts : List Tok). rule ts then eof) (at_start s c base x.at.at x.at.place) ∙ q;
      walk = w;
      events_kept = h;
      errors_kept = k;
    }

module _ (options : Options) (entry : Entry) (s : List ℕ) (base : ℕ) (evs ers : List ℕ) (p : checked s base ≡ Ok tt) (a b : List ℕ) (v : NestWalk) (g : Good s (walk_of v).cur) where
  by_stop : (y : Bool) → out_of y s a b (walk_of v).n (walk_of v).cur ≡ pour (all_tokens s base) (parse entry (all_tokens s base)).items (bufs evs ers fresh) → record { answer = answer_by y v (length evs / event_size) (length ers / error_size); events = a; errors = numbered options.mode (all_tokens s base) (walk_of v).n.errors b } ≡ outcome options entry s base evs ers
  by_stop false e = sym (outcome_ended options entry s base evs ers p a b (walk_of v).n e)
  by_stop true e =
      let z : (walk_of v).cur.at - 1 ≡ count s - suc (length (tokens_at s (walk_of v).cur)) = omega (arith, left_length s (walk_of v).cur, g.low) in
      ap (λ (i : ℕ). record { answer = record { refusal = 6; place = i; events = (walk_of v).n.events; errors = (walk_of v).n.errors }; events = a; errors = numbered options.mode (all_tokens s base) (walk_of v).n.errors b }) z
      ∙ sym (outcome_stopped options entry s base evs ers p a b (walk_of v).n (suc (length (tokens_at s (walk_of v).cur))) e)

-- the answer of an entry's walk v, closed as v', with its errors numbered, is the answer of the rules
pub entry_answers : (options : Options) {entry : Entry} {s : List ℕ} {base : ℕ} {evs ers a b a' b' b'' : List ℕ} {v v' : NestWalk} (x : Entered entry s base evs ers a b v)
    → Nested s (x.g then eof) x.c (bufs evs ers x.n) a' b' v' → b'' ≡ numbered options.mode (all_tokens s (walk_of v).cur.base) (walk_of v').n.errors b' → length a' ≡ length a → length b'' ≡ length b
    → (told : Answer) → told ≡ answer_of v' (length a' / event_size) (length b'' / error_size) → Answers options entry s base evs ers a' b'' told
entry_answers options {entry} {s} {base} {evs} {ers} {a' = a'} {b'} {b''} {v = v} {v'} x w d h k told t =
    let wrote : out_of (is_stopped v') s a' b' (walk_of v').n (walk_of v').cur ≡ pour (all_tokens s base) (parse entry (all_tokens s base)).items (bufs evs ers fresh) =
    w.wrote base x.start.at.base
    ∙ ap (λ (z : Out). pour (all_tokens s base) z.items (bufs evs ers x.n)) x.rule
    ∙ ap (λ (z : Counts). pour (all_tokens s base) (parse entry (all_tokens s base)).items (bufs evs ers z)) x.start.none in
    let lines : b'' ≡ numbered options.mode (all_tokens s base) (walk_of v').n.errors b' = d ∙ ap (λ (i : ℕ). numbered options.mode (all_tokens s i) (walk_of v').n.errors b') (x.walk.base ∙ x.start.at.base) in
    ap (λ (z : Answer). record { answer = z; events = a'; errors = b'' }) t
    ∙ ap (λ (i : ℕ). record { answer = answer_of v' (i / event_size) (length b'' / error_size); events = a'; errors = b'' }) (h ∙ x.events_kept)
    ∙ ap (λ (i : ℕ). record { answer = answer_of v' (length evs / event_size) (i / error_size); events = a'; errors = b'' }) (k ∙ x.errors_kept)
    ∙ ap (λ (l : List ℕ). record { answer = answer_of v' (length evs / event_size) (length ers / error_size); events = a'; errors = l }) lines
    ∙ by_stop options entry s base evs ers x.start.passed a' b' v' w.good (is_stopped v') wrote
