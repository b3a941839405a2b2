-- From the rules to the grammar, keys: a quiet run of the rules of keys has read a key, and calls it valid. Nothing here needs to be believed.
use mathlib.Core.Path.{◌≡◌, refl}
use mathlib.Core.Bool.{Bool, true}
use mathlib.Core.List.{List, [], ◌∷◌}
use Prim.Native.Nat.{ℕ}
use Rattle.token.specs.declared.kind.Kind.{Kind}
use Rattle.token.specs.declared.kind.Kind.TheVariants.{Dot, Whitespace}
use Rattle.token.specs.Tokens.{Tok, tok}
use Rattle.rules.specs.declared.keys.InKey.{InKey}
use Rattle.rules.specs.Out.{Out, done}
use Rattle.rules.specs.Keys.{after_part_step, dot_step, part_step, opt_dot_keys, dot_keys, after_dot, after_part_valid, dot_valid, part_valid, opt_dot_keys_valid, dot_keys_valid, after_dot_valid, key, key_valid}
use Rattle.fitting.specs.Quiet.{Quiet}
use Rattle.fitting.specs.Grammar.{OptWhitespace, no_whitespace, a_whitespace, Parts, KeyPart, Dots, no_dot, a_dot, Key, a_key}
use Rattle.fitting.specs.Premises.{Regular}
use Rattle.fitting.proofs.Suffixes.{regular_tail, widen, part_not_eof}
use Rattle.fitting.proofs.Views.{InKeyView, view_part, view_whitespace, view_dot, view_other, in_key_view}

-- dots, then optional whitespace
abbrev pub AfterDots : Parts → List Tok → List Tok → Type 0
AfterDots P ts rest = (mid : List Tok) × Dots P ts mid × OptWhitespace mid rest

-- optional whitespace, a key, optional whitespace
abbrev pub KeyAround : Parts → List Tok → List Tok → Type 0
KeyAround P ts rest = (us : List Tok) × (mid : List Tok) × OptWhitespace ts us × Key P us mid × OptWhitespace mid rest

dotted : {P : Parts} {ps us rest : List Tok} {a b : ℕ} → OptWhitespace ps (tok Dot a b ∷ us) → KeyAround P us rest → AfterDots P ps rest
dotted w h = go w h.2 h.3 h.4
  where
    go : {P : Parts} {ps us ws mid rest : List Tok} {a b : ℕ} → OptWhitespace ps (tok Dot a b ∷ us) → OptWhitespace us ws → Key P ws mid → OptWhitespace mid rest → AfterDots P ps rest
    go w x (a_key p d) v = (_, a_dot w x p d, v)

-- what the three rules of keys have read, from the tokens ts
pub record KeysFit (P : Parts) (ts : List Tok) : Type 0 where
  pub opt : Regular ts → Quiet P (opt_dot_keys ts).items → AfterDots P ts (opt_dot_keys ts).rest
  pub dots : Regular ts → Quiet P (dot_keys ts).items → (ps : List Tok) → OptWhitespace ps ts → AfterDots P ps (dot_keys ts).rest
  pub part : (d : ℕ) → Regular ts → Quiet P (after_dot ts d).items → KeyAround P ts (after_dot ts d).rest

part_around : {P : Parts} {k : Kind} {a b : ℕ} {ts rest : List Tok} → KeyPart P k → AfterDots P ts rest → KeyAround P (tok k a b ∷ ts) rest
part_around p h = (_, h.0, no_whitespace, a_key p h.1, h.2)

widen_around : {P : Parts} {a b : ℕ} {ts rest : List Tok} → Regular (tok Whitespace a b ∷ ts) → KeyAround P ts rest → KeyAround P (tok Whitespace a b ∷ ts) rest
widen_around g h = (h.0, h.1, widen g h.2, h.3, h.4)

opt_step : {P : Parts} {k : Kind} {c : InKey} → InKeyView P k c → (a b : ℕ) (ts : List Tok) → KeysFit P ts → Regular (tok k a b ∷ ts) → Quiet P (after_part_step c a b (done (tok k a b ∷ ts)) (dot_keys ts) (after_dot ts b)).items → AfterDots P (tok k a b ∷ ts) (after_part_step c a b (done (tok k a b ∷ ts)) (dot_keys ts) (after_dot ts b)).rest
opt_step (view_part p) a b ts ih g q = (_, no_dot, no_whitespace)
opt_step view_whitespace a b ts ih g q = ih.dots (regular_tail tt g) q.1 _ a_whitespace
opt_step view_dot a b ts ih g q = dotted no_whitespace (ih.part b (regular_tail tt g) q.1)
opt_step view_other a b ts ih g q = (_, no_dot, no_whitespace)

dots_step : {P : Parts} {k : Kind} {c : InKey} → InKeyView P k c → (a b : ℕ) (ts : List Tok) → KeysFit P ts → Regular (tok k a b ∷ ts) → Quiet P (dot_step c a b (done (tok k a b ∷ ts)) (after_dot ts b)).items → (ps : List Tok) → OptWhitespace ps (tok k a b ∷ ts) → AfterDots P ps (dot_step c a b (done (tok k a b ∷ ts)) (after_dot ts b)).rest
dots_step (view_part p) a b ts ih g q ps w = (_, no_dot, w)
dots_step view_whitespace a b ts ih g q ps w = (_, no_dot, w)
dots_step view_dot a b ts ih g q ps w = dotted w (ih.part b (regular_tail tt g) q.1)
dots_step view_other a b ts ih g q ps w = (_, no_dot, w)

-- a part is wanted: `again` is the same rule from the next token on
part_step_lem : {P : Parts} {k : Kind} {c : InKey} → InKeyView P k c → (a b : ℕ) (ts : List Tok) (again : Out) → KeysFit P ts → (Regular ts → Quiet P again.items → KeyAround P ts again.rest) → Regular (tok k a b ∷ ts) → Quiet P (part_step c a b (done (tok k a b ∷ ts)) again (opt_dot_keys ts)).items → KeyAround P (tok k a b ∷ ts) (part_step c a b (done (tok k a b ∷ ts)) again (opt_dot_keys ts)).rest
part_step_lem (view_part p) a b ts again ih more g q = part_around (p q.0.1) (ih.opt (regular_tail (part_not_eof (p q.0.1)) g) q.1)
part_step_lem view_whitespace a b ts again ih more g q = widen_around g (more (regular_tail tt g) q.1)
part_step_lem view_dot a b ts again ih more g q = absurd (q.0.0 refl)
part_step_lem view_other a b ts again ih more g q = absurd (q.0.0 refl)

pub keys_fit : (P : Parts) (ts : List Tok) → KeysFit P ts
keys_fit P [] = record { opt = λ g q. ([], no_dot, no_whitespace); dots = λ g q ps w. (ps, no_dot, w); part = λ d g q. absurd (q.0.0 refl) }
keys_fit P (tok k a b ∷ ts) =
    let ih : KeysFit P ts = keys_fit P ts in
    record {
      opt = λ g q. opt_step (in_key_view P k) a b ts ih g q;
      dots = λ g q ps w. dots_step (in_key_view P k) a b ts ih g q ps w;
      part = λ d g q. part_step_lem (in_key_view P k) a b ts (after_dot ts d) ih (ih.part d) g q;
    }

pub key_fits : (P : Parts) (m : ℕ) (ts : List Tok) → Regular ts → Quiet P (key m ts).items → KeyAround P ts (key m ts).rest
key_fits P m [] g q = absurd q
key_fits P m (tok k a b ∷ ts) g q = part_step_lem (in_key_view P k) a b ts (key m ts) (keys_fit P ts) (key_fits P m ts) g q

-- a quiet key is valid
record KeysValid (P : Parts) (ts : List Tok) : Type 0 where
  opt : Quiet P (opt_dot_keys ts).items → opt_dot_keys_valid ts ≡ true
  dots : Quiet P (dot_keys ts).items → dot_keys_valid ts ≡ true
  part : (d : ℕ) → Quiet P (after_dot ts d).items → after_dot_valid ts ≡ true

opt_valid : {P : Parts} {k : Kind} {c : InKey} → InKeyView P k c → (a b : ℕ) (ts : List Tok) → KeysValid P ts → Quiet P (after_part_step c a b (done (tok k a b ∷ ts)) (dot_keys ts) (after_dot ts b)).items → after_part_valid c (dot_keys_valid ts) (after_dot_valid ts) ≡ true
opt_valid (view_part p) a b ts ih q = refl
opt_valid view_whitespace a b ts ih q = ih.dots q.1
opt_valid view_dot a b ts ih q = ih.part b q.1
opt_valid view_other a b ts ih q = refl

dots_valid : {P : Parts} {k : Kind} {c : InKey} → InKeyView P k c → (a b : ℕ) (ts : List Tok) → KeysValid P ts → Quiet P (dot_step c a b (done (tok k a b ∷ ts)) (after_dot ts b)).items → dot_valid c (after_dot_valid ts) ≡ true
dots_valid (view_part p) a b ts ih q = refl
dots_valid view_whitespace a b ts ih q = refl
dots_valid view_dot a b ts ih q = ih.part b q.1
dots_valid view_other a b ts ih q = refl

part_valid_lem : {P : Parts} {k : Kind} {c : InKey} → InKeyView P k c → (a b : ℕ) (ts : List Tok) (again : Out) (valid : Bool) → KeysValid P ts → (Quiet P again.items → valid ≡ true) → Quiet P (part_step c a b (done (tok k a b ∷ ts)) again (opt_dot_keys ts)).items → part_valid c valid (opt_dot_keys_valid ts) ≡ true
part_valid_lem (view_part p) a b ts again valid ih more q = ih.opt q.1
part_valid_lem view_whitespace a b ts again valid ih more q = more q.1
part_valid_lem view_dot a b ts again valid ih more q = absurd (q.0.0 refl)
part_valid_lem view_other a b ts again valid ih more q = absurd (q.0.0 refl)

keys_valid : (P : Parts) (ts : List Tok) → KeysValid P ts
keys_valid P [] = record { opt = λ q. refl; dots = λ q. refl; part = λ d q. refl }
keys_valid P (tok k a b ∷ ts) =
    let ih : KeysValid P ts = keys_valid P ts in
    record {
      opt = λ q. opt_valid (in_key_view P k) a b ts ih q;
      dots = λ q. dots_valid (in_key_view P k) a b ts ih q;
      part = λ d q. part_valid_lem (in_key_view P k) a b ts (after_dot ts d) (after_dot_valid ts) ih (ih.part d) q;
    }

pub key_valid_lem : (P : Parts) (m : ℕ) (ts : List Tok) → Quiet P (key m ts).items → key_valid ts ≡ true
key_valid_lem P m [] q = absurd q
key_valid_lem P m (tok k a b ∷ ts) q = part_valid_lem (in_key_view P k) a b ts (key m ts) (key_valid ts) (keys_valid P ts) (key_valid_lem P m ts) q
