-- The rule of simple keys, a token at a time. Assumes nothing.
use mathlib.Core.Path.{◌≡◌, refl, ap, sym, ◌∙◌}
use mathlib.Core.List.{List, [], ◌∷◌}
use Prim.Native.Nat.{ℕ}
use denote.Enum.Declared.{tag_of}
use types.Run.{OneOf, miss}
use Rattle.token.specs.Tokens.{Tok, tokens_at, Took}
use Rattle.token.specs.declared.kind.Kind.{Kind}
use Rattle.token.specs.declared.cursor.Token.{Token}
use Rattle.token.specs.declared.cursor.Cursor.{Cursor}
use Rattle.rules.specs.declared.event.Encoding.{Encoding}
use Rattle.rules.specs.declared.keys.InKey.{InKey}
use Rattle.rules.specs.declared.skipping.InLine.{InLine}
use Rattle.rules.specs.contracts.event.Encoding as encoding
use Rattle.rules.specs.contracts.keys.InKey as in-key
use Rattle.rules.specs.contracts.skipping.InLine as in-line
use Rattle.rules.specs.Out.{Out, span, report, ◌▹◌}
use Rattle.rules.specs.Expected as expected
use Rattle.rules.specs.Keys.{in_key, simple_key, simple_key_step, on_missing_key, simple_part}
use Rattle.rules.specs.Skipping.{in_line}
use Rattle.output.specs.WalkLaws.{rule_at}

-- a token where a simple key is wanted, by what its kind is to a key
module _ (s : List ℕ) (c d : Cursor) (t : Token) (k : Took s c t d) (x y : InKey) (p : x ≡ in_key t.kind) (q : x ≡ y) where
  pub simple_at : (m : ℕ) → simple_key m (tokens_at s c) ≡ simple_key_step m y (in_line t.kind) t.start t.end (tokens_at s d)
  simple_at m = rule_at s c d t (simple_key m) in_key (λ z. simple_key_step m z (in_line t.kind) t.start t.end (tokens_at s d)) x y k refl p q

-- what the arm tells that takes all classes but Part
abbrev NoPart : InKey → Type 0
NoPart x = OneOf (1 ∷ 2 ∷ 3 ∷ []) (tag_of in-key.the_type x)

no_part : (m : ℕ) (x : InKey) (l : InLine) (a b : ℕ) (ts : List Tok) → NoPart x → simple_key_step m x l a b ts ≡ on_missing_key m l a b ts
no_part m (InKey.Part e) l a b ts w = absurd (miss (1 ∷ 2 ∷ 3 ∷ []) 0 tt w)
no_part m InKey.Whitespace l a b ts w = refl
no_part m InKey.Dot l a b ts w = refl
no_part m InKey.Other l a b ts w = refl

module _ (s : List ℕ) (c d : Cursor) (t : Token) (k : Took s c t d) (x : InKey) (p : x ≡ in_key t.kind) (w : NoPart x) where
  pub simple_rest : (m : ℕ) → simple_key m (tokens_at s c) ≡ on_missing_key m (in_line t.kind) t.start t.end (tokens_at s d)
  simple_rest m = simple_at s c d t k x x p refl m ∙ no_part m x (in_line t.kind) t.start t.end (tokens_at s d) w

-- on_missing_key, by cases
pub missing_by : (m : ℕ) (k : Kind) (a b : ℕ) (ts : List Tok) (x y : InLine) → x ≡ in_line k → x ≡ y → on_missing_key m (in_line k) a b ts ≡ on_missing_key m y a b ts
missing_by m k a b ts x y p q = ap (λ (z : InLine). on_missing_key m z a b ts) (sym p ∙ q)

-- what the arm tells that takes whitespace and other tokens
abbrev Stray : InLine → Type 0
Stray x = OneOf (0 ∷ 4 ∷ []) (tag_of in-line.the_type x)

stray_missing : (m : ℕ) (x : InLine) (a b : ℕ) (ts : List Tok) → Stray x → on_missing_key m x a b ts ≡ on_missing_key m InLine.Other a b ts
stray_missing m InLine.Other a b ts w = refl
stray_missing m InLine.Whitespace a b ts w = refl
stray_missing m InLine.Comment a b ts w = absurd (miss (0 ∷ 4 ∷ []) 1 tt w)
stray_missing m InLine.Newline a b ts w = absurd (miss (0 ∷ 4 ∷ []) 2 tt w)
stray_missing m InLine.Eof a b ts w = absurd (miss (0 ∷ 4 ∷ []) 3 tt w)

pub missing_rest : (m : ℕ) (k : Kind) (a b : ℕ) (ts : List Tok) (x : InLine) → x ≡ in_line k → Stray x → on_missing_key m (in_line k) a b ts ≡ on_missing_key m InLine.Other a b ts
missing_rest m k a b ts x p w = missing_by m k a b ts x x p refl ∙ stray_missing m x a b ts w

-- the part of a simple key: one that is a multi-line string is reported, the others are not
abbrev MultiLine : Encoding → Type 0
MultiLine e = OneOf (3 ∷ 4 ∷ []) (tag_of encoding.the_type e)

abbrev OneLine : Encoding → Type 0
OneLine e = OneOf (0 ∷ 1 ∷ 2 ∷ []) (tag_of encoding.the_type e)

pub multi_line_part : (m : ℕ) (e : Encoding) (a b : ℕ) (on : Out) → MultiLine e → simple_part m e a b on ≡ report m expected.key_strings (span a b) (span a b) ▹ on
multi_line_part m Encoding.None a b on w = absurd (miss (3 ∷ 4 ∷ []) 0 tt w)
multi_line_part m Encoding.LiteralString a b on w = absurd (miss (3 ∷ 4 ∷ []) 1 tt w)
multi_line_part m Encoding.BasicString a b on w = absurd (miss (3 ∷ 4 ∷ []) 2 tt w)
multi_line_part m Encoding.MlLiteralString a b on w = refl
multi_line_part m Encoding.MlBasicString a b on w = refl

pub one_line_part : (m : ℕ) (e : Encoding) (a b : ℕ) (on : Out) → OneLine e → simple_part m e a b on ≡ on
one_line_part m Encoding.None a b on w = refl
one_line_part m Encoding.LiteralString a b on w = refl
one_line_part m Encoding.BasicString a b on w = refl
one_line_part m Encoding.MlLiteralString a b on w = absurd (miss (0 ∷ 1 ∷ 2 ∷ []) 3 tt w)
one_line_part m Encoding.MlBasicString a b on w = absurd (miss (0 ∷ 1 ∷ 2 ∷ []) 4 tt w)
