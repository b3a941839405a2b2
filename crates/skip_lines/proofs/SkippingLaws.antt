-- The skipping rules, a token at a time. Assumes nothing.
use mathlib.Core.Path.{◌≡◌, refl, ap, ◌∙◌}
use mathlib.Core.Bool.{Bool, true, false}
use mathlib.Core.List.{List, [], ◌∷◌}
use Prim.Native.Nat.{ℕ}
use denote.Enum.Declared.{tag_of}
use types.Run.{OneOf, miss}
use Rattle.token.specs.Tokens.{Tok, tok, tokens_at, Took}
use Rattle.token.specs.declared.cursor.Token.{Token}
use Rattle.token.specs.declared.cursor.Cursor.{Cursor}
use Rattle.rules.specs.declared.skipping.InLine.{InLine}
use Rattle.rules.specs.contracts.skipping.InLine as in-line
use Rattle.rules.specs.Out.{done}
use Rattle.rules.specs.Skipping.{in_line, ignored, behind_comment}
use Rattle.output.specs.Pour.{Bufs}
use Rattle.output.specs.Walks.{run}
use Rattle.output.specs.WalkLaws.{at_token, at_end}
use Rattle.skip_lines.specs.LineEnd.{line_end, line_end_step}

-- a turn to the end of a line, by the kind first
line_by : (x : InLine) (m a b : ℕ) (ts : List Tok) → behind_comment x m a b ts (line_end false 0 ts) ≡ line_end_step x true m a b ts
line_by InLine.Newline m a b ts = refl
line_by InLine.Eof m a b ts = refl
line_by InLine.Other m a b ts = refl
line_by InLine.Comment m a b ts = refl
line_by InLine.Whitespace m a b ts = refl

ignored_by : (x : InLine) (m a b : ℕ) (ts : List Tok) → ignored x a b ts (line_end false 0 ts) (line_end true a ts) ≡ line_end_step x false m a b ts
ignored_by InLine.Newline m a b ts = refl
ignored_by InLine.Eof m a b ts = refl
ignored_by InLine.Other m a b ts = refl
ignored_by InLine.Comment m a b ts = refl
ignored_by InLine.Whitespace m a b ts = refl

-- what the arm tells that takes all classes but Newline and Eof, and the one in it that takes all but Whitespace and Comment
abbrev OnLine : InLine → Type 0
OnLine x = OneOf (0 ∷ 1 ∷ 4 ∷ []) (tag_of in-line.the_type x)

abbrev NoTrivia : InLine → Type 0
NoTrivia x = OneOf (2 ∷ 3 ∷ 4 ∷ []) (tag_of in-line.the_type x)

pub is_other : (x : InLine) → OnLine x → NoTrivia x → x ≡ InLine.Other
is_other InLine.Other w n = refl
is_other InLine.Newline w n = absurd (miss (0 ∷ 1 ∷ 4 ∷ []) 2 tt w)
is_other InLine.Eof w n = absurd (miss (0 ∷ 1 ∷ 4 ∷ []) 3 tt w)
is_other InLine.Comment w n = absurd (miss (2 ∷ 3 ∷ 4 ∷ []) 1 tt n)
is_other InLine.Whitespace w n = absurd (miss (2 ∷ 3 ∷ 4 ∷ []) 0 tt n)

-- behind a comment all that is on the line is the same
content_by : (x : InLine) (m a b : ℕ) (ts : List Tok) → OnLine x → line_end_step x true m a b ts ≡ line_end_step InLine.Other true m a b ts
content_by InLine.Other m a b ts w = refl
content_by InLine.Comment m a b ts w = refl
content_by InLine.Whitespace m a b ts w = refl
content_by InLine.Newline m a b ts w = absurd (miss (0 ∷ 1 ∷ 4 ∷ []) 2 tt w)
content_by InLine.Eof m a b ts w = absurd (miss (0 ∷ 1 ∷ 4 ∷ []) 3 tt w)

module _ (s : List ℕ) (c d : Cursor) (t : Token) (k : Took s c t d) where
  line_step : (b : Bool) (m : ℕ) → line_end b m (tok t.kind t.start t.end ∷ tokens_at s d) ≡ line_end_step (in_line t.kind) b m t.start t.end (tokens_at s d)
  line_step true m = line_by (in_line t.kind) m t.start t.end (tokens_at s d)
  line_step false m = ignored_by (in_line t.kind) m t.start t.end (tokens_at s d)

  module _ (x y : InLine) (p : x ≡ in_line t.kind) (q : x ≡ y) where
    module _ (all : List Tok) (o : Bufs) where
      -- by whether a comment was read, which began at m
      pub line_at : (b b' : Bool) (m : ℕ) → b ≡ b' → run all (line_end b m (tokens_at s c)) o ≡ run all (line_end_step y b' m t.start t.end (tokens_at s d)) o
      line_at b b' m e =
          at_token all o s c d t (line_end b m) in_line (λ z. line_end_step z b m t.start t.end (tokens_at s d)) x y k (line_step b m) p q
          ∙ ap (λ (z : Bool). run all (line_end_step y z m t.start t.end (tokens_at s d)) o) e

  module _ (x : InLine) (p : x ≡ in_line t.kind) (w : OnLine x) (all : List Tok) (o : Bufs) where
    pub content_at : (b : Bool) (m : ℕ) → b ≡ true → run all (line_end b m (tokens_at s c)) o ≡ run all (line_end_step InLine.Other true m t.start t.end (tokens_at s d)) o
    content_at b m e = line_at x x p refl all o b true m e ∙ ap (λ u. run all u o) (content_by x m t.start t.end (tokens_at s d) w)

pub line_none : (s : List ℕ) (c : Cursor) (b : Bool) (m : ℕ) → tokens_at s c ≡ [] → (all : List Tok) (o : Bufs) → run all (line_end b m (tokens_at s c)) o ≡ run all (done (tokens_at s c)) o
line_none s c true m e all o = at_end all o s c (line_end true m) done e refl
line_none s c false m e all o = at_end all o s c (line_end false m) done e refl
