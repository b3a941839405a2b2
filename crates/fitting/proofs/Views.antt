-- What the class of a kind says of the kind, for each class that the rules go by. Nothing here needs to be believed.
use mathlib.Core.Path.{◌≡◌, refl, subst}
use mathlib.Core.Bool.{Bool, true, false}
use lib.Dec.{eqb}
use borrow.Author.Tests.{eqb-true}
use Rattle.token.specs.declared.kind.Kind.{Kind}
use Rattle.token.specs.declared.kind.Kind.TheVariants.{Dot, Equals, Comma, LeftSquareBracket, RightSquareBracket, LeftCurlyBracket, RightCurlyBracket, Whitespace, Comment, Newline, LiteralString, BasicString, MlLiteralString, MlBasicString, Atom, Eof}
use Rattle.token.specs.Kinds.{number_of}
use Rattle.token.specs.KindLaws.{same_kind}
use Rattle.rules.specs.declared.event.Encoding.{Encoding}
use Rattle.rules.specs.declared.skipping.InLine.{InLine}
use Rattle.rules.specs.declared.keys.InKey.{InKey}
use Rattle.rules.specs.declared.scalar.Starting.{Starting}
use Rattle.rules.specs.declared.scalar.InScalar.{InScalar}
use Rattle.rules.specs.declared.array.InArray.{InArray}
use Rattle.rules.specs.declared.value.InValue.{InValue}
use Rattle.rules.specs.declared.document.InDocument.{InDocument}
use Rattle.rules.specs.Skipping.{in_line}
use Rattle.rules.specs.Keys.{in_key}
use Rattle.rules.specs.Scalar.{starting_of, in_scalar}
use Rattle.rules.specs.Array.{in_array}
use Rattle.rules.specs.Value.{in_value}
use Rattle.rules.specs.Document.{in_document}
use Rattle.fitting.specs.Quiet.{kind_by_encoding}
use Rattle.fitting.specs.Grammar.{AnyString, literal, basic, multi_line_literal, multi_line_basic, Parts, KeyPart, atom_part, string_part, Key, DotOrAtom, it_is_dot, it_is_atom, Scalar}

-- keys: a token of a kind that P has is a part
pub data InKeyView (P : Parts) : Kind → InKey → Type 0 where
  view_part : {k : Kind} {e : Encoding} → (P (kind_by_encoding e) → KeyPart P k) → InKeyView P k (InKey.Part e)
  view_whitespace : InKeyView P Whitespace InKey.Whitespace
  view_dot : InKeyView P Dot InKey.Dot
  view_other : {k : Kind} → InKeyView P k InKey.Other

pub in_key_view : (P : Parts) (k : Kind) → InKeyView P k (in_key k)
in_key_view P Dot = view_dot
in_key_view P Equals = view_other
in_key_view P Comma = view_other
in_key_view P LeftSquareBracket = view_other
in_key_view P RightSquareBracket = view_other
in_key_view P LeftCurlyBracket = view_other
in_key_view P RightCurlyBracket = view_other
in_key_view P Whitespace = view_whitespace
in_key_view P Comment = view_other
in_key_view P Newline = view_other
in_key_view P LiteralString = view_part (string_part literal)
in_key_view P BasicString = view_part (string_part basic)
in_key_view P MlLiteralString = view_part (string_part multi_line_literal)
in_key_view P MlBasicString = view_part (string_part multi_line_basic)
in_key_view P Atom = view_part atom_part
in_key_view P Eof = view_other

-- unquoted scalars
pub data InScalarView : Kind → InScalar → Type 0 where
  scalar_dot : InScalarView Dot InScalar.Dot
  scalar_atom : InScalarView Atom InScalar.Atom
  scalar_whitespace : InScalarView Whitespace InScalar.Whitespace
  scalar_other : {k : Kind} → InScalarView k InScalar.Other

pub in_scalar_view : (k : Kind) → InScalarView k (in_scalar k)
in_scalar_view Dot = scalar_dot
in_scalar_view Equals = scalar_other
in_scalar_view Comma = scalar_other
in_scalar_view LeftSquareBracket = scalar_other
in_scalar_view RightSquareBracket = scalar_other
in_scalar_view LeftCurlyBracket = scalar_other
in_scalar_view RightCurlyBracket = scalar_other
in_scalar_view Whitespace = scalar_whitespace
in_scalar_view Comment = scalar_other
in_scalar_view Newline = scalar_other
in_scalar_view LiteralString = scalar_other
in_scalar_view BasicString = scalar_other
in_scalar_view MlLiteralString = scalar_other
in_scalar_view MlBasicString = scalar_other
in_scalar_view Atom = scalar_atom
in_scalar_view Eof = scalar_other

-- the ends of lines
pub data InLineView : Kind → InLine → Type 0 where
  line_whitespace : InLineView Whitespace InLine.Whitespace
  line_comment : InLineView Comment InLine.Comment
  line_newline : InLineView Newline InLine.Newline
  line_eof : InLineView Eof InLine.Eof
  line_other : {k : Kind} → InLineView k InLine.Other

pub in_line_view : (k : Kind) → InLineView k (in_line k)
in_line_view Dot = line_other
in_line_view Equals = line_other
in_line_view Comma = line_other
in_line_view LeftSquareBracket = line_other
in_line_view RightSquareBracket = line_other
in_line_view LeftCurlyBracket = line_other
in_line_view RightCurlyBracket = line_other
in_line_view Whitespace = line_whitespace
in_line_view Comment = line_comment
in_line_view Newline = line_newline
in_line_view LiteralString = line_other
in_line_view BasicString = line_other
in_line_view MlLiteralString = line_other
in_line_view MlBasicString = line_other
in_line_view Atom = line_other
in_line_view Eof = line_eof

-- what begins a scalar, and the class of its start
pub data StartView : Kind → Starting → Type 0 where
  starts_quoted : {k : Kind} {e : Encoding} → AnyString k → StartView k (Starting.Quoted e)
  starts_unquoted : {k : Kind} → DotOrAtom k → StartView k Starting.Unquoted

-- arrays
pub data InArrayView : Kind → InArray → Type 0 where
  array_whitespace : InArrayView Whitespace InArray.Whitespace
  array_comment : InArrayView Comment InArray.Comment
  array_newline : InArrayView Newline InArray.Newline
  array_eof : InArrayView Eof InArray.Eof
  array_commas : InArrayView Comma InArray.Comma
  array_equals : InArrayView Equals InArray.Equals
  array_open_curly : InArrayView LeftCurlyBracket InArray.OpenCurly
  array_close_curly : InArrayView RightCurlyBracket InArray.CloseCurly
  array_open_square : InArrayView LeftSquareBracket InArray.OpenSquare
  array_close_square : InArrayView RightSquareBracket InArray.CloseSquare
  array_scalar : {k : Kind} → StartView k (starting_of k) → InArrayView k InArray.Scalar

pub in_array_view : (k : Kind) → InArrayView k (in_array k)
in_array_view Dot = array_scalar (starts_unquoted it_is_dot)
in_array_view Equals = array_equals
in_array_view Comma = array_commas
in_array_view LeftSquareBracket = array_open_square
in_array_view RightSquareBracket = array_close_square
in_array_view LeftCurlyBracket = array_open_curly
in_array_view RightCurlyBracket = array_close_curly
in_array_view Whitespace = array_whitespace
in_array_view Comment = array_comment
in_array_view Newline = array_newline
in_array_view LiteralString = array_scalar (starts_quoted literal)
in_array_view BasicString = array_scalar (starts_quoted basic)
in_array_view MlLiteralString = array_scalar (starts_quoted multi_line_literal)
in_array_view MlBasicString = array_scalar (starts_quoted multi_line_basic)
in_array_view Atom = array_scalar (starts_unquoted it_is_atom)
in_array_view Eof = array_eof

-- values
pub data InValueView : Kind → InValue → Type 0 where
  value_nothing : {k : Kind} → InValueView k InValue.Nothing
  value_equals : InValueView Equals InValue.Equals
  value_open_curly : InValueView LeftCurlyBracket InValue.OpenCurly
  value_close_curly : InValueView RightCurlyBracket InValue.CloseCurly
  value_open_square : InValueView LeftSquareBracket InValue.OpenSquare
  value_close_square : InValueView RightSquareBracket InValue.CloseSquare
  value_scalar : {k : Kind} → StartView k (starting_of k) → InValueView k InValue.Scalar

pub in_value_view : (k : Kind) → InValueView k (in_value k)
in_value_view Dot = value_scalar (starts_unquoted it_is_dot)
in_value_view Equals = value_equals
in_value_view Comma = value_nothing
in_value_view LeftSquareBracket = value_open_square
in_value_view RightSquareBracket = value_close_square
in_value_view LeftCurlyBracket = value_open_curly
in_value_view RightCurlyBracket = value_close_curly
in_value_view Whitespace = value_nothing
in_value_view Comment = value_nothing
in_value_view Newline = value_nothing
in_value_view LiteralString = value_scalar (starts_quoted literal)
in_value_view BasicString = value_scalar (starts_quoted basic)
in_value_view MlLiteralString = value_scalar (starts_quoted multi_line_literal)
in_value_view MlBasicString = value_scalar (starts_quoted multi_line_basic)
in_value_view Atom = value_scalar (starts_unquoted it_is_atom)
in_value_view Eof = value_nothing

-- lines
pub data InDocumentView (P : Parts) : Kind → InDocument → Type 0 where
  document_open_square : InDocumentView P LeftSquareBracket InDocument.OpenSquare
  document_close_square : InDocumentView P RightSquareBracket InDocument.CloseSquare
  document_key : {k : Kind} {e : Encoding} → (P (kind_by_encoding e) → KeyPart P k) → InDocumentView P k (InDocument.Key e)
  document_equals : InDocumentView P Equals InDocument.Equals
  document_dot : InDocumentView P Dot InDocument.Dot
  document_stray : {k : Kind} → InDocumentView P k InDocument.Stray
  document_whitespace : InDocumentView P Whitespace InDocument.Whitespace
  document_newline : InDocumentView P Newline InDocument.Newline
  document_comment : InDocumentView P Comment InDocument.Comment
  document_eof : InDocumentView P Eof InDocument.Eof

pub in_document_view : (P : Parts) (k : Kind) → InDocumentView P k (in_document k)
in_document_view P Dot = document_dot
in_document_view P Equals = document_equals
in_document_view P Comma = document_stray
in_document_view P LeftSquareBracket = document_open_square
in_document_view P RightSquareBracket = document_close_square
in_document_view P LeftCurlyBracket = document_stray
in_document_view P RightCurlyBracket = document_stray
in_document_view P Whitespace = document_whitespace
in_document_view P Comment = document_comment
in_document_view P Newline = document_newline
in_document_view P LiteralString = document_key (string_part literal)
in_document_view P BasicString = document_key (string_part basic)
in_document_view P MlLiteralString = document_key (string_part multi_line_literal)
in_document_view P MlBasicString = document_key (string_part multi_line_basic)
in_document_view P Atom = document_key atom_part
in_document_view P Eof = document_eof

-- next_token_if: the kinds are the same, or the test says that they are not
pub data SameView : Kind → Kind → Bool → Type 0 where
  same_kinds : {k : Kind} → SameView k k true
  other_kinds : {k l : Kind} → SameView k l false

pub same_view : (k l : Kind) → SameView k l (eqb (number_of k) (number_of l))
same_view k l = go (eqb (number_of k) (number_of l)) refl
  where
    go : (t : Bool) → eqb (number_of k) (number_of l) ≡ t → SameView k l t
    go true e = subst (λ x. SameView k x true) (same_kind k l (eqb-true (number_of k) (number_of l) e)) same_kinds
    go false e = other_kinds
