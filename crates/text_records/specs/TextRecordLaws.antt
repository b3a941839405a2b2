-- How a loop counts and writes the records of a text's tokens. Proved; nothing here needs to be believed.
use Rattle.std.specs.Prelude.{◌≡◌, refl}
use Rattle.std.proofs.Math.Path.{ap, sym}
use Rattle.std.proofs.Common.{◌∙◌}
use mathlib.Core.List.{List, [], ◌++◌}
use Prim.Native.Nat.{ℕ, ◌+◌, ◌-◌, ◌*◌, ◌/◌, ◌<◌, ◌≤◌}
use native.Mathlib.Omega.{arith}
use Rattle.std.proofs.Math.ListN.{length, drop}
use Rattle.token.specs.declared.kind.Kind.TheVariants.{Eof}
use Rattle.token.specs.Kinds.{number_of}
use Rattle.token.specs.Writing.{record_of, records_of, put_at}
use Rattle.token.specs.WritingLaws.{put_length, written_from, written_record, written_none, records_length}
use Rattle.scan.specs.declared.lexer.Found.{Found}
use Rattle.scan.specs.Lexer.{tokens_from}
use Rattle.scan.specs.Finding.{IsToken, piece_at}
use Rattle.scan.specs.LexerLaws.{lexer_on, lexer_end, lexer_some}
use Rattle.token_records.specs.Put.{Put}

-- a loop that counts: n tokens, and those still to come
pub record Counted (s : List ℕ) (at₀ at n : ℕ) : Type 0 where
  pub low : at ≤ length s
  pub few : n ≤ at
  pub total : n + length (tokens_from s at) ≡ length (tokens_from s at₀)

pub counted_begun : (s : List ℕ) (at : ℕ) → at ≤ length s → Counted s at at 0
counted_begun s at h = record { low = h; few = omega arith; total = omega arith }

module _ {s : List ℕ} {at₀ at n : ℕ} (x : Counted s at₀ at n) where
  pub counted_on : at < length s → (f : Found) → IsToken s at f → Counted s at₀ f.end (n + 1)
  counted_on h f t =
      record { low = t.within; few = omega (arith, x.few, t.end); total = omega (arith, x.total, ap length (lexer_on s at h f t)) }

  pub counted_end : length s ≤ at → n + 1 ≡ length (tokens_from s at₀)
  counted_end h = omega (arith, x.total, ap length (lexer_end s at h))

  -- there is a token still to come
  pub counted_room : (room : ℕ) → 6 * length (tokens_from s at₀) ≤ room → 6 * n + 6 ≤ room
  counted_room room h = omega (arith, h, x.total, lexer_some 0 at (drop at s))

-- a loop that writes: what is still to be written leads to what was to be written
pub record Writes (s : List ℕ) (at₀ : ℕ) (out₀ : List ℕ) (at n : ℕ) (out : List ℕ) : Type 0 where
  pub counted : Counted s at₀ at n
  pub room : 6 * length (tokens_from s at₀) ≤ length out
  pub keeps : length out ≡ length out₀
  pub same : written_from (records_of (tokens_from s at)) n out ≡ written_from (records_of (tokens_from s at₀)) 0 out₀

pub writes_begun : (s : List ℕ) (at : ℕ) (out : List ℕ) → at ≤ length s → 6 * length (tokens_from s at) ≤ length out → Writes s at out at 0 out
writes_begun s at out h r = record { counted = counted_begun s at h; room = r; keeps = refl; same = refl }

module _ {s : List ℕ} {at₀ at n : ℕ} {out₀ out : List ℕ} (x : Writes s at₀ out₀ at n out) where
  here_room : 6 * n + 6 ≤ length out
  here_room = counted_room x.counted (length out) x.room

  -- all that is still to be written has room
  rest_room : 6 * n + length (records_of (tokens_from s at)) ≤ length out
  rest_room = omega (arith, x.room, x.counted.total, records_length (tokens_from s at))

  pub writes_on : at < length s → (f : Found) → IsToken s at f → (out' : List ℕ) → out' ≡ put_at out n (f.end - at) (number_of f.kind) → Writes s at₀ out₀ f.end (n + 1) out'
  unfolding records_of
  writes_on h f t out' e =
      let l = ap length e ∙ put_length out n (f.end - at) (number_of f.kind) here_room in
      let q : records_of (tokens_from s at) ≡ record_of (f.end - at) (number_of f.kind) ++ records_of (tokens_from s f.end) = ap records_of (lexer_on s at h f t) in
      let r : 6 * n + 6 + length (records_of (tokens_from s f.end)) ≤ length out = omega (arith, rest_room, ap length q) in
      record {
        counted = counted_on x.counted h f t;
        room = omega (arith, x.room, l);
        keeps = l ∙ x.keeps;
        same =
            ap (λ (o : List ℕ). written_from (records_of (tokens_from s f.end)) (n + 1) o) e
            ∙ written_record (records_of (tokens_from s f.end)) n (f.end - at) (number_of f.kind) out r
            ∙ ap (λ (bytes : List ℕ). written_from bytes n out) (sym q)
            ∙ x.same;
      }

  -- behind the last token, Eof
  pub writes_end : length s ≤ at → (out' : List ℕ) → out' ≡ put_at out n 0 (number_of Eof) → (out' ≡ records_of (tokens_from s at₀) ++ drop (6 * length (tokens_from s at₀)) out₀) × (length out' ≡ length out₀)
  unfolding records_of
  writes_end h out' e =
      let z : at - at ≡ 0 = omega arith in
      let q : records_of (tokens_from s at) ≡ record_of 0 (number_of Eof) ++ [] = ap records_of (lexer_end s at h) ∙ ap (λ (m : ℕ). record_of m (number_of Eof) ++ []) z in
      let b : List ℕ = records_of (tokens_from s at₀) in
      let k : 6 * 0 + length b ≡ 6 * length (tokens_from s at₀) = omega (arith, records_length (tokens_from s at₀)) in (
        sym (written_none (n + 1) out')
            ∙ ap (λ (o : List ℕ). written_from [] (n + 1) o) e
            ∙ written_record [] n 0 (number_of Eof) out (omega (arith, here_room))
            ∙ ap (λ (bytes : List ℕ). written_from bytes n out) (sym q)
            ∙ x.same
            ∙ ap (λ (m : ℕ). b ++ drop m out₀) k,
        ap length e ∙ put_length out n 0 (number_of Eof) here_room ∙ x.keeps,
      )

-- the same with the place of the next record in the buffer
pub record Placed (s : List ℕ) (at₀ : ℕ) (buffer₀ : List ℕ) (at out : ℕ) (buffer : List ℕ) : Type 0 where
  pub n : ℕ
  pub is : out ≡ 6 * n
  pub writes : Writes s at₀ buffer₀ at n buffer

pub placed_begun : (s : List ℕ) (at : ℕ) (buffer : List ℕ) → at ≤ length s → 6 * length (tokens_from s at) ≤ length buffer → Placed s at buffer at 0 buffer
placed_begun s at buffer h r = record { n = 0; is = omega arith; writes = writes_begun s at buffer h r }

module _ {s : List ℕ} {at₀ at out : ℕ} {buffer₀ buffer : List ℕ} (x : Placed s at₀ buffer₀ at out buffer) where
  pub placed_room : out + 6 ≤ length buffer
  placed_room = let z = counted_room x.writes.counted (length buffer) x.writes.room in omega (arith, z, x.is)

  pub placed_on : at < length s → (after : List ℕ) (end : ℕ) → Put s at buffer out after end → Placed s at₀ buffer₀ end (out + 6) after
  placed_on h after end p =
      record {
        n = x.n + 1;
        is = omega (arith, x.is);
        writes = writes_on x.writes h (record { end = end; kind = (piece_at s at).kind }) p.token after (p.bytes x.n x.is);
      }

  pub placed_end : length s ≤ at → out / 6 + 1 ≡ length (tokens_from s at₀)
  placed_end h = let z = counted_end x.writes.counted h in omega (arith, z, x.is)

  pub placed_all : length s ≤ at → (after : List ℕ) (number : ℕ) → number ≡ number_of Eof → ((n : ℕ) → out ≡ 6 * n → after ≡ put_at buffer n 0 number) → (after ≡ records_of (tokens_from s at₀) ++ drop (6 * length (tokens_from s at₀)) buffer₀) × (length after ≡ length buffer₀)
  placed_all h after number e b = writes_end x.writes h after (b x.n x.is ∙ ap (put_at buffer x.n 0) e)
