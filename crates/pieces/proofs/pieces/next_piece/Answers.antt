-- Past what is sound and blank, up to the first piece.
use Rattle.std.proofs.Common.{sym, ◌∙◌, ◌∷◌, inl, inr, false, get_or, ◌+◌, ◌*◌, ◌/◌, length, arith}
use Rattle.rules.specs.Answer.{event_size}
use Rattle.pieces.specs.Messages.{text_skipped}
use Rattle.pieces.specs.declared.sorts.Sort.{Sort}
use Rattle.pieces.proofs.PieceLaws.{pieces_on, none_left}
use Rattle.pieces.proofs.pieces.next_piece.Goals as goal

pub returns-in-Skipped : goal.returns-in-Skipped
returns-in-Skipped c =
    let e = sym c.sort_at.ensures ∙ c.in-Skipped.is in
    let skip = c.skip_on-skip.ensures in (
      c.loop-at.invariant.same ∙ pieces_on (length c.args.events.now / event_size) c.loop-at.at c.args.events.now c.loop-at-test.true Sort.Skipped e false
          ∙ (λ j. record { message = text_skipped; start = get_or c.args.events.now (c.loop-at.at * event_size + 2) 0; end = sym skip.ends j } ∷ skip.behind j),
      omega (arith, c.loop-at.invariant.on, skip.on),
      skip.within,
    )

pub returns-in-Wrong : goal.returns-in-Wrong
returns-in-Wrong c = (
  c.loop-at.invariant.same
      ∙ pieces_on (length c.args.events.now / event_size) c.loop-at.at c.args.events.now c.loop-at-test.true (Sort.Wrong c.in-Wrong.message) (sym c.in-Wrong.ensures) false,
  omega (arith, c.loop-at.invariant.on),
  omega arith,
)

pub loop-at-preserved : goal.loop-at-preserved
loop-at-preserved c =
    let n = length c.args.events.now / event_size in
    elim c.in-Blank.is [
      | inl is ↦ record {
        same = c.loop-at.invariant.same ∙ pieces_on n c.loop-at.at c.args.events.now c.loop-at-test.true Sort.Blank (sym c.sort_at.ensures ∙ is) false;
        on = omega (arith, c.loop-at.invariant.on);
      }
      | inr is ↦ record {
        same = c.loop-at.invariant.same ∙ pieces_on n c.loop-at.at c.args.events.now c.loop-at-test.true Sort.Sound (sym c.sort_at.ensures ∙ is) false;
        on = omega (arith, c.loop-at.invariant.on);
      }
    ]

pub returns : goal.returns
returns c = c.loop-at.invariant.same ∙ none_left (length c.args.events.now / event_size) c.loop-at.at c.args.events.now false c.loop-at-test.false
