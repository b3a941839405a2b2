-- The loop goes back record by record; what is found from here is what is found from the start.
use Rattle.std.proofs.Common.{◌≡◌}
use Rattle.token.specs.Tokens.{Good, all_tokens}
use Rattle.token.specs.Search.{nearest_between}
use Rattle.backward_search.proofs.nearest_before.Given as goal

abbrev pub invariant-loop-at : goal.invariant-loop-at
invariant-loop-at l =
    record {
      same : nearest_between l.what l.none l.first l.at (all_tokens l.s l.fn.c.base) ≡ nearest_between l.what l.none l.first l.fn.c.at (all_tokens l.s l.fn.c.base);
      good : Good l.s (record { base = l.fn.c.base; at = l.at; place = l.place });
    }
