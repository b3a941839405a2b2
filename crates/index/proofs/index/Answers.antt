-- The refusals in their order, else the entries.
use Rattle.std.proofs.Common.{List, ◌*◌, ◌++◌, length, drop, ap, ◌∙◌, arith}
use Rattle.headers.specs.declared.header.Header.{Header}
use Rattle.headers.specs.Headers.{entry_size, index_bytes}
use Rattle.headers.proofs.CountLaws.{headers_few, headers_taken}
use Rattle.index.proofs.IndexLaws.{not_quiet_lem, no_room, written}
use Rattle.index.proofs.index.Goals as goal

pub returns-then-not-is_indexable : goal.returns-then-not-is_indexable
returns-then-not-is_indexable c = record { quiet = c.is_indexable.result; tells = c.is_indexable.ensures; same = not_quiet_lem c.args.answer c.args.events.now c.args.index.now c.is_indexable.result _ c.if-not-is_indexable.true c.answered.ensures }

pub overflow_mul-bytes : goal.overflow_mul-bytes
overflow_mul-bytes c =
    let run = c.is_indexable.ensures.0 c.if-not-is_indexable.false in
    let counted = c.count_headers-headers.ensures ∙ ap (λ (headers : List Header). length headers) (headers_taken c.args.answer.events c.args.events.now run.held) in
    omega (arith, run.few, counted, headers_few c.args.answer.events c.args.events.now)

pub returns-then-index-bytes : goal.returns-then-index-bytes
returns-then-index-bytes c =
    let run = c.is_indexable.ensures.0 c.if-not-is_indexable.false in
    let counted = c.count_headers-headers.ensures ∙ ap (λ (headers : List Header). length headers) (headers_taken c.args.answer.events c.args.events.now run.held) in
    record { quiet = c.is_indexable.result; tells = c.is_indexable.ensures; same = no_room c.args.answer c.args.events.now c.args.index.now c.is_indexable.result c.count_headers-headers.result _ c.if-not-is_indexable.false counted c.if-index-bytes.true c.answered-then-index-bytes.ensures }

pub returns : goal.returns
returns c =
    let run = c.is_indexable.ensures.0 c.if-not-is_indexable.false in
    let taken = headers_taken c.args.answer.events c.args.events.now run.held in
    let counted = c.count_headers-headers.ensures ∙ ap (λ (headers : List Header). length headers) taken in
    let bytes = c.write_index.ensures ∙ ap (λ (headers : List Header). index_bytes headers ++ drop (entry_size * length headers) c.args.index.now) taken in
    record { quiet = c.is_indexable.result; tells = c.is_indexable.ensures; same = written c.args.answer c.args.events.now c.args.index.now c.is_indexable.result c.count_headers-headers.result _ c.if-not-is_indexable.false counted _ c.if-index-bytes.false bytes c.answered-2.ensures }
