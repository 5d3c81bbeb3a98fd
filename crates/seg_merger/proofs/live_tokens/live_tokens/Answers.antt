use Rattle.std.proofs.Common.{Bool, sym, ap, ◌∙◌, min, arith}
use Rattle.std.specs.List.{slice_get}
use Rattle.std.proofs.lemmas.List.Sums.{count_by-le-length}
use Rattle.seg_merger.specs.JoinedTotals.{have_lengths}
use Rattle.seg_model.specs.Fields.{Schema}
use Rattle.seg_merger.proofs.JoinedTotals.{shared_is, some_there, tokens_shared, tokens_summed, tokens_whole, within}
use Rattle.seg_merger.proofs.live_tokens.live_tokens.Goals as goal

pub returns-then-not-has_deletes : goal.returns-then-not-has_deletes
returns-then-not-has_deletes c = within c.stored_total-total.result c.stored_total-total.type_inv
    ∙ ap (λ n. min 18446744073709551615 n) (c.stored_total-total.ensures ∙ sym (tokens_whole c.args.field c.args.part.now (sym c.has_deletes.ensures ∙ c.if-not-has_deletes.true)))

pub live_share-requires-clause-some : goal.live_share-requires-clause-some
live_share-requires-clause-some c =
    let some = some_there c.args.part.now.alive (sym c.has_deletes.ensures ∙ c.if-not-has_deletes.false) in
    omega (arith, some, c.documents_are_marked.ensures, c.max_doc.ensures)

pub live_share-requires-clause-within : goal.live_share-requires-clause-within
live_share-requires-clause-within c =
    let few = count_by-le-length (λ (b : Bool). b) c.args.part.now.alive in
    omega (arith, few, c.num_docs.ensures, c.max_doc.ensures, c.documents_are_marked.ensures)

pub returns-then-has_lengths : goal.returns-then-has_lengths
returns-then-has_lengths c =
    c.live_lengths.ensures
    ∙ ap (λ n. min 18446744073709551615 n) (sym (tokens_summed c.args.field c.args.part.now (sym c.has_deletes.ensures ∙ c.if-not-has_deletes.false)
    (ap (λ (s : Schema). have_lengths (slice_get s c.args.field)) (sym c.schema.ensures) ∙ sym c.has_lengths.ensures ∙ c.if-has_lengths.true)))

pub returns : goal.returns
returns c =
    c.live_share.ensures
    ∙ ap (λ n. min 18446744073709551615 n)
    (shared_is c.args.field c.args.part.now c.stored_total-total.result c.num_docs.result c.max_doc.result c.stored_total-total.ensures c.num_docs.ensures c.max_doc.ensures
    ∙ sym (tokens_shared c.args.field c.args.part.now (sym c.has_deletes.ensures ∙ c.if-not-has_deletes.false)
    (ap (λ (s : Schema). have_lengths (slice_get s c.args.field)) (sym c.schema.ensures) ∙ sym c.has_lengths.ensures ∙ c.if-has_lengths.false)))
