use Rattle.std.proofs.Common.{◌≡◌, ◌+◌, suc, length, drop, true, ap, sym, ◌∙◌, arith}
use Rattle.std.specs.List.{slice_get, flat_map}
use Rattle.seg_values.specs.ValueTrees.{tree_of}
use Rattle.seg_model.specs.Fields.{is_field}
use Rattle.seg_model.specs.DocumentTerms.{stored_document}
use Rattle.seg_values.specs.StoredBytes.{pair_form}
use Rattle.seg_model.specs.SaturatedNumbers.{saturated}
use Rattle.seg_check.proofs.StoredLengths.{pair_skipped, pair_kept, pair_more}
use Rattle.seg_check.proofs.stored_len.stored_len.Goals as goal

pub loop-at-preserved : goal.loop-at-preserved
loop-at-preserved c =
    let schema = c.args.schema.now in
    let document = c.args.document.now in
    let i = c.loop-at.at in
    let field = c.pair-field.result.0 in
    let t = tree_of c.pair-field.result.1.now in
    let kept : is_field (λ e. e.stored) (slice_get schema field) ≡ true = sym c.is_stored.ensures ∙ c.if-not-is_stored.false in
    let more : length (stored_document schema (drop i document)) ≡ suc (length (stored_document schema (drop (i + 1) document))) = ap length (pair_kept schema document i field t c.pair-field.ensures kept) in
    record {
      number = omega (arith, c.loop-at.invariant.number, more);
      few = omega (arith, c.loop-at.invariant.few);
      sum = pair_more schema document i field t c.pair-field.ensures c.loop-at.size c.saturating_add-size.result kept
          (c.saturating_add-size.ensures ∙ ap (λ n. saturated (c.loop-at.size + n)) c.pair_len.ensures) ∙ c.loop-at.invariant.sum;
    }

pub loop-at-preserved-then-not-is_stored : goal.loop-at-preserved-then-not-is_stored
loop-at-preserved-then-not-is_stored c =
    let schema = c.args.schema.now in
    let document = c.args.document.now in
    let same : stored_document schema (drop (c.loop-at.at + 1) document) ≡ stored_document schema (drop c.loop-at.at document) = pair_skipped schema document c.loop-at.at c.pair-field.result.0 (tree_of c.pair-field.result.1.now) c.pair-field.ensures (sym c.is_stored.ensures ∙ c.if-not-is_stored.true) in
    record {
      number = ap (λ d. c.loop-at.count + length d) same ∙ c.loop-at.invariant.number;
      few = omega (arith, c.loop-at.invariant.few);
      sum = ap (λ d. saturated (c.loop-at.size + length (flat_map pair_form d))) same ∙ c.loop-at.invariant.sum;
    }
