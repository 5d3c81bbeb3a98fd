use Rattle.std.proofs.Common.{◌+◌, ◌∙◌, ap, map, min, take, drop, arith}
use Rattle.std.specs.Prelude.{sum}
use Rattle.seg_model.specs.Norms.{length_of_id}
use Rattle.seg_model.specs.Operations.{kept}
use Rattle.seg_merger.proofs.JoinedTotals.{all_counted, lengths_next, lengths_past, more_counted}
use Rattle.seg_merger.proofs.live_tokens.sum_of_lengths.Goals as goal

pub loop-doc-preserved : goal.loop-doc-preserved
loop-doc-preserved c =
    let marks = c.args.part.now.alive in
    let ids = c.args.norms.now in
    let i = c.loop-doc.doc in
    record {
      counted = more_counted 18446744073709551615 c.loop-doc.tokens (sum (map length_of_id (kept (take 1 (drop i marks)) (take 1 (drop i ids))))) _
          (sum (map length_of_id (kept (drop (i + 1) marks) (drop (i + 1) ids)))) (sum (map length_of_id (kept (drop i marks) (drop i ids)))) c.saturating_add-tokens.result
          (sum (map length_of_id (kept marks ids))) c.loop-doc.invariant.counted (lengths_next marks ids i) (ap (λ n. min 18446744073709551615 n) (c.from.ensures ∙ c.live_length.ensures)) c.saturating_add-tokens.ensures;
      fits = omega (arith, c.saturating_add-tokens.ensures);
    }

pub returns : goal.returns
returns c =
    let marks = c.args.part.now.alive in
    let ids = c.args.norms.now in
    let i = c.loop-doc.doc in
    all_counted 18446744073709551615 c.loop-doc.tokens (sum (map length_of_id (kept (drop i marks) (drop i ids)))) (sum (map length_of_id (kept marks ids)))
    c.loop-doc.invariant.counted (lengths_past marks ids i (omega (arith, c.requires, c.max_doc-doc-end.ensures, c.loop-doc-test.false))) (omega (arith, c.loop-doc.invariant.fits))
