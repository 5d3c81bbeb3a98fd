use Rattle.std.proofs.Common.{◌+◌, map, drop, arith}
use Rattle.std.specs.Prelude.{sum}
use Rattle.seg_merger.specs.JoinedTerms.{IsOpenAt}
use Rattle.seg_merger.specs.JoinedTotals.{tokens_at}
use Rattle.seg_merger.specs.NewIds.{parts_of}
use Rattle.seg_merger.proofs.NumberedParts.{part_at}
use Rattle.seg_merger.proofs.JoinedTotals.{all_counted, more_counted, tokens_next, tokens_past}
use Rattle.seg_merger.proofs.joined_terms.tokens_of.Goals as goal

pub tokens-requires : goal.tokens-requires
tokens-requires c = part_at (IsOpenAt c.args.field) c.args.parts.now c.loop-part.part-index c.part-item.result c.loop-part-test.true c.part-item.is c.requires

pub loop-part-preserved : goal.loop-part-preserved
loop-part-preserved c =
    let parts = c.args.parts.now in
    let field = c.args.field in
    let i = c.loop-part.part-index in
    let n = c.part-item.result in
    record {
      counted = more_counted 18446744073709551615 c.loop-part.tokens (tokens_at field n.part) c.tokens.result
          (sum (map (tokens_at field) (parts_of (drop (i + 1) parts)))) (sum (map (tokens_at field) (parts_of (drop i parts)))) c.saturating_add-tokens.result
          (sum (map (tokens_at field) (parts_of parts))) c.loop-part.invariant.counted (tokens_next field parts i n c.loop-part-test.true c.part-item.is) (omega (arith, c.tokens.ensures)) c.saturating_add-tokens.ensures;
      fits = omega (arith, c.saturating_add-tokens.ensures);
    }

pub returns : goal.returns
returns c =
    let parts = c.args.parts.now in
    let field = c.args.field in
    let i = c.loop-part.part-index in
    all_counted 18446744073709551615 c.loop-part.tokens (sum (map (tokens_at field) (parts_of (drop i parts)))) (sum (map (tokens_at field) (parts_of parts)))
    c.loop-part.invariant.counted (tokens_past field parts i c.loop-part-test.false) (omega (arith, c.loop-part.invariant.fits))
