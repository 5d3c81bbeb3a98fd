use Rattle.seg_tokens.proofs.Exports.{all_passed, one_more}
use Rattle.seg_meta.specs.MetaBounds.{HasTexts}
use Rattle.seg_meta.proofs.meta_law.have_texts.Goals as goal

pub loop-entry-preserved : goal.loop-entry-preserved
loop-entry-preserved c = one_more HasTexts c.args.entries.now c.loop-entry.entry-index c.entry-item.result c.loop-entry-test.true c.entry-item.is c.has_texts.ensures c.loop-entry.invariant

pub returns : goal.returns
returns c = all_passed HasTexts c.args.entries.now c.loop-entry.entry-index c.loop-entry-test.false c.loop-entry.invariant
