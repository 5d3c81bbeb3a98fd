use Rattle.std.proofs.Common.{◌<◌, ◌^◌}
use Rattle.seg_tokens.proofs.Exports.{all_passed, one_more}
use Rattle.seg_meta.proofs.meta_law.ids_fit.Goals as goal

pub loop-id-preserved : goal.loop-id-preserved
loop-id-preserved c = one_more (λ id. id < 2 ^ 128) c.args.ids.now c.loop-id.id-index c.id-item.result c.loop-id-test.true c.id-item.is c.id_fits.ensures c.loop-id.invariant

pub returns : goal.returns
returns c = all_passed (λ id. id < 2 ^ 128) c.args.ids.now c.loop-id.id-index c.loop-id-test.false c.loop-id.invariant
