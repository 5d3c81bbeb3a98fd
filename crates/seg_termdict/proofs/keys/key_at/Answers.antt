use Rattle.seg_termdict.proofs.DictionaryKeys.{key_of-by}
use Rattle.seg_termdict.proofs.keys.key_at.Goals as goal

pub returns : goal.returns
returns c = key_of-by c.args.ends.now c.args.keys.now c.args.i c.key_start-start.result c.key_start-end.result c.key_start-start.ensures c.key_start-end.ensures
