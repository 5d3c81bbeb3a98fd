use Rattle.seg_store.proofs.FittingFields.{opened}
use Rattle.seg_store.proofs.store_reader.StoreReader.open.Goals as goal

pub returns : goal.returns
returns c = opened c.args.bytes c.open_checked.result c.open_checked.ensures.ok c.open_checked.ensures.err
