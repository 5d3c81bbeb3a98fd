use Rattle.seg_meta.specs.MetaMeaning.{meta_of}
use Rattle.seg_meta.proofs.MetaRoundTrips.{meta_read-meta_text}
use Rattle.seg_meta.proofs.meta_law.metas_read_back.Goals as goal

pub returns : goal.returns
returns c list = meta_read-meta_text (meta_of c.args.metas.now) c.meta_fits.ensures list c.fields_are_valid.ensures
