use Rattle.seg_meta.proofs.MetaRoundTrips.{meta_read-meta_text}
use Rattle.seg_meta.proofs.meta_law.meta_texts_read_back.Goals as goal

pub returns : goal.returns
returns c = meta_read-meta_text
