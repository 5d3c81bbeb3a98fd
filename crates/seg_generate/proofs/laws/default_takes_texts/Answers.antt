use Rattle.seg_generate.proofs.DefaultTokens.{default_takes_texts}
use Rattle.seg_generate.proofs.laws.default_takes_texts.Goals as goal

pub returns : goal.returns
returns c = default_takes_texts
