use Rattle.seg_generate.proofs.InputParts.{made}
use Rattle.seg_generate.proofs.input.generated_input.Goals as goal

pub returns : goal.returns
returns c = made c.args.seed _ _ _ _ _ c.in_ok-schema.ensures c.in_ok-operations.ensures c.in_ok-cuts.ensures c.in_ok-filters.ensures c.in_ok-ids.ensures
