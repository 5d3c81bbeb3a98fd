use Rattle.seg_values.proofs.JsonRoundTrips.{tree_back}
use Rattle.seg_values.proofs.laws.json_reads_back.Goals as goal

pub returns : goal.returns
returns c = tree_back
