use Rattle.seg_values.specs.ValueTrees.{tree_of}
use Rattle.seg_values.proofs.LastValues.{found_more}
use Rattle.seg_values.proofs.document_maps.put_hashed.Goals as goal

pub returns : goal.returns
returns c = found_more tree_of c.args.values.now.entries c.insert.new.self.entries c.args.field c.args.value (λ q. c.in_ok-insert.ensures.updates.0 q)
