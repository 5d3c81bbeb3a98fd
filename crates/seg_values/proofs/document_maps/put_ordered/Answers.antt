use Rattle.seg_values.specs.ValueTrees.{tree_of}
use Rattle.seg_values.proofs.LastValues.{ordered_more}
use Rattle.seg_values.proofs.document_maps.put_ordered.Goals as goal

pub returns : goal.returns
returns c = ordered_more tree_of c.args.values.now.entries c.insert.new.self.entries c.args.field c.args.value (λ q. c.in_ok-insert.ensures.updates.0 q)
