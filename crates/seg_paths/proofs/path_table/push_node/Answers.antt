use Rattle.std.proofs.Common.{◌<◌, ◌^◌, sym, subst, ◌∙◌}
use Rattle.seg_column_format.specs.CompositeKeys.{asked}
use Rattle.seg_paths.proofs.NodePaths.{keys-pushed}
use Rattle.seg_paths.proofs.path_table.push_node.Goals as goal

pub returns-clause-ok : goal.returns-clause-ok
returns-clause-ok c = (
  c.in-Ok.ensures.1 ∙ c.len.ensures.len,
  subst (λ n. n < 2 ^ 32) (sym c.in-Ok.ensures.1) c.in-Ok.ensures.0,
  keys-pushed c.args.nodes.now.keys c.insert.new.self.keys c.in_ok-copy.copy
      (asked c.args.node) c.in_ok-copy.ensures c.requires c.in-Ok-insert.ensures.keys,
)
