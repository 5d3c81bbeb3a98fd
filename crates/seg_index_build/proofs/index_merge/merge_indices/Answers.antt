use Rattle.std.proofs.Common.{map}
use Rattle.seg_index_build.specs.MergedIndices.{places}
use Rattle.seg_index_build.proofs.MergeEnds.{indices_merge}
use Rattle.seg_index_build.proofs.index_merge.merge_indices.Goals as goal

pub returns : goal.returns
returns g c =
    indices_merge c.args.indices.now c.args.id c.id_fits.ensures c.compare_and_merge.result
    (places (map g.W.Directory.state c.args.sources.now) (g.O.Directory.state c.args.output.now))
    (places (map g.W.Directory.state c.compare_and_merge.new.sources) (g.O.Directory.state c.compare_and_merge.new.output))
    c.compare_and_merge.ensures
