use Rattle.std.proofs.Common.{◌∙◌, List, Option, refl, subst}
use Rattle.seg_model.specs.Input.{Filter}
use Rattle.seg_merger.specs.Merger.{OpensMerger, starves}
use Rattle.seg_merger.proofs.FittingFilters.{none_each}
use Rattle.seg_merger.proofs.index_merger.IndexMerger.open.Goals as goal

pub returns-in_default : goal.returns-in_default
returns-in_default g c = starves refl refl

pub returns : goal.returns
returns g c =
    subst
    (λ (filters : List (Option Filter)). OpensMerger c.args.schema c.args.segments.now filters c.open_with_custom_alive_set.result
    (g.W.Directory.state c.args.directory.now) (g.W.Directory.state c.open_with_custom_alive_set.new.directory))
    (c.in-Ok.ensures ∙ none_each c.args.segments.now) c.open_with_custom_alive_set.ensures
