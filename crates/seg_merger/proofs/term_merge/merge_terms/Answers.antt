use Rattle.std.proofs.Common.{Some, None, ap, ◌∙◌}
use Rattle.std.specs.FinMap.{entries}
use Rattle.seg_termdict.specs.MergedTerms.{merged_terms}
use Rattle.seg_merger.proofs.MergedKeys.{streams_ranked}
use Rattle.seg_merger.proofs.term_merge.merge_terms.Goals as goal

pub returns-in-Ok : goal.returns-in-Ok
returns-in-Ok c =
    c.in-Ok.ensures.ok
    ∙ ap (λ ts. Some (record { left = entries (merged_terms ts); current = None })) (streams_ranked c.args.sources.now c.in_ok-streams.streams.items c.in_ok-streams.ensures.are)
