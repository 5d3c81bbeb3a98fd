use Rattle.std.proofs.Common.{map, ap, sym, ◌∙◌, append-nil, ◌++◌}
use Rattle.std.proofs.lemmas.List.{drop_all}
use Rattle.seg_merger.proofs.MergedKeys.{stream_of, all_forward, at_first_term}
use Rattle.seg_merger.proofs.term_merge.streams_of.Goals as goal

pub returns-clause-are : goal.returns-clause-are
returns-clause-are c =
    let none = ap (map stream_of) (drop_all c.loop-source.source-index c.args.sources.now c.loop-source-test.false) in
    sym (append-nil c.loop-source.streams.items) ∙ ap (λ l. c.loop-source.streams.items ++ l) (sym none) ∙ c.loop-source.invariant

pub returns-clause-fresh : goal.returns-clause-fresh
returns-clause-fresh c = at_first_term c.args.sources.now c.loop-source.streams.items (returns-clause-are c)

pub returns-clause-forward : goal.returns-clause-forward
returns-clause-forward c = all_forward c.args.sources.now c.loop-source.streams.items (returns-clause-are c)
