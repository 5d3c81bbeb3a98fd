use Rattle.seg_open.proofs.alive_set.cut_by.Goals as goal

pub in_both-requires : goal.in_both-requires
in_both-requires c = (c.args.max_doc, c.requires.alive, c.requires.custom)

pub returns-clause-lacks : goal.returns-clause-lacks
returns-clause-lacks c =
    (c.unless_full.ensures c.args.max_doc (c.in_ok-both.ensures c.args.max_doc c.requires.alive c.requires.custom).size).1
