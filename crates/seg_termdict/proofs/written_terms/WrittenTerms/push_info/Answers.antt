use Rattle.seg_termdict.proofs.BuilderGrowth.{info_keeps, info_view}
use Rattle.seg_termdict.proofs.written_terms.WrittenTerms.push_info.Goals as goal

pub invariant_of-self-2 : goal.invariant_of-self-2
invariant_of-self-2 c =
    let i = c.self.inside in
    rw c.in_ok-put_info.ensures.ok (info_keeps i.ends.items i.keys.items i.infos.items i.key_count i.info_count i.last_start c.args.self.now c.self.invariant c.self.view_is c.args.info.now c.requires.alternate c.requires.ranges c.in_ok-put_info.ensures.widths)

pub returns : goal.returns
returns c =
    let i = c.self.inside in
    rw c.in_ok-put_info.ensures.ok (info_view i.ends.items i.keys.items i.infos.items i.key_count i.info_count i.last_start c.args.self.now c.self.invariant c.self.view_is c.args.info.now c.requires.alternate c.requires.ranges c.in_ok-put_info.ensures.widths)
