use Rattle.std.proofs.Common.{◌∙◌, length, sym, ap, subst, arith}
use Rattle.seg_common.specs.declared.term_info.TermInfo.{TermInfo}
use Rattle.seg_termdict.specs.MergedTerms.{Standing}
use Rattle.seg_termdict.specs.MergedStreams.{info_of, ord_of}
use Rattle.seg_termdict.proofs.FirstFronts.{Passes, passes, at_end, fronts_low, noted_all, noted_more}
use Rattle.seg_termdict.proofs.merger.pass_all.Goals as goal
use Rattle.seg_termdict.proofs.merger.pass_all.Goals.{In_ok-pass_one}

pub pop_at-requires : goal.pop_at-requires
pop_at-requires c = let i = c.loop-segment.invariant in fronts_low _ _ _ i.fronts i.low

pub pass_one-requires-clause-place : goal.pass_one-requires-clause-place
pass_one-requires-clause-place c =
    let i = c.loop-segment.invariant in
    (passes c.args.key.now c.in-Some.segment c.loop-segment.fronts c.pop_at.new.self c.loop-segment.heads.items i.fronts i.order i.low c.in-Some.ensures.some.0 c.in-Some.ensures.some.1).place

pub pass_one-requires-clause-stands : goal.pass_one-requires-clause-stands
pass_one-requires-clause-stands c =
    let i = c.loop-segment.invariant in
    (passes c.args.key.now c.in-Some.segment c.loop-segment.fronts c.pop_at.new.self c.loop-segment.heads.items i.fronts i.order i.low c.in-Some.ensures.some.0 c.in-Some.ensures.some.1).stands

-- the stream that came has gone on
step : (c : In_ok-pass_one) → Passes c.args.key.now c.in-Some.segment c.pop_at.new.self c.loop-segment.heads.items c.pass_one.new.heads.items
step c =
    let i = c.loop-segment.invariant in
    subst (Passes c.args.key.now c.in-Some.segment c.pop_at.new.self c.loop-segment.heads.items) (sym c.in_ok-pass_one.ensures.heads)
    (passes c.args.key.now c.in-Some.segment c.loop-segment.fronts c.pop_at.new.self c.loop-segment.heads.items i.fronts i.order i.low c.in-Some.ensures.some.0 c.in-Some.ensures.some.1)

pub loop-segment-smaller : goal.loop-segment-smaller
loop-segment-smaller c = omega (arith, ap (length {A = Standing TermInfo}) (step c).noted)

pub loop-segment-preserved : goal.loop-segment-preserved
loop-segment-preserved c =
    let i = c.loop-segment.invariant in
    let s = step c in record {
      fronts = s.fronts _ c.in_ok-pass_one.ensures.fronts;
      order = s.order;
      low = s.low;
      ords = noted_more ord_of _ _ _ _ _ _ c.in_ok-pass_one.ensures.ords s.noted i.ords;
      infos = noted_more info_of _ _ _ _ _ _ c.in_ok-pass_one.ensures.infos s.noted i.infos;
      heads = s.passed ∙ i.heads;
    }

pub returns-clause-ords : goal.returns-clause-ords
returns-clause-ords c =
    let i = c.loop-segment.invariant in
    noted_all ord_of _ _ _ (at_end c.args.key.now c.loop-segment.fronts c.loop-segment.heads.items i.fronts c.in_default.ensures.none.1).0 i.ords

pub returns-clause-infos : goal.returns-clause-infos
returns-clause-infos c =
    let i = c.loop-segment.invariant in
    noted_all info_of _ _ _ (at_end c.args.key.now c.loop-segment.fronts c.loop-segment.heads.items i.fronts c.in_default.ensures.none.1).0 i.infos

pub returns-clause-heads : goal.returns-clause-heads
returns-clause-heads c =
    let i = c.loop-segment.invariant in
    sym (at_end c.args.key.now c.loop-segment.fronts c.loop-segment.heads.items i.fronts c.in_default.ensures.none.1).1 ∙ i.heads
