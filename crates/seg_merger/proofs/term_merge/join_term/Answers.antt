use Rattle.std.proofs.Common.{sym, ap, subst, ◌∙◌, arith}
use Rattle.std.specs.List.{flat_map}
use Rattle.std.proofs.lemmas.Result.{on_ok_weaker}
use Rattle.std.proofs.lemmas.List.{drop_all}
use Rattle.seg_merger.specs.MovedPostings.{moved_from_all}
use Rattle.seg_merger.proofs.KeyStandings.{all_given_at, given_at, segment_within, source_joinable, source_has, next_given}
use Rattle.seg_segment.proofs.Exports.{AreGiven, all_given, given_more, has_whole_term, may_begin, may_end, may_take, none_given}
use Rattle.seg_merger.proofs.term_merge.join_term.Goals as goal

pub loop-segment-init : goal.loop-segment-init
loop-segment-init c =
    let key = c.args.key.now in
    let sources = c.args.sources.now in
    let all = moved_from_all key sources in
    let may = may_begin key all (c.requires.joinable.postings key) c.args.writer.now c.requires.opens in
    subst (AreGiven key c.args.writer.now c.args.writer.now all) (sym (ap (flat_map (given_at sources key)) c.requires.standings ∙ all_given_at key sources c.requires.joinable.each)) (none_given key c.args.writer.now all may)

pub bounds-sources-segment : goal.bounds-sources-segment
bounds-sources-segment c = segment_within c.args.key.now c.args.sources.now c.requires.joinable.each c.args.standings.now c.requires.standings c.loop-segment.segment-index c.loop-segment-test.true

pub offset_bounds-sources-segment : goal.offset_bounds-sources-segment
offset_bounds-sources-segment c =
    let within = segment_within c.args.key.now c.args.sources.now c.requires.joinable.each c.args.standings.now c.requires.standings c.loop-segment.segment-index c.loop-segment-test.true in
    omega (arith, within)

pub add_postings-requires-clause-joinable : goal.add_postings-requires-clause-joinable
add_postings-requires-clause-joinable c = source_joinable c.args.key.now c.args.sources.now c.requires.joinable.each c.args.standings.now c.requires.standings c.loop-segment.segment-index c.loop-segment-test.true c.index-sources-segment.result c.index-sources-segment.is

pub add_postings-requires-clause-has : goal.add_postings-requires-clause-has
add_postings-requires-clause-has c = source_has c.args.key.now c.args.sources.now c.requires.joinable.each c.args.standings.now c.requires.standings c.loop-segment.segment-index c.loop-segment-test.true c.index-sources-segment.result c.index-sources-segment.is

pub add_postings-requires-clause-takes : goal.add_postings-requires-clause-takes
add_postings-requires-clause-takes c =
    let key = c.args.key.now in
    let sources = c.args.sources.now in
    let all = moved_from_all key sources in
    let may = may_begin key all (c.requires.joinable.postings key) c.args.writer.now c.requires.opens in
    let source = c.index-sources-segment.result in
    let split = next_given key sources c.requires.joinable.each c.args.standings.now c.requires.standings c.loop-segment.segment-index c.loop-segment-test.true source c.index-sources-segment.is in
    may_take key c.args.writer.now all may c.loop-segment.writer _ c.loop-segment.invariant _ _ split

pub loop-segment-preserved : goal.loop-segment-preserved
loop-segment-preserved c =
    let key = c.args.key.now in
    let sources = c.args.sources.now in
    let all = moved_from_all key sources in
    let may = may_begin key all (c.requires.joinable.postings key) c.args.writer.now c.requires.opens in
    let source = c.index-sources-segment.result in
    let split = next_given key sources c.requires.joinable.each c.args.standings.now c.requires.standings c.loop-segment.segment-index c.loop-segment-test.true source c.index-sources-segment.is in
    given_more key c.args.writer.now all may c.loop-segment.writer _ c.loop-segment.invariant _ _ split c.add_postings.new.writer c.in_ok-add_postings.ensures

pub end_term-requires : goal.end_term-requires
end_term-requires c =
    let key = c.args.key.now in
    let sources = c.args.sources.now in
    let all = moved_from_all key sources in
    let are = c.requires.joinable.postings key in
    let may = may_begin key all are c.args.writer.now c.requires.opens in
    let none = ap (flat_map (given_at sources key)) (drop_all c.loop-segment.segment-index c.args.standings.now c.loop-segment-test.false) in
    may_end key all are c.args.writer.now c.loop-segment.writer (all_given key c.args.writer.now all may c.loop-segment.writer _ c.loop-segment.invariant none)

pub returns : goal.returns
returns c =
    let key = c.args.key.now in
    let sources = c.args.sources.now in
    let all = moved_from_all key sources in
    let are = c.requires.joinable.postings key in
    let may = may_begin key all are c.args.writer.now c.requires.opens in
    let none = ap (flat_map (given_at sources key)) (drop_all c.loop-segment.segment-index c.args.standings.now c.loop-segment-test.false) in
    on_ok_weaker c.end_term.result
    (has_whole_term key all are c.args.writer.now c.loop-segment.writer (all_given key c.args.writer.now all may c.loop-segment.writer _ c.loop-segment.invariant none) c.requires.opens c.end_term.new.self)
    c.end_term.ensures
