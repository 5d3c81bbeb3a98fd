use Rattle.std.proofs.Common.{◌∙◌, ◌+◌, List, Ok, Err, ap, arith, slice_set, subst, sym}
use Rattle.std.proofs.lemmas.List.{length-set}
use Rattle.seg_directory.specs.DirectoryStates.{DirectoryState}
use Rattle.seg_open.specs.OpenSegment.{OpenSegment}
use Rattle.seg_open.specs.OpeningSteps.{OpensSegments}
use Rattle.seg_index_build.specs.MergedIndices.{asked_of_index}
use Rattle.seg_index_build.proofs.SourceTurns.{SoFar, all_open, none_yet, opens_turn, stops_turn}
use Rattle.seg_index_build.proofs.source_readers.open_indices.Goals as goal

pub bounds-sources-at : goal.bounds-sources-at
bounds-sources-at g c = omega (arith, c.loop-at-test.true, c.loop-at.invariant.many)

pub loop-at-init : goal.loop-at-init
loop-at-init g c = record {
  so_far =
      subst (λ (l : List OpenSegment). SoFar asked_of_index g.W.Directory.state c.args.indices.now c.args.sources.now 0 c.args.sources.now l)
      (sym c.new-readers.ensures.items) (none_yet asked_of_index g.W.Directory.state c.args.indices.now c.args.sources.now);
  many = c.requires.many;
}

pub returns-in-Err : goal.returns-in-Err
returns-in-Err g c =
    let same = ap g.W.Directory.state (sym c.index-sources-at.is) in
    stops_turn asked_of_index g.W.Directory.state c.args.indices.now c.args.sources.now c.loop-at.at c.loop-at.sources c.loop-at.readers.items
    c.loop-at.invariant.so_far c.index-indices-at.result c.loop-at-test.true c.index-indices-at.is c.index-sources-at.result
    (omega (arith, c.loop-at-test.true, c.loop-at.invariant.many)) c.index-sources-at.is c.open_more.new.source c.in-Err.e
    (subst (λ (s : DirectoryState). OpensSegments (asked_of_index c.index-indices-at.result) (Err c.in-Err.e) s (g.W.Directory.state c.open_more.new.source)) same c.in-Err.ensures)

pub loop-at-preserved : goal.loop-at-preserved
loop-at-preserved g c =
    let now = slice_set c.loop-at.sources c.loop-at.at c.open_more.new.source in
    let same = ap g.W.Directory.state (sym c.index-sources-at.is) in
    let here = c.in-Ok.ensures in
    record {
      so_far =
          subst (λ (l : List OpenSegment). SoFar asked_of_index g.W.Directory.state c.args.indices.now c.args.sources.now (c.loop-at.at + 1) now l)
          (sym here.1)
          (opens_turn asked_of_index g.W.Directory.state c.args.indices.now c.args.sources.now c.loop-at.at c.loop-at.sources c.loop-at.readers.items
          c.loop-at.invariant.so_far c.index-indices-at.result c.loop-at-test.true c.index-indices-at.is c.index-sources-at.result
          (omega (arith, c.loop-at-test.true, c.loop-at.invariant.many)) c.index-sources-at.is c.open_more.new.source here.0
          (subst (λ (s : DirectoryState). OpensSegments (asked_of_index c.index-indices-at.result) (Ok here.0) s (g.W.Directory.state c.open_more.new.source)) same here.2));
      many = length-set c.loop-at.sources c.loop-at.at c.open_more.new.source ∙ c.loop-at.invariant.many;
    }

pub returns : goal.returns
returns g c =
    all_open asked_of_index g.W.Directory.state c.args.indices.now c.args.sources.now c.loop-at.at c.loop-at.sources c.loop-at.readers.items
    c.loop-at.invariant.so_far (omega (arith, c.loop-at-test.false)) (omega (arith, c.loop-at-test.false, c.loop-at.invariant.many))
