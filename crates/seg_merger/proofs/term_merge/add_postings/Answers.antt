use Rattle.std.proofs.Common.{◌<◌, length, sym, ap, subst, ◌∙◌}
use Rattle.std.specs.List.{AllByRecursion}
use Rattle.seg_model.specs.DocumentTerms.{Posting}
use Rattle.seg_merger.specs.MovedPostings.{moved, moved_from}
use Rattle.seg_merger.proofs.SourcePostings.{any_has, left_are, left_within, moved_next, none_left, all_after}
use Rattle.seg_segment.proofs.Exports.{AreGiven, all_given, given_more, may_take, none_given}
use Rattle.seg_merger.proofs.term_merge.add_postings.Goals as goal

pub postings-postings-requires : goal.postings-postings-requires
postings-postings-requires c = any_has c.args.key.now c.args.info.now c.args.source.now c.requires.has

pub loop-kind-init : goal.loop-kind-init
loop-kind-init c =
    let source = c.args.source.now in
    let key = c.args.key.now in
    let left = c.postings-postings.result.left in
    let all = moved_from key source in
    let are = left_are key c.args.info.now source c.requires.has left c.postings-postings.ensures in
    record {
      given = subst (AreGiven key c.args.writer.now c.args.writer.now all) (sym (ap (moved source.ids) are)) (none_given key c.args.writer.now all c.requires.takes);
      within = left_within key c.args.info.now source c.requires.has left c.postings-postings.ensures c.requires.joinable.within;
    }

pub add_current-requires-clause-takes : goal.add_current-requires-clause-takes
add_current-requires-clause-takes c =
    let source = c.args.source.now in
    let left = c.loop-kind.postings.left in
    may_take c.args.key.now c.args.writer.now (moved_from c.args.key.now source) c.requires.takes c.loop-kind.writer (moved source.ids left) c.loop-kind.invariant.given _ _ (moved_next source.ids left)

pub loop-kind-preserved : goal.loop-kind-preserved
loop-kind-preserved c =
    let key = c.args.key.now in
    let source = c.args.source.now in
    let left = c.loop-kind.postings.left in
    let all = moved_from key source in
    let following = c.advance.ensures.left in
    record {
      given = subst (AreGiven key c.args.writer.now c.add_current.new.writer all) (sym (ap (moved source.ids) following))
          (given_more key c.args.writer.now all c.requires.takes c.loop-kind.writer (moved source.ids left) c.loop-kind.invariant.given _ _ (moved_next source.ids left) c.add_current.new.writer c.in_ok-add_current.ensures);
      within = subst (AllByRecursion (λ (p : Posting). p.document < length source.ids)) (sym following) (all_after _ left c.loop-kind.invariant.within);
    }

pub returns : goal.returns
returns c =
    let source = c.args.source.now in
    let left = c.loop-kind.postings.left in
    all_given c.args.key.now c.args.writer.now (moved_from c.args.key.now source) c.requires.takes c.loop-kind.writer (moved source.ids left) c.loop-kind.invariant.given
    (ap (moved source.ids) (none_left left (sym c.record_kind.ensures ∙ c.in_default.is)))
