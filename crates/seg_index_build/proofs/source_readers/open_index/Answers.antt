use Rattle.std.proofs.Common.{◌≡◌, ◌∙◌, List, Option, ap, subst, sym}
use Rattle.seg_model.specs.Input.{Filter}
use Rattle.seg_open.specs.Answers.{seen_as}
use Rattle.seg_open.specs.OpeningSteps.{FiltersFit}
use Rattle.seg_index_build.specs.MergedIndices.{asked_of_index, unfiltered}
use Rattle.seg_index_build.proofs.UnfilteredSegments.{none_fit, opens_as}
use Rattle.seg_open.proofs.Exports.{starves_all}
use Rattle.seg_index_build.proofs.source_readers.open_index.Goals as goal

pub returns-in_default : goal.returns-in_default
returns-in_default g c = starves_all (asked_of_index c.args.index.now) _

pub returns-in_default-live_segments : goal.returns-in_default-live_segments
returns-in_default-live_segments g c = starves_all (asked_of_index c.args.index.now) _

pub returns-in_default-no_filters : goal.returns-in_default-no_filters
returns-in_default-no_filters g c = starves_all (asked_of_index c.args.index.now) _

pub open_segments-requires : goal.open_segments-requires
open_segments-requires g c =
    let none : c.deref-4.result.now ≡ unfiltered c.deref-3.result.now =
    c.deref-4.ensures.value ∙ c.in-Ok-no_filters.ensures ∙ ap unfiltered (c.deref-2.ensures.value ∙ sym c.deref-3.ensures.value) in
    record { fit = subst (λ (fs : List (Option Filter)). FiltersFit fs c.deref-3.result.now) (sym none) (none_fit c.deref-3.result.now) }

pub returns : goal.returns
returns g c =
    let none : c.deref-4.result.now ≡ unfiltered c.deref-3.result.now =
    c.deref-4.ensures.value ∙ c.in-Ok-no_filters.ensures ∙ ap unfiltered (c.deref-2.ensures.value ∙ sym c.deref-3.ensures.value) in
    opens_as c.args.index.now c.deref.result.now c.deref-3.result.now c.deref-4.result.now
    (c.deref.ensures.value ∙ c.in-Ok.ensures.ok) (c.deref-3.ensures.value ∙ c.in-Ok-live_segments.ensures) none
    (seen_as (λ opened. opened.items) c.open_segments.result) (g.W.Directory.state c.args.source.now)
    (g.W.Directory.state c.open_segments.new.directory) c.open_segments.ensures
