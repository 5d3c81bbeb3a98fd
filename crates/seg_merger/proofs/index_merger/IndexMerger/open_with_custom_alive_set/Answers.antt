use Rattle.std.proofs.Common.{◌∙◌, Err, List, Ok, Option, ap, refl, subst, sym}
use Rattle.seg_values.specs.declared.error.TantivyError.TheVariants.{InvalidArgument}
use Rattle.seg_values.specs.declared.error.ArgumentCause.TheVariants.{Filters}
use Rattle.seg_model.specs.Input.{Filter}
use Rattle.seg_open.specs.OpeningSteps.{OpensSegments, asked_of}
use Rattle.seg_merger.specs.Merger.{all_fit, opens, refuses, stops}
use Rattle.seg_merger.proofs.FittingFilters.{are_fitting, not_refused, opened_schema, refused_filters}
use Rattle.seg_merger.proofs.index_merger.IndexMerger.open_with_custom_alive_set.Goals as goal

pub returns-then-not-filters_fit : goal.returns-then-not-filters_fit
returns-then-not-filters_fit g c =
    refuses (InvalidArgument Filters) refl
    (refused_filters c.args.segments.now c.args.filters.items
    (ap (λ (fs : List (Option Filter)). all_fit fs c.args.segments.now) (sym c.deref.ensures.value) ∙ sym c.filters_fit.ensures ∙ c.if-not-filters_fit.true)) refl

pub open_segments-requires : goal.open_segments-requires
open_segments-requires g c = record {
  fit = are_fitting c.deref-2.result.now c.args.segments.now
      (ap (λ (fs : List (Option Filter)). all_fit fs c.args.segments.now) (c.deref-2.ensures.value ∙ sym c.deref.ensures.value) ∙ sym c.filters_fit.ensures ∙ c.if-not-filters_fit.false);
}

pub from_readers-requires : goal.from_readers-requires
from_readers-requires g c = record {
  schema = opened_schema c.args.schema c.args.segments.now c.deref-2.result.now c.in-Ok.readers.items _ _ c.requires.schema c.in-Ok.ensures;
}

pub returns-in-Ok : goal.returns-in-Ok
returns-in-Ok g c =
    let a = g.W.Directory.state c.args.directory.now in
    let b = g.W.Directory.state c.open_segments.new.directory in
    let readers = c.in-Ok.readers.items in
    let segments = c.args.segments.now in
    opens readers
    (not_refused segments c.args.filters.items
    (ap (λ (fs : List (Option Filter)). all_fit fs segments) (sym c.deref.ensures.value) ∙ sym c.filters_fit.ensures ∙ c.if-not-filters_fit.false))
    (subst (λ (fs : List (Option Filter)). OpensSegments (asked_of segments fs) (Ok readers) a b) c.deref-2.ensures.value c.in-Ok.ensures)
    c.from_readers.ensures.told
    c.from_readers.ensures.ok

pub returns-in-Err : goal.returns-in-Err
returns-in-Err g c =
    let a = g.W.Directory.state c.args.directory.now in
    let b = g.W.Directory.state c.open_segments.new.directory in
    let segments = c.args.segments.now in
    stops c.in-Err.e refl
    (not_refused segments c.args.filters.items
    (ap (λ (fs : List (Option Filter)). all_fit fs segments) (sym c.deref.ensures.value) ∙ sym c.filters_fit.ensures ∙ c.if-not-filters_fit.false))
    (subst (λ (fs : List (Option Filter)). OpensSegments (asked_of segments fs) (Err c.in-Err.e) a b) c.deref-2.ensures.value c.in-Err.ensures)
