use Rattle.std.proofs.Common.{rules, ◌≡◌, None, Some, refl}
use Rattle.std.specs.List.{AllByRecursion, slice_get}
use Rattle.seg_values.specs.declared.error.ArgumentCause.TheVariants.{DifferentSettings, NoIndices}
use Rattle.seg_values.specs.declared.error.TantivyError.TheVariants.{InvalidArgument}
use Rattle.seg_meta.specs.declared.index_meta.IndexMeta.{IndexMeta}
use Rattle.seg_index_build.specs.MergedIndices.{alike, unlike}
use Rattle.seg_index_build.proofs.UnfilteredSegments.{no_indices, other_settings, same_settings}
use Rattle.seg_index_build.proofs.index_merge.compare_and_merge.Goals as goal

pub returns-in_default : goal.returns-in_default
returns-in_default g c =
    let none : None ≡ slice_get c.args.indices.now 0 = search rules in
    unlike (InvalidArgument NoIndices) (no_indices c.args.indices.now none) refl refl

pub returns-then-not-have_settings : goal.returns-then-not-have_settings
returns-then-not-have_settings g c =
    let found : Some c.in-Some.first.now ≡ slice_get c.args.indices.now 0 = search rules in
    let differ : AllByRecursion (λ (i : IndexMeta). i.index_settings ≡ c.settings.result.now) c.args.indices.now → ⊥ = search rules in
    unlike (InvalidArgument DifferentSettings)
    (other_settings c.settings.result.now c.args.indices.now c.in-Some.first.now found c.settings.ensures differ) refl refl

pub returns : goal.returns
returns g c =
    let found : Some c.in-Some.first.now ≡ slice_get c.args.indices.now 0 = search rules in
    let all : AllByRecursion (λ (i : IndexMeta). i.index_settings ≡ c.settings.result.now) c.args.indices.now = search rules in
    alike (same_settings c.settings.result.now c.args.indices.now c.in-Some.first.now found c.settings.ensures all) c.merge_alike.ensures
