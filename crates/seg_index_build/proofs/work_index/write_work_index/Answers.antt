use Rattle.std.proofs.Common.{◌≡◌, ◌≤◌, ◌<◌, ◌^◌, ◌+◌, ◌∙◌, Err, ℕ, List, None, arith, length, map, refl, sym, ap, subst}
use Rattle.std.proofs.lemmas.List.{length-map}
use Rattle.std.proofs.lemmas.Result.{IfOk-weaker}
use Rattle.seg_check.specs.UserOperations.{operation_of}
use Rattle.seg_meta.specs.declared.index_meta.IndexMeta.{IndexMeta}
use Rattle.seg_model.specs.Input.{Input}
use Rattle.seg_model.specs.ValidInputs.{are_distinct, cuts_fit, input_refusal}
use Rattle.seg_check.specs.WriterStart.{start_refusal}
use Rattle.seg_batches.specs.WrittenSegments.{WrittenSegment}
use Rattle.seg_check.specs.Inputs.{input_of}
use Rattle.seg_index_build.specs.DirectoryCalls.{FillsWork}
use Rattle.seg_index_build.specs.IndexFiles.{work_ids, work_meta, written_of}
use Rattle.seg_index_build.specs.TwoDirectories.{both, goes_on, stops}
use Rattle.seg_index_build.specs.WorkIndexSteps.{FillsIndex, listing_meta}
use Rattle.seg_index_build.proofs.FilledIndex.{batches_end, batches_finished}
use Rattle.seg_index_build.proofs.FillSteps.{as_many, ids_are, ids_of}
use Rattle.seg_index_build.proofs.SegmentIds.{ids_many, work_distinct, work_few, work_many}
use Rattle.seg_index_build.proofs.BuildRefusals.{starts}
use Rattle.seg_index_build.proofs.work_index.write_work_index.Goals as goal

pub returns-in-Err-clause-does : goal.returns-in-Err-clause-does
returns-in-Err-clause-does g c = stops c.in-Err.e refl (c.in-Err.ensures.told, refl)

pub returns-in-Err-begin_indexes-clause-does : goal.returns-in-Err-begin_indexes-clause-does
returns-in-Err-begin_indexes-clause-does g c =
    goes_on tt (both (g.W.Directory.state c.args.work.now) (g.O.Directory.state c.args.output.now))
    (c.in-Ok.ensures.told, refl) (stops c.in-Err-begin_indexes.e refl c.in-Err-begin_indexes.ensures)

pub split_ids-requires : goal.split_ids-requires
split_ids-requires g c =
    let i = c.args.input.now in
    let some = ids_many i.cuts i.ids c.in-Ok.ensures.fits.ids in
    subst (λ (x : Input). 2 ≤ length x.ids) (sym c.input.view_is) (omega (arith, some))

pub write_batches-requires-clause-cuts : goal.write_batches-requires-clause-cuts
write_batches-requires-clause-cuts g c =
    ap (λ (x : Input). cuts_fit x.operations x.cuts) c.input.view_is ∙ c.in-Ok.ensures.fits.cuts

pub write_batches-requires-clause-ids : goal.write_batches-requires-clause-ids
write_batches-requires-clause-ids g c =
    ap length (c.split_ids.ensures.work ∙ ap (λ (x : Input). work_ids x.ids) c.input.view_is) ∙ work_many c.args.input.now.cuts c.args.input.now.ids c.in-Ok.ensures.fits.ids ∙ ap
    (λ (x : Input). length x.cuts + 1) (sym c.input.view_is)

pub returns-in-Err-write_batches-clause-does : goal.returns-in-Err-write_batches-clause-does
returns-in-Err-write_batches-clause-does g c =
    let knows = g.Z.Analyzers.knows c.args.analyzers.now in
    let F = g.Z.Analyzers.tokens_of c.args.analyzers.now in
    let i = c.input.inside in
    let meant = input_of i.schema.now i.settings.now i.operations.now i.cuts.now i.filters.now i.ids.now in
    let start = both (g.W.Directory.state c.args.work.now) (g.O.Directory.state c.args.output.now) in
    let before = g.W.Directory.state c.begin_indexes.new.work in
    let output = g.O.Directory.state c.begin_indexes.new.output in
    let after = g.W.Directory.state c.write_batches.new.directory in
    let none = starts knows F meant i.settings.now refl
    (subst (λ (x : Input). input_refusal knows F x ≡ None) (sym c.input.view_is) c.in-Ok.ensures.told) in
    let fills : FillsWork {T = IndexMeta} F c.args.input.now (Err c.in-Err-write_batches.e) before after =
    subst (λ (x : Input). FillsWork {T = IndexMeta} F x (Err c.in-Err-write_batches.e) before after) c.input.view_is
    (subst (λ (l : List ℕ). FillsIndex {T = IndexMeta} meant.settings meant.schema F l meant.cuts meant.operations (Err c.in-Err-write_batches.e) before after) c.split_ids.ensures.work
    (batches_end meant.settings meant.schema F c.split_ids.result.0.now meant.cuts meant.operations
    (start_refusal knows 15000 meant.schema i.settings.now) none c.in-Err-write_batches.e before after c.in-Err-write_batches.ensures.does)) in
    goes_on tt start (c.in-Ok.ensures.told, refl)
    (goes_on c.in-Ok-begin_indexes.field-0 (both before output) c.in-Ok-begin_indexes.ensures (fills, refl))

pub finish_work_index-requires-clause-few : goal.finish_work_index-requires-clause-few
finish_work_index-requires-clause-few g c =
    let i = c.input.inside in
    let F = g.Z.Analyzers.tokens_of c.args.analyzers.now in
    let ids = c.split_ids.result.0.now in
    let counted =
    ap length (c.split_ids.ensures.work ∙ ap (λ (x : Input). work_ids x.ids) c.input.view_is) ∙ work_many c.args.input.now.cuts c.args.input.now.ids c.in-Ok.ensures.fits.ids ∙ ap
    (λ (x : Input). length x.cuts + 1) (sym c.input.view_is) in
    let many = as_many i.schema.now F ids i.cuts.now (map operation_of i.operations.now) counted in
    subst (λ (n : ℕ). n < 2 ^ 32) (sym (ap length (c.deref.ensures.value ∙ c.in-Ok-write_batches.ensures.segments) ∙ many))
    (subst (λ (l : List ℕ). length l < 2 ^ 32) (sym (c.split_ids.ensures.work ∙ ap (λ (x : Input). work_ids x.ids) c.input.view_is))
    (work_few c.args.input.now.cuts c.args.input.now.ids c.in-Ok.ensures.fits.batches c.in-Ok.ensures.fits.ids))

pub finish_work_index-requires-clause-distinct : goal.finish_work_index-requires-clause-distinct
finish_work_index-requires-clause-distinct g c =
    let i = c.input.inside in
    let F = g.Z.Analyzers.tokens_of c.args.analyzers.now in
    let counted =
    ap length (c.split_ids.ensures.work ∙ ap (λ (x : Input). work_ids x.ids) c.input.view_is) ∙ work_many c.args.input.now.cuts c.args.input.now.ids c.in-Ok.ensures.fits.ids ∙ ap
    (λ (x : Input). length x.cuts + 1) (sym c.input.view_is) in
    let are = ids_are i.schema.now F c.split_ids.result.0.now i.cuts.now (map operation_of i.operations.now) counted in
    ap are_distinct (ap ids_of (c.deref.ensures.value ∙ c.in-Ok-write_batches.ensures.segments) ∙ are ∙ (c.split_ids.ensures.work ∙ ap (λ (x : Input). work_ids x.ids) c.input.view_is))
    ∙ work_distinct c.args.input.now.cuts c.args.input.now.ids c.in-Ok.ensures.fits.ids

pub returns-clause-meta : goal.returns-clause-meta
returns-clause-meta g c =
    let F = g.Z.Analyzers.tokens_of c.args.analyzers.now in
    let i = c.input.inside in
    let meant = input_of i.schema.now i.settings.now i.operations.now i.cuts.now i.filters.now i.ids.now in
    IfOk-weaker c.finish_work_index.result _ _ (λ metas is. is
    ∙ ap (λ (n : ℕ). listing_meta meant.settings meant.schema n c.deref.result.now)
    (sym (length-map i.operations.now operation_of))
    ∙ ap (λ (l : List WrittenSegment). listing_meta meant.settings meant.schema (length meant.operations) l)
    (c.deref.ensures.value ∙ c.in-Ok-write_batches.ensures.segments)
    ∙ ap
    (λ (l : List ℕ). listing_meta meant.settings meant.schema (length meant.operations)
    (written_of meant.schema F l meant.cuts meant.operations))
    c.split_ids.ensures.work
    ∙ ap (λ (x : Input). work_meta F x) c.input.view_is) c.finish_work_index.ensures.meta

pub returns-clause-does : goal.returns-clause-does
returns-clause-does g c =
    let knows = g.Z.Analyzers.knows c.args.analyzers.now in
    let F = g.Z.Analyzers.tokens_of c.args.analyzers.now in
    let i = c.input.inside in
    let meant = input_of i.schema.now i.settings.now i.operations.now i.cuts.now i.filters.now i.ids.now in
    let start = both (g.W.Directory.state c.args.work.now) (g.O.Directory.state c.args.output.now) in
    let before = g.W.Directory.state c.begin_indexes.new.work in
    let output = g.O.Directory.state c.begin_indexes.new.output in
    let made = g.W.Directory.state c.write_batches.new.directory in
    let after = g.W.Directory.state c.finish_work_index.new.work in
    let none = starts knows F meant i.settings.now refl
    (subst (λ (x : Input). input_refusal knows F x ≡ None) (sym c.input.view_is) c.in-Ok.ensures.told) in
    let fills : FillsWork F c.args.input.now c.finish_work_index.result before after =
    subst (λ (x : Input). FillsWork F x c.finish_work_index.result before after) c.input.view_is
    (subst
    (λ (l : List ℕ). FillsIndex meant.settings meant.schema F l meant.cuts meant.operations c.finish_work_index.result
    before after) c.split_ids.ensures.work
    (batches_finished meant.settings meant.schema F c.split_ids.result.0.now meant.cuts meant.operations
    (start_refusal knows 15000 meant.schema i.settings.now) none _ c.finish_work_index.result before made after
    c.in-Ok-write_batches.ensures.does (length i.operations.now) c.deref.result.now (sym (length-map i.operations.now operation_of))
    (c.deref.ensures.value ∙ c.in-Ok-write_batches.ensures.segments) c.finish_work_index.ensures.does)) in
    goes_on tt start (c.in-Ok.ensures.told, refl)
    (goes_on c.in-Ok-begin_indexes.field-0 (both before output) c.in-Ok-begin_indexes.ensures (fills, refl))
