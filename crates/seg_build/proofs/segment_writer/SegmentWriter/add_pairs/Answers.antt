use Rattle.std.proofs.Common.{◌≡◌, ◌⊎◌, ◌<◌, ◌-◌, ◌^◌, true, map, Some, length, sym, ap, ◌∙◌, subst}
use Rattle.std.specs.Prelude.{is_none, IsSomeAnd}
use Rattle.std.specs.List.{AllByRecursion}
use Rattle.seg_model.specs.TextDocuments.{is_taken}
use Rattle.seg_check.specs.IndexedValues.{IsPlainIn, value_in, document_values}
use Rattle.seg_values.specs.declared.error.TantivyError.TheVariants.{OutOfMemory}
use Rattle.seg_build.specs.SegmentWriters.{kept_of, Adds, AddsNone, HasPlace, HasTaken, Tells}
use Rattle.seg_build.proofs.WriterContents.{of_parts, room_of, still_under_way, adds}
use Rattle.seg_build.proofs.RefusedDocuments.{refused}
use Rattle.seg_build.proofs.segment_writer.SegmentWriter.add_pairs.Goals as goal

pub with_document-requires : goal.with_document-requires
with_document-requires g c =
    let F = g.Z.Analyzers.tokens_of c.self.inside.analyzers.now in
    let schema = c.self.inside.segment.schema in
    let d = c.args.document.now in
    let taken : is_taken schema F d ≡ true = subst (λ s. is_taken s F d ≡ true) c.schema-schema.ensures (ap is_none c.in-Ok.ensures.ok) in
    let place : length c.in-Some.parts.stamps.items < 2 ^ 31 - 1 = of_parts HasPlace c.self.inside.parts c.in-Some.parts (sym c.take.ensures.value ∙ c.in-Some.is) (subst (λ v. IsSomeAnd v.1.kept HasPlace) (sym c.self.view_is) c.requires) in
    let values = c.deref.result.now in
    let are : map (value_in d) values ≡ document_values schema F d = ap (map (value_in d)) c.deref.ensures.value ∙ c.in-Ok.ensures.values ∙ ap (λ s. document_values s F d) c.schema-schema.ensures in
    let keys : AllByRecursion (IsPlainIn d) values = subst (AllByRecursion (IsPlainIn d)) (sym c.deref.ensures.value) c.in-Ok.ensures.keys in
    record { room = room_of schema F d taken c.texts_are_utf8.ensures c.args.opstamp c.self.inside.parts c.in-Some.parts (sym c.take.ensures.value ∙ c.in-Some.is) place (g.Z.Analyzers.knows c.self.inside.analyzers.now) c.self.invariant.2 values are keys c.self.invariant.3 }

pub invariant_of-self-in-Ok-with_document : goal.invariant_of-self-in-Ok-with_document
invariant_of-self-in-Ok-with_document g c =
    let F = g.Z.Analyzers.tokens_of c.self.inside.analyzers.now in
    let schema = c.self.inside.segment.schema in
    let d = c.args.document.now in
    let values = c.deref.result.now in
    let new = c.in-Ok-with_document.parts in
    let taken : is_taken schema F d ≡ true = subst (λ s. is_taken s F d ≡ true) c.schema-schema.ensures (ap is_none c.in-Ok.ensures.ok) in
    let place : length c.in-Some.parts.stamps.items < 2 ^ 31 - 1 = of_parts HasPlace c.self.inside.parts c.in-Some.parts (sym c.take.ensures.value ∙ c.in-Some.is) (subst (λ v. IsSomeAnd v.1.kept HasPlace) (sym c.self.view_is) c.requires) in
    let are : map (value_in d) values ≡ document_values schema F d = ap (map (value_in d)) c.deref.ensures.value ∙ c.in-Ok.ensures.values ∙ ap (λ s. document_values s F d) c.schema-schema.ensures in
    let took : HasTaken schema F d values c.args.opstamp (kept_of c.in-Some.parts) (kept_of new) = subst (λ s. HasTaken s F d values c.args.opstamp (kept_of c.in-Some.parts) (kept_of new)) c.schema-schema.ensures c.in-Ok-with_document.ensures in
    (c.self.invariant.0, c.self.invariant.1, c.self.invariant.2, still_under_way schema F d taken c.texts_are_utf8.ensures c.args.opstamp c.self.inside.parts c.in-Some.parts (sym c.take.ensures.value ∙ c.in-Some.is) place c.documents_stay_in_order.ensures values are new took c.self.invariant.3)

pub returns-in-Ok-with_document-clause-added : goal.returns-in-Ok-with_document-clause-added
returns-in-Ok-with_document-clause-added g c =
    let F = g.Z.Analyzers.tokens_of c.self.inside.analyzers.now in
    let schema = c.self.inside.segment.schema in
    let d = c.args.document.now in
    let values = c.deref.result.now in
    let new = c.in-Ok-with_document.parts in
    let taken : is_taken schema F d ≡ true = subst (λ s. is_taken s F d ≡ true) c.schema-schema.ensures (ap is_none c.in-Ok.ensures.ok) in
    let place : length c.in-Some.parts.stamps.items < 2 ^ 31 - 1 = of_parts HasPlace c.self.inside.parts c.in-Some.parts (sym c.take.ensures.value ∙ c.in-Some.is) (subst (λ v. IsSomeAnd v.1.kept HasPlace) (sym c.self.view_is) c.requires) in
    let are : map (value_in d) values ≡ document_values schema F d = ap (map (value_in d)) c.deref.ensures.value ∙ c.in-Ok.ensures.values ∙ ap (λ s. document_values s F d) c.schema-schema.ensures in
    let took : HasTaken schema F d values c.args.opstamp (kept_of c.in-Some.parts) (kept_of new) = subst (λ s. HasTaken s F d values c.args.opstamp (kept_of c.in-Some.parts) (kept_of new)) c.schema-schema.ensures c.in-Ok-with_document.ensures in (
      subst (λ v. Adds (g.Z.Analyzers.tokens_of v.0) d c.args.opstamp v.1 (record { schema = schema; id = c.self.inside.segment.meta.id; block_size = c.self.inside.block_size; kept = Some (kept_of new) })) c.self.view_is
          (adds schema F d taken c.texts_are_utf8.ensures c.args.opstamp c.self.inside.parts c.in-Some.parts (sym c.take.ensures.value ∙ c.in-Some.is) place c.documents_stay_in_order.ensures values are new took c.self.inside.segment.meta.id c.self.inside.block_size),
      tt,
    )

pub returns : goal.returns
returns g c =
    let F = g.Z.Analyzers.tokens_of c.self.inside.analyzers.now in
    let schema = c.self.inside.segment.schema in
    let id = c.self.inside.segment.meta.id in
    let d = c.args.document.now in
    let stamp = c.args.opstamp in
    let e = c.in-Err.e in
    let parts = c.in-Some.parts in
    let is : c.self.inside.parts ≡ Some parts = sym c.take.ensures.value ∙ c.in-Some.is in
    let place : length parts.stamps.items < 2 ^ 31 - 1 = of_parts HasPlace c.self.inside.parts parts is (subst (λ v. IsSomeAnd v.1.kept HasPlace) (sym c.self.view_is) c.requires) in
    let told : (e ≡ OutOfMemory) ⊎ Tells schema F d stamp e = subst (λ s. (e ≡ OutOfMemory) ⊎ Tells s F d stamp e) c.schema-schema.ensures c.in-Err.ensures.err in
    record {
      added = (
        tt,
        subst (λ v. AddsNone (g.Z.Analyzers.tokens_of v.0) d stamp v.1 (record { schema = schema; id = id; block_size = c.self.inside.block_size; kept = Some (kept_of parts) }) e) c.self.view_is
            (refused F d stamp schema id c.self.inside.block_size c.self.inside.parts parts is place e told c.in_default-e.not-OutOfMemory),
      );
      same = (ap (λ v. v.0) c.self.view_is, record { schema = ap (λ v. v.1.schema) c.self.view_is; id = ap (λ v. v.1.id) c.self.view_is; block_size = ap (λ v. v.1.block_size) c.self.view_is });
    }
