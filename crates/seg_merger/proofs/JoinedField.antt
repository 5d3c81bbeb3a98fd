-- Fields whose joined terms are written.
use Rattle.std.proofs.Common.{◌≡◌, ℕ, ◌^◌, ◌<◌, true, List, map, Some, None, Option, sym, ap, ◌∙◌, subst}
use Rattle.std.specs.Prelude.{IsSomeAnd}
use Rattle.std.specs.FinMap.{entries, empty}
use Rattle.std.specs.List.{AllByRecursion, slice_get}
use Rattle.seg_common.specs.WriterGrowth.{HasGrown}
use Rattle.seg_directory.specs.CompositeFiles.{composite}
use Rattle.seg_values.specs.declared.schema.FieldEntry.{FieldEntry}
use Rattle.seg_model.specs.Fields.{Schema, fields, is_indexed}
use Rattle.seg_model.specs.Join.{joined_terms}
use Rattle.seg_termdict.specs.MergedTerms.{merged_terms}
use Rattle.seg_model.specs.DocumentTerms.{term_option}
use Rattle.seg_model.proofs.Exports.{at_place}
use Rattle.seg_postings.specs.FieldSerializers.{TermWritten, FieldWriting, fresh}
use Rattle.seg_postings.specs.FieldFiles.{FieldFiles}
use Rattle.seg_postings.specs.RecordKinds.{kind_of}
use Rattle.seg_segment.specs.WrittenFields.{IsWhole, HaveFields}
use Rattle.seg_segment.specs.TermFiles.{HoldTerms}
use Rattle.seg_segment.specs.WrittenTerms.{with_terms}
use Rattle.seg_segment.specs.TokenTotals.{TellTotals}
use Rattle.seg_segment.proofs.Exports.{AreParts, hold_terms, is_whole, told_totals}
use Rattle.seg_merger.specs.JoinedTerms.{AreJoined, IsOfField, source_of}
use Rattle.seg_merger.specs.JoinedTotals.{joined_total}
use Rattle.seg_merger.specs.JoinedSegment.{HoldJoined}
use Rattle.seg_open.specs.OpenSegment.{OpenSegment, kept_count, part_of}
use Rattle.seg_merger.specs.MovedPostings.{SourceTerms, Ascend, moved_from_all, ranked_of}
use Rattle.seg_merger.specs.NewIds.{NumberedSegment, numbered_from, parts_of}
use Rattle.seg_merger.specs.JoinedSources.{AreJoinable, terms_joined}
use Rattle.seg_merger.proofs.FieldSources.{sources_from, are_joinable, moved_are_joined, kinds_are}
use Rattle.seg_merger.proofs.JoinedTables.{are_joined_terms}

module _ (field : ℕ) (ns : List NumberedSegment) (numbered : ns ≡ numbered_from 0 (parts_of ns)) (few : kept_count (parts_of ns) < 2 ^ 31) (sources : List SourceTerms) (are : sources ≡ map (source_of field) ns) (up : AllByRecursion (λ (s : SourceTerms). Ascend s.terms) sources) where
  abbrev parts : List OpenSegment
  parts = parts_of ns

  module _ (entry : FieldEntry) (all : AllByRecursion (IsOfField entry field) (parts_of ns)) where
    same : sources ≡ sources_from entry field 0 parts
    same = are ∙ ap (map (source_of field)) numbered

    all_up : AllByRecursion (λ (s : SourceTerms). Ascend s.terms) (sources_from entry field 0 parts)
    all_up = subst (AllByRecursion (λ (s : SourceTerms). Ascend s.terms)) same up

    pub joinable : AreJoinable sources
    joinable = subst AreJoinable (sym same) (are_joinable entry field parts all few all_up)

    kinds : AllByRecursion (λ (t : TermWritten). t.kind ≡ kind_of (term_option entry t.bytes)) (terms_joined sources)
    kinds = subst (λ (xs : List SourceTerms). AllByRecursion (λ (t : TermWritten). t.kind ≡ kind_of (term_option entry t.bytes)) (terms_joined xs)) (sym same) (kinds_are entry field parts all few all_up (entries (merged_terms (map ranked_of (sources_from entry field 0 parts)))))

    terms_are : map (λ (t : TermWritten). (t.bytes, t.postings)) (terms_joined sources) ≡ entries (joined_terms (map part_of parts) (field, entry))
    terms_are = are_joined_terms sources joinable.each parts field entry (λ key. ap (moved_from_all key) same ∙ moved_are_joined entry field parts all few all_up key)

  -- a field is whole with its joined terms
  pub whole : (total : ℕ → ℕ) (begun after : Option FieldWriting) → begun ≡ Some (fresh field (total field)) → HasGrown begun after (with_terms (terms_joined sources)) → IsWhole total (AreJoined ns) field after
  whole total begun after begins grown = is_whole total (AreJoined ns) field (terms_joined sources) begun after (record { kinds = kinds; are = terms_are }) begins grown

-- ---- what the files hold

module _ (schema : Schema) (parts : List OpenSegment) (ns : List NumberedSegment) (same : parts_of ns ≡ parts) (total : ℕ → ℕ) (of : (field : ℕ) (entry : FieldEntry) → slice_get schema field ≡ Some entry → is_indexed entry ≡ true → AllByRecursion (IsOfField entry field) (parts_of ns)) (agree : (field : ℕ) (entry : FieldEntry) → slice_get schema field ≡ Some entry → total field ≡ joined_total parts (field, entry)) where
  all_joined : (files : FieldFiles) → HaveFields total (AreJoined ns) schema files → (terms postings positions : List ℕ) → AreParts terms postings positions files → HoldTerms schema terms postings positions (map (joined_terms (map part_of parts)) (fields schema))
  all_joined files have terms postings positions are_parts = hold_terms total (AreJoined ns) schema files have terms postings positions are_parts _ (λ field entry written at on joined.
      let segments = of field entry at on in
      record {
        kinds = joined.kinds entry segments;
        are = joined.are entry segments
            ∙ ap (λ ps. entries (joined_terms (map part_of ps) (field, entry))) same
            ∙ ap entries (sym (at_place (joined_terms (map part_of parts)) empty field schema entry at));
      })

  all_told : (files : FieldFiles) → HaveFields total (AreJoined ns) schema files → (postings : List ℕ) → composite postings ≡ Some files.postings → TellTotals schema (joined_total parts) postings
  all_told files have postings file = λ field entry at on. told_totals total (AreJoined ns) schema files postings have file field entry at on ∙ ap Some (agree field entry at)

  pub hold_joined : (files : Option FieldFiles) → IsSomeAnd files (HaveFields total (AreJoined ns) schema) → IsSomeAnd files (HoldJoined schema parts)
  hold_joined None have = absurd have
  hold_joined (Some files) have = λ terms postings positions in_terms in_postings in_positions. (
    all_joined files have terms postings positions (in_terms, in_postings, in_positions),
    all_told files have postings in_postings,
  )
