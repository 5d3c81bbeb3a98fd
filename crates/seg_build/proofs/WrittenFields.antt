-- What files hold in which the terms of fields are written.
use Rattle.std.proofs.Common.{◌≡◌, ℕ, zero, suc, ◌<◌, true, List, [], ◌∷◌, map, length, Some, None, Option, sym, refl, ap, ◌∙◌, subst, arith}
use Rattle.std.specs.Prelude.{is_some, option_map, IsSomeAnd}
use Rattle.std.specs.FinMap.{entries, empty}
use Rattle.std.specs.List.{slice_get, slice_index_or, AllByRecursion}
use Rattle.std.proofs.lemmas.Bool.{false≢true}
use Rattle.std.proofs.lemmas.List.{length-map}
use Rattle.std.proofs.lemmas.Option.{same_Some, slice_get_within, slice_get-map}
use Rattle.seg_values.specs.declared.schema.FieldEntry.{FieldEntry}
use Rattle.seg_model.specs.Fields.{Schema, is_indexed}
use Rattle.seg_model.specs.DocumentTerms.{Terms, term_option}
use Rattle.seg_directory.specs.CompositeFiles.{composite, field_of}
use Rattle.seg_postings.specs.declared.asked_kind.AskedKind.{AskedKind}
use Rattle.seg_postings.specs.FieldSerializers.{TermWritten}
use Rattle.seg_postings.specs.FieldFiles.{FieldFiles}
use Rattle.seg_postings.specs.RecordKinds.{kind_of}
use Rattle.seg_segment.specs.WrittenFields.{HaveFields}
use Rattle.seg_segment.proofs.Exports.{AreTermsOf, hold_terms}
use Rattle.seg_terms.specs.TermEntries.{TermEntries}
use Rattle.seg_build.specs.FieldTerms.{FieldTerms, asked_by, kind_in}
use Rattle.seg_build.specs.SerializerContents.{AreFieldsOf, HoldFields}
use Rattle.seg_build.specs.WrittenTerms.{written, all_written, written_total}
use Rattle.seg_build.specs.PostingsTotals.{TotalsAreCounts}

abbrev pub total_in : List FieldTerms → ℕ → ℕ
total_in fields field = written_total (slice_get fields field)

abbrev pub AreIn : List FieldTerms → ℕ → List TermWritten → Type 0
AreIn fields field terms = terms ≡ all_written (slice_get fields field)

-- ---- what the files hold

entries_at : (held : List Terms) (i : ℕ) → i < length held → slice_get (map entries held) i ≡ Some (entries (slice_index_or held i empty))
entries_at [] i lt = absurd (omega (arith, lt))
entries_at (h ∷ hs) zero lt = refl
entries_at (h ∷ hs) (suc i) lt = entries_at hs i (omega (arith, lt))

-- the terms that stand for a field
record StandsFor (o : Option FieldTerms) (asked : AskedKind) (terms : TermEntries) : Type 0 where
  found : FieldTerms
  is : o ≡ Some found
  keeps : found.asked ≡ asked
  has : found.terms ≡ terms

stands_for : (o : Option FieldTerms) (asked : AskedKind) (terms : TermEntries) → option_map (λ f. f.asked) o ≡ Some asked → option_map (λ f. f.terms) o ≡ Some terms → StandsFor o asked terms
stands_for None asked terms k t = absurd (false≢true (ap is_some k))
stands_for (Some found) asked terms k t = record { found = found; is = refl; keeps = same_Some found.asked asked k; has = same_Some found.terms terms t }

kinds_of : (e : FieldEntry) (asked : AskedKind) (terms : TermEntries) → asked ≡ asked_by e → AllByRecursion (λ t. t.kind ≡ kind_of (term_option e t.bytes)) (map (written asked) terms)
kinds_of e asked [] is = tt
kinds_of e asked (t ∷ ts) is = (ap (λ a. kind_in a t.0) is, kinds_of e asked ts is)

written-back : (asked : AskedKind) (terms : TermEntries) → map (λ t. (t.bytes, t.postings)) (map (written asked) terms) ≡ terms
written-back asked [] = refl
written-back asked (t ∷ ts) = ap (λ l. t ∷ l) (written-back asked ts)

module _ (schema : Schema) (fields : List FieldTerms) (files : FieldFiles) (have : HaveFields (total_in fields) (AreIn fields) schema files) where
  module _ (held : List Terms) (are : AreFieldsOf schema fields held) where
    many : length held ≡ length schema
    many = sym (length-map held entries) ∙ sym (ap length are.terms) ∙ length-map fields (λ (f : FieldTerms). f.terms) ∙ sym (length-map fields (λ (f : FieldTerms). f.asked)) ∙ ap length are.asked ∙ length-map schema asked_by

    of_field : (field : ℕ) (e : FieldEntry) → slice_get schema field ≡ Some e → StandsFor (slice_get fields field) (asked_by e) (entries (slice_index_or held field empty))
    of_field field e at =
        let within = slice_get_within schema field e at in
        stands_for (slice_get fields field) (asked_by e) (entries (slice_index_or held field empty))
        (sym (slice_get-map (λ (f : FieldTerms). f.asked) fields field) ∙ ap (λ (l : List AskedKind). slice_get l field) are.asked ∙ slice_get-map asked_by schema field ∙ ap (option_map asked_by) at)
        (sym (slice_get-map (λ (f : FieldTerms). f.terms) fields field) ∙ ap (λ (l : List TermEntries). slice_get l field) are.terms ∙ entries_at held field (omega (arith, within, many)))

    terms_of_field : (field : ℕ) (e : FieldEntry) (terms : List TermWritten) → slice_get schema field ≡ Some e → is_indexed e ≡ true → AreIn fields field terms → AreTermsOf e terms (slice_index_or held field empty)
    terms_of_field field e terms at on is =
        let s = of_field field e at in
        subst (λ ts. AreTermsOf e ts (slice_index_or held field empty)) (sym (is ∙ ap all_written s.is)) (record {
          kinds = kinds_of e s.found.asked s.found.terms s.keeps;
          are = written-back s.found.asked s.found.terms ∙ s.has;
        })

  totals_are_counts : (postings : List ℕ) → composite postings ≡ Some files.postings → TotalsAreCounts postings fields
  totals_are_counts postings parts_are parts file field found at part has =
      let same : parts ≡ files.postings = same_Some parts files.postings (sym file ∙ parts_are) in
      have.totals field part (ap (λ ps. field_of ps field) (sym same) ∙ has) ∙ ap written_total at

  all_held : HoldFields schema fields files
  all_held terms postings positions t p q = (λ held are. hold_terms (total_in fields) (AreIn fields) schema files have terms postings positions (t, p, q) held (terms_of_field held are), totals_are_counts postings p)

pub fields_held : (schema : Schema) (fields : List FieldTerms) (files : Option FieldFiles) → IsSomeAnd files (HaveFields (total_in fields) (AreIn fields) schema) → IsSomeAnd files (HoldFields schema fields)
fields_held schema fields None have = absurd have
fields_held schema fields (Some files) have = all_held schema fields files have
