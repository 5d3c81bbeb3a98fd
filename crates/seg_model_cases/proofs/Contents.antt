-- Cases of contents that their stored documents tell.
use Rattle.std.proofs.Common.{◌≡◌, ℕ, List, [], ◌∷◌, ◌++◌, map, Option, Some, None, refl, sym, ap, ◌∙◌, subst, T, arith}
use Rattle.std.specs.Prelude.{codes}
use Rattle.std.specs.Option.{option_map}
use Rattle.std.specs.List.{AllByRecursion, flat_map}
use Rattle.std.specs.declared.cmp.Ordering.{Ordering}
use Rattle.std.specs.Cmp.{IsTotalOrder}
use Rattle.std.specs.Cmp.Lexicographic.{nat_list_cmp_total}
use Rattle.std.specs.FinMap.{get, get-from_sorted, empty, entries, len-empty, len-entries, from_entries, from_sorted, entries-insert, entries-from_sorted, is_sorted, same_entries_map}
use Rattle.std.specs.FinMap.Entries.{put}
use lib.Utf8.{encode}
use Rattle.std.proofs.lemmas.List.{nil_from_length}
use Rattle.seg_common.specs.Varint.{varint_within}
use Rattle.seg_values.specs.declared.schema.FieldKind.TheVariants.{Text, U64}
use Rattle.seg_values.specs.declared.schema.IndexOption.TheVariants.{Basic, Freqs}
use Rattle.seg_model.specs.Fields.{Schema}
use Rattle.seg_model.specs.Occurrences.{Occurrence, occurrences}
use Rattle.seg_common.specs.TabulatedMaps.{entry_of}
use Rattle.seg_model.specs.DocumentTerms.{Terms, terms_of, postings_of, if_any, Posting, presence, frequency, positions}
use Rattle.seg_model.specs.Norms.{length_id}
use Rattle.seg_model.specs.Columns.{ColumnKey, column_at, columns, declared_columns, value_keys, fast_values}
use Rattle.seg_model.specs.Contents.{Contents, full_reading, reading_with, norms_at, terms_at}
use Rattle.seg_termdict.specs.SortedTerms.{key_cmp}
use Rattle.seg_model.specs.DocumentCheck.{IsSound, document_refusal, wrong_value}
use Rattle.seg_model.specs.Laws.{recorded_values}
use Rattle.seg_model.proofs.Exports.{column_cmp_total, readings_have_full_shape}
use Rattle.seg_model_cases.specs.CaseData.{analyzer, entry, only, posting}
use Rattle.seg_model_cases.specs.Contents.{documents, term_entries, column_entries, contents, ContentsCases}

-- entries put into a list in the order of their keys
abbrev all_put : {K X : Type 0} → (K → K → Ordering) → List (K × X) → List (K × X)
all_put R [] = []
all_put R (e ∷ es) = put R e.0 e.1 (all_put R es)

entries-from_entries : {K X : Type 0} {R : K → K → Ordering} → IsTotalOrder R → (es : List (K × X)) → entries (from_entries {R = R} es) ≡ all_put R es
entries-from_entries {X = X} {R = R} total [] = nil_from_length (entries (empty {X = X} {R = R})) (sym (len-entries empty) ∙ len-empty R X)
entries-from_entries {R = R} total (e ∷ es) = entries-insert total (from_entries es) e.0 e.1 ∙ ap (put R e.0 e.1) (entries-from_entries total es)

-- a map made of entries is the one that is written in order
in_order : {K X : Type 0} {R : K → K → Ordering} → IsTotalOrder R → (es sorted : List (K × X)) → T (is_sorted R sorted) → all_put R es ≡ sorted → from_entries {R = R} es ≡ from_sorted sorted
in_order {R = R} total es sorted s e = same_entries_map _ _ (entries-from_entries total es ∙ e ∙ sym (entries-from_sorted R sorted s))

abbrev schema : Schema
schema = only Text Freqs

abbrev occurring : List (List Occurrence)
occurring = map (λ d. occurrences schema analyzer d 0) documents

terms_found : terms_of (entry Text Freqs) occurring ≡ from_sorted (term_entries 2)
terms_found = in_order nat_list_cmp_total (flat_map (λ t. entry_of t (if_any (postings_of (entry Text Freqs) t occurring))) (codes "a" ∷ codes "b" ∷ codes "a" ∷ codes "b" ∷ [])) (term_entries 2) tt refl

abbrev column_keys : List ColumnKey
column_keys = declared_columns schema ++ flat_map (flat_map value_keys) (map (fast_values schema analyzer) documents)

columns_found : columns schema analyzer documents ≡ Some (from_sorted column_entries)
columns_found = ap Some (in_order column_cmp_total (flat_map (λ k. entry_of k (column_at (declared_columns schema) k (recorded_values schema analyzer documents k))) column_keys) column_entries tt refl)

-- contents of all that is read of documents
told : full_reading schema analyzer documents ≡ Some (contents 2 3 documents)
unfolding length_id
told = ap (option_map (reading_with schema analyzer documents)) columns_found ∙ ap (λ (t : Terms). Some (record (contents 2 3 documents) { terms = t ∷ [] })) terms_found

abbrev number_of : Option Contents → ℕ
number_of None = 0
number_of (Some c) = c.documents

abbrev lengths_of : Option Contents → List ℕ
lengths_of None = []
lengths_of (Some c) = norms_at c 0

abbrev postings_in : Option Contents → Option (List Posting)
postings_in None = None
postings_in (Some c) = get (terms_at c 0) (codes "a")

-- how often `a` occurs in contents
often_found : (often : ℕ) → postings_in (Some (contents often 3 documents)) ≡ Some (posting 0 (frequency often) ∷ [])
often_found often = get-from_sorted key_cmp (term_entries often) (codes "a") tt

-- the first number, and how often the first posting has its term
abbrev first : List ℕ → ℕ
first [] = 0
first (n ∷ ns) = n

abbrev frequency_in : Option (List Posting) → ℕ
frequency_in (Some (p ∷ ps)) = elim p.recorded [ presence ↦ 0 | frequency n ↦ n | positions ps ↦ 0 ]
frequency_in _ = 0

sound : AllByRecursion (IsSound schema) documents
unfolding encode
sound = (record { taken = refl; json = refl; utf8 = ((codes "a b a", (refl, refl)), tt) }, (record { taken = refl; json = refl; utf8 = ((codes "b", (refl, refl)), tt) }, tt))

pub contents_cases : ContentsCases
unfolding varint_within length_id
contents_cases = record {
  told = record { shape = readings_have_full_shape schema analyzer documents (contents 2 3 documents) sound told; taken = (refl, (refl, tt)); told = told };
  other_frequency = λ h. let e = sym (ap frequency_in (often_found 2)) ∙ ap (λ c. frequency_in (postings_in c)) (sym told ∙ h.told) ∙ ap frequency_in (often_found 1) in absurd (omega (arith, e));
  other_length = λ h. let e = ap (λ c. first (lengths_of c)) (sym told ∙ h.told) in absurd (omega (arith, e));
  one_dropped = λ h. let e : 1 ≡ 2 = ap number_of h.told in absurd (omega (arith, e));
  untaken = λ found stored h. let e : Some (wrong_value 0) ≡ None = (subst (λ ds. AllByRecursion (λ d. document_refusal (only U64 Basic) analyzer d ≡ None) ds) stored h.taken).0 in cc;
}
