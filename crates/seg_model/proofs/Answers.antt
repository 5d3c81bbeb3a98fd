-- Terms and columns are known by what they answer.
use Rattle.std.proofs.Common.{◌≡◌, Bool, true, false, cond, List, ◌++◌, map, Some, None, sym, refl, ap, ◌∙◌}
use Rattle.std.specs.List.{flat_map, list_any}
use Rattle.std.specs.Cmp.Lexicographic.{nat_list_cmp_total}
use Rattle.seg_values.specs.Tree.{Document}
use Rattle.seg_model.specs.Fields.{Schema, Analyzer}
use Rattle.seg_common.specs.TabulatedMaps.{tabulated}
use Rattle.seg_model.specs.DocumentTerms.{postings_of, if_any}
use Rattle.seg_model.specs.Columns.{ColumnKey, column_cmp, column_at, is_mixed, declared_columns, value_keys, fast_values}
use Rattle.seg_model.specs.Laws.{recorded_values, TermsAnswer, NoOtherTerms, ColumnsAnswer, NoOtherColumns, MixedNumbersHaveNoColumns}
use Rattle.seg_common.proofs.TabulatedMaps.{texts_apart, table_from_gets, none_passes}
use Rattle.seg_common.proofs.Lists.{list_any-none}
use Rattle.seg_model.proofs.JoinedTerms.{complete_terms, get-terms_of}
use Rattle.seg_model.proofs.JoinedColumns.{column_cmp_total, columns_apart, are_columns, covers_documents}

pub terms_answer : TermsAnswer
terms_answer = get-terms_of

pub no_other_terms : NoOtherTerms
no_other_terms entry documents terms h = table_from_gets nat_list_cmp_total texts_apart (λ t. if_any (postings_of entry t documents)) _ (complete_terms entry documents) terms h

-- the keys at which documents may have a column
abbrev keys_of : Schema → Analyzer → List Document → List ColumnKey
keys_of schema analyzer ds = declared_columns schema ++ flat_map (flat_map value_keys) (map (fast_values schema analyzer) ds)

pub columns_answer : ColumnsAnswer
columns_answer schema analyzer ds cs e =
    let are = are_columns (declared_columns schema) (recorded_values schema analyzer ds) _ cs (covers_documents (declared_columns schema) (map (fast_values schema analyzer) ds)) e in
    (are.gets, are.none_mixed)

pub no_other_columns : NoOtherColumns
no_other_columns schema analyzer ds cs none gets =
    ap (λ b. cond b None (Some (tabulated {R = column_cmp} (λ k. column_at (declared_columns schema) k (recorded_values schema analyzer ds k)) (keys_of schema analyzer ds)))) (list_any-none (λ k. is_mixed (declared_columns schema) k (recorded_values schema analyzer ds k)) none (keys_of schema analyzer ds))
    ∙ ap Some (sym (table_from_gets column_cmp_total columns_apart (λ k. column_at (declared_columns schema) k (recorded_values schema analyzer ds k)) (keys_of schema analyzer ds) (covers_documents (declared_columns schema) (map (fast_values schema analyzer) ds)).there cs gets))

pub mixed_numbers_have_no_columns : MixedNumbersHaveNoColumns
mixed_numbers_have_no_columns schema analyzer ds key mixed =
    ap (λ b. cond b None (Some (tabulated {R = column_cmp} (λ k. column_at (declared_columns schema) k (recorded_values schema analyzer ds k)) (keys_of schema analyzer ds)))) (by (list_any (λ k. is_mixed (declared_columns schema) k (recorded_values schema analyzer ds k)) (keys_of schema analyzer ds)) refl)
  where
    by : (b : Bool) → list_any (λ k. is_mixed (declared_columns schema) k (recorded_values schema analyzer ds k)) (keys_of schema analyzer ds) ≡ b → b ≡ true
    by true e = refl
    by false e = sym (none_passes columns_apart (λ k. is_mixed (declared_columns schema) k (recorded_values schema analyzer ds k)) (keys_of schema analyzer ds) (covers_documents (declared_columns schema) (map (fast_values schema analyzer) ds)).mixed e key) ∙ mixed
