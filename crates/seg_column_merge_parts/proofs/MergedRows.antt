-- Merged terms of columns, as those of the rows that have the columns.
use Rattle.std.proofs.Common.{◌≡◌, ℕ, zero, suc, ◌+◌, ◌<◌, Bool, true, false, List, [], ◌∷◌, ◌++◌, length, map, take, get_or, slice_get, Some, None, refl, sym, ap, subst, ◌∙◌, arith}
use Rattle.std.specs.Cmp.Lexicographic.{slice_cmp}
use Rattle.std.specs.List.{AllByRecursion, AllZip}
use Rattle.std.specs.List.Sorted.{IsStrictlySortedBy}
use Rattle.std.specs.Ordering.{nat_cmp}
use Rattle.std.proofs.lemmas.List.{take_more}
use Rattle.std.proofs.lemmas.List.Elements.{All-from_recursion, recursion_from_All}
use Rattle.seg_common.specs.declared.column_type.ColumnType.TheVariants.{Str}
use Rattle.seg_columns.specs.DynamicColumns.{type_of}
use Rattle.seg_columns.specs.TermColumns.{TermColumn}
use Rattle.seg_columns.specs.declared.dynamic_column.DynamicColumn.{DynamicColumn}
use Rattle.seg_columns.specs.declared.dynamic_column.DynamicColumn.TheVariants as columns
use Rattle.seg_column_file.specs.KeptRows.{kept_values}
use Rattle.seg_column_merge_parts.specs.MergedTerms.{AreMerged, AreRowNumbers, HasTexts, IsUsedTerm, ords_in, terms_in}
use Rattle.seg_column_merge_parts.specs.TermHeads.{AreMergedTerms, IsTermOf, column_at}
use Rattle.seg_column_merge_parts.specs.UsedOrdinals.{AreUsed}
use Rattle.seg_column_merge_parts.specs.UsedTerms.{AreColumnTerms, AreTermsOf, MarkedTerms, has_texts, no_terms}
use Rattle.seg_column_merge_parts.specs.declared.tables.FileColumn.{FileColumn}
use Rattle.seg_column_merge_parts.specs.declared.tables.TableRow.{TableRow}

module _ (kept : List (List Bool)) where
  abbrev pub AreOfRow : TableRow → MarkedTerms → Type 0
  AreOfRow r m = AreTermsOf kept r.column m

  pub no_row : AreTermsOf kept None no_terms
  no_row = record {
    terms = refl;
    used = record { long = refl; marks = λ ord lt. absurd (omega (arith, lt)) };
    texts = λ all. refl;
  }

  at_place : (rows : List TableRow) (columns : List MarkedTerms) → AllZip AreOfRow rows columns → (p : ℕ)
      → AreTermsOf kept (get_or (map (λ r. r.column) rows) p None) (column_at columns p)
  at_place [] [] are p = no_row
  at_place [] (m ∷ ms) are p = absurd are
  at_place (r ∷ rs) [] are p = absurd are
  at_place (r ∷ rs) (m ∷ ms) are zero = are.0
  at_place (r ∷ rs) (m ∷ ms) are (suc p) = at_place rs ms are.1 p

  have_texts : (rows : List TableRow) (columns : List MarkedTerms) → AllZip AreOfRow rows columns
      → AllByRecursion (λ r. HasTexts r.column) rows → AllByRecursion (λ m. m.texts ≡ true) columns
  have_texts [] [] are all = tt
  have_texts [] (m ∷ ms) are all = absurd are
  have_texts (r ∷ rs) [] are all = absurd are
  have_texts (r ∷ rs) (m ∷ ms) are all = (are.0.texts all.0, have_texts rs ms are.1 all.1)

  module _ (terms : List (List ℕ)) where
    -- used terms are at the places that ordinals tell
    abbrev AreNumbered : List MarkedTerms → List (List ℕ) → Type 0
    AreNumbered columns ordinals = (p ord : ℕ) → p < length columns → ord < length (column_at columns p).terms
        → get_or (column_at columns p).used ord false ≡ true
        → slice_get terms (get_or (get_or ordinals p []) ord 0) ≡ Some (get_or (column_at columns p).terms ord [])

    rows_numbered : (rows : List TableRow) (columns : List MarkedTerms) (ordinals : List (List ℕ))
        → AllZip AreOfRow rows columns → length ordinals ≡ length columns
        → ((p : ℕ) → length (get_or ordinals p []) ≡ length (column_at columns p).terms)
        → AreNumbered columns ordinals → AllZip (AreRowNumbers kept terms) rows ordinals
    rows_numbered [] [] [] are many long numbered = tt
    rows_numbered [] [] (o ∷ os) are many long numbered = absurd (omega (arith, many))
    rows_numbered [] (m ∷ ms) os are many long numbered = absurd are
    rows_numbered (r ∷ rs) [] os are many long numbered = absurd are
    rows_numbered (r ∷ rs) (m ∷ ms) [] are many long numbered = absurd (omega (arith, many))
    rows_numbered (r ∷ rs) (m ∷ ms) (o ∷ os) are many long numbered = (
      record {
        many = long 0 ∙ ap length are.0.terms;
        each = λ ord lt any.
            let within : ord < length m.terms =
            subst (λ (ts : List (List ℕ)). ord < length ts) (sym are.0.terms) lt in
            numbered 0 ord (omega arith) within (are.0.used.marks ord within ∙ any)
            ∙ ap (λ (ts : List (List ℕ)). Some (get_or ts ord [])) are.0.terms;
      },
      rows_numbered rs ms os are.1 (omega (arith, many)) (λ p. long (suc p))
          (λ p ord lt. numbered (suc p) ord (omega (arith, lt))),
    )

    module _ (rows : List TableRow) (columns : List MarkedTerms) (are : AllZip AreOfRow rows columns) where
      used_term : (term : List ℕ) → IsTermOf columns term
          → IsUsedTerm kept (map (λ (r : TableRow). r.column) rows) term
      used_term term is =
          let at = at_place rows columns are is.head.1 in
          record {
            place = is.head.1;
            ord = is.head.2;
            within = subst (λ (ts : List (List ℕ)). is.head.2 < length ts) at.terms is.is_head.within;
            used = sym (at.used.marks is.head.2 is.is_head.within) ∙ is.is_head.used;
            is = is.is ∙ is.is_head.is ∙ ap (λ (ts : List (List ℕ)). get_or ts is.head.2 []) at.terms;
          }

      pub rows_merged : (ordinals : List (List ℕ)) → AreMergedTerms columns terms ordinals
          → AreMerged kept rows terms ordinals
      rows_merged ordinals merged = record {
        ascend = merged.ascend;
        added = record {
          numbered = rows_numbered rows columns ordinals are merged.long.many merged.long.each
              (λ p ord place within used. merged.numbered (get_or (column_at columns p).terms ord [], p, ord)
              (record { place = place; within = within; used = used; is = refl }));
          each = λ k d lt. used_term (get_or terms k d) (merged.each k d lt);
          texts = λ all. merged.texts (All-from_recursion (λ (m : MarkedTerms). m.texts ≡ true) columns
              (have_texts rows columns are (recursion_from_All (λ (r : TableRow). HasTexts r.column) rows all)));
        };
      }

-- ---- the terms of a column, as those of its row

text_type : (column : DynamicColumn) → type_of column ≡ Str → has_texts (Some column) ≡ true
text_type (columns.Str c) is = refl
text_type (columns.I64 c) is = absurd cc
text_type (columns.U64 c) is = absurd cc
text_type (columns.Bytes c) is = absurd cc
text_type (columns.Bool c) is = absurd cc
text_type (columns.IpAddr c) is = absurd cc
text_type (columns.DateTime c) is = absurd cc

pub row_terms_are : (kept : List (List Bool)) (place : FileColumn) (column : DynamicColumn) (marks : List Bool)
    (m : MarkedTerms) → column ≡ (place.handle).column → marks ≡ get_or kept place.file []
    → AreColumnTerms marks column m → AreTermsOf kept (Some place) m
row_terms_are kept place column marks m is_column is_marks are = record {
  terms = are.terms ∙ ap terms_in is_column;
  used = subst (λ (l : List Bool). AreUsed (length m.terms) (kept_values l (ords_in (place.handle).column)) m.used) is_marks
      (subst (λ (c : DynamicColumn). AreUsed (length m.terms) (kept_values marks (ords_in c)) m.used) is_column are.used);
  texts = λ all. are.texts ∙ text_type column (ap type_of is_column ∙ all);
}

pub row_more : (kept : List (List Bool)) (rows : List TableRow) (i : ℕ) (r : TableRow) → i < length rows
    → r ≡ get_or rows i r → (columns : List MarkedTerms) (m : MarkedTerms)
    → AllZip (AreOfRow kept) (take i rows) columns → AreTermsOf kept r.column m
    → AllZip (AreOfRow kept) (take (i + 1) rows) (columns ++ m ∷ [])
row_more kept rows i r lt is columns m are one =
    subst (λ (rs : List TableRow). AllZip (AreOfRow kept) rs (columns ++ m ∷ []))
    (ap (λ (t : TableRow). take i rows ++ t ∷ []) is ∙ sym (take_more rows i r lt))
    (zip_push (take i rows) columns are)
  where
    zip_push : (rs : List TableRow) (ms : List MarkedTerms) → AllZip (AreOfRow kept) rs ms
        → AllZip (AreOfRow kept) (rs ++ r ∷ []) (ms ++ m ∷ [])
    zip_push [] [] all = (one, tt)
    zip_push [] (n ∷ ns) all = absurd all
    zip_push (q ∷ qs) [] all = absurd all
    zip_push (q ∷ qs) (n ∷ ns) all = (all.0, zip_push qs ns all.1)

pub no_terms_ascend : IsStrictlySortedBy (slice_cmp nat_cmp) []
unfolding IsStrictlySortedBy
no_terms_ascend = tt

pub others_ascend : (column : DynamicColumn) → ((c : TermColumn) → column ≡ columns.Bytes c → ⊥)
    → ((c : TermColumn) → column ≡ columns.Str c → ⊥) → IsStrictlySortedBy (slice_cmp nat_cmp) (terms_in column)
others_ascend (columns.Bytes c) bytes str = absurd (bytes c refl)
others_ascend (columns.Str c) bytes str = absurd (str c refl)
others_ascend (columns.I64 c) bytes str = no_terms_ascend
others_ascend (columns.U64 c) bytes str = no_terms_ascend
others_ascend (columns.Bool c) bytes str = no_terms_ascend
others_ascend (columns.IpAddr c) bytes str = no_terms_ascend
others_ascend (columns.DateTime c) bytes str = no_terms_ascend
