-- Parts of full shape join to contents of full shape.
use Rattle.std.proofs.Common.{◌≡◌, ℕ, zero, suc, ◌+◌, ◌<◌, Bool, true, false, cond, List, [], ◌∷◌, ◌++◌, length, Some, None, Option, sym, refl, ap, ◌∙◌, subst, arith, unwrap_or, inl, inr}
use Rattle.std.specs.Prelude.{◌||◌, ◌⊎◌, is_some, replicate}
use mathlib.Core.Bool.{true≢false}
use Rattle.std.specs.List.{flat_map, list_any, slice_get, AllByRecursion}
use Rattle.std.specs.Ordering.{nat_cmp, eq_by_cmp}
use Rattle.std.specs.Cmp.Lexicographic.{slice_cmp, nat_list_cmp_total}
use Rattle.std.specs.FinMap.{get, keys, empty, contains_key-keys}
use Rattle.std.proofs.lemmas.List.Folds.{list_any-append}
use Rattle.std.proofs.lemmas.List.{length-map}
use Rattle.std.proofs.lemmas.List.FromFn.{length-enumerate_from}
use Rattle.seg_values.specs.declared.schema.FieldEntry.{FieldEntry}
use Rattle.seg_common.specs.declared.column_type.ColumnType.{ColumnType}
use Rattle.seg_common.specs.declared.column_type.ColumnType.TheVariants.{I64, U64, Bytes, Str, Bool as Boolean, IpAddr, DateTime}
use Rattle.seg_common.proofs.Lists.{all_both}
use Rattle.seg_model.specs.Fields.{Schema, fields, is_indexed, has_lengths}
use Rattle.seg_model.specs.Operations.{kept}
use Rattle.seg_common.specs.TabulatedMaps.{is_among}
use Rattle.seg_model.specs.DocumentTerms.{Posting, term_option, if_any}
use Rattle.seg_model.specs.Columns.{ColumnValue, number, bytes_value, text_value, boolean_value, ip_value, date_value, ColumnKey, Columns, declared_columns, is_declared, is_filled}
use Rattle.seg_model.specs.Contents.{terms_at, norms_at}
use Rattle.seg_model.specs.Join.{Part, live_of, all_recorded, term_column, joined_postings, joined_terms, joined_norms, part_column, side_by_side, part_rows, joined_with}
use Rattle.seg_model.specs.Shape.{IsTermOf, IsTermWith, ArePostings, IsJsonPath, is_json_type, has_type, AreRowsOf, HasFullShape}
use Rattle.seg_model.specs.Laws.{AreOfFullShape, JoinsHaveFullShape}
use Rattle.seg_common.proofs.TabulatedMaps.{texts_apart, get-tabulated}
use Rattle.seg_model.proofs.Fields.{at_place}
use Rattle.seg_model.proofs.JoinedTerms.{complete_joined, AreNone, AreNone-append, AreNone-kept, AreNone-all_recorded, AreNone-parts, postings_from-none}
use Rattle.seg_model.proofs.JoinedColumns.{AreColumns, are_columns, covers_parts, is_filled-kept, is_filled-replicate}
use Rattle.seg_model.proofs.GroupedParts.{was_joined, live_of-length, length-part_rows, length-all_recorded}
use Rattle.seg_model.proofs.TermShapes.{AreRecordsOf, each-kept, ArePostings-from, AreRecordsOf-all_recorded, some_if_any}
use Rattle.seg_model.proofs.ColumnShapes.{IsUndeclared, declared_there, rows_shaped, one_type, free_shaped}

abbrev Rows : Type 0
Rows = List (List ColumnValue)

module _ (schema : Schema) {X : Type 0} (P : X → Type 0) (f : Part → List X) (each : (p : Part) → HasFullShape schema p.contents → AllByRecursion P (f p)) where
  each-live : (ps : List Part) → AreOfFullShape schema ps → AllByRecursion P (live_of f ps)
  each-live [] h = tt
  each-live (p ∷ ps) h = all_both P (kept p.alive (f p)) (live_of f ps) (each-kept P p.alive (f p) (each p h.0)) (each-live ps h.1)

-- ---- terms

module _ (schema : Schema) (i : ℕ) (e : FieldEntry) (at : slice_get schema i ≡ Some e) (q : List ℕ) where
  -- a term that a part has
  there_in_part : (p : Part) → HasFullShape schema p.contents → is_indexed e ≡ true → is_among (slice_cmp nat_cmp) (keys (terms_at p.contents i)) q ≡ true → IsTermOf e q
  there_in_part p shape indexed h = by (get (terms_at p.contents i) q) refl (contains_key-keys (terms_at p.contents i) q ∙ h)
    where
      by : (o : Option (List Posting)) → get (terms_at p.contents i) q ≡ o → is_some o ≡ true → IsTermOf e q
      by None g s = absurd (true≢false (sym s))
      by (Some ps) g s = (shape.terms i e at indexed q ps g).form

  there_in_parts : (ps : List Part) → AreOfFullShape schema ps → is_indexed e ≡ true → is_among (slice_cmp nat_cmp) (flat_map (λ p. keys (terms_at p.contents i)) ps) q ≡ true → IsTermOf e q
  there_in_parts [] shape indexed h = absurd (true≢false (sym h))
  there_in_parts (p ∷ ps) shape indexed h = by (is_among (slice_cmp nat_cmp) (keys (terms_at p.contents i)) q) refl (there_in_parts ps shape.1 indexed)
    where
      by : (b : Bool) → is_among (slice_cmp nat_cmp) (keys (terms_at p.contents i)) q ≡ b → (is_among (slice_cmp nat_cmp) (flat_map (λ x. keys (terms_at x.contents i)) ps) q ≡ true → IsTermOf e q) → IsTermOf e q
      by true g later = there_in_part p shape.0 indexed g
      by false g later = later (sym (ap (λ b. b || is_among (slice_cmp nat_cmp) (flat_map (λ x. keys (terms_at x.contents i)) ps) q) g) ∙ sym (list_any-append (eq_by_cmp (slice_cmp nat_cmp) q) (keys (terms_at p.contents i)) (flat_map (λ x. keys (terms_at x.contents i)) ps)) ∙ h)

  records : is_indexed e ≡ true → (p : Part) → HasFullShape schema p.contents → AreRecordsOf (term_option e q) (term_column i q p)
  records indexed p shape = by (get (terms_at p.contents i) q) refl
    where
      by : (o : Option (List Posting)) → get (terms_at p.contents i) q ≡ o → AreRecordsOf (term_option e q) (all_recorded 0 p.contents.documents (unwrap_or o []))
      by None g = AreRecordsOf-all_recorded (term_option e q) 0 p.contents.documents 0 0 [] tt
      by (Some ps) g = AreRecordsOf-all_recorded (term_option e q) 0 p.contents.documents 0 p.contents.documents ps (shape.terms i e at indexed q ps g).postings_ascend

  get_joined : (ps : List Part) → get (joined_terms ps (i, e)) q ≡ if_any (joined_postings ps i q)
  get_joined ps = get-tabulated nat_list_cmp_total texts_apart _ _ (complete_joined i ps) q

  term_joined : (ps : List Part) → AreOfFullShape schema ps → is_indexed e ≡ true → (postings : List Posting) → get (joined_terms ps (i, e)) q ≡ Some postings → IsTermWith e (length (live_of (λ p. p.contents.stored) ps)) q postings
  term_joined ps shape indexed postings g =
      let told = some_if_any (joined_postings ps i q) postings (sym (get_joined ps) ∙ g) in
      let P : List Posting → Type 0 = λ l. ArePostings (term_option e q) 0 (length (live_of (λ p. p.contents.stored) ps)) l in
      let N : ℕ → Type 0 = λ n. ArePostings (term_option e q) 0 n (joined_postings ps i q) in
      record {
        form = by (is_among (slice_cmp nat_cmp) (flat_map (λ p. keys (terms_at p.contents i)) ps) q) refl;
        occurs = told.1;
        postings_ascend = subst P (sym told.0) (subst N (live_of-length schema (term_column i q) (λ p h. length-all_recorded 0 p.contents.documents _) ps shape) (subst N (let z : 0 + length (live_of (term_column i q) ps) ≡ length (live_of (term_column i q) ps) = omega arith in z) (ArePostings-from (term_option e q) 0 (live_of (term_column i q) ps) (each-live schema _ (term_column i q) (records indexed) ps shape))));
      }
    where
      by : (b : Bool) → is_among (slice_cmp nat_cmp) (flat_map (λ p. keys (terms_at p.contents i)) ps) q ≡ b → IsTermOf e q
      by true h = there_in_parts ps shape indexed h
      by false h = absurd (true≢false (ap is_some (sym g ∙ get_joined ps ∙ ap if_any (postings_from-none 0 (live_of (term_column i q) ps) (AreNone-parts i q ps h)))))

  none_kept : (ps : List Part) → AreOfFullShape schema ps → is_indexed e ≡ false → AreNone (live_of (term_column i q) ps)
  none_kept [] shape off = tt
  none_kept (p ∷ ps) shape off =
      let P : Option (List Posting) → Type 0 = λ o. AreNone (kept p.alive (all_recorded 0 p.contents.documents (unwrap_or o []))) in
      AreNone-append _ _ (subst P (sym (shape.0.no_terms i e at off q)) (AreNone-kept p.alive _ (AreNone-all_recorded 0 p.contents.documents))) (none_kept ps shape.1 off)

  no_term_joined : (ps : List Part) → AreOfFullShape schema ps → is_indexed e ≡ false → get (joined_terms ps (i, e)) q ≡ None
  no_term_joined ps shape off = get_joined ps ∙ ap if_any (postings_from-none 0 (live_of (term_column i q) ps) (none_kept ps shape off))

-- ---- columns

has_number_types : (v : ColumnValue) → has_type U64 v ≡ has_type I64 v
has_number_types (number z) = refl
has_number_types (bytes_value b) = refl
has_number_types (text_value b) = refl
has_number_types (boolean_value b) = refl
has_number_types (ip_value b) = refl
has_number_types (date_value b) = refl

AreRowsOf-u64 : (rows : Rows) → AreRowsOf U64 rows → AreRowsOf I64 rows
AreRowsOf-u64 rows h = subst (λ (f : ColumnValue → Bool). AllByRecursion (AllByRecursion (λ v. f v ≡ true)) rows) (λ i v. has_number_types v i) h

AreRowsOf-i64 : (rows : Rows) → AreRowsOf I64 rows → AreRowsOf U64 rows
AreRowsOf-i64 rows h = subst (λ (f : ColumnValue → Bool). AllByRecursion (AllByRecursion (λ v. f v ≡ true)) rows) (λ i v. sym (has_number_types v) i) h

AreRowsOf-side_by_side : (type : ColumnType) (xs ys : Rows) → AreRowsOf type xs → AreRowsOf type ys → AreRowsOf type (side_by_side xs ys)
AreRowsOf-side_by_side type [] ys h k = k
AreRowsOf-side_by_side type (x ∷ xs) [] h k = h
AreRowsOf-side_by_side type (x ∷ xs) (y ∷ ys) h k = (all_both _ x y h.0 k.0, AreRowsOf-side_by_side type xs ys h.1 k.1)

AreRowsOf-replicate : (type : ColumnType) (n : ℕ) → AreRowsOf type (replicate n [])
AreRowsOf-replicate type zero = tt
AreRowsOf-replicate type (suc n) = (tt, AreRowsOf-replicate type n)

filled_side : (xs ys : Rows) → list_any is_filled (side_by_side xs ys) ≡ true → (list_any is_filled xs ≡ true) ⊎ (list_any is_filled ys ≡ true)
filled_side [] ys h = inr h
filled_side (x ∷ xs) [] h = inl h
filled_side ((v ∷ x) ∷ xs) (y ∷ ys) h = inl refl
filled_side ([] ∷ xs) ((v ∷ y) ∷ ys) h = inr refl
filled_side ([] ∷ xs) ([] ∷ ys) h = filled_side xs ys h

filled_append : (xs ys : Rows) → list_any is_filled (xs ++ ys) ≡ true → (list_any is_filled xs ≡ true) ⊎ (list_any is_filled ys ≡ true)
filled_append [] ys h = inr h
filled_append ((v ∷ x) ∷ xs) ys h = inl refl
filled_append ([] ∷ xs) ys h = filled_append xs ys h

filled_kept : (bs : List Bool) (xs : Rows) → list_any is_filled (kept bs xs) ≡ true → list_any is_filled xs ≡ true
filled_kept bs xs h = by (list_any is_filled xs) refl
  where
    by : (b : Bool) → list_any is_filled xs ≡ b → b ≡ true
    by true e = refl
    by false e = absurd (true≢false (sym h ∙ is_filled-kept bs xs e))

module _ (schema : Schema) where
  rows_of_part : (k : ColumnKey) (p : Part) → HasFullShape schema p.contents → AreRowsOf k.type (part_column k p)
  rows_of_part k p shape = by (get p.contents.columns k) refl
    where
      by : (o : Option Rows) → get p.contents.columns k ≡ o → AreRowsOf k.type (unwrap_or o (replicate p.contents.documents []))
      by None e = AreRowsOf-replicate k.type p.contents.documents
      by (Some rows) e = (shape.rows k rows e).1

  numbers_of_part : (path : List ℕ) (p : Part) → HasFullShape schema p.contents → AreRowsOf I64 (side_by_side (part_column (record { path = path; type = I64 }) p) (part_column (record { path = path; type = U64 }) p))
  numbers_of_part path p shape = AreRowsOf-side_by_side I64 _ _ (rows_of_part (record { path = path; type = I64 }) p shape) (AreRowsOf-u64 _ (rows_of_part (record { path = path; type = U64 }) p shape))

  typed_rows : (path : List ℕ) (type : ColumnType) (p : Part) → HasFullShape schema p.contents → AreRowsOf type (part_rows (record { path = path; type = type }) p)
  typed_rows path I64 p shape = numbers_of_part path p shape
  typed_rows path U64 p shape = AreRowsOf-i64 _ (numbers_of_part path p shape)
  typed_rows path Bytes p shape = rows_of_part (record { path = path; type = Bytes }) p shape
  typed_rows path Str p shape = rows_of_part (record { path = path; type = Str }) p shape
  typed_rows path Boolean p shape = rows_of_part (record { path = path; type = Boolean }) p shape
  typed_rows path IpAddr p shape = rows_of_part (record { path = path; type = IpAddr }) p shape
  typed_rows path DateTime p shape = rows_of_part (record { path = path; type = DateTime }) p shape

  -- an undeclared column of a part has a path and a type of JSON values
  free_in_part : (k : ColumnKey) (p : Part) → HasFullShape schema p.contents → is_declared (declared_columns schema) k ≡ false → list_any is_filled (part_column k p) ≡ true → IsJsonPath schema k.path × (is_json_type k.type ≡ true)
  free_in_part k p shape d h = by (get p.contents.columns k) refl h
    where
      by : (o : Option Rows) → get p.contents.columns k ≡ o → list_any is_filled (unwrap_or o (replicate p.contents.documents [])) ≡ true → IsJsonPath schema k.path × (is_json_type k.type ≡ true)
      by None e f = absurd (true≢false (sym f ∙ is_filled-replicate p.contents.documents))
      by (Some rows) e f = ((shape.free k rows e d).path, (shape.free k rows e d).typed)

  free_numbers : (path : List ℕ) (p : Part) → HasFullShape schema p.contents → (is_declared (declared_columns schema) (record { path = path; type = I64 }) ≡ false) × (is_declared (declared_columns schema) (record { path = path; type = U64 }) ≡ false) → list_any is_filled (side_by_side (part_column (record { path = path; type = I64 }) p) (part_column (record { path = path; type = U64 }) p)) ≡ true → IsJsonPath schema path
  free_numbers path p shape d h = by (filled_side (part_column (record { path = path; type = I64 }) p) (part_column (record { path = path; type = U64 }) p) h)
    where
      by : (list_any is_filled (part_column (record { path = path; type = I64 }) p) ≡ true) ⊎ (list_any is_filled (part_column (record { path = path; type = U64 }) p) ≡ true) → IsJsonPath schema path
      by (inl f) = (free_in_part (record { path = path; type = I64 }) p shape d.0 f).0
      by (inr f) = (free_in_part (record { path = path; type = U64 }) p shape d.1 f).0

  free_rows : (path : List ℕ) (type : ColumnType) (p : Part) → HasFullShape schema p.contents → IsUndeclared (declared_columns schema) path type → list_any is_filled (part_rows (record { path = path; type = type }) p) ≡ true → IsJsonPath schema path × (is_json_type type ≡ true)
  free_rows path I64 p shape d h = (free_numbers path p shape d h, refl)
  free_rows path U64 p shape d h = (free_numbers path p shape d h, refl)
  free_rows path Bytes p shape d h = free_in_part (record { path = path; type = Bytes }) p shape d h
  free_rows path Str p shape d h = free_in_part (record { path = path; type = Str }) p shape d h
  free_rows path Boolean p shape d h = free_in_part (record { path = path; type = Boolean }) p shape d h
  free_rows path IpAddr p shape d h = free_in_part (record { path = path; type = IpAddr }) p shape d h
  free_rows path DateTime p shape d h = free_in_part (record { path = path; type = DateTime }) p shape d h

  free_live : (path : List ℕ) (type : ColumnType) → IsUndeclared (declared_columns schema) path type → (ps : List Part) → AreOfFullShape schema ps → list_any is_filled (live_of (part_rows (record { path = path; type = type })) ps) ≡ true → IsJsonPath schema path × (is_json_type type ≡ true)
  free_live path type d [] shape h = absurd (true≢false (sym h))
  free_live path type d (p ∷ ps) shape h = by (filled_append (kept p.alive (part_rows (record { path = path; type = type }) p)) _ h) (free_live path type d ps shape.1)
    where
      by : (list_any is_filled (kept p.alive (part_rows (record { path = path; type = type }) p)) ≡ true) ⊎ (list_any is_filled (live_of (part_rows (record { path = path; type = type })) ps) ≡ true) → (list_any is_filled (live_of (part_rows (record { path = path; type = type })) ps) ≡ true → IsJsonPath schema path × (is_json_type type ≡ true)) → IsJsonPath schema path × (is_json_type type ≡ true)
      by (inl f) later = free_rows path type p shape.0 d (filled_kept p.alive _ f)
      by (inr f) later = later f

  -- ---- all parts

  module _ (ps : List Part) (shape : AreOfFullShape schema ps) (cs : Columns) (are : AreColumns (declared_columns schema) (λ k. live_of (part_rows k) ps) cs) where
    shaped : HasFullShape schema (joined_with schema ps cs)
    shaped = record {
      terms_per_field = length-map (fields schema) (joined_terms ps) ∙ length-enumerate_from 0 schema;
      terms = λ i e at indexed q postings g. term_joined schema i e at q ps shape indexed postings (ap (λ t. get t q) (sym (at_place (joined_terms ps) empty i schema e at)) ∙ g);
      no_terms = λ i e at off q. ap (λ t. get t q) (at_place (joined_terms ps) empty i schema e at) ∙ no_term_joined schema i e at q ps shape off;
      stored = refl;
      norms_per_field = length-map (fields schema) (joined_norms ps) ∙ length-enumerate_from 0 schema;
      norms = λ i e at has. (
        ap length (norms_there i e at has) ∙ live_of-length schema (λ p. norms_at p.contents i) (λ p h. (h.norms i e at has).0) ps shape,
        subst (AllByRecursion (λ id. id < 256)) (sym (norms_there i e at has)) (each-live schema (λ id. id < 256) (λ p. norms_at p.contents i) (λ p h. (h.norms i e at has).1) ps shape),
      );
      no_norms = λ i e at off. at_place (joined_norms ps) [] i schema e at ∙ ap (λ b. cond b (live_of (λ p. norms_at p.contents i) ps) []) off;
      declared = declared_there schema (λ k. live_of (part_rows k) ps) cs (length (live_of (λ p. p.contents.stored) ps)) are (λ path. refl);
      free = free_shaped schema (λ k. live_of (part_rows k) ps) cs (length (live_of (λ p. p.contents.stored) ps)) are (λ path. refl) (λ path type d h. free_live path type d ps shape h);
      rows = rows_shaped schema (λ k. live_of (part_rows k) ps) cs (length (live_of (λ p. p.contents.stored) ps)) are (λ path. refl) (λ k. live_of-length schema (part_rows k) (λ p h. length-part_rows schema k.path k.type p h) ps shape) (λ k. each-live schema _ (part_rows k) (λ p h. typed_rows k.path k.type p h) ps shape);
      one_number_type = one_type schema (λ k. live_of (part_rows k) ps) cs (length (live_of (λ p. p.contents.stored) ps)) are (λ path. refl);
    }
      where
        norms_there : (i : ℕ) (e : FieldEntry) → slice_get schema i ≡ Some e → has_lengths e ≡ true → norms_at (joined_with schema ps cs) i ≡ live_of (λ p. norms_at p.contents i) ps
        norms_there i e at has = at_place (joined_norms ps) [] i schema e at ∙ ap (λ b. cond b (live_of (λ p. norms_at p.contents i) ps) []) has

pub joins_have_full_shape : JoinsHaveFullShape
joins_have_full_shape schema ps contents shape e =
    let joined = was_joined schema ps contents e in
    subst (HasFullShape schema) (sym joined.is_join) (shaped schema ps shape joined.columns_joined (are_columns (declared_columns schema) (λ k. live_of (part_rows k) ps) _ _ (covers_parts (declared_columns schema) ps) joined.are_columns))
