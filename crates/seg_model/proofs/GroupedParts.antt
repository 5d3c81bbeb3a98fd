-- Parts joined group by group, in order.
use Rattle.std.proofs.Common.{◌≡◌, ℕ, zero, suc, ◌+◌, Bool, true, false, cond, List, [], ◌∷◌, ◌++◌, map, length, Some, None, Option, sym, refl, ap, ◌∙◌, unwrap_or, length-append, arith}
use Rattle.std.specs.Prelude.{is_some, replicate}
use mathlib.Core.Bool.{true≢false}
use Rattle.std.specs.List.{flat_map, slice_get, slice_index_or}
use Rattle.std.specs.Option.{option_map}
use Rattle.std.specs.Cmp.Lexicographic.{nat_list_cmp_total}
use Rattle.std.specs.FinMap.{get, empty}
use Rattle.std.proofs.lemmas.List.{length-replicate}
use Rattle.std.proofs.lemmas.List.Concat.{flat_map-append}
use Rattle.seg_values.specs.declared.schema.FieldEntry.{FieldEntry}
use Rattle.seg_common.specs.declared.column_type.ColumnType.{ColumnType}
use Rattle.seg_common.specs.declared.column_type.ColumnType.TheVariants.{I64, U64, Bytes, Str, Bool as Boolean, IpAddr, DateTime}
use Rattle.seg_model.specs.Fields.{Schema, fields, has_lengths}
use Rattle.seg_model.specs.Operations.{kept}
use Rattle.seg_model.specs.DocumentTerms.{Posting, postings_from, if_any}
use Rattle.seg_model.specs.Columns.{ColumnValue, ColumnKey, Columns, declared_columns, column_at, rows_of, number_type, is_declared}
use Rattle.seg_model.specs.Contents.{Contents, terms_at, norms_at}
use Rattle.seg_model.specs.Join.{Part, live_of, all_recorded, term_column, joined_postings, joined_terms, joined_norms, part_column, side_by_side, part_rows, joined_columns, joined_with, join}
use Rattle.seg_model.specs.Shape.{HasFullShape}
use Rattle.seg_model.specs.Laws.{whole, AreOfFullShape, AreJoinsOf, JoinsGroupInOrder}
use Rattle.seg_common.proofs.TabulatedMaps.{texts_apart, get-tabulated, same_table}
use Rattle.seg_model.proofs.Fields.{at_place, each_place}
use Rattle.seg_model.proofs.JoinedTerms.{complete_joined, all_recorded-postings_from, unwrap_if_any}
use Rattle.seg_model.proofs.JoinedColumns.{AreColumns, are_columns, covers_parts, one_has_all, length-rows_of, unwrap_if_there, same_columns}

abbrev Rows : Type 0
Rows = List (List ColumnValue)

-- ---- lengths

kept-length : {X Y : Type 0} (bs : List Bool) (xs : List X) (ys : List Y) → length xs ≡ length ys → length (kept bs xs) ≡ length (kept bs ys)
kept-length [] xs ys h = refl
kept-length (b ∷ bs) [] [] h = refl
kept-length (b ∷ bs) [] (y ∷ ys) h = absurd (omega arith)
kept-length (b ∷ bs) (x ∷ xs) [] h = absurd (omega arith)
kept-length (true ∷ bs) (x ∷ xs) (y ∷ ys) h = let e : length (kept bs xs) ≡ length (kept bs ys) = kept-length bs xs ys (omega arith) in ap suc e
kept-length (false ∷ bs) (x ∷ xs) (y ∷ ys) h = kept-length bs xs ys (omega arith)

pub kept-all : {X : Type 0} (n : ℕ) (xs : List X) → length xs ≡ n → kept (replicate n true) xs ≡ xs
kept-all zero [] h = refl
kept-all zero (x ∷ xs) h = absurd (omega arith)
kept-all (suc n) [] h = refl
kept-all (suc n) (x ∷ xs) h = ap (λ l. x ∷ l) (kept-all n xs (omega arith))

pub length-all_recorded : (i n : ℕ) (ps : List Posting) → length (all_recorded i n ps) ≡ n
length-all_recorded i zero ps = refl
length-all_recorded i (suc n) ps = ap suc (length-all_recorded (i + 1) n ps)

length-side_by_side : (n : ℕ) (xs ys : Rows) → length xs ≡ n → length ys ≡ n → length (side_by_side xs ys) ≡ n
length-side_by_side n [] ys h k = k
length-side_by_side n (x ∷ xs) [] h k = h
length-side_by_side zero (x ∷ xs) (y ∷ ys) h k = absurd (omega arith)
length-side_by_side (suc n) (x ∷ xs) (y ∷ ys) h k = ap suc (length-side_by_side n xs ys (omega arith) (omega arith))

module _ (schema : Schema) where
  -- where a part has a value for each document, as many are kept as stored documents
  module _ {X : Type 0} (f : Part → List X) (each : (p : Part) → HasFullShape schema p.contents → length (f p) ≡ p.contents.documents) where
    pub live_of-length : (ps : List Part) → AreOfFullShape schema ps → length (live_of f ps) ≡ length (live_of (λ p. p.contents.stored) ps)
    live_of-length [] h = refl
    live_of-length (p ∷ ps) h =
        length-append (kept p.alive (f p)) (live_of f ps)
        ∙ (λ i. kept-length p.alive (f p) p.contents.stored (each p h.0 ∙ sym h.0.stored) i + live_of-length ps h.1 i)
        ∙ sym (length-append (kept p.alive p.contents.stored) (live_of (λ q. q.contents.stored) ps))

  length-part_column : (k : ColumnKey) (p : Part) → HasFullShape schema p.contents → length (part_column k p) ≡ p.contents.documents
  length-part_column k p shape = by (get p.contents.columns k) refl
    where
      by : (o : Option Rows) → get p.contents.columns k ≡ o → length (unwrap_or o (replicate p.contents.documents [])) ≡ p.contents.documents
      by None e = length-replicate p.contents.documents []
      by (Some rows) e = (shape.rows k rows e).0

  pub length-part_rows : (path : List ℕ) (type : ColumnType) (p : Part) → HasFullShape schema p.contents → length (part_rows (record { path = path; type = type }) p) ≡ p.contents.documents
  length-part_rows path I64 p shape = length-side_by_side p.contents.documents _ _ (length-part_column (record { path = path; type = I64 }) p shape) (length-part_column (record { path = path; type = U64 }) p shape)
  length-part_rows path U64 p shape = length-side_by_side p.contents.documents _ _ (length-part_column (record { path = path; type = I64 }) p shape) (length-part_column (record { path = path; type = U64 }) p shape)
  length-part_rows path Bytes p shape = length-part_column (record { path = path; type = Bytes }) p shape
  length-part_rows path Str p shape = length-part_column (record { path = path; type = Str }) p shape
  length-part_rows path Boolean p shape = length-part_column (record { path = path; type = Boolean }) p shape
  length-part_rows path IpAddr p shape = length-part_column (record { path = path; type = IpAddr }) p shape
  length-part_rows path DateTime p shape = length-part_column (record { path = path; type = DateTime }) p shape

  -- ---- what a joined group has

  pub record WasJoined (group : List Part) (contents : Contents) : Type 0 where
    pub columns_joined : Columns
    pub are_columns : joined_columns schema group ≡ Some columns_joined
    pub is_join : contents ≡ joined_with schema group columns_joined

  pub was_joined : (group : List Part) (contents : Contents) → join schema group ≡ Some contents → WasJoined group contents
  was_joined group contents e = by (joined_columns schema group) refl e
    where
      by : (o : Option Columns) → joined_columns schema group ≡ o → option_map (joined_with schema group) o ≡ Some contents → WasJoined group contents
      by None c h = absurd (true≢false (sym (ap is_some h)))
      by (Some cs) c h = record { columns_joined = cs; are_columns = c; is_join = same _ _ h }
        where
          same : (x y : Contents) → Some x ≡ Some y → y ≡ x
          same x y e = cc

  module _ (group : List Part) (c : Contents) (shape : AreOfFullShape schema group) (e : join schema group ≡ Some c) where
    stored_kept : c.stored ≡ live_of (λ p. p.contents.stored) group
    stored_kept = ap (λ (x : Contents). x.stored) (was_joined group c e).is_join

    documents_kept : c.documents ≡ length (live_of (λ p. p.contents.stored) group)
    documents_kept = ap (λ (x : Contents). x.documents) (was_joined group c e).is_join

    term_column_kept : (i : ℕ) (entry : FieldEntry) → slice_get schema i ≡ Some entry → (q : List ℕ) → term_column i q (whole c) ≡ live_of (term_column i q) group
    term_column_kept i entry at q =
        let told = live_of (term_column i q) group in
        let from_join : all_recorded 0 c.documents (unwrap_or (get (terms_at c i) q) []) ≡ all_recorded 0 c.documents (unwrap_or (get (slice_index_or (map (joined_terms group) (fields schema)) i empty) q) []) = ap (λ (x : Contents). all_recorded 0 c.documents (unwrap_or (get (terms_at x i) q) [])) (was_joined group c e).is_join in
        let as_long : c.documents ≡ length told = documents_kept ∙ sym (live_of-length (term_column i q) (λ p h. length-all_recorded 0 p.contents.documents _) group shape) in
        from_join
        ∙ ap (λ t. all_recorded 0 c.documents (unwrap_or (get t q) [])) (at_place (joined_terms group) empty i schema entry at)
        ∙ ap (λ o. all_recorded 0 c.documents (unwrap_or o [])) (get-tabulated nat_list_cmp_total texts_apart _ _ (complete_joined i group) q)
        ∙ ap (all_recorded 0 c.documents) (unwrap_if_any (joined_postings group i q))
        ∙ ap (λ n. all_recorded 0 n (joined_postings group i q)) as_long
        ∙ all_recorded-postings_from told

    norms_kept : (i : ℕ) (entry : FieldEntry) → slice_get schema i ≡ Some entry → has_lengths entry ≡ true → norms_at c i ≡ live_of (λ p. norms_at p.contents i) group
    norms_kept i entry at has =
        ap (λ (x : Contents). norms_at x i) (was_joined group c e).is_join
        ∙ at_place (joined_norms group) [] i schema entry at
        ∙ ap (λ b. cond b (live_of (λ p. norms_at p.contents i) group) []) has

    columns_kept : AreColumns (declared_columns schema) (λ k. live_of (part_rows k) group) (was_joined group c e).columns_joined
    columns_kept = are_columns (declared_columns schema) (λ k. live_of (part_rows k) group) _ _ (covers_parts (declared_columns schema) group) (was_joined group c e).are_columns

    part_column_kept : (k : ColumnKey) → part_column k (whole c) ≡ rows_of (declared_columns schema) k (live_of (part_rows k) group)
    part_column_kept k =
        let rows = rows_of (declared_columns schema) k (live_of (part_rows k) group) in
        let as_long : c.documents ≡ length rows = documents_kept ∙ sym (length-rows_of (declared_columns schema) k (live_of (part_rows k) group) ∙ live_of-length (part_rows k) (λ p h. length-part_rows k.path k.type p h) group shape) in
        let from_join : unwrap_or (get c.columns k) (replicate c.documents []) ≡ unwrap_or (get (was_joined group c e).columns_joined k) (replicate c.documents []) = ap (λ (x : Contents). unwrap_or (get x.columns k) (replicate c.documents [])) (was_joined group c e).is_join in
        from_join
        ∙ ap (λ o. unwrap_or o (replicate c.documents [])) (columns_kept.gets k)
        ∙ ap (λ n. unwrap_or (column_at (declared_columns schema) k (live_of (part_rows k) group)) (replicate n [])) as_long
        ∙ unwrap_if_there (is_declared (declared_columns schema) k) rows

    numbers_kept : (path : List ℕ) → side_by_side (part_column (record { path = path; type = I64 }) (whole c)) (part_column (record { path = path; type = U64 }) (whole c)) ≡ live_of (part_rows (record { path = path; type = I64 })) group
    numbers_kept path =
        (λ i. side_by_side (part_column_kept (record { path = path; type = I64 }) i) (part_column_kept (record { path = path; type = U64 }) i))
        ∙ one_has_all (number_type (declared_columns schema) path (live_of (part_rows (record { path = path; type = I64 })) group)) (live_of (part_rows (record { path = path; type = I64 })) group) (columns_kept.none_mixed (record { path = path; type = I64 }))

    rows_kept : (path : List ℕ) (type : ColumnType) → part_rows (record { path = path; type = type }) (whole c) ≡ live_of (part_rows (record { path = path; type = type })) group
    rows_kept path I64 = numbers_kept path
    rows_kept path U64 = numbers_kept path
    rows_kept path Bytes = part_column_kept (record { path = path; type = Bytes })
    rows_kept path Str = part_column_kept (record { path = path; type = Str })
    rows_kept path Boolean = part_column_kept (record { path = path; type = Boolean })
    rows_kept path IpAddr = part_column_kept (record { path = path; type = IpAddr })
    rows_kept path DateTime = part_column_kept (record { path = path; type = DateTime })

  -- ---- what joined groups have, the parts have

  module _ {X : Type 0} (f : Part → List X) (each : (p : Part) → HasFullShape schema p.contents → length (f p) ≡ p.contents.documents) (is_kept : (group : List Part) (c : Contents) → AreOfFullShape schema group → join schema group ≡ Some c → f (whole c) ≡ live_of f group) where
    live_of-groups : (groups : List (List Part)) (cs : List Contents) → AreJoinsOf schema groups cs → live_of f (map whole cs) ≡ live_of f (flat_map (λ g. g) groups)
    live_of-groups [] [] h = refl
    live_of-groups [] (c ∷ cs) h = absurd h
    live_of-groups (g ∷ gs) [] h = absurd h
    live_of-groups (g ∷ gs) (c ∷ cs) h =
        let as_long : length (f (whole c)) ≡ c.documents = ap length (is_kept g c h.0 h.1) ∙ live_of-length f each g h.0 ∙ sym (documents_kept g c h.0 h.1) in
        ap (λ l. l ++ live_of f (map whole cs)) (kept-all c.documents (f (whole c)) as_long ∙ is_kept g c h.0 h.1)
        ∙ ap (λ l. live_of f g ++ l) (live_of-groups gs cs h.2)
        ∙ sym (flat_map-append (λ p. kept p.alive (f p)) g (flat_map (λ x. x) gs))

  module _ (groups : List (List Part)) (cs : List Contents) (all : AreJoinsOf schema groups cs) where
    terms_grouped : (i : ℕ) (entry : FieldEntry) → slice_get schema i ≡ Some entry → joined_terms (map whole cs) (i, entry) ≡ joined_terms (flat_map (λ g. g) groups) (i, entry)
    terms_grouped i entry at =
        same_table nat_list_cmp_total texts_apart (λ t. if_any (joined_postings (map whole cs) i t)) (λ t. if_any (joined_postings (flat_map (λ g. g) groups) i t)) _ _
        (complete_joined i (map whole cs)) (complete_joined i (flat_map (λ g. g) groups))
        (λ q. ap (λ rs. if_any (postings_from 0 rs)) (live_of-groups (term_column i q) (λ p h. length-all_recorded 0 p.contents.documents _) (λ g c shape e. term_column_kept g c shape e i entry at q) groups cs all))

    norms_grouped : (i : ℕ) (entry : FieldEntry) → slice_get schema i ≡ Some entry → joined_norms (map whole cs) (i, entry) ≡ joined_norms (flat_map (λ g. g) groups) (i, entry)
    norms_grouped i entry at = by (has_lengths entry) refl
      where
        by : (b : Bool) → has_lengths entry ≡ b → cond b (live_of (λ p. norms_at p.contents i) (map whole cs)) [] ≡ cond b (live_of (λ p. norms_at p.contents i) (flat_map (λ g. g) groups)) []
        by true has = live_of-groups (λ p. norms_at p.contents i) (λ p h. (h.norms i entry at has).0) (λ g c shape e. norms_kept g c shape e i entry at has) groups cs all
        by false has = refl

    stored_grouped : live_of (λ p. p.contents.stored) (map whole cs) ≡ live_of (λ p. p.contents.stored) (flat_map (λ g. g) groups)
    stored_grouped = live_of-groups (λ p. p.contents.stored) (λ p h. h.stored) (λ g c shape e. stored_kept g c shape e) groups cs all

    columns_grouped : joined_columns schema (map whole cs) ≡ joined_columns schema (flat_map (λ g. g) groups)
    columns_grouped =
        same_columns (declared_columns schema) (λ k. live_of (part_rows k) (map whole cs)) (λ k. live_of (part_rows k) (flat_map (λ g. g) groups)) _ _
        (covers_parts (declared_columns schema) (map whole cs)) (covers_parts (declared_columns schema) (flat_map (λ g. g) groups))
        (λ q. live_of-groups (part_rows q) (λ p h. length-part_rows q.path q.type p h) (λ g c shape e. rows_kept g c shape e q.path q.type) groups cs all)

    same_with : (columns : Columns) → joined_with schema (map whole cs) columns ≡ joined_with schema (flat_map (λ g. g) groups) columns
    same_with columns = λ i. record {
      documents = length (stored_grouped i);
      terms = each_place (joined_terms (map whole cs)) (joined_terms (flat_map (λ g. g) groups)) schema terms_grouped i;
      stored = stored_grouped i;
      norms = each_place (joined_norms (map whole cs)) (joined_norms (flat_map (λ g. g) groups)) schema norms_grouped i;
      columns = columns;
    }

    -- joined group by group, in order, parts join to what they join to at once
    joined_grouped : join schema (map whole cs) ≡ join schema (flat_map (λ g. g) groups)
    joined_grouped =
        ap (option_map (joined_with schema (map whole cs))) columns_grouped
        ∙ ap (λ f. option_map f (joined_columns schema (flat_map (λ g. g) groups))) (λ i x. same_with x i)

pub joins_group_in_order : JoinsGroupInOrder
joins_group_in_order schema groups cs all = joined_grouped schema groups cs all
