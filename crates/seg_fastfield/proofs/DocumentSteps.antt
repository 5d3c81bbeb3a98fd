-- Steps of the functions that walk over a document, and of the writer.
use Rattle.std.proofs.Common.{◌≡◌, ℕ, suc, ◌+◌, ◌-◌, ◌<◌, ◌≤◌, Bool, true, false, cond, List, [], ◌∷◌, ◌++◌, length, get_or, take, Option, None, Some, Result, Ok, Err, OnOk, inl, inr, refl, sym, ap, subst, ◌∙◌, arith, append-nil, length-append}
use Rattle.std.specs.Prelude.{◌⊎◌, ◌||◌, IsSomeAnd}
use Rattle.std.specs.List.{AllByRecursion, flat_map, join_with_byte, slice_get}
use Rattle.std.proofs.Math.Seq.{take-append_seam}
use Rattle.std.proofs.lemmas.Option.{slice_get-get_or, slice_get_within}
use Rattle.seg_common.specs.JsonPaths.{JsonPath}
use Rattle.seg_columns.specs.declared.error.ColumnError.{ColumnError}
use Rattle.seg_values.specs.declared.schema.FieldEntry.{FieldEntry}
use Rattle.seg_values.specs.declared.error.TantivyError.{TantivyError}
use Rattle.seg_values.specs.SchemaRules.{is_schema}
use Rattle.seg_values.specs.Tree.{Document, Leaf, Tree, leaf}
use Rattle.seg_model.specs.DocumentCheck.{document_refusal}
use Rattle.seg_model.specs.Columns.{Columns, FastValue, column_named, columns_of, declared_columns, declared_type, fast_values}
use Rattle.seg_model.specs.Fields.{Analyzer, Schema, is_json}
use Rattle.seg_model.specs.Leaves.{leaves_at}
use Rattle.seg_model.specs.AcceptedTrees.{is_own_array, takes}
use Rattle.seg_model.specs.ValidInputs.{Known, names_fit}
use Rattle.seg_column_writer.specs.DocumentRows.{AreArranged, with_rows, with_values}
use Rattle.seg_column_writer.specs.RecordedColumns.{declared_in, recorded_columns}
use Rattle.seg_column_writer.specs.ColumnRecords.{ColumnRecord}
use Rattle.seg_column_writer.specs.TypedColumns as recorded
use Rattle.seg_column_writer.specs.TypedColumns.{IsWithin}
use Rattle.seg_column_writer.proofs.Exports.{all_within, columns_of_documents, later, same_length}
use Rattle.seg_common.specs.declared.column_type.ColumnType.{ColumnType}
use Rattle.seg_fastfield.specs.FastLeaves.{IsTaken, entry_leaf, pair_values, path_at, recorded_values, values_of_leaf}
use Rattle.seg_column_format.specs.FastTokenizers.{AreKnown}
use Rattle.seg_fastfield.specs.DeclaredColumns.{column_with, declared_by, first_columns}
use Rattle.seg_fastfield.specs.RecordedLeaves.{CanRecord, CanRecordLeaf, IsPlaceOf, MayLeafCome}
use Rattle.seg_fastfield.specs.FastFieldWriters.{AreUnderWay, FastWriting, Holds, error_of, refusal_of}
use Rattle.seg_fastfield.proofs.DocumentValues.{document_arranged}
use Rattle.seg_fastfield.proofs.FieldColumns.{all_taken, apart_from, empty_at_first, field_of, known_at, own_array, texts_taken, under_way_at_first}
use Rattle.seg_fastfield.proofs.LeafRecords.{deep_tree, leaf_may_come, leaf_recorded}

-- ---- below the deepest level

pub nothing_deep : (analyzer : Analyzer) (entry : FieldEntry) (keys : List (List ℕ)) (level : ℕ) (path : JsonPath)
    (t : Tree)
    → IsPlaceOf entry keys level path → 20 < level → flat_map (entry_leaf analyzer entry) (leaves_at keys level t) ≡ []
nothing_deep analyzer entry keys level path t place deep = by (is_json entry.kind) refl
  where
    by : (b : Bool) → is_json entry.kind ≡ b → flat_map (entry_leaf analyzer entry) (leaves_at keys level t) ≡ []
    by true json = deep_tree analyzer entry json keys level t deep
    by false plain = absurd (outside place.level_is)
      where
        outside : ((keys ≡ []) × (level ≡ 0)) ⊎ ((0 < length keys) × (0 < level)) → ⊥
        outside (inl e) = omega (arith, e.1, deep)
        outside (inr e) = let none : length keys ≡ 0 = ap length (place.plain plain) in omega (arith, e.0, none)

pub recorded_deep : (analyzer : Analyzer) (row : ℕ) (entry : FieldEntry) (keys : List (List ℕ)) (level : ℕ)
    (path : JsonPath)
    (t : Tree) (cs : List ColumnRecord) → IsPlaceOf entry keys level path → 20 < level
    → cs ≡ with_values row (flat_map (entry_leaf analyzer entry) (leaves_at keys level t)) cs
recorded_deep analyzer row entry keys level path t cs place deep =
    sym (ap (λ (vs : List FastValue). with_values row vs cs) (nothing_deep analyzer entry keys level path t place deep))

-- ---- a leaf

pub can_record_leaf : (known : Known) (schema : Schema) (row : ℕ) (entry : FieldEntry) (path : JsonPath) (level : ℕ)
    (t : Tree) (l : Leaf) (text : List ℕ) (cs : List ColumnRecord)
    → (can : CanRecord known schema row entry path level t cs)
    → t ≡ leaf l → text ≡ join_with_byte 1 path.keys → CanRecordLeaf known schema row entry text l cs
can_record_leaf known schema row entry path level t l text cs can is written = record {
  under_way = can.under_way;
  known_is = can.known_is;
  may_come = subst (λ (p : List ℕ). MayLeafCome schema p l) (sym written)
      (leaf_may_come schema entry can.field can.keys level path can.place l
      (sym (ap (λ (x : Tree). is_json entry.kind || is_own_array entry.kind x) is) ∙ can.takes));
}

pub recorded_leaf : (analyzer : Analyzer) (row : ℕ) (entry : FieldEntry) (keys : List (List ℕ)) (level : ℕ)
    (path : JsonPath) (t : Tree) (l : Leaf) (text : List ℕ) (old new : List ColumnRecord)
    (result : Result (Unit {0}) ColumnError) → entry.fast ≡ true → level ≤ 20 → IsPlaceOf entry keys level path
    → t ≡ leaf l → text ≡ join_with_byte 1 path.keys
    → OnOk result (new ≡ with_values row (values_of_leaf analyzer entry text level l) old)
    → OnOk result ((path ≡ path) × (new ≡ with_values row (flat_map (entry_leaf analyzer entry)
    (leaves_at keys level t)) old))
recorded_leaf analyzer row entry keys level path t l text old new (Ok tt) fast few place is written made = (
  refl,
  made ∙ ap (λ (vs : List FastValue). with_values row vs old)
      (ap (λ (p : List ℕ). values_of_leaf analyzer entry p level l) written
      ∙ leaf_recorded analyzer entry fast keys level path place few l
      ∙ sym (append-nil (entry_leaf analyzer entry (record { keys = keys; level = level; leaf = l })))
      ∙ ap (λ (x : Tree). flat_map (entry_leaf analyzer entry) (leaves_at keys level x)) (sym is)),
)
recorded_leaf analyzer row entry keys level path t l text old new (Err e) fast few place is written made = tt

-- a key that is taken away again
pub popped : (path pushed after : JsonPath) (key : List ℕ)
    → pushed ≡ record { keys = path.keys ++ key ∷ []; expand_dots = path.expand_dots }
    → after ≡ record { keys = take (length pushed.keys - 1) pushed.keys; expand_dots = pushed.expand_dots }
    → after ≡ path
popped path pushed after key is pop =
    pop
    ∙ (λ j. record { keys = take (length (is j).keys - 1) (is j).keys; expand_dots = (is j).expand_dots })
    ∙ (λ j. record { keys = front j; expand_dots = path.expand_dots })
  where
    front : take (length (path.keys ++ key ∷ []) - 1) (path.keys ++ key ∷ []) ≡ path.keys
    front = ap (λ (m : ℕ). take m (path.keys ++ key ∷ [])) (omega (arith, length-append path.keys (key ∷ [])))
        ∙ take-append_seam path.keys (key ∷ [])

-- the level of members is one more
pub in_level : (analyzer : Analyzer) (row : ℕ) (entry : FieldEntry) (keys : List (List ℕ)) (level : ℕ) (t : Tree)
    (old new : List ColumnRecord)
    → new ≡ with_values row (flat_map (entry_leaf analyzer entry) (leaves_at keys (level + 1) t)) old
    → new ≡ with_values row (flat_map (entry_leaf analyzer entry) (leaves_at keys (suc level) t)) old
in_level analyzer row entry keys level t old new made =
    let s : level + 1 ≡ suc level = omega arith in
    subst (λ (l : ℕ). new ≡ with_values row (flat_map (entry_leaf analyzer entry) (leaves_at keys l t)) old) s made

-- ---- a pair

pub within : (schema : Schema) (p : ℕ × Tree) → IsTaken schema p → p.0 < length schema
within schema p taken = by (slice_get schema p.0) refl taken
  where
    by : (o : Option FieldEntry) → slice_get schema p.0 ≡ o → IsSomeAnd o (λ e. takes e p.1 ≡ true)
        → p.0 < length schema
    by None is taken = absurd taken
    by (Some e) is taken = slice_get_within schema p.0 e is

-- the entry that is read at the place of a pair
pub entry_at : (schema : Schema) (p : ℕ × Tree) (n : ℕ) (e : FieldEntry) → IsTaken schema p → n ≡ p.0
    → slice_get schema p.0 ≡ Some (get_or schema n e)
entry_at schema p n e taken same =
    slice_get-get_or schema p.0 e (within schema p taken) ∙ ap (λ (m : ℕ). Some (get_or schema m e)) (sym same)

pub takes_at : (schema : Schema) (p : ℕ × Tree) (e : FieldEntry) → IsTaken schema p → slice_get schema p.0 ≡ Some e
    → takes e p.1 ≡ true
takes_at schema p e taken is = subst (λ (o : Option FieldEntry). IsSomeAnd o (λ x. takes x p.1 ≡ true)) is taken

pub can_record : (known : Known) (schema : Schema) (row : ℕ) (p : ℕ × Tree) (e : FieldEntry) (path : JsonPath)
    (cs : List ColumnRecord) → (is_schema schema ≡ true) × (names_fit schema ≡ true) × AreKnown known schema
    → IsTaken schema p → AreUnderWay schema (row + 1) cs → slice_get schema p.0 ≡ Some e → e.fast ≡ true
    → path ≡ path_at e [] → CanRecord known schema row e path 0 p.1 cs
can_record known schema row p e path cs valid taken under is fast start = record {
  under_way = under;
  field = field_of schema (apart_from schema valid.0 valid.1) p.0 e is fast;
  known_is = known_at known schema valid.2 p.0 e is;
  takes = own_array e p.1 fast (takes_at schema p e taken is);
  keys = [];
  place = record { path_is = start; level_is = inl (refl, refl); plain = λ plain. refl };
}

pub recorded_pair : (analyzer : Analyzer) (schema : Schema) (row : ℕ) (p : ℕ × Tree) (e : FieldEntry)
    (path new_path : JsonPath)
    (old new : List ColumnRecord) (result : Result (Unit {0}) ColumnError) → slice_get schema p.0 ≡ Some e
    → e.fast ≡ true
    → path ≡ path_at e []
    → (IsPlaceOf e [] 0 path → OnOk result ((new_path ≡ path)
    × (new ≡ with_values row (flat_map (entry_leaf analyzer e) (leaves_at [] 0 p.1)) old)))
    → OnOk result (new ≡ with_values row (pair_values analyzer p.1 (slice_get schema p.0)) old)
recorded_pair analyzer schema row p e path new_path old new result is fast start told =
    by result (told (record { path_is = start; level_is = inl (refl, refl); plain = λ plain. refl }))
  where
    all : pair_values analyzer p.1 (slice_get schema p.0) ≡ flat_map (entry_leaf analyzer e) (leaves_at [] 0 p.1)
    all = ap (pair_values analyzer p.1) is ∙ ap (λ (b : Bool). cond b (flat_map (entry_leaf analyzer e)
        (leaves_at [] 0 p.1)) []) fast

    by : (result : Result (Unit {0}) ColumnError) → OnOk result ((new_path ≡ path)
        × (new ≡ with_values row (flat_map (entry_leaf analyzer e) (leaves_at [] 0 p.1)) old))
        → OnOk result (new ≡ with_values row (pair_values analyzer p.1 (slice_get schema p.0)) old)
    by (Ok tt) made = made.1 ∙ ap (λ (vs : List FastValue). with_values row vs old) (sym all)
    by (Err x) made = tt

pub slow_pair : (analyzer : Analyzer) (schema : Schema) (row : ℕ) (p : ℕ × Tree) (e : FieldEntry)
    (cs : List ColumnRecord)
    → slice_get schema p.0 ≡ Some e → e.fast ≡ false
    → cs ≡ with_values row (pair_values analyzer p.1 (slice_get schema p.0)) cs
slow_pair analyzer schema row p e cs is slow =
    sym (ap (λ (vs : List FastValue). with_values row vs cs)
    (ap (pair_values analyzer p.1) is ∙ ap (λ (b : Bool). cond b (flat_map (entry_leaf analyzer e)
    (leaves_at [] 0 p.1)) []) slow))

-- ---- documents

rows_more : (row : ℕ) (ds : List (List FastValue)) (d : List FastValue) (cs : List ColumnRecord)
    → with_rows row (ds ++ d ∷ []) cs ≡ with_values (row + length ds) d (with_rows row ds cs)
rows_more row [] d cs = let z : row ≡ row + 0 = omega arith in ap (λ (n : ℕ). with_values n d cs) z
rows_more row (x ∷ xs) d cs =
    let z : row + 1 + length xs ≡ row + suc (length xs) = omega arith in
    rows_more (row + 1) xs d (with_values row x cs)
    ∙ ap (λ (n : ℕ). with_values n d (with_rows (row + 1) xs (with_values row x cs))) z

arranged_more : (analyzer : Analyzer) (schema : Schema) (document : Document) (rs ds : List (List FastValue))
    → is_schema schema ≡ true → names_fit schema ≡ true → document_refusal schema analyzer document ≡ None
    → AreArranged (first_columns schema) rs ds
    → AreArranged (first_columns schema) (rs ++ recorded_values schema analyzer document ∷ [])
    (ds ++ fast_values schema analyzer document ∷ [])
arranged_more analyzer schema document [] [] valid fit accepted arranges = (
  document_arranged analyzer schema document (apart_from schema valid fit)
      (texts_taken schema document (all_taken schema analyzer document accepted) analyzer),
  tt,
)
arranged_more analyzer schema document [] (d ∷ ds) valid fit accepted arranges = absurd arranges
arranged_more analyzer schema document (r ∷ rs) [] valid fit accepted arranges = absurd arranges
arranged_more analyzer schema document (r ∷ rs) (d ∷ ds) valid fit accepted arranges =
    (arranges.0, arranged_more analyzer schema document rs ds valid fit accepted arranges.1)

pub holds_more : (analyzer : Analyzer) (document : Document) (old new : FastWriting) → is_schema old.schema ≡ true
    → names_fit old.schema ≡ true → document_refusal old.schema analyzer document ≡ None → new.schema ≡ old.schema
    → new.rows ≡ old.rows + 1
    → new.columns ≡ with_values old.rows (recorded_values old.schema analyzer document) old.columns
    → (documents : List (List FastValue)) → Holds documents old
    → Holds (documents ++ fast_values old.schema analyzer document ∷ []) new
holds_more analyzer document old new valid fit accepted same rows made documents holds =
    let d : List FastValue = recorded_values old.schema analyzer document in
    let first : List ColumnRecord = first_columns old.schema in
    let count : old.rows ≡ 0 + length holds.raws =
    omega (arith, holds.rows_are, same_length first holds.raws documents holds.arranged) in
    record {
      raws = holds.raws ++ d ∷ [];
      columns_are = made ∙ (λ j. with_values (count j) d (holds.columns_are j)) ∙ sym (rows_more 0 holds.raws d first)
          ∙ ap (λ (s : Schema). with_rows 0 (holds.raws ++ d ∷ []) (first_columns s)) (sym same);
      rows_are = omega (
        arith,
        rows,
        holds.rows_are,
        length-append documents
            (fast_values old.schema analyzer document ∷ []),
      );
      arranged = subst (λ (s : Schema). AreArranged (first_columns s) (holds.raws ++ d ∷ [])
          (documents ++ fast_values old.schema analyzer document ∷ [])) (sym same)
          (arranged_more analyzer old.schema document holds.raws documents valid fit accepted holds.arranged);
    }

pub under_way_more : (schema : Schema) (row : ℕ) (cs : List ColumnRecord) → AreUnderWay schema row cs
    → AreUnderWay schema (row + 1) cs
under_way_more schema row cs under = record {
  below = later (declared_by schema) row (row + 1) (omega arith) cs under.below;
  there = under.there;
}

-- ---- the file

first_declared : (schema : Schema) → declared_in (first_columns schema) ≡ declared_columns schema
first_declared [] = refl
first_declared (x ∷ xs) = by x.fast (declared_type x.kind) (first_declared xs)
  where
    by : (b : Bool) (o : Option ColumnType) → declared_in (first_columns xs) ≡ declared_columns xs
        → declared_in (cond b (column_with x o) [] ++ first_columns xs)
        ≡ cond b (column_named x.name o) [] ++ declared_columns xs
    by false o rest = rest
    by true None rest = rest
    by true (Some t) rest = ap (λ l. record { path = x.name; type = t } ∷ l) rest

pub same_columns : (w : FastWriting) (documents : List (List FastValue)) → Holds documents w
    → recorded_columns w.rows w.columns ≡ columns_of (declared_columns w.schema) documents
same_columns w documents holds =
    (λ j. recorded_columns (holds.rows_are j) (holds.columns_are j))
    ∙ columns_of_documents (first_columns w.schema) (empty_at_first w.schema) holds.raws documents holds.arranged
    ∙ ap (λ ds. columns_of ds documents) (first_declared w.schema)

pub rows_within : (schema : Schema) (rows : ℕ) (cs : List ColumnRecord) → AreUnderWay schema rows cs
    → AllByRecursion (λ c. IsWithin rows c.recording) cs
rows_within schema rows cs under = all_within (declared_by schema) rows cs under.below

pub told_error : (o : Option Columns) (e : ColumnError) → e ≡ recorded.refusal_of o → error_of e ≡ refusal_of o
told_error None e is = ap error_of is
told_error (Some columns) e is = ap error_of is

-- ---- the calls of the writer, from its parts

module _ (view given : FastWriting) (is : view ≡ given) where
  pub document_taken : (analyzer : Analyzer) (fields : Schema) (document pairs : Document) → fields ≡ view.schema
      → pairs ≡ document → document_refusal given.schema analyzer document ≡ None
      → AllByRecursion (IsTaken fields) pairs
  document_taken analyzer fields document pairs same_fields same_pairs accepted =
      subst (λ (X : Type 0). X)
      (sym (λ j. AllByRecursion (IsTaken ((same_fields ∙ ap (λ (w : FastWriting). w.schema) is) j)) (same_pairs j)))
      (all_taken given.schema analyzer document accepted)

  pub document_added : (analyzer : Analyzer) (fields : Schema) (document pairs : Document) (new : FastWriting)
      → fields ≡ view.schema → pairs ≡ document → is_schema view.schema ≡ true → names_fit view.schema ≡ true
      → document_refusal given.schema analyzer document ≡ None → new.schema ≡ view.schema → new.rows ≡ view.rows + 1
      → new.columns ≡ with_values view.rows (recorded_values fields analyzer pairs) view.columns
      → (documents : List (List FastValue)) → Holds documents given
      → Holds (documents ++ fast_values given.schema analyzer document ∷ []) new
  document_added analyzer fields document pairs new same_fields same_pairs valid fit accepted schema rows made =
      subst (λ (w : FastWriting). (documents : List (List FastValue)) → Holds documents w
      → Holds (documents ++ fast_values w.schema analyzer document ∷ []) new) is
      (holds_more analyzer document view new valid fit
      (subst (λ (w : FastWriting). document_refusal w.schema analyzer document ≡ None) (sym is) accepted) schema rows
      (made ∙ (λ j. with_values view.rows (recorded_values (same_fields j) analyzer (same_pairs j)) view.columns)))

  pub told_columns : (o : Option Columns) → recorded_columns view.rows view.columns ≡ o
      → (documents : List (List FastValue)) → Holds documents given
      → columns_of (declared_columns given.schema) documents ≡ o
  told_columns o told documents holds =
      sym (same_columns given documents holds) ∙ sym (ap (λ
      (w : FastWriting). recorded_columns w.rows w.columns) is) ∙ told

-- a document is added as its pairs are
pub pairs_added : (analyzer : Analyzer) (document pairs : Document) (old new : FastWriting)
    (result : Result (Unit {0}) TantivyError) → pairs ≡ document
    → OnOk result ((documents : List (List FastValue)) → Holds documents old
    → Holds (documents ++ fast_values old.schema analyzer pairs ∷ []) new)
    → OnOk result ((documents : List (List FastValue)) → Holds documents old
    → Holds (documents ++ fast_values old.schema analyzer document ∷ []) new)
pairs_added analyzer document pairs old new result same =
    subst (λ (d : Document). OnOk result ((documents : List (List FastValue)) → Holds documents old
    → Holds (documents ++ fast_values old.schema analyzer d ∷ []) new)) same

pub started : (schema shared fields : Schema) (cs : List ColumnRecord) → is_schema schema ≡ true
    → names_fit schema ≡ true
    → shared ≡ schema → fields ≡ schema → cs ≡ first_columns fields
    → (names_fit shared ≡ true) × AreUnderWay shared 0 cs
started schema shared fields cs valid fit same_shared same_fields made =
    subst (λ (X : Type 0). X)
    (sym (λ j. (names_fit (same_shared j) ≡ true)
    × AreUnderWay (same_shared j) 0 ((made ∙ ap first_columns same_fields) j)))
    (fit, under_way_at_first schema (apart_from schema valid fit))
