-- The merged columns of files are the joined columns of their segments.
use Rattle.std.proofs.Common.{◌≡◌, Bool, true, false, ◌||◌, List, [], ◌∷◌, ◌++◌, map, refl, sym, ap, ◌∙◌}
use Rattle.std.specs.Prelude.{is_some}
use Rattle.std.specs.FinMap.{contains_key-keys, get, keys}
use Rattle.std.specs.List.{flat_map, list_any}
use Rattle.std.specs.Ordering.{eq_by_cmp, is_eq}
use Rattle.std.proofs.lemmas.Bool.{false≢true, true≢false, or_right, or_parts}
use Rattle.std.proofs.lemmas.List.Folds.{list_any-append}
use Rattle.seg_common.specs.TabulatedMaps.{is_among}
use Rattle.seg_column_file.specs.ColumnFiles.{ColumnFile}
use Rattle.seg_column_merge.specs.MergedColumns.{merged_columns, rows_at}
use Rattle.seg_column_format.specs.ModelColumns.{column_key}
use Rattle.seg_model.proofs.Exports.{IsNothingElse, column_cmp_total, covers, is_filled-parts, same_columns}
use Rattle.seg_model.specs.Columns.{ColumnKey, Columns, column_cmp, declared_columns, is_filled}
use Rattle.seg_model.specs.Fields.{Schema}
use Rattle.seg_model.specs.Join.{Part, joined_columns, joined_keys, live_of, part_rows}
use Rattle.seg_column_format.proofs.Exports.{is_there, same_column, ties}
use Rattle.seg_column_merge.specs.LiveColumns.{HasColumnsOf, HaveColumnsOf, live_rows}
use Rattle.seg_column_merge.proofs.LiveRows.{live_rows_are}

-- ---- keys among keys

split_among : (q : ColumnKey) (ks ms : List ColumnKey) → is_among column_cmp (ks ++ ms) q ≡ (is_among column_cmp ks q || is_among column_cmp ms q)
split_among q ks ms = list_any-append (eq_by_cmp column_cmp q) ks ms

record Giver {X : Type 0} (g : X → List ColumnKey) (key : X → ColumnKey) (q : ColumnKey) (xs : List X) : Type 0 where
  item : X
  there : is_among column_cmp (map key xs) (key item) ≡ true
  gives : is_among column_cmp (g item) q ≡ true

-- what gives a key
giver : {X : Type 0} (g : X → List ColumnKey) (key : X → ColumnKey) (q : ColumnKey) (xs : List X)
    → is_among column_cmp (flat_map g xs) q ≡ true → Giver g key q xs
giver g key q [] h = absurd (false≢true h)
giver g key q (x ∷ xs) h = by (is_among column_cmp (g x) q) refl (sym (split_among q (g x) (flat_map g xs)) ∙ h) (giver g key q xs)
  where
    by : (b : Bool) → is_among column_cmp (g x) q ≡ b → (b || is_among column_cmp (flat_map g xs) q) ≡ true
        → (is_among column_cmp (flat_map g xs) q ≡ true → Giver g key q xs) → Giver g key q (x ∷ xs)
    by true e h rest = record {
      item = x;
      there = ap (λ b. b || is_among column_cmp (map key xs) (key x)) (ap is_eq (ties column_cmp_total (key x)));
      gives = e;
    }
    by false e h rest = let r = rest h in record {
      item = r.item;
      there = or_right (eq_by_cmp column_cmp (key r.item) (key x)) _ r.there;
      gives = r.gives;
    }

-- what is there gives its keys
given : {X : Type 0} (g : ColumnKey → List ColumnKey) (key : X → ColumnKey) (q k : ColumnKey) (xs : List X)
    → is_among column_cmp (map key xs) k ≡ true → is_among column_cmp (g k) q ≡ true
    → is_among column_cmp (flat_map (λ x. g (key x)) xs) q ≡ true
given g key q k [] among has = absurd (false≢true among)
given g key q k (x ∷ xs) among has =
    split_among q (g (key x)) (flat_map (λ x. g (key x)) xs)
    ∙ by (eq_by_cmp column_cmp k (key x)) refl among (given g key q k xs)
  where
    by : (b : Bool) → eq_by_cmp column_cmp k (key x) ≡ b → (b || is_among column_cmp (map key xs) k) ≡ true
        → (is_among column_cmp (map key xs) k ≡ true → is_among column_cmp (g k) q ≡ true
        → is_among column_cmp (flat_map (λ x. g (key x)) xs) q ≡ true)
        → (is_among column_cmp (g (key x)) q || is_among column_cmp (flat_map (λ x. g (key x)) xs) q) ≡ true
    by true e h rest = ap (λ b. b || is_among column_cmp (flat_map (λ x. g (key x)) xs) q)
        (ap (λ y. is_among column_cmp (g y) q) (sym (same_column k (key x) e)) ∙ has)
    by false e h rest = or_right (is_among column_cmp (g (key x)) q) _ (rest h has)

-- ---- where a part and a file have nothing

map_itself : (ks : List ColumnKey) → map (λ (k : ColumnKey). k) ks ≡ ks
map_itself [] = refl
map_itself (k ∷ ks) = ap (λ l. k ∷ l) (map_itself ks)

abbrev part_keys : Part → List ColumnKey
part_keys p = flat_map joined_keys (keys p.contents.columns)

abbrev file_keys : ColumnFile → List ColumnKey
file_keys f = flat_map (λ c. joined_keys (column_key c)) f.columns

fewer_keys : (schema : Schema) (f : ColumnFile) (p : Part) → HasColumnsOf schema f p → (q : ColumnKey)
    → is_among column_cmp (file_keys f) q ≡ false → is_among column_cmp (part_keys p) q ≡ false
fewer_keys schema f p has q none = by (is_among column_cmp (part_keys p) q) refl
  where
    by : (b : Bool) → is_among column_cmp (part_keys p) q ≡ b → is_among column_cmp (part_keys p) q ≡ false
    by false e = e
    by true e =
        let k = giver joined_keys (λ (y : ColumnKey). y) q (keys p.contents.columns) e in
        let among = ap (λ ks. is_among column_cmp ks k.item) (sym (map_itself (keys p.contents.columns))) ∙ k.there in
        let there = sym (is_there f.columns k.item) ∙ (ap (λ (m : Columns). is_some (get m k.item)) (sym has.columns)
        ∙ (contains_key-keys p.contents.columns k.item ∙ among)) in
        absurd (true≢false (sym (given joined_keys column_key q k.item f.columns there k.gives) ∙ none))

all_fewer : (schema : Schema) (files : List ColumnFile) (parts : List Part) → HaveColumnsOf schema files parts → (q : ColumnKey)
    → is_among column_cmp (flat_map file_keys files) q ≡ false → is_among column_cmp (flat_map part_keys parts) q ≡ false
all_fewer schema [] [] have q none = refl
all_fewer schema [] (p ∷ parts) have q none = absurd have
all_fewer schema (f ∷ files) [] have q none = absurd have
all_fewer schema (f ∷ files) (p ∷ parts) have q none =
    let two = or_parts (is_among column_cmp (file_keys f) q) _ (sym (split_among q (file_keys f) (flat_map file_keys files)) ∙ none) in
    split_among q (part_keys p) (flat_map part_keys parts)
    ∙ (λ j. fewer_keys schema f p have.0 q two.0 j || all_fewer schema files parts have.1 q two.1 j)

-- ---- the whole

pub columns_join : (schema : Schema) (files : List ColumnFile) (parts : List Part) → HaveColumnsOf schema files parts
    → merged_columns (declared_columns schema) files (live_rows 0 parts) ≡ joined_columns schema parts
columns_join schema files parts have =
    same_columns (declared_columns schema) (rows_at files (live_rows 0 parts)) (λ key. live_of (part_rows key) parts)
    (declared_columns schema ++ flat_map file_keys files) (declared_columns schema ++ flat_map part_keys parts)
    (covers (declared_columns schema) (rows_at files (live_rows 0 parts)) (flat_map file_keys files)
    (λ q none. ap (list_any is_filled) (same q) ∙ nothing_in_parts q (all_fewer schema files parts have q none)))
    (covers (declared_columns schema) (λ key. live_of (part_rows key) parts) (flat_map part_keys parts) nothing_in_parts) same
  where
    same : (q : ColumnKey) → rows_at files (live_rows 0 parts) q ≡ live_of (part_rows q) parts
    same q = live_rows_are schema files q files parts have refl

    nothing_in_parts : IsNothingElse (λ key. live_of (part_rows key) parts) (flat_map part_keys parts)
    nothing_in_parts q none = is_filled-parts q parts none
