-- What is declared, column by column.
use Rattle.std.proofs.Common.{◌≡◌, ℕ, Bool, true, false, cond, ◌||◌, List, [], ◌∷◌, Option, Some, None, refl, sym, ◌∙◌}
use Rattle.std.specs.Prelude.{◌&&◌, nat_eq}
use Rattle.std.specs.Cmp.Lexicographic.{slice_cmp}
use Rattle.std.specs.List.{list_any}
use Rattle.std.specs.Ordering.{eq_by_cmp, nat_cmp}
use Rattle.std.specs.Str.{bytes_eq}
use Rattle.std.proofs.lemmas.List.Folds.{list_any-append}
use Rattle.std.proofs.lemmas.Map.Text.{is_eq-slice_cmp}
use Rattle.seg_common.proofs.Bytes.{bytes_eq-sym}
use Rattle.seg_common.specs.declared.column_type.ColumnType.{ColumnType}
use Rattle.seg_common.proofs.Numbers.{is_eq-then, is_eq-nat_cmp}
use Rattle.seg_model.specs.Columns.{ColumnKey, column_cmp, column_named, declared_columns, declared_type, is_declared, type_place}
use Rattle.seg_model.specs.Fields.{Schema}
use Rattle.seg_column_format.specs.SchemaColumns.{is_declared_by, is_type}

-- ---- one key

pub key_is : (q k : ColumnKey)
    → eq_by_cmp column_cmp q k ≡ (bytes_eq k.path q.path && nat_eq (type_place q.type) (type_place k.type))
key_is q k =
    is_eq-then (slice_cmp nat_cmp q.path k.path) (type_place q.type) (type_place k.type)
    ∙ (λ j. (is_eq-slice_cmp q.path k.path ∙ bytes_eq-sym q.path k.path) j && is_eq-nat_cmp (type_place q.type) (type_place k.type) j)

-- ---- all

any_of : (fast : Bool) (t : Option ColumnType) (name : List ℕ) (q : ColumnKey)
    → list_any (eq_by_cmp column_cmp q) (cond fast (column_named name t) [])
    ≡ (bytes_eq name q.path && (fast && is_type q.type t))
any_of false t name q = sym (none (bytes_eq name q.path))
  where
    none : (b : Bool) → (b && false) ≡ false
    none true = refl
    none false = refl
any_of true None name q = sym (none (bytes_eq name q.path))
  where
    none : (b : Bool) → (b && false) ≡ false
    none true = refl
    none false = refl
any_of true (Some t) name q = or_false _ ∙ key_is q (record { path = name; type = t })
  where
    or_false : (b : Bool) → (b || false) ≡ b
    or_false true = refl
    or_false false = refl

pub declared_is : (schema : Schema) (q : ColumnKey)
    → is_declared (declared_columns schema) q ≡ is_declared_by schema q.path q.type
declared_is [] q = refl
declared_is (e ∷ es) q =
    list_any-append (eq_by_cmp column_cmp q) (cond e.fast (column_named e.name (declared_type e.kind)) []) (declared_columns es)
    ∙ (λ j. any_of e.fast (declared_type e.kind) e.name q j || declared_is es q j)
