-- Fields whose columns were found.
use Rattle.std.proofs.Common.{◌≡◌, ℕ, zero, suc, ◌<◌, Bool, true, false, ◌||◌, List, [], ◌∷◌, length, drop, get_or, set, Some, refl, sym, ap, ◌∙◌, arith}
use Rattle.std.specs.Prelude.{◌&&◌, not, nat_eq}
use Rattle.std.specs.List.{list_all, slice_get}
use Rattle.std.proofs.lemmas.Bool.{false≢true, true≢false}
use Rattle.std.proofs.lemmas.Bool.Decides.{nat_tests}
use Rattle.std.proofs.lemmas.Grind.{get_or-set_at}
use Rattle.std.proofs.lemmas.List.{get_or-set_other, length-set}
use Rattle.std.proofs.lemmas.Map.Keys.{any_passes_from_place}
use Rattle.std.proofs.lemmas.Option.{none-some, same_Some}
use Rattle.seg_common.specs.declared.column_type.ColumnType.{ColumnType}
use Rattle.seg_columns.specs.DynamicColumns.{type_of}
use Rattle.seg_column_file.specs.ColumnFiles.{NamedColumn}
use Rattle.seg_values.specs.declared.schema.FieldEntry.{FieldEntry}
use Rattle.seg_model.specs.Fields.{Schema}
use Rattle.seg_column_format.specs.SchemaColumns.{AreMarkedToo, DeclaresAlone, all_marked, declares, has_column, has_declared, is_declared_by, is_free, is_suited, suits}

-- ---- at the end

pub marked_are : (g : FieldEntry → Bool) (es : List FieldEntry) (marks : List Bool) → length marks ≡ length es
    → ((i : ℕ) (e : FieldEntry) → slice_get es i ≡ Some e → get_or marks i false ≡ g e)
    → all_marked es marks ≡ list_all (λ e. not (has_declared e) || g e) es
marked_are g [] marks long at = refl
marked_are g (e ∷ es) [] long at = absurd (omega (arith, long))
marked_are g (e ∷ es) (m ∷ marks) long at =
    (λ j. ((not (has_declared e) || at 0 e refl j)
    && marked_are g es marks (omega (arith, long)) (λ i x found. at (suc i) x found) j))

-- ---- one field after another

pub marked_from : (es : List FieldEntry) (marks : List Bool) (i : ℕ) (e : FieldEntry) → slice_get es i ≡ Some e
    → length marks ≡ length es
    → all_marked (drop i es) (drop i marks)
    ≡ ((not (has_declared e) || get_or marks i false) && all_marked (drop (suc i) es) (drop (suc i) marks))
marked_from [] marks i e at long = absurd (none-some e at)
marked_from (x ∷ es) [] i e at long = absurd (omega (arith, long))
marked_from (x ∷ es) (m ∷ marks) zero e at long =
    ap (λ (y : FieldEntry). (not (has_declared y) || m) && all_marked es marks) (same_Some x e at)
marked_from (x ∷ es) (m ∷ marks) (suc i) e at long = marked_from es marks i e at (omega (arith, long))

-- ---- one column

within : (es : List FieldEntry) (i : ℕ) → i < length es → (e : FieldEntry) × (slice_get es i ≡ Some e)
within [] i lt = absurd (omega (arith, lt))
within (e ∷ es) zero lt = (e, refl)
within (e ∷ es) (suc i) lt = within es i (omega (arith, lt))

-- a column that some field declares is suited
pub declared_suits : (schema : Schema) (c : NamedColumn) (field : ℕ) → DeclaresAlone schema c.path (type_of (c.stored).column) field
    → is_suited schema c ≡ true
declared_suits schema c field only =
    let e = within schema field only.there in
    ap (λ b. b || is_free schema c) (any_passes_from_place (declares c.path (type_of (c.stored).column)) schema field e.0 e.1
    (only.alone field e.0 e.1 ∙ grind (arith, nat_tests)))

-- so is one that is free
pub free_suits : (schema : Schema) (c : NamedColumn) → is_free schema c ≡ true → is_suited schema c ≡ true
free_suits schema c free = second (is_declared_by schema c.path (type_of (c.stored).column)) _ free
  where
    second : (a b : Bool) → b ≡ true → (a || b) ≡ true
    second true b h = refl
    second false b h = h

pub neither_suits : (schema : Schema) (c : NamedColumn) → is_declared_by schema c.path (type_of (c.stored).column) ≡ false
    → is_free schema c ≡ false → is_suited schema c ≡ false
neither_suits schema c declared free = (λ j. declared j || free j)

-- a mark is set where a column is found
pub with_mark : (old new mark column rest : Bool) → new ≡ (column || old) → (new || rest) ≡ (old || (column || rest))
with_mark true new mark true rest e = ap (λ b. b || rest) e
with_mark true new mark false rest e = ap (λ b. b || rest) e
with_mark false new mark true rest e = ap (λ b. b || rest) e
with_mark false new mark false rest e = ap (λ b. b || rest) e

-- no field declares it
pub declared_nowhere : (schema : Schema) (path : List ℕ) (type : ColumnType) → is_declared_by schema path type ≡ false
    → (i : ℕ) (e : FieldEntry) → slice_get schema i ≡ Some e → declares path type e ≡ false
declared_nowhere schema path type none i e at = by (declares path type e) refl
  where
    by : (b : Bool) → declares path type e ≡ b → declares path type e ≡ false
    by false off = off
    by true on = absurd (true≢false (sym (any_passes_from_place (declares path type) schema i e at on) ∙ none))

-- ---- marks

set_mark : (xs : List Bool) (field i : ℕ) → field < length xs → get_or (set xs field true) i false ≡ (nat_eq i field || get_or xs i false)
set_mark xs field i lt = by (nat_eq i field) refl
  where
    by : (b : Bool) → nat_eq i field ≡ b → get_or (set xs field true) i false ≡ (b || get_or xs i false)
    by true on = get_or-set_at xs field i true false (grind (arith, nat_tests, on)) lt
    by false off = get_or-set_other xs field i true false (λ same. false≢true (sym off ∙ grind (arith, nat_tests, same)))

pub marked_alone : (schema : Schema) (path : List ℕ) (type : ColumnType) (field : ℕ) → DeclaresAlone schema path type field
    → (xs : List Bool) → length xs ≡ length schema → AreMarkedToo schema path type xs (set xs field true)
marked_alone schema path type field only xs long = record {
  as_many = length-set xs field true;
  marks = λ i e at.
      let there = only.there in
      set_mark xs field i (omega (arith, there, long)) ∙ ap (λ b. b || get_or xs i false) (sym (only.alone i e at));
}

pub as_before : (schema : Schema) (path : List ℕ) (type : ColumnType) → is_declared_by schema path type ≡ false
    → (xs : List Bool) → AreMarkedToo schema path type xs xs
as_before schema path type none xs = record {
  as_many = refl;
  marks = λ i e at. ap (λ b. b || get_or xs i false) (sym (declared_nowhere schema path type none i e at));
}

-- ---- columns that are left

pub fewer_left : (schema : Schema) (c : NamedColumn) (old new : List Bool) (left : List NamedColumn)
    → AreMarkedToo schema c.path (type_of (c.stored).column) old new → (i : ℕ) (e : FieldEntry) → slice_get schema i ≡ Some e
    → (get_or new i false || has_column left e) ≡ (get_or old i false || has_column (c ∷ left) e)
fewer_left schema c old new left too i e at =
    with_mark (get_or old i false) (get_or new i false) (get_or new i false) (declares c.path (type_of (c.stored).column) e) (has_column left e)
    (too.marks i e at)

pub left_suits : (schema : Schema) (c : NamedColumn) (old new : List NamedColumn) → old ≡ c ∷ new → is_suited schema c ≡ true
    → list_all (is_suited schema) new ≡ list_all (is_suited schema) old
left_suits schema c old new is suited =
    ap (λ b. b && list_all (is_suited schema) new) (sym suited) ∙ ap (list_all (is_suited schema)) (sym is)

pub left_fails : (schema : Schema) (c : NamedColumn) (old new : List NamedColumn) → old ≡ c ∷ new → is_suited schema c ≡ false
    → list_all (is_suited schema) old ≡ false
left_fails schema c old new is fails =
    ap (list_all (is_suited schema)) is ∙ ap (λ b. b && list_all (is_suited schema) new) fails

-- nothing is left
pub all_found : (schema : Schema) (columns : List NamedColumn) (marks : List Bool) → length marks ≡ length schema
    → true ≡ list_all (is_suited schema) columns
    → ((i : ℕ) (e : FieldEntry) → slice_get schema i ≡ Some e → (get_or marks i false || false) ≡ has_column columns e)
    → all_marked schema marks ≡ suits schema columns
all_found schema columns marks long suited at =
    marked_are (has_column columns) schema marks long (λ i e found. sym (or_false (get_or marks i false)) ∙ at i e found)
    ∙ ap (λ b. b && list_all (λ e. not (has_declared e) || has_column columns e) schema) suited
  where
    or_false : (b : Bool) → (b || false) ≡ b
    or_false true = refl
    or_false false = refl

-- a column that doesn't suit
pub one_fails : (schema : Schema) (columns : List NamedColumn) → list_all (is_suited schema) columns ≡ false → suits schema columns ≡ false
one_fails schema columns fails = ap (λ b. b && list_all (λ e. not (has_declared e) || has_column columns e) schema) fails
