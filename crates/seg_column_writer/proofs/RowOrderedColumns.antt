-- What is owed of columns whose values come row by row.
use Rattle.std.proofs.Common.{◌≡◌, ℕ, zero, suc, ◌+◌, ◌<◌, ◌≤◌, Bool, true, false, cond, List, [], ◌∷◌, ◌++◌, All, Option, None, inl, inr, refl, sym, subst, ap, ◌∙◌, arith}
use Rattle.std.specs.Prelude.{◌⊎◌, ◌&&◌, ◌||◌, not, nat_eq}
use Rattle.std.specs.List.{AllByRecursion, list_any, position_or_len}
use Rattle.std.specs.Str.{bytes_eq}
use Rattle.std.specs.Cmp.Lexicographic.{bytes_decides}
use Rattle.std.proofs.lemmas.Bool.{and_parts, false≢true, or_left, or_parts}
use Rattle.std.proofs.lemmas.Bool.Decides.{Decides-eqb}
use Rattle.std.proofs.lemmas.List.Elements.{All-append}
use Rattle.std.proofs.lemmas.List.Folds.{list_any-append}
use Rattle.seg_common.specs.declared.column_type.ColumnType.{ColumnType}
use Rattle.seg_model.specs.Columns.{ColumnValue}
use Rattle.seg_column_writer.specs.ValueKinds.{kind_of, kind_place}
use Rattle.seg_column_writer.specs.NamedColumns.{without_value}
use Rattle.seg_column_writer.specs.ColumnRecords.{Accepts, ColumnRecord, HasReached, Recording, RowedValue, changed_at, is_named, place_of, with_column, with_value}
use Rattle.seg_column_writer.specs.RowOrderedColumns.{AreBelow, AreThere, Declared, IsBelow, has_column}
use Rattle.seg_column_writer.specs.RecordingRules.{At, CanTake, IfNamed, MayRecord, with_change, with_recorded}
use Rattle.seg_column_writer.specs.TypedColumns.{IsWithin}
use Rattle.seg_column_writer.specs.declared.value_kind.ValueKind.{ValueKind}
use Rattle.seg_column_writer.proofs.RecordingRules.{takes_named, kind_named}

-- ---- the name of a column

pub named_path : (path : List ℕ) (kind : ValueKind) (c : ColumnRecord) → is_named path kind c ≡ true → c.path ≡ path
named_path path kind c e =
    sym ((bytes_decides path c.path).0 (and_parts (nat_eq (kind_place kind) (kind_place c.recording.kind)) (bytes_eq path c.path) e).1)

pub named_itself : (path : List ℕ) (kind : ValueKind)
    → is_named path kind (record { path = path; recording = without_value kind }) ≡ true
named_itself path kind = λ j. (Decides-eqb (kind_place kind) (kind_place kind)).1 refl j && (bytes_decides path path).1 refl j

abbrev pub new_column : List ℕ → ValueKind → ColumnRecord
new_column path kind = record { path = path; recording = without_value kind }

-- ---- the place of a column

module _ (path : List ℕ) (kind : ValueKind) where
  abbrev test : ColumnRecord → Bool
  test = is_named path kind

  place_before : (cs ds : List ColumnRecord) → list_any test cs ≡ true
      → position_or_len test (cs ++ ds) ≡ position_or_len test cs
  place_before [] ds any = absurd cc
  place_before (c ∷ cs) ds any = by (test c) any (place_before cs ds)
    where
      by : (b : Bool) → (b || list_any test cs) ≡ true
          → (list_any test cs ≡ true → position_or_len test (cs ++ ds) ≡ position_or_len test cs)
          → cond (not b) (1 + position_or_len test (cs ++ ds)) 0 ≡ cond (not b) (1 + position_or_len test cs) 0
      by true any rest = refl
      by false any rest = ap (λ (n : ℕ). 1 + n) (rest any)

  pub place_after : (x : ColumnRecord) → test x ≡ true → (cs : List ColumnRecord)
      → position_or_len test (cs ++ x ∷ []) ≡ position_or_len test cs
  place_after x is [] = ap (λ (b : Bool). cond (not b) 1 0) is
  place_after x is (c ∷ cs) = ap (λ (n : ℕ). cond (not (test c)) (1 + n) 0) (place_after x is cs)

  module _ (row : ℕ) (value : ColumnValue) where
    any_changed : (i : ℕ) (cs : List ColumnRecord)
        → list_any test (changed_at (with_value row value) i cs) ≡ list_any test cs
    any_changed i [] = refl
    any_changed zero (c ∷ cs) = refl
    any_changed (suc i) (c ∷ cs) = ap (λ (b : Bool). test c || b) (any_changed i cs)

    place_changed : (i : ℕ) (cs : List ColumnRecord)
        → position_or_len test (changed_at (with_value row value) i cs) ≡ position_or_len test cs
    place_changed i [] = refl
    place_changed zero (c ∷ cs) = refl
    place_changed (suc i) (c ∷ cs) = ap (λ (n : ℕ). cond (not (test c)) (1 + n) 0) (place_changed i cs)

  pub any_with : (cs : List ColumnRecord) → list_any test (with_column cs path kind) ≡ true
  any_with cs = by (list_any test cs) refl
    where
      by : (b : Bool) → list_any test cs ≡ b → list_any test (cond b cs (cs ++ new_column path kind ∷ [])) ≡ true
      by true e = e
      by false e = list_any-append test cs (new_column path kind ∷ []) ∙ (λ j. e j || (named_itself path kind j || false))

  pub place_with : (cs : List ColumnRecord) → place_of (with_column cs path kind) path kind ≡ place_of cs path kind
  place_with cs = by (list_any test cs)
    where
      by : (b : Bool) → position_or_len test (cond b cs (cs ++ new_column path kind ∷ [])) ≡ position_or_len test cs
      by true = refl
      by false = place_after (new_column path kind) (named_itself path kind) cs

  pub there_already : (cs : List ColumnRecord) → has_column path kind cs ≡ true → with_column cs path kind ≡ cs
  there_already cs e = ap (λ (b : Bool). cond b cs (cs ++ new_column path kind ∷ [])) e

-- ---- columns stay

pub there_still : (cs : List ColumnRecord) → AreThere cs cs
there_still cs path kind there = (there, refl)

pub there_then : (xs ys zs : List ColumnRecord) → AreThere xs ys → AreThere ys zs → AreThere xs zs
there_then xs ys zs first second path kind there =
    let a = first path kind there in
    let b = second path kind a.0 in
    (b.0, b.1 ∙ a.1)

pub there_with : (path : List ℕ) (kind : ValueKind) (cs : List ColumnRecord) → AreThere cs (with_column cs path kind)
there_with path kind cs at_path at_kind there = by (list_any (is_named path kind) cs)
  where
    by : (b : Bool) → (has_column at_path at_kind (cond b cs (cs ++ new_column path kind ∷ [])) ≡ true)
        × (place_of (cond b cs (cs ++ new_column path kind ∷ [])) at_path at_kind ≡ place_of cs at_path at_kind)
    by true = (there, refl)
    by false = (
      list_any-append (is_named at_path at_kind) cs (new_column path kind ∷ [])
          ∙ or_left (list_any (is_named at_path at_kind) cs) (list_any (is_named at_path at_kind) (new_column path kind ∷ [])) there,
      place_before at_path at_kind cs (new_column path kind ∷ []) there,
    )

pub there_changed : (row : ℕ) (value : ColumnValue) (i : ℕ) (cs : List ColumnRecord)
    → AreThere cs (changed_at (with_value row value) i cs)
there_changed row value i cs path kind there =
    (any_changed path kind row value i cs ∙ there, place_changed path kind row value i cs)

pub there_recorded : (path : List ℕ) (kind : ValueKind) (row : ℕ) (value : ColumnValue) (cs : List ColumnRecord)
    → AreThere cs (with_recorded path kind row value cs)
there_recorded path kind row value cs =
    there_then cs (with_column cs path kind) (with_recorded path kind row value cs) (there_with path kind cs)
    (there_changed row value (place_of cs path kind) (with_column cs path kind))

-- ---- values of rows that don't fall

module _ (declared : Declared) where
  later_one : (few many : ℕ) → few ≤ many → (r : Recording) → IsWithin few r → IsWithin many r
  later_one few many le r within k d lt = let below = within k d lt in omega (arith, below, le)

  pub later : (few many : ℕ) → few ≤ many → (cs : List ColumnRecord) → AreBelow declared few cs → AreBelow declared many cs
  later few many le [] below = tt
  later few many le (c ∷ cs) below = (
    record { within = later_one few many le c.recording below.0.within; declared_is = below.0.declared_is },
    later few many le cs below.1,
  )

  pub all_within : (count : ℕ) (cs : List ColumnRecord) → AreBelow declared count cs
      → AllByRecursion (λ c. IsWithin count c.recording) cs
  all_within count [] below = tt
  all_within count (c ∷ cs) below = (below.0.within, all_within count cs below.1)

  module _ (path : List ℕ) (kind : ValueKind) (row : ℕ) (value : ColumnValue) where
    reached : (r : Recording) → IsWithin (row + 1) r → HasReached row r
    reached r within k d lt = let below = within k d lt in omega (arith, below)

    told : (c : ColumnRecord) → IsBelow declared (row + 1) c → is_named path kind c ≡ true
        → declared path kind ≡ c.recording.declared
    told c below is =
        sym (below.declared_is ∙ (λ j. declared (named_path path kind c is j) (kind_named path kind c is j)))

    -- a value that the declared type takes may be recorded in the last row
    pub may_record : Accepts (declared path kind) value → (cs : List ColumnRecord) → AreBelow declared (row + 1) cs
        → MayRecord path kind row value cs
    may_record takes [] below = tt
    may_record takes (c ∷ cs) below = (
      (λ is. (reached c.recording below.0.within, subst (λ (d : Option ColumnType). Accepts d value) (told c below.0 is) takes)),
      may_record takes cs below.1,
    )

    -- and so by the column's place
    pub can_take : Accepts (declared path kind) value → (cs : List ColumnRecord) → AreBelow declared (row + 1) cs
        → has_column path kind cs ≡ true → At (CanTake kind row value) (place_of cs path kind) cs
    can_take takes cs below there =
        subst (λ (l : List ColumnRecord). At (CanTake kind row value) (place_of cs path kind) l)
        (there_already path kind cs there) (takes_named path kind row value cs (may_record takes cs below))

    one : All (λ (v : RowedValue). v.row < row + 1) (record { row = row; value = value } ∷ [])
    one zero d lt = omega arith
    one (suc k) d lt = absurd (omega (arith, lt))

    pub changed : (place : ℕ) (cs : List ColumnRecord) → AreBelow declared (row + 1) cs
        → AreBelow declared (row + 1) (changed_at (with_value row value) place cs)
    changed place [] below = tt
    changed zero (c ∷ cs) below = (
      record {
        within = All-append (λ (v : RowedValue). v.row < row + 1) c.recording.values (record { row = row; value = value } ∷ [])
            below.0.within one;
        declared_is = below.0.declared_is;
      },
      below.1,
    )
    changed (suc place) (c ∷ cs) below = (below.0, changed place cs below.1)

    none : All (λ (v : RowedValue). v.row < row + 1) []
    none k d lt = absurd (omega (arith, lt))

    following : declared path kind ≡ None → (cs : List ColumnRecord) → AreBelow declared (row + 1) cs
        → AreBelow declared (row + 1) (cs ++ new_column path kind ∷ [])
    following free [] below = (record { within = none; declared_is = sym free }, tt)
    following free (c ∷ cs) below = (below.0, following free cs below.1)

    -- a column may come where none is declared
    pub below_with : (cs : List ColumnRecord) → (has_column path kind cs ≡ true) ⊎ (declared path kind ≡ None)
        → AreBelow declared (row + 1) cs → AreBelow declared (row + 1) (with_column cs path kind)
    below_with cs (inl there) below = subst (AreBelow declared (row + 1)) (sym (there_already path kind cs there)) below
    below_with cs (inr free) below = by (list_any (is_named path kind) cs)
      where
        by : (b : Bool) → AreBelow declared (row + 1) (cond b cs (cs ++ new_column path kind ∷ []))
        by true = below
        by false = following free cs below

    pub recorded : (cs : List ColumnRecord) → (has_column path kind cs ≡ true) ⊎ (declared path kind ≡ None)
        → AreBelow declared (row + 1) cs → AreBelow declared (row + 1) (with_recorded path kind row value cs)
    recorded cs may below = changed (place_of cs path kind) (with_column cs path kind) (below_with cs may below)

-- ---- a column that is declared under a new name

module _ (path : List ℕ) (kind : ValueKind) where
  pub may_change_new : (P : Recording → Type 0) (cs : List ColumnRecord) → has_column path kind cs ≡ false
      → IfNamed path kind P cs
  may_change_new P [] none = tt
  may_change_new P (c ∷ cs) none =
      let parts = or_parts (is_named path kind c) (list_any (is_named path kind) cs) none in
      ((λ is. absurd (false≢true (sym parts.0 ∙ is))), may_change_new P cs parts.1)

  changed_after : (change : Recording → Recording) (cs : List ColumnRecord) → has_column path kind cs ≡ false
      → changed_at change (place_of cs path kind) (cs ++ new_column path kind ∷ [])
      ≡ cs ++ record { path = path; recording = change (without_value kind) } ∷ []
  changed_after change [] none = refl
  changed_after change (c ∷ cs) none =
      let parts = or_parts (is_named path kind c) (list_any (is_named path kind) cs) none in
      let s : 1 + place_of cs path kind ≡ suc (place_of cs path kind) = omega arith in
      ap (λ (b : Bool). changed_at change (cond (not b) (1 + place_of cs path kind) 0) (c ∷ (cs ++ new_column path kind ∷ [])))
      parts.0
      ∙ ap (λ (i : ℕ). changed_at change i (c ∷ (cs ++ new_column path kind ∷ []))) s
      ∙ ap (λ (l : List ColumnRecord). c ∷ l) (changed_after change cs parts.1)

  -- it comes after all others
  pub with_change_new : (change : Recording → Recording) (cs : List ColumnRecord) → has_column path kind cs ≡ false
      → with_change path kind change cs ≡ cs ++ record { path = path; recording = change (without_value kind) } ∷ []
  with_change_new change cs none =
      ap (λ (b : Bool). changed_at change (place_of cs path kind) (cond b cs (cs ++ new_column path kind ∷ []))) none
      ∙ changed_after change cs none
