-- What may be recorded in a column may be added to its parts.
use Rattle.std.proofs.Common.{◌≡◌, ℕ, zero, suc, ◌+◌, ◌<◌, ◌≤◌, Bool, true, false, cond, List, [], ◌∷◌, ◌++◌, Some, sym, refl, ap, subst, ◌∙◌, arith}
use Rattle.std.specs.Prelude.{◌||◌, All, not, nat_eq, ℤ, FitsSigned}
use Rattle.std.specs.Int.{w64}
use Rattle.std.specs.List.{list_any}
use Rattle.std.specs.Str.{bytes_eq}
use Rattle.std.proofs.lemmas.Bool.{and_parts}
use Rattle.std.proofs.lemmas.Bool.Decides.{Decides-eqb}
use Rattle.seg_common.specs.declared.column_type.ColumnType.{ColumnType}
use Rattle.seg_common.specs.MappableValues.{bit, is_one, lowered, raised}
use Rattle.seg_common.specs.MappableLaws.{lowered-raised}
use Rattle.seg_model.specs.Columns.{ColumnValue, boolean_value, date_value}
use Rattle.seg_column_writer.specs.ValueKinds.{kind_of, kind_place}
use Rattle.seg_column_writer.specs.NamedColumns.{without_value}
use Rattle.seg_column_writer.specs.ColumnRecords.{Accepts, ColumnRecord, HasReached, Recording, RowedValue, changed_at, is_named, place_of, with_column, with_value}
use Rattle.seg_column_writer.specs.RowValues.{term_value, value_of}
use Rattle.seg_column_writer.specs.SoundColumns.{Fits, IsTermOf}
use Rattle.seg_column_writer.specs.RecordingRules.{At, CanDeclare, CanPush, CanPushTerm, CanTake, IfNamed, MayDeclare, MayRecord, pushed, pushed_term}
use Rattle.seg_column_writer.specs.declared.row_value.RowValue.{RowValue}
use Rattle.seg_column_writer.specs.declared.value_kind.ValueKind.{ValueKind}
use Rattle.seg_column_writer.specs.declared.value_kind.ValueKind.TheVariants.{Bool as Boolean, DateTime}
use Rattle.seg_column_writer.proofs.RecordedKeys.{same_kind}

pub at_more : (P Q : Recording → Type 0) → ((r : Recording) → P r → Q r) → (i : ℕ) (cs : List ColumnRecord)
    → At P i cs → At Q i cs
at_more P Q more i [] there = there
at_more P Q more zero (c ∷ cs) there = more c.recording there
at_more P Q more (suc i) (c ∷ cs) there = at_more P Q more i cs there

same_change : (P : Recording → Type 0) (f g : Recording → Recording) → ((r : Recording) → P r → f r ≡ g r)
    → (i : ℕ) (cs : List ColumnRecord) → At P i cs → changed_at f i cs ≡ changed_at g i cs
same_change P f g same i [] there = refl
same_change P f g same zero (c ∷ cs) there =
    ap (λ (r : Recording). record { path = c.path; recording = r } ∷ cs) (same c.recording there)
same_change P f g same (suc i) (c ∷ cs) there =
    ap (λ (l : List ColumnRecord). c ∷ l) (same_change P f g same i cs there)

-- ---- a value that isn't kept by its term

module _ (kind : ValueKind) (row : ℕ) (value : ColumnValue) (v : RowValue) (of_row : v.row ≡ row) (fits : Fits kind 0 v)
    (is : value_of kind [] v ≡ value) where
  pushes : (r : Recording) → CanTake kind row value r → CanPush v r
  pushes r can = record {
    reached = subst (λ (n : ℕ). HasReached n r) (sym of_row) can.reached;
    fits = subst (λ (k : ValueKind). Fits k 0 v) (sym can.kind_is) fits;
    accepts = subst (Accepts r.declared) (sym is ∙ ap (λ (k : ValueKind). value_of k [] v) (sym can.kind_is)) can.accepts;
  }

  pub may_push : (i : ℕ) (cs : List ColumnRecord) → At (CanTake kind row value) i cs → At (CanPush v) i cs
  may_push = at_more (CanTake kind row value) (CanPush v) pushes

  pub push_adds : (i : ℕ) (cs : List ColumnRecord) → At (CanTake kind row value) i cs
      → changed_at (pushed v) i cs ≡ changed_at (with_value row value) i cs
  push_adds = same_change (CanTake kind row value) (pushed v) (with_value row value) (λ r can j.
      with_value (of_row j) ((ap (λ (k : ValueKind). value_of k [] v) can.kind_is ∙ is) j) r)

-- a value without a sign
module _ (v : RowValue) (row n : ℕ)
    (is : ◌≡◌ {A = RowValue} v (record { row = row; negative = false; number = n })) where
  pub row_is : v.row ≡ row
  row_is = ap (λ (w : RowValue). w.row) is

  pub truth_fits : (b : Bool) → n ≡ bit b → Fits Boolean 0 v
  truth_fits b number = subst (λ (m : ℕ). m < 2) (sym (ap (λ (w : RowValue). w.number) is ∙ number)) (below b)
    where
      below : (b : Bool) → bit b < 2
      below true = omega arith
      below false = omega arith

  pub truth_is : (b : Bool) → n ≡ bit b → value_of Boolean [] v ≡ boolean_value b
  truth_is b number = ap (λ (m : ℕ). boolean_value (is_one m)) (ap (λ (w : RowValue). w.number) is ∙ number)
      ∙ ap boolean_value (again b)
    where
      again : (b : Bool) → is_one (bit b) ≡ b
      again true = refl
      again false = refl

  pub moment_is : (z : ℤ) → n ≡ raised z → FitsSigned w64 z → value_of DateTime [] v ≡ date_value z
  moment_is z number fits = ap (λ (m : ℕ). date_value (lowered m)) (ap (λ (w : RowValue). w.number) is ∙ number)
      ∙ ap date_value (lowered-raised z fits)

-- ---- a value by its term

module _ (kind : ValueKind) (row : ℕ) (value : ColumnValue) (term : List ℕ) (term_is : IsTermOf kind term)
    (is : term_value kind term ≡ value) where
  pub may_push_term : (i : ℕ) (cs : List ColumnRecord) → At (CanTake kind row value) i cs → At (CanPushTerm row term) i cs
  may_push_term = at_more (CanTake kind row value) (CanPushTerm row term) (λ r can. record {
    reached = can.reached;
    is = subst (λ (k : ValueKind). IsTermOf k term) (sym can.kind_is) term_is;
  })

  pub push_term_adds : (i : ℕ) (cs : List ColumnRecord) → At (CanTake kind row value) i cs
      → changed_at (pushed_term row term) i cs ≡ changed_at (with_value row value) i cs
  push_term_adds = same_change (CanTake kind row value) (pushed_term row term) (with_value row value) (λ r can j.
      with_value row ((ap (λ (k : ValueKind). term_value k term) can.kind_is ∙ is) j) r)

-- ---- by name

pub kind_named : (path : List ℕ) (kind : ValueKind) (c : ColumnRecord) → is_named path kind c ≡ true → c.recording.kind ≡ kind
kind_named path kind c e =
    let both = and_parts (nat_eq (kind_place kind) (kind_place c.recording.kind)) (bytes_eq path c.path) e in
    sym (same_kind kind c.recording.kind ((Decides-eqb (kind_place kind) (kind_place c.recording.kind)).0 both.0))

module _ (path : List ℕ) (kind : ValueKind) (P Q : Recording → Type 0)
    (more : (r : Recording) → r.kind ≡ kind → P r → Q r) (new : Q (without_value kind)) where
  abbrev test : ColumnRecord → Bool
  test = is_named path kind

  -- among the columns that there are
  found : (cs : List ColumnRecord) → IfNamed path kind P cs → list_any test cs ≡ true → At Q (place_of cs path kind) cs
  found [] each any = absurd cc
  found (c ∷ cs) each any = by (test c) refl any each.0 (found cs each.1)
    where
      by : (b : Bool) → test c ≡ b → (b || list_any test cs) ≡ true → (test c ≡ true → P c.recording)
          → (list_any test cs ≡ true → At Q (place_of cs path kind) cs)
          → At Q (cond (not b) (1 + place_of cs path kind) 0) (c ∷ cs)
      by true is any here rest = more c.recording (kind_named path kind c is) (here is)
      by false is any here rest =
          let s : suc (place_of cs path kind) ≡ 1 + place_of cs path kind = omega arith in
          subst (λ (i : ℕ). At Q i (c ∷ cs)) s (rest any)

  -- after them
  following : (cs : List ColumnRecord) → list_any test cs ≡ false
      → At Q (place_of cs path kind) (cs ++ record { path = path; recording = without_value kind } ∷ [])
  following [] none = new
  following (c ∷ cs) none = by (test c) none (following cs)
    where
      by : (b : Bool) → (b || list_any test cs) ≡ false
          → (list_any test cs ≡ false
          → At Q (place_of cs path kind) (cs ++ record { path = path; recording = without_value kind } ∷ []))
          → At Q (cond (not b) (1 + place_of cs path kind) 0)
          (c ∷ (cs ++ record { path = path; recording = without_value kind } ∷ []))
      by true none rest = absurd cc
      by false none rest =
          let s : suc (place_of cs path kind) ≡ 1 + place_of cs path kind = omega arith in
          subst (λ (i : ℕ). At Q i (c ∷ (cs ++ record { path = path; recording = without_value kind } ∷ []))) s (rest none)

  pub at_named : (cs : List ColumnRecord) → IfNamed path kind P cs
      → At Q (place_of cs path kind) (with_column cs path kind)
  at_named cs each = by (list_any test cs) refl
    where
      by : (b : Bool) → list_any test cs ≡ b
          → At Q (place_of cs path kind) (cond b cs (cs ++ record { path = path; recording = without_value kind } ∷ []))
      by true e = found cs each e
      by false e = following cs e

none_reached : (P : RowedValue → Type 0) → All P []
none_reached P k d lt = absurd (omega (arith, lt))

-- what may be recorded under a name its column can take
pub takes_named : (path : List ℕ) (kind : ValueKind) (row : ℕ) (value : ColumnValue) (cs : List ColumnRecord)
    → MayRecord path kind row value cs → At (CanTake kind row value) (place_of cs path kind) (with_column cs path kind)
takes_named path kind row value cs may =
    at_named path kind (λ r. HasReached row r × Accepts r.declared value) (CanTake kind row value)
    (λ r is can. record { kind_is = is; reached = can.0; accepts = can.1 })
    (record { kind_is = refl; reached = none_reached (λ v. v.row ≤ row); accepts = tt })
    cs may

pub declares_named : (path : List ℕ) (type : ColumnType) (cs : List ColumnRecord) → MayDeclare path type cs
    → At (CanDeclare type) (place_of cs path (kind_of type)) (with_column cs path (kind_of type))
declares_named path type cs may =
    at_named path (kind_of type) (λ r. All (λ v. Accepts (Some type) v.value) r.values) (CanDeclare type)
    (λ r is can. record { kind = is; accepts = can })
    (record { kind = refl; accepts = none_reached (λ v. Accepts (Some type) v.value) })
    cs may
