-- Columns by their names, with one more or one changed.
use Rattle.std.proofs.Common.{◌≡◌, ℕ, zero, suc, ◌+◌, ◌-◌, ◌*◌, ◌^◌, ◌<◌, min, Bool, true, false, cond, List, [], ◌∷◌, ◌++◌, length, set, sym, refl, ap, subst, ◌∙◌, arith}
use Rattle.std.specs.Prelude.{◌||◌, ◌&&◌, not, nat_eq, IsUtf8}
use Rattle.std.specs.List.{list_any, position_or_len}
use Rattle.std.specs.Str.{bytes_eq}
use Rattle.std.proofs.lemmas.List.Sums.{position_or_len_is}
use Rattle.seg_column_writer.specs.ValueKinds.{kind_place}
use Rattle.seg_column_writer.specs.NamedColumns.{AreNamed, IsChanged, IsPlaced, IsSound, PathKind, column_in, name_eq, named, records_in, usage_of, without_value}
use Rattle.seg_column_writer.specs.ColumnRecords.{ColumnRecord, Recording, changed_at, is_named, place_of, value_count, with_column}
use Rattle.seg_column_writer.specs.RecordingRules.{At}
use Rattle.seg_column_writer.specs.declared.known_columns.KnownColumns.{KnownColumns}
use Rattle.seg_column_writer.specs.declared.value_kind.ValueKind.{ValueKind}
use Rattle.seg_column_format.proofs.TermNumbers.{fails_at}

module _ (path : List ℕ) (kind : ValueKind) where
  abbrev name : PathKind
  name = record { head = kind_place kind; bytes = path }

  one_named : (n : PathKind) (r : Recording) → n.head ≡ kind_place r.kind
      → name_eq name n ≡ is_named path kind (record { path = n.bytes; recording = r })
  one_named n r e = ap (λ (m : ℕ). nat_eq (kind_place kind) m && bytes_eq path n.bytes) e

  pub any_named : (names : List PathKind) (rs : List Recording) → AreNamed names rs
      → list_any (name_eq name) names ≡ list_any (is_named path kind) (named names rs)
  any_named [] [] are = refl
  any_named [] (r ∷ rs) are = absurd are
  any_named (n ∷ names) [] are = absurd are
  any_named (n ∷ names) (r ∷ rs) are = λ j. one_named n r are.0.kind j || any_named names rs are.1 j

  pub same_place : (names : List PathKind) (rs : List Recording) → AreNamed names rs
      → position_or_len (name_eq name) names ≡ place_of (named names rs) path kind
  same_place [] [] are = refl
  same_place [] (r ∷ rs) are = absurd are
  same_place (n ∷ names) [] are = absurd are
  same_place (n ∷ names) (r ∷ rs) are = λ j.
      cond (not (one_named n r are.0.kind j)) (1 + same_place names rs are.1 j) 0

  still_named : IsUtf8 path → (names : List PathKind) (rs : List Recording) → AreNamed names rs
      → AreNamed (names ++ name ∷ []) (rs ++ without_value kind ∷ [])
  still_named utf8 [] [] are = (record { kind = refl; utf8 = utf8 }, tt)
  still_named utf8 [] (r ∷ rs) are = absurd are
  still_named utf8 (n ∷ names) [] are = absurd are
  still_named utf8 (n ∷ names) (r ∷ rs) are = (are.0, still_named utf8 names rs are.1)

  one_more : (names : List PathKind) (rs : List Recording) → AreNamed names rs
      → named (names ++ name ∷ []) (rs ++ without_value kind ∷ [])
      ≡ named names rs ++ record { path = path; recording = without_value kind } ∷ []
  one_more [] [] are = refl
  one_more [] (r ∷ rs) are = absurd are
  one_more (n ∷ names) [] are = absurd are
  one_more (n ∷ names) (r ∷ rs) are =
      ap (λ (l : List ColumnRecord). record { path = n.bytes; recording = r } ∷ l) (one_more names rs are.1)

  module _ (old new : KnownColumns) (are : AreNamed old.names.keys old.columns.items) (is : IsPlaced name kind old new) where
    pub placed_named : IsUtf8 path → AreNamed new.names.keys new.columns.items
    placed_named utf8 = subst (λ (X : Type 0). X) (sym (λ j. AreNamed (is.names j) (is.columns j)))
        (by (list_any (name_eq name) old.names.keys))
      where
        by : (b : Bool) → AreNamed (cond b old.names.keys (old.names.keys ++ name ∷ []))
            (cond b old.columns.items (old.columns.items ++ without_value kind ∷ []))
        by true = are
        by false = still_named utf8 old.names.keys old.columns.items are

    pub placed_seen : records_in new ≡ with_column (records_in old) path kind
    placed_seen =
        (λ j. named (is.names j) (is.columns j)) ∙ by (list_any (name_eq name) old.names.keys)
        ∙ ap (λ (b : Bool). cond b (records_in old)
        (records_in old ++ record { path = path; recording = without_value kind } ∷ []))
        (any_named old.names.keys old.columns.items are)
      where
        by : (b : Bool) → named (cond b old.names.keys (old.names.keys ++ name ∷ []))
            (cond b old.columns.items (old.columns.items ++ without_value kind ∷ []))
            ≡ cond b (records_in old) (records_in old ++ record { path = path; recording = without_value kind } ∷ [])
        by true = refl
        by false = one_more old.names.keys old.columns.items are

-- a name that is none of those so far
pub place-new : (name : PathKind) (names : List PathKind) → list_any (name_eq name) names ≡ false
    → position_or_len (name_eq name) names ≡ length names
place-new name names none = position_or_len_is (name_eq name) names (length names) name (omega arith)
    (λ k lt. fails_at (name_eq name) names k name none lt) (λ lt. absurd (omega (arith, lt)))

-- ---- a column is changed in its place

-- what holds of the column at a place
pub at_place : (P : Recording → Type 0) (names : List PathKind) (rs : List Recording) (i : ℕ)
    → AreNamed names rs → At P i (named names rs) → (i < length rs) × P (column_in rs i)
at_place P [] rs i are there = absurd there
at_place P (n ∷ names) [] i are there = absurd there
at_place P (n ∷ names) (r ∷ rs) zero are there = (omega arith, there)
at_place P (n ∷ names) (r ∷ rs) (suc i) are there =
    let rest = at_place P names rs i are.1 there in
    (omega (arith, rest.0), rest.1)

pub at_known : (P : Recording → Type 0) (known : KnownColumns) (cs : List ColumnRecord) (i : ℕ) → IsSound known
    → records_in known ≡ cs → At P i cs → (i < length known.columns.items) × P (column_in known.columns.items i)
at_known P known cs i sound view there =
    at_place P known.names.keys known.columns.items i sound (subst (At P i) (sym view) there)

module _ (change : Recording → Recording) (same : (r : Recording) → (change r).kind ≡ r.kind) where
  still_names : (names : List PathKind) (rs : List Recording) (i : ℕ) → AreNamed names rs → i < length rs
      → AreNamed names (set rs i (change (column_in rs i)))
  still_names [] [] i are lt = absurd (omega (arith, lt))
  still_names [] (x ∷ rs) i are lt = absurd are
  still_names (n ∷ names) [] i are lt = absurd are
  still_names (n ∷ names) (x ∷ rs) zero are lt =
      (record { kind = are.0.kind ∙ ap kind_place (sym (same x)); utf8 = are.0.utf8 }, are.1)
  still_names (n ∷ names) (x ∷ rs) (suc i) are lt = (are.0, still_names names rs i are.1 (omega (arith, lt)))

  seen_changed : (names : List PathKind) (rs : List Recording) (i : ℕ) → AreNamed names rs → i < length rs
      → named names (set rs i (change (column_in rs i))) ≡ changed_at change i (named names rs)
  seen_changed [] [] i are lt = absurd (omega (arith, lt))
  seen_changed [] (x ∷ rs) i are lt = absurd are
  seen_changed (n ∷ names) [] i are lt = absurd are
  seen_changed (n ∷ names) (x ∷ rs) zero are lt = refl
  seen_changed (n ∷ names) (x ∷ rs) (suc i) are lt =
      ap (λ (l : List ColumnRecord). record { path = n.bytes; recording = x } ∷ l)
      (seen_changed names rs i are.1 (omega (arith, lt)))

  module _ (i : ℕ) (old new : KnownColumns) (are : AreNamed old.names.keys old.columns.items)
      (lt : i < length old.columns.items) (is : IsChanged change i old new) where
    pub changed_named : AreNamed new.names.keys new.columns.items
    changed_named = subst (λ (X : Type 0). X) (sym (λ j. AreNamed (is.names j) (is.columns j)))
        (still_names old.names.keys old.columns.items i are lt)

    pub changed_seen : records_in new ≡ changed_at change i (records_in old)
    changed_seen =
        (λ j. named (is.names j) (is.columns j)) ∙ seen_changed old.names.keys old.columns.items i are lt

-- ---- how many values there are

count_placed : (cs : List ColumnRecord) (path : List ℕ) (kind : ValueKind)
    → value_count (with_column cs path kind) ≡ value_count cs
count_placed cs path kind = by (list_any (is_named path kind) cs)
  where
    more : (ds : List ColumnRecord)
        → value_count (ds ++ record { path = path; recording = without_value kind } ∷ []) ≡ value_count ds
    more [] = refl
    more (d ∷ ds) = ap (λ (n : ℕ). length d.recording.values + n) (more ds)

    by : (b : Bool) → value_count (cond b cs (cs ++ record { path = path; recording = without_value kind } ∷ []))
        ≡ value_count cs
    by true = refl
    by false = more cs

-- a change adds this many values to a column
count_changed : (P : Recording → Type 0) (change : Recording → Recording) (more : ℕ)
    → ((r : Recording) → length (change r).values ≡ length r.values + more)
    → (i : ℕ) (cs : List ColumnRecord) → At P i cs → value_count (changed_at change i cs) ≡ value_count cs + more
count_changed P change more adds i [] there = absurd there
count_changed P change more adds zero (c ∷ cs) there = omega (arith, adds c.recording)
count_changed P change more adds (suc i) (c ∷ cs) there =
    omega (arith, count_changed P change more adds i cs there)

-- each value takes 16 bytes
usage_more : (more usage sum : ℕ) (cs ds : List ColumnRecord) → usage ≡ usage_of cs
    → value_count ds ≡ value_count cs + more → sum ≡ min (usage + 16 * more) (2 ^ 64 - 1) → sum ≡ usage_of ds
usage_more more usage sum cs ds is counts plus = omega (arith, is, counts, plus)

-- ---- a writer's parts

-- the counter stands for the values
abbrev pub IsCounted : KnownColumns → ℕ → Type 0
IsCounted known usage = IsSound known × (usage ≡ usage_of (records_in known))

-- a column of a name, without a value where it is new
pub placed_counted : (path : List ℕ) (kind : ValueKind) (old new : KnownColumns) (usage : ℕ) → IsCounted old usage
    → IsPlaced (record { head = kind_place kind; bytes = path }) kind old new → IsUtf8 path → IsCounted new usage
placed_counted path kind old new usage is placed utf8 = (
  placed_named path kind old new is.0 placed utf8,
  is.1 ∙ ap (λ (n : ℕ). min (2 ^ 64 - 1) (16 * n))
      (sym (ap value_count (placed_seen path kind old new is.0 placed) ∙ count_placed (records_in old) path kind)),
)

pub placed_now : (path : List ℕ) (kind : ValueKind) (old new : KnownColumns) (cs : List ColumnRecord) → IsSound old
    → records_in old ≡ cs → IsPlaced (record { head = kind_place kind; bytes = path }) kind old new
    → records_in new ≡ with_column cs path kind
placed_now path kind old new cs sound view placed =
    placed_seen path kind old new sound placed ∙ ap (λ (ds : List ColumnRecord). with_column ds path kind) view

pub place_now : (path : List ℕ) (kind : ValueKind) (old : KnownColumns) (cs : List ColumnRecord) (place : ℕ)
    → IsSound old → records_in old ≡ cs
    → place ≡ position_or_len (name_eq (record { head = kind_place kind; bytes = path })) old.names.keys
    → place ≡ place_of cs path kind
place_now path kind old cs place sound view is =
    is ∙ same_place path kind old.names.keys old.columns.items sound
    ∙ ap (λ (ds : List ColumnRecord). place_of ds path kind) view

module _ (P : Recording → Type 0) (change : Recording → Recording) (same : (r : Recording) → (change r).kind ≡ r.kind)
    (i : ℕ) (old new : KnownColumns) (cs : List ColumnRecord) (sound : IsSound old) (view : records_in old ≡ cs)
    (there : At P i cs) (is : IsChanged change i old new) where
  pub changed_now : records_in new ≡ changed_at change i cs
  changed_now =
      changed_seen change same i old new sound (at_known P old cs i sound view there).0 is
      ∙ ap (changed_at change i) view

  pub changed_counted : (more usage sum : ℕ) → ((r : Recording) → length (change r).values ≡ length r.values + more)
      → usage ≡ usage_of (records_in old) → sum ≡ min (usage + 16 * more) (2 ^ 64 - 1) → IsCounted new sum
  changed_counted more usage sum adds counts plus = (
    changed_named change same i old new sound (at_known P old cs i sound view there).0 is,
    usage_more more usage sum (records_in old) (records_in new) counts
        (ap value_count changed_now ∙ count_changed P change more adds i cs there
        ∙ ap (λ (ds : List ColumnRecord). value_count ds + more) (sym view)) plus,
  )

  pub changed_still : (usage : ℕ) → ((r : Recording) → length (change r).values ≡ length r.values + 0)
      → usage ≡ usage_of (records_in old) → IsCounted new usage
  changed_still usage adds counts = changed_counted 0 usage usage adds counts (omega (arith, counts))
