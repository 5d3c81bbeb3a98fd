-- What is known of columns by the numbers of paths.
use Rattle.std.proofs.Common.{◌≡◌, ℕ, ◌+◌, ◌<◌, ◌≤◌, ◌⊎◌, inl, inr, Bool, true, false, cond, List, [], ◌∷◌, ◌++◌, length, get_or, Option, None, Some, Result, Ok, Err, OnOk, OnErr, refl, sym, ap, subst, ◌∙◌, append_assoc, append-nil, arith}
use Rattle.std.specs.Prelude.{max, map, IfOk, ◌==◌}
use Rattle.std.specs.List.{join_with_byte}
use Rattle.std.proofs.lemmas.Bool.{cases_lt}
use Rattle.std.proofs.lemmas.Bool.Decides.{Decides-eqb}
use Rattle.std.proofs.lemmas.List.{get_or_append_left, get_or_past, length-append}
use Rattle.seg_columns.specs.declared.error.ColumnError.{ColumnError}
use Rattle.seg_common.specs.JsonPaths.{JsonPath, written_key}
use Rattle.seg_model.specs.Columns.{ColumnValue}
use Rattle.seg_column_writer.specs.ColumnRecords.{ColumnRecord, changed_at, place_of, with_column, with_value}
use Rattle.seg_column_writer.specs.RowOrderedColumns.{AreThere}
use Rattle.seg_column_writer.specs.RecordingRules.{AreKeptBut, At, CanTake, MayRecord, with_recorded}
use Rattle.seg_column_writer.specs.declared.value_kind.ValueKind.{ValueKind}
use Rattle.seg_column_writer.specs.declared.value_kind.ValueKind.TheVariants.{Number, Bytes, Str, Bool as Boolean, IpAddr, DateTime}
use Rattle.seg_column_writer.specs.declared.writer.ColumnId.{ColumnId}
use Rattle.seg_column_writer.proofs.Exports.{takes_named, there_already, there_recorded, there_with, any_with, place_with}
use Rattle.seg_paths.specs.Paths.{Extends, IsAbove, below}
use Rattle.seg_values.specs.declared.schema.FieldEntry.{FieldEntry}
use Rattle.seg_fastfield.specs.FastLeaves.{path_at}
use Rattle.seg_fastfield.specs.FieldColumns.{IsColumnOf}
use Rattle.seg_fastfield.specs.PathNumbers.{AreColumnsOf, AreNumbersKept, HasPathsMore, IsKnownAt, IsKnownStill, IsNumberOf, id_of, unknown, with_id}
use Rattle.seg_fastfield.specs.declared.kind_columns.KindColumns.{KindColumns}
use Rattle.seg_fastfield.specs.declared.path_columns.PathColumns.{PathColumns}
use Rattle.seg_fastfield.proofs.ColumnIds.{column_still}

-- ---- by the kind of values

none_of : (path : List ℕ) (kind : ValueKind) (cs : List ColumnRecord) → IsColumnOf (id_of unknown kind) path kind cs
none_of path Number cs = tt
none_of path Bytes cs = tt
none_of path Str cs = tt
none_of path Boolean cs = tt
none_of path IpAddr cs = tt
none_of path DateTime cs = tt

module _ (ks : KindColumns) (id : ColumnId) (path : List ℕ) (cs : List ColumnRecord) where
  kept_with : (kind other : ValueKind) → IsColumnOf (Some id) path kind cs → IsColumnOf (id_of ks other) path other cs
      → IsColumnOf (id_of (with_id ks kind id) other) path other cs
  kept_with Number Number is was = is
  kept_with Number Bytes is was = was
  kept_with Number Str is was = was
  kept_with Number Boolean is was = was
  kept_with Number IpAddr is was = was
  kept_with Number DateTime is was = was
  kept_with Bytes Number is was = was
  kept_with Bytes Bytes is was = is
  kept_with Bytes Str is was = was
  kept_with Bytes Boolean is was = was
  kept_with Bytes IpAddr is was = was
  kept_with Bytes DateTime is was = was
  kept_with Str Number is was = was
  kept_with Str Bytes is was = was
  kept_with Str Str is was = is
  kept_with Str Boolean is was = was
  kept_with Str IpAddr is was = was
  kept_with Str DateTime is was = was
  kept_with Boolean Number is was = was
  kept_with Boolean Bytes is was = was
  kept_with Boolean Str is was = was
  kept_with Boolean Boolean is was = is
  kept_with Boolean IpAddr is was = was
  kept_with Boolean DateTime is was = was
  kept_with IpAddr Number is was = was
  kept_with IpAddr Bytes is was = was
  kept_with IpAddr Str is was = was
  kept_with IpAddr Boolean is was = was
  kept_with IpAddr IpAddr is was = is
  kept_with IpAddr DateTime is was = was
  kept_with DateTime Number is was = was
  kept_with DateTime Bytes is was = was
  kept_with DateTime Str is was = was
  kept_with DateTime Boolean is was = was
  kept_with DateTime IpAddr is was = was
  kept_with DateTime DateTime is was = is

-- ---- by the number of a path

pub none_known : (known : PathColumns) → known.columns.items ≡ [] → (cs : List ColumnRecord) → AreColumnsOf known cs
none_known known none cs = record {
  within = omega (arith, empty);
  each = λ number kind. subst (λ (ids : List KindColumns). IsColumnOf (id_of (get_or ids number unknown) kind)
      (get_or known.paths number []) kind cs) (sym none) (none_of (get_or known.paths number []) kind cs);
}
  where
    empty : length known.columns.items ≡ 0
    empty = ap length none

pub known_still : (known : PathColumns) (old new : List ColumnRecord) → AreThere old new → AreColumnsOf known old
    → AreColumnsOf known new
known_still known old new there all = record {
  within = all.within;
  each = λ number kind. column_still (id_of (get_or known.columns.items number unknown) kind)
      (get_or known.paths number []) kind old new there (all.each number kind);
}

numbers_still : (old new : List (List ℕ)) → Extends old new → AreNumbersKept old new
numbers_still old new more None path is = tt
numbers_still old new more (Some n) path is =
    let many : length new ≡ length old + length more.0 = ap length more.1 ∙ length-append old more.0 in
    let lt : n < length old = is.0 in (
      omega (arith, lt, many),
      ap (λ (ps : List (List ℕ)). get_or ps n []) more.1 ∙ get_or_append_left old more.0 [] n lt ∙ is.1,
    )

module _ (old new : PathColumns) (more : Extends old.paths new.paths)
    (same : new.columns.items ≡ old.columns.items) where
  many : length new.paths ≡ length old.paths + length more.0
  many = ap length more.1 ∙ length-append old.paths more.0

  still : (cs : List ColumnRecord) → AreColumnsOf old cs → AreColumnsOf new cs
  still cs all = record {
    within = omega (arith, all.within, many, ids);
    each = λ number kind. by number kind (cases_lt number (length old.paths));
  }
    where
      ids : length new.columns.items ≡ length old.columns.items
      ids = ap length same

      by : (number : ℕ) (kind : ValueKind) → (number < length old.paths) ⊎ (length old.paths ≤ number)
          → IsColumnOf (id_of (get_or new.columns.items number unknown) kind) (get_or new.paths number []) kind cs
      by number kind (inl lt) =
          let path : get_or new.paths number [] ≡ get_or old.paths number [] =
          ap (λ (ps : List (List ℕ)). get_or ps number []) more.1
          ∙ get_or_append_left old.paths more.0 [] number lt in
          subst (λ (X : Type 0). X)
          (sym (λ j. IsColumnOf (id_of (get_or (same j) number unknown) kind) (path j) kind cs)) (all.each number kind)
      by number kind (inr past) =
          let none : get_or new.columns.items number unknown ≡ unknown =
          get_or_past new.columns.items number unknown (omega (arith, all.within, ids, past)) in
          subst (λ (ks : KindColumns). IsColumnOf (id_of ks kind) (get_or new.paths number []) kind cs) (sym none)
          (none_of (get_or new.paths number []) kind cs)

  pub paths_more : HasPathsMore old new
  paths_more = record { numbers = numbers_still old.paths new.paths more; known = still }

pub no_more : (known : PathColumns) → HasPathsMore known known
no_more known = paths_more known known ([], sym (append-nil known.paths)) refl

-- the column of the path with a number
pub held_at : (known : PathColumns) (number : ℕ) (place : Option ℕ) (kind : ValueKind) (ks : KindColumns)
    (held : Option ColumnId) → place ≡ Some number → ks ≡ get_or known.columns.items number unknown
    → held ≡ id_of ks kind → (path : List ℕ) (cs : List ColumnRecord) → IsKnownAt known place path cs
    → IsColumnOf held path kind cs
held_at known number place kind ks held numbered at read path cs is =
    let here : IsNumberOf known.paths (Some number) path =
    subst (λ (o : Option ℕ). IsNumberOf known.paths o path) numbered is.1 in
    subst (λ (o : Option ColumnId). IsColumnOf o path kind cs) (sym (read ∙ ap (λ (k : KindColumns). id_of k kind) at))
    (subst (λ (p : List ℕ). IsColumnOf (id_of (get_or known.columns.items number unknown) kind) p kind cs) here.1
    (is.0.each number kind))

-- as the call tells it, by the values that it was given
pub set_told : (old new : List KindColumns) (number : ℕ) (kind : ValueKind) (id : ColumnId)
    (blank at value : KindColumns)
    → blank ≡ unknown → at ≡ get_or old number unknown → value ≡ with_id at kind id
    → ((k : ℕ) → get_or new k blank ≡ cond (k == number) value (get_or old k blank))
    → (k : ℕ) → get_or new k unknown
    ≡ cond (k == number) (with_id (get_or old number unknown) kind id) (get_or old k unknown)
set_told old new number kind id blank at value none found made set k =
    let all : value ≡ with_id (get_or old number unknown) kind id =
    made ∙ ap (λ (ks : KindColumns). with_id ks kind id) found in
    subst (λ (X : Type 0). X)
    (λ j. get_or new k (none j) ≡ cond (k == number) (all j) (get_or old k (none j))) (set k)

module _ (old new : PathColumns) (number : ℕ) (kind : ValueKind) (id : ColumnId) (paths : new.paths ≡ old.paths)
    (set : (k : ℕ) → get_or new.columns.items k unknown
    ≡ cond (k == number) (with_id (get_or old.columns.items number unknown) kind id)
    (get_or old.columns.items k unknown))
    (long : length new.columns.items ≡ max (length old.columns.items) (number + 1)) where
  known_with : (cs : List ColumnRecord) → AreColumnsOf old cs → number < length old.paths
      → IsColumnOf (Some id) (get_or old.paths number []) kind cs → AreColumnsOf new cs
  known_with cs all lt is = record {
    within = omega (arith, all.within, lt, long, many);
    each = λ k other. subst (λ (ps : List (List ℕ)). IsColumnOf (id_of (get_or new.columns.items k unknown) other)
        (get_or ps k []) other cs) (sym paths)
        (subst (λ (ks : KindColumns). IsColumnOf (id_of ks other) (get_or old.paths k []) other cs) (sym (set k))
        (by k other (k == number) refl));
  }
    where
      many : length new.paths ≡ length old.paths
      many = ap length paths

      by : (k : ℕ) (other : ValueKind) (b : Bool) → (k == number) ≡ b
          → IsColumnOf (id_of (cond b (with_id (get_or old.columns.items number unknown) kind id)
          (get_or old.columns.items k unknown)) other) (get_or old.paths k []) other cs
      by k other false apart = all.each k other
      by k other true same =
          subst (λ (m : ℕ). IsColumnOf (id_of (with_id (get_or old.columns.items number unknown) kind id) other)
          (get_or old.paths m []) other cs) (sym ((Decides-eqb k number).0 same))
          (kept_with (get_or old.columns.items number unknown) id (get_or old.paths number []) cs kind other is
          (all.each number other))

  pub held_with : (place : Option ℕ) → place ≡ Some number → (path : List ℕ) (cs : List ColumnRecord)
      → IsKnownAt old place path cs → IsColumnOf (Some id) path kind cs → AreColumnsOf new cs
  held_with place numbered path cs is own =
      let here : IsNumberOf old.paths (Some number) path =
      subst (λ (o : Option ℕ). IsNumberOf old.paths o path) numbered is.1 in
      known_with cs is.0 here.0 (subst (λ (p : List ℕ). IsColumnOf (Some id) p kind cs) (sym here.1) own)

-- ---- the number of a key

pub can_be_above : (paths : List (List ℕ)) (number : Option ℕ) (path : List ℕ) → IsNumberOf paths number path
    → IsAbove paths number
can_be_above paths None path is = tt
can_be_above paths (Some n) path is = is.0

pub below_numbered : (old new : List (List ℕ)) (above : Option ℕ) (n : ℕ) (bytes path : List ℕ)
    (result : Result (Option ℕ) ColumnError) → above ≡ Some n → IsNumberOf old above path
    → IfOk result (λ number. IsNumberOf new number (below old above bytes))
    → IfOk result (λ number. IsNumberOf new number (path ++ 1 ∷ bytes))
below_numbered old new None n bytes path result some is told = absurd cc
below_numbered old new (Some m) n bytes path result some is told =
    subst (λ (p : List ℕ). IfOk result (λ number. IsNumberOf new number (p ++ 1 ∷ bytes))) is.1 told

join_more : (first : List ℕ) (keys : List (List ℕ)) (key : List ℕ)
    → join_with_byte 1 (first ∷ (keys ++ key ∷ [])) ≡ join_with_byte 1 (first ∷ keys) ++ 1 ∷ key
join_more first [] key = refl
join_more first (k ∷ ks) key =
    ap (λ (l : List ℕ). first ++ 1 ∷ l) (join_more k ks key)
    ∙ sym (append_assoc first (1 ∷ join_with_byte 1 (k ∷ ks)) (1 ∷ key))

-- a key after those of a place
pub key_after : (entry : FieldEntry) (keys : List (List ℕ)) (path pushed : JsonPath) (key : List ℕ)
    (number : Option ℕ) (paths : List (List ℕ)) → path ≡ path_at entry keys
    → pushed ≡ record { keys = path.keys ++ written_key path.expand_dots key ∷ []; expand_dots = path.expand_dots }
    → IsNumberOf paths number (join_with_byte 1 path.keys ++ 1 ∷ written_key entry.expand_dots key)
    → IsNumberOf paths number (join_with_byte 1 pushed.keys)
key_after entry keys path pushed key number paths is push =
    subst (IsNumberOf paths number)
    (sym (ap (λ (p : JsonPath). join_with_byte 1 p.keys) push
    ∙ (λ j. join_with_byte 1 ((is j).keys ++ written_key (is j).expand_dots key ∷ []))
    ∙ join_more entry.name (map (written_key entry.expand_dots) keys) (written_key entry.expand_dots key)
    ∙ sym (λ j. join_with_byte 1 (is j).keys ++ 1 ∷ written_key entry.expand_dots key)))

-- the path of a field alone
pub field_path : (entry : FieldEntry) (path : JsonPath) (name : List ℕ) (number : Option ℕ) (paths : List (List ℕ))
    → path ≡ path_at entry [] → name ≡ entry.name → IsNumberOf paths number name
    → IsNumberOf paths number (join_with_byte 1 path.keys)
field_path entry path name number paths is named =
    subst (IsNumberOf paths number) (named ∙ sym (ap (λ (p : JsonPath). join_with_byte 1 p.keys) is))

-- ---- a value in its column

pub path_number : (paths : List (List ℕ)) (number : Option ℕ) (path now : JsonPath) → now ≡ path
    → IsNumberOf paths number (join_with_byte 1 path.keys) → IsNumberOf paths number (join_with_byte 1 now.keys)
path_number paths number path now same =
    subst (λ (p : JsonPath). IsNumberOf paths number (join_with_byte 1 p.keys)) (sym same)

pub text_number : (paths : List (List ℕ)) (number : Option ℕ) (path : JsonPath) (text : List ℕ)
    → text ≡ join_with_byte 1 path.keys → IsNumberOf paths number (join_with_byte 1 path.keys)
    → IsNumberOf paths number text
text_number paths number path text told = subst (IsNumberOf paths number) (sym told)

-- what is known stays so, call by call
pub still_then : (first known last : PathColumns) (old new : List ColumnRecord) → IsKnownStill first known old
    → IsKnownStill known last new → IsKnownStill first last new
still_then first known last old new before after =
    (after.0, λ number path is. after.1 number path (before.1 number path is))

pub only_known : (known last : PathColumns) (cs : List ColumnRecord) (result : Result (Unit {0}) ColumnError)
    → OnOk result (IsKnownStill last known cs) → OnOk result (AreColumnsOf known cs)
only_known known last cs (Ok tt) told = told.0
only_known known last cs (Err e) told = tt

-- a column that is known
pub held_there : (column : Option ColumnId) (path : List ℕ) (kind : ValueKind) (cs : List ColumnRecord) (id : ColumnId)
    → column ≡ Some id → IsColumnOf column path kind cs
    → (id.place ≡ place_of cs path kind) × (cs ≡ with_column cs path kind)
held_there column path kind cs id is own =
    let here : IsColumnOf (Some id) path kind cs = subst (λ (o : Option ColumnId). IsColumnOf o path kind cs) is own in
    (here.1, sym (there_already path kind cs here.0))

-- a column that was looked up
module _ (path : List ℕ) (kind : ValueKind) (old mid : List ColumnRecord) (id : ColumnId)
    (found : id.place ≡ place_of old path kind) (made : mid ≡ with_column old path kind) where
  is_found : IsColumnOf (Some id) path kind mid
  is_found = subst (IsColumnOf (Some id) path kind) (sym made)
      (any_with path kind old, found ∙ sym (place_with path kind old))

  -- it is kept by the number of its path
  pub held_found : (known last : PathColumns) (place : Option ℕ) → IsKnownAt last place path old
      → AreNumbersKept last.paths known.paths
      → ((path : List ℕ) (cs : List ColumnRecord) → IsKnownAt last place path cs → IsColumnOf (Some id) path kind cs
      → AreColumnsOf known cs)
      → IsKnownStill last known mid
  held_found known last place is numbers held = (
    held path mid (known_still last old mid (subst (AreThere old) (sym made) (there_with path kind old)) is.0, is.1)
        is_found,
    numbers,
  )

  -- a value may be recorded in it
  pub takes_found : (row : ℕ) (value : ColumnValue) → MayRecord path kind row value old
      → At (CanTake kind row value) id.place mid
  takes_found row value may = subst (λ (X : Type 0). X)
      (sym (λ j. At (CanTake kind row value) (found j) (made j))) (takes_named path kind row value old may)

  pub recorded_found : (row : ℕ) (value : ColumnValue) (new : List ColumnRecord)
      (result : Result (Unit {0}) ColumnError)
      → OnOk result (new ≡ changed_at (with_value row value) id.place mid)
      → OnOk result (new ≡ with_recorded path kind row value old)
  recorded_found row value new (Ok tt) recorded =
      recorded ∙ (λ j. changed_at (with_value row value) (found j) (made j))
  recorded_found row value new (Err e) recorded = tt

  pub refused_found : (new : List ColumnRecord) (result : Result (Unit {0}) ColumnError) → OnErr result (new ≡ mid)
      → OnErr result (AreKeptBut path kind old new)
  refused_found new (Ok tt) kept = tt
  refused_found new (Err e) kept = inr (kept ∙ made)

  -- and what is known stays
  pub known_found : (known last : PathColumns) (row : ℕ) (value : ColumnValue) (new : List ColumnRecord)
      (result : Result (Unit {0}) ColumnError)
      → OnOk result (new ≡ changed_at (with_value row value) id.place mid)
      → IsKnownStill last known mid → OnOk result (IsKnownStill last known new)
  known_found known last row value new (Ok tt) recorded told =
      (known_still known mid new (subst (AreThere mid) (sym recorded) there) told.0, told.1)
    where
      there : AreThere mid (changed_at (with_value row value) id.place mid)
      there = subst (AreThere mid)
          (λ j. changed_at (with_value row value) (sym is_found.1 j) (there_already path kind mid is_found.0 j))
          (there_recorded path kind row value mid)
  known_found known last row value new (Err e) recorded told = tt
