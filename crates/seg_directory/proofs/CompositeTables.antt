-- The table of a composite file, entry by entry.
use Rattle.std.proofs.Common.{◌≡◌, ℕ, zero, suc, ◌+◌, ◌*◌, ◌-◌, ◌<◌, ◌≤◌, ◌≢◌, true, false, leb, List, [], ◌∷◌, length, drop, refl, ap, subst, ◌∙◌, arith, slice_range, Some, inl, inr}
use Rattle.std.proofs.lemmas.List.{drop-drop, length-drop}
use Rattle.std.proofs.lemmas.Bool.{leb-true, eqb-true, lt-leb, le-leb, eq-eqb, ne_eqb, cases_Bool, and_parts}
use Rattle.seg_common.specs.LittleEndian.{u32_at, u64_at}
use Rattle.seg_common.proofs.Bytes.{u32_at-drop, u64_at-drop}
use Rattle.seg_directory.specs.CompositeFiles.{entries_of, are_entries, parts_from, field_of, is_composite, parts_of, count_of, body_len, table_of}

-- the entries from the one at i on
pub entries_more : (table : List ℕ) (count i : ℕ) → i < count
    → entries_of (count - i) (drop (12 * i) table) ≡ (u32_at table (12 * i), u64_at table (12 * i + 4)) ∷ entries_of (count - (i + 1)) (drop (12 * (i + 1)) table)
entries_more table count i lt =
    let k : count - i ≡ suc (count - (i + 1)) = omega arith in
    let next : 12 * i + 12 ≡ 12 * (i + 1) = omega arith in
    let rest : drop 12 (drop (12 * i) table) ≡ drop (12 * (i + 1)) table = drop-drop 12 (12 * i) table ∙ ap (λ (n : ℕ). drop n table) next in
    let at : 12 * i + 0 ≡ 12 * i = omega arith in
    let a : u32_at (drop (12 * i) table) 0 ≡ u32_at table (12 * i) = u32_at-drop table (12 * i) 0 ∙ ap (u32_at table) at in
    let b = u64_at-drop table (12 * i) 4 in
    rw (k, rest, a, b) refl

-- the same, where the code read them
pub entries_step : (table : List ℕ) (count i f e : ℕ) → i < count → f ≡ u32_at table (12 * i) → e ≡ u64_at table (12 * i + 4)
    → entries_of (count - i) (drop (12 * i) table) ≡ (f, e) ∷ entries_of (count - (i + 1)) (drop (12 * (i + 1)) table)
entries_step table count i f e lt p q = rw (p, q) (entries_more table count i lt)

-- what is left after the last entry
pub entries_end : (table : List ℕ) (count i : ℕ) → count ≤ i → entries_of (count - i) (drop (12 * i) table) ≡ []
entries_end table count i le = let k : count - i ≡ 0 = omega arith in rw k refl

-- one entry that has the field, or lacks it
pub field_of-here : (start field : ℕ) (e : ℕ × ℕ) (es : List (ℕ × ℕ)) (body : List ℕ) → e.0 ≡ field → field_of (parts_from start (e ∷ es) body) field ≡ Some (slice_range body start e.1)
field_of-here start field e es body h = rw (eq-eqb e.0 field h) refl

pub field_of-later : (start field : ℕ) (e : ℕ × ℕ) (es : List (ℕ × ℕ)) (body : List ℕ) → e.0 ≢ field → field_of (parts_from start (e ∷ es) body) field ≡ field_of (parts_from e.1 es body) field
field_of-later start field e es body h = rw (ne_eqb e.0 field h) refl

pub entries-low : (low start total : ℕ) (es : List (ℕ × ℕ)) → are_entries low start total es ≡ true → start ≤ total
entries-low low start total [] h = omega (arith, eqb-true start total h)
entries-low low start total (e ∷ es) h =
    let p = and_parts _ _ h in
    let q = and_parts _ _ p.1 in
    let below = entries-low (e.0 + 1) e.1 total es q.1 in
    omega (arith, leb-true start e.1 q.0, below)

pub record IsNext (low start total : ℕ) (e : ℕ × ℕ) (es : List (ℕ × ℕ)) : Type 0 where
  pub field : low ≤ e.0
  pub end : start ≤ e.1
  pub within : e.1 ≤ total
  pub others : are_entries (e.0 + 1) e.1 total es ≡ true

pub entries-next : (low start total : ℕ) (e : ℕ × ℕ) (es : List (ℕ × ℕ)) → are_entries low start total (e ∷ es) ≡ true → IsNext low start total e es
entries-next low start total e es h =
    let p = and_parts _ _ h in
    let q = and_parts _ _ p.1 in
    record { field = leb-true low e.0 p.0; end = leb-true start e.1 q.0; within = entries-low (e.0 + 1) e.1 total es q.1; others = q.1 }

pub entries-field : (low start total : ℕ) (e : ℕ × ℕ) (es : List (ℕ × ℕ)) → e.0 < low → are_entries low start total (e ∷ es) ≡ false
entries-field low start total e es h = rw (lt-leb low e.0 h) refl

pub entries-end : (low start total : ℕ) (e : ℕ × ℕ) (es : List (ℕ × ℕ)) → e.1 < start → are_entries low start total (e ∷ es) ≡ false
entries-end low start total e es h =
    elim (cases_Bool (leb low e.0)) [
      | inl t ↦ rw (t, lt-leb start e.1 h) refl
      | inr f ↦ rw f refl
    ]

pub entries-go : (low start total : ℕ) (e : ℕ × ℕ) (es : List (ℕ × ℕ)) → low ≤ e.0 → start ≤ e.1 → are_entries low start total (e ∷ es) ≡ are_entries (e.0 + 1) e.1 total es
entries-go low start total e es a b = rw (le-leb low e.0 a, le-leb start e.1 b) refl

pub length-entries_of : (n : ℕ) (table : List ℕ) → length (entries_of n table) ≡ n
length-entries_of zero table = refl
length-entries_of (suc n) table = ap suc (length-entries_of n (drop 12 table))

pub length-parts_from : (start : ℕ) (es : List (ℕ × ℕ)) (body : List ℕ) → length (parts_from start es body) ≡ length es
length-parts_from start [] body = refl
length-parts_from start (e ∷ es) body = ap suc (length-parts_from e.1 es body)

-- ---- the whole file

pub composite-cut : (bytes : List ℕ) → length bytes < 4 + 12 * count_of bytes → is_composite bytes ≡ false
unfolding is_composite
composite-cut bytes h = rw (lt-leb (4 + 12 * count_of bytes) (length bytes) h) refl

pub composite-table : (bytes : List ℕ) → 4 + 12 * count_of bytes ≤ length bytes → is_composite bytes ≡ are_entries 0 0 (body_len bytes) (table_of bytes)
unfolding is_composite
composite-table bytes h = rw (le-leb (4 + 12 * count_of bytes) (length bytes) h) refl

pub record IsLaidOut (bytes : List ℕ) : Type 0 where
  pub long : 4 + 12 * count_of bytes ≤ length bytes
  pub entries : are_entries 0 0 (body_len bytes) (table_of bytes) ≡ true

pub laid_out : (bytes : List ℕ) → is_composite bytes ≡ true → IsLaidOut bytes
unfolding is_composite
laid_out bytes h = let p = and_parts _ _ h in record { long = leb-true (4 + 12 * count_of bytes) (length bytes) p.0; entries = p.1 }

pub length-parts_of : (bytes : List ℕ) → length (parts_of bytes) ≡ count_of bytes
unfolding parts_of
length-parts_of bytes = length-parts_from 0 (table_of bytes) bytes ∙ length-entries_of (count_of bytes) (drop (body_len bytes) bytes)

-- by what the code has read
pub record IsSplit (bytes table : List ℕ) (n : ℕ) : Type 0 where
  pub count : n ≡ count_of bytes
  pub long : 4 + 12 * n ≤ length bytes
  pub table_is : table ≡ drop (length bytes - (4 + 12 * n)) bytes

pub composite-by : (bytes table : List ℕ) (n : ℕ) → IsSplit bytes table n → is_composite bytes ≡ are_entries 0 0 (length bytes - (4 + 12 * n)) (entries_of n table)
composite-by bytes table n s =
    let le : 4 + 12 * count_of bytes ≤ length bytes = subst (λ (k : ℕ). 4 + 12 * k ≤ length bytes) s.count s.long in
    rw (s.table_is, s.count) (composite-table bytes le)

pub parts-by : (bytes table : List ℕ) (n : ℕ) → IsSplit bytes table n → parts_of bytes ≡ parts_from 0 (entries_of n table) bytes
unfolding parts_of
parts-by bytes table n s = rw (s.table_is, s.count) refl

pub length-table : (bytes table : List ℕ) (n : ℕ) → IsSplit bytes table n → 12 * n ≤ length table
length-table bytes table n s = rw s.table_is (omega (arith, length-drop (length bytes - (4 + 12 * n)) bytes, s.long))

-- in a method: what was seen of the bytes
pub split-from : (bytes seen table : List ℕ) (n : ℕ) → is_composite bytes ≡ true → n ≡ count_of bytes → seen ≡ bytes → table ≡ drop (length seen - (4 + 12 * n)) seen → IsSplit bytes table n
split-from bytes seen table n good count same t =
    let l = laid_out bytes good in
    record { count = count; long = omega (arith, l.long, count); table_is = subst (λ (b : List ℕ). table ≡ drop (length b - (4 + 12 * n)) b) same t }
