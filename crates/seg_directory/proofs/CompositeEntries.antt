-- The entry of a composite file's table at a place.
use Rattle.std.proofs.Common.{◌≡◌, ℕ, zero, suc, ◌+◌, ◌*◌, ◌-◌, ◌<◌, ◌≤◌, List, [], ◌∷◌, true, drop, refl, sym, ap, subst, ◌∙◌, arith, slice_get, slice_range, Option, Some, None}
use Rattle.seg_common.specs.LittleEndian.{u32_at, u64_at}
use Rattle.seg_common.proofs.Bytes.{u32_at-drop, u64_at-drop}
use Rattle.seg_directory.specs.CompositeFiles.{Part, entries_of, are_entries, parts_from, field_of}
use Rattle.seg_directory.specs.CompositeEntry.{IsEntry}
use Rattle.seg_directory.proofs.CompositeTables.{entries-next, field_of-here, field_of-later}

-- where the part at a place begins, if the first begins at `start`
abbrev start_at : ℕ → List ℕ → ℕ → ℕ
start_at start table zero = start
start_at start table (suc place) = u64_at table (12 * place + 4)

record IsPart (count : ℕ) (table : List ℕ) (first place total start : ℕ) : Type 0 where
  part : (body : List ℕ) → slice_get (parts_from first (entries_of count table) body) place ≡ Some (u32_at table (12 * place), slice_range body start (u64_at table (12 * place + 4)))
  order : start ≤ u64_at table (12 * place + 4)
  within : u64_at table (12 * place + 4) ≤ total

start-later : (table : List ℕ) (place : ℕ) (start : ℕ) → start_at (u64_at table 4) (drop 12 table) place ≡ start_at start table (suc place)
start-later table zero start = refl
start-later table (suc place) start =
    let e : 12 + (12 * place + 4) ≡ 12 * suc place + 4 = omega arith in
    u64_at-drop table 12 (12 * place + 4) ∙ ap (u64_at table) e

part_at : (count : ℕ) (table : List ℕ) (low first place total : ℕ) → are_entries low first total (entries_of count table) ≡ true → place < count → IsPart count table first place total (start_at first table place)
part_at zero table low first place total good h = absurd (omega (arith, h))
part_at (suc count) table low first zero total good h =
    let n = entries-next low first total _ (entries_of count (drop 12 table)) good in
    record { part = λ body. refl; order = n.end; within = n.within }
part_at (suc count) table low first (suc place) total good h =
    let n = entries-next low first total _ (entries_of count (drop 12 table)) good in
    let p = part_at count (drop 12 table) (u32_at table 0 + 1) (u64_at table 4) place total n.others (omega (arith, h)) in
    let f : u32_at (drop 12 table) (12 * place) ≡ u32_at table (12 * suc place) =
    let e : 12 + 12 * place ≡ 12 * suc place = omega arith in u32_at-drop table 12 (12 * place) ∙ ap (u32_at table) e in
    let last : u64_at (drop 12 table) (12 * place + 4) ≡ u64_at table (12 * suc place + 4) =
    let e : 12 + (12 * place + 4) ≡ 12 * suc place + 4 = omega arith in u64_at-drop table 12 (12 * place + 4) ∙ ap (u64_at table) e in
    let start = start-later table place first in
    record {
      part = λ body. rw (← f, ← last, ← start) (p.part body);
      order = rw (← last, ← start) p.order;
      within = rw (← last) p.within;
    }

-- where the first part begins at 0, by what the code read
pub first_entry : (count : ℕ) (table : List ℕ) (place total end : ℕ) → are_entries 0 0 total (entries_of count table) ≡ true → place < count → place ≡ 0 → end ≡ u64_at table (12 * place + 4) → IsEntry count table place total 0 end
first_entry count table zero total end good h first e =
    let p = part_at count table 0 0 0 total good h in
    rw e (record { part = p.part; order = p.order; within = p.within })
first_entry count table (suc place) total end good h first e = absurd (omega (arith, first))

pub later_entry : (count : ℕ) (table : List ℕ) (place total start end : ℕ) → are_entries 0 0 total (entries_of count table) ≡ true → place < count → 0 < place → start ≡ u64_at table (12 * (place - 1) + 4) → end ≡ u64_at table (12 * place + 4) → IsEntry count table place total start end
later_entry count table zero total start end good h above s e = absurd (omega (arith, above))
later_entry count table (suc place) total start end good h above s e =
    let p = part_at count table 0 0 (suc place) total good h in
    let back : suc place - 1 ≡ place = omega arith in
    rw (s, e, back) (record { part = p.part; order = p.order; within = p.within })

-- ---- where a field is found

-- the field of an entry after the first
later_field : (table : List ℕ) (place : ℕ) → u32_at (drop 12 table) (12 * place) ≡ u32_at table (12 * suc place)
later_field table place =
    let e : 12 + 12 * place ≡ 12 * suc place = omega arith in
    u32_at-drop table 12 (12 * place) ∙ ap (u32_at table) e

-- no field below the lowest is there
below : (low start total field : ℕ) (es : List (ℕ × ℕ)) (body : List ℕ) → are_entries low start total es ≡ true → field < low → field_of (parts_from start es body) field ≡ None
below low start total field [] body good h = refl
below low start total field (e ∷ es) body good h =
    let n = entries-next low start total e es good in
    field_of-later start field e es body (λ same. omega (arith, n.field, h, same)) ∙ below (e.0 + 1) e.1 total field es body n.others (omega (arith, n.field, h))

-- no field of an entry is below the lowest
lowest : (count : ℕ) (table : List ℕ) (low first place total : ℕ) → are_entries low first total (entries_of count table) ≡ true → place < count → low ≤ u32_at table (12 * place)
lowest zero table low first place total good h = absurd (omega (arith, h))
lowest (suc count) table low first zero total good h = (entries-next low first total _ (entries_of count (drop 12 table)) good).field
lowest (suc count) table low first (suc place) total good h =
    let n = entries-next low first total _ (entries_of count (drop 12 table)) good in
    let rest = lowest count (drop 12 table) (u32_at table 0 + 1) (u64_at table 4) place total n.others (omega (arith, h)) in
    let f = later_field table place in
    omega (arith, n.field, rest, f)

-- the first field is below another, where the one before that other is
first_below : (count : ℕ) (table : List ℕ) (low first place total field : ℕ) → are_entries low first total (entries_of (suc count) table) ≡ true → place ≤ count → ((i : ℕ) → i + 1 ≡ suc place → u32_at table (12 * i) < field) → u32_at table 0 < field
first_below count table low first zero total field good h before = before 0 refl
first_below count table low first (suc place) total field good h before =
    let n = entries-next low first total _ (entries_of count (drop 12 table)) good in
    let rest = lowest count (drop 12 table) (u32_at table 0 + 1) (u64_at table 4) place total n.others (omega (arith, h)) in
    let f = later_field table place in
    let last : u32_at table (12 * suc place) < field = before (suc place) (omega arith) in
    omega (arith, rest, f, last)

-- a field that lies between two entries is not there
pub absent : (count : ℕ) (table : List ℕ) (low first place total field : ℕ) (body : List ℕ) → are_entries low first total (entries_of count table) ≡ true → place ≤ count → ((i : ℕ) → i + 1 ≡ place → u32_at table (12 * i) < field) → (place < count → field < u32_at table (12 * place)) → field_of (parts_from first (entries_of count table) body) field ≡ None
absent zero table low first place total field body good within before past = refl
absent (suc count) table low first zero total field body good within before past =
    let n = entries-next low first total _ (entries_of count (drop 12 table)) good in
    let high : field < u32_at table 0 = past (omega arith) in
    field_of-later first field _ _ body (λ same. omega (arith, high, same)) ∙ below (u32_at table 0 + 1) (u64_at table 4) total field (entries_of count (drop 12 table)) body n.others (omega (arith, high))
absent (suc count) table low first (suc place) total field body good within before past =
    let n = entries-next low first total _ (entries_of count (drop 12 table)) good in
    let low_first = first_below count table low first place total field good (omega (arith, within)) before in
    field_of-later first field _ _ body (λ same. omega (arith, low_first, same))
    ∙ absent count (drop 12 table) (u32_at table 0 + 1) (u64_at table 4) place total field body n.others (omega (arith, within))
    (λ i e. let f = later_field table i in let b : u32_at table (12 * suc i) < field = before (suc i) (omega (arith, e)) in omega (arith, f, b))
    (λ lt. let f = later_field table place in let p : field < u32_at table (12 * suc place) = past (omega (arith, lt)) in omega (arith, f, p))

same_part : (p q : Part) → (let o : Option Part = Some p in o) ≡ Some q → p ≡ q
same_part p q e = cc

-- the part at a place is that of its field
pub found_at : (low start total : ℕ) (es : List (ℕ × ℕ)) (body : List ℕ) (i : ℕ) (p : Part) → are_entries low start total es ≡ true → slice_get (parts_from start es body) i ≡ Some p → (field_of (parts_from start es body) p.0 ≡ Some p.1) × (low ≤ p.0)
found_at low start total [] body i p good at = absurd (cc at)
found_at low start total (e ∷ es) body zero p good at =
    let n = entries-next low start total e es good in
    let same = same_part _ p at in
    subst (λ (q : Part). (field_of (parts_from start (e ∷ es) body) q.0 ≡ Some q.1) × (low ≤ q.0)) same (field_of-here start e.0 e es body refl, n.field)
found_at low start total (e ∷ es) body (suc i) p good at =
    let n = entries-next low start total e es good in
    let rest = found_at (e.0 + 1) e.1 total es body i p n.others at in
    let high : e.0 + 1 ≤ p.0 = rest.1 in
    (field_of-later start p.0 e es body (λ same. omega (arith, high, same)) ∙ rest.0, omega (arith, n.field, high))

-- the part of an entry is that of its field
pub entry_found : (count : ℕ) (table : List ℕ) (place total start end field : ℕ) (body : List ℕ) → are_entries 0 0 total (entries_of count table) ≡ true → IsEntry count table place total start end → u32_at table (12 * place) ≡ field → field_of (parts_from 0 (entries_of count table) body) field ≡ Some (slice_range body start end)
entry_found count table place total start end field body good entry is =
    ap (field_of (parts_from 0 (entries_of count table) body)) (sym is) ∙ (found_at 0 0 total (entries_of count table) body place (u32_at table (12 * place), slice_range body start end) good (entry.part body)).0
