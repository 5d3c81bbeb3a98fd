-- What is spelled is read, and what is read is spelled so.
use Rattle.std.proofs.Common.{◌≡◌, ℕ, zero, suc, ◌+◌, ◌*◌, ◌-◌, ◌^◌, ◌<◌, ◌≤◌, Bool, true, cond, List, [], ◌∷◌, ◌++◌, length, take, drop, refl, sym, ap, subst, ◌∙◌, arith, slice_range, Some, None, inl, inr, append_assoc}
use Rattle.std.specs.Int.{w32, w64, to_le_bytes}
use Rattle.std.proofs.lemmas.List.{drop-drop, length-drop, length-take, length-append, drop_at, take_at, take_all, take-append-drop, get_or-drop, get_or-take, get_or_past, drop-take, take-take}
use Rattle.std.proofs.lemmas.Nat.{le_bytes_4, le_bytes_8}
use Rattle.std.proofs.lemmas.Bool.{cases_lt, eq-eqb, eqb-true, cases_Bool}
use Rattle.std.proofs.lemmas.Option.{same_Some}
use Rattle.seg_common.specs.LittleEndian.{u32_at, u64_at}
use Rattle.seg_common.proofs.Bytes.{u32_at-written, u64_at-written}
use Rattle.seg_directory.specs.CompositeFiles.{entries_of, are_entries, parts_from, Part, is_composite, parts_of, composite, count_of, body_len, table_of}
use Rattle.seg_directory.specs.CompositeWriterParts.{IsWritten}
use Rattle.seg_directory.specs.CompositeBytes.{bodies, table_from, spelling, Ascend, IsSpelled, IsBytes}
use Rattle.seg_directory.proofs.CompositeTables.{entries-next, entries-go, laid_out, length-parts_of}
use Rattle.seg_directory.proofs.CompositeWriterParts.{entry, written}

ends_from : ℕ → List Part → List (ℕ × ℕ)
ends_from start [] = []
ends_from start (p ∷ ps) = (p.0, start + length p.1) ∷ ends_from (start + length p.1) ps

length-bodies : (p : Part) (ps : List Part) → length (bodies (p ∷ ps)) ≡ length p.1 + length (bodies ps)
length-bodies p ps = length-append p.1 (bodies ps)

length-table_from : (start : ℕ) (ps : List Part) → length (table_from start ps) ≡ 12 * length ps
length-table_from start [] = refl
length-table_from start (p ∷ ps) = let more = length-table_from (start + length p.1) ps in omega (arith, length-append (entry p.0 (start + length p.1)) (table_from (start + length p.1) ps), more)

entries-spelled : (low start : ℕ) (ps : List Part) → Ascend low ps → start + length (bodies ps) < 2 ^ 64 → entries_of (length ps) (table_from start ps) ≡ ends_from start ps
unfolding ends_from
entries-spelled low start [] a small = refl
entries-spelled low start (p ∷ ps) a small =
    let e : ℕ = start + length p.1 in
    let rest = table_from e ps in
    let len : e < 2 ^ 64 = omega (arith, length-bodies p ps, small) in
    let f : u32_at (entry p.0 e ++ rest) 0 ≡ p.0 = ap (λ (l : List ℕ). u32_at l 0) (append_assoc (to_le_bytes w32 p.0) (to_le_bytes w64 e) rest) ∙ u32_at-written [] (to_le_bytes w64 e ++ rest) p.0 0 a.1 refl in
    let g : u64_at (entry p.0 e ++ rest) 4 ≡ e = ap (λ (l : List ℕ). u64_at l 4) (append_assoc (to_le_bytes w32 p.0) (to_le_bytes w64 e) rest) ∙ u64_at-written (to_le_bytes w32 p.0) rest e 4 len refl in
    let d : drop 12 (entry p.0 e ++ rest) ≡ rest = drop_at (entry p.0 e) rest 12 refl in
    let again = entries-spelled (p.0 + 1) e ps a.2 (omega (arith, length-bodies p ps, small)) in
    rw (f, g, d, again) refl

good-spelled : (low start : ℕ) (ps : List Part) → Ascend low ps → are_entries low start (start + length (bodies ps)) (ends_from start ps) ≡ true
unfolding ends_from
good-spelled low start [] a = eq-eqb start (start + 0) (omega arith)
good-spelled low start (p ∷ ps) a =
    let e : ℕ = start + length p.1 in
    let total : start + length (bodies (p ∷ ps)) ≡ e + length (bodies ps) = omega (arith, length-bodies p ps) in
    ap (λ (t : ℕ). are_entries low start t ((p.0, e) ∷ ends_from e ps)) total ∙ entries-go low start (e + length (bodies ps)) (p.0, e) (ends_from e ps) a.0 (omega arith) ∙ good-spelled (p.0 + 1) e ps a.2

parts-spelled : (front : List ℕ) (ps : List Part) (start : ℕ) → length front ≡ start → parts_from start (ends_from start ps) (front ++ bodies ps) ≡ ps
unfolding ends_from
parts-spelled front [] start h = refl
parts-spelled front (p ∷ ps) start h =
    let e : ℕ = start + length p.1 in
    let whole : front ++ bodies (p ∷ ps) ≡ (front ++ p.1) ++ bodies ps = sym (append_assoc front p.1 (bodies ps)) in
    let k : e - start ≡ length p.1 = omega arith in
    let cut : slice_range (front ++ bodies (p ∷ ps)) start e ≡ p.1 = ap (take (e - start)) (drop_at front (bodies (p ∷ ps)) start h) ∙ take_at p.1 (bodies ps) (e - start) (sym k) in
    let again : parts_from e (ends_from e ps) (front ++ bodies (p ∷ ps)) ≡ ps = ap (parts_from e (ends_from e ps)) whole ∙ parts-spelled (front ++ p.1) ps e (omega (arith, length-append front p.1)) in
    rw (cut, again) refl

-- what is spelled is read
pub spelled-read : (bytes : List ℕ) (ps : List Part) → IsSpelled bytes ps → composite bytes ≡ Some ps
spelled-read bytes ps s =
    let es : entries_of (length ps) (table_from 0 ps) ≡ ends_from 0 ps = entries-spelled 0 0 ps s.fields (omega (arith, s.small)) in
    let w : IsWritten (bodies ps) (table_from 0 ps) (length ps) = record {
      small = s.few;
      room = length-table_from 0 ps;
      good = rw es (ap (λ (t : ℕ). are_entries 0 0 t (ends_from 0 ps)) (let z : length (bodies ps) ≡ 0 + length (bodies ps) = omega arith in z) ∙ good-spelled 0 0 ps s.fields);
    } in
    rw s.spelled (written (bodies ps) (table_from 0 ps) (length ps) w ∙ ap Some (rw es (parts-spelled [] ps 0 refl)))

-- at most one reading
pub one_reading : (bytes : List ℕ) (ps qs : List Part) → IsSpelled bytes ps → IsSpelled bytes qs → ps ≡ qs
one_reading bytes ps qs a b = let e : Some ps ≡ Some qs = sym (spelled-read bytes ps a) ∙ spelled-read bytes qs b in cc

-- ---- what is read is spelled so

IsBytes-drop : (n : ℕ) (bytes : List ℕ) → IsBytes bytes → IsBytes (drop n bytes)
IsBytes-drop n bytes h i = rw get_or-drop (h (n + i))

IsBytes-take : (n : ℕ) (bytes : List ℕ) → IsBytes bytes → IsBytes (take n bytes)
IsBytes-take n bytes h i =
    elim (cases_lt i n) [
      | inl lt ↦ rw (get_or-take n bytes i 0 lt) (h i)
      | inr le ↦ rw (get_or_past (take n bytes) i 0 (omega (arith, length-take n bytes))) (omega arith)
    ]

again32 : (bytes : List ℕ) (at : ℕ) → IsBytes bytes → at + 4 ≤ length bytes → to_le_bytes w32 (u32_at bytes at) ≡ take 4 (drop at bytes)
unfolding u32_at
again32 bytes at fits h = le_bytes_4 (take 4 (drop at bytes)) _ (omega (arith, length-take 4 (drop at bytes), length-drop at bytes)) (IsBytes-take 4 (drop at bytes) (IsBytes-drop at bytes fits)) refl

again64 : (bytes : List ℕ) (at : ℕ) → IsBytes bytes → at + 8 ≤ length bytes → to_le_bytes w64 (u64_at bytes at) ≡ take 8 (drop at bytes)
unfolding u64_at
again64 bytes at fits h = le_bytes_8 (take 8 (drop at bytes)) _ (omega (arith, length-take 8 (drop at bytes), length-drop at bytes)) (IsBytes-take 8 (drop at bytes) (IsBytes-drop at bytes fits)) refl

below32 : (bytes : List ℕ) (at : ℕ) → IsBytes bytes → u32_at bytes at < 2 ^ 32
unfolding u32_at
below32 bytes at fits = let f = IsBytes-take 4 (drop at bytes) (IsBytes-drop at bytes fits) in omega (arith, f 0, f 1, f 2, f 3)

joined_ranges : (body : List ℕ) (s e t : ℕ) → s ≤ e → e ≤ t → slice_range body s e ++ slice_range body e t ≡ slice_range body s t
joined_ranges body s e t se et =
    let a : t - s ≡ (e - s) + (t - e) = omega arith in
    let x : List ℕ = take (t - s) (drop s body) in
    let one : take (e - s) x ≡ slice_range body s e = take-take (e - s) (t - s) (drop s body) (omega arith) in
    let k : s + (e - s) ≡ e = omega arith in
    let two : drop (e - s) x ≡ slice_range body e t = ap (λ (n : ℕ). drop (e - s) (take n (drop s body))) a ∙ drop-take (e - s) (t - e) (drop s body) ∙ ap (take (t - e)) (drop-drop (e - s) s body ∙ ap (λ (n : ℕ). drop n body) k) in
    rw (← one, ← two) (take-append-drop (e - s) x)

bodies-read : (low start total : ℕ) (es : List (ℕ × ℕ)) (body : List ℕ) → are_entries low start total es ≡ true → bodies (parts_from start es body) ≡ slice_range body start total
bodies-read low start total [] body h = let k : total - start ≡ 0 = omega (arith, eqb-true start total h) in rw k refl
bodies-read low start total (e ∷ es) body h =
    let n = entries-next low start total e es h in
    ap (λ (l : List ℕ). slice_range body start e.1 ++ l) (bodies-read (e.0 + 1) e.1 total es body n.others) ∙ joined_ranges body start e.1 total n.end n.within

cut12 : (table : List ℕ) → take 4 table ++ take 8 (drop 4 table) ≡ take 12 table
cut12 table = joined_ranges table 0 4 12 (omega arith) (omega arith)

table-read : (n low start total : ℕ) (table body : List ℕ) → IsBytes table → 12 * n ≤ length table → total ≤ length body → are_entries low start total (entries_of n table) ≡ true → table_from start (parts_from start (entries_of n table) body) ≡ take (12 * n) table
table-read zero low start total table body fits room le h = refl
table-read (suc n) low start total table body fits room le h =
    let f = u32_at table 0 in
    let e = u64_at table 4 in
    let next = entries-next low start total (f, e) (entries_of n (drop 12 table)) h in
    let len : start + length (slice_range body start e) ≡ e = omega (arith, length-take (e - start) (drop start body), length-drop start body, next.end, next.within) in
    let again = table-read n (f + 1) e total (drop 12 table) body (IsBytes-drop 12 table fits) (omega (arith, length-drop 12 table)) le next.others in
    let first : entry f e ≡ take 12 table = ap (λ (x : List ℕ). x ++ to_le_bytes w64 e) (again32 table 0 fits (omega arith)) ∙ ap (λ (x : List ℕ). take 4 table ++ x) (again64 table 4 fits (omega arith)) ∙ cut12 table in
    let k : 12 * suc n ≡ 12 + 12 * n = omega arith in
    let split : take 12 table ++ take (12 * n) (drop 12 table) ≡ take (12 * suc n) table = ap (λ (m : ℕ). take 12 table ++ take m (drop 12 table)) (let j : 12 * n ≡ 12 * suc n - 12 = omega arith in j) ∙ joined_ranges table 0 12 (12 * suc n) (omega arith) (omega arith) ∙ ap (λ (m : ℕ). take m table) (let z : 12 * suc n - 0 ≡ 12 * suc n = omega arith in z) in
    let others = parts_from e (entries_of n (drop 12 table)) body in
    ap (λ (k : ℕ). (to_le_bytes w32 f ++ to_le_bytes w64 k) ++ table_from k others) len ∙ ap (λ (x : List ℕ). x ++ table_from e others) first ∙ ap (λ (x : List ℕ). take 12 table ++ x) again ∙ split

ascend-read : (n low start total : ℕ) (table body : List ℕ) → IsBytes table → are_entries low start total (entries_of n table) ≡ true → Ascend low (parts_from start (entries_of n table) body)
ascend-read zero low start total table body fits h = tt
ascend-read (suc n) low start total table body fits h =
    let next = entries-next low start total (u32_at table 0, u64_at table 4) (entries_of n (drop 12 table)) h in
    (next.field, below32 table 0 fits, ascend-read n (u32_at table 0 + 1) (u64_at table 4) total (drop 12 table) body (IsBytes-drop 12 table fits) next.others)

pub read-spelled : (bytes : List ℕ) → IsBytes bytes → length bytes < 2 ^ 64 → is_composite bytes ≡ true → IsSpelled bytes (parts_of bytes)
unfolding parts_of
read-spelled bytes fits small good =
    let l = laid_out bytes good in
    let n = count_of bytes in
    let b : ℕ = body_len bytes in
    let table : List ℕ = drop b bytes in
    let ps = parts_from 0 (entries_of n table) bytes in
    let len : length table ≡ 4 + 12 * n = omega (arith, length-drop b bytes, l.long) in
    let tfits = IsBytes-drop b bytes fits in
    let one : bodies ps ≡ take b bytes = bodies-read 0 0 b (entries_of n table) bytes l.entries ∙ ap (λ (m : ℕ). take m bytes) (let z : b - 0 ≡ b = omega arith in z) in
    let two : table_from 0 ps ≡ take (12 * n) table = table-read n 0 0 b table bytes tfits (omega (arith, len)) (omega arith) l.entries in
    let count : length ps ≡ n = length-parts_of bytes in
    let at : b + 12 * n ≡ length bytes - 4 = omega (arith, l.long) in
    let last : to_le_bytes w32 (length ps) ≡ drop (12 * n) table = ap (to_le_bytes w32) count ∙ again32 bytes (length bytes - 4) fits (omega (arith, l.long)) ∙ take_all 4 (drop (length bytes - 4) bytes) (omega (arith, length-drop (length bytes - 4) bytes, l.long)) ∙ ap (λ (k : ℕ). drop k bytes) (sym at) ∙ sym (drop-drop (12 * n) b bytes) in
    let regroup : (take b bytes ++ take (12 * n) table) ++ drop (12 * n) table ≡ bytes = append_assoc (take b bytes) (take (12 * n) table) (drop (12 * n) table) ∙ ap (λ (x : List ℕ). take b bytes ++ x) (take-append-drop (12 * n) table) ∙ take-append-drop b bytes in
    record {
      spelled = rw (one, two, last) (sym regroup);
      fields = ascend-read n 0 0 b table bytes tfits l.entries;
      few = omega (arith, count, below32 bytes (length bytes - 4) fits);
      small = omega (arith, ap length one, length-take b bytes, small);
    }

-- the same, of what the bytes read as
pub reads_spelled : (bytes : List ℕ) (ps : List Part) → IsBytes bytes → length bytes < 2 ^ 64 → composite bytes ≡ Some ps → IsSpelled bytes ps
reads_spelled bytes ps fits small read =
    elim (cases_Bool (is_composite bytes)) [
      | inl good ↦
          let some : Some (parts_of bytes) ≡ Some ps = sym (ap (λ (b : Bool). cond b (Some (parts_of bytes)) None) good) ∙ read in
          subst (IsSpelled bytes) (same_Some (parts_of bytes) ps some) (read-spelled bytes fits small good)
      | inr bad ↦ absurd (let none : None ≡ Some ps = sym (ap (λ (b : Bool). cond b (Some (parts_of bytes)) None) bad) ∙ read in cc)
    ]

-- the parts take what lies before the table
length-parts : (low start total : ℕ) (es : List (ℕ × ℕ)) (body : List ℕ) → are_entries low start total es ≡ true → total ≤ length body
    → start + length (bodies (parts_from start es body)) ≡ total
length-parts low start total [] body good within = let same : start ≡ total = eqb-true start total good in omega arith
length-parts low start total (e ∷ es) body good within =
    let next = entries-next low start total e es good in
    let rest : e.1 + length (bodies (parts_from e.1 es body)) ≡ total = length-parts (e.0 + 1) e.1 total es body next.others within in
    let here : length (slice_range body start e.1) ≡ e.1 - start = grind (arith, length-take (e.1 - start) (drop start body), length-drop start body, next.end, next.within) in
    omega (arith, length-bodies (e.0, slice_range body start e.1) (parts_from e.1 es body), rest, here, next.end)

-- a composite file is as long as its spelling
pub length-spelling : (bytes : List ℕ) → is_composite bytes ≡ true → length (spelling (parts_of bytes)) ≡ length bytes
unfolding parts_of
length-spelling bytes good =
    let laid = laid_out bytes good in
    let n : ℕ = count_of bytes in
    let ps : List Part = parts_from 0 (table_of bytes) bytes in
    let body : 0 + length (bodies ps) ≡ body_len bytes = length-parts 0 0 (body_len bytes) (table_of bytes) bytes laid.entries (omega arith) in
    let count : length ps ≡ n = length-parts_of bytes in
    omega (arith, length-append (bodies ps ++ table_from 0 ps) (to_le_bytes w32 (length ps)), length-append (bodies ps) (table_from 0 ps), length-table_from 0 ps, body, count, laid.long)
