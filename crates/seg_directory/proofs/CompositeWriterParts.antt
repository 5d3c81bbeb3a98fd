-- A composite file that grows, and the bytes that it is written as.
use Rattle.std.proofs.Common.{◌≡◌, ℕ, zero, suc, ◌+◌, ◌*◌, ◌-◌, ◌^◌, ◌<◌, ◌≤◌, true, List, [], ◌∷◌, ◌++◌, length, take, drop, refl, sym, ap, subst, ◌∙◌, arith, Some, append_assoc}
use Rattle.std.specs.Int.{w32, w64, to_le_bytes}
use Rattle.std.proofs.lemmas.List.{length-drop, length-append, drop-append-le, drop_at, take_all, nil_from_length, append-nil}
use Rattle.std.proofs.lemmas.Bool.{eqb-true, eq-eqb}
use Rattle.seg_common.specs.LittleEndian.{u32_at, u64_at}
use Rattle.seg_common.proofs.Bytes.{u32_at-front, u64_at-front, u32_at-written, u64_at-written}
use Rattle.seg_common.proofs.Lists.{range-front}
use Rattle.seg_directory.specs.CompositeFiles.{entries_of, are_entries, parts_from, is_composite, parts_of, composite, count_of, low_after}
use Rattle.seg_directory.specs.CompositeWriterParts.{IsWritten}
use Rattle.seg_directory.proofs.CompositeTables.{length-entries_of, entries-next, entries-go, composite-by, parts-by, IsSplit}

-- ---- entries

pub entries-front : (n : ℕ) (a b : List ℕ) → 12 * n ≤ length a → entries_of n (a ++ b) ≡ entries_of n a
entries-front zero a b h = refl
entries-front (suc n) a b h =
    let rest : drop 12 (a ++ b) ≡ drop 12 a ++ b = drop-append-le 12 a b (omega arith) in
    rw (u32_at-front a b 0 (omega arith), u64_at-front a b 4 (omega arith), rest, entries-front n (drop 12 a) b (omega (arith, length-drop 12 a))) refl

abbrev pub entry : ℕ → ℕ → List ℕ
entry f e = to_le_bytes w32 f ++ to_le_bytes w64 e

one_entry : (f e : ℕ) → f < 2 ^ 32 → e < 2 ^ 64 → entries_of 1 (entry f e) ≡ (f, e) ∷ []
one_entry f e hf he =
    let a : u32_at (entry f e) 0 ≡ f = u32_at-written [] (to_le_bytes w64 e) f 0 hf refl in
    let b : u64_at (entry f e) 4 ≡ e = ap (λ (l : List ℕ). u64_at (to_le_bytes w32 f ++ l) 4) (sym (append-nil (to_le_bytes w64 e))) ∙ u64_at-written (to_le_bytes w32 f) [] e 4 he refl in
    rw (a, b) refl

pub entries-push : (n : ℕ) (table : List ℕ) (f e : ℕ) → length table ≡ 12 * n → f < 2 ^ 32 → e < 2 ^ 64 → entries_of (suc n) (table ++ entry f e) ≡ entries_of n table ++ (f, e) ∷ []
entries-push zero table f e h hf he = ap (λ (l : List ℕ). entries_of 1 (l ++ entry f e)) (nil_from_length table (omega arith)) ∙ one_entry f e hf he
entries-push (suc n) table f e h hf he =
    let rest : drop 12 (table ++ entry f e) ≡ drop 12 table ++ entry f e = drop-append-le 12 table (entry f e) (omega arith) in
    let again = entries-push n (drop 12 table) f e (omega (arith, length-drop 12 table)) hf he in
    ap (λ (es : List (ℕ × ℕ)). (u32_at (table ++ entry f e) 0, u64_at (table ++ entry f e) 4) ∷ es) (ap (entries_of (suc n)) rest ∙ again) ∙ rw (u32_at-front table (entry f e) 0 (omega arith), u64_at-front table (entry f e) 4 (omega arith)) refl

pub are_entries-push : (low start total : ℕ) (es : List (ℕ × ℕ)) (f e : ℕ) → are_entries low start total es ≡ true → low_after low es ≤ f → total ≤ e → are_entries low start e (es ++ (f, e) ∷ []) ≡ true
are_entries-push low start total [] f e h lo le =
    let s = eqb-true start total h in
    entries-go low start e (f, e) [] lo (omega arith) ∙ eq-eqb e e refl
are_entries-push low start total (x ∷ es) f e h lo le =
    let n = entries-next low start total x es h in
    entries-go low start e x (es ++ (f, e) ∷ []) n.field n.end ∙ are_entries-push (x.0 + 1) x.1 total es f e n.others lo le

pub low_after-parts : (low start : ℕ) (es : List (ℕ × ℕ)) (body : List ℕ) → low_after low (parts_from start es body) ≡ low_after low es
low_after-parts low start [] body = refl
low_after-parts low start (e ∷ es) body = low_after-parts (e.0 + 1) e.1 es body

pub low_after-length : (low start total : ℕ) (es : List (ℕ × ℕ)) → are_entries low start total es ≡ true → low + length es ≤ low_after low es
low_after-length low start total [] h = omega arith
low_after-length low start total (e ∷ es) h =
    let n = entries-next low start total e es h in
    let more : e.0 + 1 + length es ≤ low_after (e.0 + 1) es = low_after-length (e.0 + 1) e.1 total es n.others in
    omega (arith, n.field, more)

-- ---- parts

pub parts-front : (low start total : ℕ) (es : List (ℕ × ℕ)) (body more : List ℕ) → are_entries low start total es ≡ true → total ≤ length body → parts_from start es (body ++ more) ≡ parts_from start es body
parts-front low start total [] body more h le = refl
parts-front low start total (e ∷ es) body more h le =
    let n = entries-next low start total e es h in
    rw (range-front body more start e.1 n.end (omega (arith, n.within)), parts-front (e.0 + 1) e.1 total es body more n.others le) refl

pub parts-push : (low start : ℕ) (es : List (ℕ × ℕ)) (body more : List ℕ) (f e : ℕ) → are_entries low start (length body) es ≡ true → e ≡ length body + length more
    → parts_from start (es ++ (f, e) ∷ []) (body ++ more) ≡ parts_from start es body ++ (f, more) ∷ []
parts-push low start [] body more f e h len =
    let s = eqb-true start (length body) h in
    let d : drop start (body ++ more) ≡ more = drop_at body more start (sym s) in
    let k : length more ≤ e - start = omega arith in
    ap (λ (l : List ℕ). (f, l) ∷ []) (ap (take (e - start)) d ∙ take_all (e - start) more k)
parts-push low start (x ∷ es) body more f e h len =
    let n = entries-next low start (length body) x es h in
    rw (range-front body more start x.1 n.end (omega (arith, n.within)), parts-push (x.0 + 1) x.1 es body more f e n.others len) refl

-- ---- the whole file

pub written : (body table : List ℕ) (n : ℕ) → IsWritten body table n → composite ((body ++ table) ++ to_le_bytes w32 n) ≡ Some (parts_from 0 (entries_of n table) body)
written body table n w =
    let last = to_le_bytes w32 n in
    let all : List ℕ = (body ++ table) ++ last in
    let len : length all ≡ length body + 12 * n + 4 = omega (arith, length-append (body ++ table) last, length-append body table, w.room) in
    let at : length (body ++ table) ≡ length all - 4 = omega (arith, length-append body table, w.room, len) in
    let grouped : all ≡ body ++ (table ++ last) = append_assoc body table last in
    let count : n ≡ count_of all = sym (ap (λ (l : List ℕ). u32_at ((body ++ table) ++ l) (length all - 4)) (sym (append-nil last)) ∙ u32_at-written (body ++ table) [] n (length all - 4) w.small at) in
    let k : length all - (4 + 12 * n) ≡ length body = omega (arith, len) in
    let t : table ++ last ≡ drop (length all - (4 + 12 * n)) all = sym (ap (drop (length all - (4 + 12 * n))) grouped ∙ drop_at body (table ++ last) (length all - (4 + 12 * n)) (sym k)) in
    let s : IsSplit all (table ++ last) n = record { count = count; long = omega (arith, len); table_is = t } in
    let es : entries_of n (table ++ last) ≡ entries_of n table = entries-front n table last (omega (arith, w.room)) in
    let good : is_composite all ≡ true = composite-by all (table ++ last) n s ∙ rw (k, es) w.good in
    let parts : parts_of all ≡ parts_from 0 (entries_of n table) body = parts-by all (table ++ last) n s ∙ rw (es, grouped) (parts-front 0 0 (length body) (entries_of n table) body (table ++ last) w.good (omega arith)) in
    rw (good, parts) refl

-- one more part
pub record IsPushed (body table more : List ℕ) (n f e : ℕ) : Type 0 where
  pub keeps : IsWritten (body ++ more) (table ++ entry f e) (n + 1)
  pub parts : parts_from 0 (entries_of (n + 1) (table ++ entry f e)) (body ++ more) ≡ parts_from 0 (entries_of n table) body ++ (f, more) ∷ []

pub is_pushed : (body table more : List ℕ) (n f e : ℕ) → IsWritten body table n → low_after 0 (parts_from 0 (entries_of n table) body) ≤ f → f < 2 ^ 32 - 1 → e ≡ length body + length more → e < 2 ^ 64 → IsPushed body table more n f e
is_pushed body table more n f e w asc lim len small =
    let low : low_after 0 (entries_of n table) ≤ f = subst (λ (k : ℕ). k ≤ f) (low_after-parts 0 0 (entries_of n table) body) asc in
    let many = low_after-length 0 0 (length body) (entries_of n table) w.good in
    let size = length-entries_of n table in
    let one : n + 1 ≡ suc n = omega arith in
    let es : entries_of (n + 1) (table ++ entry f e) ≡ entries_of n table ++ (f, e) ∷ [] = ap (λ (k : ℕ). entries_of k (table ++ entry f e)) one ∙ entries-push n table f e w.room (omega arith) small in
    let total : length (body ++ more) ≡ e = omega (arith, length-append body more, len) in
    record {
      keeps = record {
        small = omega (arith, low, many, size);
        room = omega (arith, length-append table (entry f e), w.room);
        good = rw (es, total) (are_entries-push 0 0 (length body) (entries_of n table) f e w.good low (omega arith));
      };
      parts = rw es (parts-push 0 0 (entries_of n table) body more f e w.good len);
    }
