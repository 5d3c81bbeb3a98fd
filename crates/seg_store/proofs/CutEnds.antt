-- Ends, and what they cut bytes into.
use Rattle.std.proofs.Common.{◌≡◌, ℕ, suc, ◌+◌, ◌-◌, ◌<◌, ◌≤◌, ◌^◌, true, List, [], ◌∷◌, ◌++◌, length, take, drop, refl, sym, ap, ◌∙◌, arith, slice_range}
use Rattle.std.specs.Prelude.{nat_le}
use Rattle.std.specs.List.{flat_map, AllByRecursion}
use Rattle.std.specs.Int.{w32, w64, to_le_bytes}
use Rattle.std.proofs.lemmas.List.{length-append, take_at, drop_at, take_all, append-nil}
use Rattle.std.proofs.lemmas.Bool.{leb-true, eqb-true, le-leb, eq-eqb, and_parts}
use Rattle.seg_common.specs.LittleEndian.{u32_at, u64_at}
use Rattle.seg_common.proofs.Lists.{range-front, length-range}
use Rattle.seg_common.proofs.Bytes.{u32_at-written, u64_at-written}
use Rattle.seg_store.specs.Ends.{numbers_of, are_ends, cut_from, last_bytes, but_last}
use Rattle.seg_store.specs.WriterBlocks.{byte_count}

-- ---- ends

pub ends-low : (start total : ℕ) (es : List ℕ) → are_ends start total es ≡ true → start ≤ total
ends-low start total [] h = omega (arith, eqb-true start total h)
ends-low start total (e ∷ es) h =
    let p = and_parts (nat_le start e) (are_ends e total es) h in
    omega (arith, leb-true start e p.0, ends-low e total es p.1)

pub record IsNext (start total e : ℕ) (es : List ℕ) : Type 0 where
  pub from : start ≤ e
  pub within : e ≤ total
  pub others : are_ends e total es ≡ true

pub ends-next : (start total e : ℕ) (es : List ℕ) → are_ends start total (e ∷ es) ≡ true → IsNext start total e es
ends-next start total e es h =
    let p = and_parts _ _ h in
    record { from = leb-true start e p.0; within = ends-low e total es p.1; others = p.1 }

pub ends-go : (start total e : ℕ) (es : List ℕ) → start ≤ e → are_ends start total (e ∷ es) ≡ are_ends e total es
ends-go start total e es h = rw (le-leb start e h) refl

-- one more end
pub ends-push : (start total e : ℕ) (es : List ℕ) → are_ends start total es ≡ true → total ≤ e → are_ends start e (es ++ e ∷ []) ≡ true
ends-push start total e [] h le = ends-go start e e [] (omega (arith, eqb-true start total h)) ∙ eq-eqb e e refl
ends-push start total e (x ∷ es) h le =
    let n = ends-next start total x es h in
    ends-go start e x (es ++ e ∷ []) n.from ∙ ends-push x total e es n.others le

pub ends-below : (limit start total : ℕ) (es : List ℕ) → are_ends start total es ≡ true → total < limit → AllByRecursion (λ e. e < limit) es
ends-below limit start total [] h lt = tt
ends-below limit start total (e ∷ es) h lt =
    let n = ends-next start total e es h in
    (omega (arith, n.within), ends-below limit e total es n.others lt)

-- ---- parts

pub cut-push : (start : ℕ) (es : List ℕ) (body more : List ℕ) (e : ℕ) → are_ends start (length body) es ≡ true → e ≡ length body + length more → cut_from start (es ++ e ∷ []) (body ++ more) ≡ cut_from start es body ++ more ∷ []
cut-push start [] body more e h len =
    let s = eqb-true start (length body) h in
    let d : drop start (body ++ more) ≡ more = drop_at body more start (sym s) in
    let k : length more ≤ e - start = omega arith in
    ap (λ (l : List ℕ). l ∷ []) (ap (take (e - start)) d ∙ take_all (e - start) more k)
cut-push start (x ∷ es) body more e h len =
    let n = ends-next start (length body) x es h in
    rw (range-front body more start x n.from n.within, cut-push x es body more e n.others len) refl

pub length-cut : (start : ℕ) (es body : List ℕ) → length (cut_from start es body) ≡ length es
length-cut start [] body = refl
length-cut start (e ∷ es) body = ap suc (length-cut e es body)

-- the parts have all bytes from the start on
pub bytes-cut : (start : ℕ) (es body : List ℕ) → are_ends start (length body) es ≡ true → start + byte_count (cut_from start es body) ≡ length body
bytes-cut start [] body h = omega (arith, eqb-true start (length body) h)
bytes-cut start (e ∷ es) body h =
    let n = ends-next start (length body) e es h in
    let size : length (slice_range body start e) ≡ e - start = length-range body start e n.from n.within in
    omega (arith, size, n.from, bytes-cut e es body n.others)

-- ---- the ends of bytes

pub last-appended : (a b : List ℕ) (n : ℕ) → n ≡ length b → last_bytes n (a ++ b) ≡ b
last-appended a b n e = drop_at a b (length (a ++ b) - n) (omega (arith, length-append a b))

pub but_last-appended : (a b : List ℕ) (n : ℕ) → n ≡ length b → but_last n (a ++ b) ≡ a
but_last-appended a b n e = take_at a b (length (a ++ b) - n) (omega (arith, length-append a b))

-- ---- numbers

-- a number by itself
pub u32_at-alone : (n : ℕ) → n < 2 ^ 32 → u32_at (to_le_bytes w32 n) 0 ≡ n
u32_at-alone n lt = ap (λ (l : List ℕ). u32_at l 0) (sym (append-nil (to_le_bytes w32 n))) ∙ u32_at-written [] [] n 0 lt refl

pub numbers_read : (ns : List ℕ) → AllByRecursion (λ n. n < 2 ^ 64) ns → numbers_of (length ns) (flat_map (to_le_bytes w64) ns) ≡ ns
numbers_read [] all = refl
numbers_read (n ∷ ns) all =
    let tail = flat_map (to_le_bytes w64) ns in
    let first : u64_at (to_le_bytes w64 n ++ tail) 0 ≡ n = u64_at-written [] tail n 0 all.0 refl in
    let others : drop 8 (to_le_bytes w64 n ++ tail) ≡ tail = drop_at (to_le_bytes w64 n) tail 8 refl in
    λ i. first i ∷ (ap (numbers_of (length ns)) others ∙ numbers_read ns all.1) i
