-- Keys of columns by path and kind. Where they ascend so, no key comes twice, and no path has both I64 and U64.
use Rattle.std.proofs.Common.{◌≡◌, ℕ, zero, suc, Bool, true, false, ◌||◌, List, [], ◌∷◌, refl, sym, ap, subst, ◌∙◌}
use Rattle.std.specs.Cmp.{IsTotalOrder}
use Rattle.std.specs.Cmp.Lexicographic.{slice_cmp}
use Rattle.std.specs.List.{AllByRecursion}
use Rattle.std.specs.List.Sorted.{IsStrictlySortedBy}
use Rattle.std.specs.Ordering.{eq_by_cmp, nat_cmp, on, ordering_reverse, ordering_then, then_cmp}
use Rattle.std.specs.declared.cmp.Ordering.{Ordering}
use Rattle.std.specs.declared.cmp.Ordering.TheVariants.{Less, Equal, Greater}
use Rattle.std.proofs.lemmas.Bool.{false≢true}
use Rattle.std.specs.FinMap.{nat_cmp-IsAntisymmetric}
use Rattle.std.proofs.lemmas.Cmp.{nat_cmp_total, nat_list_cmp_total, on_total, then_total}
use Rattle.seg_common.proofs.TabulatedMaps.{texts_apart}
use Rattle.seg_common.specs.TabulatedMaps.{is_among}
use Rattle.seg_common.specs.declared.column_type.ColumnType.{ColumnType}
use Rattle.seg_common.specs.declared.column_type.ColumnType.TheVariants.{I64, U64}
use Rattle.seg_common.proofs.Numbers.{is_equal, then_first, then_second}
use Rattle.seg_model.specs.Codes.{type_of_place, type_of_place-type_place}
use Rattle.seg_model.specs.Columns.{ColumnKey, column_cmp, type_place}

-- numbers are of one kind
abbrev pub kind_place : ColumnType → ℕ
kind_place I64 = 1
kind_place U64 = 1
kind_place t = type_place t

abbrev pub kind_cmp : ColumnKey → ColumnKey → Ordering
kind_cmp = then_cmp (on (λ k. k.path) (slice_cmp nat_cmp)) (on (λ k. kind_place k.type) nat_cmp)

pub kind_total : IsTotalOrder kind_cmp
kind_total = then_total (on_total (λ (k : ColumnKey). k.path) nat_list_cmp_total)
    (on_total (λ (k : ColumnKey). kind_place k.type) nat_cmp_total)

-- ---- one key

reversed : (o : Ordering) → o ≡ ordering_reverse o → o ≡ Equal
reversed Less e = cc e
reversed Equal e = refl
reversed Greater e = cc e

pub ties : {K : Type 0} {R : K → K → Ordering} → IsTotalOrder R → (k : K) → R k k ≡ Equal
ties {R = R} total k = reversed (R k k) (total.antisymm k k)

pub same_type : (t u : ColumnType) → type_place t ≡ type_place u → t ≡ u
same_type t u e = sym (type_of_place-type_place t) ∙ (ap type_of_place e ∙ type_of_place-type_place u)

-- a key that ties with another is that one
pub same_column : (q k : ColumnKey) → eq_by_cmp column_cmp q k ≡ true → q ≡ k
same_column q k e =
    let o = is_equal (column_cmp q k) e in
    let path = texts_apart q.path k.path (then_first (slice_cmp nat_cmp q.path k.path) (nat_cmp (type_place q.type) (type_place k.type)) o) in
    let type = same_type q.type k.type (nat_cmp-IsAntisymmetric (type_place q.type) (type_place k.type)
    (then_second (slice_cmp nat_cmp q.path k.path) (nat_cmp (type_place q.type) (type_place k.type)) o)) in
    λ i. record { path = path i; type = type i }

-- ---- among keys that ascend

-- a key below each of some is below one that is among them
pub below_among : (k q : ColumnKey) (ks : List ColumnKey) → AllByRecursion (λ y. kind_cmp k y ≡ Less) ks
    → is_among column_cmp ks q ≡ true → kind_cmp k q ≡ Less
below_among k q [] all among = absurd (false≢true among)
below_among k q (x ∷ xs) all among = by (eq_by_cmp column_cmp q x) refl (below_among k q xs all.1) among
  where
    by : (b : Bool) → eq_by_cmp column_cmp q x ≡ b → (is_among column_cmp xs q ≡ true → kind_cmp k q ≡ Less)
        → (b || is_among column_cmp xs q) ≡ true → kind_cmp k q ≡ Less
    by true e rest h = subst (λ (y : ColumnKey). kind_cmp k y ≡ Less) (sym (same_column q x e)) all.0
    by false e rest h = rest h

not_below : (k q : ColumnKey) → kind_cmp k q ≡ Equal → kind_cmp k q ≡ Less → ⊥
not_below k q tie less = equal_less (sym tie ∙ less)
  where
    equal_less : Equal ≡ Less → ⊥
    equal_less e = cc e

-- a key that is above another isn't that one
pub is_other : (k q : ColumnKey) → kind_cmp k q ≡ Less → eq_by_cmp column_cmp q k ≡ false
is_other k q less = by (eq_by_cmp column_cmp q k) refl
  where
    by : (b : Bool) → eq_by_cmp column_cmp q k ≡ b → eq_by_cmp column_cmp q k ≡ false
    by false e = e
    by true e = absurd (not_below k k (ties kind_total k) (subst (λ (y : ColumnKey). kind_cmp k y ≡ Less) (same_column q k e) less))

-- the two keys of numbers of a path
abbrev pub signed_key : List ℕ → ColumnKey
signed_key path = record { path = path; type = I64 }

abbrev pub unsigned_key : List ℕ → ColumnKey
unsigned_key path = record { path = path; type = U64 }

numbers_tie : (path : List ℕ) → kind_cmp (signed_key path) (unsigned_key path) ≡ Equal
numbers_tie path = ap (λ o. ordering_then o Equal) (ties nat_list_cmp_total path)

also_tie : (path : List ℕ) → kind_cmp (unsigned_key path) (signed_key path) ≡ Equal
also_tie path = ap (λ o. ordering_then o Equal) (ties nat_list_cmp_total path)

apart : (path : List ℕ) → signed_key path ≡ unsigned_key path → ⊥
apart path e = types_apart (ap (λ (k : ColumnKey). type_place k.type) e)
  where
    types_apart : zero ≡ suc zero → ⊥
    types_apart e = cc e

pub one_of_both : (path : List ℕ) (ks : List ColumnKey) → IsStrictlySortedBy kind_cmp ks
    → is_among column_cmp ks (signed_key path) ≡ true → is_among column_cmp ks (unsigned_key path) ≡ true → ⊥
unfolding IsStrictlySortedBy
one_of_both path [] up i u = false≢true i
one_of_both path (k ∷ ks) up i u =
    by (eq_by_cmp column_cmp (signed_key path) k) refl (eq_by_cmp column_cmp (unsigned_key path) k) refl (one_of_both path ks up.1) i u
  where
    by : (a : Bool) → eq_by_cmp column_cmp (signed_key path) k ≡ a → (b : Bool) → eq_by_cmp column_cmp (unsigned_key path) k ≡ b
        → (is_among column_cmp ks (signed_key path) ≡ true → is_among column_cmp ks (unsigned_key path) ≡ true → ⊥)
        → (a || is_among column_cmp ks (signed_key path)) ≡ true → (b || is_among column_cmp ks (unsigned_key path)) ≡ true → ⊥
    by true e true f rest i u = apart path (same_column (signed_key path) k e ∙ sym (same_column (unsigned_key path) k f))
    by true e false f rest i u = not_below (signed_key path) (unsigned_key path) (numbers_tie path)
        (subst (λ (y : ColumnKey). kind_cmp y (unsigned_key path) ≡ Less) (sym (same_column (signed_key path) k e)) (below_among k (unsigned_key path) ks up.0 u))
    by false e true f rest i u = not_below (unsigned_key path) (signed_key path) (also_tie path)
        (subst (λ (y : ColumnKey). kind_cmp y (signed_key path) ≡ Less) (sym (same_column (unsigned_key path) k f)) (below_among k (signed_key path) ks up.0 i))
    by false e false f rest i u = rest i u
