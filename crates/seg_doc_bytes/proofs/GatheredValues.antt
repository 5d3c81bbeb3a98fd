-- Things that are made one after another.
use Rattle.std.proofs.Common.{◌≡◌, ℕ, ◌+◌, ◌-◌, ◌≤◌, ◌<◌, List, [], ◌∷◌, ◌++◌, Some, None, Option, refl, sym, ap, ◌∙◌, arith, append_assoc, append-nil}
use Rattle.seg_common.specs.Varint.{varint_at}
use Rattle.seg_common.proofs.Numbers.{one_left}
use Rattle.seg_doc_bytes.specs.FrontReaders.{Reader, then_read, made_of, times_at, counted_at}

-- some were made, and this many are left
abbrev pub Gathered : {A : Type 0} → Reader A → ℕ → List ℕ → List A → ℕ → List ℕ → Type 0
Gathered read count old values left now = times_at read count old ≡ made_of (λ ys. values ++ ys) (times_at read left now)

-- none before it
pub same : {A : Type 0} (o : Option (List A × List ℕ)) → o ≡ made_of (λ ys. [] ++ ys) o
same None = refl
same (Some p) = refl

pub none_yet : {A : Type 0} (read : Reader A) (count : ℕ) (old : List ℕ) (values : List A) → values ≡ [] → Gathered read count old values (count - 0) old
none_yet read count old values none =
    let all : count ≡ count - 0 = omega arith in
    same (times_at read count old) ∙ (λ i. made_of (λ ys. sym none i ++ ys) (times_at read (all i) old))

-- one more before it
pub behind : {A : Type 0} (values : List A) (v : A) (o : Option (List A × List ℕ)) → made_of (λ ys. values ++ ys) (then_read o (λ xs after. Some (v ∷ xs, after))) ≡ made_of (λ ys. (values ++ v ∷ []) ++ ys) o
behind values v None = refl
behind values v (Some p) = ap (λ l. Some (l, p.1)) (sym (append_assoc values (v ∷ []) p.0))

-- one more
pub one_more : {A : Type 0} (read : Reader A) (count : ℕ) (old : List ℕ) (values more : List A) (v : A) (i : ℕ) (now after : List ℕ) → i < count → Gathered read count old values (count - i) now → read now ≡ Some (v, after) → more ≡ values ++ v ∷ [] → Gathered read count old more (count - (i + 1)) after
one_more read count old values more v i now after lt so_far is more_is =
    let left = count - (i + 1) in
    so_far
    ∙ ap (λ n. made_of (λ ys. values ++ ys) (times_at read n now)) (one_left count i lt)
    ∙ ap (λ o. made_of (λ ys. values ++ ys) (then_read o (λ x rest. then_read (times_at read left rest) (λ xs a. Some (x ∷ xs, a))))) is
    ∙ behind values v (times_at read left after)
    ∙ ap (λ vs. made_of (λ ys. vs ++ ys) (times_at read left after)) (sym more_is)

-- one that isn't there
pub one_lacks : {A : Type 0} (read : Reader A) (count : ℕ) (old : List ℕ) (values : List A) (i : ℕ) (now : List ℕ) → i < count → Gathered read count old values (count - i) now → read now ≡ None → times_at read count old ≡ None
one_lacks read count old values i now lt so_far none =
    let left = count - (i + 1) in
    so_far
    ∙ ap (λ n. made_of (λ ys. values ++ ys) (times_at read n now)) (one_left count i lt)
    ∙ ap (λ o. made_of (λ ys. values ++ ys) (then_read o (λ x rest. then_read (times_at read left rest) (λ xs a. Some (x ∷ xs, a))))) none

-- all of them
pub all_made : {A : Type 0} (read : Reader A) (count : ℕ) (old : List ℕ) (values : List A) (i : ℕ) (now : List ℕ) → count ≤ i → Gathered read count old values (count - i) now → times_at read count old ≡ Some (values, now)
all_made read count old values i now past so_far =
    let none : count - i ≡ 0 = omega (arith, past) in
    so_far ∙ ap (λ n. made_of (λ ys. values ++ ys) (times_at read n now)) none ∙ ap (λ vs. Some (vs, now)) (append-nil values)

-- after their number
pub counted : {A : Type 0} (read : Reader A) (bytes rest : List ℕ) (count : ℕ) (o : Option (List A × List ℕ)) → varint_at bytes ≡ Some (count, rest) → times_at read count rest ≡ o → counted_at read bytes ≡ o
counted read bytes rest count o number all = ap (λ r. then_read r (times_at read)) number ∙ all
