-- Paths and prefixes of facets are UTF-8.
use Rattle.std.proofs.Common.{◌≡◌, ℕ, zero, suc, ◌<◌, ◌≤◌, Bool, true, false, cond, List, [], ◌∷◌, ◌++◌, map, sym, refl, ap, ◌∙◌, subst, arith, append_assoc, append-nil}
use Rattle.std.specs.Prelude.{◌==◌, IsUtf8}
use mathlib.Core.Bool.{true≢false}
use lib.Dec.{ltb}
use lib.Utf8.{scalar, scalars, encode, encodes, low_scalar}
use Rattle.std.specs.List.{join_with_byte, AllByRecursion}
use Rattle.std.proofs.lemmas.Str.{IsUtf8-append, IsUtf8-nil, IsUtf8-encode, encode_ascii}
use Rattle.std.proofs.lemmas.Bool.Decides.{nat_tests}
use Rattle.std.proofs.lemmas.List.{map-append}
use Rattle.std.proofs.lemmas.Bool.{and_parts}
use Rattle.seg_common.proofs.ReplacedBytes.{AreHigh, encode_high}
use Rattle.seg_model.specs.Leaves.{dot_expanded, joined_path}
use Rattle.seg_model.specs.Occurrences.{prefixes_from, facet_prefixes}
use Rattle.seg_model.specs.DocumentTerms.{type_code}
use Rattle.seg_model.specs.DocumentCheck.{has_no_zero}
use Rattle.seg_model.specs.Shape.{path_part}

-- ---- dots

dots_high : (bs : List ℕ) → AreHigh bs → map dot_expanded bs ≡ bs
dots_high [] h = refl
dots_high (b ∷ bs) h =
    let le : 128 ≤ b = h.0 in
    let same : dot_expanded b ≡ b = grind (arith, nat_tests) in
    λ i. same i ∷ dots_high bs h.1 i

-- one byte of ASCII is text
pub IsUtf8-ascii : (c : ℕ) → c < 128 → IsUtf8 (c ∷ [])
IsUtf8-ascii c lt = subst IsUtf8 (encode_ascii c lt) (IsUtf8-encode c (low c lt))
  where
    low : (c : ℕ) → c < 128 → scalar c ≡ true
    low c lt = low_scalar c (omega arith)

dot_low : (c : ℕ) → c < 128 → dot_expanded c < 128
dot_low c lt = by (c == 46)
  where
    by : (b : Bool) → cond b 1 c < 128
    by true = omega arith
    by false = lt

dots_encode : (c : ℕ) → scalar c ≡ true → IsUtf8 (map dot_expanded (encode c))
dots_encode c s = by (ltb c 128) refl
  where
    by : (b : Bool) → ltb c 128 ≡ b → IsUtf8 (map dot_expanded (encode c))
    by true e = let lt : c < 128 = grind (arith, nat_tests) in subst IsUtf8 (sym (ap (map dot_expanded) (encode_ascii c lt))) (IsUtf8-ascii (dot_expanded c) (dot_low c lt))
    by false e = let le : 128 ≤ c = grind (arith, nat_tests) in subst IsUtf8 (sym (dots_high (encode c) (encode_high c le))) (IsUtf8-encode c s)

dots_encodes : (cs : List ℕ) → scalars cs ≡ true → IsUtf8 (map dot_expanded (encodes cs))
dots_encodes [] s = IsUtf8-nil
dots_encodes (c ∷ cs) s =
    subst IsUtf8 (sym (map-append dot_expanded (encode c) (encodes cs)))
    (IsUtf8-append _ _ (dots_encode c (and_parts (scalar c) (scalars cs) s).0) (dots_encodes cs (and_parts (scalar c) (scalars cs) s).1))

IsUtf8-dots : (bs : List ℕ) → IsUtf8 bs → IsUtf8 (map dot_expanded bs)
IsUtf8-dots bs h = subst (λ l. IsUtf8 (map dot_expanded l)) h.1.1 (dots_encodes h.0 h.1.0)

-- ---- joined paths

abbrev pub AreUtf8 : List (List ℕ) → Type 0
AreUtf8 keys = AllByRecursion IsUtf8 keys

abbrev pub HaveNoZero : List (List ℕ) → Type 0
HaveNoZero keys = AllByRecursion (λ k. has_no_zero k ≡ true) keys

IsUtf8-join : (keys : List (List ℕ)) → AreUtf8 keys → IsUtf8 (join_with_byte 1 keys)
IsUtf8-join [] h = IsUtf8-nil
IsUtf8-join (k ∷ []) h = h.0
IsUtf8-join (k ∷ j ∷ keys) h = IsUtf8-append k _ h.0 (IsUtf8-append (1 ∷ []) _ (IsUtf8-ascii 1 (omega arith)) (IsUtf8-join (j ∷ keys) h.1))

pub IsUtf8-joined_path : (expand : Bool) (keys : List (List ℕ)) → AreUtf8 keys → IsUtf8 (joined_path expand keys)
IsUtf8-joined_path true keys h = IsUtf8-dots (join_with_byte 1 keys) (IsUtf8-join keys h)
IsUtf8-joined_path false keys h = IsUtf8-join keys h

pub has_no_zero-append : (xs ys : List ℕ) → has_no_zero xs ≡ true → has_no_zero ys ≡ true → has_no_zero (xs ++ ys) ≡ true
has_no_zero-append [] ys h k = k
has_no_zero-append (x ∷ xs) ys h k = by (x == 0) h (has_no_zero-append xs ys)
  where
    by : (b : Bool) → cond b false (has_no_zero xs) ≡ true → (has_no_zero xs ≡ true → has_no_zero ys ≡ true → has_no_zero (xs ++ ys) ≡ true) → cond b false (has_no_zero (xs ++ ys)) ≡ true
    by true h later = h
    by false h later = later h k

has_no_zero-join : (keys : List (List ℕ)) → HaveNoZero keys → has_no_zero (join_with_byte 1 keys) ≡ true
has_no_zero-join [] h = refl
has_no_zero-join (k ∷ []) h = h.0
has_no_zero-join (k ∷ j ∷ keys) h = has_no_zero-append k _ h.0 (has_no_zero-join (j ∷ keys) h.1)

pub has_no_zero-dots : (bs : List ℕ) → has_no_zero bs ≡ true → has_no_zero (map dot_expanded bs) ≡ true
has_no_zero-dots [] h = refl
has_no_zero-dots (b ∷ bs) h = by (b == 0) (b == 46) refl h (has_no_zero-dots bs)
  where
    by : (x y : Bool) → (b == 0) ≡ x → cond x false (has_no_zero bs) ≡ true → (has_no_zero bs ≡ true → has_no_zero (map dot_expanded bs) ≡ true) → cond (cond y 1 b == 0) false (has_no_zero (map dot_expanded bs)) ≡ true
    by true y e h later = absurd (true≢false (sym h))
    by false true e h later = later h
    by false false e h later = ap (λ x. cond x false (has_no_zero (map dot_expanded bs))) e ∙ later h

pub has_no_zero-joined_path : (expand : Bool) (keys : List (List ℕ)) → HaveNoZero keys → has_no_zero (joined_path expand keys) ≡ true
has_no_zero-joined_path true keys h = has_no_zero-dots (join_with_byte 1 keys) (has_no_zero-join keys h)
has_no_zero-joined_path false keys h = has_no_zero-join keys h

-- what is before and after the first byte 0
pub path_part-path : (path rest : List ℕ) → has_no_zero path ≡ true → path_part (path ++ 0 ∷ rest) ≡ path
path_part-path [] rest h = refl
path_part-path (b ∷ path) rest h = by (b == 0) h (path_part-path path rest)
  where
    by : (x : Bool) → cond x false (has_no_zero path) ≡ true → (has_no_zero path ≡ true → path_part (path ++ 0 ∷ rest) ≡ path) → cond x [] (b ∷ path_part (path ++ 0 ∷ rest)) ≡ b ∷ path
    by true h later = absurd (true≢false (sym h))
    by false h later = ap (λ l. b ∷ l) (later h)

pub type_code-path : (path : List ℕ) (code : ℕ) (rest : List ℕ) → has_no_zero path ≡ true → type_code (path ++ 0 ∷ code ∷ rest) ≡ code
type_code-path [] code rest h = refl
type_code-path (b ∷ []) code rest h = by (b == 0) h
  where
    by : (x : Bool) → cond x false true ≡ true → cond x 0 code ≡ code
    by true h = absurd (true≢false (sym h))
    by false h = refl
type_code-path (b ∷ c ∷ path) code rest h = by (b == 0) h (type_code-path (c ∷ path) code rest)
  where
    by : (x : Bool) → cond x false (has_no_zero (c ∷ path)) ≡ true → (has_no_zero (c ∷ path) ≡ true → type_code ((c ∷ path) ++ 0 ∷ code ∷ rest) ≡ code) → cond x c (type_code ((c ∷ path) ++ 0 ∷ code ∷ rest)) ≡ code
    by true h later = absurd (true≢false (sym h))
    by false h later = later h

-- ---- prefixes of facets

abbrev AreNotZero : List ℕ → Type 0
AreNotZero bs = AllByRecursion (λ b. 0 < b) bs

not_zero : (bs : List ℕ) → AreHigh bs → AreNotZero bs
not_zero [] h = tt
not_zero (b ∷ bs) h = (omega (arith, h.0), not_zero bs h.1)

prefixes_from-past : (before bs rest : List ℕ) → AreNotZero bs → prefixes_from before (bs ++ rest) ≡ prefixes_from (before ++ bs) rest
prefixes_from-past before [] rest h = ap (λ l. prefixes_from l rest) (sym (append-nil before))
prefixes_from-past before (zero ∷ bs) rest h = absurd (omega (arith, h.0))
prefixes_from-past before (suc b ∷ bs) rest h = prefixes_from-past (before ++ suc b ∷ []) bs rest h.1 ∙ ap (λ l. prefixes_from l rest) (append_assoc before (suc b ∷ []) bs)

AreUtf8-prefixes : (before cs : List ℕ) → IsUtf8 before → scalars cs ≡ true → AreUtf8 (prefixes_from before (encodes cs))
AreUtf8-prefixes before [] u s = (u, tt)
AreUtf8-prefixes before (zero ∷ cs) u s =
    subst (λ l. AreUtf8 (prefixes_from before (l ++ encodes cs))) (sym (encode_ascii 0 (omega arith)))
    (u, AreUtf8-prefixes (before ++ 0 ∷ []) cs (IsUtf8-append before (0 ∷ []) u (IsUtf8-ascii 0 (omega arith))) (and_parts (scalar zero) (scalars cs) s).1)
AreUtf8-prefixes before (suc c ∷ cs) u s =
    subst AreUtf8 (sym (prefixes_from-past before (encode (suc c)) (encodes cs) (by (ltb (suc c) 128) refl)))
    (AreUtf8-prefixes (before ++ encode (suc c)) cs (IsUtf8-append before (encode (suc c)) u (IsUtf8-encode (suc c) (and_parts (scalar (suc c)) (scalars cs) s).0)) (and_parts (scalar (suc c)) (scalars cs) s).1)
  where
    by : (b : Bool) → ltb (suc c) 128 ≡ b → AreNotZero (encode (suc c))
    by true e = let lt : suc c < 128 = grind (arith, nat_tests) in subst AreNotZero (sym (encode_ascii (suc c) lt)) (omega arith, tt)
    by false e = let le : 128 ≤ suc c = grind (arith, nat_tests) in not_zero (encode (suc c)) (encode_high (suc c) le)

pub AreUtf8-facet_prefixes : (encoded : List ℕ) → IsUtf8 encoded → AreUtf8 (facet_prefixes encoded)
AreUtf8-facet_prefixes [] h = (IsUtf8-nil, tt)
AreUtf8-facet_prefixes (b ∷ encoded) h = (IsUtf8-nil, subst (λ l. AreUtf8 (prefixes_from [] l)) h.1.1 (AreUtf8-prefixes [] h.0 IsUtf8-nil h.1.0))
