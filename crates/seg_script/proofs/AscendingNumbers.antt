-- Numbers of which each is below the next.
use Rattle.std.proofs.Common.{◌≡◌, ℕ, ◌+◌, ◌<◌, ◌≤◌, List, [], ◌∷◌, length, drop, get_or, drop-cons, add-one, Bool, true, false, ◌&&◌, nat_le, nat_lt, refl, sym, ap, arith}
use Rattle.std.proofs.lemmas.Bool.Decides.{nat_tests}
use Rattle.seg_script.specs.Filters.{ascends}

-- the same from a least number on
abbrev pub ascends_from : ℕ → List ℕ → Bool
ascends_from least [] = true
ascends_from least (n ∷ ns) = nat_le least n && ascends_from (n + 1) ns

below_next : (n m : ℕ) → nat_lt n m ≡ nat_le (n + 1) m
below_next n m = grind (arith, nat_tests)

pub ascends-next : (n : ℕ) (ns : List ℕ) → ascends (n ∷ ns) ≡ ascends_from (n + 1) ns
ascends-next n [] = refl
ascends-next n (m ∷ ns) = rw (below_next n m, ascends-next m ns) refl

from_none : (n : ℕ) → nat_le 0 n ≡ true
from_none n = grind (arith, nat_tests)

pub ascends-all : (ns : List ℕ) → ascends_from 0 ns ≡ ascends ns
ascends-all [] = refl
ascends-all (n ∷ ns) = rw (from_none n) (sym (ascends-next n ns))

dropped : (ns : List ℕ) (i n : ℕ) → i < length ns → n ≡ get_or ns i 0 → drop i ns ≡ n ∷ drop (i + 1) ns
dropped ns i n h is = rw (add-one, drop-cons ns i 0 h, ← is) refl

-- the next number, and then those after it
pub ascends_from-drop : (least : ℕ) (ns : List ℕ) (i n : ℕ) → i < length ns → n ≡ get_or ns i 0 → ascends_from least (drop i ns) ≡ (nat_le least n && ascends_from (n + 1) (drop (i + 1) ns))
ascends_from-drop least ns i n h is = ap (ascends_from least) (dropped ns i n h is)

-- a number below the least
pub not_least : (least n : ℕ) (b : Bool) → n < least → (nat_le least n && b) ≡ false
not_least least n b h = let e : nat_le least n ≡ false = grind (arith, nat_tests) in rw e refl

-- and one that is not
pub from_least : (least n : ℕ) (b : Bool) → least ≤ n → (nat_le least n && b) ≡ b
from_least least n b h = let e : nat_le least n ≡ true = grind (arith, nat_tests) in rw e refl
