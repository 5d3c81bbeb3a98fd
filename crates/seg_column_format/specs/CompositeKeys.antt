-- Keys of two parts, a small value and bytes.
use Rattle.std.specs.Prelude.{◌≡◌, ℕ, List, [], ◌∷◌, ◌++◌, Bool, IsTrue}
use Rattle.std.proofs.Common.{ap}
use Rattle.std.proofs.lemmas.Bool.{and_parts}
use Rattle.std.specs.Cmp.{IsEquivalence, IsPartialEquivalence, and_equiv, and_per, on_equiv, on_per, partial_equiv_from_equiv}
use Rattle.std.specs.Cmp.Lexicographic.{bytes_decides, nat_list_eq_equiv}
use Rattle.std.specs.Hash.{HashWrites}
use Rattle.std.specs.Ordering.{on, eq_of_both}
use Rattle.std.specs.Str.{bytes_eq}
use Rattle.seg_column_format.specs.declared.composite_key.CompositeKeyParts.{CompositeKeyParts}

-- what stands at the head, and bytes
pub record Composite (T : Type 0) : Type 0 where
  pub head : T
  pub bytes : List ℕ

-- a key as it is asked for
abbrev pub asked : {T : Type 0} → CompositeKeyParts T → Composite T
asked k = record { head = k.head; bytes = k.bytes.now }

-- both parts are equal
abbrev pub key_eq : {T : Type 0} → (T → T → Bool) → Composite T → Composite T → Bool
key_eq eq = eq_of_both (on (λ k. k.head) eq) (on (λ k. k.bytes) bytes_eq)

pub key_eq_equiv : {T : Type 0} → {eq : T → T → Bool} → IsEquivalence eq → IsEquivalence (key_eq eq)
key_eq_equiv laws = and_equiv (on_equiv (λ k. k.head) laws) (on_equiv (λ k. k.bytes) nat_list_eq_equiv)

pub key_eq_per : {T : Type 0} → {eq : T → T → Bool} → IsPartialEquivalence eq → IsPartialEquivalence (key_eq eq)
key_eq_per laws = and_per (on_per (λ k. k.head) laws) (on_per (λ k. k.bytes) (partial_equiv_from_equiv nat_list_eq_equiv))

-- what a hasher is fed: what the head feeds it, and all bytes at once
abbrev pub writes : {T : Type 0} → (T → HashWrites) → Composite T → HashWrites
writes fed k = fed k.head ++ k.bytes ∷ []

pub same_writes : {T : Type 0} → (eq : T → T → Bool) → (fed : T → HashWrites)
    → ((a b : T) → IsTrue (eq a b) → fed a ≡ fed b) → (x y : Composite T) → IsTrue (key_eq eq x y)
    → writes fed x ≡ writes fed y
same_writes eq fed alike x y h =
    let both = and_parts (eq x.head y.head) (bytes_eq x.bytes y.bytes) h in
    let head = alike x.head y.head both.0 in
    let bytes = (bytes_decides x.bytes y.bytes).0 both.1 in
    λ i. head i ++ bytes i ∷ []
