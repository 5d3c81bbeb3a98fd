-- Marks of documents, and the deletes that they are listed as.
use Rattle.std.proofs.Common.{◌≡◌, ℕ, ◌-◌, ◌≤◌, Bool, true, false, List, replicate, Option, Some, None, ap, ◌∙◌, subst, arith}
use Rattle.std.specs.Prelude.{cond, not}
use Rattle.std.specs.List.{Contains, count_by}
use Rattle.seg_bits.specs.BitSets.{member_count}
use Rattle.seg_meta.specs.IndexOfFiles.{Deletes}
use Rattle.seg_open.proofs.Exports.{all_alive, counts_both, some_lacks}
use Rattle.seg_batches.specs.WrittenSegments.{LacksSome, alive_of, deletes_of}

-- without a set there are none
no_deletes : (stamp n : ℕ) → deletes_of stamp (replicate n true) ≡ None
no_deletes stamp n =
    ap (λ b. cond b None (Some (let d : Deletes = record { number = count_by not (replicate n true); stamp = stamp } in d))) (all_alive n)

pub none_listed : (documents stamp : ℕ) (o : Option (List Bool)) → o ≡ None
    → deletes_of stamp (alive_of documents o) ≡ None
none_listed documents stamp o none = ap (λ p. deletes_of stamp (alive_of documents p)) none ∙ no_deletes stamp documents

pub all_listed_alive : (documents stamp : ℕ) (alive : List Bool) → alive ≡ replicate documents true
    → deletes_of stamp alive ≡ None
all_listed_alive documents stamp alive all = ap (deletes_of stamp) all ∙ no_deletes stamp documents

pub lacking_listed : (stamp : ℕ) (alive : List Bool) → Contains alive false
    → deletes_of stamp alive ≡ Some (record { number = count_by not alive; stamp = stamp })
lacking_listed stamp alive lacks =
    ap (λ b. cond b None (Some (let d : Deletes = record { number = count_by not alive; stamp = stamp } in d))) (some_lacks alive lacks).0

-- a set that lacks some has as many as it lacks
module _ (documents count : ℕ) (o : Option (List Bool)) (set : List Bool) (is : o ≡ Some set)
    (lacks : LacksSome documents o) (counted : count ≡ member_count set) where
  parts : LacksSome documents (Some set)
  parts = subst (LacksSome documents) is lacks

  number_is : count_by not set ≡ documents - count
  number_is = omega (arith, counts_both set, counted, parts.0)

  pub some_listed : (stamp : ℕ)
      → deletes_of stamp (alive_of documents o) ≡ Some (record { number = documents - count; stamp = stamp })
  some_listed stamp =
      ap (λ p. deletes_of stamp (alive_of documents p)) is
      ∙ ap (λ b. cond b None (Some (let d : Deletes = record { number = count_by not set; stamp = stamp } in d))) (some_lacks set parts.1).0
      ∙ ap (λ n. Some (let d : Deletes = record { number = n; stamp = stamp } in d)) number_is

  pub are_some : (1 ≤ documents - count) × (documents - count ≤ documents)
  are_some = (omega (arith, number_is, (some_lacks set parts.1).1), omega arith)
