-- The number of the block that has a document.
use Rattle.std.proofs.Common.{◌≡◌, ℕ, zero, suc, ◌-◌, ◌<◌, ◌≤◌, List, [], ◌∷◌, length, take, true, false, refl, ap, arith}
use Rattle.std.specs.Prelude.{nat_lt}
use Rattle.std.proofs.lemmas.Bool.{lt-ltb, le-ltb}
use Rattle.seg_store.specs.Block.{Block}
use Rattle.seg_store.specs.Store.{document_count}
use Rattle.seg_store.specs.Cache.{block_of}

-- the block before which there are no more documents, and with which there are more
pub block_is : (bs : List Block) (i doc : ℕ) → i < length bs → document_count (take i bs) ≤ doc → doc < document_count (take (suc i) bs) → block_of bs doc ≡ i
block_is [] i doc lt from to = absurd (omega (arith, lt))
block_is (b ∷ bs) zero doc lt from to =
    let here : nat_lt doc (length b) ≡ true = lt-ltb doc (length b) (omega (arith, to)) in
    rw here refl
block_is (b ∷ bs) (suc i) doc lt from to =
    let past : nat_lt doc (length b) ≡ false = le-ltb doc (length b) (omega (arith, from)) in
    rw past (ap suc (block_is bs i (doc - length b) (omega (arith, lt)) (omega (arith, from)) (omega (arith, from, to))))
