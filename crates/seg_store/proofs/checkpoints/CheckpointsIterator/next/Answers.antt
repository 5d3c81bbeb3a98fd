use Rattle.std.proofs.Common.{◌≡◌, ℕ, ◌+◌, ◌<◌, List, ◌∷◌, length, drop, sym, ap, ◌∙◌, arith}
use Rattle.std.proofs.lemmas.List.{drop_more, drop_all}
use Rattle.std.proofs.lemmas.List.FromFn.{length-map-range_with_len, get_or-map-range_with_len}
use Rattle.seg_store.specs.Block.{Block}
use Rattle.seg_store.specs.Checkpoints.{checkpoint_of, checkpoints}
use Rattle.seg_store.specs.declared.checkpoint.Checkpoint.{Checkpoint}
use Rattle.seg_store.proofs.checkpoints.CheckpointsIterator.next.Goals as goal

number : (blocks : List Block) → length (checkpoints blocks) ≡ length blocks
number blocks = length-map-range_with_len (checkpoint_of blocks) 0 (length blocks)

-- the first of those that are left
first_left : (blocks : List Block) (i : ℕ) (x : Checkpoint) → i < length blocks → x ≡ checkpoint_of blocks i → drop i (checkpoints blocks) ≡ x ∷ drop (i + 1) (checkpoints blocks)
first_left blocks i x lt is =
    drop_more (checkpoints blocks) i x (omega (arith, lt, number blocks))
    ∙ ap (λ c. c ∷ drop (i + 1) (checkpoints blocks)) (get_or-map-range_with_len (checkpoint_of blocks) 0 (length blocks) i i x lt (omega arith) ∙ sym is)

pub returns-then-self-block_count-clause-steps : goal.returns-then-self-block_count-clause-steps
returns-then-self-block_count-clause-steps c =
    let blocks = c.self.inside.reader.now in
    let none = sym c.self.view_is ∙ drop_all c.self.inside.next (checkpoints blocks) (omega (arith, c.if-self-block_count.true, c.block_count.ensures, number blocks)) in
    (none, none)

pub returns-clause-steps : goal.returns-clause-steps
returns-clause-steps c =
    let blocks = c.self.inside.reader.now in
    let is : c.checkpoint-checkpoint.result ≡ checkpoint_of blocks c.self.inside.next = λ i. record { doc_end = c.checkpoint-checkpoint.ensures.doc_end i; byte_end = c.checkpoint-checkpoint.ensures.byte_end i } in
    sym c.self.view_is ∙ first_left blocks c.self.inside.next c.checkpoint-checkpoint.result (omega (arith, c.if-self-block_count.false, c.block_count.ensures)) is

pub returns-clause-goes : goal.returns-clause-goes
returns-clause-goes c =
    let shorter = ap length (returns-clause-steps c) in
    record { on = λ finite. (tt, tt, omega (arith, shorter)); keeps = tt; rests = λ finite. tt }
