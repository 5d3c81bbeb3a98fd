use Rattle.std.proofs.Common.{◌≡◌, ℕ, ◌+◌, ◌<◌, ◌≤◌, ◌^◌, List, sym, subst, arith}
use Rattle.std.specs.Prelude.{Option, Some, None, IfSome}
use Rattle.seg_common.specs.WriterGrowth.{HasGrown}
use Rattle.seg_store.specs.Block.{Block}
use Rattle.seg_store.specs.BlockLaw.{AllAreStackedLast}
use Rattle.seg_store.specs.Store.{document_count}
use Rattle.seg_store.specs.WriterBlocks.{Taken, taken_count, with_stacked}
use Rattle.seg_surface.proofs.postings.stores.stack.Goals as goal

begun : (before : Option Taken) → IfSome before (λ w. taken_count w ≤ 1) → IfSome before (λ w. taken_count w ≤ 1 + 0)
begun None few = tt
begun (Some w) few = omega (arith, few)

room : (n times : ℕ) (blocks : List Block) (before : Option Taken) → n < times → times ≤ 6 → document_count blocks ≤ 1 → IfSome before (λ w. taken_count w ≤ 1 + n) → IfSome before (λ w. taken_count w + document_count blocks < 2 ^ 31)
room n times blocks None lt many small so_far = tt
room n times blocks (Some w) lt many small so_far = omega (arith, lt, many, small, so_far)

grown : AllAreStackedLast → (n : ℕ) (blocks : List Block) (before now : Option Taken) → document_count blocks ≤ 1 → HasGrown before now (with_stacked blocks) → IfSome before (λ w. taken_count w ≤ 1 + n) → IfSome now (λ w. taken_count w ≤ 1 + (n + 1))
grown law n blocks before now small grows so_far =
    let w = grows.kept in
    let was : taken_count w ≤ 1 + n = subst (λ o. IfSome o (λ (v : Taken). taken_count v ≤ 1 + n)) grows.was so_far in
    let added = (law blocks w).count in
    subst (λ o. IfSome o (λ (v : Taken). taken_count v ≤ 1 + (n + 1))) (sym grows.is) (omega (arith, was, added, small))

pub loop-init : goal.loop-init
loop-init c = begun c.args.writer.now c.requires.few

pub stack-requires : goal.stack-requires
stack-requires c = record { limit = room c.loop.counter c.args.times c.args.reader.now c.loop.writer c.loop-test.true c.requires.times c.requires.small c.loop.invariant }

pub loop-preserved : goal.loop-preserved
loop-preserved c = grown c.stacked_blocks_stay_in_order.ensures c.loop.counter c.args.reader.now c.loop.writer c.stack.new.self c.requires.small c.in_ok-stack.ensures.ok c.loop.invariant
