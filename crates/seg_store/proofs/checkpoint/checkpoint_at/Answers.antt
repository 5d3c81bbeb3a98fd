use Rattle.std.proofs.Common.{Some, sym, ◌∙◌}
use Rattle.seg_store.proofs.EndTables.{checkpoint_found}
use Rattle.seg_store.proofs.checkpoint.checkpoint_at.Goals as goal

pub returns-clause-found : goal.returns-clause-found
returns-clause-found c n lt = checkpoint_found n c.args.table.now c.args.index lt ∙ (λ i. Some (sym c.u32_at.ensures i, sym c.u64_at.ensures i))
