use Rattle.std.proofs.Common.{sym, true≢false}
use Rattle.seg_meta.proofs.JsonOfBytes.{json_of-read, json_of-refused}
use Rattle.seg_meta.proofs.meta_read.read_meta.Goals as goal

pub returns-in-Ok-clause-ok : goal.returns-in-Ok-clause-ok
returns-in-Ok-clause-ok c = let e = json_of-read c.args.bytes.now _ c.in-Ok.ensures.ok in rw e c.meta_from.ensures.ok

pub returns-in-Ok-clause-none : goal.returns-in-Ok-clause-none
returns-in-Ok-clause-none c is = let e = json_of-read c.args.bytes.now _ c.in-Ok.ensures.ok in rw e (c.meta_from.ensures.none is)

pub returns-else-is_memory-clause-none : goal.returns-else-is_memory-clause-none
returns-else-is_memory-clause-none c _ = let e = json_of-refused c.args.bytes.now (c.in-Err.ensures.err (λ h. true≢false (sym (c.if-is_memory.ensures.1 h)))) in rw e
