use Rattle.std.proofs.Common.{sym, ap, true≢false}
use Rattle.seg_meta.specs.JsonReaders.{given}
use Rattle.seg_script.specs.Script.{script_from}
use Rattle.seg_script.proofs.JsonOfBytes.{json_of-read, json_of-refused}
use Rattle.seg_script.proofs.script.read_whole.Goals as goal

pub returns-in-Ok-clause-ok : goal.returns-in-Ok-clause-ok
returns-in-Ok-clause-ok c = let e = json_of-read c.args.bytes.items _ _ c.deref.ensures.value c.in-Ok.ensures.ok in rw e c.script_from.ensures.ok

pub returns-in-Ok-clause-not_script : goal.returns-in-Ok-clause-not_script
returns-in-Ok-clause-not_script c is = let e = json_of-read c.args.bytes.items _ _ c.deref.ensures.value c.in-Ok.ensures.ok in rw e (c.script_from.ensures.none is)

pub returns-else-is_memory-clause-not_script : goal.returns-else-is_memory-clause-not_script
returns-else-is_memory-clause-not_script c _ =
    ap (λ o. given o script_from) (json_of-refused c.args.bytes.items _ c.deref.ensures.value (c.in-Err.ensures.err (λ h. true≢false (sym (c.if-is_memory.ensures.1 h)))))
