use Rattle.seg_meta.specs.Metas.{deletes_of}
use Rattle.seg_open.proofs.AliveFileReads.{alive_damaged, alive_told, alive_unread}
use Rattle.seg_open.proofs.alive_set.read_alive_file.Goals as goal

pub returns-in-Err : goal.returns-in-Err
returns-in-Err g c = alive_unread c.args.id c.args.max_doc (deletes_of c.args.deletes) c.in-Err.e c.in-Err.ensures.does

pub returns-in-Some : goal.returns-in-Some
returns-in-Some g c =
    alive_told c.args.id c.args.max_doc (deletes_of c.args.deletes) c.in-Ok.bytes c.in-Ok.ensures.does c.in-Some.alive c.in-Some.ensures

pub returns-in-None : goal.returns-in-None
returns-in-None g c =
    alive_damaged c.args.id c.args.max_doc (deletes_of c.args.deletes) c.in-Ok.bytes c.in-Ok.ensures.does c.in-None.ensures
