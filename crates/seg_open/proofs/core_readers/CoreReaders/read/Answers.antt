use Rattle.seg_open.proofs.core_readers.CoreReaders.read.Goals as goal

pub with_rest-requires : goal.with_rest-requires
with_rest-requires g c = record { few = c.in-Ok.ensures.few }

pub returns-in-Ok : goal.returns-in-Ok
returns-in-Ok g c = c.with_rest.ensures _ c.in-Ok.ensures

pub returns-in-Err : goal.returns-in-Err
returns-in-Err g c = c.in-Err.ensures
