use Rattle.std.proofs.Common.{sym, ◌∙◌, ap, Err}
use Rattle.seg_meta.proofs.MetaLoads.{loading_keeps, loads, can_not_read, says_none, no_memory}
use Rattle.seg_meta.specs.ParsedMeta.{meta_read}
use Rattle.seg_meta.proofs.load.load_metas.Goals as goal

pub returns-in-Err-clause-does : goal.returns-in-Err-clause-does
returns-in-Err-clause-does g c = can_not_read c.in-Err.ensures.does

pub returns-in-Ok-read_meta-clause-does : goal.returns-in-Ok-read_meta-clause-does
returns-in-Ok-read_meta-clause-does g c = loads c.in-Ok.bytes c.in-Ok-read_meta.metas c.in-Ok.ensures.does (ap meta_read (sym c.as_slice.ensures) ∙ c.in-Ok-read_meta.ensures.ok)

pub returns-in-Err-NoMeta-clause-does : goal.returns-in-Err-NoMeta-clause-does
returns-in-Err-NoMeta-clause-does g c = says_none c.in-Ok.bytes c.in-Ok.ensures.does (ap meta_read (sym c.as_slice.ensures) ∙ c.in-Err-NoMeta.ensures.none (ap Err c.in-Err-NoMeta.field-0-is))

pub returns-clause-does : goal.returns-clause-does
returns-clause-does g c = no_memory c.in-Ok.bytes c.in-Ok.ensures.does

pub returns-in-Err-clause-disk : goal.returns-in-Err-clause-disk
returns-in-Err-clause-disk g c told = loading_keeps told (returns-in-Err-clause-does g c)

pub returns-in-Ok-read_meta-clause-disk : goal.returns-in-Ok-read_meta-clause-disk
returns-in-Ok-read_meta-clause-disk g c told = loading_keeps told (returns-in-Ok-read_meta-clause-does g c)

pub returns-in-Err-NoMeta-clause-disk : goal.returns-in-Err-NoMeta-clause-disk
returns-in-Err-NoMeta-clause-disk g c told = loading_keeps told (returns-in-Err-NoMeta-clause-does g c)

pub returns-clause-disk : goal.returns-clause-disk
returns-clause-disk g c told = loading_keeps told (returns-clause-does g c)
