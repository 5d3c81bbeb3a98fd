use Rattle.std.proofs.Common.{◌≡◌, [], Some, subst, sym}
use Rattle.seg_directory.proofs.Exports.{answers, stops}
use Rattle.seg_meta.specs.ParsedMeta.{meta_read}
use Rattle.seg_meta.specs.MetaText.{meta_text}
use Rattle.seg_meta.specs.MetaMeaning.{meta_of}
use Rattle.seg_meta.specs.declared.index_meta.IndexMeta.{IndexMeta}
use Rattle.seg_build.proofs.WrittenIndex.{published_of}
use Rattle.seg_build.proofs.index_meta.save_one_segment.Goals as goal

pub returns-in-Ok-save_synced-clause-back : goal.returns-in-Ok-save_synced-clause-back
returns-in-Ok-save_synced-clause-back g c =
    subst (λ (m : IndexMeta). meta_read (meta_text (meta_of m)) ≡ Some (meta_of m)) (sym c.from_metas.ensures)
    (c.metas_read_back.ensures c.in-Ok.ensures.list)

pub returns-in-Ok-save_synced-clause-does : goal.returns-in-Ok-save_synced-clause-does
returns-in-Ok-save_synced-clause-does g c =
    published_of (meta_of c.in-Ok.metas) _ c.in-Ok.ensures.meta (answers c.in-Ok-save_synced.ensures)

pub returns-in-Err-clause-does : goal.returns-in-Err-clause-does
returns-in-Err-clause-does g c = published_of (meta_of c.in-Ok.metas) _ c.in-Ok.ensures.meta (stops [] c.in-Err.ensures)
