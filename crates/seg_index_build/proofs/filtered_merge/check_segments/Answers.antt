use Rattle.std.proofs.Common.{rules, ◌≡◌, subst}
use Rattle.seg_meta.specs.MetaBounds.{AreReadBack}
use Rattle.seg_meta.specs.MetaMeaning.{settings_of}
use Rattle.seg_model.specs.Fields.{Schema}
use Rattle.seg_index_build.specs.MergedSegments.{first_schema}
use Rattle.seg_index_build.proofs.filtered_merge.check_segments.Goals as goal

pub returns-clause-reads : goal.returns-clause-reads
returns-clause-reads c =
    let same : c.schema-2.result.now ≡ first_schema c.args.segments.now = search rules in
    subst (λ (s : Schema). AreReadBack (settings_of c.args.settings.now) s) same c.schema_reads_back.ensures
