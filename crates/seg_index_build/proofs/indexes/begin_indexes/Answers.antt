use Rattle.std.proofs.Common.{refl, subst}
use Rattle.seg_directory.specs.DirectorySteps.{Works}
use Rattle.seg_model.specs.Input.{Input}
use Rattle.seg_index_build.specs.TwoDirectories.{both, stops, goes_on}
use Rattle.seg_index_build.specs.IndexWriteSteps.{begin_steps}
use Rattle.seg_index_build.proofs.indexes.begin_indexes.Goals as goal

pub returns-in-Err : goal.returns-in-Err
returns-in-Err g c = stops c.in-Err.e refl (c.in-Err.ensures, refl)

pub returns-in-Err-expect_no_files : goal.returns-in-Err-expect_no_files
returns-in-Err-expect_no_files g c =
    goes_on tt (both (g.W.Directory.state c.expect_no_files.new.directory) (g.O.Directory.state c.args.output.now))
    (c.in-Ok.ensures, refl)
    (stops c.in-Err-expect_no_files.e refl (c.in-Err-expect_no_files.ensures, refl))

pub returns : goal.returns
returns g c =
    let listed = g.W.Directory.state c.expect_no_files.new.directory in
    let output = g.O.Directory.state c.expect_no_files-2.new.directory in
    goes_on tt (both listed (g.O.Directory.state c.args.output.now)) (c.in-Ok.ensures, refl)
    (goes_on tt (both listed output) (c.in-Ok-expect_no_files.ensures, refl) (
      subst
          (λ (x : Input). Works (begin_steps x.settings x.schema) c.begin_index.result listed
          (g.W.Directory.state c.begin_index.new.directory)) c.input.view_is c.begin_index.ensures,
      refl,
    ))
