use Rattle.std.proofs.Common.{subst}
use Rattle.std.specs.Prelude.{IfSome}
use Rattle.seg_fastfield.specs.PathNumbers.{AreColumnsOf}
use Rattle.seg_fastfield.proofs.writer.known_paths.Goals as goal

pub returns-in-Some : goal.returns-in-Some
returns-in-Some c columns is =
    subst (λ known. IfSome known (λ paths. AreColumnsOf paths columns)) c.in-Some.is is

pub returns-in-None : goal.returns-in-None
returns-in-None c columns is = c.new.ensures columns
