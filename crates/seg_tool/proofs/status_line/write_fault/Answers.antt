use Rattle.std.proofs.Common.{List, ℕ, ◌++◌, ◌∷◌, [], ap, subst}
use Rattle.std.specs.Prelude.{OnOk, OnErr}
use Rattle.std.specs.Io.KnownBytes.{Appends}
use Rattle.seg_common.specs.Streams.{AppendsPart}
use Rattle.seg_tool.proofs.Faults.{other_fault}
use Rattle.seg_tool.proofs.status_line.write_fault.Goals as goal

pub returns-in_default : goal.returns-in_default
returns-in_default g c =
    let W = g.F.Sink.written in
    let old = W c.args.faults.now in
    let new = W c.write_whole-in_default.new.sink in
    let is = ap (λ (xs : List ℕ). xs ++ 10 ∷ []) (other_fault c.args.error.now c.in_default.not-OpenReadError c.in_default.not-OpenWriteError) in
    record {
      ok = subst (λ (xs : List ℕ). OnOk c.write_whole-in_default.result (Appends old new xs)) is c.write_whole-in_default.ensures.ok;
      err = subst (λ (xs : List ℕ). OnErr c.write_whole-in_default.result (AppendsPart old new xs)) is c.write_whole-in_default.ensures.err;
      told = c.write_whole-in_default.ensures.told;
      cause = c.write_whole-in_default.ensures.cause;
    }
