use Rattle.std.proofs.Common.{List, ℕ, subst}
use Rattle.std.specs.Prelude.{OnOk, OnErr}
use Rattle.std.specs.Io.KnownBytes.{Appends}
use Rattle.seg_common.specs.Streams.{AppendsPart}
use Rattle.seg_tool.proofs.Faults.{other_damage}
use Rattle.seg_tool.proofs.damage.write_damage.Goals as goal

pub returns-in_default : goal.returns-in_default
returns-in_default g c =
    let W = g.F.Sink.written in
    let old = W c.args.faults.now in
    let new = W c.write_whole.new.sink in
    let is = other_damage c.args.error.now c.in_default.not-DataCorruption in
    record {
      ok = subst (λ (xs : List ℕ). OnOk c.write_whole.result (Appends old new xs)) is c.write_whole.ensures.ok;
      err = subst (λ (xs : List ℕ). OnErr c.write_whole.result (AppendsPart old new xs)) is c.write_whole.ensures.err;
      told = c.write_whole.ensures.told;
      cause = c.write_whole.ensures.cause;
    }
