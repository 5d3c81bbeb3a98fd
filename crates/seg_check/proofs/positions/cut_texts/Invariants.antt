use Rattle.std.proofs.Common.{◌≡◌, None, take, drop}
use Rattle.seg_model.specs.DocumentCheck.{leaves_refusal, order_refusal}
use Rattle.seg_check.specs.DocumentFields.{HasCut}
use Rattle.seg_check.proofs.positions.cut_texts.Given as goal

abbrev pub invariant-loop-at : goal.invariant-loop-at
invariant-loop-at g l =
    let analyzer = g.Z.Analyzers.tokens_of l.analyzers in
    record {
      -- what is left decides
      order : order_refusal l.schema analyzer (drop l.at l.document) ≡ order_refusal l.schema analyzer l.document;
      json : leaves_refusal l.schema (drop l.at l.document) ≡ None;
      cut : HasCut l.schema analyzer l.document (take l.at l.document) l.cut;
    }
