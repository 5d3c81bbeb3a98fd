use Rattle.std.proofs.Common.{◌++◌, map, ap, ◌∙◌}
use Rattle.std.proofs.lemmas.Result.{on_ok_weaker}
use Rattle.seg_terms.specs.declared.hit.Hit.{Hit}
use Rattle.seg_build.proofs.WrittenHits.{all_placed, none_placed}
use Rattle.seg_build.proofs.written_terms.set_places.Goals as goal

pub returns-in-Positions : goal.returns-in-Positions
returns-in-Positions c =
    let hits = c.args.hits.now in
    on_ok_weaker c.push_places.result
    (λ pushed. pushed ∙ ap (λ places. places ++ map (λ (h : Hit). h.position) hits) c.clear.ensures.items ∙ all_placed c.args.kind c.in-Positions.is hits)
    c.push_places.ensures

pub returns-in_default : goal.returns-in_default
returns-in_default c = c.clear.ensures.items ∙ none_placed c.args.kind c.in_default.not-Positions c.args.hits.now
