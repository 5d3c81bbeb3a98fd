use Rattle.std.proofs.Common.{List, [], sym, ap, ◌∙◌}
use Rattle.std.specs.List.{slice_index_or}
use Rattle.seg_build.specs.PathStarts.{blank}
use Rattle.seg_build.specs.declared.path_start.PathStart.{PathStart}
use Rattle.seg_build.proofs.StartsByNumber.{start-read}
use Rattle.seg_build.proofs.json_terms.JsonTerms.start_of.Goals as goal

pub returns : goal.returns
returns c =
    let me = c.args.self.now in
    let paths = me.terms.paths in
    let own = slice_index_or paths c.args.path [] in
    let kept = c.value_of-kept in
    let read = kept.ensures ∙ ap (λ (l : List PathStart). slice_index_or l c.args.path blank) c.deref.ensures.value in
    c.in_document.ensures
    ∙ sym (start-read paths me.starts.items own c.args.path c.args.document kept.result c.requires read)
