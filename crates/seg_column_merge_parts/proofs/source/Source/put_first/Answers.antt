use Rattle.std.proofs.Common.{◌++◌, List, ℕ, ap, ◌∙◌}
use Rattle.std.proofs.lemmas.Result.{on_ok_weaker}
use Rattle.seg_column_merge_parts.proofs.JoinedBytes.{on_ok_cond}
use Rattle.seg_column_merge_parts.proofs.source.Source.put_first.Goals as goal

pub returns-in-Some : goal.returns-in-Some
returns-in-Some c =
    let out = c.args.out.now.items in
    on_ok_weaker c.extend_from_slice.result (λ more. more ∙ ap (λ (l : List ℕ). out ++ l) c.in-Some.ensures)
    (on_ok_cond c.extend_from_slice.result c.extend_from_slice.new.self.items (out ++ c.in-Some.bytes.now) out
    c.extend_from_slice.ensures.items)
