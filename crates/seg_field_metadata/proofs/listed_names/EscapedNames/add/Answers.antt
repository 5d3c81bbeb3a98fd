use Rattle.std.proofs.Common.{◌++◌, [], ◌∷◌, ℕ, List, ap, sym, ◌∙◌, append_assoc}
use Rattle.seg_field_metadata.specs.ListedNames.{dotted_path}
use Rattle.seg_field_metadata.proofs.KeptNames.{escaped_added}
use Rattle.seg_field_metadata.proofs.listed_names.EscapedNames.add.Goals as goal

pub returns : goal.returns
returns c =
    let entry = c.args.entry.now in
    let path = c.args.path.now in
    escaped_added c.args.self.now.by_dotted c.insert.new.self c.push_replaced.new.out c.in_ok-escaped.escaped entry path
    (sym c.if-not-is_escaped.ensures)
    (c.in_ok-push_replaced.ensures.ok ∙ ap (λ (l : List ℕ). l ++ dotted_path path) c.in_ok-dotted.ensures
    ∙ append_assoc entry.name (46 ∷ []) (dotted_path path))
    c.in_ok-escaped.ensures
    c.in_ok-insert.ensures.updates
