use Rattle.std.proofs.Common.{◌≤◌, ◌++◌, ◌∷◌, [], List, length, subst, sym, ap, ◌∙◌, arith}
use Rattle.std.proofs.lemmas.List.{length-append}
use Rattle.seg_directory.specs.CompositeFiles.{low_after, Part}
use Rattle.seg_directory.proofs.CompositeWriterParts.{is_pushed}
use Rattle.seg_directory.proofs.written_parts.WrittenParts.write.Goals as goal

pub overflow_add-self : goal.overflow_add-self
overflow_add-self c =
    let inside = c.self.inside in
    let asc = subst (λ (ps : List Part). low_after 0 ps ≤ c.args.field) (sym c.self.view_is) c.requires.ascends in
    let items = c.in_ok-extend_from_slice.ensures.items in
    let p = is_pushed inside.body.items inside.table.items c.args.bytes.now inside.count c.args.field c.len-end.result c.self.invariant asc c.requires.limit (omega (arith, c.len-end.ensures, ap length items, length-append inside.body.items c.args.bytes.now)) (omega arith) in
    omega (arith, p.keeps.small)

pub invariant_of-self-in-Ok : goal.invariant_of-self-in-Ok
invariant_of-self-in-Ok c =
    let inside = c.self.inside in
    let asc = subst (λ (ps : List Part). low_after 0 ps ≤ c.args.field) (sym c.self.view_is) c.requires.ascends in
    let items = c.in_ok-extend_from_slice.ensures.items in
    let p = is_pushed inside.body.items inside.table.items c.args.bytes.now inside.count c.args.field c.len-end.result c.self.invariant asc c.requires.limit (omega (arith, c.len-end.ensures, ap length items, length-append inside.body.items c.args.bytes.now)) (omega arith) in
    rw (items, c.in-Ok.ensures.ok) p.keeps

pub returns-in-Ok-clause-ok : goal.returns-in-Ok-clause-ok
returns-in-Ok-clause-ok c =
    let inside = c.self.inside in
    let asc = subst (λ (ps : List Part). low_after 0 ps ≤ c.args.field) (sym c.self.view_is) c.requires.ascends in
    let items = c.in_ok-extend_from_slice.ensures.items in
    let p = is_pushed inside.body.items inside.table.items c.args.bytes.now inside.count c.args.field c.len-end.result c.self.invariant asc c.requires.limit (omega (arith, c.len-end.ensures, ap length items, length-append inside.body.items c.args.bytes.now)) (omega arith) in
    rw (items, c.in-Ok.ensures.ok) (p.parts ∙ ap (λ (ps : List Part). ps ++ (c.args.field, c.args.bytes.now) ∷ []) c.self.view_is)
