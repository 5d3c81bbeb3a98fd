use Rattle.std.proofs.Common.{rules, ◌≡◌, ◌++◌, ◌∷◌, [], Option, Ok, subst}
use Rattle.seg_model.specs.Input.{Filter}
use Rattle.seg_open.specs.OpeningSteps.{Opens}
use Rattle.seg_open.proofs.OpeningSteps.{starves}
use Rattle.seg_open.proofs.opened_segments.open_next.Goals as goal

pub returns-in_default : goal.returns-in_default
returns-in_default g c = starves _ _

pub returns-in_default-copy_of : goal.returns-in_default-copy_of
returns-in_default-copy_of g c = starves _ _

pub returns-in-Ok-open_with_custom_alive_set : goal.returns-in-Ok-open_with_custom_alive_set
returns-in-Ok-open_with_custom_alive_set g c =
    let next = c.in-Ok-open_with_custom_alive_set.next in
    let grown : c.keep.new.opened.items ≡ c.args.opened.now.items ++ next ∷ [] = search rules in
    (next, grown, subst (λ (f : Option Filter). Opens (record { segment = c.args.segment.now; custom = f }) (Ok next) (g.W.Directory.state c.args.directory.now) (g.W.Directory.state c.open_with_custom_alive_set.new.directory)) c.in-Ok-copy_of.ensures c.in-Ok-open_with_custom_alive_set.ensures.does)
