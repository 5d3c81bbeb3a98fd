use Rattle.std.proofs.Common.{◌≡◌, [], ◌∷◌, ◌++◌, ap, sym, ◌∙◌, subst, length, ◌≤◌, rules}
use Rattle.seg_directory.specs.DiskCalls.{latest_files}
use Rattle.seg_directory.specs.declared.disk_call.DiskCall.TheVariants.{Unchanged}
use Rattle.seg_directory.proofs.MemorySteps.{files_unchanged, longer}
use Rattle.seg_directory.proofs.disk_record.DiskRecord.keep_unchanged.Goals as goal

pub invariant_of-self : goal.invariant_of-self
invariant_of-self c =
    let items : c.push.new.self.items ≡ c.self.inside.calls.items ++ Unchanged ∷ [] = search rules in (
      c.self.invariant.0 ∙ sym (files_unchanged c.self.inside.calls.items) ∙ ap latest_files (sym items),
      subst (λ cs. c.self.inside.before ≤ length cs) (sym items) (longer c.self.inside.before c.self.inside.calls.items Unchanged c.self.invariant.1),
    )
