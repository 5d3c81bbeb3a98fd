use Rattle.std.proofs.Common.{◌≡◌, [], ◌∷◌, ◌++◌, ap, sym, ◌∙◌, subst, length, ◌≤◌, rules}
use Rattle.std.specs.FinMap.{insert}
use Rattle.seg_directory.specs.DiskCalls.{latest_files}
use Rattle.seg_directory.specs.declared.disk_call.DiskCall.TheVariants.{Replaced}
use Rattle.seg_directory.proofs.MemorySteps.{files_replaced, longer}
use Rattle.seg_directory.proofs.disk_record.DiskRecord.replace.Goals as goal

pub invariant_of-self-2 : goal.invariant_of-self-2
invariant_of-self-2 c =
    let kept_is : c.share.result ≡ c.args.bytes.now = search rules in
    let items : c.push.new.self.items ≡ c.self.inside.calls.items ++ Replaced c.args.name.now c.args.bytes.now ∷ [] = search rules in (
      c.in_ok-put.ensures.set ∙ ap (λ b. insert c.self.inside.files c.args.name.now b) kept_is ∙ ap (λ files. insert files c.args.name.now c.args.bytes.now) c.self.invariant.0
          ∙ sym (files_replaced c.self.inside.calls.items c.args.name.now c.args.bytes.now) ∙ ap latest_files (sym items),
      subst (λ cs. c.self.inside.before ≤ length cs) (sym items) (longer c.self.inside.before c.self.inside.calls.items _ c.self.invariant.1),
    )
