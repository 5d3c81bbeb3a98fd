use Rattle.std.proofs.Common.{◌≡◌, Err, refl, rules, subst, sym}
use Rattle.seg_directory.specs.CallRecord.{Calls}
use Rattle.seg_directory.specs.CallResults.{Replaces}
use Rattle.seg_directory.specs.Calls.{Fails, Goes, replaced}
use Rattle.seg_directory.specs.DiskCalls.{with_disk_call}
use Rattle.seg_directory.specs.MemoryDirectories.{MemoryState, memory_state, memory_went}
use Rattle.seg_directory.specs.declared.disk_call.DiskCall.TheVariants.{Unchanged}
use Rattle.seg_directory.specs.declared.error.DirectoryError.TheVariants.{Fault, OutOfMemory}
use Rattle.seg_directory.proofs.MemoryCalls.{goes, starved, starved_answer, unchanged}
use Rattle.seg_directory.proofs.memory_directory.MemoryDirectoryDirectory.atomic_write.Goals as goal

pub returns-in_err-make_room-clause-does : goal.returns-in_err-make_room-clause-does
returns-in_err-make_room-clause-does c =
    let old : MemoryState = c.args.self.now in
    let new : MemoryState = record { disk = c.make_room.new.self.kept; calls = c.self.inside.calls.calls } in
    let is : new ≡ old = search rules in
    let err : c.from_residual.result ≡ Err OutOfMemory = starved_answer c.from_residual.result (search rules) in
    subst (λ r. Replaces c.args.name.now c.args.bytes.now r (memory_state old) (memory_state new)) (sym err)
    (subst (λ s. Fails (replaced c.args.name.now c.args.bytes.now) OutOfMemory (memory_state old) (memory_state s)) (sym is) (starved old (replaced c.args.name.now c.args.bytes.now) tt tt refl))

pub returns-in_err-begin-clause-does : goal.returns-in_err-begin-clause-does
returns-in_err-begin-clause-does c =
    let old : MemoryState = c.args.self.now in
    let new : MemoryState = record { disk = c.make_room.new.self.kept; calls = c.begin.new.self.calls } in
    let is : new ≡ old = search rules in
    let err : c.from_residual-in_err-begin.result ≡ Err OutOfMemory = starved_answer c.from_residual-in_err-begin.result (search rules) in
    subst (λ r. Replaces c.args.name.now c.args.bytes.now r (memory_state old) (memory_state new)) (sym err)
    (subst (λ s. Fails (replaced c.args.name.now c.args.bytes.now) OutOfMemory (memory_state old) (memory_state s)) (sym is) (starved old (replaced c.args.name.now c.args.bytes.now) tt tt refl))

pub returns-then-branch-clause-does : goal.returns-then-branch-clause-does
returns-then-branch-clause-does c =
    let old : MemoryState = c.args.self.now in
    let calls : Calls = c.begin.new.self.calls in
    let disk : c.keep_unchanged.new.self.kept ≡ with_disk_call old.disk Unchanged = search rules in
    subst (λ kept. Fails (replaced c.args.name.now c.args.bytes.now) Fault (memory_state old) (memory_state (record { disk = kept; calls = calls }))) (sym disk)
    (unchanged old calls (replaced c.args.name.now c.args.bytes.now) Fault tt tt (search rules) (search rules) (search rules))

pub returns-in_err-replace-clause-does : goal.returns-in_err-replace-clause-does
returns-in_err-replace-clause-does c =
    let old : MemoryState = c.args.self.now in
    let new : MemoryState = record { disk = c.replace.new.self.kept; calls = c.begin.new.self.calls } in
    let is : new ≡ old = search rules in
    let err : c.from_residual-in_err-replace.result ≡ Err OutOfMemory = starved_answer c.from_residual-in_err-replace.result (search rules) in
    subst (λ r. Replaces c.args.name.now c.args.bytes.now r (memory_state old) (memory_state new)) (sym err)
    (subst (λ s. Fails (replaced c.args.name.now c.args.bytes.now) OutOfMemory (memory_state old) (memory_state s)) (sym is) (starved old (replaced c.args.name.now c.args.bytes.now) tt tt refl))

pub returns-clause-does : goal.returns-clause-does
returns-clause-does c =
    let old : MemoryState = c.args.self.now in
    let new : MemoryState = record { disk = c.replace.new.self.kept; calls = c.end.new.self.calls } in
    let is : new ≡ memory_went (replaced c.args.name.now c.args.bytes.now) old = search rules in
    subst (λ s. Goes (replaced c.args.name.now c.args.bytes.now) (memory_state old) (memory_state s)) (sym is) (goes old (replaced c.args.name.now c.args.bytes.now) tt)
