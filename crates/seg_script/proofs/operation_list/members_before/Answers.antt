use Rattle.std.proofs.Common.{◌≡◌, ◌-◌, length, Some, true, sym, ap, ◌∙◌, arith, rules}
use Rattle.std.specs.Prelude.{codes}
use Rattle.std.specs.Str.{bytes_eq}
use Rattle.std.proofs.lemmas.Slice.Eq.{bytes_eq-Decides}
use Rattle.json.specs.Json.{read_key, members, value}
use Rattle.json.proofs.Grammar.{read_key-shorter}
use Rattle.serde_json.specs.Data.{put}
use Rattle.serde_json.specs.Read.{of_members, converted}
use Rattle.serde_json.specs.View.{view, members_view}
use Rattle.seg_script.proofs.Grammar.{last_member, member_read}
use Rattle.seg_script.proofs.operation_list.members_before.Goals as goal

pub loop-before-init : goal.loop-before-init
loop-before-init c =
    let all = members (value 126) (length c.args.reader.now) c.args.reader.now in
    (length c.args.reader.now, omega arith, ap (λ es. converted (λ ms. of_members ms (members_view es)) all) (sym c.new-before.ensures.empty))

pub loop-before-preserved : goal.loop-before-preserved
loop-before-preserved c =
    let p = value 126 in
    let l = c.loop-before in
    let n = l.invariant.0 in
    let old = members_view l.before.entries in
    let k = c.in-Some.name.now in
    let s = c.next_key.new.self in
    let named : read_key l.reader ≡ Some (Some k, s) = grind arith in
    let done = c.in_ok-member.ensures in
    let v = c.in_ok-member.member in
    let r = c.read_value.new.reader in
    let less = read_key-shorter l.reader (Some k) s named in
    let lesser = done.shorter in (
      n - 1,
      omega (arith, l.invariant.1),
      l.invariant.2 ∙ member_read p old n k l.reader s r (view v) (omega (arith, l.invariant.1)) named done.ok
          ∙ ap (λ found. converted (λ ms. of_members ms found) (members p (n - 1) r)) (sym c.in_ok-put.ensures),
    )

pub returns-then-eq : goal.returns-then-eq
returns-then-eq c d r e =
    let l = c.loop-before in
    let n = l.invariant.0 in
    let old = members_view l.before.entries in
    let k = c.in-Some.name.now in
    let s = c.next_key.new.self in
    let named : read_key l.reader ≡ Some (Some k, s) = grind arith in
    let same : bytes_eq k (codes "operations") ≡ true = search rules in
    let is = (bytes_eq-Decides k (codes "operations")).0 same in
    l.invariant.2 ∙ last_member 126 n old k l.reader s r d l.invariant.1 named e ∙ ap (λ name. Some (put name d old, r)) is
