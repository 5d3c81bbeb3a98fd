use Rattle.std.proofs.Common.{◌≡◌, ◌+◌, ◌-◌, take, drop, None, subst, arith, rules}
use Rattle.std.proofs.lemmas.Grind.{common_steps}
use Rattle.std.proofs.lemmas.Str.{IsCharBoundary-after_ascii}
use Rattle.seg_values.specs.NameSearch.{IsSeparator, NoPartFrom, whole_name}
use Rattle.seg_values.proofs.FoundNames.{finds_part, finds_default, finds_none}
use Rattle.seg_values.proofs.schema.Schema.find_field_with_default.Goals as goal

pub returns-in-Ok : goal.returns-in-Ok
returns-in-Ok c = whole_name c.in-Ok.field c.in-Ok.ensures.ok

pub range_from-requires : goal.range_from-requires
range_from-requires c =
    let separator : IsSeparator c.args.name.now (c.loop-at.at - 1) = c.is_separator.ensures.0 c.if-is_separator.true in
    λ _. IsCharBoundary-after_ascii c.args.name.now (c.loop-at.at - 1) c.utf8.name separator.inside (omega (arith, separator.dot))

pub returns-in-Ok-get_field : goal.returns-in-Ok-get_field
returns-in-Ok-get_field c =
    let at = c.loop-at.at - 1 in
    let separator : IsSeparator c.args.name.now at = c.is_separator.ensures.0 c.if-is_separator.true in
    let next : c.loop-at.at ≡ at + 1 = omega arith in
    let part : c.range.result.now ≡ take at c.args.name.now = grind (arith, common_steps, c.range.ensures.value) in
    let path : c.range_from.result.now ≡ drop (at + 1) c.args.name.now = grind (arith, common_steps, c.range_from.ensures.value) in
    finds_part c.args.self.now c.args.name.now c.args.default c.in_default.ensures.err.1 at c.in-Ok-get_field.field _ _ separator c.in-Ok-get_field.ensures.ok part path
    (subst (λ n. NoPartFrom c.args.self.now c.args.name.now n) next c.loop-at.invariant)

pub returns-in_err-default : goal.returns-in_err-default
returns-in_err-default c =
    let all : c.loop-at.at ≡ 0 = omega arith in
    let nothing : c.from_residual.result ≡ None = search rules in
    rw nothing (finds_none c.args.self.now c.args.name.now c.args.default c.in_default.ensures.err.1 c.in_err-default.was (subst (λ n. NoPartFrom c.args.self.now c.args.name.now n) all c.loop-at.invariant))

pub returns : goal.returns
returns c =
    let all : c.loop-at.at ≡ 0 = omega arith in
    finds_default c.args.self.now c.args.name.now c.args.default c.in_default.ensures.err.1 c.in_ok-default.field-0 c.in_ok-default.was (subst (λ n. NoPartFrom c.args.self.now c.args.name.now n) all c.loop-at.invariant)
