use Rattle.std.proofs.Common.{◌≡◌, ◌<◌, ◌-◌, List, drop, sym, ap, subst, ◌∙◌, arith}
use Rattle.std.specs.declared.cmp.Ordering.TheVariants.{Less, Equal, Greater}
use Rattle.seg_termdict.specs.Dictionary.{Term, key_of, terms_in}
use Rattle.seg_termdict.specs.DictionaryBuilders.{MayFollow}
use Rattle.seg_termdict.proofs.BuilderGrowth.{terms_seen, follows_none, may_follow, follows, last_from}
use Rattle.seg_termdict.proofs.written_terms.WrittenTerms.may_follow.Goals as goal

pub returns-then-self-eq0 : goal.returns-then-self-eq0
returns-then-self-eq0 c =
    let i = c.self.inside in
    let seen = terms_seen i.ends.items i.keys.items i.infos.items i.key_count i.info_count i.last_start c.args.self.now c.self.invariant c.self.view_is c.requires in
    subst (λ (ts : List Term). MayFollow ts c.args.key.now) (ap (terms_in i.ends.items i.keys.items i.infos.items) (sym c.if-self-eq0.true) ∙ seen) (follows_none i.ends.items i.keys.items i.infos.items c.args.key.now)

pub returns-in-Less : goal.returns-in-Less
returns-in-Less c =
    let i = c.self.inside in
    let seen = terms_seen i.ends.items i.keys.items i.infos.items i.key_count i.info_count i.last_start c.args.self.now c.self.invariant c.self.view_is c.requires in
    let last : c.split_at.result.1.now ≡ key_of i.ends.items i.keys.items (i.key_count - 1) = c.split_at.ensures.back ∙ ap (drop i.last_start) c.deref.ensures.value ∙ last_from i.ends.items i.keys.items i.infos.items i.key_count i.info_count i.last_start c.args.self.now c.self.invariant c.self.view_is (omega (arith, c.if-self-eq0.false)) in
    subst (λ (ts : List Term). MayFollow ts c.args.key.now) seen (may_follow i.ends.items i.keys.items i.infos.items c.args.key.now i.key_count (rw (← last) (sym c.in-Less.ensures)))

pub returns-in-Equal : goal.returns-in-Equal
returns-in-Equal c = λ may.
    let i = c.self.inside in
    let seen = terms_seen i.ends.items i.keys.items i.infos.items i.key_count i.info_count i.last_start c.args.self.now c.self.invariant c.self.view_is c.requires in
    let some : 0 < i.key_count = omega (arith, c.if-self-eq0.false) in
    let last : c.split_at.result.1.now ≡ key_of i.ends.items i.keys.items (i.key_count - 1) = c.split_at.ensures.back ∙ ap (drop i.last_start) c.deref.ensures.value ∙ last_from i.ends.items i.keys.items i.infos.items i.key_count i.info_count i.last_start c.args.self.now c.self.invariant c.self.view_is some in
    let less = follows i.ends.items i.keys.items i.infos.items c.args.key.now i.key_count (subst (λ (ts : List Term). MayFollow ts c.args.key.now) (sym seen) may) some in
    let e : Equal ≡ Less = c.in-Equal.ensures ∙ rw last less in
    cc

pub returns-in-Greater : goal.returns-in-Greater
returns-in-Greater c = λ may.
    let i = c.self.inside in
    let seen = terms_seen i.ends.items i.keys.items i.infos.items i.key_count i.info_count i.last_start c.args.self.now c.self.invariant c.self.view_is c.requires in
    let some : 0 < i.key_count = omega (arith, c.if-self-eq0.false) in
    let last : c.split_at.result.1.now ≡ key_of i.ends.items i.keys.items (i.key_count - 1) = c.split_at.ensures.back ∙ ap (drop i.last_start) c.deref.ensures.value ∙ last_from i.ends.items i.keys.items i.infos.items i.key_count i.info_count i.last_start c.args.self.now c.self.invariant c.self.view_is some in
    let less = follows i.ends.items i.keys.items i.infos.items c.args.key.now i.key_count (subst (λ (ts : List Term). MayFollow ts c.args.key.now) (sym seen) may) some in
    let e : Greater ≡ Less = c.in-Greater.ensures ∙ rw last less in
    cc
