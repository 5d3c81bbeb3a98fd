use Rattle.std.proofs.Common.{◌≡◌, nat_eq, subst, sym, Some, None, IfNone, Option, rules, ap, ◌∙◌}
use Rattle.std.specs.Map.{keys_of, lookup}
use Rattle.lru.specs.LruCache.{IsValid, lru_cache, promoted}
use Rattle.seg_store.proofs.CacheEntries.{keys_hit, unchanged_none, valid_hit}
use Rattle.seg_store.proofs.block_cache.recalled.Goals as goal

at_none : {X : Type 0} {P : Type 0} (o : Option X) → P → IfNone o P
at_none None p = p
at_none (Some x) p = tt

pub returns-in_err-block-clause-none : goal.returns-in_err-block-clause-none
returns-in_err-block-clause-none c =
    let told : c.get.follows.lender-at-none ≡ lru_cache (promoted (nat_eq c.args.number) c.args.kept.now.entries) c.args.kept.now.cap = search rules in
    let found : None ≡ lookup (nat_eq c.args.number) c.args.kept.now.entries = c.in_err-block.ensures.value in
    at_none c.from_residual.result (unchanged_none c.args.number c.args.kept.now c.get.follows.lender-at-none found told)

pub returns-in_err-block-clause-valid : goal.returns-in_err-block-clause-valid
returns-in_err-block-clause-valid c =
    let told : c.get.follows.lender-at-none ≡ lru_cache (promoted (nat_eq c.args.number) c.args.kept.now.entries) c.args.kept.now.cap = search rules in
    let found : None ≡ lookup (nat_eq c.args.number) c.args.kept.now.entries = c.in_err-block.ensures.value in
    subst (IsValid nat_eq) (sym (unchanged_none c.args.number c.args.kept.now c.get.follows.lender-at-none found told)) c.requires

pub returns-clause-valid : goal.returns-clause-valid
returns-clause-valid c =
    let told : c.get.follows.lender-at-none ≡ lru_cache (promoted (nat_eq c.args.number) c.args.kept.now.entries) c.args.kept.now.cap = search rules in
    subst (IsValid nat_eq) (sym told) (valid_hit c.args.number c.args.kept.now c.in_ok-block.block.now c.requires (sym c.in_ok-block.ensures.value))

pub returns-clause-order : goal.returns-clause-order
returns-clause-order c =
    let told : c.get.follows.lender-at-none ≡ lru_cache (promoted (nat_eq c.args.number) c.args.kept.now.entries) c.args.kept.now.cap = search rules in
    ap (λ k. keys_of k.entries) told
    ∙ keys_hit c.args.kept.now.cap c.args.number c.args.kept.now.entries c.in_ok-block.block.now c.requires.0 c.requires.1 (sym c.in_ok-block.ensures.value)
