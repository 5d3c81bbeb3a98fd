use Rattle.std.proofs.Common.{◌≡◌, ◌∷◌, nat_eq, subst, sym, ap, ◌∙◌, None, take}
use Rattle.std.specs.Prelude.{IfSome}
use Rattle.std.specs.Map.{lookup}
use Rattle.lru.specs.LruCache.{IsValid, lru_cache}
use Rattle.seg_store.specs.CachedBlocks.{capacity_of, pairs_of}
use Rattle.seg_store.proofs.CacheEntries.{put_is, valid_missed}
use Rattle.seg_store.proofs.block_cache.put_first.Goals as goal

pub returns-clause-pairs : goal.returns-clause-pairs
returns-clause-pairs c =
    let valid : IsValid nat_eq c.in-Some.kept = subst (λ o. IfSome o (IsValid nat_eq)) c.in-Some.is c.requires.valid in
    let absent : lookup (nat_eq c.args.number) c.in-Some.kept.entries ≡ None = subst (λ o. lookup (nat_eq c.args.number) (pairs_of o) ≡ None) c.in-Some.is c.requires.absent in
    ap (λ k. k.entries) c.in-Ok.ensures.entries ∙ put_is c.args.number c.args.block c.in-Some.kept valid absent
    ∙ ap (λ o. take (capacity_of o) ((c.args.number, c.args.block) ∷ pairs_of o)) (sym c.in-Some.is)

pub returns-clause-valid : goal.returns-clause-valid
returns-clause-valid c =
    let valid : IsValid nat_eq c.in-Some.kept = subst (λ o. IfSome o (IsValid nat_eq)) c.in-Some.is c.requires.valid in
    let absent : lookup (nat_eq c.args.number) c.in-Some.kept.entries ≡ None = subst (λ o. lookup (nat_eq c.args.number) (pairs_of o) ≡ None) c.in-Some.is c.requires.absent in
    subst (IsValid nat_eq) (sym (c.in-Ok.ensures.entries ∙ ap (λ es. lru_cache es c.in-Some.kept.cap) (put_is c.args.number c.args.block c.in-Some.kept valid absent)))
    (valid_missed c.args.number c.args.block c.in-Some.kept valid absent)
