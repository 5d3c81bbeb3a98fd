use Rattle.std.proofs.Common.{◌≡◌, nat_eq, All, Contains, slice_get, None, sym, ap, ◌∙◌}
use Rattle.std.specs.Map.{lookup}
use Rattle.std.proofs.lemmas.List.Elements.{All-contains, All-contains_itself, All-weaker, All-same}
use Rattle.lru.specs.LruCache.{promoted}
use Rattle.lru.proofs.CallerLemmas.{Contains-promoted}
use Rattle.seg_store.specs.Cache.{after_use}
use Rattle.seg_store.specs.CachedBlocks.{IsBlockOf, cached_store}
use Rattle.seg_store.proofs.CacheUses.{kept_is, used_hit, used_miss}
use Rattle.seg_store.proofs.cached_store_reader.CachedStoreReader.block.Goals as goal

pub invariant_of-self : goal.invariant_of-self
invariant_of-self c =
    let blocks = c.self.inside.store in
    let es = c.self.inside.cache.pairs in
    let first = promoted (nat_eq c.args.number) es in
    let all : All (IsBlockOf blocks) first = All-weaker (Contains first) (IsBlockOf blocks) (λ x there. All-contains (IsBlockOf blocks) es x c.self.invariant.1 (Contains-promoted (nat_eq c.args.number) es x there)) first (All-contains_itself first) in
    (c.self.invariant.0, All-same (IsBlockOf blocks) c.find.new.self.pairs first (ap (λ b. b.pairs) c.in-Some.ensures.hit) all)

pub returns-in-Some-clause-block : goal.returns-in-Some-clause-block
returns-in-Some-clause-block c = (kept_is c.args.number c.self.inside.store c.self.inside.cache.pairs c.in-Some.block c.self.invariant.1 c.in-Some.ensures.found).block

pub returns-in-Some-clause-is : goal.returns-in-Some-clause-is
returns-in-Some-clause-is c =
    ap (λ r. slice_get r.blocks c.args.number) (sym c.self.view_is)
    ∙ (kept_is c.args.number c.self.inside.store c.self.inside.cache.pairs c.in-Some.block c.self.invariant.1 c.in-Some.ensures.found).is

pub returns-in-Some-clause-used : goal.returns-in-Some-clause-used
returns-in-Some-clause-used c =
    used_hit c.args.number c.self.inside.store c.self.inside.cache c.find.new.self c.in-Some.block c.in-Some.ensures.found c.in-Some.ensures.hit c.in-Some.ensures.order
    ∙ ap (after_use c.args.number) c.self.view_is

pub returns-clause-used : goal.returns-clause-used
returns-clause-used c =
    let same = c.in_default.ensures.none in
    let absent : None ≡ lookup (nat_eq c.args.number) c.find.new.self.pairs = c.in_default.ensures.found ∙ ap (λ b. lookup (nat_eq c.args.number) b.pairs) (sym same) in
    used_miss c.args.number c.self.inside.store c.find.new.self c.keep.new.self c.share.result absent c.in_ok-keep.ensures.miss
    ∙ ap (λ b. after_use c.args.number (cached_store c.self.inside.store b)) same ∙ ap (after_use c.args.number) c.self.view_is
