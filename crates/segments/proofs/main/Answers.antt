use Rattle.std.proofs.Common.{◌≡◌, ◌∙◌, refl, subst, sym}
use Rattle.seg_tokens.specs.Tokenizers.{default_tokens}
use Rattle.segments.proofs.RegisteredTokenizers.{taken_at_the_end}
use Rattle.segments.proofs.main.OwnLists.{own-1}
use Rattle.segments.proofs.main.Goals as goal

pub run_in_folders-requires : goal.run_in_folders-requires
run_in_folders-requires c =
    taken_at_the_end c.default_takes_texts.ensures c.register.result c.register-2.result c.register-3.result _ _ _ _ _ _ _ _ _ _ _
    (sym c.is_err.ensures.value ∙ c.if-is_err.false) c.register.ensures.ok
    (sym c.is_err-2.ensures.value ∙ c.if-is_err-2.false) c.register-2.ensures.ok
    (sym c.is_err-3.ensures.value ∙ c.if-is_err-3.false) c.register-3.ensures.ok
    (λ text. subst (λ at. (boxed : (own-1.entry at).0.Denot) → (own-1.entry at).1.tokens_of boxed text ≡ default_tokens text)
    (sym c.into_dyn_box.ensures.0) (λ boxed. refl) c.into_dyn_box.result.value)
