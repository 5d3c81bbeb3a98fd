use Rattle.std.proofs.Common.{◌≡◌, Some, None, set, sym, ◌∙◌, ap, subst}
use Rattle.std.specs.Prelude.{position}
use Rattle.std.specs.Str.{bytes_eq}
use Rattle.seg_tokens.proofs.RegisteredTokenizers.{Puts, Puts-replaced, Puts-pushed, named_at, registers}
use Rattle.seg_tokens.proofs.tokenizer_manager.TokenizerManager.register.Goals as goal

pub returns-in-Some-clause-ok : goal.returns-in-Some-clause-ok
returns-in-Some-clause-ok g c =
    let at : Some c.in-Some.place ≡ position (λ v. bytes_eq v.name c.args.name.now) c.args.self.now.tokenizers.items = c.in-Some.ensures.place ∙ ap (position (λ v. bytes_eq v.name c.args.name.now)) c.deref.ensures.value in
    registers (λ v. v.name) c.args.self.now.tokenizers.items (set c.args.self.now.tokenizers.items c.in-Some.place (record { name = c.index_mut.result.now.name; value = c.args.tokenizer })) c.args.name.now (record { name = c.index_mut.result.now.name; value = c.args.tokenizer }) _
    (Puts-replaced (λ v. v.name) c.args.self.now.tokenizers.items c.in-Some.place (record { name = c.index_mut.result.now.name; value = c.args.tokenizer }) c.args.name.now at
    (ap (λ v. v.name) c.index_mut.ensures.value ∙ named_at (λ v. v.name) c.args.self.now.tokenizers.items c.in-Some.place c.index_mut.result.now c.args.name.now at))

pub returns-in_ok-push-in-None-clause-ok : goal.returns-in_ok-push-in-None-clause-ok
returns-in_ok-push-in-None-clause-ok g c =
    let at : None ≡ position (λ v. bytes_eq v.name c.args.name.now) c.args.self.now.tokenizers.items = c.in-None.ensures.place ∙ ap (position (λ v. bytes_eq v.name c.args.name.now)) c.deref.ensures.value in
    registers (λ v. v.name) c.args.self.now.tokenizers.items c.push.new.self.items c.args.name.now (record { name = c.in_ok-name-in-None.name; value = c.args.tokenizer }) _
    (subst (λ new. Puts (λ v. v.name) c.args.self.now.tokenizers.items new c.args.name.now (record { name = c.in_ok-name-in-None.name; value = c.args.tokenizer })) (sym c.in_ok-push-in-None.ensures.items)
    (Puts-pushed (λ v. v.name) c.args.self.now.tokenizers.items (record { name = c.in_ok-name-in-None.name; value = c.args.tokenizer }) c.args.name.now at c.in_ok-name-in-None.ensures))
