-- How runs of directory calls go on.
use Rattle.std.proofs.Common.{◌≡◌, inl, inr, List, [], ◌∷◌, ◌++◌, length, drop, append_assoc, refl, sym, ap, subst, ◌∙◌}
use Rattle.std.proofs.lemmas.List.{append-nil}
use Rattle.std.specs.List.{AllByRecursion}
use Rattle.seg_directory.specs.FileDisks.{NamedFiles, FileDisk}
use Rattle.seg_directory.specs.DirectoryStates.{DiskState, Passes, IsImageOfSome, HasOnly, LeavesOnly}

all_weaker : (P Q : FileDisk → Type 0) (ds : List FileDisk) → ((d : FileDisk) → P d → Q d) → AllByRecursion P ds → AllByRecursion Q ds
all_weaker P Q [] weaker all = tt
all_weaker P Q (d ∷ ds) weaker all = (weaker d all.0, all_weaker P Q ds weaker all.1)

all_append : (P : FileDisk → Type 0) (ds es : List FileDisk) → AllByRecursion P ds → AllByRecursion P es → AllByRecursion P (ds ++ es)
all_append P [] es first then = then
all_append P (d ∷ ds) es first then = (first.0, all_append P ds es first.1 then)

pub passes_weaker : {P Q : FileDisk → Type 0} {old new : DiskState} → ((d : FileDisk) → P d → Q d) → Passes P old new → Passes Q old new
passes_weaker {P} {Q} weaker p = record { told = p.told; moments = p.moments; grows = p.grows; each = all_weaker P Q p.moments weaker p.each }

pub passes_on : {P : FileDisk → Type 0} {old mid new : DiskState} → Passes P old mid → Passes P mid new → Passes P old new
passes_on {P} {old = old} p q = record {
  told = q.told ∙ p.told;
  moments = p.moments ++ q.moments;
  grows = q.grows ∙ ap (λ ds. ds ++ q.moments) p.grows ∙ append_assoc old.past p.moments q.moments;
  each = all_append P p.moments q.moments p.each q.each;
}

-- before the first call
pub started : {P : FileDisk → Type 0} (old : DiskState) → Passes P old old
started old = record { told = refl; moments = []; grows = sym (append-nil old.past); each = tt }

dropped : (ds es : List FileDisk) → drop (length ds) (ds ++ es) ≡ es
dropped [] es = refl
dropped (d ∷ ds) es = dropped ds es

among : (P : NamedFiles → Type 0) (ds : List FileDisk) (last : FileDisk) → AllByRecursion (HasOnly P) ds → HasOnly P last → (files : NamedFiles) → IsImageOfSome (ds ++ last ∷ []) files → P files
among P [] last all at files (inl image) = at files image
among P [] last all at files (inr none) = absurd none
among P (d ∷ ds) last all at files (inl image) = all.0 files image
among P (d ∷ ds) last all at files (inr later) = among P ds last all.1 at files later

-- where each image of each disk has P, a crash since then has left nothing else
pub leaves_only : (P : NamedFiles → Type 0) (old new : DiskState) → Passes (HasOnly P) old new → HasOnly P new.now → LeavesOnly P old new
leaves_only P old new during after = record {
  since = λ files left. among P during.moments new.now during.each after files
      (subst (λ ds. IsImageOfSome ds files)
      (ap (λ ds. drop (length old.past) (ds ++ new.now ∷ [])) during.grows
      ∙ ap (drop (length old.past)) (append_assoc old.past during.moments (new.now ∷ []))
      ∙ dropped old.past (during.moments ++ new.now ∷ [])) left);
  during = during;
  after = after;
}

-- a run goes on
pub leaves_on : (P : NamedFiles → Type 0) (Q : FileDisk → Type 0) (old mid new : DiskState) → LeavesOnly P old mid → Passes Q mid new → ((d : FileDisk) → Q d → HasOnly P d) → HasOnly P new.now → LeavesOnly P old new
leaves_on P Q old mid new so_far more opens after = leaves_only P old new (passes_on so_far.during (passes_weaker opens more)) after
