-- What a call of a directory in memory makes of its disk.
use Rattle.std.proofs.Common.{◌≡◌, inl, inr, ℕ, List, [], ◌∷◌, ◌++◌, refl, sym, ap, subst, ◌∙◌}
use Rattle.seg_directory.specs.Disk.{IsImage, exactly, torn, with_change}
use Rattle.seg_directory.specs.DiskCalls.{DiskCalls, disk_after, latest, latest_files, no_files, with_disk_call}
use Rattle.seg_directory.specs.DiskChanges.{KeepsDisk, Turns}
use Rattle.seg_directory.specs.FileDisks.{FileDisk, IsWithin, MayReplace, MayTear, NamedFiles, settled}
use Rattle.seg_directory.specs.MemoryDirectories.{told_disk}
use Rattle.seg_directory.specs.declared.disk_call.DiskCall.TheVariants.{Unchanged, Created, Replaced, Synced}
use Rattle.seg_common.specs.declared.name.FileName.{FileName}
use Rattle.seg_directory.proofs.DiskImages.{settled_files_are_the_only_image}
use Rattle.seg_directory.specs.LatestFiles.{latest_is_an_image}
use Rattle.seg_directory.proofs.MemorySteps.{disk_step, files_synced, past_step}

module _ (old : DiskCalls) where
  abbrev now : FileDisk
  now = disk_after no_files old.calls

  pub kept_unchanged : KeepsDisk (told_disk old) (told_disk (with_disk_call old Unchanged))
  kept_unchanged = record {
    during = record { told = refl; moments = now ∷ []; grows = past_step no_files old.calls Unchanged; each = (refl, tt) };
    after = λ _. disk_step no_files old.calls Unchanged;
  }

  -- the files that are read are an image
  latest_within : IsWithin now (disk_after no_files (old.calls ++ Synced ∷ []))
  latest_within files image =
      subst (λ (x : NamedFiles). IsImage now x) (sym (settled_files_are_the_only_image (latest now) files
      (subst (λ (d : FileDisk). IsImage d files) (disk_step no_files old.calls Synced) image)))
      (latest_is_an_image now)

  pub synced : Turns (IsWithin now) (λ d. IsWithin now d × (d ≡ settled (latest_files (old.calls ++ Synced ∷ [])))) (told_disk old) (told_disk (with_disk_call old Synced))
  synced = record {
    during = record { told = refl; moments = now ∷ []; grows = past_step no_files old.calls Synced; each = ((λ files image. image), tt) };
    after = λ _. (latest_within, disk_step no_files old.calls Synced ∙ ap settled (sym (files_synced old.calls)));
  }

  module _ (name : FileName) (bytes : List ℕ) where
    pub created : Turns (MayTear name now) (λ d. d ≡ with_change now name (exactly bytes)) (told_disk old) (told_disk (with_disk_call old (Created name bytes)))
    created = record {
      during = record {
        told = refl;
        moments = now ∷ with_change now name torn ∷ [];
        grows = past_step no_files old.calls (Created name bytes);
        each = (inl refl, (inr refl, tt));
      };
      after = λ _. disk_step no_files old.calls (Created name bytes);
    }

    pub replaced : Turns (MayReplace name bytes now) (λ d. d ≡ with_change now name (exactly bytes)) (told_disk old) (told_disk (with_disk_call old (Replaced name bytes)))
    replaced = record {
      during = record { told = refl; moments = now ∷ []; grows = past_step no_files old.calls (Replaced name bytes); each = (inl refl, tt) };
      after = λ _. disk_step no_files old.calls (Replaced name bytes);
    }
