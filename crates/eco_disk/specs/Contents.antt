-- What a disk in memory holds.
use Rattle.std.specs.Prelude.{◌≡◌, ℕ, List}
use Rattle.eco_disk.specs.declared.contents.Contents.{Contents}
use Rattle.eco_disk.specs.Synced.{kept_in}

abbrev pub first_of : Contents → List ℕ
first_of contents = contents.first.value.items

abbrev pub kept_of : Contents → List ℕ
kept_of contents = kept_in contents.bytes.items contents.synced

-- what was there at first and what was kept stay
pub record SamePast (old new : Contents) : Type 0 where
  pub first : first_of new ≡ first_of old
  pub kept : kept_of new ≡ kept_of old
