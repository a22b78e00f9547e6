-- A fact of the contents where they are reported.
use Rattle.std.proofs.Common.{◌≡◌, List, ℕ, Option, Some, None, refl, subst}
use Rattle.eco_disk.specs.Disk.{OnTold}

pub told_at : (o : Option (List ℕ)) (P : List ℕ → Type 0) (bytes : List ℕ) → o ≡ Some bytes → OnTold o P → P bytes
told_at o P bytes told all = subst (λ v. OnTold v P) told all

pub told_from : (o : Option (List ℕ)) (P : List ℕ → Type 0) → ((bytes : List ℕ) → o ≡ Some bytes → P bytes) → OnTold o P
told_from None P all = tt
told_from (Some bytes) P all = all bytes refl
