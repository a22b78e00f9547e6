-- The first of lists that follow each other.
use Rattle.std.proofs.Common.{◌≡◌, Bool, true, false, cond, List, [], ◌∷◌, ◌++◌, Some, None, refl, sym}
use Rattle.std.specs.List.{find}
use Rattle.eco_net.proofs.Basics.{not_None}

pub find_front : {A : Type 0} (p : A → Bool) (xs ys : List A) (x : A) → Some x ≡ find p xs → Some x ≡ find p (xs ++ ys)
find_front p [] ys x e = absurd (not_None e)
find_front {A = A} p (z ∷ zs) ys x e = go (p z) e (λ h. find_front p zs ys x h)
  where
    go : (b : Bool) → Some x ≡ cond b (Some z) (find p zs) → (Some x ≡ find p zs → Some x ≡ find p (zs ++ ys)) → Some x ≡ cond b (Some z) (find p (zs ++ ys))
    go true h r = h
    go false h r = r h

pub find_past : {A : Type 0} (p : A → Bool) (xs ys : List A) → None ≡ find p xs → find p (xs ++ ys) ≡ find p ys
find_past p [] ys e = refl
find_past {A = A} p (z ∷ zs) ys e = go (p z) e (λ h. find_past p zs ys h)
  where
    go : (b : Bool) → None ≡ cond b (Some z) (find p zs) → (None ≡ find p zs → find p (zs ++ ys) ≡ find p ys) → cond b (Some z) (find p (zs ++ ys)) ≡ find p ys
    go true h r = absurd (not_None (sym h))
    go false h r = r h
