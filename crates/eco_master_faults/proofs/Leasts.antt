-- The least of names, one after another.
use Rattle.std.proofs.Common.{◌≡◌, ◌≢◌, true, false, List, [], ◌∷◌, ◌++◌, Option, Some, None, refl, sym, ap, subst, ◌∙◌, inl, inr, ⊎_elim, Less, true≢false, append_assoc}
use Rattle.std.specs.Ordering.{is_lt}
use Rattle.std.proofs.lemmas.Cmp.{nat_list_cmp_total, tied_itself}
use Rattle.std.proofs.lemmas.List.{append-nil}
use Rattle.eco_net.specs.Among.{Has}
use Rattle.eco_net.specs.Netlist.{Name, name_cmp}
use Rattle.eco_net.proofs.Basics.{has_append_left, has_append_right}
use Rattle.eco_net.proofs.AllPins.{split_has}
use Rattle.eco_net.proofs.Rotated.{less_is}
use Rattle.eco_master_faults.specs.Differing.{IsLeast}
use Rattle.eco_master_faults.specs.Odd.{Lessens}

not_less_itself : (n : Name) → name_cmp n n ≢ Less
not_less_itself n e = let s = sym (tied_itself nat_list_cmp_total n) ∙ e in absurd (cc)

itself_alone : (n k : Name) → Has (n ∷ []) k → name_cmp k n ≢ Less
itself_alone n k (inl e) l = not_less_itself n (subst (λ x. name_cmp x n ≡ Less) (sym e) l)
itself_alone n k (inr h) l = absurd h

pub first_name : (n : Name) → Lessens None (n ∷ []) (Some n)
first_name n before none =
    (has_append_right before (n ∷ []) n (inl refl), λ k h. ⊎_elim (λ b. absurd (none k b)) (itself_alone n k) (split_has before (n ∷ []) k h))

pub less_name : (m n : Name) → is_lt (name_cmp n m) ≡ true → Lessens (Some m) (n ∷ []) (Some n)
less_name m n e before least = (
  has_append_right before (n ∷ []) n (inl refl),
  λ k h. ⊎_elim (λ b l. least.1 k b (nat_list_cmp_total.trans k n m l (less_is _ e))) (itself_alone n k) (split_has before (n ∷ []) k h),
)

pub kept_name : (m n : Name) → is_lt (name_cmp n m) ≡ false → Lessens (Some m) (n ∷ []) (Some m)
kept_name m n e before least =
    (has_append_left before (n ∷ []) m least.0, λ k h. ⊎_elim (least.1 k) (alone k) (split_has before (n ∷ []) k h))
  where
    alone : (k : Name) → Has (n ∷ []) k → name_cmp k m ≢ Less
    alone k (inl s) l = true≢false (sym (ap is_lt (subst (λ x. name_cmp x m ≡ Less) (sym s) l)) ∙ e)
    alone k (inr h) l = absurd h

pub lessens_none : (o : Option Name) → Lessens o [] o
lessens_none o before least = subst (λ ns. IsLeast (Has ns) o) (sym (append-nil before)) least

pub lessens_more : (xs ys : List Name) (a b c : Option Name) → Lessens a xs b → Lessens b ys c → Lessens a (xs ++ ys) c
lessens_more xs ys a b c f g before least =
    subst (λ ns. IsLeast (Has ns) c) (append_assoc before xs ys) (g (before ++ xs) (f before least))

-- the least of all
pub least_of_all : (xs : List Name) (o : Option Name) → Lessens None xs o → IsLeast (Has xs) o
least_of_all xs o f = f [] (λ n h. h)

-- the least by another form of the property
pub least_agree : (P Q : Name → Type 0) → ((n : Name) → P n → Q n) → ((n : Name) → Q n → P n) → (o : Option Name) → IsLeast P o → IsLeast Q o
least_agree P Q f g None least = λ n q. least n (g n q)
least_agree P Q f g (Some m) least = (f m least.0, λ n q. least.1 n (g n q))
