-- The base without its stock and the whole base, before any order
use Rattle.std.proofs.Common.{◌≡◌, Bool, true, false, cond, not, List, [], ◌∷◌, Some, None, refl, sym, ap, ◌∙◌, subst, inl, inr, ⊎_elim, ◌⊎◌, true≢false, ◌||◌}
use Rattle.std.specs.Ordering.{eq_by_cmp}
use Rattle.std.specs.List.{list_any}
use Rattle.std.specs.FinMap.{get, get-retain_keys}
use Rattle.std.proofs.lemmas.Map.Lookups.{exact_bytes}
use Rattle.eco_net.specs.Netlist.{Name, name_cmp, Component}
use Rattle.eco_net.proofs.Basics.{Has, same_Some, not_None, same_of_cmp, cmp_itself, contains_from_has}
use Rattle.eco_net.specs.Bases.{Base, IsBase, IsSpare, is_stock, bare}
use Rattle.eco_patch_laws.proofs.Feeding.{spare_idle}
use Rattle.eco_patch_laws.proofs.Step.{Related}

pub bool_cases : (b : Bool) → (b ≡ true) ⊎ (b ≡ false)
bool_cases true = inl refl
bool_cases false = inr refl

or_cases : (a b : Bool) → (a || b) ≡ true → (a ≡ true) ⊎ (b ≡ true)
or_cases true b e = inl refl
or_cases false b e = inr e

or_right : (a b : Bool) → b ≡ true → (a || b) ≡ true
or_right true b e = refl
or_right false b e = e

or_left : (a b : Bool) → a ≡ true → (a || b) ≡ true
or_left true b e = refl
or_left false b e = absurd (true≢false (sym e))

pub any_has : (c : Name) (ns : List Name) → list_any (eq_by_cmp name_cmp c) ns ≡ true → Has ns c
any_has c [] e = absurd (true≢false (sym e))
any_has c (n ∷ ns) e = ⊎_elim (λ h. inl (sym (same_of_cmp c n h))) (λ h. inr (any_has c ns h)) (or_cases _ _ e)

has_any : (c : Name) (ns : List Name) → Has ns c → list_any (eq_by_cmp name_cmp c) ns ≡ true
has_any c [] h = absurd h
has_any c (n ∷ ns) (inl e) = or_left _ _ (ap (λ z. eq_by_cmp name_cmp c z) e ∙ cmp_itself c)
has_any c (n ∷ ns) (inr h) = or_right (eq_by_cmp name_cmp c n) _ (has_any c ns h)

module _ (base : Base) where
  pub bare_get : (c : Name) → get (bare base).comps c ≡ cond (not (is_stock base c)) (get base.full.comps c) None
  bare_get c = get-retain_keys base.full.comps (λ d. not (is_stock base d)) c (λ x e. ap (λ d. not (is_stock base d)) (sym (exact_bytes c x e)))

  pub bare_stock : (s : Name) → Has base.stock s → get (bare base).comps s ≡ None
  bare_stock s h = bare_get s ∙ ap (λ b. cond (not b) (get base.full.comps s) None) (has_any s base.stock h)

  pub bare_other : (c : Name) → is_stock base c ≡ false → get (bare base).comps c ≡ get base.full.comps c
  bare_other c e = bare_get c ∙ ap (λ b. cond (not b) (get base.full.comps c) None) e

  pub in_full : (c : Name) (x : Component) → get (bare base).comps c ≡ Some x → get base.full.comps c ≡ Some x
  in_full c x e = ⊎_elim
      (λ t. absurd (not_None (sym e ∙ bare_stock c (any_has c base.stock t))))
      (λ f. sym (bare_other c f) ∙ e)
      (bool_cases (is_stock base c))

pub start : (base : Base) → IsBase base → Related base (bare base) base.full [] [] []
start base is = record {
  sim = record {
    nets = refl;
    tops = refl;
    forth = λ c x e. inl (in_full base c x e);
    back = λ c x e. ⊎_elim
        (λ t. let s = is.stock c (contains_from_has base.stock c (any_has c base.stock t)) in inr (inr (spare_idle x (subst IsSpare (same_Some (sym s.1 ∙ e)) s.2))))
        (λ f. inl (bare_other base c f ∙ e))
        (bool_cases (is_stock base c));
    in_place = λ u h. absurd h;
    one_gate = λ u w h i e. absurd h;
    low_is = is.low_is;
    high_is = is.high_is;
  };
  loop_free = is.loop_free;
  ties = refl;
  base_comps = λ c x e. (x, e, in_full base c x e);
  stock = λ s h k. refl;
  no_stock = bare_stock base;
  spares_used = λ u h. absurd h;
  names_N = λ c x e. inl (λ h. is.no_blank c x (in_full base c x e) (contains_from_has c 32 h));
  names_M = λ c x e h. is.no_blank c x e (contains_from_has c 32 h);
  no_blanks = λ l h. absurd h;
}
