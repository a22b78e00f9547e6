-- The spares of an order, each with its own joints
use Rattle.std.proofs.Common.{◌≡◌, ◌≢◌, List, [], ◌∷◌, map, length, Option, Some, None, refl, sym, ap, ◌∙◌, subst, inl, inr, ⊎_elim, ◌⊎◌, arith}
use Rattle.std.specs.List.{zip, IsDistinct}
use Rattle.std.specs.Ordering.{eq_by_cmp}
use Rattle.std.specs.FinMap.{FinMap, get}
use Rattle.eco_net.specs.Netlist.{Name, name_cmp, Netlist, Component, input_names}
use Rattle.eco_net.proofs.Basics.{Has, same_name, has_map}
use Rattle.eco_patch_laws.specs.Orders.{PatchGate, Placement}
use Rattle.eco_common.specs.Joints.{NewJoint}
use Rattle.eco_patch_laws.specs.Realisation.{spare_joints, all_spare_joints}
use Rattle.eco_patch_laws.proofs.Names.{has_of_append, not_first}
use Rattle.eco_patch_laws.proofs.Joining.{rejoined, rejoined_other, rejoined_append}
use Rattle.eco_patch_laws.proofs.Feeding.{feeding_pin}

abbrev pub Pair : Type 0
Pair = PatchGate × Placement

-- ---- gates and their placements

pub zip_left : (gs : List PatchGate) (ps : List Placement) (e : Pair) → Has (zip gs ps) e → Has gs e.0
zip_left [] ps e h = absurd h
zip_left (g ∷ gs) [] e h = absurd h
zip_left (g ∷ gs) (p ∷ ps) e (inl i) = inl (ap (λ z. z.0) i)
zip_left (g ∷ gs) (p ∷ ps) e (inr i) = inr (zip_left gs ps e i)

pub zip_right : (gs : List PatchGate) (ps : List Placement) (e : Pair) → Has (zip gs ps) e → Has ps e.1
zip_right [] ps e h = absurd h
zip_right (g ∷ gs) [] e h = absurd h
zip_right (g ∷ gs) (p ∷ ps) e (inl i) = inl (ap (λ z. z.1) i)
zip_right (g ∷ gs) (p ∷ ps) e (inr i) = inr (zip_right gs ps e i)

pub zip_has : (gs : List PatchGate) (ps : List Placement) (g : PatchGate) → length ps ≡ length gs → Has gs g → (e : Pair) × Has (zip gs ps) e × (e.0 ≡ g)
zip_has [] ps g l h = absurd h
zip_has (d ∷ gs) [] g l h = absurd (omega (arith, l))
zip_has (d ∷ gs) (p ∷ ps) g l (inl i) = ((d, p), inl refl, i)
zip_has (d ∷ gs) (p ∷ ps) g l (inr i) = let m : length ps ≡ length gs = omega (arith, l) in let r = zip_has gs ps g m i in (r.0, inr r.1, r.2)

abbrev pub gate_names : List PatchGate → List Name
gate_names gs = map (λ g. g.name) gs

abbrev pub spare_names : List Placement → List Name
spare_names ps = map (λ p. p.spare) ps

-- a pair is known by its gate's name
pub pair_of_name : (gs : List PatchGate) (ps : List Placement) (e d : Pair) → IsDistinct (eq_by_cmp name_cmp) (gate_names gs) → Has (zip gs ps) e → Has (zip gs ps) d → e.0.name ≡ d.0.name → e ≡ d
unfolding IsDistinct
pair_of_name [] ps e d a i j s = absurd i
pair_of_name (g ∷ gs) [] e d a i j s = absurd i
pair_of_name (g ∷ gs) (p ∷ ps) e d a (inl i) (inl j) s = sym i ∙ j
pair_of_name (g ∷ gs) (p ∷ ps) e d a (inl i) (inr j) s = absurd (not_first g.name d.0.name (gate_names gs) a.0 (has_map (λ g. g.name) gs d.0 (zip_left gs ps d j)) (ap (λ z. z.0.name) i ∙ s))
pair_of_name (g ∷ gs) (p ∷ ps) e d a (inr i) (inl j) s = absurd (not_first g.name e.0.name (gate_names gs) a.0 (has_map (λ g. g.name) gs e.0 (zip_left gs ps e i)) (ap (λ z. z.0.name) j ∙ sym s))
pair_of_name (g ∷ gs) (p ∷ ps) e d a (inr i) (inr j) s = pair_of_name gs ps e d a.1 i j s

-- no spare serves two gates
abbrev pub SparesApart : List Pair → Type 0
SparesApart [] = Unit {0}
SparesApart (e ∷ es) = ((d : Pair) → Has es d → d.1.spare ≢ e.1.spare) × SparesApart es

pub spares_apart : (gs : List PatchGate) (ps : List Placement) → IsDistinct (eq_by_cmp name_cmp) (spare_names ps) → SparesApart (zip gs ps)
unfolding IsDistinct
spares_apart [] ps a = tt
spares_apart (g ∷ gs) [] a = tt
spares_apart (g ∷ gs) (p ∷ ps) a = (λ d h s. not_first p.spare d.1.spare (spare_names ps) a.0 (has_map (λ p. p.spare) ps d.1 (zip_right gs ps d h)) (sym s), spares_apart gs ps a.1)

-- a name is that of a spare, or of none
pub among_spares : (es : List Pair) (c : Name) → ((e : Pair) × Has es e × (c ≡ e.1.spare)) ⊎ ((e : Pair) → Has es e → c ≢ e.1.spare)
among_spares [] c = inr (λ e h. absurd h)
among_spares (d ∷ es) c =
    ⊎_elim
    (λ s. inl (d, inl refl, s))
    (λ n. ⊎_elim (λ r. inl (r.0, inr r.1, r.2)) (λ r. inr (λ e h. ⊎_elim (λ i s. n (s ∙ sym (ap (λ z. z.1.spare) i))) (λ i. r e i) h)) (among_spares es c))
    (same_name c d.1.spare)

-- ---- whose joints they are

module _ (low high : Name) (M : Netlist) where
  abbrev pub joints_of : Pair → List NewJoint
  joints_of e = spare_joints low high e.0 e.1 (get M.comps e.1.spare)

  pub spare_joint : (e : Pair) (j : NewJoint) → Has (joints_of e) j → j.comp ≡ e.1.spare
  spare_joint e j = go (get M.comps e.1.spare)
    where
      go : (o : Option Component) → Has (spare_joints low high e.0 e.1 o) j → j.comp ≡ e.1.spare
      go None h = absurd h
      go (Some x) (inl s) = ap (λ z. z.comp) (sym s)
      go (Some x) (inr h) = (feeding_pin low high e.0 e.1.spare (input_names x.kind) e.1.feeds j h).0

  pub spares_joint : (es : List Pair) (j : NewJoint) → Has (all_spare_joints low high M es) j → (e : Pair) × Has es e × (j.comp ≡ e.1.spare)
  spares_joint [] j h = absurd h
  spares_joint (e ∷ es) j h =
      ⊎_elim
      (λ i. (e, inl refl, spare_joint e j i))
      (λ i. let r = spares_joint es j i in (r.0, inr r.1, r.2))
      (has_of_append (joints_of e) (all_spare_joints low high M es) j h)

  -- what no spare is keeps its pins
  pub spares_other : (es : List Pair) (c : Name) (m : FinMap name_cmp Name) → ((e : Pair) → Has es e → c ≢ e.1.spare) → rejoined (all_spare_joints low high M es) c m ≡ m
  spares_other es c m h = rejoined_other (all_spare_joints low high M es) c m (λ j i s. let r = spares_joint es j i in h r.0 r.1 (sym s ∙ r.2))

  -- a spare gets its own joints
  pub spares_in : (es : List Pair) (e : Pair) (m : FinMap name_cmp Name) → SparesApart es → Has es e → rejoined (all_spare_joints low high M es) e.1.spare m ≡ rejoined (joints_of e) e.1.spare m
  spares_in [] e m a h = absurd h
  spares_in (d ∷ es) e m a (inl s) =
      subst (λ z. rejoined (all_spare_joints low high M (d ∷ es)) z.1.spare m ≡ rejoined (joints_of z) z.1.spare m) s
      (rejoined_append (joints_of d) (all_spare_joints low high M es) d.1.spare m
      ∙ ap (rejoined (joints_of d) d.1.spare) (spares_other es d.1.spare m (λ c i t. a.0 c i (sym t))))
  spares_in (d ∷ es) e m a (inr h) =
      rejoined_append (joints_of d) (all_spare_joints low high M es) e.1.spare m
      ∙ rejoined_other (joints_of d) e.1.spare _ (λ j i t. a.0 e h (sym t ∙ spare_joint d j i))
      ∙ spares_in es e m a.1 h
