-- Joints that wait until their components are looked up together.
use Rattle.std.proofs.Common.{◌≡◌, ℕ, zero, suc, ◌+◌, ◌<◌, arith, Bool, List, [], ◌∷◌, ◌++◌, length, map, take, drop, get_or, Result, Ok, Err, OnOk, refl, sym, ap, ◌∙◌, subst, ◌⊎◌, inl, inr, ⊎_elim, append_assoc}
use Rattle.std.specs.List.{Contains, AllZip}
use Rattle.std.specs.Borrow.{Bor}
use Rattle.std.proofs.lemmas.List.{append-nil}
use Rattle.eco_def.specs.declared.design.NetStatement.{NetStatement}
use Rattle.eco_common.specs.Joints.{NewJoint}
use Rattle.eco_net.specs.Netlist.{Name}
use Rattle.eco_net.specs.Listing.{Listing}
use Rattle.eco_net.proofs.Basics.{Has, same_head, has_from_contains, has_append_right, has_map, has_of_map}
use Rattle.eco_elaborate.specs.declared.fault.DesignFault.{DesignFault}
use Rattle.eco_elaborate.specs.declared.joined_pin.JoinedPin.{JoinedPin}
use Rattle.eco_elaborate.specs.declared.stated_joint.StatedJoint.{StatedJoint}
use Rattle.eco_elaborate.specs.Stated.{named_net, named_nets, stated_pins, all_pins_on}
use Rattle.eco_elaborate.specs.Stages.{stated_joints, FindsPins, FindsOrWaits}
use Rattle.eco_elaborate.proofs.FindingPins.{no_pins_found, pins_more, has_of_take, all_pins_more}
use Rattle.eco_elaborate.proofs.Stating.{same_pins}

-- ---- lists of one length

pub zip_long : {A B : Type 0} (R : A → B → Type 0) (xs : List A) (ys : List B) → AllZip R xs ys → length xs ≡ length ys
zip_long R [] [] h = refl
zip_long R [] (y ∷ ys) h = absurd h
zip_long R (x ∷ xs) [] h = absurd h
zip_long R (x ∷ xs) (y ∷ ys) h = ap suc (zip_long R xs ys h.1)

pub zip_at : {A B : Type 0} (R : A → B → Type 0) (xs : List A) (ys : List B) → AllZip R xs ys → (i : ℕ) (d : A) (e : B) → i < length xs → R (get_or xs i d) (get_or ys i e)
zip_at R [] ys h i d e l = absurd (omega (arith, l))
zip_at R (x ∷ xs) [] h i d e l = absurd h
zip_at R (x ∷ xs) (y ∷ ys) h zero d e l = h.0
zip_at R (x ∷ xs) (y ∷ ys) h (suc i) d e l = zip_at R xs ys h.1 i d e (omega (arith, l))

-- what holds of names holds of what has these names
pub zip_named : {A B : Type 0} (R : Name → B → Type 0) (name : A → Name) (ns : List (Bor Name)) (xs : List A) (ys : List B) → map (λ n. n.now) ns ≡ map name xs → AllZip (λ n y. R n.now y) ns ys → AllZip (λ x y. R (name x) y) xs ys
zip_named R name [] [] ys e h = h
zip_named R name [] (x ∷ xs) ys e h = cc
zip_named R name (n ∷ ns) [] ys e h = cc
zip_named R name (n ∷ ns) (x ∷ xs) [] e h = h
zip_named R name (n ∷ ns) (x ∷ xs) (y ∷ ys) e h = (subst (λ m. R m y) (same_head e) h.0, zip_named R name ns xs ys (ap (drop 1) e) h.1)

pub one_of : {A : Type 0} (x : A) (ys : List A) → Has ys x → (y : A) → Has (x ∷ []) y → Has ys y
one_of x ys h y (inl e) = subst (Has ys) e h
one_of x ys h y (inr z) = absurd z

-- ---- what waits

module _ (powered : Name → Name → Bool) (text : List ℕ) (L : Listing) where
  pub none_waits : FindsOrWaits powered text L [] [] []
  none_waits = record { done = []; finds = no_pins_found powered L []; all = refl; nets = λ s h. absurd (has_from_contains {A = StatedJoint} [] s h) }

  pub more_wait : (js more : List NewJoint) (found : List JoinedPin) (old new : List StatedJoint) → FindsOrWaits powered text L js found old → stated_joints text L.nets new ≡ stated_joints text L.nets old ++ more →
      ((s : StatedJoint) → Contains new s → Contains old s ⊎ (s.net.0 < length L.nets)) → FindsOrWaits powered text L (js ++ more) found new
  more_wait js more found old new w e nets = record {
    done = w.done;
    finds = w.finds;
    all = ap (λ ks. ks ++ more) w.all ∙ append_assoc w.done (stated_joints text L.nets old) more ∙ ap (λ ks. w.done ++ ks) (sym e);
    nets = λ s h. ⊎_elim (w.nets s) (λ l. l) (nets s h);
  }

  pub statement_waits : (ss : List NetStatement) (i : ℕ) (s : NetStatement) → i < length ss → s ≡ get_or ss i s → (found : List JoinedPin) (old new : List StatedJoint) →
      FindsOrWaits powered text L (all_pins_on (named_nets text (take i ss))) found old → stated_joints text L.nets new ≡ stated_joints text L.nets old ++ stated_pins (named_net text s) →
      ((s : StatedJoint) → Contains new s → Contains old s ⊎ (s.net.0 < length L.nets)) → FindsOrWaits powered text L (all_pins_on (named_nets text (take (i + 1) ss))) found new
  statement_waits ss i s h is found old new w e nets =
      subst (λ (js : List NewJoint). FindsOrWaits powered text L js found new) (sym (all_pins_more text ss i s h is))
      (more_wait (all_pins_on (named_nets text (take i ss))) (stated_pins (named_net text s)) found old new w e nets)

  pub all_settled : (js : List NewJoint) (old new : List JoinedPin) (waiting left : List StatedJoint) → FindsOrWaits powered text L js old waiting → FindsPins powered L (stated_joints text L.nets waiting) old new → left ≡ [] →
      FindsOrWaits powered text L js new left
  all_settled js old new waiting left w f e = record {
    done = w.done ++ stated_joints text L.nets waiting;
    finds = pins_more powered L _ _ _ _ _ w.finds f;
    all = w.all ∙ sym (append-nil (w.done ++ stated_joints text L.nets waiting)) ∙ ap (λ ss. (w.done ++ stated_joints text L.nets waiting) ++ stated_joints text L.nets ss) (sym e);
    nets = λ s h. absurd (has_from_contains {A = StatedJoint} [] s (subst (λ ss. Contains ss s) e h));
  }

  pub settles_all : (old new : List JoinedPin) (waiting left : List StatedJoint) (r : Result (Unit {0}) DesignFault) → OnOk r (left ≡ []) → OnOk r (FindsPins powered L (stated_joints text L.nets waiting) old new) →
      OnOk r ((js : List NewJoint) → FindsOrWaits powered text L js old waiting → FindsOrWaits powered text L js new left)
  settles_all old new waiting left (Ok x) e f = λ js w. all_settled js old new waiting left w f e
  settles_all old new waiting left (Err x) e f = tt

  pub settled : (js : List NewJoint) (old new : List JoinedPin) (waiting : List StatedJoint) → FindsOrWaits powered text L js old waiting → FindsPins powered L (stated_joints text L.nets waiting) old new → FindsPins powered L js [] new
  settled js old new waiting w f = subst (λ ks. FindsPins powered L ks [] new) (sym w.all) (pins_more powered L _ _ _ _ _ w.finds f)

  -- a joint that waits is one of all
  pub waits_among : (js : List NewJoint) (found : List JoinedPin) (waiting : List StatedJoint) → FindsOrWaits powered text L js found waiting → (j : NewJoint) → Has (stated_joints text L.nets waiting) j → Has js j
  waits_among js found waiting w j h = subst (λ ks. Has ks j) (sym w.all) (has_append_right w.done (stated_joints text L.nets waiting) j h)

-- the pins of the first statements are among those of all
pub first_among : (text : List ℕ) (ss : List NetStatement) (i : ℕ) (j : NewJoint) → Has (all_pins_on (named_nets text (take i ss))) j → Has (all_pins_on (named_nets text ss)) j
first_among text ss i j h = same_pins (named_nets text (take i ss)) (named_nets text ss) (λ z g. let s = has_of_map (named_net text) (take i ss) z g in subst (Has (named_nets text ss)) s.2 (has_map (named_net text) ss s.0 (has_of_take ss i s.0 s.1))) j h
