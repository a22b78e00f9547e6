-- Pins put on nets one after another.
use Rattle.std.proofs.Common.{◌≡◌, ◌≢◌, ℕ, suc, ◌<◌, List, [], ◌∷◌, ◌++◌, map, length, slice_get, Option, Some, None, refl, sym, ap, ◌∙◌, subst, inl, inr, ⊎_elim}
use Rattle.std.specs.Option.{option_map, unwrap_or}
use Rattle.std.specs.FinMap.{get}
use Rattle.std.proofs.lemmas.List.{map-append}
use Rattle.eco_common.specs.Joints.{NewJoint}
use Rattle.eco_net.specs.declared.ids.PinRef.TheVariants.{Pin}
use Rattle.eco_net.specs.declared.kind.Kind.{Kind as Given}
use Rattle.eco_net.specs.declared.rows.CompRow.{CompRow}
use Rattle.eco_net.specs.declared.rows.NetRow.{NetRow}
use Rattle.eco_net.specs.Netlist.{Name, Component, Netlist, CompPin, pins_of}
use Rattle.eco_net.specs.Drivers.{net_of}
use Rattle.eco_net.specs.Listing.{Listing, netlist, component, comp_names, given_kind, net_name, pin_at, numbered_pin, with_joint, HasPin}
use Rattle.eco_net.specs.Changes.{with_pin_on, on_net as put_pin}
use Rattle.eco_net.specs.Kept.{IsListing}
use Rattle.eco_net.proofs.Basics.{Has, contains_from_has, has_from_contains, has_append_left, has_append_right, has_map, has_of_map, same_Some, not_None}
use Rattle.eco_net.proofs.Effects.{comp_is, pin_row, same_net}
use Rattle.eco_net.proofs.Numbers.{AlikeRows, rejoined_alike}
use Rattle.eco_elaborate.specs.declared.fault.DesignFault.{DesignFault}
use Rattle.eco_elaborate.specs.declared.fault.DesignFault.TheVariants.{UnknownMacro, UnknownPin, PinNetDiffers, SupplyDiffers, Memory}
use Rattle.eco_elaborate.specs.declared.joined_pin.JoinedPin.{JoinedPin}
use Rattle.eco_net.specs.Joints.{put_on, IsRewired, OneNetEach}
use Rattle.eco_elaborate.specs.Stages.{row_name, pin_name, joint_of, joints_of, IsKnownJoint, name_and_kind, SameNumbers, net_before, JoinsPin, JoinsPins, OneFault, JoinFault}
use Rattle.eco_elaborate.proofs.Members.{has_of_append}
use Rattle.eco_elaborate.proofs.Joining.{is_for, for_some}
use Rattle.eco_elaborate.proofs.Rewiring.{its_wires}

-- ---- netlists

pub rewired_none : (N : Netlist) → IsRewired N [] [] N
rewired_none N = record {
  new_nets = λ n h. absurd (has_from_contains {A = Name} [] n h);
  old_nets = λ n h. refl;
  put = λ j h. absurd (has_from_contains {A = NewJoint} [] j h);
  kept = λ c p h. refl;
  frames = λ c. refl;
  tops = refl;
  ties = refl;
  reserved = refl;
}

-- a pin that is on its net already
pub rewired_same : (N : Netlist) (k : NewJoint) → net_of N (CompPin k.comp k.pin) ≡ Some k.net → IsRewired N (k ∷ []) [] N
rewired_same N k on = record {
  new_nets = λ n h. absurd (has_from_contains {A = Name} [] n h);
  old_nets = λ n h. refl;
  put = λ j h. ⊎_elim (λ e. subst (λ (z : NewJoint). net_of N (CompPin z.comp z.pin) ≡ Some z.net) e on) (λ z. absurd z) (has_from_contains (k ∷ []) j h);
  kept = λ c p h. refl;
  frames = λ c. refl;
  tops = refl;
  ties = refl;
  reserved = refl;
}

alone : (k : NewJoint) → OneNetEach (k ∷ [])
alone k i j h g e f = ⊎_elim (λ a. ⊎_elim (λ b. ap (λ (z : NewJoint). z.net) (sym a ∙ b)) (λ z. absurd z) (has_from_contains (k ∷ []) j g)) (λ z. absurd z) (has_from_contains (k ∷ []) i h)

-- a pin that is put on its net
pub rewired_put : (N : Netlist) (k : NewJoint) (x : Component) → get N.comps k.comp ≡ Some x → IsRewired N (k ∷ []) [] (with_pin_on N (CompPin k.comp k.pin) k.net)
rewired_put N k x e =
    subst (IsRewired N (k ∷ []) []) (go (get N.comps k.comp))
    (its_wires N (k ∷ []) [] (alone k) (λ j h. ⊎_elim (λ s. (x, ap (λ (z : NewJoint). get N.comps z.comp) (sym s) ∙ e)) (λ z. absurd z) (has_from_contains (k ∷ []) j h)))
  where
    go : (o : Option Component) → record N { nets = N.nets; comps = put_on N.comps k o } ≡ record N { comps = put_pin N.comps k.comp k.pin k.net o }
    go None = refl
    go (Some y) = refl

-- one pin more
pub rewired_more : (N P Q : Netlist) (js : List NewJoint) (k : NewJoint) → IsRewired N js [] P → IsRewired P (k ∷ []) [] Q → ((j : NewJoint) → Has js j → j.comp ≡ k.comp → j.pin ≡ k.pin → j.net ≡ k.net) → IsRewired N (js ++ k ∷ []) [] Q
rewired_more N P Q js k a b agree = record {
  new_nets = λ n h. absurd (has_from_contains {A = Name} [] n h);
  old_nets = λ n h. b.old_nets n h ∙ a.old_nets n h;
  put = λ j h. ⊎_elim (λ i. old j i) (λ i. ⊎_elim (λ e. subst (λ (z : NewJoint). net_of Q (CompPin z.comp z.pin) ≡ Some z.net) e (b.put k (contains_from_has (k ∷ []) k (inl refl)))) (λ z. absurd z) i) (has_of_append js (k ∷ []) j (has_from_contains (js ++ k ∷ []) j h));
  kept = λ c p none.
      b.kept c p (λ j h e f. none j (contains_from_has (js ++ k ∷ []) j (right j (has_from_contains (k ∷ []) j h))) e f)
      ∙ a.kept c p (λ j h e f. none j (contains_from_has (js ++ k ∷ []) j (has_append_left js (k ∷ []) j (has_from_contains js j h))) e f);
  frames = λ c. b.frames c ∙ a.frames c;
  tops = b.tops ∙ a.tops;
  ties = b.ties ∙ a.ties;
  reserved = b.reserved ∙ a.reserved;
}
  where
    right : (j : NewJoint) → Has (k ∷ []) j → Has (js ++ k ∷ []) j
    right j h = has_append_right js (k ∷ []) j h

    old : (j : NewJoint) → Has js j → net_of Q (CompPin j.comp j.pin) ≡ Some j.net
    old j h = ⊎_elim
        (λ s.
        subst (λ c. net_of Q (CompPin c j.pin) ≡ Some j.net) s.0 (subst (λ p. net_of Q (CompPin k.comp p) ≡ Some j.net) s.1
        (b.put k (contains_from_has (k ∷ []) k (inl refl)) ∙ ap Some (sym (agree j h (sym s.0) (sym s.1))))))
        (λ n. b.kept j.comp j.pin (λ i g e f. ⊎_elim (λ s. n (ap (λ (z : NewJoint). z.comp) s ∙ e, ap (λ (z : NewJoint). z.pin) s ∙ f)) (λ z. absurd z) (has_from_contains (k ∷ []) i g)) ∙ a.put j (contains_from_has js j h))
        (is_for k j.comp j.pin)

-- ---- numbers

pub same_numbers : (L : Listing) → SameNumbers L L
same_numbers L = record { nets = refl; comps = λ c. refl }

pub numbers_stay : (L M N : Listing) → SameNumbers L M → SameNumbers M N → SameNumbers L N
numbers_stay L M N a b = record { nets = b.nets ∙ a.nets; comps = λ c. b.comps c ∙ a.comps c }

joined_numbers : (L : Listing) (c k n : ℕ) → SameNumbers L (record L { comps = with_joint L.comps c k n })
joined_numbers L c k n = record { nets = refl; comps = λ d. go (slice_get L.comps d) (slice_get (with_joint L.comps c k n) d) (rejoined_alike L.comps c k (Some n) d) }
  where
    go : (o p : Option CompRow) → AlikeRows o p → option_map name_and_kind p ≡ option_map name_and_kind o
    go None None h = refl
    go None (Some s) h = absurd h
    go (Some r) None h = absurd h
    go (Some r) (Some s) h = λ i. Some (h.0 i, h.1 i)

-- what stands under a number
same_name : (o p : Option CompRow) → option_map name_and_kind o ≡ option_map name_and_kind p → row_name o ≡ row_name p
same_name None None e = refl
same_name None (Some s) e = absurd (not_None (sym e))
same_name (Some r) None e = absurd (not_None e)
same_name (Some r) (Some s) e = ap (λ z. z.0) (same_Some e)

same_row_names : (rows others : List CompRow) → ((i : ℕ) → option_map name_and_kind (slice_get rows i) ≡ option_map name_and_kind (slice_get others i)) → map (λ (r : CompRow). r.name) rows ≡ map (λ (r : CompRow). r.name) others
same_row_names [] [] e = refl
same_row_names [] (s ∷ others) e = absurd (not_None (sym (e 0)))
same_row_names (r ∷ rows) [] e = absurd (not_None (e 0))
same_row_names (r ∷ rows) (s ∷ others) e =
    let first : r.name ≡ s.name = ap (λ (z : Name × Given). z.0) (same_Some (e 0)) in
    ap (λ n. n ∷ map (λ (r : CompRow). r.name) rows) first ∙ ap (λ ns. s.name ∷ ns) (same_row_names rows others (λ i. e (suc i)))

pub same_comp_names : (M L : Listing) → SameNumbers L M → comp_names M ≡ comp_names L
same_comp_names M L same = same_row_names M.comps L.comps same.comps

same_pin : (o p : Option CompRow) (k : ℕ) → option_map name_and_kind o ≡ option_map name_and_kind p → pin_name o k ≡ pin_name p k
same_pin None None k e = refl
same_pin None (Some s) k e = absurd (not_None (sym e))
same_pin (Some r) None k e = absurd (not_None e)
same_pin (Some r) (Some s) k e = ap (λ z. unwrap_or (option_map (λ p. p.0) (slice_get (pins_of (given_kind z.1)) k)) []) (same_Some e)

same_known : (o p : Option CompRow) (k : ℕ) → option_map name_and_kind o ≡ option_map name_and_kind p → HasPin p k → HasPin o k
same_known None None k e h = h
same_known None (Some s) k e h = absurd (not_None (sym e))
same_known (Some r) None k e h = absurd (not_None e)
same_known (Some r) (Some s) k e h = subst (λ (z : Name × Given). k < length (pins_of (given_kind z.1))) (sym (same_Some e)) h

pub joint_stays : (L M : Listing) (p : JoinedPin) → SameNumbers L M → joint_of M p ≡ joint_of L p
joint_stays L M p same =
    let comp = same_name (slice_get M.comps p.comp.0) (slice_get L.comps p.comp.0) (same.comps p.comp.0) in
    let pin = same_pin (slice_get M.comps p.comp.0) (slice_get L.comps p.comp.0) p.pin (same.comps p.comp.0) in
    λ i. record { comp = comp i; pin = pin i; net = net_name (same.nets i) p.net.0 }

pub known_stays : (L M : Listing) (p : JoinedPin) → SameNumbers L M → IsKnownJoint L p → IsKnownJoint M p
known_stays L M p same known = (
  same_known (slice_get M.comps p.comp.0) (slice_get L.comps p.comp.0) p.pin (same.comps p.comp.0) known.0,
  subst (λ (ns : List NetRow). p.net.0 < length ns) (sym same.nets) known.1,
)

-- ---- one pin

module _ (L : Listing) (is : IsListing L) (p : JoinedPin) (known : IsKnownJoint L p) where
  pin_is : numbered_pin L (Pin p.comp p.pin) ≡ CompPin (joint_of L p).comp (joint_of L p).pin
  pin_is = go (slice_get L.comps p.comp.0) known.0
    where
      go : (o : Option CompRow) → HasPin o p.pin → pin_at o p.pin ≡ CompPin (row_name o) (pin_name o p.pin)
      go None h = absurd h
      go (Some r) h = refl

  before_is : net_of (netlist L) (numbered_pin L (Pin p.comp p.pin)) ≡ net_before L p
  before_is = ap (net_of (netlist L)) pin_is

  pub pin_joined : net_of (netlist L) (numbered_pin L (Pin p.comp p.pin)) ≡ None → (M : Listing) → M ≡ record L { comps = with_joint L.comps p.comp.0 p.pin p.net.0 } →
      netlist M ≡ with_pin_on (netlist L) (numbered_pin L (Pin p.comp p.pin)) (net_name L.nets p.net.0) → JoinsPin L p M
  pin_joined none M rows named =
      let w = pin_row L is p.comp.0 p.pin known.0 in
      let x : get (netlist L).comps (joint_of L p).comp ≡ Some (component L.nets w.row) = ap (λ o. get (netlist L).comps (row_name o)) w.is ∙ comp_is L is p.comp.0 w.row w.is in
      record {
        wired = subst (IsRewired (netlist L) (joint_of L p ∷ []) []) (sym (named ∙ ap (λ q. with_pin_on (netlist L) q (net_name L.nets p.net.0)) pin_is)) (rewired_put (netlist L) (joint_of L p) (component L.nets w.row) x);
        before = inl (sym before_is ∙ none);
        same = subst (SameNumbers L) (sym rows) (joined_numbers L p.comp.0 p.pin p.net.0);
      }

  pub pin_stays : (n : ℕ) → net_of (netlist L) (numbered_pin L (Pin p.comp p.pin)) ≡ Some (net_name L.nets n) → n ≡ p.net.0 → JoinsPin L p L
  pin_stays n on e =
      let at : net_before L p ≡ Some (joint_of L p).net = sym before_is ∙ on ∙ ap (λ m. Some (net_name L.nets m)) e in
      record { wired = rewired_same (netlist L) (joint_of L p) at; before = inr at; same = same_numbers L }

  pub pin_differs : (n : ℕ) → n < length L.nets → net_of (netlist L) (numbered_pin L (Pin p.comp p.pin)) ≡ Some (net_name L.nets n) → n ≢ p.net.0 → OneFault L p PinNetDiffers
  pin_differs n lt on a = (net_name L.nets n, sym before_is ∙ on, λ e. a (same_net L is n p.net.0 lt known.1 e))

-- ---- many pins

pub no_pins_joined : (L : Listing) → JoinsPins L [] L
no_pins_joined L = record { wired = rewired_none (netlist L); one = λ j k h i e f. absurd (has_from_contains {A = NewJoint} [] j h); same = same_numbers L }

module _ (L M : Listing) (ps : List JoinedPin) (p : JoinedPin) (now : JoinsPins L ps M) where
  joint : joint_of M p ≡ joint_of L p
  joint = joint_stays L M p now.same

  -- the net that a pin was put on before
  on_before : (j : NewJoint) → Has (joints_of L ps) j → j.comp ≡ (joint_of L p).comp → j.pin ≡ (joint_of L p).pin → net_before M p ≡ Some j.net
  on_before j h e f =
      ap (λ (k : NewJoint). net_of (netlist M) (CompPin k.comp k.pin)) joint
      ∙ sym (λ i. net_of (netlist M) (CompPin (e i) (f i)))
      ∙ now.wired.put j (contains_from_has (joints_of L ps) j h)

  pub pins_joined : (N : Listing) → JoinsPin M p N → JoinsPins L (ps ++ p ∷ []) N
  pins_joined N step = record {
    wired = subst (λ js. IsRewired (netlist L) js [] (netlist N)) (sym (map-append (joint_of L) ps (p ∷ [])))
        (rewired_more (netlist L) (netlist M) (netlist N) (joints_of L ps) (joint_of L p) now.wired (subst (λ j. IsRewired (netlist M) (j ∷ []) [] (netlist N)) joint step.wired) agree);
    one = subst OneNetEach (sym (map-append (joint_of L) ps (p ∷ []))) one;
    same = numbers_stay L M N now.same step.same;
  }
    where
      agree : (j : NewJoint) → Has (joints_of L ps) j → j.comp ≡ (joint_of L p).comp → j.pin ≡ (joint_of L p).pin → j.net ≡ (joint_of L p).net
      agree j h e f = ⊎_elim
          (λ none. absurd (not_None (sym (on_before j h e f) ∙ none)))
          (λ on. same_Some (sym (on_before j h e f) ∙ on) ∙ ap (λ (k : NewJoint). k.net) joint)
          step.before

      one : OneNetEach (joints_of L ps ++ joint_of L p ∷ [])
      one i j h g e f = ⊎_elim
          (λ a. ⊎_elim
          (λ b. now.one i j (contains_from_has (joints_of L ps) i a) (contains_from_has (joints_of L ps) j b) e f)
          (λ b. ⊎_elim (λ s. agree i a (e ∙ ap (λ (k : NewJoint). k.comp) (sym s)) (f ∙ ap (λ (k : NewJoint). k.pin) (sym s)) ∙ ap (λ (k : NewJoint). k.net) s) (λ z. absurd z) b)
          (has_of_append (joints_of L ps) (joint_of L p ∷ []) j (has_from_contains (joints_of L ps ++ joint_of L p ∷ []) j g)))
          (λ a. ⊎_elim
          (λ s. ⊎_elim
          (λ b. ap (λ (k : NewJoint). k.net) (sym s) ∙ sym (agree j b (sym e ∙ ap (λ (k : NewJoint). k.comp) (sym s)) (sym f ∙ ap (λ (k : NewJoint). k.pin) (sym s))))
          (λ b. ⊎_elim (λ t. ap (λ (k : NewJoint). k.net) (sym s ∙ t)) (λ z. absurd z) b)
          (has_of_append (joints_of L ps) (joint_of L p ∷ []) j (has_from_contains (joints_of L ps ++ joint_of L p ∷ []) j g)))
          (λ z. absurd z) a)
          (has_of_append (joints_of L ps) (joint_of L p ∷ []) i (has_from_contains (joints_of L ps ++ joint_of L p ∷ []) i h))

  pub pins_differ : (all : List JoinedPin) (fault : DesignFault) → ((q : JoinedPin) → Has ps q → Has all q) → Has all p → net_before L p ≡ None → OneFault M p fault → JoinFault (joints_of L all) fault
  pins_differ all UnknownMacro front has off f = f
  pins_differ all UnknownPin front has off f = f
  pins_differ all PinNetDiffers front has off f = ⊎_elim
      (λ r.
      let net : r.0.net ≡ f.0 = same_Some (sym (on_before r.0 r.1 r.2 r.3) ∙ f.1) in
      let q = has_of_map (joint_of L) ps r.0 r.1 in (
        r.0,
        joint_of L p,
        contains_from_has (joints_of L all) r.0 (subst (Has (joints_of L all)) q.2 (has_map (joint_of L) all q.0 (front q.0 q.1))),
        contains_from_has (joints_of L all) (joint_of L p) (has_map (joint_of L) all p has),
        r.2,
        r.3,
        λ e. f.2 (sym net ∙ e ∙ sym (ap (λ (k : NewJoint). k.net) joint)),
      ))
      (λ none. absurd (not_None (sym f.1 ∙ ap (λ (k : NewJoint). net_of (netlist M) (CompPin k.comp k.pin)) joint
      ∙ now.wired.kept (joint_of L p).comp (joint_of L p).pin (λ j h e g. none j (has_from_contains (joints_of L ps) j h) (e, g)) ∙ off)))
      (for_some (joints_of L ps) (joint_of L p).comp (joint_of L p).pin)
  pins_differ all SupplyDiffers front has off f = f
  pins_differ all Memory front has off f = f
