-- A design whose netlist is listed has no faulty joint and no faulty supply, and one that can't be listed has.
use Rattle.std.proofs.Common.{◌≡◌, ◌≢◌, ℕ, true, false, List, [], ◌∷◌, Option, None, inl, inr, ⊎_elim, refl, sym, ◌∙◌, subst, true≢false}
use Rattle.std.specs.List.{Contains, list_all}
use Rattle.eco_def.specs.declared.design.Design.{Design}
use Rattle.eco_def.specs.Named.{NamedComp}
use Rattle.eco_def.specs.Sections.{IsReadingOf}
use Rattle.eco_net.specs.Netlist.{Netlist}
use Rattle.eco_net.proofs.Basics.{Has, contains_from_has, has_from_contains}
use Rattle.eco_elaborate.specs.declared.fault.DesignFault.{DesignFault}
use Rattle.eco_elaborate.specs.declared.fault.DesignFault.TheVariants.{UnknownMacro, UnknownPin, PinNetDiffers, SupplyDiffers, Memory as NoRoom}
use Rattle.eco_elaborate.specs.Netlists.{Kinds, Powers}
use Rattle.eco_elaborate.specs.Stated.{named_nets}
use Rattle.eco_elaborate.specs.Building.{IsFault, IsListed, first_two_valued}
use Rattle.eco_elaborate.proofs.TwoValued.{two_valued_is}
use Rattle.eco_pin_faults.specs.Places.{PinPlace, joints, places}
use Rattle.eco_pin_faults.specs.Faults.{named, first_unknown, first_differing, is_right}
use Rattle.eco_pin_faults.specs.Laws.{FirstIs, NamesPin, IsSecond}
use Rattle.eco_pin_faults.proofs.Known.{unknown_is, differing_is, reasons_found}
use Rattle.eco_pin_faults.proofs.TopJoints.{tops_agree_is}
use Rattle.eco_pin_faults.proofs.Listed.{none_wrong}

first_none : (P : PinPlace → Type 0) (ps : List PinPlace) (o : Option PinPlace) → FirstIs P ps o → o ≡ None → (p : PinPlace) → Contains ps p → P p → ⊥
first_none P ps o is e = subst (FirstIs P ps) e is

-- what can't fail at any one item of a list can't fail at all of them
for_each : {A : Type 0} (P : A → Type 0) (xs : List A) → ((x : A) → Has xs x → (P x → ⊥) → ⊥) → (((x : A) → Has xs x → P x) → ⊥) → ⊥
for_each P [] each none = none (λ x h. absurd h)
for_each P (y ∷ ys) each none = each y (inl refl) (λ here. for_each P ys (λ x h. each x (inr h)) (λ rest. none (λ x h. ⊎_elim (λ e. subst P e here) (λ i. rest x i) h)))

module _ (kinds : Kinds) (powers : Powers) (text : List ℕ) (d : Design) (read : IsReadingOf text d) where
  -- a design that is listed, with the joints of top pins right, is clean
  pub clean_of : (N : Netlist) → IsListed kinds powers (named text d) N → list_all (is_right (named text d)) (joints text d) ≡ true
      → (first_unknown kinds powers text d ≡ None) × (first_differing kinds text d ≡ None) × (first_two_valued (named_nets text d.nets) ≡ None)
  clean_of N listed right =
      let none = none_wrong kinds powers text d N read listed right in
      (none.0, none.1, (two_valued_is text d).0.1 (λ two. true≢false (listed.consistent.supplies two.0 true false two.1 two.2)))

  module _ (pins : first_unknown kinds powers text d ≡ None) (nets : first_differing kinds text d ≡ None) where
    -- a clean design of known models is listed
    pub not_refused : ((c : NamedComp) → Contains (named text d).comps c → kinds.kind c.model ≢ None) → first_two_valued (named_nets text d.nets) ≡ None
        → (e : DesignFault) → e ≢ NoRoom → IsFault kinds powers (named text d) e → ⊥
    not_refused models supplies UnknownMacro other (c, has, none) = models c has none
    not_refused models supplies UnknownPin other fault = (reasons_found kinds powers text d read).0 pins fault
    not_refused models supplies PinNetDiffers other fault = (reasons_found kinds powers text d read).1 nets fault
    not_refused models supplies SupplyDiffers other fault = (two_valued_is text d).0.0 supplies fault
    not_refused models supplies NoRoom other fault = other refl

    -- in a clean design the joints of top pins are right
    pub tops_not_wrong : list_all (is_right (named text d)) (joints text d) ≡ false → ⊥
    tops_not_wrong wrong =
        for_each (NamesPin kinds powers (named text d)) (joints text d)
        (λ p h. first_none (λ q. NamesPin kinds powers (named text d) q → ⊥) (joints text d) (first_unknown kinds powers text d) (unknown_is kinds powers text d read) pins p (contains_from_has (joints text d) p h))
        (λ names. true≢false (sym ((tops_agree_is kinds powers text d read).1 (
          λ p c e. names p (has_from_contains (joints text d) p c),
          λ p c e second. first_none (IsSecond kinds (named text d) (places text d)) (places text d) (first_differing kinds text d) (differing_is kinds text d read) nets p c second,
        )) ∙ wrong))
