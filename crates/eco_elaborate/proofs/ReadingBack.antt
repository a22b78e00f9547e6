-- An issued text reads back to the netlist that it was issued for.
use Rattle.std.proofs.Common.{◌≡◌, ℕ, true, false, List, [], ◌∷◌, Some, Ok, inl, inr, refl, sym, ap, ◌∙◌, subst, codes}
use Rattle.std.specs.List.{AllByRecursion}
use Rattle.std.specs.Str.{bytes_eq}
use Rattle.std.specs.FinMap.{get}
use Rattle.eco_text.specs.Tokens.{can_name}
use Rattle.eco_def.specs.Design.{TopPin, Design}
use Rattle.eco_def.specs.Grammar.{design_of}
use Rattle.eco_def.specs.Named.{NamedDesign, comp_names, pin_names, names_of}
use Rattle.eco_issued_laws.proofs.Getting.{IsNew, can_get}
use Rattle.eco_issued_laws.proofs.Issuing.{reads_back, comps_can_name}
use Rattle.eco_issued_laws.proofs.NewNames.{new_can_name}
use Rattle.eco_net.specs.Netlist.{Name, Component}
use Rattle.eco_net.proofs.Basics.{Has, contains_from_has, has_of_map, has_map}
use Rattle.eco_elaborate.specs.Netlists.{Kinds, netlist_of}
use Rattle.eco_elaborate.specs.ReadingBack.{IssuedReadsBack}
use Rattle.eco_elaborate.proofs.Found.{comp_said}
use Rattle.eco_elaborate.proofs.Issuing.{issued_is}
use Rattle.eco_elaborate.proofs.Nets.{net_unknown}

pub each_of : {A : Type 0} (P : A → Type 0) (xs : List A) → ((x : A) → Has xs x → P x) → AllByRecursion P xs
each_of P [] all = tt
each_of P (x ∷ xs) all = (all x (inl refl), each_of P xs (λ y h. all y (inr h)))

pub of_each : {A : Type 0} (P : A → Type 0) (xs : List A) (x : A) → AllByRecursion P xs → Has xs x → P x
of_each P (y ∷ xs) x all (inl s) = subst P s all.0
of_each P (y ∷ xs) x all (inr h) = of_each P xs x all.1 h
of_each P [] x all h = absurd h

-- a component's name can be printed
pub comp_can_name : (kinds : Kinds) (ties : List Name) (text : List ℕ) (design : Design) → design_of text ≡ Ok design → (c : Name) (x : Component) → get (netlist_of kinds ties (names_of design)).comps c ≡ Some x → can_name c ≡ true
comp_can_name kinds ties text design read c x e =
    let y = comp_said kinds ties (names_of design) c x e in
    let w = has_of_map comp_names design.comps y.0.0 y.1 in
    let named : can_name w.0.name.bytes ≡ true = of_each (λ c. can_name c.name.bytes ≡ true) design.comps w.0 (comps_can_name text design read) w.1 in
    ap can_name (sym y.2 ∙ sym (ap (λ z. z.name) w.2)) ∙ named

pub issued_reads_back : IssuedReadsBack
issued_reads_back kinds ties text design joints nets read plain can =
    let d : NamedDesign = names_of design in
    let e = reads_back text design joints nets read (can_get design joints nets plain.count
    (each_of (λ (p : TopPin). bytes_eq p.net.bytes (codes "MUSTJOIN") ≡ false) design.pins (λ p h. plain.tops (pin_names p) (contains_from_has d.pins (pin_names p) (has_map pin_names design.pins p h))))
    (each_of (λ n. (can_name n.comp ≡ true) × (can_name n.pin ≡ true)) joints (λ j h.
    let c = contains_from_has joints j h in
    let x = can.joined.pins j c in
    (comp_can_name kinds ties text design read j.comp x.0 x.1, can.pins j c)))
    (each_of (IsNew design) nets (λ n h.
    let c = contains_from_has nets n h in
    let form = new_can_name n (can.forms n c) in
    (form.0, form.1, net_unknown kinds ties d n (can.joined.unknown n c))))
    can.distinct) in (
      e.0,
      record {
        read = e.1;
        netlist = ap (netlist_of kinds ties) e.2 ∙ issued_is kinds ties d joints nets can.joined;
        units = ap (λ k. k.units) e.2;
        comps = ap (λ k. k.comps) e.2;
        tops = ap (λ k. k.pins) e.2;
      },
    )
