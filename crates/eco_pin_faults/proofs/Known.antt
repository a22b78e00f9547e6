-- Designs in which no joint is unknown and no pin is on two nets.
use Rattle.std.proofs.Common.{◌≡◌, ℕ, Bool, true, false, not, ◌&&◌, List, None, refl, sym, ap, ◌∙◌, subst, inl, inr, ⊎_elim, ◌⊎◌, true≢false}
use Rattle.std.specs.List.{find, list_any}
use Rattle.std.specs.Str.{bytes_eq}
use Rattle.std.proofs.lemmas.Bool.{and_parts, and_from}
use Rattle.eco_def.specs.declared.design.Design.{Design}
use Rattle.eco_def.specs.Named.{NamedComp, NamedDesign}
use Rattle.eco_def.specs.View.{design_in}
use Rattle.eco_def.specs.Sections.{IsReadingOf}
use Rattle.eco_issued_laws.specs.Changes.{is_no_component, statements}
use Rattle.eco_net.specs.Netlist.{Name}
use Rattle.eco_net.proofs.Basics.{Has, contains_from_has, has_from_contains}
use Rattle.eco_elaborate.specs.Netlists.{Kinds}
use Rattle.eco_elaborate.specs.Described.{NamesOnce}
use Rattle.eco_elaborate.specs.Building.{IsPinOf, IsSupplyPinOf, HasUnknownPin, HasPinOnTwo}
use Rattle.eco_elaborate.proofs.ReadOnce.{read_once}
use Rattle.eco_elaborate.proofs.Names.{same_name, is_name}
use Rattle.eco_elaborate.proofs.Members.{any_has, has_any}
use Rattle.eco_pin_faults.specs.Places.{PinPlace, top_word, every_word, joints, places}
use Rattle.eco_pin_faults.specs.Pins.{parts_of, has_signal, is_signal}
use Rattle.eco_pin_faults.specs.Faults.{named, first_unknown, first_differing, is_every, is_unknown, first_net, differs, is_on_second, is_pattern}
use Rattle.eco_pin_faults.specs.Laws.{IsFirst, NamesPin, EachPin, TopPin, SignalPin, SupplyPin, UnknownIs, IsSignal, OfComp, IsSamePin, DifferingIs, IsPatternOnSignal, PatternIs, JointsKnown, OneNet, ReasonsFound}
use Rattle.eco_pin_faults.proofs.First.{first_is}
use Rattle.eco_pin_faults.proofs.Finding.{none_passes}
use Rattle.eco_pin_faults.proofs.InWords.{has_kind, kind_has, unknown_not, known_said, not_unknown, to_signal}
use Rattle.eco_pin_faults.proofs.Seconds.{seconds, net_of_first, has_first, same_firsts}
use Rattle.eco_pin_faults.proofs.Standing.{has_joint, place_on}

pub once : (text : List ℕ) (d : Design) → IsReadingOf text d → NamesOnce (named text d)
once text d r = read_once text (design_in text d) r.read

pub unknown_is : UnknownIs
unknown_is kinds powers text d r =
    let names = once text d r in
    first_is (λ p. NamesPin kinds powers (named text d) p → ⊥) (is_unknown kinds powers (parts_of (named text d))) (joints text d)
    (unknown_not kinds powers (named text d) names) (not_unknown kinds powers (named text d) names)

pub differing_is : DifferingIs
differing_is kinds text d r = seconds kinds (λ m p. false) (named text d) (once text d r) (places text d)

pub pattern_is : PatternIs
pattern_is kinds text d = first_is (IsPatternOnSignal kinds e) (is_pattern kinds e) (joints text d) said is
  where
    e : NamedDesign
    e = named text d

    said : (p : PinPlace) → is_pattern kinds (named text d) p ≡ true → IsPatternOnSignal kinds (named text d) p
    said p t =
        let a = and_parts (is_every p) (list_any (λ (c : NamedComp). has_signal (kinds.kind c.model) p.pin) (named text d).comps) t in
        let b = and_parts p.special (bytes_eq p.comp every_word) a.0 in
        let c = any_has (λ (c : NamedComp). has_signal (kinds.kind c.model) p.pin) (named text d).comps a.1 in
        let k = kind_has kinds c.0.model p.pin c.2 in
        record {
          special = b.0;
          every = same_name p.comp every_word b.1;
          of = c.0;
          kind = k.0;
          found = contains_from_has (named text d).comps c.0 c.1;
          known = k.1;
          has = k.2;
        }

    is : (p : PinPlace) → IsPatternOnSignal kinds (named text d) p → is_pattern kinds (named text d) p ≡ true
    is p s = and_from (is_every p) (list_any (λ (c : NamedComp). has_signal (kinds.kind c.model) p.pin) (named text d).comps)
        (and_from p.special (bytes_eq p.comp every_word) s.special (is_name p.comp every_word s.every))
        (has_any (λ (c : NamedComp). has_signal (kinds.kind c.model) p.pin) (named text d).comps s.of (has_from_contains (named text d).comps s.of s.found) (has_kind kinds s.of.model p.pin s.kind s.known s.has))

-- ---- no joint is unknown

pub every_is_none : (comp : Name) → comp ≡ every_word → is_no_component comp ≡ false → ⊥
every_is_none comp e f = true≢false (sym (ap is_no_component e) ∙ f)

pub top_is_none : (comp : Name) → comp ≡ top_word → is_no_component comp ≡ false → ⊥
top_is_none comp e f = true≢false (sym (ap is_no_component e) ∙ f)

pub joints_known : JointsKnown
joints_known kinds powers text d r none s j h i c =
    let p = has_joint text d s j (has_from_contains (statements (named text d)) s h) (has_from_contains s.joints j i) in
    let named_pin = known_said kinds powers (named text d) (once text d r) p.0 (none_passes (is_unknown kinds powers (parts_of (named text d))) (joints text d) none p.0 p.1) in
    ⊎_elim
    (λ a. inl (subst (λ n. IsPinOf kinds (named text d) j.comp n) p.3 (subst (λ m. IsPinOf kinds (named text d) m p.0.pin) p.2 a)))
    (λ a. inr (subst (λ n. IsSupplyPinOf powers (named text d) j.comp n) p.3 (subst (λ m. IsSupplyPinOf powers (named text d) m p.0.pin) p.2 a)))
    (of_comp p.0 (ap is_no_component p.2 ∙ c) named_pin)
  where
    of_comp : (q : PinPlace) → is_no_component q.comp ≡ false → NamesPin kinds powers (named text d) q → IsPinOf kinds (named text d) q.comp q.pin ⊎ IsSupplyPinOf powers (named text d) q.comp q.pin
    of_comp q c (EachPin t e) = absurd (every_is_none q.comp e c)
    of_comp q c (TopPin e t u n) = absurd (top_is_none q.comp e c)
    of_comp q c (SignalPin e a) = inl a
    of_comp q c (SupplyPin e a) = inr a

-- ---- no pin is on two nets

same_net : (first net : Name) → not (bytes_eq first net) ≡ false → first ≡ net
same_net first net e = same_name first net (flip (bytes_eq first net) e)
  where
    flip : (b : Bool) → not b ≡ false → b ≡ true
    flip true f = refl
    flip false f = sym f

first_false : (a b : Bool) → (a && b) ≡ false → b ≡ true → a ≡ false
first_false true b e f = absurd (true≢false (sym f ∙ e))
first_false false b e f = refl

-- the net of each place of a pin that isn't supply is that at its first place
pub net_is_first : (kinds : Kinds) (text : List ℕ) (d : Design) → IsReadingOf text d → find (is_on_second kinds (parts_of (named text d)) (places text d)) (places text d) ≡ None →
    (q first : PinPlace) → Has (places text d) q → IsSignal kinds (named text d) q.comp q.pin → IsFirst (IsSamePin q) (places text d) first → first.net ≡ q.net
net_is_first kinds text d r none q first h s f =
    let test = none_passes (is_on_second kinds (parts_of (named text d)) (places text d)) (places text d) none q h in
    let off = first_false (differs (first_net (places text d) q.comp q.pin) q.net) (is_signal kinds (parts_of (named text d)) q.comp q.pin) test (to_signal kinds (λ m p. false) (named text d) (once text d r) q.comp q.pin s) in
    same_net first.net q.net (sym (ap (λ o. differs o q.net) (net_of_first (places text d) q first f)) ∙ off)

pub one_net : OneNet
one_net kinds text d r none c p n m pin on of =
    let a = place_on text d c p n on in
    let b = place_on text d c p m of in
    let q = a.1 in
    let s = b.1 in
    let signal : IsSignal kinds (named text d) c p = OfComp a.0 pin in
    let first = has_first (places text d) q.0 q.1 in
    let same : IsSamePin q.0 s.0 = (s.2 ∙ sym q.2, s.3 ∙ sym q.3) in
    let sq : IsSignal kinds (named text d) q.0.comp q.0.pin = subst (λ x. IsSignal kinds (named text d) x q.0.pin) (sym q.2) (subst (λ y. IsSignal kinds (named text d) c y) (sym q.3) signal) in
    let ss : IsSignal kinds (named text d) s.0.comp s.0.pin = subst (λ x. IsSignal kinds (named text d) x s.0.pin) (sym s.2) (subst (λ y. IsSignal kinds (named text d) c y) (sym s.3) signal) in
    sym q.4
    ∙ sym (net_is_first kinds text d r none q.0 first.0 q.1 sq first.1)
    ∙ net_is_first kinds text d r none s.0 first.0 s.1 ss (same_firsts (places text d) q.0 s.0 first.0 same first.1)
    ∙ s.4

pub reasons_found : ReasonsFound
reasons_found kinds powers text d r = (unknown, on_two)
  where
    unknown : first_unknown kinds powers text d ≡ None → HasUnknownPin kinds powers (named text d) → ⊥
    unknown none h = ⊎_elim h.5 h.6 (joints_known kinds powers text d r none h.0 h.1 h.2 h.3 h.4)

    on_two : first_differing kinds text d ≡ None → HasPinOnTwo kinds (named text d) → ⊥
    on_two none h = h.7 (one_net kinds text d r none h.0 h.1 h.2 h.3 h.4 h.5 h.6)
