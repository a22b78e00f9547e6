-- Pins on two nets: what the tests say in words, and what follows where none passes.
use Rattle.std.proofs.Common.{◌≡◌, ◌≢◌, Bool, true, false, not, List, Option, Some, None, refl, sym, ap, ◌∙◌, subst, true≢false}
use Rattle.std.specs.List.{find}
use Rattle.std.specs.Option.{option_map}
use Rattle.std.specs.Str.{bytes_eq}
use Rattle.std.proofs.lemmas.Bool.{and_parts, and_from}
use Rattle.eco_def.specs.Named.{NamedDesign}
use Rattle.eco_net.specs.Netlist.{Name}
use Rattle.eco_net.proofs.Basics.{Has, same_Some, not_None}
use Rattle.eco_elaborate.specs.Netlists.{Kinds, Powers}
use Rattle.eco_elaborate.specs.Described.{NamesOnce}
use Rattle.eco_elaborate.proofs.Names.{same_name, is_name, other_name}
use Rattle.eco_elaborate.proofs.Members.{passes_found}
use Rattle.eco_pin_faults.specs.Places.{PinPlace}
use Rattle.eco_pin_faults.specs.Pins.{parts_of, is_signal}
use Rattle.eco_pin_faults.specs.Faults.{is_of, first_net, differs, is_on_second}
use Rattle.eco_pin_faults.specs.Laws.{IsFirst, FirstIs, IsSamePin, IsSecond, FirstTold}
use Rattle.eco_pin_faults.proofs.First.{first_is, same_first}
use Rattle.eco_pin_faults.proofs.Finding.{first_found}
use Rattle.eco_pin_faults.proofs.InWords.{signal_said, to_signal}

-- ---- places of one pin

pub pin_said : (p q : PinPlace) → is_of p.comp p.pin q ≡ true → IsSamePin p q
pin_said p q e = let a = and_parts (bytes_eq q.comp p.comp) (bytes_eq q.pin p.pin) e in (same_name q.comp p.comp a.0, same_name q.pin p.pin a.1)

pub is_pin : (p q : PinPlace) → IsSamePin p q → is_of p.comp p.pin q ≡ true
is_pin p q s = and_from (bytes_eq q.comp p.comp) (bytes_eq q.pin p.pin) (is_name q.comp p.comp s.0) (is_name q.pin p.pin s.1)

-- the first place of a pin, where its net is told
pub first_of_net : (ps : List PinPlace) (p : PinPlace) (n : Name) → first_net ps p.comp p.pin ≡ Some n → (q : PinPlace) × IsFirst (IsSamePin p) ps q × (q.net ≡ n)
first_of_net ps p n e = go (find (is_of p.comp p.pin) ps) refl e
  where
    go : (o : Option PinPlace) → find (is_of p.comp p.pin) ps ≡ o → option_map (λ q. q.net) o ≡ Some n → (q : PinPlace) × IsFirst (IsSamePin p) ps q × (q.net ≡ n)
    go None f g = absurd (not_None (sym g))
    go (Some q) f g = (q, subst (FirstIs (IsSamePin p) ps) f (first_is (IsSamePin p) (is_of p.comp p.pin) ps (pin_said p) (is_pin p)), same_Some g)

pub net_of_first : (ps : List PinPlace) (p q : PinPlace) → IsFirst (IsSamePin p) ps q → first_net ps p.comp p.pin ≡ Some q.net
net_of_first ps p q f = ap (option_map (λ (r : PinPlace). r.net)) (first_found (IsSamePin p) (is_of p.comp p.pin) ps q (pin_said p) (is_pin p) f)

-- a place of a pin gives it a first place
pub has_first : (ps : List PinPlace) (p : PinPlace) → Has ps p → (q : PinPlace) × IsFirst (IsSamePin p) ps q
has_first ps p h =
    let f = passes_found (is_of p.comp p.pin) ps p h (is_pin p p (refl, refl)) in
    (f.0, subst (FirstIs (IsSamePin p) ps) f.1 (first_is (IsSamePin p) (is_of p.comp p.pin) ps (pin_said p) (is_pin p)))

-- places of one pin have one first place
pub same_firsts : (ps : List PinPlace) (p q r : PinPlace) → IsSamePin p q → IsFirst (IsSamePin p) ps r → IsFirst (IsSamePin q) ps r
same_firsts ps p q r s f = same_first (IsSamePin p) (IsSamePin q) ps (λ t h. (h.0 ∙ sym s.0, h.1 ∙ sym s.1)) (λ t h. (h.0 ∙ s.0, h.1 ∙ s.1)) (Some r) f

-- ---- on another net

other : (o : Option Name) (n : Name) → differs o n ≡ true → (m : Name) × (o ≡ Some m) × (m ≢ n)
other None n e = absurd (true≢false (sym e))
other (Some m) n e = (m, refl, λ s. apart (bytes_eq m n) e (is_name m n s))
  where
    apart : (b : Bool) → not b ≡ true → b ≡ true → ⊥
    apart true f g = true≢false (sym f)
    apart false f g = true≢false (sym g)

module _ (kinds : Kinds) (powers : Powers) (d : NamedDesign) (once : NamesOnce d) (ps : List PinPlace) where
  pub second_said : (p : PinPlace) → is_on_second kinds (parts_of d) ps p ≡ true → IsSecond kinds d ps p
  second_said p e =
      let a = and_parts (differs (first_net ps p.comp p.pin) p.net) (is_signal kinds (parts_of d) p.comp p.pin) e in
      let o = other (first_net ps p.comp p.pin) p.net a.0 in
      let f = first_of_net ps p o.0 o.1 in
      record {
        signal = signal_said kinds powers d p.comp p.pin a.1;
        first = f.0;
        is_first = f.1;
        differs = λ s. o.2 (sym f.2 ∙ s);
      }

  pub is_second : (p : PinPlace) → IsSecond kinds d ps p → is_on_second kinds (parts_of d) ps p ≡ true
  is_second p s =
      and_from (differs (first_net ps p.comp p.pin) p.net) (is_signal kinds (parts_of d) p.comp p.pin)
      (ap (λ o. differs o p.net) (net_of_first ps p s.first s.is_first) ∙ ap not (other_name s.first.net p.net s.differs))
      (to_signal kinds powers d once p.comp p.pin s.signal)

  pub seconds : FirstIs (IsSecond kinds d ps) ps (find (is_on_second kinds (parts_of d) ps) ps)
  seconds = first_is (IsSecond kinds d ps) (is_on_second kinds (parts_of d) ps) ps second_said is_second

pub first_told : FirstTold
first_told kinds d ps p s = net_of_first ps p s.first s.is_first
