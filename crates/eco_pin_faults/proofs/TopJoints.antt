-- What it says that the joints of the design's own pins are right.
use Rattle.std.proofs.Common.{◌≡◌, ◌≢◌, ℕ, Bool, true, false, cond, not, ◌||◌, List, Option, Some, None, refl, sym, ap, ◌∙◌, ⊎_elim, true≢false}
use Rattle.std.specs.List.{Contains, find, list_all}
use Rattle.std.specs.Str.{bytes_eq}
use Rattle.std.proofs.lemmas.Bool.{cases_Bool, or_left, or_right}
use Rattle.eco_def.specs.declared.design.Design.{Design}
use Rattle.eco_def.specs.Named.{NamedPin, NamedDesign}
use Rattle.eco_def.specs.Sections.{IsReadingOf}
use Rattle.eco_issued_laws.specs.Changes.{is_no_component}
use Rattle.eco_net.specs.Netlist.{Name}
use Rattle.eco_net.proofs.Basics.{Has, contains_from_has, has_from_contains}
use Rattle.eco_elaborate.specs.Netlists.{Kinds, Powers}
use Rattle.eco_elaborate.specs.Stated.{named_pin}
use Rattle.eco_elaborate.proofs.Names.{same_name, is_name, same_or_other}
use Rattle.eco_elaborate.proofs.Members.{all_has, has_all, found_passes, passes_found}
use Rattle.eco_pin_faults.specs.Places.{PinPlace, top_word, every_word, top_place, joints, places}
use Rattle.eco_pin_faults.specs.Faults.{named, is_on, is_right}
use Rattle.eco_pin_faults.specs.Laws.{NamesPin, EachPin, TopPin, SignalPin, SupplyPin, IsSignal, OfTop, OfComp, IsSamePin, IsSecond, TopsAgreeIs}
use Rattle.eco_pin_faults.proofs.First.{first_among}
use Rattle.eco_pin_faults.proofs.Seconds.{has_first, same_firsts}
use Rattle.eco_pin_faults.proofs.Standing.{joint_among, top_among, of_places, named_top, top_named}
use Rattle.eco_pin_faults.proofs.Known.{once, every_is_none, top_is_none}

on_top : (d : NamedDesign) (p : PinPlace) → is_on (find (λ t. bytes_eq t.name p.pin) d.pins) p.net ≡ true → (t : NamedPin) × Contains d.pins t × (t.name ≡ p.pin) × ((t.supply || bytes_eq t.net p.net) ≡ true)
on_top d p e = go (find (λ t. bytes_eq t.name p.pin) d.pins) refl e
  where
    go : (o : Option NamedPin) → find (λ t. bytes_eq t.name p.pin) d.pins ≡ o → is_on o p.net ≡ true → (t : NamedPin) × Contains d.pins t × (t.name ≡ p.pin) × ((t.supply || bytes_eq t.net p.net) ≡ true)
    go None f g = absurd (true≢false (sym g))
    go (Some t) f g = let a = found_passes (λ (t : NamedPin). bytes_eq t.name p.pin) d.pins t f in (t, contains_from_has d.pins t a.0, same_name t.name p.pin a.1, g)

right_of_top : (d : NamedDesign) (p : PinPlace) → bytes_eq p.comp top_word ≡ true → is_right d p ≡ is_on (find (λ t. bytes_eq t.name p.pin) d.pins) p.net
right_of_top d p e = ap (λ b. cond b (is_on (find (λ t. bytes_eq t.name p.pin) d.pins) p.net) (p.special || not (bytes_eq p.comp every_word))) e

right_of_comp : (d : NamedDesign) (p : PinPlace) → bytes_eq p.comp top_word ≡ false → is_right d p ≡ (p.special || not (bytes_eq p.comp every_word))
right_of_comp d p e = ap (λ b. cond b (is_on (find (λ t. bytes_eq t.name p.pin) d.pins) p.net) (p.special || not (bytes_eq p.comp every_word))) e

second_of : (a b : Bool) → (a || b) ≡ true → a ≡ false → b ≡ true
second_of true b e f = absurd (true≢false f)
second_of false b e f = e

first_of : (a b : Bool) → (a || not b) ≡ true → b ≡ true → a ≡ true
first_of true b e f = refl
first_of false true e f = e
first_of false false e f = f

module _ (kinds : Kinds) (powers : Powers) (text : List ℕ) (d : Design) (r : IsReadingOf text d) where
  abbrev e : NamedDesign
  e = named text d

  same_top : (t u : NamedPin) → Contains e.pins t → Contains e.pins u → t.name ≡ u.name → t ≡ u
  same_top t u h i n = (once text d r).tops t u h i n

  module _ (all : list_all (is_right e) (joints text d) ≡ true) where
    right : (p : PinPlace) → Has (joints text d) p → is_right e p ≡ true
    right p h = all_has (is_right e) (joints text d) p all h

    pub names : (p : PinPlace) → Contains (joints text d) p → is_no_component p.comp ≡ true → NamesPin kinds powers e p
    names p h c = ⊎_elim
        (λ t.
        let o = on_top e p (sym (right_of_top e p t) ∙ right p (has_from_contains (joints text d) p h)) in
        TopPin (same_name p.comp top_word t) o.0 o.1 o.2)
        (λ f.
        let every = second_of (bytes_eq p.comp top_word) (bytes_eq p.comp every_word) c f in
        EachPin (first_of p.special (bytes_eq p.comp every_word) (sym (right_of_comp e p f) ∙ right p (has_from_contains (joints text d) p h)) every) (same_name p.comp every_word every))
        (cases_Bool (bytes_eq p.comp top_word))

    -- each place of a top pin that isn't supply is on its net
    on_its_net : (t : NamedPin) → Contains e.pins t → t.supply ≡ false → (q : PinPlace) → Has (places text d) q → q.comp ≡ top_word → q.pin ≡ t.name → q.net ≡ t.net
    on_its_net t h s q i c n = ⊎_elim
        (λ j.
        let o = on_top e q (sym (right_of_top e q (is_name q.comp top_word c)) ∙ right q j) in
        let same : o.0 ≡ t = same_top o.0 t o.1 h (o.2 ∙ n) in
        let net : o.0.net ≡ q.net = same_name o.0.net q.net (second_of o.0.supply (bytes_eq o.0.net q.net) o.3 (ap (λ (u : NamedPin). u.supply) same ∙ s)) in
        sym net ∙ ap (λ (u : NamedPin). u.net) same)
        (λ j.
        let same : named_pin text j.0 ≡ t = same_top (named_pin text j.0) t (top_named text d j.0 j.1) h (ap (λ (p : PinPlace). p.pin) j.2 ∙ n) in
        sym (ap (λ (p : PinPlace). p.net) j.2) ∙ ap (λ (u : NamedPin). u.net) same)
        (of_places text d q i)

    pub on_one : (p : PinPlace) → Contains (places text d) p → p.comp ≡ top_word → IsSecond kinds e (places text d) p → ⊥
    on_one p h c s = go s.signal
      where
        go : IsSignal kinds e p.comp p.pin → ⊥
        go (OfComp f i) = top_is_none p.comp c f
        go (OfTop f t i n l) =
            let w = s.is_first.holds in
            s.differs
            (on_its_net t i l s.first (first_among (IsSamePin p) (places text d) s.first s.is_first) (w.0 ∙ c) (w.1 ∙ sym n)
            ∙ sym (on_its_net t i l p (has_from_contains (places text d) p h) c (sym n)))

  module _ (named_each : (p : PinPlace) → Contains (joints text d) p → is_no_component p.comp ≡ true → NamesPin kinds powers e p)
      (one : (p : PinPlace) → Contains (places text d) p → p.comp ≡ top_word → IsSecond kinds e (places text d) p → ⊥) where
    -- a joint of a top pin that isn't supply is on its net
    its_net : (p : PinPlace) → Has (joints text d) p → p.comp ≡ top_word → (t : NamedPin) → Contains e.pins t → t.name ≡ p.pin → t.supply ≡ false → t.net ≡ p.net
    its_net p h c t i n s =
        let first = has_first (places text d) p (joint_among text d p h) in
        let signal : IsSignal kinds e p.comp p.pin = OfTop c t i n s in
        let here : first.0.net ≡ p.net = same_here first.0.net p.net (λ o. one p (contains_from_has (places text d) p (joint_among text d p h)) c (record { signal = signal; first = first.0; is_first = first.1; differs = o })) in
        let u = named_top text d t i in
        let q : PinPlace = top_place text u.0 in
        let name : q.pin ≡ t.name = ap (λ (v : NamedPin). v.name) u.2 in
        let net : q.net ≡ t.net = ap (λ (v : NamedPin). v.net) u.2 in
        let same : IsSamePin p q = (sym c, name ∙ n) in
        let qs : IsSignal kinds e q.comp q.pin = OfTop refl t i (sym name) s in
        let there : first.0.net ≡ q.net = same_here first.0.net q.net (λ o. one q (contains_from_has (places text d) q (top_among text d u.0 u.1)) refl (record { signal = qs; first = first.0; is_first = same_firsts (places text d) p q first.0 same first.1; differs = o })) in
        sym net ∙ sym there ∙ here
      where
        same_here : (a b : Name) → (a ≢ b → ⊥) → a ≡ b
        same_here a b n = ⊎_elim (λ s. s) (λ o. absurd (n o)) (same_or_other a b)

    right_top : (p : PinPlace) → Has (joints text d) p → p.comp ≡ top_word → is_right e p ≡ true
    right_top p h c = go (named_each p (contains_from_has (joints text d) p h) (ap is_no_component c))
      where
        on : (t : NamedPin) → Contains e.pins t → t.name ≡ p.pin → (t.supply || bytes_eq t.net p.net) ≡ true
        on t i n = ⊎_elim
            (λ s. or_left t.supply (bytes_eq t.net p.net) s)
            (λ s. or_right t.supply (bytes_eq t.net p.net) (is_name t.net p.net (its_net p h c t i n s)))
            (cases_Bool t.supply)

        go : NamesPin kinds powers e p → is_right e p ≡ true
        go (EachPin s f) = absurd (apart (sym c ∙ f))
          where
            apart : top_word ≡ every_word → ⊥
            apart x = true≢false (sym (is_name top_word every_word x))
        go (TopPin f t i n) =
            let found = passes_found (λ (u : NamedPin). bytes_eq u.name p.pin) e.pins t (has_from_contains e.pins t i) (is_name t.name p.pin n) in
            let a = found_passes (λ (u : NamedPin). bytes_eq u.name p.pin) e.pins found.0 found.1 in
            right_of_top e p (is_name p.comp top_word c)
            ∙ ap (λ o. is_on o p.net) found.1
            ∙ on found.0 (contains_from_has e.pins found.0 a.0) (same_name found.0.name p.pin a.1)
        go (SignalPin f i) = absurd (top_is_none p.comp c f)
        go (SupplyPin f i) = absurd (top_is_none p.comp c f)

    right_each : (p : PinPlace) → Has (joints text d) p → bytes_eq p.comp top_word ≡ false → (b : Bool) → bytes_eq p.comp every_word ≡ b → (p.special || not b) ≡ true
    right_each p h f false g = or_right p.special true refl
    right_each p h f true g = or_left p.special false (go (named_each p (contains_from_has (joints text d) p h) (ap is_no_component (same_name p.comp every_word g))))
      where
        go : NamesPin kinds powers e p → p.special ≡ true
        go (EachPin s i) = s
        go (TopPin i t j n) = absurd (true≢false (sym (is_name p.comp top_word i) ∙ f))
        go (SignalPin i j) = absurd (every_is_none p.comp (same_name p.comp every_word g) i)
        go (SupplyPin i j) = absurd (every_is_none p.comp (same_name p.comp every_word g) i)

    pub all_right : list_all (is_right e) (joints text d) ≡ true
    all_right = has_all (is_right e) (joints text d) (λ p h. ⊎_elim
        (λ t. right_top p h (same_name p.comp top_word t))
        (λ f. right_of_comp e p f ∙ right_each p h f (bytes_eq p.comp every_word) refl)
        (cases_Bool (bytes_eq p.comp top_word)))

pub tops_agree_is : TopsAgreeIs
tops_agree_is kinds powers text d r = (λ all. (names kinds powers text d r all, on_one kinds powers text d r all), λ both. all_right kinds powers text d r both.0 both.1)
