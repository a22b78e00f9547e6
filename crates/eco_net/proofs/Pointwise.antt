-- What is under each name after a change of a netlist by names, for crates above
use Rattle.std.proofs.Common.{◌≡◌, ◌≢◌, cond, Some, None, refl, sym, ap, ◌∙◌, ⊎_elim}
use Rattle.std.specs.Cmp.Lexicographic.{nat_list_cmp_total}
use Rattle.std.specs.FinMap.{FinMap, get, insert, remove, get-remove}
use Rattle.eco_net.specs.Netlist.{Name, name_cmp, Netlist, Component, Pin, TopPin, CompPin}
use Rattle.eco_net.specs.Drivers.{net_of, joined_at}
use Rattle.eco_net.specs.Changes.{with_pin_on, with_pin_off, on_net, on_none}
use Rattle.eco_net.proofs.Basics.{same_name, cmp_itself, cmp_apart}
-- an entry that is put into a map, and every other one
pub use Rattle.eco_net.proofs.Basics.{get_same, get_other}

-- an entry that is taken out of a map, and every other one
pub get_removed : {X : Type 0} (m : FinMap name_cmp X) (k : Name) → get (remove m k) k ≡ None
get_removed m k = get-remove nat_list_cmp_total m k k ∙ ap (λ b. cond b None (get m k)) (cmp_itself k)

pub get_left : {X : Type 0} (m : FinMap name_cmp X) (k q : Name) → q ≢ k → get (remove m k) q ≡ get m q
get_left m k q n = get-remove nat_list_cmp_total m k q ∙ ap (λ b. cond b None (get m q)) (cmp_apart q k n)

-- one component changes in the nets of its pins
module _ (N : Netlist) (c : Name) (x : Component) (is : get N.comps c ≡ Some x) (js : FinMap name_cmp Name) where
  abbrev then : Netlist
  then = record N { comps = insert N.comps c (record x { joined = js }) }

  pub changed_net : (q : Name) → net_of then (CompPin c q) ≡ get js q
  changed_net q = ap (λ o. joined_at o q) (get_same N.comps c (record x { joined = js }))

  pub other_net : (d q : Name) → d ≢ c → net_of then (CompPin d q) ≡ net_of N (CompPin d q)
  other_net d q n = ap (λ o. joined_at o q) (get_other N.comps c (record x { joined = js }) d n)

  -- all pins but one are on the nets that they were on
  pub others_stay : (p : Name) → ((q : Name) → q ≢ p → get js q ≡ get x.joined q) → (r : Pin) → r ≢ CompPin c p → net_of then r ≡ net_of N r
  others_stay p h (TopPin t) n = refl
  others_stay p h (CompPin d q) n = ⊎_elim
      (λ s. ap (λ m. net_of then (CompPin m q)) s ∙ changed_net q ∙ h q (λ e. n (λ i. CompPin (s i) (e i))) ∙ sym (ap (λ m. net_of N (CompPin m q)) s ∙ ap (λ o. joined_at o q) is))
      (λ a. other_net d q a)
      (same_name d c)

module _ (N : Netlist) (c p : Name) (x : Component) (is : get N.comps c ≡ Some x) where
  -- ---- a pin is put on a net

  pub on_is : (n : Name) → with_pin_on N (CompPin c p) n ≡ record N { comps = insert N.comps c (record x { joined = insert x.joined p n }) }
  on_is n = ap (λ o. record N { comps = on_net N.comps c p n o }) is

  -- the component, and every other one
  pub on_here : (n : Name) → get (with_pin_on N (CompPin c p) n).comps c ≡ Some (record x { joined = insert x.joined p n })
  on_here n = ap (λ (M : Netlist). get M.comps c) (on_is n) ∙ get_same N.comps c _

  pub on_there : (n d : Name) → d ≢ c → get (with_pin_on N (CompPin c p) n).comps d ≡ get N.comps d
  on_there n d a = ap (λ (M : Netlist). get M.comps d) (on_is n) ∙ get_other N.comps c _ d a

  -- the pin, and every other one
  pub on_its_net : (n : Name) → net_of (with_pin_on N (CompPin c p) n) (CompPin c p) ≡ Some n
  on_its_net n = ap (λ M. net_of M (CompPin c p)) (on_is n) ∙ changed_net N c x is (insert x.joined p n) p ∙ get_same x.joined p n

  pub on_others_stay : (n : Name) (r : Pin) → r ≢ CompPin c p → net_of (with_pin_on N (CompPin c p) n) r ≡ net_of N r
  on_others_stay n r a = ap (λ M. net_of M r) (on_is n) ∙ others_stay N c x is (insert x.joined p n) p (λ q b. get_other x.joined p n q b) r a

  -- ---- a pin is taken off its net

  pub off_is : with_pin_off N (CompPin c p) ≡ record N { comps = insert N.comps c (record x { joined = remove x.joined p }) }
  off_is = ap (λ o. record N { comps = on_none N.comps c p o }) is

  pub off_here : get (with_pin_off N (CompPin c p)).comps c ≡ Some (record x { joined = remove x.joined p })
  off_here = ap (λ (M : Netlist). get M.comps c) off_is ∙ get_same N.comps c _

  pub off_there : (d : Name) → d ≢ c → get (with_pin_off N (CompPin c p)).comps d ≡ get N.comps d
  off_there d a = ap (λ (M : Netlist). get M.comps d) off_is ∙ get_other N.comps c _ d a

  pub off_its_net : net_of (with_pin_off N (CompPin c p)) (CompPin c p) ≡ None
  off_its_net = ap (λ M. net_of M (CompPin c p)) off_is ∙ changed_net N c x is (remove x.joined p) p ∙ get_removed x.joined p

  pub off_others_stay : (r : Pin) → r ≢ CompPin c p → net_of (with_pin_off N (CompPin c p)) r ≡ net_of N r
  off_others_stay r a = ap (λ M. net_of M r) off_is ∙ others_stay N c x is (remove x.joined p) p (λ q b. get_left x.joined p q b) r a
