-- What is found in the netlist of a design.
use Rattle.std.proofs.Common.{◌≡◌, Bool, true, false, cond, not, ◌||◌, List, [], ◌∷◌, ◌++◌, map, Option, Some, None, is_some, refl, sym, ap, ◌∙◌, filter}
use Rattle.std.specs.List.{list_any, find, cons_option}
use Rattle.std.specs.Option.{option_map}
use Rattle.std.specs.Str.{bytes_eq}
use Rattle.std.specs.Cmp.Lexicographic.{nat_list_cmp_total}
use Rattle.std.specs.FinMap.{get, get-from_entries, same_map}
use Rattle.std.specs.FinMap as fin
use Rattle.std.proofs.lemmas.List.Folds.{list_any-append}
use Rattle.std.proofs.lemmas.Map.Lookups.{exact_bytes}
use Rattle.eco_def.specs.Named.{NamedComp, NamedDesign}
use Rattle.eco_net.specs.Netlist.{Name, name_cmp, Kind, Netlist, Role, pins_of}
use Rattle.eco_elaborate.specs.Netlists.{Kinds, net_supply, net_of_pin, kind_pins, joined_in, component_in, known_comps, top_of, supplied_nets, components_in, tops_in, netlist_of}
use Rattle.eco_issued_laws.specs.Changes.{has_net, statements}
use Rattle.eco_elaborate.proofs.Names.{by_bytes_turned, same_name, found, found_name, any_mapped}

-- ---- nets

named_nets : (d : NamedDesign) (n : Name) → list_any (λ m. bytes_eq m n) (map (λ s. s.name) (statements d) ++ map (λ p. p.net) d.pins) ≡ has_net d n
named_nets d n =
    list_any-append (λ m. bytes_eq m n) (map (λ s. s.name) (statements d)) (map (λ p. p.net) d.pins)
    ∙ ap (λ b. b || list_any (λ m. bytes_eq m n) (map (λ p. p.net) d.pins)) (any_mapped (λ m. bytes_eq m n) (λ s. s.name) (statements d))
    ∙ ap (λ b. list_any (λ s. bytes_eq s.name n) (statements d) || b) (any_mapped (λ m. bytes_eq m n) (λ p. p.net) d.pins)

pub net_is : (kinds : Kinds) (ties : List Name) (d : NamedDesign) (n : Name) → get (netlist_of kinds ties d).nets n ≡ cond (has_net d n) (Some (net_supply d n)) None
net_is kinds ties d n =
    get-from_entries nat_list_cmp_total (supplied_nets d) n
    ∙ found_name (net_supply d) (map (λ s. s.name) (statements d) ++ map (λ p. p.net) d.pins) n
    ∙ ap (λ b. cond b (Some (net_supply d n)) None) (named_nets d n)

-- ---- components and top pins

pub comp_is : (kinds : Kinds) (ties : List Name) (d : NamedDesign) (c : Name) → get (netlist_of kinds ties d).comps c ≡ option_map (λ x. component_in kinds d x.0 x.1) (find (λ x. bytes_eq x.0.name c) (known_comps kinds d))
comp_is kinds ties d c = get-from_entries nat_list_cmp_total (components_in kinds d) c ∙ found (λ x. x.0.name) (λ x. component_in kinds d x.0 x.1) (known_comps kinds d) c

pub top_is : (kinds : Kinds) (ties : List Name) (d : NamedDesign) (t : Name) → get (netlist_of kinds ties d).tops t ≡ option_map top_of (find (λ p. bytes_eq p.name t) (filter (λ p. not p.supply) d.pins))
top_is kinds ties d t = get-from_entries nat_list_cmp_total (tops_in d) t ∙ found (λ p. p.name) top_of (filter (λ p. not p.supply) d.pins) t

-- ---- the net that a pin is on

found_joined : (d : NamedDesign) (c : Name) (ps : List Name) (p : Name) → fin.find name_cmp p (joined_in d c ps) ≡ cond (list_any (λ q. bytes_eq q p) ps) (net_of_pin d c p) None
found_joined d c [] p = refl
found_joined d c (q ∷ ps) p = go (net_of_pin d c q) refl (bytes_eq q p) refl (found_joined d c ps p)
  where
    go : (o : Option Name) → net_of_pin d c q ≡ o → (b : Bool) → bytes_eq q p ≡ b →
        fin.find name_cmp p (joined_in d c ps) ≡ cond (list_any (λ q. bytes_eq q p) ps) (net_of_pin d c p) None →
        fin.find name_cmp p (cons_option (option_map (λ n. (q, n)) o) (joined_in d c ps)) ≡ cond (b || list_any (λ q. bytes_eq q p) ps) (net_of_pin d c p) None
    go None e true s rest = rest ∙ either (list_any (λ q. bytes_eq q p) ps) ∙ sym (ap (net_of_pin d c) (sym (same_name q p s)) ∙ e)
      where
        either : (b : Bool) → cond b (net_of_pin d c p) None ≡ None
        either true = ap (net_of_pin d c) (sym (same_name q p s)) ∙ e
        either false = refl
    go None e false s rest = rest
    go (Some n) e true s rest = ap (λ b. cond b (Some n) (fin.find name_cmp p (joined_in d c ps))) (by_bytes_turned p q ∙ s) ∙ sym e ∙ ap (net_of_pin d c) (same_name q p s)
    go (Some n) e false s rest = ap (λ b. cond b (Some n) (fin.find name_cmp p (joined_in d c ps))) (by_bytes_turned p q ∙ s) ∙ rest

pub named_pin : {X : Type 0} (es : List (Name × X)) (p : Name) → list_any (λ q. bytes_eq q p) (map (λ e. e.0) es) ≡ is_some (fin.find name_cmp p es)
named_pin [] p = refl
named_pin (e ∷ es) p = go (bytes_eq e.0 p) refl (named_pin es p)
  where
    go : (b : Bool) → bytes_eq e.0 p ≡ b → list_any (λ q. bytes_eq q p) (map (λ e. e.0) es) ≡ is_some (fin.find name_cmp p es) →
        (b || list_any (λ q. bytes_eq q p) (map (λ e. e.0) es)) ≡ is_some (fin.find name_cmp p (e ∷ es))
    go true s rest = sym (ap (λ b. is_some (cond b (Some e.1) (fin.find name_cmp p es))) (by_bytes_turned p e.0 ∙ s))
    go false s rest = rest ∙ sym (ap (λ b. is_some (cond b (Some e.1) (fin.find name_cmp p es))) (by_bytes_turned p e.0 ∙ s))

-- a component's pin is on the net by the design where its kind has it, and else on none
pub joined_is : (kinds : Kinds) (d : NamedDesign) (c : NamedComp) (k : Kind) (p : Name) → get (component_in kinds d c k).joined p ≡ cond (is_some (fin.find name_cmp p (pins_of k))) (net_of_pin d c.name p) None
joined_is kinds d c k p =
    get-from_entries nat_list_cmp_total (joined_in d c.name (kind_pins k)) p
    ∙ found_joined d c.name (kind_pins k) p
    ∙ ap (λ b. cond b (net_of_pin d c.name p) None) (named_pin (pins_of k) p)

pub known_pin : (k : Kind) (p : Name) (r : Role) → fin.find name_cmp p (pins_of k) ≡ Some r → is_some (fin.find name_cmp p (pins_of k)) ≡ true
known_pin k p r e = ap is_some e

-- ---- what tells netlists apart

-- netlists in which the same is found are equal
pub same_netlist : (M N : Netlist) → ((n : Name) → get M.nets n ≡ get N.nets n) → ((c : Name) → get M.comps c ≡ get N.comps c) → ((t : Name) → get M.tops t ≡ get N.tops t) → M.ties ≡ N.ties → M.reserved ≡ N.reserved → M ≡ N
same_netlist M N nets comps tops ties reserved =
    let n : M.nets ≡ N.nets = same_map nat_list_cmp_total exact_bytes _ _ nets in
    let c : M.comps ≡ N.comps = same_map nat_list_cmp_total exact_bytes _ _ comps in
    let t : M.tops ≡ N.tops = same_map nat_list_cmp_total exact_bytes _ _ tops in
    λ i. record { nets = n i; comps = c i; tops = t i; ties = ties i; reserved = reserved i }
