-- An order inserted under its own name is like the order under test
use Rattle.std.proofs.Common.{◌≡◌, ◌≢◌, true, false, List, [], map, Option, Some, None, refl, sym, ap, ◌∙◌, subst, inl, inr, ⊎_elim, ◌⊎◌}
use Rattle.std.specs.FinMap.{get}
use Rattle.eco_common.specs.declared.geometry.Point.{Point}
use Rattle.eco_net.specs.Netlist.{Name, Netlist, Pin, CompPin}
use Rattle.eco_net.specs.Drivers.{driven, driven_at}
use Rattle.eco_net.specs.Valuation.{table_value, read}
use Rattle.eco_net.proofs.Basics.{Has, has_map, has_of_map}
use Rattle.eco_net.proofs.Decide.{same_comp}
use Rattle.eco_patch_laws.specs.Orders.{PatchGate, Order}
use Rattle.eco_patch_laws.specs.Insertion.{patch_name, output_pin, patch_component, inserted}
use Rattle.eco_net.specs.Bases.{IsConstant}
use Rattle.eco_patch_laws.specs.Rules.{IsRedriven}
use Rattle.eco_patch_laws.specs.Live.{under_test}
use Rattle.eco_patch_laws.proofs.Names.{one_gate_name, one_label}
use Rattle.eco_patch_laws.proofs.Gates.{patch_drives, patch_reads}
use Rattle.eco_patch_laws.proofs.Sim.{Use, InPlace, Sim, to_N, gate_in_N, gate_not_in_M, loop_free_in_M}
use Rattle.eco_patch_laws.proofs.Keeping.{Keeps, gate_of_name, redriven_gate}
use Rattle.eco_patch_laws.proofs.Inserting.{moved, gates_cases, in_moved, in_gate, in_none, constant_stays, output_net}

abbrev no_place : Name → Option Point
no_place g = None

module _ (low high label : Name) (place : Name → Option Point) (bare N : Netlist) (order : Order) (keeps : Keeps bare N (under_test N order) order) (filled : label ≢ []) (blank : Has label 32 → ⊥) (under : (g : Name) → get N.comps (patch_name [] g) ≡ None) (fresh : (g : Name) → get N.comps (patch_name label g) ≡ None) (low_is : IsConstant N low false) (high_is : IsConstant N high true) (off_low : IsRedriven N order low → ⊥) (off_high : IsRedriven N order high → ⊥) where
  abbrev T : Netlist
  T = under_test N order

  abbrev its_use : PatchGate → Use
  its_use g = record { patch = patch_name [] g.name; patch_pin = output_pin; spare = patch_name label g.name; spare_pin = output_pin; out = g.output }

  abbrev its_uses : List Use
  its_uses = map its_use order.gates

  other_names : (a b : Name) → patch_name [] a ≢ patch_name label b
  other_names a b e = filled (sym (one_label [] label a b (λ h. h) blank e))

  test_drives : (g : PatchGate) → Has order.gates g → driven T (CompPin (patch_name [] g.name) output_pin) ≡ Some g.output
  test_drives g h = ap (λ o. driven_at o output_pin) (in_gate [] no_place bare N T order keeps under g h) ∙ (patch_drives g None).drives

  its_place : (g : PatchGate) → Has order.gates g → InPlace low high T (inserted label place N order) (its_use g)
  its_place g h = record {
    gate = patch_component g None;
    table = g.table;
    gate_is = in_gate [] no_place bare N T order keeps under g h;
    gate_drives = patch_drives g None;
    spare = patch_component g (place g.name);
    spare_table = g.table;
    spare_is = in_gate label place bare N T order keeps fresh g h;
    spare_drives = patch_drives g (place g.name);
    no_gate = in_none label place bare N T order keeps fresh (patch_name [] g.name) (under g.name) (λ d i. other_names g.name d.name);
    no_spare = in_none [] no_place bare N T order keeps under (patch_name label g.name) (fresh g.name) (λ d i e. other_names d.name g.name (sym e));
    serves = record {
      looks = λ v l k. ap (λ js. table_value g.table (map (read v) js)) (patch_reads g (place g.name) ∙ sym (patch_reads g None));
      reads = λ a i. inl (subst (λ js. Has js (Some a)) (patch_reads g (place g.name) ∙ sym (patch_reads g None)) i);
    };
    alone = record { drives = test_drives g h; only = λ q d. keeps.one_driver g.output (redriven_gate N order g h) q (CompPin (patch_name [] g.name) output_pin) d (test_drives g h) };
    unsupplied = output_net [] no_place bare N T order keeps under g h;
    off_low = λ s. off_low (subst (IsRedriven N order) s (redriven_gate N order g h));
    off_high = λ s. off_high (subst (IsRedriven N order) s (redriven_gate N order g h));
  }

  pub relabeled : Sim low high T (inserted label place N order) its_uses
  relabeled = record {
    nets = refl;
    tops = refl;
    forth = λ c x e. ⊎_elim
        (λ g. inr (its_use g.0, has_map its_use order.gates g.0 g.1, g.2))
        (λ m. inl (in_moved label place bare N T order keeps fresh c x m))
        (gates_cases [] no_place (moved N.comps order.moves) order.gates c x e);
    back = λ c x e. ⊎_elim
        (λ g. inr (inl (its_use g.0, has_map its_use order.gates g.0 g.1, g.2)))
        (λ m. inl (in_moved [] no_place bare N T order keeps under c x m))
        (gates_cases label place (moved N.comps order.moves) order.gates c x e);
    in_place = λ u h. let g = has_of_map its_use order.gates u h in subst (InPlace low high T (inserted label place N order)) g.2 (its_place g.0 g.1);
    one_gate = λ u w h i e.
        let g = has_of_map its_use order.gates u h in
        let k = has_of_map its_use order.gates w i in
        let names : patch_name [] g.0.name ≡ patch_name [] k.0.name = ap (λ z. z.patch) g.2 ∙ e ∙ sym (ap (λ z. z.patch) k.2) in
        sym g.2 ∙ ap its_use (gate_of_name order g.0 k.0 keeps.apart g.1 k.1 (one_gate_name [] g.0.name k.0.name names)) ∙ k.2;
    low_is = constant_stays [] no_place bare N T order keeps under low false off_low low_is;
    high_is = constant_stays [] no_place bare N T order keeps under high true off_high high_is;
  }

  -- two pins that drive a net under the order's name
  one_driver_named : (n : Name) → IsRedriven N order n → (p q : Pin) → driven (inserted label place N order) p ≡ Some n → driven (inserted label place N order) q ≡ Some n → p ≡ q
  one_driver_named n c p q d e = go (to_N low high T _ its_uses relabeled p n d) (to_N low high T _ its_uses relabeled q n e)
    where
      mixed : (u : Use) → Has its_uses u → n ≡ u.out → (r : Pin) → driven T r ≡ Some n → driven (inserted label place N order) r ≡ Some n → ⊥
      mixed u h s r f g =
          let t : r ≡ CompPin u.patch u.patch_pin = keeps.one_driver n c r (CompPin u.patch u.patch_pin) f (gate_in_N low high T _ its_uses relabeled u h ∙ ap Some (sym s)) in
          gate_not_in_M low high T _ its_uses relabeled u h u.patch_pin n (ap (driven (inserted label place N order)) (sym t) ∙ g)

      go : (driven T p ≡ Some n) ⊎ ((u : Use) × Has its_uses u × (p ≡ CompPin u.spare u.spare_pin) × (n ≡ u.out)) → (driven T q ≡ Some n) ⊎ ((u : Use) × Has its_uses u × (q ≡ CompPin u.spare u.spare_pin) × (n ≡ u.out)) → p ≡ q
      go (inl f) (inl g) = keeps.one_driver n c p q f g
      go (inl f) (inr u) = absurd (mixed u.0 u.1 u.3 p f d)
      go (inr u) (inl g) = absurd (mixed u.0 u.1 u.3 q g e)
      go (inr u) (inr w) =
          let s : CompPin u.0.patch u.0.patch_pin ≡ CompPin w.0.patch w.0.patch_pin =
          keeps.one_driver n c _ _ (gate_in_N low high T _ its_uses relabeled u.0 u.1 ∙ ap Some (sym u.3)) (gate_in_N low high T _ its_uses relabeled w.0 w.1 ∙ ap Some (sym w.3)) in
          let t : u.0 ≡ w.0 = relabeled.one_gate u.0 w.0 u.1 w.1 (same_comp s) in
          u.2 ∙ ap (λ z. CompPin z.spare z.spare_pin) t ∙ sym w.2

  -- the rules hold under the order's name
  pub keeps_named : Keeps bare N (inserted label place N order) order
  keeps_named = record {
    apart = keeps.apart;
    outputs_known = keeps.outputs_known;
    movable = keeps.movable;
    from_is = keeps.from_is;
    no_supply = keeps.no_supply;
    no_tie = keeps.no_tie;
    new_nets = keeps.new_nets;
    one_driver = one_driver_named;
    loop_free = loop_free_in_M low high T _ its_uses relabeled keeps.loop_free;
  }
