-- One order more keeps the two netlists alike
use Rattle.std.proofs.Common.{◌≡◌, Bool, ◌≢◌, true, false, List, [], ◌∷◌, ◌++◌, map, length, Option, Some, None, refl, sym, ap, ◌∙◌, subst, inl, inr, ⊎_elim, ◌⊎◌}
use Rattle.std.specs.FinMap.{get}
use Rattle.std.specs.FinSet.{contains}
use Rattle.eco_common.specs.declared.geometry.Point.{Point}
use Rattle.eco_net.specs.Netlist.{Name, Netlist, Component, GateOutput, role_of, input_nets, CompPin}
use Rattle.eco_net.specs.Drivers.{driven, driven_at, Computed}
use Rattle.eco_net.specs.Walks.{IsLoopFree}
use Rattle.eco_net.proofs.Basics.{Has, same_Some, not_None, same_name, has_map, has_of_map, has_append_left, has_append_right, contains_from_has}
use Rattle.eco_patch_laws.specs.Orders.{PatchGate, Move, Order, Placement}
use Rattle.eco_common.specs.Joints.{NewJoint}
use Rattle.eco_net.specs.Joints.{with_nets}
use Rattle.eco_patch_laws.specs.Insertion.{patch_name, output_pin, patch_component, move_joint, inserted}
use Rattle.eco_patch_laws.specs.Realisation.{feed_net, realised, all_spare_joints, spare_joints}
use Rattle.eco_patch_laws.specs.Embeddings.{SpareEmbeds}
use Rattle.eco_net.specs.Bases.{Base, IsBase, IsSpare, IsTie, bare}
use Rattle.eco_patch_laws.specs.Rules.{IsRedriven}
use Rattle.eco_patch_laws.proofs.Names.{one_gate_name, one_label, has_blank, has_of_append, missing}
use Rattle.eco_patch_laws.proofs.Joining.{rejoin, rejoined, rejoined_append, rejoined_other, joined_some, joined_none, joined_same, joined_left}
use Rattle.eco_patch_laws.proofs.Gates.{patch_drives, patch_reads, inputs_distinct}
use Rattle.eco_patch_laws.proofs.Sim.{Use, InPlace, Idle, Sim, spare_driver}
use Rattle.eco_patch_laws.proofs.Feeding.{serving, serving_drives, serving_reads, serving_serves}
use Rattle.eco_patch_laws.proofs.Spares.{Pair, spare_names, zip_left, zip_right, zip_has, pair_of_name, among_spares, spares_joint, spares_in}
use Rattle.eco_patch_laws.proofs.Keeping.{Keeps, Mapped, pairs_of, redriven_gate}
use Rattle.eco_patch_laws.proofs.Inserting.{moved, moved_some, moved_back, moved_not, unmoved_joint, gates_cases, in_still, in_moved, in_none, in_cases, in_gate, drove, net_stays, constant_stays, output_net}

-- the netlist with gates and the one with spares after some orders, whose names and spares these are
pub record Related (base : Base) (N M : Netlist) (names used : List Name) (uses : List Use) : Type 0 where
  pub sim : Sim base.low base.high N M uses
  pub loop_free : IsLoopFree N
  pub ties : N.ties ≡ base.full.ties
  pub base_comps : (c : Name) (x : Component) → get (bare base).comps c ≡ Some x → (y : Component) × (get N.comps c ≡ Some y) × (get M.comps c ≡ Some y)
  pub stock : (s : Name) → Has base.stock s → (Has used s → ⊥) → get M.comps s ≡ get base.full.comps s
  pub no_stock : (s : Name) → Has base.stock s → get N.comps s ≡ None
  pub spares_used : (u : Use) → Has uses u → Has used u.spare
  pub names_N : (c : Name) (x : Component) → get N.comps c ≡ Some x → (Has c 32 → ⊥) ⊎ ((l : Name) × (g : Name) × Has names l × (c ≡ patch_name l g))
  pub names_M : (c : Name) (x : Component) → get M.comps c ≡ Some x → Has c 32 → ⊥
  pub no_blanks : (l : Name) → Has names l → Has l 32 → ⊥

among_moves : (ms : List Move) (c : Name) → ((m : Move) × Has ms m × (m.comp ≡ c)) ⊎ ((m : Move) → Has ms m → m.comp ≢ c)
among_moves [] c = inr (λ m h. absurd h)
among_moves (d ∷ ms) c =
    ⊎_elim
    (λ s. inl (d, inl refl, s))
    (λ n. ⊎_elim (λ r. inl (r.0, inr r.1, r.2)) (λ r. inr (λ m h. ⊎_elim (λ i s. n (ap (λ z. z.comp) i ∙ s)) (λ i. r m i) h)) (among_moves ms c))
    (same_name d.comp c)

module _ (base : Base) (is : IsBase base) (N M : Netlist) (names used : List Name) (uses : List Use) (rel : Related base N M names used uses) where
  -- no gate has a name yet that begins with a new label
  pub fresh : (label : Name) → (Has label 32 → ⊥) → (Has names label → ⊥) → (g : Name) → get N.comps (patch_name label g) ≡ None
  fresh label blank own g = missing _ (λ x e. ⊎_elim
      (λ h. h (has_blank label g))
      (λ r. own (subst (Has names) (sym (one_label label r.0 g r.1 blank (rel.no_blanks r.0 r.2) r.3)) r.2))
      (rel.names_N _ x e))

  not_in_M : (l g : Name) → get M.comps (patch_name l g) ≡ None
  not_in_M l g = missing _ (λ x e. rel.names_M _ x e (has_blank l g))

  -- no tie net changes its driving pins
  pub off_tie : (order : Order) (P : Netlist) → Keeps (bare base) N P order → (t : Name) → IsTie base.full t → IsRedriven N order t → ⊥
  off_tie order P keeps t is_tie r = keeps.no_tie t r (ap (λ s. contains s t) rel.ties ∙ is_tie)

  module _ (label : Name) (place : Name → Option Point) (order : Order) (placements : List Placement) (keeps : Keeps (bare base) N (inserted label place N order) order) (blank : Has label 32 → ⊥) (own : Has names label → ⊥) (mapped : Mapped base used order placements) where
    abbrev N' : Netlist
    N' = inserted label place N order

    abbrev M' : Netlist
    M' = realised base.low base.high M order placements

    abbrev pairs : List Pair
    pairs = pairs_of order placements

    abbrev its_moves : List NewJoint
    its_moves = map move_joint order.moves

    abbrev its_spares : List NewJoint
    its_spares = all_spare_joints base.low base.high M pairs

    new : (g : Name) → get N.comps (patch_name label g) ≡ None
    new = fresh label blank own

    move_in_both : (m : Move) → Has order.moves m → (y : Component) × (get N.comps m.comp ≡ Some y) × (get M.comps m.comp ≡ Some y)
    move_in_both m h = let r = keeps.movable m h in rel.base_comps m.comp r.0 r.1

    unmoved_N : (n : Name) → get N.comps n ≡ None → (m : Move) → Has order.moves m → m.comp ≢ n
    unmoved_N n e m h s = not_None (sym (move_in_both m h).1 ∙ ap (get N.comps) s ∙ e)

    unmoved_M : (n : Name) → get M.comps n ≡ None → (m : Move) → Has order.moves m → m.comp ≢ n
    unmoved_M n e m h s = not_None (sym (move_in_both m h).2 ∙ ap (get M.comps) s ∙ e)

    -- a component of N is no spare of this order
    no_new_spare : (n : Name) (x : Component) → get N.comps n ≡ Some x → (e : Pair) → Has pairs e → n ≢ e.1.spare
    no_new_spare n x f e h s = not_None (sym f ∙ ap (get N.comps) s ∙ rel.no_stock e.1.spare (mapped.stock e h))

    -- ---- what the netlist with spares has

    concrete_other : (n : Name) → ((e : Pair) → Has pairs e → n ≢ e.1.spare) → get M'.comps n ≡ get (moved M.comps order.moves) n
    concrete_other n h = joined_left M.comps its_moves its_spares n (λ j i s. let r = spares_joint base.low base.high M pairs j i in h r.0 r.1 (sym s ∙ r.2))

    concrete_none : (n : Name) → get M.comps n ≡ None → get M'.comps n ≡ None
    concrete_none n e = joined_none M.comps (its_moves ++ its_spares) n e

    -- a component of both goes on alike in both
    both : (n : Name) (x y : Component) → get N.comps n ≡ Some x → get M.comps n ≡ Some x → get (moved N.comps order.moves) n ≡ Some y → get M'.comps n ≡ Some y
    both n x y e f g = concrete_other n (no_new_spare n x e) ∙ joined_same M.comps N.comps its_moves n (f ∙ sym e) ∙ g

    free_spare : (e : Pair) → Has pairs e → (x : Component) × (get M.comps e.1.spare ≡ Some x) × (get base.full.comps e.1.spare ≡ Some x) × IsSpare x × SpareEmbeds (length e.0.inputs) e.0.table x e.1.output e.1.feeds
    free_spare e h =
        let s = mapped.stock e h in
        let r = is.stock e.1.spare (contains_from_has base.stock e.1.spare s) in
        (r.0, rel.stock e.1.spare s (mapped.free e h) ∙ r.1, r.1, r.2, mapped.embeds e r.0 h r.1)

    spare_unmoved : (e : Pair) → Has pairs e → (m : Move) → Has order.moves m → m.comp ≢ e.1.spare
    spare_unmoved e h = unmoved_N e.1.spare (rel.no_stock e.1.spare (mapped.stock e h))

    -- a spare with its own joints and no other
    spare_after : (e : Pair) → Has pairs e → (x : Component) → get M.comps e.1.spare ≡ Some x → get M'.comps e.1.spare ≡ Some (rejoin (spare_joints base.low base.high e.0 e.1 (Some x)) e.1.spare x)
    spare_after e h x f =
        joined_some M.comps (its_moves ++ its_spares) e.1.spare x f
        ∙ ap (λ r. Some (record x { joined = r }))
        (rejoined_append its_moves its_spares e.1.spare x.joined
        ∙ rejoined_other its_moves e.1.spare _ (unmoved_joint order.moves e.1.spare (spare_unmoved e h))
        ∙ spares_in base.low base.high M pairs e x.joined mapped.apart h
        ∙ ap (λ o. rejoined (spare_joints base.low base.high e.0 e.1 o) e.1.spare x.joined) f)

    -- ---- the new uses

    abbrev new_use : Pair → Use
    new_use e = record { patch = patch_name label e.0.name; patch_pin = output_pin; spare = e.1.spare; spare_pin = e.1.output; out = e.0.output }

    abbrev new_uses : List Use
    new_uses = map new_use pairs

    new_drives : (g : PatchGate) → Has order.gates g → driven N' (CompPin (patch_name label g.name) output_pin) ≡ Some g.output
    new_drives g h = ap (λ o. driven_at o output_pin) (in_gate label place (bare base) N N' order keeps new g h) ∙ (patch_drives g (place g.name)).drives

    new_in_place : (e : Pair) → Has pairs e → InPlace base.low base.high N' M' (new_use e)
    new_in_place e h =
        let g = e.0 in
        let i : Has order.gates g = zip_left order.gates placements e h in
        let r = free_spare e h in
        let distinct = inputs_distinct r.0.kind (is.whole.names e.1.spare r.0 r.2) in
        record {
          gate = patch_component g (place g.name);
          table = g.table;
          gate_is = in_gate label place (bare base) N N' order keeps new g i;
          gate_drives = patch_drives g (place g.name);
          spare = serving base.low base.high g e.1 r.0 r.3 distinct r.4;
          spare_table = r.4.chosen;
          spare_is = spare_after e h r.0 r.1;
          spare_drives = serving_drives base.low base.high g e.1 r.0 r.3 distinct r.4;
          no_gate = concrete_none (patch_name label g.name) (not_in_M label g.name);
          no_spare = in_none label place (bare base) N N' order keeps new e.1.spare (rel.no_stock e.1.spare (mapped.stock e h)) (λ d j s. not_None (sym r.1 ∙ ap (get M.comps) s ∙ not_in_M label d.name));
          serves = serving_serves base.low base.high g e.1 r.0 r.3 distinct r.4 (input_nets (patch_component g (place g.name))) (patch_reads g (place g.name));
          alone = record { drives = new_drives g i; only = λ q d. keeps.one_driver g.output (redriven_gate N order g i) q (CompPin (patch_name label g.name) output_pin) d (new_drives g i) };
          unsupplied = output_net label place (bare base) N N' order keeps new g i;
          off_low = λ s. off_tie order N' keeps base.low is.low_tie (subst (IsRedriven N order) s (redriven_gate N order g i));
          off_high = λ s. off_tie order N' keeps base.high is.high_tie (subst (IsRedriven N order) s (redriven_gate N order g i));
        }

    -- ---- the uses before

    old_in_place : (u : Use) → Has uses u → InPlace base.low base.high N' M' u
    old_in_place u h =
        let p = rel.sim.in_place u h in
        let gate_still : get N'.comps u.patch ≡ Some p.gate = in_still label place (bare base) N N' order keeps new u.patch p.gate p.gate_is (unmoved_M u.patch p.no_gate) in
        let drives : driven N' (CompPin u.patch u.patch_pin) ≡ Some u.out = ap (λ o. driven_at o u.patch_pin) gate_still ∙ p.gate_drives.drives in
        record {
          gate = p.gate;
          table = p.table;
          gate_is = gate_still;
          gate_drives = p.gate_drives;
          spare = p.spare;
          spare_table = p.spare_table;
          spare_is = concrete_other u.spare (λ e i s. mapped.free e i (subst (Has used) s (rel.spares_used u h))) ∙ moved_not M.comps order.moves u.spare (unmoved_N u.spare p.no_spare) ∙ p.spare_is;
          spare_drives = p.spare_drives;
          no_gate = concrete_none u.patch p.no_gate;
          no_spare = in_none label place (bare base) N N' order keeps new u.spare p.no_spare (λ d j s. not_None (sym p.spare_is ∙ ap (get M.comps) s ∙ not_in_M label d.name));
          serves = p.serves;
          alone = record {
            drives = drives;
            only = λ q d. ⊎_elim (λ e. p.alone.only q e) (λ k. keeps.one_driver u.out k q (CompPin u.patch u.patch_pin) d drives) (drove label place (bare base) N N' order keeps new q u.out d);
          };
          unsupplied = net_stays label place (bare base) N N' order keeps new u.out None p.unsupplied;
          off_low = p.off_low;
          off_high = p.off_high;
        }

    -- ---- the two netlists after the order

    forth_after : (n : Name) (x : Component) → get N'.comps n ≡ Some x → (get M'.comps n ≡ Some x) ⊎ ((u : Use) × Has (new_uses ++ uses) u × (n ≡ u.patch))
    forth_after n x e = ⊎_elim
        (λ g.
        let z = zip_has order.gates placements g.0 mapped.each g.1 in
        inr (new_use z.0, has_append_left new_uses uses _ (has_map new_use pairs z.0 z.1), g.2 ∙ ap (λ d. patch_name label d.name) (sym z.2)))
        (λ m.
        let b = moved_back N.comps order.moves n x m in
        ⊎_elim
        (λ f. inl (both n b.0 x b.1 f m))
        (λ w. inr (w.0, has_append_right new_uses uses _ w.1, w.2))
        (rel.sim.forth n b.0 b.1))
        (gates_cases label place (moved N.comps order.moves) order.gates n x e)

    back_after : (n : Name) (x : Component) → get M'.comps n ≡ Some x → (get N'.comps n ≡ Some x) ⊎ (((u : Use) × Has (new_uses ++ uses) u × (n ≡ u.spare)) ⊎ Idle x)
    back_after n x e = ⊎_elim
        (λ z. inr (inl (new_use z.0, has_append_left new_uses uses _ (has_map new_use pairs z.0 z.1), z.2)))
        (λ other.
        let m : get (moved M.comps order.moves) n ≡ Some x = sym (concrete_other n other) ∙ e in
        let b = moved_back M.comps order.moves n x m in
        let in_both : get N.comps n ≡ Some b.0 → get N'.comps n ≡ Some x = λ f. in_moved label place (bare base) N N' order keeps new n x (joined_same N.comps M.comps its_moves n (f ∙ sym b.1) ∙ m) in
        ⊎_elim
        (λ f. inl (in_both f))
        (λ k. ⊎_elim
        (λ w. inr (inl (w.0, has_append_right new_uses uses _ w.1, w.2)))
        (λ idle. ⊎_elim
        (λ v.
        let r = move_in_both v.0 v.1 in
        let y : r.0 ≡ b.0 = same_Some (sym r.2 ∙ ap (get M.comps) v.2 ∙ b.1) in
        inl (in_both (ap (get N.comps) (sym v.2) ∙ r.1 ∙ ap Some y)))
        (λ not. inr (inr (subst Idle (same_Some (sym b.1 ∙ sym (moved_not M.comps order.moves n not) ∙ m)) idle)))
        (among_moves order.moves n))
        k)
        (rel.sim.back n b.0 b.1))
        (among_spares pairs n)

    new_old : (e : Pair) (w : Use) → Has uses w → patch_name label e.0.name ≡ w.patch → ⊥
    new_old e w h s = not_None (sym (rel.sim.in_place w h).gate_is ∙ ap (get N.comps) (sym s) ∙ new e.0.name)

    one_gate_after : (u w : Use) → Has (new_uses ++ uses) u → Has (new_uses ++ uses) w → u.patch ≡ w.patch → u ≡ w
    one_gate_after u w h i s = ⊎_elim
        (λ j.
        let a = has_of_map new_use pairs u j in
        ⊎_elim
        (λ k.
        let b = has_of_map new_use pairs w k in
        let t : patch_name label a.0.0.name ≡ patch_name label b.0.0.name = ap (λ z. z.patch) a.2 ∙ s ∙ sym (ap (λ z. z.patch) b.2) in
        sym a.2 ∙ ap new_use (pair_of_name order.gates placements a.0 b.0 keeps.apart a.1 b.1 (one_gate_name label a.0.0.name b.0.0.name t)) ∙ b.2)
        (λ k. absurd (new_old a.0 w k (ap (λ z. z.patch) a.2 ∙ s)))
        (has_of_append new_uses uses w i))
        (λ j. ⊎_elim
        (λ k. let b = has_of_map new_use pairs w k in absurd (new_old b.0 u j (ap (λ z. z.patch) b.2 ∙ sym s)))
        (λ k. rel.sim.one_gate u w j k s)
        (has_of_append new_uses uses w i))
        (has_of_append new_uses uses u h)

    pub sim_after : Sim base.low base.high N' M' (new_uses ++ uses)
    sim_after = record {
      nets = ap (λ m. with_nets m order.nets) rel.sim.nets;
      tops = rel.sim.tops;
      forth = forth_after;
      back = back_after;
      in_place = λ u h. ⊎_elim
          (λ i. let a = has_of_map new_use pairs u i in subst (InPlace base.low base.high N' M') a.2 (new_in_place a.0 a.1))
          (λ i. old_in_place u i)
          (has_of_append new_uses uses u h);
      one_gate = one_gate_after;
      low_is = constant_stays label place (bare base) N N' order keeps new base.low false (off_tie order N' keeps base.low is.low_tie) rel.sim.low_is;
      high_is = constant_stays label place (bare base) N N' order keeps new base.high true (off_tie order N' keeps base.high is.high_tie) rel.sim.high_is;
    }

    pub gate_computes : (g : PatchGate) → Has order.gates g → Computed N' g.output g.table (map Some g.inputs)
    gate_computes g h = record {
      unsupplied = output_net label place (bare base) N N' order keeps new g h;
      comp = patch_name label g.name;
      pin = output_pin;
      gate = patch_component g (place g.name);
      is = in_gate label place (bare base) N N' order keeps new g h;
      driver = record { drives = new_drives g h; only = λ q d. keeps.one_driver g.output (redriven_gate N order g h) q (CompPin (patch_name label g.name) output_pin) d (new_drives g h) };
      at = (patch_drives g (place g.name)).at;
      reads = patch_reads g (place g.name);
    }

    pub spare_computes : (e : Pair) → Has pairs e → (x : Component) → get base.full.comps e.1.spare ≡ Some x → (chosen : List Bool) × (role_of x e.1.output ≡ Some (GateOutput chosen)) × Computed M' e.0.output chosen (map (feed_net base.low base.high e.0.inputs) e.1.feeds)
    spare_computes e h x f =
        let r = free_spare e h in
        let distinct = inputs_distinct r.0.kind (is.whole.names e.1.spare r.0 r.2) in
        let s : r.0 ≡ x = same_Some (sym r.2 ∙ f) in (
          r.4.chosen,
          subst (λ z. role_of z e.1.output ≡ Some (GateOutput r.4.chosen)) s r.4.is_output,
          record {
            unsupplied = subst (λ m. get m e.0.output ≡ Some None) sim_after.nets (new_in_place e h).unsupplied;
            comp = e.1.spare;
            pin = e.1.output;
            gate = serving base.low base.high e.0 e.1 r.0 r.3 distinct r.4;
            is = spare_after e h r.0 r.1;
            driver = spare_driver base.low base.high N' M' (new_uses ++ uses) sim_after (new_use e) (has_append_left new_uses uses _ (has_map new_use pairs e h));
            at = r.4.is_output;
            reads = serving_reads base.low base.high e.0 e.1 r.0 r.3 distinct r.4;
          },
        )

    pub step : Related base N' M' (label ∷ names) (spare_names placements ++ used) (new_uses ++ uses)
    step = record {
      sim = sim_after;
      loop_free = keeps.loop_free;
      ties = rel.ties;
      base_comps = λ n x e.
          let r = rel.base_comps n x e in
          let m = moved_some N.comps order.moves n r.0 r.1 in
          (m.0, in_moved label place (bare base) N N' order keeps new n m.0 m.1, both n r.0 m.0 r.1 r.2 m.1);
      stock = λ s h k.
          concrete_other s (λ e i t. k (has_append_left (spare_names placements) used s (subst (Has (spare_names placements)) (sym t) (has_map (λ d. d.spare) placements e.1 (zip_right order.gates placements e i)))))
          ∙ moved_not M.comps order.moves s (unmoved_N s (rel.no_stock s h))
          ∙ rel.stock s h (λ u. k (has_append_right (spare_names placements) used s u));
      no_stock = λ s h. in_none label place (bare base) N N' order keeps new s (rel.no_stock s h) (λ g i t.
          let r = is.stock s (contains_from_has base.stock s h) in is.no_blank s r.0 r.1 (contains_from_has s 32 (subst (λ z. Has z 32) (sym t) (has_blank label g.name))));
      spares_used = λ u h. ⊎_elim
          (λ i. let a = has_of_map new_use pairs u i in
          has_append_left (spare_names placements) used u.spare (subst (Has (spare_names placements)) (ap (λ z. z.spare) a.2) (has_map (λ d. d.spare) placements a.0.1 (zip_right order.gates placements a.0 a.1))))
          (λ i. has_append_right (spare_names placements) used u.spare (rel.spares_used u i))
          (has_of_append new_uses uses u h);
      names_N = λ n x e. ⊎_elim
          (λ g. inr (label, g.0.name, inl refl, g.2))
          (λ m. ⊎_elim (λ b. inl b) (λ r. inr (r.0, r.1, inr r.2, r.3)) (rel.names_N n m.0 m.1))
          (in_cases label place (bare base) N N' order keeps new n x e);
      names_M = λ n x e b. not_None (sym e ∙ concrete_none n (missing _ (λ y f. rel.names_M n y f b)));
      no_blanks = λ l h. ⊎_elim (λ e i. blank (subst (λ z. Has z 32) (sym e) i)) (λ i. rel.no_blanks l i) h;
    }
