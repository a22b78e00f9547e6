-- The joints that realise a patch are ones that the base can take
use Rattle.std.proofs.Common.{◌≡◌, ◌≢◌, ℕ, zero, suc, Bool, true, false, cond, true≢false, length, ◌&&◌, List, [], ◌∷◌, ◌++◌, map, Option, Some, None, refl, sym, ap, ◌∙◌, subst, inl, inr, ⊎_elim, ◌⊎◌, slice_get}
use Rattle.std.specs.List.{IsDistinct, AllByRecursion, Contains, zip, cons_option}
use Rattle.std.specs.Option.{option_map}
use Rattle.std.specs.Ordering.{eq_by_cmp}
use Rattle.std.specs.FinMap.{get, find}
use Rattle.eco_common.specs.declared.geometry.Point.{Point}
use Rattle.eco_net.specs.Netlist.{Name, name_cmp, Netlist, Component, Kind, Gate, Boxed, Role, GateOutput, GateInput, pins_of, input_names, IsNet, IsPin}
use Rattle.eco_net.proofs.Basics.{Has, same_Some, not_None, cmp_apart, cmp_itself, has_of_map, contains_from_has, has_from_contains}
use Rattle.eco_embed.specs.declared.feed.Feed.{Feed}
use Rattle.eco_embed.specs.declared.feed.Feed.TheVariants.{Zero, One, Input}
use Rattle.eco_patch_laws.specs.Orders.{PatchGate, Order, Placement, Move}
use Rattle.eco_common.specs.Joints.{NewJoint}
use Rattle.eco_net.specs.Joints.{same_pin, CanTake}
use Rattle.eco_patch_laws.specs.Insertion.{move_joint}
use Rattle.eco_patch_laws.specs.Realisation.{feed_net, on_pin, feed_joints, spare_joints, all_spare_joints, patch_joints}
use Rattle.eco_patch_laws.specs.Embeddings.{SpareEmbeds}
use Rattle.eco_net.specs.Bases.{Base, IsBase, IsConstant, IsSpare, bare}
use Rattle.eco_patch_laws.specs.Rules.{PinsAreKnown, Names, as_input, as_output, as_goal}
use Rattle.eco_patch_laws.specs.Mappings.{IsMapping}
use Rattle.eco_patch_laws.specs.Patches.{IsPatch}
use Rattle.eco_patch_laws.proofs.Names.{has_of_append, not_first}
use Rattle.eco_patch_laws.proofs.Gates.{inputs_distinct}
use Rattle.eco_patch_laws.proofs.Feeding.{feeding_pin, spare_output}
use Rattle.eco_patch_laws.proofs.Spares.{Pair, SparesApart, spares_joint, joints_of, spare_joint, zip_left}
use Rattle.eco_patch_laws.proofs.Keeping.{Mapped, mapped_from, pairs_of}
use Rattle.eco_patch_laws.proofs.Start.{in_full, bare_stock}

-- ---- lists without equal ones

all_has : {A : Type 0} (P : A → Type 0) (xs : List A) → ((x : A) → Has xs x → P x) → AllByRecursion P xs
all_has P [] h = tt
all_has P (x ∷ xs) h = (h x (inl refl), all_has P xs (λ y i. h y (inr i)))

all_append : {A : Type 0} (P : A → Type 0) (xs ys : List A) → AllByRecursion P xs → AllByRecursion P ys → AllByRecursion P (xs ++ ys)
all_append P [] ys a b = b
all_append P (x ∷ xs) ys a b = (a.0, all_append P xs ys a.1 b)

pub distinct_append : {A : Type 0} (e : A → A → Bool) (xs ys : List A) → IsDistinct e xs → IsDistinct e ys → ((x y : A) → Has xs x → Has ys y → e x y ≡ false) → IsDistinct e (xs ++ ys)
unfolding IsDistinct
distinct_append e [] ys d f h = f
distinct_append e (x ∷ xs) ys d f h = (all_append _ xs ys d.0 (all_has _ ys (λ y i. h x y (inl refl) i)), distinct_append e xs ys d.1 f (λ z y i j. h z y (inr i) j))

-- ---- joints of other pins

and_false : (b c : Bool) → c ≡ false → (b && c) ≡ false
and_false true c e = e
and_false false c e = refl

other_comp : (j k : NewJoint) → j.comp ≢ k.comp → same_pin j k ≡ false
other_comp j k n = ap (λ b. b && eq_by_cmp name_cmp j.pin k.pin) (cmp_apart j.comp k.comp n)

other_pin : (j k : NewJoint) → j.pin ≢ k.pin → same_pin j k ≡ false
other_pin j k n = and_false (eq_by_cmp name_cmp j.comp k.comp) (eq_by_cmp name_cmp j.pin k.pin) (cmp_apart j.pin k.pin n)

-- ---- the joints of one spare

module _ (low high : Name) (g : PatchGate) (spare : Name) where
  abbrev feeding : List Name → List Feed → List NewJoint
  feeding ins feeds = feed_joints low high g spare (zip ins feeds)

  one_more : (p : Name) (o : Option Name) (rest : List NewJoint) → IsDistinct same_pin rest → ((j : NewJoint) → Has rest j → p ≢ j.pin) → IsDistinct same_pin (cons_option (option_map (on_pin spare p) o) rest)
  unfolding IsDistinct
  one_more p None rest d h = d
  one_more p (Some n) rest d h = (all_has _ rest (λ j i. other_pin (on_pin spare p n) j (h j i)), d)

  feeding_apart : (ins : List Name) (feeds : List Feed) → IsDistinct (eq_by_cmp name_cmp) ins → IsDistinct same_pin (feeding ins feeds)
  unfolding IsDistinct
  feeding_apart [] feeds d = tt
  feeding_apart (p ∷ ins) [] d = tt
  feeding_apart (p ∷ ins) (f ∷ feeds) d = one_more p (feed_net low high g.inputs f) (feeding ins feeds) (feeding_apart ins feeds d.1) (λ j h. not_first p j.pin ins d.0 (feeding_pin low high g spare ins feeds j h).1)

  cons_net : (p : Name) (o : Option Name) (rest : List NewJoint) (j : NewJoint) → Has (cons_option (option_map (on_pin spare p) o) rest) j → (o ≡ Some j.net) ⊎ Has rest j
  cons_net p None rest j h = inr h
  cons_net p (Some n) rest j (inl e) = inl (ap (λ z. Some z.net) e)
  cons_net p (Some n) rest j (inr h) = inr h

  feeding_net : (ins : List Name) (feeds : List Feed) (j : NewJoint) → Has (feeding ins feeds) j → (f : Feed) × (feed_net low high g.inputs f ≡ Some j.net)
  feeding_net [] feeds j h = absurd h
  feeding_net (p ∷ ins) [] j h = absurd h
  feeding_net (p ∷ ins) (f ∷ feeds) j h = ⊎_elim (λ e. (f, e)) (λ i. feeding_net ins feeds j i) (cons_net p (feed_net low high g.inputs f) (feeding ins feeds) j h)

-- ---- pins by name

found_input : (ins : List Name) (rest : List (Name × Role)) (p : Name) → Has ins p → (r : Role) × (find name_cmp p (map (λ q. (q, GateInput)) ins ++ rest) ≡ Some r)
found_input [] rest p h = absurd h
found_input (i ∷ ins) rest p h = go (found_input ins rest p) (eq_by_cmp name_cmp p i) refl h
  where
    go : (Has ins p → (r : Role) × (find name_cmp p (map (λ q. (q, GateInput)) ins ++ rest) ≡ Some r)) → (b : Bool) → eq_by_cmp name_cmp p i ≡ b → (i ≡ p) ⊎ Has ins p → (r : Role) × (cond b (Some GateInput) (find name_cmp p (map (λ q. (q, GateInput)) ins ++ rest)) ≡ Some r)
    go later true e h = (GateInput, refl)
    go later false e (inl s) = absurd (true≢false (sym (cmp_itself p) ∙ ap (eq_by_cmp name_cmp p) (sym s) ∙ e))
    go later false e (inr h) = later h

input_is_pin : (x : Component) (p : Name) → Has (input_names x.kind) p → IsPin x p
input_is_pin x p = go x.kind
  where
    go : (k : Kind) → Has (input_names k) p → (r : Role) × (find name_cmp p (pins_of k) ≡ Some r)
    go (Gate ins outs) h = found_input ins _ p h
    go (Boxed pins) h = absurd h

pub constant_net : (N : Netlist) (n : Name) (b : Bool) → IsConstant N n b → IsNet N n
constant_net N n b (inl e) = (Some b, e)
constant_net N n b (inr c) = (None, c.unsupplied)

got_name : (ns : List Name) (i : ℕ) (n : Name) → slice_get ns i ≡ Some n → Has ns n
got_name [] i n e = absurd (not_None (sym e))
got_name (m ∷ ns) zero n e = inl (same_Some e)
got_name (m ∷ ns) (suc i) n e = inr (got_name ns i n e)

-- ---- all joints of a patch

module _ (base : Base) (is : IsBase base) (order : Order) (placements : List Placement) (mapping : IsMapping base order placements) (pins_known : PinsAreKnown (bare base) order) where
  abbrev pairs : List Pair
  pairs = pairs_of order placements

  abbrev spares : List Pair → List NewJoint
  spares es = all_spare_joints base.low base.high base.full es

  its : Mapped base [] order placements
  its = mapped_from base [] order placements mapping (λ s h k. k)

  spare_is : (e : Pair) → Has pairs e → (x : Component) × (get base.full.comps e.1.spare ≡ Some x) × IsSpare x
  spare_is e h = is.stock e.1.spare (contains_from_has base.stock e.1.spare (its.stock e h))

  -- ---- each of another pin

  spare_apart : (e : Pair) → Has pairs e → IsDistinct same_pin (joints_of base.low base.high base.full e)
  unfolding IsDistinct
  spare_apart e h =
      let r = spare_is e h in
      let m = its.embeds e r.0 h r.1 in
      subst (λ o. IsDistinct same_pin (spare_joints base.low base.high e.0 e.1 o)) (sym r.1) (go r.0 r.2 m (inputs_distinct r.0.kind (is.whole.names e.1.spare r.0 r.1)))
    where
      go : (x : Component) (s : IsSpare x) → SpareEmbeds (length e.0.inputs) e.0.table x e.1.output e.1.feeds → IsDistinct (eq_by_cmp name_cmp) (input_names x.kind) → IsDistinct same_pin (spare_joints base.low base.high e.0 e.1 (Some x))
      go x s m d = (
        all_has _ (feeding base.low base.high e.0 e.1.spare (input_names x.kind) e.1.feeds)
            (λ j i. other_pin (on_pin e.1.spare e.1.output e.0.output) j (λ t. spare_output x s e.1.output m.chosen m.is_output (subst (Has (input_names x.kind)) (sym t) (feeding_pin base.low base.high e.0 e.1.spare (input_names x.kind) e.1.feeds j i).1))),
        feeding_apart base.low base.high e.0 e.1.spare (input_names x.kind) e.1.feeds d,
      )

  spares_once : (es : List Pair) → ((e : Pair) → Has es e → Has pairs e) → SparesApart es → IsDistinct same_pin (spares es)
  unfolding IsDistinct
  spares_once [] h a = tt
  spares_once (e ∷ es) h a =
      distinct_append same_pin (joints_of base.low base.high base.full e) (spares es)
      (spare_apart e (h e (inl refl)))
      (spares_once es (λ d i. h d (inr i)) a.1)
      (λ j k i l.
      let r = spares_joint base.low base.high base.full es k l in
      other_comp j k (λ t. a.0 r.0 r.1 (sym r.2 ∙ sym t ∙ spare_joint base.low base.high base.full e j i)))

  move_of : (j : NewJoint) → Has (map move_joint order.moves) j → (m : Move) × Contains order.moves m × (move_joint m ≡ j)
  move_of j h = let m = has_of_map move_joint order.moves j h in (m.0, contains_from_has order.moves m.0 m.1, m.2)

  pub once : IsDistinct same_pin (map move_joint order.moves) → IsDistinct same_pin (patch_joints base.low base.high base.full order placements)
  once moves = distinct_append same_pin (map move_joint order.moves) (spares pairs) moves (spares_once pairs (λ e h. h) its.apart)
      (λ j k h i.
      let m = move_of j h in
      let x = pins_known m.0 m.1 in
      let r = spares_joint base.low base.high base.full pairs k i in
      other_comp j k (λ t. not_None (sym x.1 ∙ ap (get (bare base).comps) (ap (λ z. z.comp) m.2 ∙ t ∙ r.2) ∙ bare_stock base r.0.1.spare (its.stock r.0 r.1))))

  -- ---- pins and nets

  module _ (Known : Name → Type 0) (low_known : Known base.low) (high_known : Known base.high) (known : (n : Name) → Names order n → Known n) where
    fed_known : (g : PatchGate) → Has order.gates g → (n : Name) (f : Feed) → feed_net base.low base.high g.inputs f ≡ Some n → Known n
    fed_known g h n Zero e = subst Known (same_Some e) low_known
    fed_known g h n One e = subst Known (same_Some e) high_known
    fed_known g h n (Input i) e = known n (as_input g (contains_from_has order.gates g h) (contains_from_has g.inputs n (got_name g.inputs i n e)))

    abbrev pub IsTaken : NewJoint → Type 0
    IsTaken j = ((x : Component) × (get base.full.comps j.comp ≡ Some x) × IsPin x j.pin) × Known j.net

    move_taken : (j : NewJoint) → Has (map move_joint order.moves) j → IsTaken j
    move_taken j h =
        let m = move_of j h in
        let x = pins_known m.0 m.1 in
        subst IsTaken m.2 ((x.0, in_full base m.0.comp x.0 x.1, x.2), known m.0.to (as_goal m.0 m.1 refl))

    spare_taken : (e : Pair) → Has pairs e → (j : NewJoint) → Has (joints_of base.low base.high base.full e) j → IsTaken j
    spare_taken e h j i =
        let r = spare_is e h in
        go r.0 r.1 (its.embeds e r.0 h r.1) (subst (λ o. Has (spare_joints base.low base.high e.0 e.1 o) j) r.1 i)
      where
        gate : Has order.gates e.0
        gate = zip_left order.gates placements e h

        go : (x : Component) → get base.full.comps e.1.spare ≡ Some x → SpareEmbeds (length e.0.inputs) e.0.table x e.1.output e.1.feeds → Has (spare_joints base.low base.high e.0 e.1 (Some x)) j → IsTaken j
        go x f m (inl s) = subst IsTaken s ((x, f, (GateOutput m.chosen, m.is_output)), known e.0.output (as_output e.0 (contains_from_has order.gates e.0 gate) refl))
        go x f m (inr k) =
            let q = feeding_pin base.low base.high e.0 e.1.spare (input_names x.kind) e.1.feeds j k in
            let n = feeding_net base.low base.high e.0 e.1.spare (input_names x.kind) e.1.feeds j k in
            ((x, ap (get base.full.comps) q.0 ∙ f, input_is_pin x j.pin q.1), fed_known e.0 gate j.net n.0 n.1)

    spares_taken : (es : List Pair) → ((e : Pair) → Has es e → Has pairs e) → (j : NewJoint) → Has (spares es) j → IsTaken j
    spares_taken [] h j i = absurd i
    spares_taken (e ∷ es) h j i =
        ⊎_elim
        (λ k. spare_taken e (h e (inl refl)) j k)
        (λ k. spares_taken es (λ d l. h d (inr l)) j k)
        (has_of_append (joints_of base.low base.high base.full e) (spares es) j i)

    pub all_taken : (j : NewJoint) → Contains (patch_joints base.low base.high base.full order placements) j → IsTaken j
    all_taken j c =
        ⊎_elim
        (λ k. move_taken j k)
        (λ k. spares_taken pairs (λ e h. h) j k)
        (has_of_append (map move_joint order.moves) (spares pairs) j (has_from_contains (patch_joints base.low base.high base.full order placements) j c))

pub low_net : (base : Base) → IsBase base → IsNet base.full base.low
low_net base is = constant_net (bare base) base.low false is.low_is

pub high_net : (base : Base) → IsBase base → IsNet base.full base.high
high_net base is = constant_net (bare base) base.high true is.high_is

pub base_takes_joints : (base : Base) (label : Name) (place : Name → Option Point) (order : Order) (placements : List Placement) → IsPatch base label place order placements → CanTake base.full order.nets (patch_joints base.low base.high base.full order placements)
base_takes_joints base label place order placements p =
    let taken = all_taken base p.base_is order placements p.mapped p.keeps.pins_known (λ n. IsNet base.full n ⊎ Contains order.nets n) (inl (low_net base p.base_is)) (inl (high_net base p.base_is)) p.keeps.nets_known in
    record { once = once base p.base_is order placements p.mapped p.keeps.pins_known p.keeps.once.moves; pins = λ j c. (taken j c).0; nets_known = λ j c. (taken j c).1 }
