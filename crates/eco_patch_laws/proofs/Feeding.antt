-- A spare in the place of a gate: what it drives, and what it reads
use Rattle.std.proofs.Common.{◌≡◌, ◌≢◌, ℕ, zero, suc, ◌<◌, Bool, true, false, List, [], ◌∷◌, map, length, Option, Some, None, refl, sym, ap, ap₂, ◌∙◌, subst, inl, inr, ⊎_elim, ◌⊎◌, slice_get, slice_index_or, arith}
use Rattle.std.specs.Option.{option_map, unwrap_or}
use Rattle.std.specs.Ordering.{eq_by_cmp}
use Rattle.std.specs.List.{IsDistinct, zip, cons_option}
use Rattle.std.specs.FinMap.{FinMap, get, insert}
use Rattle.std.proofs.lemmas.Bool.{ltb-true}
use Rattle.eco_common.specs.declared.geometry.Dir.{Dir}
use Rattle.eco_net.specs.Netlist.{Name, name_cmp, Component, GateOutput, BoxedPin, role_of, input_names, input_nets}
use Rattle.eco_net.specs.Drivers.{is_driving, driven_at}
use Rattle.eco_net.specs.Valuation.{Valuation, table_value, read}
use Rattle.eco_net.proofs.Basics.{Has, same_Some, not_None, same_name, get_same, get_other, map_agree, contains_from_has}
use Rattle.eco_embed.specs.declared.feed.Feed.{Feed}
use Rattle.eco_embed.specs.declared.feed.Feed.TheVariants.{Zero, One, Input}
use Rattle.eco_patch_laws.specs.Orders.{PatchGate, Placement}
use Rattle.eco_common.specs.Joints.{NewJoint}
use Rattle.eco_patch_laws.specs.Realisation.{feed_net, on_pin, feed_joints}
use Rattle.eco_embed.specs.Feeds.{feed_value, is_among}
use Rattle.eco_patch_laws.specs.Embeddings.{SpareEmbeds}
use Rattle.eco_net.specs.Bases.{IsSpare}
use Rattle.eco_patch_laws.proofs.Names.{not_first}
use Rattle.eco_patch_laws.proofs.Joining.{rejoined, rejoin, rejoined_here, joined_old}
use Rattle.eco_patch_laws.proofs.Gates.{Drives, gate_no_outside, output_no_input, driving_computes, joined_driven, driven_joined}
use Rattle.eco_patch_laws.proofs.Sim.{Serves, Idle}

-- ---- a spare is a gate

pub spare_no_outside : (x : Component) → IsSpare x → (p : Name) (d : Dir) → role_of x p ≡ Some (BoxedPin d) → ⊥
spare_no_outside x s p d e = gate_no_outside s.inputs s.outputs p d (ap (λ k. role_of (record x { kind = k }) p) (sym s.gate) ∙ e)

spare_computes : (x : Component) → IsSpare x → (p : Name) → is_driving (role_of x p) ≡ true → (t : List Bool) × (role_of x p ≡ Some (GateOutput t))
spare_computes x s p d =
    let r = driving_computes s.inputs s.outputs p (ap (λ k. is_driving (role_of (record x { kind = k }) p)) (sym s.gate) ∙ d) in
    (r.0, ap (λ k. role_of (record x { kind = k }) p) s.gate ∙ r.1)

pub spare_output : (x : Component) → IsSpare x → (p : Name) (t : List Bool) → role_of x p ≡ Some (GateOutput t) → Has (input_names x.kind) p → ⊥
spare_output x s p t e h = output_no_input s.inputs s.outputs p t (ap (λ k. role_of (record x { kind = k }) p) (sym s.gate) ∙ e) (subst (λ k. Has (input_names k) p) s.gate h)

pub spare_idle : (x : Component) → IsSpare x → Idle x
spare_idle x s = record {
  no_outside = spare_no_outside x s;
  drives_none = λ p n d.
      let j = joined_driven x p n d in
      let r = spare_computes x s p j.0 in
      not_None (sym j.1 ∙ s.off p r.0 r.1);
}

-- ---- joints of the input pins

module _ (low high : Name) (g : PatchGate) (spare : Name) where
  abbrev feeding : List Name → List Feed → List NewJoint
  feeding ins feeds = feed_joints low high g spare (zip ins feeds)

  cons_cases : (p : Name) (o : Option Name) (rest : List NewJoint) (j : NewJoint) → Has (cons_option (option_map (on_pin spare p) o) rest) j → ((j.comp ≡ spare) × (j.pin ≡ p)) ⊎ Has rest j
  cons_cases p None rest j h = inr h
  cons_cases p (Some n) rest j (inl e) = inl (ap (λ z. z.comp) (sym e), ap (λ z. z.pin) (sym e))
  cons_cases p (Some n) rest j (inr h) = inr h

  -- each is one of an input pin of the spare
  pub feeding_pin : (ins : List Name) (feeds : List Feed) (j : NewJoint) → Has (feeding ins feeds) j → (j.comp ≡ spare) × Has ins j.pin
  feeding_pin [] feeds j h = absurd h
  feeding_pin (p ∷ ins) [] j h = absurd h
  feeding_pin (p ∷ ins) (f ∷ feeds) j h =
      ⊎_elim
      (λ s. (s.0, inl (sym s.1)))
      (λ i. let r = feeding_pin ins feeds j i in (r.0, inr r.1))
      (cons_cases p (feed_net low high g.inputs f) (feeding ins feeds) j h)

  -- the input pins are on the nets of their feeds
  fed_inputs : (ins : List Name) (feeds : List Feed) (m : FinMap name_cmp Name) → IsDistinct (eq_by_cmp name_cmp) ins → length feeds ≡ length ins → ((f : Feed) → Has feeds f → (n : Name) × (feed_net low high g.inputs f ≡ Some n))
      → map (get (rejoined (feeding ins feeds) spare m)) ins ≡ map (feed_net low high g.inputs) feeds
  unfolding IsDistinct
  fed_inputs [] [] m d l a = refl
  fed_inputs [] (f ∷ feeds) m d l a = absurd (omega (arith, l))
  fed_inputs (p ∷ ins) [] m d l a = absurd (omega (arith, l))
  fed_inputs (p ∷ ins) (f ∷ feeds) m d l a =
      let n = a f (inl refl) in
      let r : FinMap name_cmp Name = rejoined (feeding ins feeds) spare m in
      let e : rejoined (feeding (p ∷ ins) (f ∷ feeds)) spare m ≡ insert r p n.0 =
      ap (λ o. rejoined (cons_option (option_map (on_pin spare p) o) (feeding ins feeds)) spare m) n.1
      ∙ rejoined_here (on_pin spare p n.0) (feeding ins feeds) spare m refl in
      let first : get (rejoined (feeding (p ∷ ins) (f ∷ feeds)) spare m) p ≡ feed_net low high g.inputs f = ap (λ z. get z p) e ∙ get_same r p n.0 ∙ sym n.1 in
      let others : map (get (rejoined (feeding (p ∷ ins) (f ∷ feeds)) spare m)) ins ≡ map (get r) ins =
      map_agree _ _ ins (λ q h. ap (λ z. get z q) e ∙ get_other r p n.0 q (λ s. not_first p q ins d.0 h (sym s))) in
      let l' : length feeds ≡ length ins = omega (arith, l) in
      let rest : map (get r) ins ≡ map (feed_net low high g.inputs) feeds = fed_inputs ins feeds m d.1 l' (λ h i. a h (inr i)) in
      ap₂ {C = List (Option Name)} (λ x xs. x ∷ xs) first (others ∙ rest)

-- ---- the nets of feeds

got_net : (inputs : List Name) (i : ℕ) → i < length inputs → (n : Name) × (slice_get inputs i ≡ Some n)
got_net [] i l = absurd (omega (arith, l))
got_net (n ∷ inputs) zero l = (n, refl)
got_net (n ∷ inputs) (suc i) l = let k : i < length inputs = omega (arith, l) in got_net inputs i k

fed_net : (low high : Name) (inputs : List Name) (f : Feed) → is_among (length inputs) f ≡ true → (n : Name) × (feed_net low high inputs f ≡ Some n)
fed_net low high inputs Zero a = (low, refl)
fed_net low high inputs One a = (high, refl)
fed_net low high inputs (Input i) a = got_net inputs i (ltb-true i (length inputs) a)

got_input : (inputs : List Name) (i : ℕ) (a : Name) → slice_get inputs i ≡ Some a → Has (map Some inputs) (Some a)
got_input [] i a e = absurd (not_None (sym e))
got_input (x ∷ xs) zero a e = inl e
got_input (x ∷ xs) (suc i) a e = inr (got_input xs i a e)

feed_reads : (low high : Name) (inputs : List Name) (feeds : List Feed) (a : Name) → Has (map (feed_net low high inputs) feeds) (Some a) → Has (map Some inputs) (Some a) ⊎ ((a ≡ low) ⊎ (a ≡ high))
feed_reads low high inputs [] a i = absurd i
feed_reads low high inputs (Zero ∷ feeds) a (inl e) = inr (inl (sym (same_Some e)))
feed_reads low high inputs (One ∷ feeds) a (inl e) = inr (inr (sym (same_Some e)))
feed_reads low high inputs (Input j ∷ feeds) a (inl e) = inl (got_input inputs j a e)
feed_reads low high inputs (f ∷ feeds) a (inr i) = feed_reads low high inputs feeds a i

-- ---- the values of feeds

module _ (low high : Name) (v : Valuation) (l : get v low ≡ Some false) (h : get v high ≡ Some true) where
  input_value : (inputs : List Name) (i : ℕ) → read v (slice_get inputs i) ≡ slice_index_or (map (read v) (map Some inputs)) i false
  input_value [] i = refl
  input_value (x ∷ xs) zero = refl
  input_value (x ∷ xs) (suc i) = input_value xs i

  value_of_feed : (inputs : List Name) (f : Feed) → read v (feed_net low high inputs f) ≡ feed_value (map (read v) (map Some inputs)) f
  value_of_feed inputs Zero = ap (λ o. unwrap_or o false) l
  value_of_feed inputs One = ap (λ o. unwrap_or o false) h
  value_of_feed inputs (Input i) = input_value inputs i

  pub feed_values : (inputs : List Name) (feeds : List Feed) → map (read v) (map (feed_net low high inputs) feeds) ≡ map (feed_value (map (read v) (map Some inputs))) feeds
  feed_values inputs [] = refl
  feed_values inputs (f ∷ feeds) = ap₂ {C = List Bool} (λ z zs. z ∷ zs) (value_of_feed inputs f) (feed_values inputs feeds)

length_twice : (v : Valuation) (inputs : List Name) → length (map (read v) (map Some inputs)) ≡ length inputs
length_twice v [] = refl
length_twice v (x ∷ inputs) = ap suc (length_twice v inputs)

-- ---- a spare that serves

module _ (low high : Name) (g : PatchGate) (p : Placement) (x : Component) (s : IsSpare x) (names : IsDistinct (eq_by_cmp name_cmp) (input_names x.kind)) (m : SpareEmbeds (length g.inputs) g.table x p.output p.feeds) where
  abbrev its_feeds : List NewJoint
  its_feeds = feeding low high g p.spare (input_names x.kind) p.feeds

  abbrev its_joints : List NewJoint
  its_joints = on_pin p.spare p.output g.output ∷ its_feeds

  abbrev pub serving : Component
  serving = rejoin its_joints p.spare x

  serving_joined : serving.joined ≡ insert (rejoined its_feeds p.spare x.joined) p.output g.output
  serving_joined = rejoined_here (on_pin p.spare p.output g.output) its_feeds p.spare x.joined refl

  serving_out : driven_at (Some serving) p.output ≡ Some g.output
  serving_out = driven_joined serving p.output g.output (ap is_driving m.is_output) (ap (λ z. get z p.output) serving_joined ∙ get_same (rejoined its_feeds p.spare x.joined) p.output g.output)

  -- an output that is not chosen stays off
  others_off : (q : Name) (t : List Bool) → role_of x q ≡ Some (GateOutput t) → q ≢ p.output → get serving.joined q ≡ None
  others_off q t r n =
      ap (λ z. get z q) serving_joined
      ∙ get_other (rejoined its_feeds p.spare x.joined) p.output g.output q n
      ∙ ⊎_elim
      (λ e. e)
      (λ j. absurd (spare_output x s q t r (subst (Has (input_names x.kind)) j.3 (feeding_pin low high g p.spare (input_names x.kind) p.feeds j.0 j.1).1)))
      (joined_old its_feeds p.spare x.joined q)
      ∙ s.off q t r

  serving_only : (q n : Name) → driven_at (Some serving) q ≡ Some n → (q ≡ p.output) × (n ≡ g.output)
  serving_only q n d =
      let j = joined_driven serving q n d in
      let r = spare_computes x s q j.0 in
      ⊎_elim
      (λ e. (e, same_Some (sym (ap (driven_at (Some serving)) (sym e) ∙ d) ∙ serving_out)))
      (λ a. absurd (not_None (sym j.1 ∙ others_off q r.0 r.1 a)))
      (same_name q p.output)

  pub serving_drives : Drives serving p.output g.output m.chosen
  serving_drives = record {
    drives = serving_out;
    only = serving_only;
    at = m.is_output;
    no_outside = λ q d e. spare_no_outside x s q d e;
  }

  pub serving_reads : input_nets serving ≡ map (feed_net low high g.inputs) p.feeds
  serving_reads =
      map_agree _ _ (input_names x.kind) (λ q h.
      ap (λ z. get z q) serving_joined
      ∙ get_other (rejoined its_feeds p.spare x.joined) p.output g.output q (λ e. spare_output x s p.output m.chosen m.is_output (subst (Has (input_names x.kind)) e h)))
      ∙ fed_inputs low high g p.spare (input_names x.kind) p.feeds x.joined names m.one_each (λ f h. fed_net low high g.inputs f (m.among f (contains_from_has p.feeds f h)))

  pub serving_serves : (ins : List (Option Name)) → ins ≡ map Some g.inputs → Serves low high g.table ins m.chosen (input_nets serving)
  serving_serves ins a = record {
    looks = λ v l h.
        ap (λ z. table_value m.chosen (map (read v) z)) serving_reads
        ∙ ap (table_value m.chosen) (feed_values low high v l h g.inputs p.feeds)
        ∙ m.same (map (read v) (map Some g.inputs)) (length_twice v g.inputs)
        ∙ sym (ap (λ z. table_value g.table (map (read v) z)) a);
    reads = λ n i. subst (λ z. Has z (Some n) ⊎ ((n ≡ low) ⊎ (n ≡ high))) (sym a) (feed_reads low high g.inputs p.feeds n (subst (λ z. Has z (Some n)) serving_reads i));
  }
