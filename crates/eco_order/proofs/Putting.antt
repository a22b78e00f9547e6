-- New nets and moved pins, one after another from the last.
use Rattle.std.proofs.Common.{◌≡◌, ℕ, zero, suc, ◌-◌, ◌<◌, ◌≤◌, Bool, false, List, [], ◌∷◌, map, length, drop, get_or, Option, Some, None, Result, Ok, Err, OnOk, refl, sym, ap, subst, ◌∙◌, inl, inr, arith}
use Rattle.std.specs.List.{Contains, IsDistinct}
use Rattle.std.specs.Str.{bytes_eq}
use Rattle.std.specs.FinMap.{FinMap, get, find as find_pin}
use Rattle.eco_net.specs.Netlist.{Name, name_cmp, Netlist, Component, CompPin, IsNet, pins_of}
use Rattle.eco_net.specs.Changes.{with_pin_on, on_net}
use Rattle.eco_net.specs.Joints.{with_nets, put_on, put_joints}
use Rattle.eco_net.proofs.Basics.{Has, contains_from_has, get_other}
use Rattle.eco_order_file.specs.Orders.{Move}
use Rattle.eco_order_file.proofs.Again.{left_from}
use Rattle.eco_order.specs.Insert.{patch_move}
use Rattle.eco_order.specs.Inserting.{IsPinOf, CanMoveAll, with_moved}
use Rattle.eco_order.proofs.Firsts.{bytes_themselves, true_not_false, all_has}
use Rattle.eco_patch_laws.specs.Insertion.{move_joint}
use Rattle.eco_patch_laws.proofs.Inserting.{moved_some}

pub on_ok : {A E P Q : Type 0} (r : Result A E) → (P → Q) → OnOk r P → OnOk r Q
on_ok (Ok x) f h = f h
on_ok (Err e) f h = h

-- ---- new nets

pub nets_new : (m : FinMap name_cmp (Option Bool)) (ns : List Name) (q : Name) → get m q ≡ None → (Has ns q → ⊥) → get (with_nets m ns) q ≡ None
nets_new m [] q e h = e
nets_new m (n ∷ ns) q e h = get_other (with_nets m ns) n None q (λ s. h (inl (sym s))) ∙ nets_new m ns q e (λ i. h (inr i))

-- a name is none of those after it
pub later_differ : (n : Name) (ns : List Name) → IsDistinct bytes_eq (n ∷ ns) → Has ns n → ⊥
unfolding IsDistinct
later_differ n ns d h = true_not_false (bytes_themselves n) (all_has (λ m. bytes_eq n m ≡ false) ns d.0 n h)

-- ---- moved pins

pub one_moved : (N : Netlist) (m : Move) (ms : List Move) → with_pin_on (with_moved N ms) (CompPin m.comp m.pin) m.to ≡ with_moved N (m ∷ ms)
one_moved N m ms = go (get joined m.comp)
  where
    joined : FinMap name_cmp Component
    joined = put_joints N.comps (map move_joint (map patch_move ms))

    go : (o : Option Component) → record N { comps = on_net joined m.comp m.pin m.to o } ≡ record N { comps = put_on joined (move_joint (patch_move m)) o }
    go None = refl
    go (Some x) = refl

pub still_pin : (N : Netlist) (ms : List Move) (c p : Name) → IsPinOf N c p → IsPinOf (with_moved N ms) c p
still_pin N ms c p w =
    let y = moved_some N.comps (map patch_move ms) c w.0 w.1 in
    (y.0, y.1, (w.2.0, ap (λ k. find_pin name_cmp p (pins_of k)) y.2.kind ∙ w.2.1))

-- ---- from the last item to the first

module _ {A : Type 0} (xs : List A) (k : ℕ) (x : A) (some : 0 < k) (within : k ≤ length xs) (at : x ≡ get_or xs (k - 1) x) where
  pub before : drop (k - 1) xs ≡ x ∷ drop k xs
  before = left_from xs (k - 1) x (omega (arith, some, within)) at ∙ ap (λ i. x ∷ drop i xs) (omega (arith, some))

  pub has_before : Has xs x
  has_before = has_dropped xs (k - 1) (subst (λ ys. Has ys x) (sym before) (inl refl))
    where
      has_dropped : (ys : List A) (i : ℕ) → Has (drop i ys) x → Has ys x
      has_dropped [] zero h = h
      has_dropped [] (suc i) h = h
      has_dropped (y ∷ ys) zero h = h
      has_dropped (y ∷ ys) (suc i) h = inr (has_dropped ys i h)

pub distinct_dropped : (ns : List Name) (i : ℕ) → IsDistinct bytes_eq ns → IsDistinct bytes_eq (drop i ns)
unfolding IsDistinct
distinct_dropped [] zero d = d
distinct_dropped [] (suc i) d = d
distinct_dropped (n ∷ ns) zero d = d
distinct_dropped (n ∷ ns) (suc i) d = distinct_dropped ns i d.1

pub next_is_new : (M : Netlist) (m : FinMap name_cmp (Option Bool)) (ns : List Name) (k : ℕ) (n q : Name) →
    0 < k → k ≤ length ns → n ≡ get_or ns (k - 1) n → q ≡ n → M.nets ≡ with_nets m (drop k ns) →
    IsDistinct bytes_eq ns → ((p : Name) → Contains ns p → get m p ≡ None) → get M.nets q ≡ None
next_is_new M m ns k n q some within at is now distinct new =
    ap (get M.nets) is ∙ ap (λ e. get e n) now
    ∙ nets_new m (drop k ns) n (new n (contains_from_has ns n (has_before ns k n some within at)))
    (later_differ n (drop k ns) (subst (IsDistinct bytes_eq) (before ns k n some within at) (distinct_dropped ns (k - 1) distinct)))

module _ (N M : Netlist) (ms : List Move) (k : ℕ) (m : Move) (can : CanMoveAll N ms) (now : M ≡ with_moved N (drop k ms)) (has : Has ms m) where
  pub pin_is_there : (c p : Name) → c ≡ m.comp → p ≡ m.pin → IsPinOf M c p
  pin_is_there c p e f =
      subst (λ z. IsPinOf M z p) (sym e) (subst (IsPinOf M m.comp) (sym f)
      (subst (λ P. IsPinOf P m.comp m.pin) (sym now) (still_pin N (drop k ms) m.comp m.pin (can m (contains_from_has ms m has)).0)))

  pub net_is_there : (n : Name) → n ≡ m.to → IsNet M n
  net_is_there n e = subst (IsNet M) (sym e) (subst (λ P. IsNet P m.to) (sym now) (can m (contains_from_has ms m has)).1)
