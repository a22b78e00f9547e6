-- The test of a spare: what it finds, and what it refutes
use Rattle.std.proofs.Common.{◌≡◌, ℕ, ◌+◌, ◌<◌, Bool, true, false, cond, not, List, [], ◌∷◌, map, length, Option, Some, None, refl, sym, ap, ◌∙◌, subst, arith, slice_get, inl, inr, true≢false}
use Rattle.std.specs.List.{position, position_or_len, Contains}
use Rattle.std.specs.Option.{MatchOption, IsSomeAnd}
use Rattle.std.specs.Str.{bytes_eq}
use Rattle.std.specs.FinMap.{get}
use Rattle.std.proofs.lemmas.List.{length-map}
use Rattle.std.proofs.lemmas.List.Quantifiers.{position-Some}
use Rattle.std.proofs.lemmas.Option.{get_or_from_slice_get}
use Rattle.std.proofs.lemmas.Slice.Eq.{bytes_eq-Decides}
use Rattle.std.proofs.lemmas.Slice.Zip.{AllZip-left}
use Rattle.eco_func.specs.declared.output.OutputFn.{OutputFn}
use Rattle.eco_func.specs.Masters.{MasterTables, is_master}
use Rattle.eco_func.proofs.Places.{place_is, no_place}
use Rattle.eco_net.specs.declared.kind.Kind.TheVariants.{Gate as GivenGate}
use Rattle.eco_net.specs.Netlist.{Name, Gate, Component}
use Rattle.eco_net.specs.Listing.{given_kind, bits_of}
use Rattle.eco_net.proofs.Basics.{Has, same_Some, has_map, has_of_map, has_from_contains, contains_from_has}
use Rattle.eco_net.proofs.GateNames.{has_at}
use Rattle.eco_net.proofs.Places.{at_place}
use Rattle.eco_base.specs.declared.stock.Spare.{Spare}
use Rattle.eco_base.specs.Texts.{TextParts}
use Rattle.eco_base.specs.Bases.{BaseParts, IsOpen, IsSpareOf, frozen, full_netlist, stock_names}
use Rattle.eco_one_gate.specs.OneGates.{IsOneSpare}
use Rattle.eco_one_gate.specs.OneSteps.{IsSpareGate}

-- ---- places

past_none : (p : Spare → Bool) (xs : List Spare) (s : Spare) → Has xs s → p s ≡ true → length xs ≡ position_or_len p xs → ⊥
past_none p [] s h e f = absurd h
past_none p (x ∷ xs) s h e f = go (past_none p xs s) (p x) refl h f
  where
    go : (Has xs s → p s ≡ true → length xs ≡ position_or_len p xs → ⊥) → (b : Bool) → p x ≡ b → Has (x ∷ xs) s → length (x ∷ xs) ≡ cond (not b) (1 + position_or_len p xs) 0 → ⊥
    go rest true g h f = omega (arith, f)
    go rest false g (inl same) f = true≢false (sym e ∙ ap p (sym same) ∙ g)
    go rest false g (inr h) f = rest h e (omega (arith, f))

one_mapped : {A B : Type 0} (f : A → B) (xs : List A) (y : B) → map f xs ≡ y ∷ [] → length xs ≡ 1
one_mapped f xs y e = sym (length-map xs f) ∙ ap length e

one_of_length : {A : Type 0} (xs : List A) → length xs ≡ 1 → (x : A) × (xs ≡ x ∷ [])
one_of_length [] e = absurd (omega (arith, e))
one_of_length (x ∷ []) e = (x, refl)
one_of_length (x ∷ y ∷ xs) e = absurd (omega (arith, e))

-- ---- a spare of the base

pub gate_outputs : {a c : List Name} {b d : List (Name × List Bool)} → Gate a b ≡ Gate c d → b ≡ d
gate_outputs e = cc

-- a spare of this name, and its master
pub record SpareAt (t : TextParts) (name : Name) (m : MasterTables) : Type 0 where
  pub comp : Component
  pub stock : Contains (stock_names t) name
  pub found : get (full_netlist t).comps name ≡ Some comp
  pub kind : comp.kind ≡ given_kind (GivenGate m)

module _ (b : BaseParts) (is : IsOpen b) (name : Name) where
  abbrev pub has_name : Spare → Bool
  has_name s = bytes_eq s.name name

  -- a name that no spare has is not in the stock
  pub no_spare : position has_name b.stock ≡ None → IsOneSpare (frozen b.texts) name → ⊥
  no_spare none spare =
      let h = has_of_map (λ (s : Spare). s.name) b.stock name (subst (λ ns. Has ns name) (sym is.stock) (has_from_contains (stock_names b.texts) name spare.stock)) in
      past_none has_name b.stock h.0 h.1 ((bytes_eq-Decides h.0.name name).1 h.2) (no_place has_name b.stock none)

  module _ (k : ℕ) (at : position has_name b.stock ≡ Some k) where
    pub in_stock : k < length b.stock
    in_stock = (place_is has_name b.stock k at).1

    its_spare : (s : Spare) × (slice_get b.stock k ≡ Some s) × (s.name ≡ name)
    its_spare =
        let s = at_place b.stock k in_stock in
        let here = get_or_from_slice_get b.stock k s.0 s.0 s.1 in
        (s.0, s.1, (bytes_eq-Decides s.0.name name).0 (ap has_name (sym here) ∙ (position-Some has_name b.stock k s.0 at).1))

    pub spare_at : (m : MasterTables) → slice_get b.functions k ≡ Some m → SpareAt b.texts name m
    spare_at m e =
        let s = its_spare in
        let of : IsSpareOf b.texts s.0 m = paired (slice_get b.functions k) e (subst (λ o. MatchOption o (Unit {0}) (λ x. IsSomeAnd (slice_get b.functions k) (IsSpareOf b.texts x))) s.1 (AllZip-left (IsSpareOf b.texts) b.stock b.functions is.spares k)) in
        record {
          comp = of.comp;
          stock = contains_from_has (stock_names b.texts) name (subst (λ ns. Has ns name) is.stock (subst (Has (map (λ (s : Spare). s.name) b.stock)) s.2 (has_map (λ (s : Spare). s.name) b.stock s.0 (has_at b.stock k s.0 s.1))));
          found = ap (get (full_netlist b.texts).comps) (sym s.2) ∙ of.found;
          kind = of.function;
        }
      where
        paired : {x : Spare} (o : Option MasterTables) → o ≡ Some m → IsSomeAnd o (IsSpareOf b.texts x) → IsSpareOf b.texts x m
        paired {x = x} None e h = absurd h
        paired {x = x} (Some f) e h = subst (IsSpareOf b.texts x) (same_Some e) h

  module _ (m : MasterTables) (at : SpareAt b.texts name m) where
    pub spare_gate : is_master m.inputs m.outputs ≡ true → length m.outputs ≡ 1 → IsSpareGate (frozen b.texts) name m
    spare_gate master count =
        let o = one_of_length m.outputs count in
        record {
          spare = record {
            stock = at.stock;
            comp = at.comp;
            found = at.found;
            inputs = m.inputs;
            output = o.0.pin;
            table = bits_of o.0.table;
            gate = at.kind ∙ ap (λ os. Gate m.inputs (map {B = Name × List Bool} (λ (o : OutputFn). (o.pin, bits_of o.table)) os)) o.1;
          };
          master = master;
          kind = at.kind;
          output = o.0;
          one = o.1;
        }

    -- the master of a spare with one output has one
    pub one_output : IsOneSpare (frozen b.texts) name → length m.outputs ≡ 1
    one_output s =
        let same : at.comp ≡ s.comp = same_Some (sym at.found ∙ s.found) in
        one_mapped {B = Name × List Bool} (λ (o : OutputFn). (o.pin, bits_of o.table)) m.outputs (s.output, s.table) (gate_outputs (sym at.kind ∙ ap (λ x. x.kind) same ∙ s.gate))
