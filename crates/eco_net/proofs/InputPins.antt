-- What the gate of a computed net reads, by its pins
use Rattle.std.proofs.Common.{◌≡◌, ℕ, zero, suc, ◌<◌, List, [], ◌∷◌, take, Some, sym, ap, ◌∙◌, subst, arith, slice_get}
use Rattle.eco_net.specs.declared.rows.CompRow.{CompRow}
use Rattle.eco_net.specs.Listing.{Listing}
use Rattle.eco_net.specs.Gates.{GatePin, computed_by, input_count, gate_inputs, inputs_at, FeedsNet}
use Rattle.eco_net.proofs.Basics.{Has, same_Some, not_None, has_from_contains, contains_from_has}
use Rattle.eco_net.proofs.GateNames.{has_at, at_has}

at_taken : {A : Type 0} (n : ℕ) (xs : List A) (i : ℕ) (x : A) → i < n → slice_get xs i ≡ Some x → slice_get (take n xs) i ≡ Some x
at_taken zero xs i x h e = absurd (omega arith)
at_taken (suc n) [] i x h e = absurd (not_None (sym e))
at_taken (suc n) (y ∷ xs) zero x h e = e
at_taken (suc n) (y ∷ xs) (suc i) x h e = at_taken n xs i x (omega arith) e

pub taken_at : {A : Type 0} (n : ℕ) (xs : List A) (i : ℕ) (x : A) → slice_get (take n xs) i ≡ Some x → (i < n) × (slice_get xs i ≡ Some x)
taken_at zero xs i x e = absurd (not_None (sym e))
taken_at (suc n) [] i x e = absurd (not_None (sym e))
taken_at (suc n) (y ∷ xs) zero x e = (omega arith, e)
taken_at (suc n) (y ∷ xs) (suc i) x e = let r = taken_at n xs i x e in (omega (arith, r.0), r.1)

pub reads_at : (L : Listing) (a b : ℕ) (g s : GatePin) (r : CompRow) (k : ℕ) → computed_by L b ≡ Some g → slice_get L.comps g.0.0 ≡ Some r → k < input_count r.kind → slice_get r.joined k ≡ Some (Some a) → computed_by L a ≡ Some s → FeedsNet L a b
reads_at L a b g s r k to at h e from = record {
  gate = g;
  to = to;
  reads = contains_from_has _ _ (subst (λ xs. Has xs (Some a)) (sym (ap gate_inputs at)) (has_at (take (input_count r.kind) r.joined) k (Some a) (at_taken (input_count r.kind) r.joined k (Some a) h e)));
  source = s;
  from = from;
}

pub read_place : (L : Listing) (a b : ℕ) (w : FeedsNet L a b) (g : GatePin) (r : CompRow) → computed_by L b ≡ Some g → slice_get L.comps g.0.0 ≡ Some r → (k : ℕ) × (k < input_count r.kind) × (slice_get r.joined k ≡ Some (Some a))
read_place L a b w g r to at =
    let same : w.gate ≡ g = same_Some (sym w.to ∙ to) in
    let i : Has (take (input_count r.kind) r.joined) (Some a) = subst (λ xs. Has xs (Some a)) (ap (λ (x : GatePin). inputs_at L x.0.0) same ∙ ap gate_inputs at) (has_from_contains _ _ w.reads) in
    let p = at_has (take (input_count r.kind) r.joined) (Some a) i in
    let q = taken_at (input_count r.kind) r.joined p.0 (Some a) p.1 in
    (p.0, q.0, q.1)
