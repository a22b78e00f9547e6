-- The pins of each net, a pin at a time
use Rattle.std.proofs.Common.{◌≡◌, ℕ, suc, ◌+◌, ◌<◌, List, [], ◌∷◌, ◌++◌, length, get_or, take, Option, Some, sym, ap, ◌∙◌, arith, slice_get, append_assoc}
use Rattle.std.specs.Option.{option_and_then}
use Rattle.std.specs.List.{filter}
use Rattle.std.proofs.lemmas.List.{append-nil, take_more, length-take-le}
use Rattle.std.proofs.lemmas.List.FromFn.{length-map-range_with_len, get_or-map-range_with_len, map-range_with_len_more}
use Rattle.std.proofs.lemmas.Option.{get_or_from_slice_get}
use Rattle.eco_net.specs.declared.rows.CompRow.{CompRow}
use Rattle.eco_net.specs.declared.ids.PinRef.{PinRef}
use Rattle.eco_net.specs.declared.ids.PinRef.TheVariants.{Top, Pin}
use Rattle.eco_net.specs.Listing.{Listing, pins}
use Rattle.eco_net.specs.ByNumber.{net_at, joint_at, is_on, by_net, pins_on, all_pins, tops_to, pins_to, comp_pins}

module _ (L : Listing) where
  pub nets_length : (ps : List PinRef) → length (by_net L ps) ≡ length L.nets
  nets_length ps = length-map-range_with_len (λ n. filter (is_on L n) ps) 0 (length L.nets)

  -- the list of a net
  pub net_pins : (on : List (List PinRef)) → on ≡ by_net L (all_pins L) → (n : ℕ) → n < length L.nets → (x : List PinRef) → slice_get on n ≡ Some x → x ≡ pins_on L n
  net_pins on e n h x f =
      sym (get_or_from_slice_get on n x [] f)
      ∙ ap (λ on. get_or on n []) e
      ∙ get_or-map-range_with_len (pins_on L) 0 (length L.nets) n n [] h (omega arith)

-- ---- ranges of pins

pub tops_more : (t : ℕ) → tops_to (t + 1) ≡ tops_to t ++ Top (record { 0 = t }) ∷ []
tops_more t = map-range_with_len_more (λ t. Top (record { 0 = t })) 0 t t (omega arith)

pub pins_more : (c k : ℕ) → pins_to c (k + 1) ≡ pins_to c k ++ Pin (record { 0 = c }) k ∷ []
pins_more c k = map-range_with_len_more (λ k. Pin (record { 0 = c }) k) 0 k k (omega arith)

comps_push : (c : ℕ) (rows : List CompRow) (r : CompRow) → comp_pins c (rows ++ r ∷ []) ≡ comp_pins c rows ++ pins_to (c + length rows) (length (pins r))
comps_push c [] r =
    let z : c ≡ c + 0 = omega arith in
    append-nil (pins_to c (length (pins r))) ∙ ap (λ d. pins_to d (length (pins r))) z
comps_push c (x ∷ rows) r =
    let z : (c + 1) + length rows ≡ c + suc (length rows) = omega arith in
    ap (λ ps. pins_to c (length (pins x)) ++ ps) (comps_push (c + 1) rows r ∙ ap (λ d. comp_pins (c + 1) rows ++ pins_to d (length (pins r))) z)
    ∙ sym (append_assoc (pins_to c (length (pins x))) (comp_pins (c + 1) rows) (pins_to (c + suc (length rows)) (length (pins r))))

-- the net of a component's pin, by its row
pub joint_of : (L : Listing) (c k : ℕ) (r : CompRow) (j : Option ℕ) → slice_get L.comps c ≡ Some r → slice_get r.joined k ≡ Some j → net_at L (Pin (record { 0 = c }) k) ≡ j
joint_of L c k r j e f = ap (λ o. joint_at o k) e ∙ ap (option_and_then (λ j. j)) f

-- the pins of one more component
pub comp_more : (L : Listing) (c : ℕ) (r : CompRow) → slice_get L.comps c ≡ Some r → c < length L.comps → comp_pins 0 (take (c + 1) L.comps) ≡ comp_pins 0 (take c L.comps) ++ pins_to c (length (pins r))
comp_more L c r e h =
    let l : length (take c L.comps) ≡ c = length-take-le c L.comps (omega arith) in
    ap (comp_pins 0) (take_more L.comps c r h ∙ ap (λ x. take c L.comps ++ x ∷ []) (get_or_from_slice_get L.comps c r r e))
    ∙ comps_push 0 (take c L.comps) r
    ∙ ap (λ d. comp_pins 0 (take c L.comps) ++ pins_to d (length (pins r))) (omega (arith, l))
