-- Distinct pins, name by name.
use Rattle.std.proofs.Common.{◌≡◌, ℕ, suc, ◌+◌, ◌<◌, ◌||◌, ◌&&◌, not, Bool, true, false, List, [], ◌∷◌, length, map, take, drop, ◌-◌, length-drop, get_or, refl, ap, ◌∙◌, sym, drop-cons, add-one, arith}
use Rattle.std.proofs.lemmas.List.{take_all}
use Rattle.std.specs.List.{list_any}
use Rattle.std.specs.Str.{bytes_eq}
use Rattle.std.proofs.lemmas.List.Folds.{list_any-append}
use Rattle.eco_func.specs.declared.output.OutputFn.{OutputFn}
use Rattle.eco_func.specs.Masters.{all_differ, pins}

pub list_any-map : {X Y : Type 0} (p : Y → Bool) (f : X → Y) (xs : List X) → list_any p (map f xs) ≡ list_any (λ x. p (f x)) xs
list_any-map p f [] = refl
list_any-map p f (x ∷ xs) = ap (λ b. p (f x) || b) (list_any-map p f xs)

-- what is left begins with the item at the place
pub left_from : {X : Type 0} (xs : List X) (i : ℕ) (x : X) → i < length xs → x ≡ get_or xs i x → drop i xs ≡ x ∷ drop (i + 1) xs
left_from xs i x h e = rw add-one (drop-cons xs i x h ∙ ap (λ y. y ∷ drop (suc i) xs) (sym e))

module _ (outputs : List OutputFn) (i : ℕ) (o : OutputFn) (b : Bool) (left : drop i outputs ≡ o ∷ drop (i + 1) outputs) (again : b ≡ list_any (λ x. bytes_eq o.pin x.pin) (drop (i + 1) outputs)) where
  pin_step : all_differ (map (λ x. x.pin) (drop i outputs)) ≡ (not b && all_differ (map (λ x. x.pin) (drop (i + 1) outputs)))
  pin_step =
      ap (λ xs. all_differ (map (λ x. x.pin) xs)) left
      ∙ ap (λ t. not t && all_differ (map (λ x. x.pin) (drop (i + 1) outputs)))
      (list_any-map (bytes_eq o.pin) (λ x. x.pin) (drop (i + 1) outputs) ∙ sym again)

  pub pin_again : b ≡ true → all_differ (map (λ x. x.pin) (drop i outputs)) ≡ false
  pin_again t = pin_step ∙ ap (λ t. not t && all_differ (map (λ x. x.pin) (drop (i + 1) outputs))) t

  pub pin_new : b ≡ false → all_differ (map (λ x. x.pin) (drop i outputs)) ≡ all_differ (map (λ x. x.pin) (drop (i + 1) outputs))
  pin_new t = pin_step ∙ ap (λ t. not t && all_differ (map (λ x. x.pin) (drop (i + 1) outputs))) t

module _ (inputs : List (List ℕ)) (outputs : List OutputFn) (i : ℕ) (n : List ℕ) (b c : Bool) (left : drop i inputs ≡ n ∷ drop (i + 1) inputs)
    (again : b ≡ list_any (bytes_eq n) (drop (i + 1) inputs)) (driven : c ≡ list_any (λ x. bytes_eq n x.pin) outputs) where
  input_step : all_differ (pins (drop i inputs) outputs) ≡ (not (b || c) && all_differ (pins (drop (i + 1) inputs) outputs))
  input_step =
      ap (λ xs. all_differ (pins xs outputs)) left
      ∙ ap (λ t. not t && all_differ (pins (drop (i + 1) inputs) outputs))
      (list_any-append (bytes_eq n) (drop (i + 1) inputs) (map (λ x. x.pin) outputs)
      ∙ ap (λ t. list_any (bytes_eq n) (drop (i + 1) inputs) || t) (list_any-map (bytes_eq n) (λ x. x.pin) outputs ∙ sym driven)
      ∙ ap (λ t. t || c) (sym again))

  pub input_again : (b || c) ≡ true → all_differ (pins (drop i inputs) outputs) ≡ false
  input_again t = input_step ∙ ap (λ t. not t && all_differ (pins (drop (i + 1) inputs) outputs)) t

  pub input_new : b ≡ false → c ≡ false → all_differ (pins (drop i inputs) outputs) ≡ all_differ (pins (drop (i + 1) inputs) outputs)
  input_new s t = input_step ∙ ap (λ t. not t && all_differ (pins (drop (i + 1) inputs) outputs)) (ap (λ x. x || c) s ∙ t)

-- `xs[i..]` as what is left from i on
pub rest_at : {X : Type 0} (xs : List X) (i : ℕ) (p : X → Bool) → list_any p (take (length xs - i) (drop i xs)) ≡ list_any p (drop i xs)
rest_at xs i p = ap (list_any p) (take_all (length xs - i) (drop i xs) (omega (arith, length-drop i xs)))
