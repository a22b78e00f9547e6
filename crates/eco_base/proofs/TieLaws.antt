-- Tie nets have their values
use Rattle.std.proofs.Common.{◌≡◌, Bool, List, [], ◌∷◌, Option, Some, None, sym, ap, ◌∙◌, inl, inr, ⊎_elim}
use Rattle.std.specs.FinMap.{get}
use Rattle.eco_net.specs.Netlist.{Name, Netlist, Pin, TopPin, CompPin}
use Rattle.eco_net.specs.Drivers.{driven, driven_at, driven_top, IsDriver, Computed}
use Rattle.eco_net.specs.Bases.{IsWithout}
use Rattle.eco_patch_laws.proofs.Sim.{found_driver}
use Rattle.eco_base.specs.Ties.{IsTieOutput}
use Rattle.eco_base.specs.StockLaws.{TieNetsAreConstant, TieNetsStayConstant}

computed_by : (prefixes : List Name) (N : Netlist) (n : Name) (b : Bool) → get N.nets n ≡ Some None → (p : Pin) → IsDriver N n p → IsTieOutput prefixes N p b → Computed N n (b ∷ []) []
computed_by prefixes N n b free (TopPin t) d o = absurd o
computed_by prefixes N n b free (CompPin c p) d o = record { unsupplied = free; comp = c; pin = p; gate = o.1; is = o.2; driver = d; at = o.4; reads = o.3 }

pub ties_constant : TieNetsAreConstant
ties_constant prefixes N n b t = ⊎_elim (λ e. inl e) (λ w. inr (computed_by prefixes N n b w.0 w.1 w.2 w.3)) t

module _ (M N : Netlist) (without : IsWithout M N) where
  drives_in_N : (q : Pin) (n : Name) → driven M q ≡ Some n → driven N q ≡ Some n
  drives_in_N (TopPin t) n d = ap (λ m. driven_top (get m t)) without.tops ∙ d
  drives_in_N (CompPin c p) n d =
      let f = found_driver M c p n d in
      ⊎_elim
      (λ e. ap (λ o. driven_at o p) e ∙ f.2)
      (λ idle. absurd (idle p n f.2))
      (without.others c f.0 f.1)

  drives_in_M : (q : Pin) (n : Name) → driven N q ≡ Some n → driven M q ≡ Some n
  drives_in_M (TopPin t) n d = ap (λ m. driven_top (get m t)) (sym without.tops) ∙ d
  drives_in_M (CompPin c p) n d = let f = found_driver N c p n d in ap (λ o. driven_at o p) (without.kept c f.0 f.1) ∙ f.2

  pub computed_without : (n : Name) (table : List Bool) (inputs : List (Option Name)) → Computed M n table inputs → Computed N n table inputs
  computed_without n table inputs c = record {
    unsupplied = ap (λ m. get m n) without.nets ∙ c.unsupplied;
    comp = c.comp;
    pin = c.pin;
    gate = c.gate;
    is = ⊎_elim (λ e. e) (λ idle. absurd (idle c.pin n (ap (λ o. driven_at o c.pin) (sym c.is) ∙ c.driver.drives))) (without.others c.comp c.gate c.is);
    driver = record { drives = drives_in_N (CompPin c.comp c.pin) n c.driver.drives; only = λ q e. c.driver.only q (drives_in_M q n e) };
    at = c.at;
    reads = c.reads;
  }

pub ties_stay : TieNetsStayConstant
ties_stay prefixes M N n b without t = ⊎_elim
    (λ e. inl (ap (λ m. get m n) without.nets ∙ e))
    (λ c. inr (computed_without M N without n (b ∷ []) [] c))
    (ties_constant prefixes M n b t)
