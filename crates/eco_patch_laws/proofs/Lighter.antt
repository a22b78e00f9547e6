-- A netlist without some components that drive nothing has the loops of the whole, and the same valuations
use Rattle.std.proofs.Common.{◌≡◌, ◌↔◌, ℕ, zero, suc, Bool, List, Option, Some, sym, ap, ◌∙◌, ⊎_elim}
use Rattle.std.specs.FinMap.{get, contains_key}
use Rattle.eco_net.specs.Netlist.{Name, Netlist, Pin, TopPin, CompPin}
use Rattle.eco_net.specs.Drivers.{driven, driven_at, driven_top, IsDriver, Computed, IsFree}
use Rattle.eco_net.specs.CutKeys.{CutBits, CutKey, PinKey, NetKey, KeyOf, is_source_pin, is_source_at, is_source_top}
use Rattle.eco_net.specs.Valuation.{Valuation, IsValuation}
use Rattle.eco_net.specs.Walks.{ReadsNet, NetWalk, IsLoopFree}
use Rattle.eco_net.specs.Bases.{IsWithout}
use Rattle.eco_patch_laws.proofs.Sim.{found_driver}

module _ (M N : Netlist) (without : IsWithout M N) where
  drives_in_N : (q : Pin) (n : Name) → driven M q ≡ Some n → driven N q ≡ Some n
  drives_in_N (TopPin t) n d = ap (λ m. driven_top (get m t)) without.tops ∙ d
  drives_in_N (CompPin c p) n d =
      let f = found_driver M c p n d in
      ⊎_elim
      (λ e. ap (λ o. driven_at o p) e ∙ f.2)
      (λ idle. absurd (idle p n f.2))
      (without.others c f.0 f.1)

  drives_in_M : (q : Pin) (n : Name) → driven N q ≡ Some n → driven M q ≡ Some n
  drives_in_M (TopPin t) n d = ap (λ m. driven_top (get m t)) (sym without.tops) ∙ d
  drives_in_M (CompPin c p) n d = let f = found_driver N c p n d in ap (λ o. driven_at o p) (without.kept c f.0 f.1) ∙ f.2

  driver_in_M : (n : Name) (p : Pin) → IsDriver N n p → IsDriver M n p
  driver_in_M n p d = record { drives = drives_in_M p n d.drives; only = λ q e. d.only q (drives_in_N q n e) }

  driver_in_N : (n : Name) (p : Pin) → IsDriver M n p → IsDriver N n p
  driver_in_N n p d = record { drives = drives_in_N p n d.drives; only = λ q e. d.only q (drives_in_M q n e) }

  computed_in_M : (n : Name) (table : List Bool) (inputs : List (Option Name)) → Computed N n table inputs → Computed M n table inputs
  computed_in_M n table inputs c =
      let e = without.kept c.comp c.gate c.is in
      record {
        unsupplied = ap (λ m. get m n) (sym without.nets) ∙ c.unsupplied;
        comp = c.comp;
        pin = c.pin;
        gate = c.gate;
        is = e;
        driver = driver_in_M n _ c.driver;
        at = c.at;
        reads = c.reads;
      }

  reads_in_M : (a b : Name) → ReadsNet N a b → ReadsNet M a b
  reads_in_M a b r = record { from = (r.from.0, r.from.1, computed_in_M a r.from.0 r.from.1 r.from.2); table = r.table; inputs = r.inputs; to = computed_in_M b r.table r.inputs r.to; reads = r.reads }

  walk_in_M : (a b : Name) (k : ℕ) → NetWalk N a b k → NetWalk M a b k
  walk_in_M a b zero w = w
  walk_in_M a b (suc k) w = (w.0, walk_in_M a w.0 k w.1, reads_in_M w.0 b w.2)

  pub loop_free_without : IsLoopFree M → IsLoopFree N
  loop_free_without free a k w = free a k (walk_in_M a a (suc k) w)

  -- ---- valuations

  computed_in_N : (n : Name) (table : List Bool) (inputs : List (Option Name)) → Computed M n table inputs → Computed N n table inputs
  computed_in_N n table inputs c = record {
    unsupplied = ap (λ m. get m n) without.nets ∙ c.unsupplied;
    comp = c.comp;
    pin = c.pin;
    gate = c.gate;
    is = ⊎_elim (λ e. e) (λ idle. absurd (idle c.pin n (ap (λ o. driven_at o c.pin) (sym c.is) ∙ c.driver.drives))) (without.others c.comp c.gate c.is);
    driver = driver_in_N n _ c.driver;
    at = c.at;
    reads = c.reads;
  }

  reads_in_N : (a b : Name) → ReadsNet M a b → ReadsNet N a b
  reads_in_N a b r = record { from = (r.from.0, r.from.1, computed_in_N a r.from.0 r.from.1 r.from.2); table = r.table; inputs = r.inputs; to = computed_in_N b r.table r.inputs r.to; reads = r.reads }

  walk_in_N : (a b : Name) (k : ℕ) → NetWalk M a b k → NetWalk N a b k
  walk_in_N a b zero w = w
  walk_in_N a b (suc k) w = (w.0, walk_in_N a w.0 k w.1, reads_in_N w.0 b w.2)

  pub loop_free_with : IsLoopFree N → IsLoopFree M
  loop_free_with free a k w = free a k (walk_in_N a a (suc k) w)

  free_in_M : (n : Name) → IsFree N n → IsFree M n
  free_in_M n f = (ap (λ m. get m n) (sym without.nets) ∙ f.0, λ c. f.1 (c.0, c.1, computed_in_N n c.0 c.1 c.2))

  free_in_N : (n : Name) → IsFree M n → IsFree N n
  free_in_N n f = (ap (λ m. get m n) without.nets ∙ f.0, λ c. f.1 (c.0, c.1, computed_in_M n c.0 c.1 c.2))

  -- a driving pin is a source in both or in neither
  same_source : (p : Pin) (n : Name) → driven N p ≡ Some n → is_source_pin N p ≡ is_source_pin M p
  same_source (TopPin t) n d = ap (λ m. is_source_top (get m t)) without.tops
  same_source (CompPin c p) n d = let f = found_driver N c p n d in ap (λ o. is_source_at o p) (f.1 ∙ sym (without.kept c f.0 f.1))

  key_in_M : (n : Name) (key : CutKey) → KeyOf N n key → KeyOf M n key
  key_in_M n (PinKey p) k = (driver_in_M n p k.0, sym (same_source p n k.0.drives) ∙ k.1)
  key_in_M n (NetKey m) k = (k.0, λ p d s. let e = driver_in_N n p d in k.1 p e (same_source p n e.drives ∙ s))

  key_in_N : (n : Name) (key : CutKey) → KeyOf M n key → KeyOf N n key
  key_in_N n (PinKey p) k = let d = driver_in_N n p k.0 in (d, same_source p n d.drives ∙ k.1)
  key_in_N n (NetKey m) k = (k.0, λ p d s. k.1 p (driver_in_M n p d) (sym (same_source p n d.drives) ∙ s))

  pub same_without : (cut : CutBits) (v : Valuation) → IsValuation N cut v ↔ IsValuation M cut v
  same_without cut v = (
    λ a. record {
      keys = λ n. a.keys n ∙ ap (λ m. contains_key m n) without.nets;
      supplied = λ n b e. a.supplied n b (ap (λ m. get m n) without.nets ∙ e);
      free = λ n key f k. a.free n key (free_in_N n f) (key_in_N n key k);
      computed = λ n table inputs c. a.computed n table inputs (computed_in_N n table inputs c);
    },
    λ a. record {
      keys = λ n. a.keys n ∙ ap (λ m. contains_key m n) (sym without.nets);
      supplied = λ n b e. a.supplied n b (ap (λ m. get m n) (sym without.nets) ∙ e);
      free = λ n key f k. a.free n key (free_in_M n f) (key_in_M n key k);
      computed = λ n table inputs c. a.computed n table inputs (computed_in_M n table inputs c);
    },
  )
