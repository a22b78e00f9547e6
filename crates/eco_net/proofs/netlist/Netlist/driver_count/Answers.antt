use Rattle.std.proofs.Common.{◌≡◌, ◌<◌, ℕ, List, get_or, sym, ap, length, subst, arith, ◌∙◌}
use Rattle.eco_net.specs.declared.drivers.Driving.{Driving}
use Rattle.eco_net.specs.Driving.{driving_of, each_driving}
use Rattle.eco_net.specs.Kept.{IsListing}
use Rattle.eco_net.proofs.DriverNames.{driving}
use Rattle.eco_net.specs.Listing.{Listing, netlist, net_name}
use Rattle.eco_net.specs.Drivers.{HasDrivers}
use Rattle.eco_net.specs.ByNumber.{all_pins}
use Rattle.eco_net.proofs.Noted.{noted_length, noted_at}
use Rattle.eco_net.proofs.DriverCounts.{counted, no_drivers, one_driver}
use Rattle.eco_net.proofs.netlist.Netlist.driver_count.Goals as goal

pub index-requires : goal.index-requires
index-requires c =
    let L = c.self.inside.listed in
    let known : c.args.net.0 < length L.nets = subst (λ (L : Listing). c.args.net.0 < length L.nets) (sym c.self.view_is) c.requires in
    omega (arith, known, c.self.inside.driving.ok.0, ap length c.self.invariant.driving_is, noted_length L (all_pins L))

-- what is noted of the net's driving pins
its : (L : Listing) (is : IsListing L) (ds : List Driving) (n : ℕ) (d : Driving) → n < length L.nets → ds ≡ each_driving L (all_pins L) → d ≡ get_or ds n d → driving_of (driving L is n) ≡ d
its L is ds n d h e f = sym (noted_at L (all_pins L) n d h) ∙ ap (λ ds. get_or ds n d) (sym e) ∙ sym f

known : (L M : Listing) (n : ℕ) → L ≡ M → n < length M.nets → n < length L.nets
known L M n e h = subst (λ (L : Listing). n < length L.nets) (sym e) h

pub returns-in-None : goal.returns-in-None
returns-in-None c =
    let L = c.self.inside.listed in
    let n = c.args.net.0 in
    let is = c.self.invariant.listing in
    let h = known L c.args.self.now n c.self.view_is c.requires in
    subst (λ (L : Listing). HasDrivers (netlist L) (net_name L.nets n) 0) c.self.view_is
    (no_drivers L is n h (its L is c.self.inside.driving.items n c.index.result.now h c.self.invariant.driving_is c.index.ensures ∙ c.in-None.is))

pub returns-in-One : goal.returns-in-One
returns-in-One c =
    let L = c.self.inside.listed in
    let n = c.args.net.0 in
    let is = c.self.invariant.listing in
    let h = known L c.args.self.now n c.self.view_is c.requires in
    subst (λ (L : Listing). HasDrivers (netlist L) (net_name L.nets n) 1) c.self.view_is
    (one_driver L is n h c.in-One.field-0 (its L is c.self.inside.driving.items n c.index.result.now h c.self.invariant.driving_is c.index.ensures ∙ c.in-One.is))

pub returns-in_ok-driving_on-in-Several : goal.returns-in_ok-driving_on-in-Several
returns-in_ok-driving_on-in-Several c =
    let L = c.self.inside.listed in
    let n = c.args.net.0 in
    let is = c.self.invariant.listing in
    let h = known L c.args.self.now n c.self.view_is c.requires in
    let same = c.in_ok-driving_on-in-Several.ensures in
    let count : length (driving L is n) ≡ c.len.result = omega (arith, c.len.ensures, c.in_ok-driving_on-in-Several.field-0.ok.0, ap length same) in
    subst (λ (L : Listing). HasDrivers (netlist L) (net_name L.nets n) c.len.result) c.self.view_is (counted L is n h c.len.result count)
