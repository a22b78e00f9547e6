-- The issued text reads back.
use Rattle.std.proofs.Common.{◌≡◌, ℕ, ◌≤◌, true, List, [], Ok, IfSome, subst}
use Rattle.std.proofs.lemmas.List.Elements.{All-from_recursion}
use Rattle.std.specs.List.{AllByRecursion}
use Rattle.eco_common.specs.declared.limits.TheConstants.{MAX_UNITS}
use Rattle.eco_def.specs.Design.{Design}
use Rattle.eco_def.specs.Grammar.{design_of}
use Rattle.eco_def.specs.Named.{names_of}
use Rattle.eco_issued_laws.specs.Changes.{changes_of}
use Rattle.eco_text.specs.Tokens.{can_name}
use Rattle.eco_issued_laws.specs.Bounds.{HasCoordinates, DesignsAreBounded}
use Rattle.eco_issued_laws.specs.ReadingBack.{ReadsBack}
use Rattle.eco_issued_laws.proofs.ReadNames.{PinOk, pin_nets_named, CompOk, comps_named, units_bounded}
use Rattle.eco_issued_laws.proofs.Back.{parts_of, changes_read_back}
use Rattle.eco_issued_laws.proofs.Sorting.{all_as}
use Rattle.eco_issued_laws.proofs.Names.{can_name_when}
use Rattle.eco_issued_laws.proofs.Fitting.{changes_ok, allows}

pub reads_back : ReadsBack
reads_back text d joints nets is can =
    let o = changes_of (names_of d) joints nets in
    let p = parts_of text o d is in
    let pins : AllByRecursion PinOk d.pins = subst (λ k. AllByRecursion PinOk k) p.pins_are (pin_nets_named text p.parts_are p.rest p.read) in
    changes_read_back text o d (changes_ok d joints nets can) is (allows d joints nets can pins)

-- components' names can be printed again
pub comps_can_name : (text : List ℕ) (d : Design) → design_of text ≡ Ok d → AllByRecursion (λ c. can_name c.name.bytes ≡ true) d.comps
comps_can_name text d is =
    let p = parts_of text (changes_of (names_of d) [] []) d is in
    all_as CompOk (λ c. can_name c.name.bytes ≡ true) (λ c ok. can_name_when c.name.bytes ok.0) d.comps (subst (λ k. AllByRecursion CompOk k) p.comps_are (comps_named text p.parts_are p.rest p.read))

pub designs_bounded : DesignsAreBounded
designs_bounded text d is =
    let p = parts_of text (changes_of (names_of d) [] []) d is in
    let comps : AllByRecursion CompOk d.comps = subst (λ k. AllByRecursion CompOk k) p.comps_are (comps_named text p.parts_are p.rest p.read) in
    record {
      units = subst (λ o. IfSome o (λ n. n ≤ MAX_UNITS)) p.units_is (units_bounded text p.parts_are p.rest p.read);
      places = All-from_recursion (λ c. HasCoordinates c.place) d.comps (all_as CompOk (λ c. HasCoordinates c.place) (λ c ok. ok.1) d.comps comps);
    }
