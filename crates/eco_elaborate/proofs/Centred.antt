-- The places of a design's netlist are doubled centres in their range.
use Rattle.std.proofs.Common.{◌≡◌, ℕ, ◌≤◌, ◌*◌, nat_le, ℤ, pos, mul-le-mul, ◌+ℤ◌, ◌*ℤ◌, true, List, [], ◌∷◌, map, Option, Some, None, IfSome, subst, arith}
use Rattle.std.proofs.lemmas.Bool.{and_parts}
use Rattle.std.proofs.lemmas.Bool.Decides.{nat_tests}
use Rattle.std.proofs.lemmas.Int.{ints}
use Rattle.std.proofs.lemmas.List.Elements.{All-from_recursion, recursion_from_All}
use Rattle.std.specs.List.{All, AllByRecursion}
use Rattle.std.specs.Option.{option_map}
use Rattle.eco_common.specs.declared.geometry.Size.{Size}
use Rattle.eco_common.specs.declared.limits.TheConstants.{MAX_MILLIONTHS, MAX_UNITS}
use Rattle.eco_common.specs.Sizes.{keeps_limit}
use Rattle.eco_def.specs.declared.design.Comp.{Comp}
use Rattle.eco_def.specs.declared.design.Design.{Design as Read}
use Rattle.eco_def.specs.declared.orient.Orient.{Orient}
use Rattle.eco_def.specs.declared.orient.Orient.TheVariants.{N, S, E, W, FN, FS, FE, FW}
use Rattle.eco_def.specs.declared.place.Place.{Place}
use Rattle.eco_def.specs.Named.{comp_names}
use Rattle.eco_def.specs.Sections.{IsReadingOf}
use Rattle.eco_def.specs.View.{comp_in, design_in}
use Rattle.eco_def.specs.Named.{names_of}
use Rattle.eco_issued_laws.specs.Bounds.{IsCoordinate, HasCoordinates}
use Rattle.eco_issued_laws.proofs.Issuing.{designs_bounded}
use Rattle.eco_net.proofs.Basics.{has_of_map}
use Rattle.eco_elaborate.specs.Centres.{extent, as_placed, twice_centre, doubled_centre, IsInRange, IsCentre}
use Rattle.eco_elaborate.specs.Laws.{PlacesAreCentres}
use Rattle.eco_elaborate.proofs.Found.{comp_said}
use Rattle.eco_elaborate.proofs.ReadingBack.{of_each}

-- ---- one component

le_of : (a b : ℕ) → nat_le a b ≡ true → a ≤ b
le_of a b t = grind (arith, nat_tests)

-- a product of bounded factors
product : (n units : ℕ) → n ≤ MAX_MILLIONTHS → units ≤ MAX_UNITS → n * units ≤ MAX_MILLIONTHS * MAX_UNITS
product n units short few = mul-le-mul short few

in_range : (units : ℕ) (start : ℤ) (n : ℕ) → units ≤ MAX_UNITS → IsCoordinate start → n ≤ MAX_MILLIONTHS → IsInRange ((pos 2 *ℤ start) +ℤ pos (extent units n))
in_range units start n few within short =
    let most : n * units ≤ MAX_MILLIONTHS * MAX_UNITS = product n units short few in
    (omega (arith, ints, most, within.0), omega (arith, ints, most, within.1))

centre_in_range : (units : ℕ) (s : Size) (p : Place) → units ≤ MAX_UNITS → s.width ≤ MAX_MILLIONTHS → s.height ≤ MAX_MILLIONTHS → HasCoordinates (Some p) → IsCentre (doubled_centre units s p)
centre_in_range units s p few wide high within = go p.orient
  where
    upright : IsCentre (twice_centre units p.point s)
    upright = (in_range units p.point.x s.width few within.0 wide, in_range units p.point.y s.height few within.1 high)

    turned : IsCentre (twice_centre units p.point (record { width = s.height; height = s.width }))
    turned = (in_range units p.point.x s.height few within.0 high, in_range units p.point.y s.width few within.1 wide)

    go : (o : Orient) → IsCentre (twice_centre units p.point (as_placed o s))
    go N = upright
    go S = upright
    go E = turned
    go W = turned
    go FN = upright
    go FS = upright
    go FE = turned
    go FW = turned

place_in_range : (units : ℕ) (s : Size) (place : Option Place) → units ≤ MAX_UNITS → keeps_limit s ≡ true → HasCoordinates place → IfSome (option_map (doubled_centre units s) place) IsCentre
place_in_range units s None few kept within = tt
place_in_range units s (Some p) few kept within =
    let parts = and_parts (nat_le s.width MAX_MILLIONTHS) (nat_le s.height MAX_MILLIONTHS) kept in
    centre_in_range units s p few (le_of s.width MAX_MILLIONTHS parts.0) (le_of s.height MAX_MILLIONTHS parts.1) within

-- ---- a netlist

pub places_are_centres : PlacesAreCentres
places_are_centres kinds ties text d is sized c x e =
    let bounded = designs_bounded text d is in
    let y = comp_said kinds ties (names_of d) c x e in
    let a = has_of_map comp_names d.comps y.0.0 y.1 in
    let each = recursion_from_All (λ c. HasCoordinates c.place) d.comps bounded.places in
    let within : HasCoordinates y.0.0.place = subst (λ z. HasCoordinates z.place) a.2 (of_each (λ c. HasCoordinates c.place) d.comps a.0 each a.1) in
    subst (λ z. IfSome z.place IsCentre) y.4 (place_in_range d.units (kinds.size y.0.0.model) y.0.0.place bounded.units (sized y.0.0.model) within)

-- ---- what a reading bounds

unmapped : {A B : Type 0} (P : B → Type 0) (f : A → B) (xs : List A) → AllByRecursion P (map f xs) → AllByRecursion (λ x. P (f x)) xs
unmapped P f [] all = tt
unmapped P f (x ∷ xs) all = (all.0, unmapped P f xs all.1)

pub units_read : (text : List ℕ) (d : Read) → IsReadingOf text d → d.units ≤ MAX_UNITS
units_read text d reading = (designs_bounded text (design_in text d) reading.read).units

pub places_read : (text : List ℕ) (d : Read) → IsReadingOf text d → All (λ c. HasCoordinates c.place) d.comps
places_read text d reading =
    let places = (designs_bounded text (design_in text d) reading.read).places in
    All-from_recursion (λ (c : Comp). HasCoordinates c.place) d.comps (unmapped (λ c. HasCoordinates c.place) (comp_in text) d.comps (recursion_from_All (λ c. HasCoordinates c.place) (map (comp_in text) d.comps) places))
