-- The centres of a base lie in their range.
use Rattle.std.proofs.Common.{◌≡◌, true, List, [], ◌∷◌, Option, Some, None, IfSome, refl, ap, ◌∙◌, subst}
use Rattle.std.specs.List.{All, AllZip}
use Rattle.std.proofs.lemmas.List.Elements.{All-nil, All-cons}
use Rattle.eco_common.specs.Sizes.{keeps_limit}
use Rattle.eco_def.specs.View.{design_in}
use Rattle.eco_func.specs.Masters.{MasterTables}
use Rattle.eco_lef.specs.declared.master.Master.{Master}
use Rattle.eco_lef.specs.Collected.{find_master}
use Rattle.eco_net.specs.Netlist.{Name}
use Rattle.eco_elaborate.specs.Centres.{IsCentre, HasCentres}
use Rattle.eco_elaborate.specs.Described.{AreSized}
use Rattle.eco_elaborate.specs.Netlists.{netlist_of}
use Rattle.eco_elaborate.proofs.Centred.{places_are_centres}
use Rattle.eco_master_faults.specs.Tables.{macro_size}
use Rattle.eco_master_faults.proofs.MadeKinds.{found_keeps}
use Rattle.eco_base.specs.declared.stock.Spare.{Spare}
use Rattle.eco_base.specs.Texts.{TextParts, AreRead}
use Rattle.eco_base.specs.Joined.{design_names, kinds}
use Rattle.eco_base.specs.Stocks.{IsSpareOf}
use Rattle.eco_base.specs.Bases.{BaseParts, IsOpen}

kinds_sized : (t : TextParts) → AreRead t → AreSized (kinds t)
kinds_sized t read model = go (find_master model t.library) refl
  where
    go : (o : Option Master) → find_master model t.library ≡ o → keeps_limit (macro_size (find_master model t.library)) ≡ true
    go None e = ap (λ o. keeps_limit (macro_size o)) e
    go (Some m) e = ap (λ o. keeps_limit (macro_size o)) e ∙ found_keeps model t.library read.sizes m e

pub centred : (t : TextParts) → AreRead t → (ties : List Name) → HasCentres (netlist_of (kinds t) ties (design_names t))
centred t read ties = places_are_centres (kinds t) ties t.text (design_in t.text t.design) read.reading.read (kinds_sized t read)

spares_centred : (t : TextParts) → AreRead t → (spares : List Spare) (fs : List MasterTables) → AllZip (IsSpareOf t) spares fs → All (λ (s : Spare). IsCentre s.centre) spares
spares_centred t read [] fs are = All-nil (λ (s : Spare). IsCentre s.centre)
spares_centred t read (s ∷ spares) [] are = absurd are
spares_centred t read (s ∷ spares) (f ∷ fs) are =
    let one = are.0 in
    All-cons (λ (s : Spare). IsCentre s.centre) s spares (subst (λ o. IfSome o IsCentre) one.place (centred t read [] s.name one.comp one.found)) (spares_centred t read spares fs are.1)

pub stock_centred : (b : BaseParts) → IsOpen b → All (λ (s : Spare). IsCentre s.centre) b.stock
stock_centred b open' = spares_centred b.texts open'.read b.stock b.functions open'.spares
