-- What is issued where no pin moves and no net is new.
use Rattle.std.proofs.Common.{◌≡◌, Bool, true, false, not, ◌&&◌, List, [], ◌∷◌, ◌++◌, map, refl, ap, ap₂, ◌∙◌, if◌then◌else◌, filter, append-nil}
use Rattle.std.proofs.lemmas.Bool.{and_right}
use Rattle.eco_def.specs.Named.{NamedNet, NamedDesign}
use Rattle.eco_issued_laws.specs.Changes.{Fresh, stays_on, has_statement, new_pins, precedes, in_order, stated_first, fresh_nets, is_nil, once_each, changes_of}
use Rattle.eco_issued_laws.specs.Issued.{issued_net, fresh_net}
use Rattle.eco_net.specs.Netlist.{Name}
use Rattle.eco_elaborate.specs.Laws.{NothingMoves}
use Rattle.eco_elaborate.proofs.Members.{filter_all, filter_none}

none_added : (d : NamedDesign) (net : Name) (b : Bool) → (if b then [] else new_pins d [] net) ≡ []
none_added d net true = refl
none_added d net false = refl

same_statement : (d : NamedDesign) (special : Bool) (s : NamedNet) → issued_net (changes_of d [] []) special s ≡ s
same_statement d special s =
    let kept : filter (stays_on [] s.name) s.joints ≡ s.joints = filter_all (stays_on [] s.name) s.joints (λ j h. refl) in
    let joints = ap₂ (λ xs ys. xs ++ ys) kept (none_added d s.name (special && has_statement d.nets s.name)) ∙ append-nil s.joints in
    λ i. record { name = s.name; usage = s.usage; joints = joints i }

same_statements : (d : NamedDesign) (special : Bool) (ss : List NamedNet) → map (issued_net (changes_of d [] []) special) ss ≡ ss
same_statements d special [] = refl
same_statements d special (s ∷ ss) = ap₂ {C = List NamedNet} (λ z zs. z ∷ zs) (same_statement d special s) (same_statements d special ss)

none_stated : (d : NamedDesign) → stated_first d [] ≡ []
none_stated d = filter_none (λ net. not (has_statement (d.special ++ d.nets) net) && not (is_nil (new_pins d [] net))) (once_each (map (λ p. p.net) d.pins)) (λ n h. and_right (not (has_statement (d.special ++ d.nets) n)) false refl)

none_fresh : (d : NamedDesign) → map fresh_net (fresh_nets d [] []) ≡ []
none_fresh d = ap (λ ns. map fresh_net (map (λ name. let f : Fresh = record { name = name; joints = new_pins d [] name } in f) (in_order precedes ns))) (none_stated d)

pub nothing_moves : NothingMoves
nothing_moves d =
    let specials = same_statements d true d.special in
    let plains = ap₂ (λ xs ys. xs ++ ys) (same_statements d false d.nets) (none_fresh d) ∙ append-nil d.nets in
    λ i. record { units = d.units; comps = d.comps; pins = d.pins; special = specials i; nets = plains i }
