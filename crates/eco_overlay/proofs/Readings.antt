-- What the code finds in its lists, as the definitions have it.
use Rattle.std.specs.Str.{bytes_eq}
use Rattle.std.specs.List.{list_any, filter}
use Rattle.std.proofs.Common.{◌≡◌, ℕ, Bool, true, false, not, ◌&&◌, ◌||◌, List, [], ◌∷◌, ◌++◌, map, Some, None, refl, ap, sym, ◌∙◌, if◌then◌else◌}
use Rattle.std.proofs.Math.Path.{fun_ext}
use Rattle.std.proofs.lemmas.List.Folds.{list_any-append}
use Rattle.std.proofs.lemmas.List.Sorted.{list_any-IsPermutation, IsPermutation-filter_both}
use Rattle.eco_def.specs.declared.design.NetStatement.{NetStatement}
use Rattle.eco_def.specs.declared.design.Design.{Design}
use Rattle.eco_def.specs.View.{joint_in, net_in, comp_in, pin_in, design_in}
use Rattle.eco_def.specs.Named.{NamedDesign, NamedNet, joint_names, net_names, comp_names, pin_names, names_of}
use Rattle.eco_overlay.specs.declared.fault.MoveFault.TheVariants.{UnknownComponent, NotOnNet, UnknownNet}
use Rattle.eco_overlay.specs.Moving.{has_comp, move_fault}
use Rattle.eco_issued_laws.specs.Changes.{NewJoint, is_no_component, is_joint_of, stands, has_statement, has_net}
use Rattle.eco_text.specs.Cursor.{word_bytes}
use Rattle.eco_overlay.specs.PinMoves.{stands_in, names_net, tops_net, names_comp}
use Rattle.eco_overlay.specs.NetChanges.{is_statement_of, of_kind}
use Rattle.eco_overlay.proofs.NetPins.{list_any-map}

-- ---- the statements of both sections

both_kinds : (p : NamedNet → Bool) (text : List ℕ) (ss : List NetStatement) →
    list_any p (map net_names (map (net_in text) (of_kind true ss)) ++ map net_names (map (net_in text) (of_kind false ss))) ≡ list_any (λ s. p (net_names (net_in text s))) ss
both_kinds p text ss =
    let names : NetStatement → Bool = λ s. p (net_names (net_in text s)) in
    let kind : (special : Bool) → list_any p (map net_names (map (net_in text) (of_kind special ss))) ≡ list_any names (of_kind special ss) =
    λ special. list_any-map p net_names (map (net_in text) (of_kind special ss)) ∙ list_any-map (λ n. p (net_names n)) (net_in text) (of_kind special ss) in
    list_any-append p (map net_names (map (net_in text) (of_kind true ss))) (map net_names (map (net_in text) (of_kind false ss)))
    ∙ ap (λ b. b || list_any p (map net_names (map (net_in text) (of_kind false ss)))) (kind true) ∙ ap (λ b. list_any names (of_kind true ss) || b) (kind false)
    ∙ sym (list_any-append names (of_kind true ss) (of_kind false ss))
    ∙ sym (list_any-IsPermutation names ss (of_kind true ss ++ of_kind false ss) (IsPermutation-filter_both (λ s. s.special) (λ s. not s.special) (λ s. refl) ss))

pub has_statement_is : (text name : List ℕ) (d : Design) → has_statement ((names_of (design_in text d)).special ++ (names_of (design_in text d)).nets) name ≡ names_net text name d.nets
has_statement_is text name d = both_kinds (λ s. bytes_eq s.name name) text d.nets

pub either_is : (text name : List ℕ) (d : Design) → has_statement ((names_of (design_in text d)).special ++ (names_of (design_in text d)).nets) name ≡ list_any (is_statement_of text true name) d.nets
either_is text name d = both_kinds (λ s. bytes_eq s.name name) text d.nets

pub stands_is : (text : List ℕ) (n : NewJoint) (d : Design) → stands ((names_of (design_in text d)).special ++ (names_of (design_in text d)).nets) n ≡ stands_in text n d.nets
stands_is text n d =
    both_kinds (λ s. bytes_eq s.name n.net && list_any (is_joint_of n) s.joints) text d.nets
    ∙ ap (λ f. list_any f d.nets) (fun_ext (λ (s : NetStatement). ap (λ b. bytes_eq (word_bytes text s.name) n.net && b)
    (list_any-map (is_joint_of n) joint_names (map (joint_in text) s.joints) ∙ list_any-map (λ j. is_joint_of n (joint_names j)) (joint_in text) s.joints)))

-- ---- the statements of NETS

any_kept : (p q : NetStatement → Bool) (ss : List NetStatement) → list_any p (filter q ss) ≡ list_any (λ s. q s && p s) ss
any_kept p q [] = refl
any_kept p q (s ∷ ss) = at (any_kept p q ss) (q s)
  where
    at : list_any p (filter q ss) ≡ list_any (λ t. q t && p t) ss → (b : Bool) → list_any p (if b then s ∷ filter q ss else filter q ss) ≡ ((b && p s) || list_any (λ t. q t && p t) ss)
    at rest true = ap (λ b. p s || b) rest
    at rest false = rest

pub ordinary_is : (text name : List ℕ) (d : Design) → has_statement (names_of (design_in text d)).nets name ≡ list_any (is_statement_of text false name) d.nets
ordinary_is text name d =
    list_any-map (λ s. bytes_eq s.name name) net_names (map (net_in text) (of_kind false d.nets)) ∙ list_any-map (λ n. bytes_eq (net_names n).name name) (net_in text) (of_kind false d.nets)
    ∙ any_kept (λ s. bytes_eq (word_bytes text s.name) name) (λ s. not s.special) d.nets

-- ---- nets and components

pub has_net_is : (text name : List ℕ) (d : Design) → has_net (names_of (design_in text d)) name ≡ (names_net text name d.nets || tops_net text name d.pins)
has_net_is text name d =
    ap (λ b. b || list_any (λ p. bytes_eq p.net name) (names_of (design_in text d)).pins) (has_statement_is text name d)
    ∙ ap (λ b. names_net text name d.nets || b) (list_any-map (λ p. bytes_eq p.net name) pin_names (map (pin_in text) d.pins) ∙ list_any-map (λ p. bytes_eq (pin_names p).net name) (pin_in text) d.pins)

pub has_comp_is : (text name : List ℕ) (d : Design) → has_comp (names_of (design_in text d)) name ≡ (not (is_no_component name) && names_comp text name d.comps)
has_comp_is text name d = ap (λ b. not (is_no_component name) && b) (list_any-map (λ k. bytes_eq k.name name) comp_names (map (comp_in text) d.comps) ∙ list_any-map (λ k. bytes_eq (comp_names k).name name) (comp_in text) d.comps)

-- ---- the first reason against a move

pub no_comp : (d : NamedDesign) (comp pin from to : List ℕ) → has_comp d comp ≡ false → move_fault d comp pin from to ≡ Some UnknownComponent
no_comp d comp pin from to a = rw a refl

pub not_on_net : (d : NamedDesign) (comp pin from to : List ℕ) → has_comp d comp ≡ true → stands (d.special ++ d.nets) (record { comp = comp; pin = pin; net = from }) ≡ false → move_fault d comp pin from to ≡ Some NotOnNet
not_on_net d comp pin from to a b = rw (a, b) refl

pub no_net : (d : NamedDesign) (comp pin from to : List ℕ) → has_comp d comp ≡ true → stands (d.special ++ d.nets) (record { comp = comp; pin = pin; net = from }) ≡ true → has_net d to ≡ false → move_fault d comp pin from to ≡ Some UnknownNet
no_net d comp pin from to a b e = rw (a, b, e) refl

pub no_fault : (d : NamedDesign) (comp pin from to : List ℕ) → has_comp d comp ≡ true → stands (d.special ++ d.nets) (record { comp = comp; pin = pin; net = from }) ≡ true → has_net d to ≡ true → move_fault d comp pin from to ≡ None
no_fault d comp pin from to a b e = rw (a, b, e) refl
