-- The issued text of a text with a design.
use Rattle.std.proofs.Common.{◌≡◌, ℕ, List, map, Result, Ok, Err, Option, Some, None, refl, ap, sym, ◌∙◌}
use Rattle.std.specs.List.{flat_map}
use Rattle.eco_text.specs.Words.{Walk, walk_of}
use Rattle.eco_common.specs.Options.{first_some}
use Rattle.eco_def.specs.Design.{Comp, NetSection, Part, Nets, Design}
use Rattle.eco_def.specs.Named.{names_of}
use Rattle.eco_def.specs.Grammar.{parts, units_of, pins_of, special_of, or_none, comps_of, nets_of, last_some, design_from, design_read, design_of}
use Rattle.eco_issued_laws.specs.Changes.{Changes}
use Rattle.eco_issued_laws.specs.Issued.{edited, edits, issued_design}
use Rattle.eco_issued_laws.proofs.Faults.{Fault}
use Rattle.eco_issued_laws.proofs.Allowed.{ChangesOk, Allows}
use Rattle.eco_issued_laws.proofs.PartEdits.{part_edits, both_edits}
use Rattle.eco_issued_laws.proofs.Whole.{reads_back_parts}
use Rattle.eco_issued_laws.proofs.Once.{allows_parts}
use Rattle.eco_issued_laws.proofs.Edits.{edits_of_parts}

no_design : {k : Fault} {d : Design} → (◌≡◌ {A = Result Design Fault} (Err k) (Ok d)) → ⊥
no_design e = cc

ok_is : {k d : Design} → (◌≡◌ {A = Result Design Fault} (Ok k) (Ok d)) → k ≡ d
ok_is e = cc

nets_from : (ps : List Part) (n : Option ℕ) (c : Option (List Comp)) (t : Option NetSection) (d : Design) → design_from ps n c t ≡ Ok d → t ≡ Some d.nets
nets_from ps None c t d e = absurd (no_design e)
nets_from ps (Some n) None t d e = absurd (no_design e)
nets_from ps (Some n) (Some c) None d e = absurd (no_design e)
nets_from ps (Some n) (Some c) (Some s) d e = ap (λ k. Some k.nets) (ok_is e)

special_from : (ps : List Part) (n : Option ℕ) (c : Option (List Comp)) (t : Option NetSection) (d : Design) → design_from ps n c t ≡ Ok d → or_none (first_some (map special_of ps)) ≡ d.special
special_from ps None c t d e = absurd (no_design e)
special_from ps (Some n) None t d e = absurd (no_design e)
special_from ps (Some n) (Some c) None d e = absurd (no_design e)
special_from ps (Some n) (Some c) (Some s) d e = ap (λ k. k.special) (ok_is e)

pins_from : (ps : List Part) (n : Option ℕ) (c : Option (List Comp)) (t : Option NetSection) (d : Design) → design_from ps n c t ≡ Ok d → or_none (first_some (map pins_of ps)) ≡ d.pins
pins_from ps None c t d e = absurd (no_design e)
pins_from ps (Some n) None t d e = absurd (no_design e)
pins_from ps (Some n) (Some c) None d e = absurd (no_design e)
pins_from ps (Some n) (Some c) (Some s) d e = ap (λ k. k.pins) (ok_is e)

comps_from : (ps : List Part) (n : Option ℕ) (c : Option (List Comp)) (t : Option NetSection) (d : Design) → design_from ps n c t ≡ Ok d → or_none c ≡ d.comps
comps_from ps None c t d e = absurd (no_design e)
comps_from ps (Some n) None t d e = absurd (no_design e)
comps_from ps (Some n) (Some c) None d e = absurd (no_design e)
comps_from ps (Some n) (Some c) (Some s) d e = ap (λ k. k.comps) (ok_is e)

units_from : (ps : List Part) (n : Option ℕ) (c : Option (List Comp)) (t : Option NetSection) (d : Design) → design_from ps n c t ≡ Ok d → n ≡ Some d.units
units_from ps None c t d e = absurd (no_design e)
units_from ps (Some n) None t d e = absurd (no_design e)
units_from ps (Some n) (Some c) None d e = absurd (no_design e)
units_from ps (Some n) (Some c) (Some s) d e = ap (λ k. Some k.units) (ok_is e)

-- the parts of a text with a design
pub record PartsOf (text : List ℕ) (o : Changes) (d : Design) : Type 0 where
  pub parts_are : List Part
  pub rest : Walk
  pub read : parts (walk_of text) ≡ Ok (parts_are, rest)
  pub units_is : last_some (map units_of parts_are) ≡ Some d.units
  pub comps_are : or_none (first_some (map comps_of parts_are)) ≡ d.comps
  pub pins_are : or_none (first_some (map pins_of parts_are)) ≡ d.pins
  pub nets_is : first_some (map nets_of parts_are) ≡ Some d.nets
  pub edits_same : edits text o d ≡ flat_map (part_edits text o) parts_are

pub parts_of : (text : List ℕ) (o : Changes) (d : Design) → design_of text ≡ Ok d → PartsOf text o d
parts_of text o d is = go (parts (walk_of text)) refl
  where
    go : (z : Result (List Part × Walk) Fault) → parts (walk_of text) ≡ z → PartsOf text o d
    go (Err k) e = absurd (no_design (ap design_read (sym e) ∙ is))
    go (Ok x) e =
        let whole = ap design_read (sym e) ∙ is in
        let found = nets_from x.0 (last_some (map units_of x.0)) (first_some (map comps_of x.0)) (first_some (map nets_of x.0)) d whole in
        let special = special_from x.0 (last_some (map units_of x.0)) (first_some (map comps_of x.0)) (first_some (map nets_of x.0)) d whole in
        record {
          parts_are = x.0;
          rest = x.1;
          read = e;
          units_is = units_from x.0 (last_some (map units_of x.0)) (first_some (map comps_of x.0)) (first_some (map nets_of x.0)) d whole;
          comps_are = comps_from x.0 (last_some (map units_of x.0)) (first_some (map comps_of x.0)) (first_some (map nets_of x.0)) d whole;
          pins_are = pins_from x.0 (last_some (map units_of x.0)) (first_some (map comps_of x.0)) (first_some (map nets_of x.0)) d whole;
          nets_is = found;
          edits_same = ap (λ k. both_edits text o k d.nets) (sym special) ∙ sym (edits_of_parts text o x.0 x.1 e d.nets found);
        }

pub changes_read_back : (text : List ℕ) (o : Changes) (d : Design) → ChangesOk o → design_of text ≡ Ok d → Allows o (Nets d.nets) →
    (e : Design) × (design_of (edited text 0 (edits text o d)) ≡ Ok e) × (names_of e ≡ issued_design o (names_of d))
changes_read_back text o d fine is a =
    let p = parts_of text o d is in
    let m = reads_back_parts text o fine p.parts_are p.rest p.read (allows_parts text o p.parts_are p.rest p.read d.nets p.nets_is a) d is in
    (m.0, ap (λ k. design_of (edited text 0 k)) p.edits_same ∙ m.1, m.2)
