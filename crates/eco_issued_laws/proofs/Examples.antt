-- The issued text of a small text, by computing the definitions.
use Rattle.std.proofs.Common.{◌≡◌, ℕ, Bool, true, false, List, [], ◌∷◌, ◌++◌, map, Result, Ok, Err, refl, codes}
use Rattle.std.specs.List.{IsDistinct}
use Rattle.std.specs.Fmt.{digits}
use Rattle.eco_def.specs.Design.{Design}
use Rattle.eco_def.specs.Named.{NamedNet, names_of}
use Rattle.eco_def.specs.Grammar.{parts_within, design_of, place, some_place, comp_clause, comp_place, comp_new_within, section_head, section_end, comp_section_within, joint_end, joint, some_use, net_clause_new, net_tail, net_new_within, special_section_within, net_section_within, units, pin_net, pin_dir, pin_use, pin_clause, pin_clauses, pin_named, top_pin_new_within, pin_section_within, passed_section, part_new_within}
use Rattle.eco_issued_laws.specs.Changes.{NewJoint}
use Rattle.eco_issued_laws.specs.Issued.{issued_text}
use Rattle.eco_text.specs.Tokens.{can_name}
use Rattle.eco_issued_laws.specs.ReadingBack.{CanGet}
use Rattle.eco_issued_laws.proofs.Faults.{Fault}

abbrev issued_of : List ℕ → Result Design Fault → List NewJoint → List (List ℕ) → List ℕ
issued_of text (Ok d) joints nets = issued_text text d joints nets
issued_of text (Err e) joints nets = []

-- the text up to SPECIALNETS
abbrev head_text : List ℕ
head_text = codes "UNITS DISTANCE MICRONS 1 ; COMPONENTS 0 ; END COMPONENTS SPECIALNETS 2 ; "

abbrev base_text : List ℕ
base_text = head_text ++ codes "- VDD ( * VDD ) + USE POWER ; - VSS ( SP_1 A ) ( SP_1 B ) + USE GROUND ; END SPECIALNETS NETS 2 ; - n1 ( u1 Y ) ; - n2 ( u2 Y ) ( r1 D ) + ROUTED M1 ; END NETS END DESIGN"

-- a gate on a spare: one input tied, one on a net, its output on a new net that drives a pin that is moved
abbrev gate_joints : List NewJoint
gate_joints =
    record { comp = codes "SP_1"; pin = codes "A"; net = codes "VDD" }
    ∷ record { comp = codes "SP_1"; pin = codes "B"; net = codes "n1" }
    ∷ record { comp = codes "SP_1"; pin = codes "Y"; net = codes "m1" }
    ∷ record { comp = codes "r1"; pin = codes "D"; net = codes "m1" }
    ∷ []

with_gate : issued_of base_text (design_of base_text) gate_joints (codes "m1" ∷ []) ≡
    head_text ++ codes "- VDD ( * VDD ) ( SP_1 A ) + USE POWER ; - VSS + USE GROUND ; END SPECIALNETS NETS 3 ; - n1 ( u1 Y ) ( SP_1 B ) ; - n2 ( u2 Y ) ; - m1 ( SP_1 Y ) ( r1 D ) ;\nEND NETS END DESIGN"
unfolding parts_within part_new_within units comp_section_within section_head section_end net_section_within net_new_within joint special_section_within net_tail net_clause_new some_use place some_place comp_clause comp_place comp_new_within joint_end digits
with_gate = refl

abbrev fits : Result Design Fault → List NewJoint → List (List ℕ) → Type 0
fits (Ok d) joints nets = CanGet d joints nets
fits (Err e) joints nets = ⊥

gate_fits : fits (design_of base_text) gate_joints (codes "m1" ∷ [])
unfolding parts_within part_new_within units comp_section_within section_head section_end net_section_within net_new_within joint special_section_within net_tail net_clause_new some_use place some_place comp_clause comp_place comp_new_within joint_end IsDistinct
gate_fits = record { count = refl; pins = refl; names = refl; new = refl; distinct = (tt, tt); ordinary = refl }

-- ---- what NETS then says

abbrev nets_in : Result Design Fault → List NamedNet
nets_in (Ok d) = (names_of d).nets
nets_in (Err e) = []

abbrev net_names_in : Result Design Fault → List (List ℕ)
net_names_in d = map (λ n. n.name) (nets_in d)

gate_nets : net_names_in (design_of (issued_of base_text (design_of base_text) gate_joints (codes "m1" ∷ []))) ≡ codes "n1" ∷ codes "n2" ∷ codes "m1" ∷ []
unfolding parts_within part_new_within units comp_section_within section_head section_end net_section_within net_new_within joint special_section_within net_tail net_clause_new some_use place some_place comp_clause comp_place comp_new_within joint_end digits
gate_nets = refl

-- ---- comments, quoted words, and a net that only a top pin names

abbrev written_text : List ℕ
written_text =
    codes "BUSBITCHARS \"[]\" ;\nUNITS DISTANCE MICRONS 1 ; # by hand\nCOMPONENTS 1 ;\n- u1 NAND2 + PROPERTY note \"a ; b\" + PLACED ( -5 0 ) N ;\nEND COMPONENTS\n"
    ++ (codes "PINS 1 ;\n- q + NET q + DIRECTION OUTPUT ;\nEND PINS\n" ++ (codes "NETS 1 ;\n- n1 ( u1 # Y\n Y + SYNTHESIZED ) ( u2 A ) + USE SIGNAL + USE \"x\" ;\nEND NETS\nEND DESIGN\nrest \"\n"))

abbrev top_joints : List NewJoint
top_joints = record { comp = codes "u1"; pin = codes "Z"; net = codes "q" } ∷ record { comp = codes "u2"; pin = codes "A"; net = codes "q" } ∷ []

with_first_statement : issued_of written_text (design_of written_text) top_joints [] ≡
    codes "BUSBITCHARS \"[]\" ;\nUNITS DISTANCE MICRONS 1 ; # by hand\nCOMPONENTS 1 ;\n- u1 NAND2 + PROPERTY note \"a ; b\" + PLACED ( -5 0 ) N ;\nEND COMPONENTS\n"
    ++ (codes "PINS 1 ;\n- q + NET q + DIRECTION OUTPUT ;\nEND PINS\n" ++ codes "NETS 2 ;\n- n1 ( u1 # Y\n Y + SYNTHESIZED ) + USE SIGNAL ;\n- q ( u1 Z ) ( u2 A ) ;\nEND NETS\nEND DESIGN\nrest \"\n")
unfolding parts_within part_new_within units comp_section_within section_head section_end net_section_within net_new_within joint special_section_within net_tail net_clause_new some_use place some_place comp_clause comp_place comp_new_within joint_end pin_net pin_dir pin_use pin_clause pin_clauses pin_named top_pin_new_within pin_section_within passed_section digits
with_first_statement = refl

top_fits : fits (design_of written_text) top_joints []
unfolding parts_within part_new_within units comp_section_within section_head section_end net_section_within net_new_within joint special_section_within net_tail net_clause_new some_use place some_place comp_clause comp_place comp_new_within joint_end pin_net pin_dir pin_use pin_clause pin_clauses pin_named top_pin_new_within pin_section_within passed_section IsDistinct
top_fits = record { count = refl; pins = refl; names = refl; new = refl; distinct = (tt, tt); ordinary = refl }

-- ---- NETS before SPECIALNETS

abbrev nets_first_text : List ℕ
nets_first_text = codes "UNITS DISTANCE MICRONS 1 ; COMPONENTS 0 ; END COMPONENTS NETS 1 ; - n1 ( u1 A ) ; END NETS SPECIALNETS 1 ; - VDD ( * VDD ) + SHAPE x ; END SPECIALNETS END DESIGN"

abbrev tie_joints : List NewJoint
tie_joints = record { comp = codes "u1"; pin = codes "A"; net = codes "VDD" } ∷ []

tied_behind : issued_of nets_first_text (design_of nets_first_text) tie_joints [] ≡
    codes "UNITS DISTANCE MICRONS 1 ; COMPONENTS 0 ; END COMPONENTS NETS 1 ; - n1 ; END NETS SPECIALNETS 1 ; - VDD ( * VDD ) ( u1 A ) + SHAPE x ; END SPECIALNETS END DESIGN"
unfolding parts_within part_new_within units comp_section_within section_head section_end net_section_within net_new_within joint special_section_within net_tail net_clause_new some_use place some_place comp_clause comp_place comp_new_within joint_end digits
tied_behind = refl

-- ---- what can't be printed as a name

no_comment : can_name (codes "#n") ≡ false
no_comment = refl

no_quoted_word : can_name (codes "\"n") ≡ false
no_quoted_word = refl

no_mark : can_name (codes "+") ≡ false
no_mark = refl

a_mark_within : can_name (codes "a+") ≡ true
a_mark_within = refl

-- A quoted count word may stand right before the next word, and a printed one may not.
abbrev quoted_text : List ℕ
quoted_text = codes "UNITS DISTANCE MICRONS 1 ; COMPONENTS 0 ; END COMPONENTS NETS \"0\"; END NETS END DESIGN"

abbrev has_design : Result Design Fault → Bool
has_design (Ok d) = true
has_design (Err e) = false

quoted_count : has_design (design_of quoted_text) ≡ true
unfolding parts_within part_new_within units comp_section_within section_head section_end net_section_within net_new_within joint special_section_within net_tail net_clause_new some_use place some_place comp_clause comp_place comp_new_within joint_end digits
quoted_count = refl

quoted_count_is_lost : has_design (design_of (issued_of quoted_text (design_of quoted_text) [] (codes "m1" ∷ []))) ≡ false
unfolding parts_within part_new_within units comp_section_within section_head section_end net_section_within net_new_within joint special_section_within net_tail net_clause_new some_use place some_place comp_clause comp_place comp_new_within joint_end digits
quoted_count_is_lost = refl

-- A new net that has a statement in NETS, or is MUSTJOIN, isn't read back.
second_statement : has_design (design_of (issued_of base_text (design_of base_text) [] (codes "n1" ∷ []))) ≡ false
unfolding parts_within part_new_within units comp_section_within section_head section_end net_section_within net_new_within joint special_section_within net_tail net_clause_new some_use place some_place comp_clause comp_place comp_new_within joint_end digits
second_statement = refl

must_join : has_design (design_of (issued_of base_text (design_of base_text) [] (codes "MUSTJOIN" ∷ []))) ≡ false
unfolding parts_within part_new_within units comp_section_within section_head section_end net_section_within net_new_within joint special_section_within net_tail net_clause_new some_use place some_place comp_clause comp_place comp_new_within joint_end digits
must_join = refl
