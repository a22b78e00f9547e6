-- Texts and their first faults, by computing the definitions.
use Rattle.std.proofs.Common.{◌≡◌, ℕ, List, ◌++◌, Result, Ok, Err, refl, codes}
use Rattle.eco_def.specs.Design.{Design}
use Rattle.eco_def.specs.Grammar.{parts_within, design_of, place, some_place, comp_clause, comp_place, comp_new_within, section_head, section_end, comp_section_within, joint_end, joint, some_use, net_clause_new, net_tail, net_new_within, special_section_within, net_section_within, units, part_new_within}
use Rattle.eco_text.specs.declared.word.TextFault.TheVariants.{OpenQuote}
use Rattle.eco_def.specs.declared.fault.DefFault.{DefFault}
use Rattle.eco_def.specs.declared.fault.DefFault.TheVariants.{Text, Unended, BadStatement, TwiceNamed, MustJoin, UnknownHeading, Missing}
use Rattle.eco_def.specs.declared.fault.Section.TheVariants.{Units as NoUnits, Nets as NoNets}

abbrev IsFault : Result Design DefFault → DefFault → Type 0
IsFault (Ok d) f = ⊥
IsFault (Err e) f = e ≡ f

abbrev cut_text : List ℕ
cut_text = codes "UNITS DISTANCE MICRONS 1000 ; COMPONENTS 0 ; END COMPONENTS NETS 1 ; - a ( PIN"

unended : IsFault (design_of (cut_text)) (Unended 78)
unfolding parts_within part_new_within units comp_section_within section_head section_end net_section_within net_new_within joint special_section_within net_tail net_clause_new some_use place some_place comp_clause comp_place comp_new_within joint_end
unended = refl

open_quote : IsFault (design_of (cut_text ++ codes " \"x")) (Text (OpenQuote 79))
unfolding parts_within part_new_within units comp_section_within section_head section_end net_section_within net_new_within joint special_section_within net_tail net_clause_new some_use place some_place comp_clause comp_place comp_new_within joint_end
open_quote = refl

comment_end : IsFault (design_of (cut_text ++ codes " # x")) (Unended 82)
unfolding parts_within part_new_within units comp_section_within section_head section_end net_section_within net_new_within joint special_section_within net_tail net_clause_new some_use place some_place comp_clause comp_place comp_new_within joint_end
comment_end = refl

bad_first : IsFault (design_of (codes "UNITS DISTANCE MICRONS 0 ; \"x")) (BadStatement 23)
unfolding parts_within part_new_within units comp_section_within section_head section_end net_section_within net_new_within joint special_section_within net_tail net_clause_new some_use place some_place comp_clause comp_place comp_new_within joint_end
bad_first = refl

leading_zero : IsFault (design_of (codes "UNITS DISTANCE MICRONS 01 ;")) (BadStatement 23)
unfolding parts_within part_new_within units comp_section_within section_head section_end net_section_within net_new_within joint special_section_within net_tail net_clause_new some_use place some_place comp_clause comp_place comp_new_within joint_end
leading_zero = refl

unknown : IsFault (design_of (codes "EXTRA 1 ;")) (UnknownHeading 0)
unfolding parts_within part_new_within units comp_section_within section_head section_end net_section_within net_new_within joint special_section_within net_tail net_clause_new some_use place some_place comp_clause comp_place comp_new_within joint_end
unknown = refl

end_other : IsFault (design_of (codes "END x")) (UnknownHeading 0)
unfolding parts_within part_new_within units comp_section_within section_head section_end net_section_within net_new_within joint special_section_within net_tail net_clause_new some_use place some_place comp_clause comp_place comp_new_within joint_end
end_other = refl

end_only : IsFault (design_of (codes "END ")) (Unended 4)
unfolding parts_within part_new_within units comp_section_within section_head section_end net_section_within net_new_within joint special_section_within net_tail net_clause_new some_use place some_place comp_clause comp_place comp_new_within joint_end
end_only = refl

must_join : IsFault (design_of (codes "NETS 1 ; - MUSTJOIN ( u1 A ) ;")) (MustJoin 11)
unfolding parts_within part_new_within units comp_section_within section_head section_end net_section_within net_new_within joint special_section_within net_tail net_clause_new some_use place some_place comp_clause comp_place comp_new_within joint_end
must_join = refl

twice : IsFault (design_of (codes "NETS 1 ; - a ; - a ( ; ")) (TwiceNamed 17)
unfolding parts_within part_new_within units comp_section_within section_head section_end net_section_within net_new_within joint special_section_within net_tail net_clause_new some_use place some_place comp_clause comp_place comp_new_within joint_end
twice = refl

twice_section : IsFault (design_of (codes "NETS 1 ; END NETS NETS")) (TwiceNamed 18)
unfolding parts_within part_new_within units comp_section_within section_head section_end net_section_within net_new_within joint special_section_within net_tail net_clause_new some_use place some_place comp_clause comp_place comp_new_within joint_end
twice_section = refl

no_nets : IsFault (design_of (codes "UNITS DISTANCE MICRONS 1 ; COMPONENTS 0 ; END COMPONENTS END DESIGN")) (Missing NoNets)
unfolding parts_within part_new_within units comp_section_within section_head section_end net_section_within net_new_within joint special_section_within net_tail net_clause_new some_use place some_place comp_clause comp_place comp_new_within joint_end
no_nets = refl

no_units : IsFault (design_of (codes "NETS 0 ; END NETS END DESIGN")) (Missing NoUnits)
unfolding parts_within part_new_within units comp_section_within section_head section_end net_section_within net_new_within joint special_section_within net_tail net_clause_new some_use place some_place comp_clause comp_place comp_new_within joint_end
no_units = refl
