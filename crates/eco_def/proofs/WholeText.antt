-- The parts of a whole text, and the design that they give.
use Rattle.std.specs.Option.{option_map}
use Rattle.std.specs.List.{filter}
use Rattle.std.proofs.Common.{◌≡◌, ◌⊎◌, inl, inr, ℕ, ◌≤◌, Bool, true, false, not, List, [], ◌++◌, length, map, Option, Some, None, IfOk, IfErr, IfSome, Result, Ok, Err, refl, ap, sym, ◌∙◌, subst, arith, append-nil, codes}
use Rattle.eco_common.specs.declared.limits.TheConstants.{MAX_DEF_BYTES}
use Rattle.eco_text.specs.Words.{Token, Walk, walk_of}
use Rattle.eco_def.specs.declared.fault.DefFault.{DefFault}
use Rattle.eco_def.specs.declared.fault.DefFault.TheVariants.{Memory}
use Rattle.eco_def.specs.declared.part.Sections.{Sections}
use Rattle.eco_def.specs.declared.part.NetSection.{NetSection}
use Rattle.eco_def.specs.declared.design.Comp.{Comp}
use Rattle.eco_def.specs.declared.design.Design.{Design}
use Rattle.eco_def.specs.declared.design.NetStatement.{NetStatement}
use Rattle.eco_def.specs.Design as said
use Rattle.eco_def.specs.Parsing.{◌>>=◌, then_read, give, many_until}
use Rattle.eco_def.specs.Grammar.{end_design, last_some, or_none, units_of, comps_of, pins_of, special_of, nets_of, design_from, parts_design, design_read, whole_room, part_within, parts_within, reading_of}
use Rattle.eco_text.specs.Tokens.{is_word}
use Rattle.eco_common.specs.Options.{first_some}
use Rattle.eco_def.specs.View.{comp_in, pin_in, net_in, design_in}
use Rattle.eco_def.specs.Reading.{Reading, left, IsInOrder, Refuses}
use Rattle.eco_def.specs.Sections.{AreOf, section_in, IsOfSections, missing_of, both, SectionsLie, StatementsLie, AreSpecial, AreOrdinary, DesignLies, SpecialFirst, NetsFirst, IsReadingOf}
use Rattle.eco_def.specs.Answers.{Answers}
use Rattle.eco_def.proofs.PassedOver.{refuses_as, refused}
use Rattle.eco_def.proofs.Placing.{room, placed_wider}
use Rattle.eco_def.proofs.Lying.{section_wider}
use Rattle.eco_def.proofs.WalkOrder.{words_in_order}
use Rattle.eco_def.proofs.Designs.{special_of_both, ordinary_of_both}
use Rattle.eco_def.proofs.LimitLaws.{limits_kept}

abbrev the_parts : Walk → Result (List said.Part × Walk) DefFault
the_parts = many_until (is_word (codes "END")) (part_within (Some whole_room))

-- ---- all parts and their end

pub parts_stuck : (u : Walk) (e : DefFault) → Refuses (the_parts u) e → Refuses (parts_within (Some whole_room) u) e
unfolding parts_within
parts_stuck u e is = refuses_as (the_parts u) (parts_within (Some whole_room) u) e (λ k failed. ap (λ r. then_read r (λ ps. end_design >>= λ end. give ps)) failed) is

pub end_stuck : (u v : Walk) (ps : List said.Part) (e : DefFault) → the_parts u ≡ Ok (ps, v) → Refuses (end_design v) e → Refuses (parts_within (Some whole_room) u) e
unfolding parts_within
end_stuck u v ps e read is = refuses_as (end_design v) (parts_within (Some whole_room) u) e (λ k failed. ap (λ r. then_read r (λ ps. end_design >>= λ end. give ps)) read ∙ ap (λ r. then_read r (λ end. give ps)) failed) is

pub parts_read : (u v w : Walk) (ps : List said.Part) (end : Token) → the_parts u ≡ Ok (ps, v) → end_design v ≡ Ok (end, w) → parts_within (Some whole_room) u ≡ Ok (ps, w)
unfolding parts_within
parts_read u v w ps end read ends = ap (λ r. then_read r (λ ps. end_design >>= λ end. give ps)) read ∙ ap (λ r. then_read r (λ end. give ps)) ends

pub lie_on : (start now new : Reading) (s : Sections) → ((lo hi : ℕ) → IsInOrder lo hi (left now) → IsInOrder lo hi (left new)) → SectionsLie start now s → SectionsLie start new s
lie_on start now new s order lie = record { lie = λ lo hi o. let l = lie.lie lo hi o in (l.0, l.1, order l.0 hi l.2); special = lie.special; ordinary = lie.ordinary }

-- ---- the design

or_none_map : {A B : Type 0} (f : A → B) (o : Option (List A)) → or_none (option_map (λ xs. map f xs) o) ≡ map f (or_none o)
or_none_map f None = refl
or_none_map f (Some xs) = refl

special_or_none : (o : Option (List NetStatement)) → IfSome o AreSpecial → AreSpecial (or_none o)
special_or_none None a = tt
special_or_none (Some ss) a = a

-- the sections' design is that of the parts
design_is : (text : List ℕ) (s : Sections) (ps : List said.Part) (d : Design) (is : IsOfSections s d) → AreOf text s ps → AreSpecial (or_none s.special) → AreOrdinary is.ordinary → parts_design ps ≡ Ok (design_in text d)
design_is text s ps d is a special ordinary =
    let section : NetSection = record { count = d.net_count; nets = is.ordinary; end = d.nets_end } in
    let units : last_some (map units_of ps) ≡ Some d.units = sym a.units ∙ is.units in
    let comps : first_some (map comps_of ps) ≡ Some (map (comp_in text) d.comps) = sym a.comps ∙ ap (option_map (λ cs. map (comp_in text) cs)) is.comps in
    let nets : first_some (map nets_of ps) ≡ Some (section_in text section) = sym a.nets ∙ ap (option_map (section_in text)) is.section in
    let pins : or_none (first_some (map pins_of ps)) ≡ map (pin_in text) d.pins = ap or_none (sym a.pins) ∙ or_none_map (pin_in text) s.pins ∙ ap (map (pin_in text)) (sym is.pins) in
    let specials : or_none (first_some (map special_of ps)) ≡ map (net_in text) (filter (λ s. s.special) d.nets) =
    ap or_none (sym a.special) ∙ or_none_map (net_in text) s.special ∙ ap (map (net_in text)) (sym (ap (filter (λ s. s.special)) is.nets ∙ special_of_both s.special_first (or_none s.special) is.ordinary special ordinary)) in
    let ordinaries : map (net_in text) is.ordinary ≡ map (net_in text) (filter (λ s. not s.special) d.nets) =
    ap (map (net_in text)) (sym (ap (filter (λ s. not s.special)) is.nets ∙ ordinary_of_both s.special_first (or_none s.special) is.ordinary special ordinary)) in
    ap (λ o. design_from ps o (first_some (map comps_of ps)) (first_some (map nets_of ps))) units
    ∙ ap (λ o. design_from ps (Some d.units) o (first_some (map nets_of ps))) comps
    ∙ ap (λ o. design_from ps (Some d.units) (Some (map (comp_in text) d.comps)) o) nets
    ∙ ap Ok (rw (pins, specials, ordinaries) refl)

missing_is : (text : List ℕ) (ps : List said.Part) (units : Option ℕ) (comps : Option (List Comp)) (nets : Option NetSection) (e : DefFault) → missing_of units comps nets ≡ Some e →
    design_from ps units (option_map (λ cs. map (comp_in text) cs) comps) (option_map (section_in text) nets) ≡ Err e
missing_is text ps None comps nets e is = cc
missing_is text ps (Some n) None nets e is = cc
missing_is text ps (Some n) (Some cs) None e is = cc
missing_is text ps (Some n) (Some cs) (Some ns) e is = cc

-- where the statements lie
lies_in : (text : List ℕ) (at : ℕ) (s : Sections) (d : Design) (is : IsOfSections s d) → at ≤ length text → (special : Option (List NetStatement)) → s.special ≡ special → AreSpecial (or_none special) → AreOrdinary is.ordinary → (first : Bool) → s.special_first ≡ first →
    StatementsLie first 0 at special (let section : NetSection = record { count = d.net_count; nets = is.ordinary; end = d.nets_end } in Some section) → DesignLies (length text) d
lies_in text at s d is within None none special ordinary first same lies =
    let section : NetSection = record { count = d.net_count; nets = is.ordinary; end = d.nets_end } in
    SpecialFirst 0 [] is.ordinary (is.nets ∙ ap (λ o. both s.special_first (or_none o) is.ordinary) none ∙ alone s.special_first) tt ordinary (omega arith) (section_wider 0 at 0 (length text) section (omega arith) within lies)
  where
    alone : (first : Bool) → both first [] is.ordinary ≡ is.ordinary
    alone true = refl
    alone false = append-nil is.ordinary
lies_in text at s d is within (Some ss) some special ordinary true same lies =
    let section : NetSection = record { count = d.net_count; nets = is.ordinary; end = d.nets_end } in
    SpecialFirst lies.0 ss is.ordinary (is.nets ∙ ap (λ b. both b (or_none s.special) is.ordinary) same ∙ ap (λ o. or_none o ++ is.ordinary) some) special ordinary lies.1 (section_wider lies.0 at lies.0 (length text) section (omega arith) within lies.2)
lies_in text at s d is within (Some ss) some special ordinary false same lies =
    NetsFirst lies.0 is.ordinary ss (is.nets ∙ ap (λ b. both b (or_none s.special) is.ordinary) same ∙ ap (λ o. is.ordinary ++ or_none o) some) ordinary special lies.1 (placed_wider lies.0 at lies.0 (length text) ss (omega arith) within lies.2)

-- ---- the answer

pub failed_answer : (text : List ℕ) (u : Walk) (e : DefFault) → u ≡ walk_of text → Refuses (parts_within (Some whole_room) u) e → Answers text (Err e)
failed_answer text u e start is = refuses_as (parts_within (Some whole_room) u) (reading_of text) e (λ k failed. ap (λ v. design_read (parts_within (Some whole_room) v)) (sym start) ∙ ap design_read failed) is

read_answer : (text : List ℕ) (old new : Reading) (s : Sections) (ps : List said.Part) (d : Design) → length text ≤ MAX_DEF_BYTES → left old ≡ walk_of text → AreOf text s ps → parts_within (Some whole_room) (left old) ≡ Ok (ps, left new) → SectionsLie old new s → IsOfSections s d → IsReadingOf text d
read_answer text old new s ps d short start a read lie is =
    let special = special_or_none s.special lie.special in
    let ordinary : AreOrdinary is.ordinary = subst (λ o. IfSome o (λ ns. AreOrdinary ns.nets)) is.section lie.ordinary in
    let gives : reading_of text ≡ Ok (design_in text d) = ap (λ u. design_read (parts_within (Some whole_room) u)) (sym start) ∙ ap design_read read ∙ design_is text s ps d is a special ordinary in
    let kept = limits_kept text (design_in text d) gives in
    let l = lie.lie 0 (length text) (subst (IsInOrder 0 (length text)) (sym start) (words_in_order text)) in
    record {
      short = short;
      read = kept.0;
      limits = kept.1;
      lies = lies_in text l.0 s d is (room l.0 (length text) (left new) l.2) s.special refl special ordinary s.special_first refl (subst (λ o. StatementsLie s.special_first 0 l.0 s.special o) is.section l.1);
    }

missing_answer : (text : List ℕ) (old new : Reading) (s : Sections) (ps : List said.Part) (e : DefFault) → left old ≡ walk_of text → AreOf text s ps → parts_within (Some whole_room) (left old) ≡ Ok (ps, left new) → (e ≡ Memory) ⊎ (missing_of s.units s.comps s.nets ≡ Some e) → Refuses (reading_of text) e
missing_answer text old new s ps e start a read (inl none) = rw none tt
missing_answer text old new s ps e start a read (inr is) =
    refused (reading_of text) e (ap (λ u. design_read (parts_within (Some whole_room) u)) (sym start) ∙ ap design_read read
    ∙ ap (λ o. design_from ps o (first_some (map comps_of ps)) (first_some (map nets_of ps))) (sym a.units)
    ∙ ap (λ o. design_from ps s.units o (first_some (map nets_of ps))) (sym a.comps)
    ∙ ap (λ o. design_from ps s.units (option_map (λ cs. map (comp_in text) cs) s.comps) o) (sym a.nets)
    ∙ missing_is text ps s.units s.comps s.nets e is)

pub answer : (text : List ℕ) (old new : Reading) (s : Sections) (ps : List said.Part) (r : Result Design DefFault) → length text ≤ MAX_DEF_BYTES → old.text ≡ text → left old ≡ walk_of text → AreOf old.text s ps → parts_within (Some whole_room) (left old) ≡ Ok (ps, left new) → SectionsLie old new s →
    IfOk r (IsOfSections s) → IfErr r (λ e. (e ≡ Memory) ⊎ (missing_of s.units s.comps s.nets ≡ Some e)) → Answers text r
answer text old new s ps (Ok d) short same start a read lie is missing = read_answer text old new s ps d short start (subst (λ t. AreOf t s ps) same a) read lie is
answer text old new s ps (Err e) short same start a read lie is missing = missing_answer text old new s ps e start (subst (λ t. AreOf t s ps) same a) read missing
