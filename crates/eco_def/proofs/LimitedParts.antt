-- Parts with limits beside those without.
use Rattle.std.specs.List.{flat_map}
use Rattle.std.proofs.Common.{◌≡◌, ℕ, suc, ◌+◌, ◌≤◌, Bool, true, false, not, ◌||◌, List, [], ◌∷◌, ◌++◌, length, Some, Ok, refl, ap, sym, ◌∙◌, subst, arith, length-append, append-nil, append_assoc, codes, if◌then◌else◌}
use Rattle.eco_common.specs.declared.limits.TheConstants.{MAX_COMPS, MAX_TOP_PINS}
use Rattle.eco_text.specs.Words.{Walk}
use Rattle.eco_def.specs.declared.fault.DefFault.TheVariants.{TwiceNamed, UnknownHeading}
use Rattle.eco_def.specs.declared.room.Room.{Room}
use Rattle.eco_def.specs.Parsing.{Parser, ◌>>=◌, give, any, refuse, word, valued, pass_to, pass_to_both, many, many_until, size}
use Rattle.eco_text.specs.Tokens.{is_word}
use Rattle.eco_def.specs.Design.{Comp, TopPin, Net, NetSection, Part, Passed, Units, Comps, Pins, Special, Nets}
use Rattle.eco_def.specs.Grammar.{whole_room, room_after, units, units_number, comp_section_within, comp_section, comps, pin_section_within, pin_section, top_pin, special_section_within, special_section, net_section_within, net_section, nets, section_head, section_end, passed_section, passed_up_to, Kind, CompKind, PinKind, SpecialKind, NetKind, kind_of, same_kind, have, once, part_new_within, part_new, statements_of, part_within, part, end_design, parts_within, parts}
use Rattle.eco_def.specs.Sections.{room_of}
use Rattle.eco_def.proofs.Limited.{Limited, same, refusing, as_well, then_before, Limits, limits_choose, all_limited, Gives, gives_then, gives_give, gives_choose, gives_refuse}
use Rattle.eco_def.specs.Limits.{HaveRoom, comps_in, pins_in, PartsKeep}
use Rattle.eco_def.proofs.LimitedStatements.{AtMost, limited_comp_section, limited_pin_section, limited_special_section, limited_net_section}
use Rattle.eco_def.proofs.Rooms.{joint_count-append}
use Rattle.eco_def.proofs.Parts.{statements_push}

-- ---- one part

-- a part keeps the limits, with this room for its net statements
abbrev PartKeeps : Room → Part → Type 0
PartKeeps room Passed = Unit {0}
PartKeeps room (Units n) = Unit {0}
PartKeeps room (Comps cs) = AtMost MAX_COMPS cs
PartKeeps room (Pins ps) = AtMost MAX_TOP_PINS ps
PartKeeps room (Special ns) = HaveRoom room ns
PartKeeps room (Nets s) = HaveRoom room s.nets

-- a part is no section that has stood
abbrev pub Fresh : (Kind → Bool) → Part → Type 0
Fresh seen Passed = Unit {0}
Fresh seen (Units n) = Unit {0}
Fresh seen (Comps cs) = seen CompKind ≡ false
Fresh seen (Pins ps) = seen PinKind ≡ false
Fresh seen (Special ns) = seen SpecialKind ≡ false
Fresh seen (Nets s) = seen NetKind ≡ false

gives_units : (P : Part → Type 0) → ((n : ℕ) → P (Units n)) → Gives P units
unfolding units
gives_units P each =
    gives_then P (word (codes "UNITS")) _ (λ heading. gives_then P (word (codes "DISTANCE")) _ (λ distance. gives_then P (word (codes "MICRONS")) _ (λ microns.
    gives_then P (valued units_number) _ (λ n. gives_then P (word (codes ";")) _ (λ end. gives_give P (Units n) (each n))))))

gives_passed_section : (P : Part → Type 0) → P Passed → Gives P passed_section
unfolding passed_section
gives_passed_section P holds = gives_then P any _ (λ heading. gives_then P (pass_to_both (is_word (codes "END")) (is_word heading.bytes)) _ (λ end. gives_give P Passed holds))

gives_passed_up_to : (P : Part → Type 0) (keyword : List ℕ) → P Passed → Gives P (passed_up_to keyword)
gives_passed_up_to P keyword holds = gives_then P (pass_to (is_word keyword)) _ (λ end. gives_give P Passed holds)

gives_comp_section : (P : Part → Type 0) → ((cs : List Comp) → P (Comps cs)) → Gives P comp_section
unfolding comp_section_within
gives_comp_section P each = gives_then P (section_head (codes "COMPONENTS")) _ (λ count. gives_then P comps _ (λ cs. gives_then P (section_end (codes "COMPONENTS")) _ (λ end. gives_give P (Comps cs) (each cs))))

gives_pin_section : (P : Part → Type 0) → ((ps : List TopPin) → P (Pins ps)) → Gives P pin_section
unfolding pin_section_within
gives_pin_section P each = gives_then P (section_head (codes "PINS")) _ (λ count. gives_then P (many (is_word (codes "-")) top_pin) _ (λ ps. gives_then P (section_end (codes "PINS")) _ (λ end. gives_give P (Pins ps) (each ps))))

gives_special_section : (P : Part → Type 0) → ((ns : List Net) → P (Special ns)) → Gives P special_section
unfolding special_section_within
gives_special_section P each = gives_then P (section_head (codes "SPECIALNETS")) _ (λ count. gives_then P nets _ (λ ns. gives_then P (section_end (codes "SPECIALNETS")) _ (λ end. gives_give P (Special ns) (each ns))))

gives_net_section : (P : Part → Type 0) → ((s : NetSection) → P (Nets s)) → Gives P net_section
unfolding net_section_within
gives_net_section P each = gives_then P (section_head (codes "NETS")) _ (λ count. gives_then P nets _ (λ ns. gives_then P (section_end (codes "NETS")) _ (λ end. gives_give P _ (each (record { count = count; nets = ns; end = end })))))

gives_once : (P : Part → Type 0) (seen : Kind → Bool) (kind : Kind) (section : Parser Part) → (seen kind ≡ false → Gives P section) → Gives P (once seen kind section)
gives_once P seen kind section fresh u x v is = go (seen kind) refl is
  where
    go : (b : Bool) → seen kind ≡ b → (if b then refuse TwiceNamed u else section u) ≡ Ok (x, v) → P x
    go true stood is = gives_refuse P TwiceNamed u x v is
    go false stood is = fresh stood u x v is

pub gives_fresh : (seen : Kind → Bool) → Gives (Fresh seen) (part_new seen)
unfolding part_new_within
gives_fresh seen =
    let P = Fresh seen in
    gives_choose P _ _ _ (gives_units P (λ n. tt))
    (gives_choose P _ _ _ (gives_once P seen CompKind comp_section (λ fresh. gives_comp_section P (λ cs. fresh)))
    (gives_choose P _ _ _ (gives_once P seen PinKind pin_section (λ fresh. gives_pin_section P (λ ps. fresh)))
    (gives_choose P _ _ _ (gives_once P seen SpecialKind special_section (λ fresh. gives_special_section P (λ ns. fresh)))
    (gives_choose P _ _ _ (gives_once P seen NetKind net_section (λ fresh. gives_net_section P (λ s. fresh)))
    (gives_choose P _ _ _ (gives_passed_section P tt)
    (gives_choose P _ _ _ (gives_passed_up_to P (codes ";") tt)
    (gives_choose P _ _ _ (gives_passed_up_to P (codes "ENDEXT") tt)
    (gives_refuse P UnknownHeading))))))))

limited_once : (P : Part → Type 0) (seen : Kind → Bool) (kind : Kind) (within section : Parser Part) → Limits P within section → Limits P (once seen kind within) (once seen kind section)
limited_once P seen kind within section each u = go (seen kind)
  where
    go : (b : Bool) → Limited P (if b then refuse TwiceNamed u else within u) (if b then refuse TwiceNamed u else section u)
    go true = refusing P TwiceNamed u
    go false = each u

limits_same : (P : Part → Type 0) (p : Parser Part) → Gives P p → Limits P p p
limits_same P p gives u = same P (p u) (gives u)

limited_part : (seen : Kind → Bool) (room : Room) → Limits (PartKeeps room) (part_new_within (Some room) seen) (part_new seen)
unfolding part_new_within
limited_part seen room =
    let P = PartKeeps room in
    limits_choose P _ _ _ _ _ (limits_same P units (gives_units P (λ n. tt)))
    (limits_choose P _ _ _ _ _ (limited_once P seen CompKind (comp_section_within (Some MAX_COMPS)) comp_section (limited_comp_section P (λ cs fits. fits) (λ cs fits. fits)))
    (limits_choose P _ _ _ _ _ (limited_once P seen PinKind (pin_section_within (Some MAX_TOP_PINS)) pin_section (limited_pin_section P (λ ps fits. fits) (λ ps fits. fits)))
    (limits_choose P _ _ _ _ _ (limited_once P seen SpecialKind (special_section_within (Some room)) special_section (limited_special_section P room (λ ns fits. fits) (λ ns fits. fits)))
    (limits_choose P _ _ _ _ _ (limited_once P seen NetKind (net_section_within (Some room)) net_section (limited_net_section P room (λ s fits. fits) (λ s fits. fits)))
    (limits_choose P _ _ _ _ _ (limits_same P passed_section (gives_passed_section P tt))
    (limits_choose P _ _ _ _ _ (limits_same P (passed_up_to (codes ";")) (gives_passed_up_to P (codes ";") tt))
    (limits_choose P _ _ _ _ _ (limits_same P (passed_up_to (codes "ENDEXT")) (gives_passed_up_to P (codes "ENDEXT") tt))
    (λ u. refusing P UnknownHeading u))))))))

-- ---- all parts

pub all_push : {A : Type 0} (f : Part → List A) (ps : List Part) (p : Part) → flat_map f (ps ++ p ∷ []) ≡ flat_map f ps ++ f p
all_push f [] p = append-nil (f p)
all_push f (q ∷ ps) p = ap (λ k. f q ++ k) (all_push f ps p) ∙ sym (append_assoc (f q) (flat_map f ps) (f p))

all_length : {A : Type 0} (f : Part → List A) (ps : List Part) (p : Part) → length (flat_map f (ps ++ p ∷ [])) ≡ length (flat_map f ps) + length (f p)
all_length f ps p = ap length (all_push f ps p) ∙ length-append (flat_map f ps) (f p)

room_both : (ms ns : List Net) → HaveRoom whole_room ms → HaveRoom (room_after whole_room ms) ns → HaveRoom whole_room (ms ++ ns)
room_both ms ns first more =
    let long = length-append ms ns in
    let joined = joint_count-append ms ns in
    record { nets = omega (arith, long, first.nets, more.nets); joints = omega (arith, joined, first.joints, more.joints) }

room_second : (ms ns : List Net) → HaveRoom whole_room (ms ++ ns) → HaveRoom (room_after whole_room ms) ns
room_second ms ns both =
    let long = length-append ms ns in
    let joined = joint_count-append ms ns in
    record { nets = omega (arith, long, both.nets); joints = omega (arith, joined, both.joints) }

room_first : (ms ns : List Net) → HaveRoom whole_room (ms ++ ns) → HaveRoom whole_room ms
room_first ms ns both =
    let long = length-append ms ns in
    let joined = joint_count-append ms ns in
    record { nets = omega (arith, long, both.nets); joints = omega (arith, joined, both.joints) }

pub parts_fewer : (ps : List Part) (p : Part) → PartsKeep (ps ++ p ∷ []) → PartsKeep ps
parts_fewer ps p keep =
    let comps = all_length comps_in ps p in
    let pins = all_length pins_in ps p in
    record {
      comps = omega (arith, comps, keep.comps);
      pins = omega (arith, pins, keep.pins);
      nets = room_first (flat_map statements_of ps) (statements_of p) (subst (HaveRoom whole_room) (statements_push ps p) keep.nets);
    }

-- where a kind hasn't stood, the parts have nothing of it
none_of : {A : Type 0} (f : Part → List A) (kind : Kind) → ((p : Part) → same_kind kind (kind_of p) ≡ false → f p ≡ []) → (ps : List Part) → have ps kind ≡ false → flat_map f ps ≡ []
none_of f kind each [] off = refl
none_of f kind each (p ∷ ps) off =
    let split = or_false (same_kind kind (kind_of p)) (have ps kind) off in
    ap (λ k. k ++ flat_map f ps) (each p split.0) ∙ none_of f kind each ps split.1
  where
    or_false : (a b : Bool) → (a || b) ≡ false → (a ≡ false) × (b ≡ false)
    or_false true b is = cc
    or_false false b is = (refl, is)

comps_none : (p : Part) → same_kind CompKind (kind_of p) ≡ false → comps_in p ≡ []
comps_none Passed is = refl
comps_none (Units n) is = refl
comps_none (Comps cs) is = cc
comps_none (Pins ps) is = refl
comps_none (Special ns) is = refl
comps_none (Nets s) is = refl

pins_none : (p : Part) → same_kind PinKind (kind_of p) ≡ false → pins_in p ≡ []
pins_none Passed is = refl
pins_none (Units n) is = refl
pins_none (Comps cs) is = refl
pins_none (Pins ps) is = cc
pins_none (Special ns) is = refl
pins_none (Nets s) is = refl

-- a part that keeps the limits, after parts that keep them
pub one_keeps : (before : List Part) (p : Part) → PartsKeep before → Fresh (have before) p → PartKeeps (room_of before) p → PartsKeep (before ++ p ∷ [])
one_keeps before p keep fresh fits =
    let comps = all_length comps_in before p in
    let pins = all_length pins_in before p in
    record {
      comps = few_comps p fresh fits comps;
      pins = few_pins p fresh fits pins;
      nets = subst (HaveRoom whole_room) (sym (statements_push before p)) (few_nets p fits);
    }
  where
    few_comps : (p : Part) → Fresh (have before) p → PartKeeps (room_of before) p → length (flat_map comps_in (before ++ p ∷ [])) ≡ length (flat_map comps_in before) + length (comps_in p) → length (flat_map comps_in (before ++ p ∷ [])) ≤ MAX_COMPS
    few_comps (Comps cs) fresh fits long = let none = ap length (none_of comps_in CompKind comps_none before fresh) in omega (arith, long, none, fits)
    few_comps Passed fresh fits long = omega (arith, long, keep.comps)
    few_comps (Units n) fresh fits long = omega (arith, long, keep.comps)
    few_comps (Pins ps) fresh fits long = omega (arith, long, keep.comps)
    few_comps (Special ns) fresh fits long = omega (arith, long, keep.comps)
    few_comps (Nets s) fresh fits long = omega (arith, long, keep.comps)

    few_pins : (p : Part) → Fresh (have before) p → PartKeeps (room_of before) p → length (flat_map pins_in (before ++ p ∷ [])) ≡ length (flat_map pins_in before) + length (pins_in p) → length (flat_map pins_in (before ++ p ∷ [])) ≤ MAX_TOP_PINS
    few_pins (Pins ps) fresh fits long = let none = ap length (none_of pins_in PinKind pins_none before fresh) in omega (arith, long, none, fits)
    few_pins Passed fresh fits long = omega (arith, long, keep.pins)
    few_pins (Units n) fresh fits long = omega (arith, long, keep.pins)
    few_pins (Comps cs) fresh fits long = omega (arith, long, keep.pins)
    few_pins (Special ns) fresh fits long = omega (arith, long, keep.pins)
    few_pins (Nets s) fresh fits long = omega (arith, long, keep.pins)

    same_nets : HaveRoom whole_room (flat_map statements_of before ++ [])
    same_nets = subst (HaveRoom whole_room) (sym (append-nil (flat_map statements_of before))) keep.nets

    few_nets : (p : Part) → PartKeeps (room_of before) p → HaveRoom whole_room (flat_map statements_of before ++ statements_of p)
    few_nets Passed fits = same_nets
    few_nets (Units n) fits = same_nets
    few_nets (Comps cs) fits = same_nets
    few_nets (Pins ps) fits = same_nets
    few_nets (Special ns) fits = room_both (flat_map statements_of before) ns keep.nets fits
    few_nets (Nets s) fits = room_both (flat_map statements_of before) s.nets keep.nets fits

-- a part of parts that keep the limits together
one_kept : (before : List Part) (p : Part) → PartsKeep (before ++ p ∷ []) → PartKeeps (room_of before) p
one_kept before Passed keep = tt
one_kept before (Units n) keep = tt
one_kept before (Comps cs) keep = let long = all_length comps_in before (Comps cs) in omega (arith, long, keep.comps)
one_kept before (Pins ps) keep = let long = all_length pins_in before (Pins ps) in omega (arith, long, keep.pins)
one_kept before (Special ns) keep = room_second (flat_map statements_of before) ns (subst (HaveRoom whole_room) (statements_push before (Special ns)) keep.nets)
one_kept before (Nets s) keep = room_second (flat_map statements_of before) s.nets (subst (HaveRoom whole_room) (statements_push before (Nets s)) keep.nets)

pub limited_one : (before : List Part) (u : Walk) → PartsKeep before → Limited (λ p. PartsKeep (before ++ p ∷ [])) (part_within (Some whole_room) before u) (part before u)
limited_one before u keep =
    as_well (PartKeeps (room_of before)) (λ p. PartsKeep (before ++ p ∷ [])) (part_within (Some whole_room) before u) (part before u)
    (λ p w is fits. one_keeps before p keep (gives_fresh (have before) u p w is) fits)
    (λ p w is all. one_kept before p all)
    (limited_part (have before) (room_of before) u)

pub limited_parts : (u : Walk) → Limited PartsKeep (parts_within (Some whole_room) u) (parts u)
unfolding parts_within
limited_parts u =
    then_before PartsKeep PartsKeep (many_until (is_word (codes "END")) (part_within (Some whole_room)) u) (many_until (is_word (codes "END")) part u) (λ ps. end_design >>= λ end. give ps)
    (λ ps v qs w is keep. gives_then PartsKeep end_design _ (λ end. gives_give PartsKeep ps keep) v qs w is)
    (λ ps v qs w is. gives_then (λ k. PartsKeep k → PartsKeep ps) end_design _ (λ end. gives_give (λ k. PartsKeep k → PartsKeep ps) ps (λ keep. keep)) v qs w is)
    (all_limited Part (λ w. not (is_word (codes "END") w)) (part_within (Some whole_room)) part PartsKeep parts_fewer
    (λ before v on keep. limited_one before v keep)
    (suc (size u)) [] u (record { comps = omega arith; pins = omega arith; nets = record { nets = omega arith; joints = omega arith } }))
