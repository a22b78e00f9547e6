-- What was read at the top level, part by part.
use Rattle.std.specs.Prelude.{◌≡◌, ℕ, ◌-◌, ◌<◌, ◌≤◌, Bool, true, false, List, [], ◌∷◌, ◌++◌, length, map, sum_by, Option, Some, None, is_some, is_none, IfSome, Result, Ok, Err, OnOk, IfOk, codes}
use Rattle.std.specs.Option.{option_map}
use Rattle.std.specs.List.{flat_map}
use Rattle.eco_common.specs.declared.limits.TheConstants.{MAX_DEF_BYTES}
use Rattle.eco_text.specs.Words.{Walk}
use Rattle.eco_text.specs.Cursor.{token}
use Rattle.eco_text.specs.declared.word.Word.{Word}
use Rattle.eco_def.specs.declared.design.NetStatement.{NetStatement}
use Rattle.eco_def.specs.declared.part.NetSection.{NetSection}
use Rattle.eco_def.specs.declared.part.Part.{Part}
use Rattle.eco_def.specs.declared.part.Part.TheVariants.{Passed, Units, Comps, Pins, Special, Nets}
use Rattle.eco_def.specs.declared.part.Sections.{Sections}
use Rattle.eco_def.specs.declared.room.Room.{Room}
use Rattle.eco_def.specs.declared.design.Comp.{Comp}
use Rattle.eco_def.specs.declared.design.TopPin.{TopPin}
use Rattle.eco_def.specs.Design as said
use Rattle.eco_def.specs.Grammar.{Kind, CompKind, PinKind, SpecialKind, NetKind, NoKind, units_of, comps_of, pins_of, special_of, nets_of, last_some, or_none, statements_of, whole_room, room_after, part_within, parts_within, design_of}
use Rattle.eco_def.specs.Parsing.{many_until}
use Rattle.eco_text.specs.Tokens.{is_word}
use Rattle.eco_common.specs.Options.{first_some}
use Rattle.eco_def.specs.declared.fault.DefFault.{DefFault}
use Rattle.eco_def.specs.declared.fault.DefFault.TheVariants.{Missing}
use Rattle.eco_def.specs.declared.fault.Section.TheVariants.{Units as NoUnits, Components as NoComponents, Nets as NoNets}
use Rattle.eco_def.specs.declared.design.Design.{Design}
use Rattle.eco_def.specs.Limits.{WithinLimits}
use Rattle.eco_def.specs.View.{comp_in, pin_in, net_in, design_in}
use Rattle.eco_def.specs.Reading.{Reading, left, IsInOrder, Refuses}

abbrev pub section_in : List ℕ → NetSection → said.NetSection
section_in text s = record { count = token text s.count; nets = map (net_in text) s.nets; end = s.end }

abbrev pub part_in : List ℕ → Part → said.Part
part_in text Passed = said.Passed
part_in text (Units n) = said.Units n
part_in text (Comps cs) = said.Comps (map (comp_in text) cs)
part_in text (Pins ps) = said.Pins (map (pin_in text) ps)
part_in text (Special ss) = said.Special (map (net_in text) ss)
part_in text (Nets s) = said.Nets (section_in text s)

-- a section, as a part
abbrev pub comps_part : List ℕ → List Comp → said.Part
comps_part text cs = said.Comps (map (comp_in text) cs)

abbrev pub pins_part : List ℕ → List TopPin → said.Part
pins_part text ps = said.Pins (map (pin_in text) ps)

abbrev pub special_part : List ℕ → List NetStatement → said.Part
special_part text ss = said.Special (map (net_in text) ss)

abbrev pub nets_part : List ℕ → NetSection → said.Part
nets_part text s = said.Nets (section_in text s)

-- which sections have stood
abbrev pub seen_in : Sections → Kind → Bool
seen_in s CompKind = is_some s.comps
seen_in s PinKind = is_some s.pins
seen_in s SpecialKind = is_some s.special
seen_in s NetKind = is_some s.nets
seen_in s NoKind = false

-- the room that the statements of parts leave
abbrev pub room_of : List said.Part → Room
room_of ps = room_after whole_room (flat_map statements_of ps)

-- the sections are those of the parts, and what room they leave
pub record AreOf (text : List ℕ) (s : Sections) (ps : List said.Part) : Type 0 where
  pub units : s.units ≡ last_some (map units_of ps)
  pub comps : option_map (λ cs. map (comp_in text) cs) s.comps ≡ first_some (map comps_of ps)
  pub pins : option_map (λ ps. map (pin_in text) ps) s.pins ≡ first_some (map pins_of ps)
  pub special : option_map (λ ss. map (net_in text) ss) s.special ≡ first_some (map special_of ps)
  pub nets : option_map (section_in text) s.nets ≡ first_some (map nets_of ps)
  pub room : s.room ≡ room_of ps

-- ---- where statements lie

-- a statement lies before the words that are left after it
abbrev pub IsPlaced : Reading → Reading → NetStatement → Type 0
IsPlaced old new s = (lo hi : ℕ) → IsInOrder lo hi (left old) → (lo ≤ s.start) × (s.start < s.end) × IsInOrder s.end hi (left new)

-- the statements lie one after another, from lo on and up to hi
abbrev pub ArePlaced : ℕ → ℕ → List NetStatement → Type 0
ArePlaced lo hi [] = lo ≤ hi
ArePlaced lo hi (s ∷ ss) = (lo ≤ s.start) × (s.start < s.end) × ArePlaced s.end hi ss

-- the statements lie one after another, and before the words that are left
abbrev pub ArePlacedBetween : Reading → Reading → List NetStatement → Type 0
ArePlacedBetween old new ss = (lo hi : ℕ) → IsInOrder lo hi (left old) → (at : ℕ) × ArePlaced lo at ss × IsInOrder at hi (left new)

-- NETS lies between two places: its count word, its statements, its END
pub record LiesBetween (lo hi : ℕ) (count : Word) (statements : List NetStatement) (end : ℕ) : Type 0 where
  pub begins : lo ≤ count.start
  pub counts : count.start < count.end
  pub placed : ArePlaced count.end end statements
  pub ends : end ≤ hi

abbrev pub SectionLies : ℕ → ℕ → NetSection → Type 0
SectionLies lo hi s = LiesBetween lo hi s.count s.nets s.end

-- NETS lies before the words that are left
abbrev pub SectionLiesBetween : Reading → Reading → NetSection → Type 0
SectionLiesBetween old new s = (lo hi : ℕ) → IsInOrder lo hi (left old) → (at : ℕ) × SectionLies lo at s × IsInOrder at hi (left new)

-- the statements are all of SPECIALNETS
abbrev pub AreSpecial : List NetStatement → Type 0
AreSpecial [] = Unit {0}
AreSpecial (s ∷ ss) = (s.special ≡ true) × AreSpecial ss

-- the statements are all of NETS
abbrev pub AreOrdinary : List NetStatement → Type 0
AreOrdinary [] = Unit {0}
AreOrdinary (s ∷ ss) = (s.special ≡ false) × AreOrdinary ss

-- all of SPECIALNETS, or all of NETS
abbrev pub AreOfKind : Bool → List NetStatement → Type 0
AreOfKind true ss = AreSpecial ss
AreOfKind false ss = AreOrdinary ss

-- the net statements of a part lie before the words that are left, and are of their section
abbrev pub PartLies : Reading → Reading → Part → Type 0
PartLies old new Passed = Unit {0}
PartLies old new (Units n) = Unit {0}
PartLies old new (Comps cs) = Unit {0}
PartLies old new (Pins ps) = Unit {0}
PartLies old new (Special ss) = ArePlacedBetween old new ss × AreSpecial ss
PartLies old new (Nets s) = SectionLiesBetween old new s × AreOrdinary s.nets

-- the statements of both sections lie one section after the other
abbrev pub BothLie : Bool → ℕ → ℕ → List NetStatement → NetSection → Type 0
BothLie true lo hi ss s = (mid : ℕ) × ArePlaced lo mid ss × SectionLies mid hi s
BothLie false lo hi ss s = (mid : ℕ) × SectionLies lo mid s × ArePlaced mid hi ss

-- the same, where each section stands or not
abbrev pub StatementsLie : Bool → ℕ → ℕ → Option (List NetStatement) → Option NetSection → Type 0
StatementsLie special_first lo hi None None = lo ≤ hi
StatementsLie special_first lo hi (Some ss) None = ArePlaced lo hi ss
StatementsLie special_first lo hi None (Some s) = SectionLies lo hi s
StatementsLie special_first lo hi (Some ss) (Some s) = BothLie special_first lo hi ss s

pub record SectionsLie (old new : Reading) (s : Sections) : Type 0 where
  pub lie : (lo hi : ℕ) → IsInOrder lo hi (left old) → (at : ℕ) × StatementsLie s.special_first lo at s.special s.nets × IsInOrder at hi (left new)
  pub special : IfSome s.special AreSpecial
  pub ordinary : IfSome s.nets (λ ns. AreOrdinary ns.nets)

-- a section that a part has hasn't stood before
abbrev pub IsFresh : Sections → Part → Type 0
IsFresh s Passed = Unit {0}
IsFresh s (Units n) = Unit {0}
IsFresh s (Comps cs) = s.comps ≡ None
IsFresh s (Pins ps) = s.pins ≡ None
IsFresh s (Special ss) = s.special ≡ None
IsFresh s (Nets ns) = s.nets ≡ None

-- a part that is passed over
abbrev pub IsPassed : Part → Type 0
IsPassed part = part ≡ Passed

-- a part that is no section
abbrev pub IsPlain : Part → Type 0
IsPlain Passed = Unit {0}
IsPlain (Units n) = Unit {0}
IsPlain (Comps cs) = ⊥
IsPlain (Pins ps) = ⊥
IsPlain (Special ss) = ⊥
IsPlain (Nets ns) = ⊥

-- the room that statements leave
abbrev pub room_less : Room → List NetStatement → Room
room_less room ss = record { nets = room.nets - length ss; joints = room.joints - sum_by (λ s. length s.joints) ss }

-- the sections with one part more
abbrev pub with_part : Sections → Part → Sections
with_part s Passed = s
with_part s (Units n) = record s { units = Some n }
with_part s (Comps cs) = record s { comps = Some cs }
with_part s (Pins ps) = record s { pins = Some ps }
with_part s (Special ss) = record s { special = Some ss; special_first = is_none s.nets; room = room_less s.room ss }
with_part s (Nets ns) = record s { nets = Some ns; special_first = is_some s.special; room = room_less s.room ns.nets }

-- the parts that were read give these sections, or the parser gives the fault
abbrev pub GivesSections : List ℕ → Result (List said.Part × Walk) DefFault → Result Sections DefFault → Walk → Type 0
GivesSections text parsed (Ok s) rest = (ps : List said.Part) × AreOf text s ps × (parsed ≡ Ok (ps, rest))
GivesSections text parsed (Err e) rest = Refuses parsed e

-- all parts up to END are read
pub record ReadsSections (old new : Reading) (result : Result Sections DefFault) : Type 0 where
  pub text : new.text ≡ old.text
  pub order : (lo hi : ℕ) → IsInOrder lo hi (left old) → OnOk result (IsInOrder lo hi (left new))
  pub value : GivesSections old.text (many_until (is_word (codes "END")) (part_within (Some whole_room)) (left old)) result (left new)
  pub lie : IfOk result (SectionsLie old new)

-- all parts and END DESIGN are read
pub record ReadsParts (old new : Reading) (result : Result Sections DefFault) : Type 0 where
  pub value : GivesSections old.text (parts_within (Some whole_room) (left old)) result (left new)
  pub lie : IfOk result (SectionsLie old new)

-- the first that is missing of UNITS, COMPONENTS and NETS
abbrev pub missing_of : {A B C : Type 0} → Option A → Option B → Option C → Option DefFault
missing_of None cs ns = Some (Missing NoUnits)
missing_of (Some n) None ns = Some (Missing NoComponents)
missing_of (Some n) (Some cs) None = Some (Missing NoNets)
missing_of (Some n) (Some cs) (Some ns) = None

-- the statements of both sections, in the order of the text
abbrev pub both : Bool → List NetStatement → List NetStatement → List NetStatement
both true special nets = special ++ nets
both false special nets = nets ++ special

-- the design has these sections
pub record IsOfSections (s : Sections) (d : Design) : Type 0 where
  pub units : s.units ≡ Some d.units
  pub comps : s.comps ≡ Some d.comps
  pub pins : d.pins ≡ or_none s.pins
  pub ordinary : List NetStatement
  pub section : s.nets ≡ Some (record { count = d.net_count; nets = ordinary; end = d.nets_end })
  pub nets : d.nets ≡ both s.special_first (or_none s.special) ordinary

-- Where the statements lie in a text of n bytes: those of SPECIALNETS and those of NETS, one section after the other.
pub data DesignLies (n : ℕ) (d : Design) : Type 0 where
  SpecialFirst : (mid : ℕ) (special nets : List NetStatement) → d.nets ≡ special ++ nets → AreSpecial special → AreOrdinary nets → ArePlaced 0 mid special → LiesBetween mid n d.net_count nets d.nets_end → DesignLies n d
  NetsFirst : (mid : ℕ) (nets special : List NetStatement) → d.nets ≡ nets ++ special → AreOrdinary nets → AreSpecial special → LiesBetween 0 mid d.net_count nets d.nets_end → ArePlaced mid n special → DesignLies n d

-- the design is what the text says, by all rules and within all limits
pub record IsReadingOf (text : List ℕ) (d : Design) : Type 0 where
  pub short : length text ≤ MAX_DEF_BYTES
  pub read : design_of text ≡ Ok (design_in text d)
  pub limits : WithinLimits (design_in text d)
  pub lies : DesignLies (length text) d

-- END stands at a place before the words that are left after it
abbrev pub Ends : Reading → Reading → ℕ → Type 0
Ends old new place = (lo hi : ℕ) → IsInOrder lo hi (left old) → (lo ≤ place) × IsInOrder place hi (left new)
