-- The grammar of a design, over its words: LEF/DEF 5.8 Language Reference, "DEF Statement Definitions and Examples",
-- in the profile of docs/FORMATS.md. A reading may have a room: after as many components, top pins, net statements and
-- joints as fit, the next one is the fault Limit, a statement at its name and a joint at its bracket. Without a room there is no limit.
use Rattle.std.specs.Prelude.{ℕ, ◌-◌, nat_le, nat_lt, Bool, true, false, List, [], ◌∷◌, length, map, sum_by, Option, Some, None, is_some, option_and_then, Result, Ok, Err, if◌then◌else◌, codes}
use Rattle.std.specs.Str.{bytes_eq}
use Rattle.std.specs.Option.{option_or}
use Rattle.eco_common.specs.declared.limits.TheConstants.{MAX_UNITS, MAX_COMPS, MAX_TOP_PINS, MAX_NETS, MAX_JOINTS}
use Rattle.eco_text.specs.Numbers.{number_of, at_most, integer_of}
use Rattle.std.specs.List.{list_any, flat_map}
use Rattle.eco_text.specs.Tokens.{is_one_of}
use Rattle.eco_text.specs.Words.{Token, Walk, finished, open_quote, word_then, walk_of}
use Rattle.eco_text.specs.declared.word.TextFault.TheVariants.{OpenQuote}
use Rattle.eco_def.specs.declared.fault.DefFault.{DefFault}
use Rattle.eco_def.specs.declared.fault.DefFault.TheVariants.{Text, Unended, BadStatement, TwiceNamed, MustJoin, UnknownHeading, Missing}
use Rattle.eco_def.specs.declared.fault.Section.TheVariants.{Units as NoUnits, Components as NoComponents, Nets as NoNets}
use Rattle.eco_def.specs.Parsing.{Parser, ◌>>=◌, give, refuse, any, choose, where_room, word, name, new_name_within, valued, pass_to, pass_to_both, many, many_until}
use Rattle.eco_text.specs.Tokens.{is_word}
use Rattle.eco_common.specs.NameBytes.{is_among}
use Rattle.eco_common.specs.Options.{first_some}
use Rattle.eco_common.specs.declared.geometry.Dir.{Dir}
use Rattle.eco_common.specs.declared.geometry.Dir.TheVariants.{Input, Output, Inout}
use Rattle.eco_def.specs.declared.orient.Orient.{Orient}
use Rattle.eco_def.specs.declared.orient.Orient.TheVariants.{N, S, E, W, FN, FS, FE, FW}
use Rattle.eco_def.specs.declared.place.Place.{Place}
use Rattle.eco_def.specs.declared.room.Room.{Room}
use Rattle.eco_def.specs.Design.{Comp, TopPin, Joint, Net, NetSection, Part, Passed, Units, Comps, Pins, Special, Nets, Design}

-- ---- numbers

-- database units per micron
abbrev pub units_number : List ℕ → Option ℕ
units_number bytes = option_and_then (λ n. if nat_le 1 n then Some n else None) (at_most MAX_UNITS (number_of bytes))

-- the value that stands beside a word
abbrev pub value_in : {A : Type 0} → List (List ℕ × A) → List ℕ → Option A
value_in [] bytes = None
value_in (e ∷ es) bytes = if bytes_eq bytes e.0 then Some e.1 else value_in es bytes

-- ---- rooms

-- as many net statements, and as many joints, as both sections together may have
abbrev pub whole_room : Room
whole_room = record { nets = MAX_NETS; joints = MAX_JOINTS }

abbrev pub joint_count : List Net → ℕ
joint_count ns = sum_by (λ n. length n.joints) ns

-- the room that some statements leave
abbrev pub room_after : Room → List Net → Room
room_after room ns = record { nets = room.nets - length ns; joints = room.joints - joint_count ns }

abbrev pub room_left : Option Room → List Net → Option Room
room_left None ns = None
room_left (Some room) ns = Some (room_after room ns)

-- whether one more fits after so many
abbrev pub fits : Option ℕ → ℕ → Bool
fits None n = true
fits (Some most) n = nat_lt n most

-- how many components, and how many top pins, may stand
abbrev pub most_comps : Option Room → Option ℕ
most_comps None = None
most_comps (Some room) = Some MAX_COMPS

abbrev pub most_pins : Option Room → Option ℕ
most_pins None = None
most_pins (Some room) = Some MAX_TOP_PINS

-- whether a net statement fits, and how many joints it may have
abbrev pub net_fits : Option Room → Bool
net_fits None = true
net_fits (Some room) = nat_lt 0 room.nets

abbrev pub joints_left : Option Room → Option ℕ
joints_left None = None
joints_left (Some room) = Some room.joints

-- ---- components

abbrev pub orient_of : List ℕ → Option Orient
orient_of = value_in ((codes "N", N) ∷ (codes "S", S) ∷ (codes "E", E) ∷ (codes "W", W) ∷ (codes "FN", FN) ∷ (codes "FS", FS) ∷ (codes "FE", FE) ∷ (codes "FW", FW) ∷ [])

-- ( x y ) and how the box lies
unfoldable pub place : Parser Place
place = do
  open' ← word (codes "(")
  x ← valued integer_of
  y ← valued integer_of
  close ← word (codes ")")
  orient ← valued orient_of
  give (record { point = record { x = x; y = y }; orient = orient })

abbrev pub gives_place : Token → Bool
gives_place = is_one_of (codes "PLACED" ∷ codes "FIXED" ∷ codes "COVER" ∷ [])

unfoldable pub some_place : Parser (Option Place)
some_place = any >>= λ kind. place >>= λ p. give (Some p)

-- a place, or a word that is passed over
unfoldable pub comp_clause : Parser (Option Place)
comp_clause = choose (is_word (codes "+")) (any >>= λ plus. choose gives_place some_place (give None)) (any >>= λ other. give None)

-- the first place of the clauses up to the end
unfoldable pub comp_place : Parser (Option Place)
comp_place = many_until (is_word (codes ";")) (λ before. comp_clause) >>= λ clauses. give (first_some clauses)

unfoldable pub comp_new_within : Bool → (List ℕ → Bool) → Parser Comp
comp_new_within room known = do
  dash ← word (codes "-")
  n ← new_name_within room known
  model ← name
  at ← comp_place
  end ← word (codes ";")
  give (record { name = n; model = model; place = at })

abbrev pub comp_new : (List ℕ → Bool) → Parser Comp
comp_new = comp_new_within true

-- a component whose name isn't among those before it
abbrev pub comp_within : Option ℕ → List Comp → Parser Comp
comp_within most before = comp_new_within (fits most (length before)) (is_among (map (λ c. c.name.bytes) before))

abbrev pub comp : List Comp → Parser Comp
comp = comp_within None

-- what a section begins with: its count
unfoldable pub section_head : List ℕ → Parser Token
section_head keyword = word keyword >>= λ heading. any >>= λ count. word (codes ";") >>= λ begin. give count

-- what a section ends with: the place of END
unfoldable pub section_end : List ℕ → Parser ℕ
section_end keyword = word (codes "END") >>= λ end. word keyword >>= λ again. give end.start

abbrev pub comps_within : Option ℕ → Parser (List Comp)
comps_within most = many (is_word (codes "-")) (comp_within most)

abbrev pub comps : Parser (List Comp)
comps = comps_within None

unfoldable pub comp_section_within : Option ℕ → Parser Part
comp_section_within most = do
  count ← section_head (codes "COMPONENTS")
  cs ← comps_within most
  end ← section_end (codes "COMPONENTS")
  give (Comps cs)

abbrev pub comp_section : Parser Part
comp_section = comp_section_within None

-- ---- top pins

pub data PinClause : Type 0 where
  OnNet : Token → PinClause
  Directed : Dir → PinClause
  Used : Bool → PinClause
  Other : PinClause

abbrev pub dir_of : List ℕ → Option Dir
dir_of = value_in ((codes "INPUT", Input) ∷ (codes "OUTPUT", Output) ∷ (codes "INOUT", Inout) ∷ (codes "FEEDTHRU", Inout) ∷ [])

unfoldable pub pin_net : Parser PinClause
pin_net = any >>= λ heading. name >>= λ n. give (OnNet n)

unfoldable pub pin_dir : Parser PinClause
pin_dir = any >>= λ heading. valued dir_of >>= λ d. give (Directed d)

unfoldable pub pin_use : Parser PinClause
pin_use = any >>= λ heading. choose (is_one_of (codes "POWER" ∷ codes "GROUND" ∷ [])) (any >>= λ w. give (Used true)) (give (Used false))

unfoldable pub pin_clause : Parser PinClause
pin_clause =
    choose (is_word (codes "+")) (any >>= λ plus. choose (is_word (codes "NET")) pin_net (choose (is_word (codes "DIRECTION")) pin_dir (choose (is_word (codes "USE")) pin_use (give Other)))) (any >>= λ other. give Other)

abbrev pub net_in : List PinClause → Option Token
net_in [] = None
net_in (OnNet n ∷ cs) = Some n
net_in (Directed d ∷ cs) = net_in cs
net_in (Used b ∷ cs) = net_in cs
net_in (Other ∷ cs) = net_in cs

abbrev pub dir_in : List PinClause → Dir
dir_in [] = Inout
dir_in (OnNet n ∷ cs) = dir_in cs
dir_in (Directed d ∷ cs) = d
dir_in (Used b ∷ cs) = dir_in cs
dir_in (Other ∷ cs) = dir_in cs

abbrev pub supply_in : List PinClause → Bool
supply_in [] = false
supply_in (OnNet n ∷ cs) = supply_in cs
supply_in (Directed d ∷ cs) = supply_in cs
supply_in (Used b ∷ cs) = b
supply_in (Other ∷ cs) = supply_in cs

-- what stands after a pin's name: clauses up to the end
unfoldable pub pin_clauses : Parser (List PinClause)
pin_clauses = choose (is_one_of (codes "+" ∷ codes ";" ∷ [])) (many_until (is_word (codes ";")) (λ before. pin_clause)) (refuse BadStatement)

-- the net must stand
abbrev pub pin_on : Token → List PinClause → Option Token → Parser TopPin
pin_on n clauses None = refuse BadStatement
pin_on n clauses (Some net) = give (record { name = n; net = net; dir = dir_in clauses; supply = supply_in clauses })

-- a top pin, after its name
unfoldable pub pin_named : Token → Parser TopPin
pin_named n = pin_clauses >>= λ clauses. pin_on n clauses (net_in clauses)

unfoldable pub top_pin_new_within : Bool → (List ℕ → Bool) → Parser TopPin
top_pin_new_within room known = do
  dash ← word (codes "-")
  n ← new_name_within room known
  pin ← pin_named n
  end ← word (codes ";")
  give pin

abbrev pub top_pin_new : (List ℕ → Bool) → Parser TopPin
top_pin_new = top_pin_new_within true

abbrev pub top_pin_within : Option ℕ → List TopPin → Parser TopPin
top_pin_within most before = top_pin_new_within (fits most (length before)) (is_among (map (λ p. p.name.bytes) before))

abbrev pub top_pin : List TopPin → Parser TopPin
top_pin = top_pin_within None

abbrev pub top_pins_within : Option ℕ → Parser (List TopPin)
top_pins_within most = many (is_word (codes "-")) (top_pin_within most)

unfoldable pub pin_section_within : Option ℕ → Parser Part
pin_section_within most = do
  count ← section_head (codes "PINS")
  pins ← top_pins_within most
  end ← section_end (codes "PINS")
  give (Pins pins)

abbrev pub pin_section : Parser Part
pin_section = pin_section_within None

-- ---- nets

-- the ) of a joint, after + SYNTHESIZED or not
unfoldable pub joint_end : Parser Token
joint_end = choose (is_word (codes "+")) (word (codes "+") >>= λ plus. word (codes "SYNTHESIZED") >>= λ made. word (codes ")")) (word (codes ")"))

-- ( comp pin )
unfoldable pub joint : Parser Joint
joint = do
  open' ← word (codes "(")
  comp ← name
  pin ← name
  close ← joint_end
  give (record { comp = comp; pin = pin; start = open'.start; end = close.end })

unfoldable pub some_use : Parser (Option Token)
some_use = any >>= λ heading. name >>= λ n. give (Some n)

-- the net's use, where it has none yet, or a word that is passed over
unfoldable pub net_clause_new : Bool → Parser (Option Token)
net_clause_new used = choose (is_word (codes "+")) (any >>= λ plus. if used then give None else choose (is_word (codes "USE")) some_use (give None)) (any >>= λ other. give None)

abbrev pub net_clause : List (Option Token) → Parser (Option Token)
net_clause before = net_clause_new (is_some (first_some before))

-- the first use of the clauses up to the end
abbrev pub net_usage : Parser (Option Token)
net_usage = many_until (is_word (codes ";")) net_clause >>= λ clauses. give (first_some clauses)

-- what stands after a net's joints: clauses up to the end
unfoldable pub net_tail : Parser (Option Token)
net_tail = choose (is_one_of (codes "+" ∷ codes ";" ∷ [])) net_usage (refuse BadStatement)

abbrev pub net_name_within : Bool → (List ℕ → Bool) → Parser Token
net_name_within room known = choose (is_word (codes "MUSTJOIN")) (refuse MustJoin) (new_name_within room known)

abbrev pub net_name : (List ℕ → Bool) → Parser Token
net_name = net_name_within true

abbrev pub joint_within : Option ℕ → List Joint → Parser Joint
joint_within most before = where_room (fits most (length before)) joint

abbrev pub joints_within : Option ℕ → Parser (List Joint)
joints_within most = many (is_word (codes "(")) (joint_within most)

abbrev pub joints : Parser (List Joint)
joints = joints_within None

unfoldable pub net_new_within : Option Room → (List ℕ → Bool) → Parser Net
net_new_within room known = do
  dash ← word (codes "-")
  n ← net_name_within (net_fits room) known
  js ← joints_within (joints_left room)
  usage ← net_tail
  end ← word (codes ";")
  give (record { name = n; start = dash.start; end = end.end; usage = usage; joints = js })

abbrev pub net_new : (List ℕ → Bool) → Parser Net
net_new = net_new_within None

-- a statement of a net that has none before it in its section
abbrev pub net_within : Option Room → List Net → Parser Net
net_within room before = net_new_within (room_left room before) (is_among (map (λ s. s.name.bytes) before))

abbrev pub net : List Net → Parser Net
net = net_within None

abbrev pub nets_within : Option Room → Parser (List Net)
nets_within room = many (is_word (codes "-")) (net_within room)

abbrev pub nets : Parser (List Net)
nets = nets_within None

unfoldable pub special_section_within : Option Room → Parser Part
special_section_within room = do
  count ← section_head (codes "SPECIALNETS")
  ns ← nets_within room
  end ← section_end (codes "SPECIALNETS")
  give (Special ns)

abbrev pub special_section : Parser Part
special_section = special_section_within None

unfoldable pub net_section_within : Option Room → Parser Part
net_section_within room = do
  count ← section_head (codes "NETS")
  ns ← nets_within room
  end ← section_end (codes "NETS")
  give (Nets (record { count = count; nets = ns; end = end }))

abbrev pub net_section : Parser Part
net_section = net_section_within None

-- ---- the whole

unfoldable pub units : Parser Part
units = do
  heading ← word (codes "UNITS")
  distance ← word (codes "DISTANCE")
  microns ← word (codes "MICRONS")
  n ← valued units_number
  end ← word (codes ";")
  give (Units n)

-- sections and statements that are passed on
abbrev pub passed_sections : List (List ℕ)
passed_sections = codes "PROPERTYDEFINITIONS" ∷ codes "VIAS" ∷ codes "STYLES" ∷ codes "NONDEFAULTRULES" ∷ codes "REGIONS" ∷ codes "PINPROPERTIES" ∷ codes "BLOCKAGES" ∷ codes "SLOTS" ∷ codes "FILLS" ∷ codes "SCANCHAINS" ∷ codes "GROUPS" ∷ []

abbrev pub passed_statements : List (List ℕ)
passed_statements = codes "VERSION" ∷ codes "DIVIDERCHAR" ∷ codes "BUSBITCHARS" ∷ codes "NAMESCASESENSITIVE" ∷ codes "DESIGN" ∷ codes "TECHNOLOGY" ∷ codes "HISTORY" ∷ codes "DIEAREA" ∷ codes "ROW" ∷ codes "TRACKS" ∷ codes "GCELLGRID" ∷ codes "COMPONENTMASKSHIFT" ∷ []

unfoldable pub passed_section : Parser Part
passed_section = any >>= λ heading. pass_to_both (is_word (codes "END")) (is_word heading.bytes) >>= λ end. give Passed

abbrev pub passed_up_to : List ℕ → Parser Part
passed_up_to keyword = pass_to (is_word keyword) >>= λ end. give Passed

-- the kinds of sections that stand once
pub data Kind : Type 0 where
  CompKind : Kind
  PinKind : Kind
  SpecialKind : Kind
  NetKind : Kind
  NoKind : Kind

abbrev pub kind_of : Part → Kind
kind_of Passed = NoKind
kind_of (Units n) = NoKind
kind_of (Comps cs) = CompKind
kind_of (Pins ps) = PinKind
kind_of (Special ss) = SpecialKind
kind_of (Nets s) = NetKind

abbrev pub same_kind : Kind → Kind → Bool
same_kind CompKind CompKind = true
same_kind PinKind PinKind = true
same_kind SpecialKind SpecialKind = true
same_kind NetKind NetKind = true
same_kind _ _ = false

-- whether parts have one of a kind
abbrev pub have : List Part → Kind → Bool
have before kind = list_any (λ p. same_kind kind (kind_of p)) before

-- a section that hasn't stood yet
abbrev pub once : (Kind → Bool) → Kind → Parser Part → Parser Part
once seen kind section u = if seen kind then refuse TwiceNamed u else section u

unfoldable pub part_new_within : Option Room → (Kind → Bool) → Parser Part
part_new_within room seen =
    choose (is_word (codes "UNITS")) units
    (choose (is_word (codes "COMPONENTS")) (once seen CompKind (comp_section_within (most_comps room)))
    (choose (is_word (codes "PINS")) (once seen PinKind (pin_section_within (most_pins room)))
    (choose (is_word (codes "SPECIALNETS")) (once seen SpecialKind (special_section_within room))
    (choose (is_word (codes "NETS")) (once seen NetKind (net_section_within room))
    (choose (is_one_of passed_sections) passed_section
    (choose (is_one_of passed_statements) (passed_up_to (codes ";"))
    (choose (is_word (codes "BEGINEXT")) (passed_up_to (codes "ENDEXT"))
    (refuse UnknownHeading))))))))

abbrev pub part_new : (Kind → Bool) → Parser Part
part_new = part_new_within None

abbrev pub statements_of : Part → List Net
statements_of Passed = []
statements_of (Units n) = []
statements_of (Comps cs) = []
statements_of (Pins ps) = []
statements_of (Special ns) = ns
statements_of (Nets s) = s.nets

-- a part that is no section which has stood, with the room that the statements of both sections leave
abbrev pub part_within : Option Room → List Part → Parser Part
part_within room before = part_new_within (room_left room (flat_map statements_of before)) (have before)

abbrev pub part : List Part → Parser Part
part = part_within None

-- END DESIGN, of which a fault stands at END where another word follows it
abbrev pub end_design : Parser Token
end_design (finished place) = Err (Unended place)
end_design (open_quote place) = Err (Text (OpenQuote place))
end_design (word_then end u) = choose (is_word (codes "DESIGN")) any (λ v. refuse (λ place. UnknownHeading end.start) v) u

unfoldable pub parts_within : Option Room → Parser (List Part)
parts_within room = many_until (is_word (codes "END")) (part_within room) >>= λ ps. end_design >>= λ end. give ps

abbrev pub parts : Parser (List Part)
parts = parts_within None

-- ---- the design of the parts

-- what a part gives
abbrev pub units_of : Part → Option ℕ
units_of (Units n) = Some n
units_of _ = None

abbrev pub comps_of : Part → Option (List Comp)
comps_of (Comps cs) = Some cs
comps_of _ = None

abbrev pub pins_of : Part → Option (List TopPin)
pins_of (Pins ps) = Some ps
pins_of _ = None

abbrev pub special_of : Part → Option (List Net)
special_of (Special ss) = Some ss
special_of _ = None

abbrev pub nets_of : Part → Option NetSection
nets_of (Nets s) = Some s
nets_of _ = None

abbrev pub last_some : {A : Type 0} → List (Option A) → Option A
last_some [] = None
last_some (o ∷ os) = option_or (last_some os) o

abbrev pub or_none : {A : Type 0} → Option (List A) → List A
or_none None = []
or_none (Some xs) = xs

abbrev pub design_from : List Part → Option ℕ → Option (List Comp) → Option NetSection → Result Design DefFault
design_from ps None cs ns = Err (Missing NoUnits)
design_from ps (Some n) None ns = Err (Missing NoComponents)
design_from ps (Some n) (Some cs) None = Err (Missing NoNets)
design_from ps (Some n) (Some cs) (Some ns) = Ok (record { units = n; comps = cs; pins = or_none (first_some (map pins_of ps)); special = or_none (first_some (map special_of ps)); nets = ns })

-- the design of parts: the last UNITS counts, and each section stands once
abbrev pub parts_design : List Part → Result Design DefFault
parts_design ps = design_from ps (last_some (map units_of ps)) (first_some (map comps_of ps)) (first_some (map nets_of ps))

abbrev pub design_read : Result (List Part × Walk) DefFault → Result Design DefFault
design_read (Err e) = Err e
design_read (Ok x) = parts_design x.0

-- the design of a text in a room, or its first fault, whatever follows END DESIGN
abbrev pub design_within : Option Room → List ℕ → Result Design DefFault
design_within room text = design_read (parts_within room (walk_of text))

-- what the text says
abbrev pub design_of : List ℕ → Result Design DefFault
design_of = design_within None

-- what a reader with limits reads
abbrev pub reading_of : List ℕ → Result Design DefFault
reading_of = design_within (Some whole_room)
