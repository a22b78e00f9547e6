-- What the limits of a reader change: a design is read where it keeps them, and else the first statement or joint above them is Limit.
use Rattle.std.specs.Prelude.{◌≡◌, ℕ, zero, suc, ◌+◌, ◌<◌, ◌≤◌, Bool, false, List, [], ◌∷◌, ◌++◌, length, map, Ok, Err, ◌↔◌, codes}
use Rattle.std.specs.List.{flat_map}
use Rattle.eco_common.specs.declared.limits.TheConstants.{MAX_COMPS, MAX_TOP_PINS, MAX_NETS, MAX_JOINTS}
use Rattle.eco_text.specs.Words.{Token, Walk, walk_of}
use Rattle.eco_def.specs.declared.fault.DefFault.{DefFault}
use Rattle.eco_def.specs.declared.fault.DefFault.TheVariants.{Limit}
use Rattle.eco_def.specs.declared.room.Room.{Room}
use Rattle.eco_def.specs.Parsing.{Parser, ◌>>=◌, then_read, word, new_name}
use Rattle.eco_common.specs.NameBytes.{is_among}
use Rattle.eco_def.specs.Design.{Comp, TopPin, Joint, Net, Part, Comps, Pins, Design}
use Rattle.eco_def.specs.Grammar.{whole_room, joint_count as joints_of, section_head, comp, top_pin, joint, net_name, net, CompKind, PinKind, SpecialKind, NetKind, have, statements_of, part, design_of, reading_of}

pub record WithinLimits (d : Design) : Type 0 where
  pub comps : length d.comps ≤ MAX_COMPS
  pub pins : length d.pins ≤ MAX_TOP_PINS
  pub nets : length d.special + length d.nets.nets ≤ MAX_NETS
  pub joints : joints_of d.special + joints_of d.nets.nets ≤ MAX_JOINTS

-- A law: a reader with limits reads the designs that keep them, as they are without limits.
abbrev pub LimitsKeep : Type 0
LimitsKeep = (text : List ℕ) (d : Design) → (reading_of text ≡ Ok d) ↔ ((design_of text ≡ Ok d) × WithinLimits d)

-- A law: each of its faults but Limit is the first fault of the text.
abbrev pub FaultsStay : Type 0
FaultsStay = (text : List ℕ) (fault : DefFault) → reading_of text ≡ Err fault → ((place : ℕ) → fault ≡ Limit place → ⊥) → design_of text ≡ Err fault

-- ---- where Limit stands

-- the first n values, one after another
abbrev pub first_values : {A : Type 0} → ℕ → (List A → Parser A) → List A → Parser (List A)
first_values zero item xs u = Ok (xs, u)
first_values (suc n) item xs u = then_read (item xs u) (λ x. first_values n item (xs ++ x ∷ []))

-- The first statements of a section are read without fault, and are as many as may stand. The place is that of the next one's name.
pub record NameAbove {A : Type 0} (heading : List ℕ) (item : List A → Parser A) (named : (List ℕ → Bool) → Parser Token) (key : A → List ℕ) (IsFull : List A → Type 0) (u : Walk) (place : ℕ) : Type 0 where
  pub count : ℕ
  pub before : List A
  pub at : Walk
  pub name : Token
  pub rest : Walk
  pub read : (section_head heading >>= λ head. first_values count item []) u ≡ Ok (before, at)
  pub full : IsFull before
  pub next : (word (codes "-") >>= λ dash. named (is_among (map key before))) at ≡ Ok (name, rest)
  pub here : name.start ≡ place

-- The first statements of a section, a net's name and its first joints are read without fault, and with the statements of the other
-- section there are as many joints as may stand. The place is that of the next joint's bracket.
pub record JointAbove (heading : List ℕ) (earlier : List Net) (u : Walk) (place : ℕ) : Type 0 where
  pub count : ℕ
  pub before : List Net
  pub at : Walk
  pub name : Token
  pub inside : Walk
  pub many : ℕ
  pub joints : List Joint
  pub end : Walk
  pub bracket : Token
  pub rest : Walk
  pub read : (section_head heading >>= λ head. first_values count net []) u ≡ Ok (before, at)
  pub fits : length (earlier ++ before) < MAX_NETS
  pub named : (word (codes "-") >>= λ dash. net_name (is_among (map (λ s. s.name.bytes) before))) at ≡ Ok (name, inside)
  pub joined : first_values many (λ js. joint) [] inside ≡ Ok (joints, end)
  pub full : joints_of (earlier ++ before) + length joints ≡ MAX_JOINTS
  pub next : word (codes "(") end ≡ Ok (bracket, rest)
  pub here : bracket.start ≡ place

-- the net statements are as many as may stand, and have no more joints than may
abbrev pub NetsFull : List Net → List Net → Type 0
NetsFull earlier ns = (length (earlier ++ ns) ≡ MAX_NETS) × (joints_of (earlier ++ ns) ≤ MAX_JOINTS)

-- after these parts comes a section with the first statement or joint above a limit, at the place
pub data IsAbove (ps : List Part) (u : Walk) (place : ℕ) : Type 0 where
  CompAbove : have ps CompKind ≡ false → NameAbove (codes "COMPONENTS") comp new_name (λ c. c.name.bytes) (λ cs. length cs ≡ MAX_COMPS) u place → IsAbove ps u place
  PinAbove : have ps PinKind ≡ false → NameAbove (codes "PINS") top_pin new_name (λ p. p.name.bytes) (λ pins. length pins ≡ MAX_TOP_PINS) u place → IsAbove ps u place
  SpecialNetAbove : have ps SpecialKind ≡ false → NameAbove (codes "SPECIALNETS") net net_name (λ s. s.name.bytes) (NetsFull (flat_map statements_of ps)) u place → IsAbove ps u place
  NetAbove : have ps NetKind ≡ false → NameAbove (codes "NETS") net net_name (λ s. s.name.bytes) (NetsFull (flat_map statements_of ps)) u place → IsAbove ps u place
  SpecialJointAbove : have ps SpecialKind ≡ false → JointAbove (codes "SPECIALNETS") (flat_map statements_of ps) u place → IsAbove ps u place
  NetJointAbove : have ps NetKind ≡ false → JointAbove (codes "NETS") (flat_map statements_of ps) u place → IsAbove ps u place

-- the components, and the top pins, of a part
abbrev pub comps_in : Part → List Comp
comps_in (Comps cs) = cs
comps_in _ = []

abbrev pub pins_in : Part → List TopPin
pins_in (Pins ps) = ps
pins_in _ = []

-- statements that fit into a room
pub record HaveRoom (room : Room) (ns : List Net) : Type 0 where
  pub nets : length ns ≤ room.nets
  pub joints : joints_of ns ≤ room.joints

-- parts that keep the limits
pub record PartsKeep (ps : List Part) : Type 0 where
  pub comps : length (flat_map comps_in ps) ≤ MAX_COMPS
  pub pins : length (flat_map pins_in ps) ≤ MAX_TOP_PINS
  pub nets : HaveRoom whole_room (flat_map statements_of ps)

-- A law: Limit stands at the name of the first component, top pin or net statement above a limit, or at the bracket of the first joint
-- above it. All before it keeps the limits and is read without fault.
abbrev pub LimitStands : Type 0
LimitStands = (text : List ℕ) (place : ℕ) → reading_of text ≡ Err (Limit place) → (n : ℕ) × (ps : List Part) × (u : Walk) × (first_values n part [] (walk_of text) ≡ Ok (ps, u)) × PartsKeep ps × IsAbove ps u place
