-- What a text of a design says, with the bytes and places of its words.
-- LEF/DEF 5.8 Language Reference, "DEF Statement Definitions and Examples".
use Rattle.std.specs.Prelude.{ℕ, Bool, List, Option}
use Rattle.eco_text.specs.Words.{Token}
use Rattle.eco_common.specs.declared.geometry.Dir.{Dir}
use Rattle.eco_def.specs.declared.place.Place.{Place}

-- COMPONENTS: a component, its macro, and where the lower left corner of its placed box lies
pub record Comp : Type 0 where
  pub name : Token
  pub model : Token
  pub place : Option Place

-- PINS: a pin of the design itself
pub record TopPin : Type 0 where
  pub name : Token
  pub net : Token
  pub dir : Dir
  pub supply : Bool

-- NETS, SPECIALNETS: ( comp pin ), from its opening bracket to after its closing one
pub record Joint : Type 0 where
  pub comp : Token
  pub pin : Token
  pub start : ℕ
  pub end : ℕ

-- NETS, SPECIALNETS: a statement, from its - to after its ;
pub record Net : Type 0 where
  pub name : Token
  pub start : ℕ
  pub end : ℕ
  pub usage : Option Token
  pub joints : List Joint

-- NETS: its count word, its statements, and the place of its END
pub record NetSection : Type 0 where
  pub count : Token
  pub nets : List Net
  pub end : ℕ

-- one statement or section at the top level
pub data Part : Type 0 where
  Passed : Part
  Units : ℕ → Part
  Comps : List Comp → Part
  Pins : List TopPin → Part
  Special : List Net → Part
  Nets : NetSection → Part

pub record Design : Type 0 where
  pub units : ℕ
  pub comps : List Comp
  pub pins : List TopPin
  pub special : List Net
  pub nets : NetSection
