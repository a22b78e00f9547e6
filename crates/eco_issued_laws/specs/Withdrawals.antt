-- What is issued where nothing changes.
use Rattle.std.specs.Prelude.{◌≡◌, ℕ, true, not, ◌&&◌, ◌||◌, Bool, List, [], ◌∷◌, ◌++◌, Ok}
use Rattle.std.specs.List.{list_all}
use Rattle.std.specs.Str.{bytes_eq}
use Rattle.eco_def.specs.Design.{Design}
use Rattle.eco_def.specs.Grammar.{design_of}
use Rattle.eco_def.specs.Named.{NamedNet, NamedDesign, names_of}
use Rattle.eco_common.specs.Joints.{NewJoint}
use Rattle.eco_issued_laws.specs.Changes.{is_joint_of, stands}
use Rattle.eco_issued_laws.specs.Issued.{issued_text}

-- A law: no joints and no new nets give the text itself, byte for byte.
abbrev pub NothingIssued : Type 0
NothingIssued = (text : List ℕ) (d : Design) → design_of text ≡ Ok d → issued_text text d [] [] ≡ text

-- each joint of the pin is in a statement of this net
abbrev pub is_only_on : NewJoint → NamedNet → Bool
is_only_on n s = list_all (λ j. not (is_joint_of n j) || bytes_eq n.net s.name) s.joints

-- the pin stands on its net already, and on no other
abbrev pub stands_there : NamedDesign → NewJoint → Bool
stands_there d n = stands (d.special ++ d.nets) n && list_all (is_only_on n) (d.special ++ d.nets)

-- A law: a joint of a pin that stands on its net already, and on no other, changes nothing.
abbrev pub StandingIssued : Type 0
StandingIssued = (text : List ℕ) (d : Design) (n : NewJoint) (joints : List NewJoint) (nets : List (List ℕ)) → stands_there (names_of d) n ≡ true → issued_text text d (n ∷ joints) nets ≡ issued_text text d joints nets
