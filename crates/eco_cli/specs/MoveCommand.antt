-- What the command move does.
use Rattle.std.specs.Prelude.{◌≡◌, ℕ, List, [], ◌∷◌, length, codes, Some, None, Err}
use Rattle.eco_common.specs.declared.limits.TheConstants.{MAX_DEF_BYTES}
use Rattle.eco_def.specs.Design.{Design}
use Rattle.eco_def.specs.Named.{names_of}
use Rattle.eco_def.specs.Grammar.{reading_of}
use Rattle.eco_issued_laws.specs.Changes.{NewJoint}
use Rattle.eco_issued_laws.specs.Issued.{issued_text}
use Rattle.eco_overlay.specs.Moving.{move_fault}
use Rattle.eco_cli.specs.CommandLine.{Listed, value_of}
use Rattle.eco_cli.specs.Designs.{HasDesign}
use Rattle.eco_cli.specs.declared.command_option.OptionKind.TheVariants as kind
use Rattle.eco_cli.specs.declared.done.Done.{Done}
use Rattle.eco_cli.specs.declared.done.Done.TheVariants as done
use Rattle.eco_cli.specs.declared.move_words.MoveWords.{MoveWords}
use Rattle.eco_cli.specs.declared.refusal.Refusal.{Refusal}
use Rattle.eco_cli.specs.declared.refusal.Refusal.TheVariants as refused

abbrev pub move_options : List Listed
move_options =
    record { word = codes "--def"; kind = kind.Input MAX_DEF_BYTES }
    ∷ record { word = codes "--comp"; kind = kind.Text }
    ∷ record { word = codes "--pin"; kind = kind.Text }
    ∷ record { word = codes "--from"; kind = kind.Text }
    ∷ record { word = codes "--to"; kind = kind.Text }
    ∷ record { word = codes "--out"; kind = kind.Text }
    ∷ []

-- the pin that is moved, and its nets
pub record Move : Type 0 where
  pub comp : List ℕ
  pub pin : List ℕ
  pub from : List ℕ
  pub to : List ℕ

abbrev pub move_in : List (List ℕ) → Move
move_in ws = record { comp = value_of ws (codes "--comp"); pin = value_of ws (codes "--pin"); from = value_of ws (codes "--from"); to = value_of ws (codes "--to") }

abbrev pub move_of : MoveWords → Move
move_of m = record { comp = m.comp.now; pin = m.pin.now; from = m.from.now; to = m.to.now }

abbrev pub one_joint : Move → List NewJoint
one_joint m = record { comp = m.comp; pin = m.pin; net = m.to } ∷ []

-- the text has a design, the move can be made in it, and gives this text
pub record IsMoved (m : Move) (text : List ℕ) (moved : List ℕ) : Type 0 where
  pub design : Design
  pub read : HasDesign text design
  pub may : move_fault (names_of design) m.comp m.pin m.from m.to ≡ None
  pub issued : moved ≡ issued_text text design (one_joint m) []

-- A move has one text, that of the DEF, and its output is the moved text.
abbrev pub MoveGives : Move → List (List ℕ) → Done → List ℕ → Type 0
MoveGives m (text ∷ []) (done.Written count) moved = IsMoved m text moved × (count ≡ length moved)
MoveGives m texts d moved = ⊥

-- the DEF has this first fault, or the move has a fault in it
abbrev pub MoveRefuses : Move → List (List ℕ) → Refusal → Type 0
MoveRefuses m (text ∷ []) (refused.Def fault) = reading_of text ≡ Err fault
MoveRefuses m (text ∷ []) (refused.Move fault) = (d : Design) × HasDesign text d × (move_fault (names_of d) m.comp m.pin m.from m.to ≡ Some fault)
MoveRefuses m texts r = ⊥
