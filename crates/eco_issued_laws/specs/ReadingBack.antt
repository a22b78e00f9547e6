-- What is wanted of new pins and nets, and what then holds of the issued text.
use Rattle.std.specs.Prelude.{◌≡◌, ℕ, ◌==◌, ◌&&◌, ◌||◌, not, Bool, true, false, List, [], ◌∷◌, ◌++◌, length, Ok, codes}
use Rattle.std.specs.List.{list_all, IsDistinct}
use Rattle.std.specs.Str.{bytes_eq}
use Rattle.eco_text.specs.Tokens.{can_name}
use Rattle.eco_text.specs.Words.{plain_word}
use Rattle.eco_text.specs.Tokens.{is_name}
use Rattle.eco_def.specs.Design.{Design}
use Rattle.eco_def.specs.Grammar.{design_of}
use Rattle.eco_def.specs.Named.{NamedDesign, names_of}
use Rattle.eco_issued_laws.specs.Changes.{NewJoint, Changes, stands, has_statement, stated_first, changes_of}
use Rattle.eco_issued_laws.specs.Issued.{issued_design, issued_text, edits, InOrder}

-- a pin that stands on its net already, or whose names can be printed
abbrev pub can_stand : NamedDesign → NewJoint → Bool
can_stand d n = stands (d.special ++ d.nets) n || (can_name n.comp && can_name n.pin)

-- the nets that get their first statement: the new ones, and those that only top pins name
abbrev pub first_stated : NamedDesign → List NewJoint → List (List ℕ) → List (List ℕ)
first_stated d joints nets = nets ++ stated_first d joints

-- What is wanted of the pins that a design's nets get, and of its new nets.
pub record CanGet (d : Design) (joints : List NewJoint) (nets : List (List ℕ)) : Type 0 where
  -- the count word of NETS isn't quoted
  pub count : d.nets.count.quoted ≡ false
  pub pins : list_all (can_stand (names_of d)) joints ≡ true
  pub names : list_all can_name nets ≡ true
  -- no new net has a statement in NETS
  pub new : list_all (λ n. not (has_statement (names_of d).nets n)) nets ≡ true
  -- nets that get their first statement differ, and none is MUSTJOIN, which begins another kind of statement
  pub distinct : IsDistinct bytes_eq (first_stated (names_of d) joints nets)
  pub ordinary : list_all (λ n. not (bytes_eq n (codes "MUSTJOIN"))) (first_stated (names_of d) joints nets) ≡ true

-- The issued text has a design: by names, that of the text with these pins on their nets, and with these new nets.
abbrev pub ReadsBack : Type 0
ReadsBack = (text : List ℕ) (d : Design) (joints : List NewJoint) (nets : List (List ℕ)) → design_of text ≡ Ok d → CanGet d joints nets →
    (e : Design) × (design_of (issued_text text d joints nets) ≡ Ok e) × (names_of e ≡ issued_design (changes_of (names_of d) joints nets) (names_of d))

-- The edits lie one after another within the text, whatever they are: bytes outside of them stay.
abbrev pub Outside : Type 0
Outside = (text : List ℕ) (d : Design) (o : Changes) → design_of text ≡ Ok d → InOrder 0 (length text) (edits text o d)
