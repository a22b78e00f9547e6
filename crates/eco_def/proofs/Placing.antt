-- Where statements lie, one after another.
use Rattle.std.proofs.Common.{◌≡◌, ℕ, ◌<◌, ◌≤◌, Bool, true, false, List, [], ◌∷◌, ◌++◌, Option, Some, None, is_some, refl, arith}
use Rattle.std.specs.Option.{option_map}
use Rattle.eco_text.specs.Words.{Walk, finished, open_quote, word_then}
use Rattle.eco_def.specs.declared.design.NetStatement.{NetStatement}
use Rattle.eco_def.specs.Reading.{IsInOrder}
use Rattle.eco_def.specs.Sections.{ArePlaced, AreSpecial, AreOrdinary, AreOfKind}

-- one statement more
pub placed_push : (lo at : ℕ) (ss : List NetStatement) (s : NetStatement) → ArePlaced lo at ss → at ≤ s.start → s.start < s.end → ArePlaced lo s.end (ss ++ s ∷ [])
placed_push lo at [] s before starts ends = (omega (arith, before, starts), ends, omega arith)
placed_push lo at (t ∷ ss) s before starts ends = (before.0, before.1, placed_push t.end at ss s before.2 starts ends)

-- the same statements, between places further apart
pub placed_wider : (lo at lo' at' : ℕ) (ss : List NetStatement) → lo' ≤ lo → at ≤ at' → ArePlaced lo at ss → ArePlaced lo' at' ss
placed_wider lo at lo' at' [] before behind placed = omega (arith, before, behind, placed)
placed_wider lo at lo' at' (s ∷ ss) before behind placed = (omega (arith, before, placed.0), placed.1, placed_wider s.end at s.end at' ss (omega arith) behind placed.2)

pub special_push : (ss : List NetStatement) (s : NetStatement) → AreSpecial ss → s.special ≡ true → AreSpecial (ss ++ s ∷ [])
special_push [] s before is = (is, tt)
special_push (t ∷ ss) s before is = (before.0, special_push ss s before.1 is)

pub ordinary_push : (ss : List NetStatement) (s : NetStatement) → AreOrdinary ss → s.special ≡ false → AreOrdinary (ss ++ s ∷ [])
ordinary_push [] s before is = (is, tt)
ordinary_push (t ∷ ss) s before is = (before.0, ordinary_push ss s before.1 is)

pub kind_push : (special : Bool) (ss : List NetStatement) (s : NetStatement) → AreOfKind special ss → s.special ≡ special → AreOfKind special (ss ++ s ∷ [])
kind_push true ss s before is = special_push ss s before is
kind_push false ss s before is = ordinary_push ss s before is

pub kind_none : (special : Bool) → AreOfKind special []
kind_none true = tt
kind_none false = tt

pub is_some-map : {A B : Type 0} (f : A → B) (o : Option A) → is_some (option_map f o) ≡ is_some o
is_some-map f None = refl
is_some-map f (Some x) = refl

-- words in order have room
pub room : (lo hi : ℕ) (u : Walk) → IsInOrder lo hi u → lo ≤ hi
room lo hi (finished place) order = omega (arith, order.0, order.1)
room lo hi (open_quote place) order = omega (arith, order.0, order.1)
room lo hi (word_then w u) order = let more = room w.end hi u order.2 in omega (arith, order.0, order.1, more)

-- words in order are so from an earlier place on, too
pub earlier : (lo lo' hi : ℕ) (u : Walk) → lo' ≤ lo → IsInOrder lo hi u → IsInOrder lo' hi u
earlier lo lo' hi (finished place) le order = (omega (arith, le, order.0), order.1)
earlier lo lo' hi (open_quote place) le order = (omega (arith, le, order.0), order.1)
earlier lo lo' hi (word_then w u) le order = (omega (arith, le, order.0), order.1, order.2)
