-- Where the statements of both sections lie.
use Rattle.std.proofs.Common.{ℕ, ◌≤◌, Bool, List, Option, Some, None, is_some, is_none, subst, arith}
use Rattle.eco_def.specs.declared.design.NetStatement.{NetStatement}
use Rattle.eco_def.specs.declared.part.NetSection.{NetSection}
use Rattle.eco_def.specs.declared.part.Part.{Part}
use Rattle.eco_def.specs.declared.part.Part.TheVariants.{Passed, Units, Comps, Pins, Special, Nets}
use Rattle.eco_def.specs.declared.part.Sections.{Sections}
use Rattle.eco_def.specs.Reading.{Reading, left, IsInOrder}
use Rattle.eco_def.specs.Sections.{ArePlaced, SectionLies, StatementsLie, SectionsLie, PartLies, IsFresh, with_part}
use Rattle.eco_def.proofs.Placing.{placed_wider}

pub section_wider : (lo at lo' at' : ℕ) (s : NetSection) → lo' ≤ lo → at ≤ at' → SectionLies lo at s → SectionLies lo' at' s
section_wider lo at lo' at' s before behind lies = record { begins = omega (arith, before, lies.begins); counts = lies.counts; placed = lies.placed; ends = omega (arith, behind, lies.ends) }

-- the statements of special nets come to what has stood
special_comes : (first : Bool) (lo mid at : ℕ) (ss : List NetStatement) (nets : Option NetSection) → StatementsLie first lo mid None nets → ArePlaced mid at ss → StatementsLie (is_none nets) lo at (Some ss) nets
special_comes first lo mid at ss None stood placed = placed_wider mid at lo at ss stood (omega arith) placed
special_comes first lo mid at ss (Some s) stood placed = (mid, stood, placed)

-- the section of nets comes to what has stood
nets_come : (first : Bool) (lo mid at : ℕ) (special : Option (List NetStatement)) (s : NetSection) → StatementsLie first lo mid special None → SectionLies mid at s → StatementsLie (is_some special) lo at special (Some s)
nets_come first lo mid at None s stood lies = section_wider mid at lo at s stood (omega arith) lies
nets_come first lo mid at (Some ss) s stood lies = (mid, stood, lies)

-- one part more
pub lie_more : (start now new : Reading) (s : Sections) (p : Part) → IsFresh s p → ((lo hi : ℕ) → IsInOrder lo hi (left now) → IsInOrder lo hi (left new)) → SectionsLie start now s → PartLies now new p → SectionsLie start new (with_part s p)
lie_more start now new s Passed fresh order lie part = record { lie = λ lo hi o. let l = lie.lie lo hi o in (l.0, l.1, order l.0 hi l.2); special = lie.special; ordinary = lie.ordinary }
lie_more start now new s (Units n) fresh order lie part = record { lie = λ lo hi o. let l = lie.lie lo hi o in (l.0, l.1, order l.0 hi l.2); special = lie.special; ordinary = lie.ordinary }
lie_more start now new s (Comps cs) fresh order lie part = record { lie = λ lo hi o. let l = lie.lie lo hi o in (l.0, l.1, order l.0 hi l.2); special = lie.special; ordinary = lie.ordinary }
lie_more start now new s (Pins ps) fresh order lie part = record { lie = λ lo hi o. let l = lie.lie lo hi o in (l.0, l.1, order l.0 hi l.2); special = lie.special; ordinary = lie.ordinary }
lie_more start now new s (Special ss) fresh order lie part = record {
  lie = λ lo hi o.
      let l = lie.lie lo hi o in
      let p = part.0 l.0 hi l.2 in
      (p.0, special_comes s.special_first lo l.0 p.0 ss s.nets (subst (λ k. StatementsLie s.special_first lo l.0 k s.nets) fresh l.1) p.1, p.2);
  special = part.1;
  ordinary = lie.ordinary;
}
lie_more start now new s (Nets ns) fresh order lie part = record {
  lie = λ lo hi o.
      let l = lie.lie lo hi o in
      let p = part.0 l.0 hi l.2 in
      (p.0, nets_come s.special_first lo l.0 p.0 s.special ns (subst (λ k. StatementsLie s.special_first lo l.0 s.special k) fresh l.1) p.1, p.2);
  special = lie.special;
  ordinary = part.1;
}
