use Rattle.std.proofs.Common.{map, codes, Some}
use Rattle.eco_def.specs.Parsing.{size}
use Rattle.eco_def.specs.Grammar.{joint_within}
use Rattle.eco_text.specs.Tokens.{is_word}
use Rattle.eco_def.specs.View.{joint_in}
use Rattle.eco_def.specs.Reading.{left}
use Rattle.eco_def.proofs.Loops.{Loops}
use Rattle.eco_def.proofs.reader.Reader.joints.Given as goal

-- the joints that were read
abbrev pub invariant-joints : goal.invariant-joints
invariant-joints l = Loops (is_word (codes "(")) (joint_within (Some l.fn.room)) l.initial.self.words (map (joint_in l.initial.self.words.text) l.scratch.items) l.self.words

abbrev pub decreases-joints : goal.decreases-joints
decreases-joints l = size (left l.self.words)
