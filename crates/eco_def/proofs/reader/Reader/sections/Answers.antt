use Rattle.std.proofs.Common.{ℕ, List, [], ◌∷◌, ◌++◌, Some, refl, Ok, Err, not, subst, codes, arith}
use Rattle.std.proofs.Math.Path.{fun_ext}
use Rattle.std.proofs.lemmas.Result.{err_from_is_err_and}
use Rattle.eco_def.specs.declared.part.Sections.{Sections}
use Rattle.eco_def.specs.Design.{Part}
use Rattle.eco_def.specs.Grammar.{whole_room, have, part_within, part_new_within}
use Rattle.eco_text.specs.Tokens.{is_word}
use Rattle.eco_def.specs.Reading.{Reads}
use Rattle.eco_def.specs.Sections.{part_in}
use Rattle.eco_def.proofs.Loops.{begun, one_more, stuck}
use Rattle.eco_def.proofs.Parts.{one_more_part, seen_is}
use Rattle.eco_def.proofs.Rooms.{behind_none}
use Rattle.eco_def.proofs.Lying.{lie_more}
use Rattle.eco_def.proofs.reader.Reader.sections.Goals as goal

pub parts-init : goal.parts-init
parts-init c = (
  [],
  record { units = refl; comps = refl; pins = refl; special = refl; nets = refl; room = behind_none whole_room },
  begun (λ w. not (is_word (codes "END") w)) (part_within (Some whole_room)) c.args.self.now.words,
  record { lie = λ lo hi o. (lo, omega arith, o); special = tt; ordinary = tt },
)

pub returns-in_err-part : goal.returns-in_err-part
returns-in_err-part c =
    let i = c.parts.invariant in
    let p = err_from_is_err_and c.from_residual.result c.from_residual.ensures.1 in
    let none : List ℕ → Sections → List Part = λ text s. [] in
    let same = fun_ext (seen_is c.args.self.now.words.text c.parts.sections i.0 i.1) in
    let r = stuck (λ w. not (is_word (codes "END") w)) (part_within (Some whole_room)) part_in none c.args.self.now.words i.0 c.parts.self.words c.part.new.self.words c.in_err-part.field-0.0 i.2 c.parts-test.ensures
    (subst (λ r. Reads 1 part_in (part_new_within (Some r) (have i.0)) c.parts.self.words c.part.new.self.words (Err c.in_err-part.field-0.0)) i.1.room
    (subst (λ k. Reads 1 part_in (part_new_within (Some c.parts.sections.room) k) c.parts.self.words c.part.new.self.words (Err c.in_err-part.field-0.0)) same c.in_err-part.ensures.reads)) in
    rw (p.1, p.2) (record { text = r.text; order = r.order; value = r.value; lie = tt })

pub parts-preserved : goal.parts-preserved
parts-preserved c =
    let i = c.parts.invariant in
    let text = c.args.self.now.words.text in
    let part = c.in_ok-part.part in
    let same = fun_ext (seen_is text c.parts.sections i.0 i.1) in
    rw c.add.ensures (
      i.0 ++ part_in text part ∷ [],
      one_more_part text c.parts.sections i.0 part i.1 c.in_ok-part.ensures.fresh,
      rw i.2.text at (one_more (λ w. not (is_word (codes "END") w)) (part_within (Some whole_room)) part_in c.args.self.now.words i.0 c.parts.self.words c.part.new.self.words part i.2 c.parts-test.ensures
          (subst (λ r. Reads 1 part_in (part_new_within (Some r) (have i.0)) c.parts.self.words c.part.new.self.words (Ok part)) i.1.room
          (subst (λ k. Reads 1 part_in (part_new_within (Some c.parts.sections.room) k) c.parts.self.words c.part.new.self.words (Ok part)) same c.in_ok-part.ensures.reads))),
      lie_more c.args.self.now.words c.parts.self.words c.part.new.self.words c.parts.sections part c.in_ok-part.ensures.fresh c.in_ok-part.ensures.reads.order i.3 c.in_ok-part.ensures.lies,
    )
