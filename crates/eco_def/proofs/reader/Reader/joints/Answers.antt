use Rattle.std.proofs.Common.{map, codes, sym, ◌∙◌, subst, nat_lt, Ok, Err, Some}
use Rattle.std.proofs.lemmas.List.{length-map}
use Rattle.std.proofs.lemmas.Result.{err_from_is_err_and}
use Rattle.eco_def.specs.Parsing.{where_room}
use Rattle.eco_text.specs.Tokens.{is_word}
use Rattle.eco_def.specs.Grammar.{joint}
use Rattle.eco_def.specs.Grammar.{joint_within}
use Rattle.eco_def.specs.View.{joint_in, joints_in}
use Rattle.eco_def.specs.Reading.{Reads}
use Rattle.eco_def.proofs.Loops.{one_pushed, stuck}
use Rattle.eco_def.proofs.reader.Reader.joints.Goals as goal

pub joints-preserved : goal.joints-preserved
joints-preserved c =
    one_pushed (is_word (codes "(")) (joint_within (Some c.args.room)) joint_in c.args.self.now.words c.joints.scratch.items c.push.new.self.items c.joints.self.words c.next_joint.new.self.words c.in_ok-joint.joint
    c.in_ok-push.ensures.items c.joints.invariant c.joints-test.ensures
    (subst (λ k. Reads 1 joint_in (where_room (nat_lt k c.args.room) joint) c.joints.self.words c.next_joint.new.self.words (Ok c.in_ok-joint.joint)) (c.len.ensures ∙ c.joints.scratch.ok.0 ∙ sym (length-map c.joints.scratch.items (joint_in c.args.self.now.words.text))) c.in_ok-joint.ensures)

pub returns-in_err-joint : goal.returns-in_err-joint
returns-in_err-joint c =
    let p = err_from_is_err_and c.from_residual.result c.from_residual.ensures.1 in
    rw (p.1, p.2)
    (stuck (is_word (codes "(")) (joint_within (Some c.args.room)) joint_in joints_in c.args.self.now.words (map (joint_in c.args.self.now.words.text) c.joints.scratch.items) c.joints.self.words c.next_joint.new.self.words c.in_err-joint.field-0.0
    c.joints.invariant c.joints-test.ensures
    (subst (λ k. Reads 1 joint_in (where_room (nat_lt k c.args.room) joint) c.joints.self.words c.next_joint.new.self.words (Err c.in_err-joint.field-0.0)) (c.len.ensures ∙ c.joints.scratch.ok.0 ∙ sym (length-map c.joints.scratch.items (joint_in c.args.self.now.words.text))) c.in_err-joint.ensures))
