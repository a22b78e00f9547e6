use Rattle.std.proofs.Common.{◌≡◌, ◌++◌, [], ◌∷◌, ap, ◌∙◌, arith, length}
use Rattle.std.proofs.lemmas.Grind.{common_steps}
use Rattle.eco_overlay.specs.declared.stretch.Stretch.{Stretch}
use Rattle.eco_overlay.proofs.Stretches.{push_stretch}
use Rattle.eco_overlay.proofs.overlay.Overlay.add.Goals as goal

pub invariant_of-self-2 : goal.invariant_of-self-2
invariant_of-self-2 c =
    let s : Stretch = record { start = c.args.start; end = c.args.end; upto = c.len-upto.result } in
    let bytes = c.self.inside.bytes.items in
    let ss = c.self.inside.stretches.items in
    let len : c.len-upto.result ≡ length (bytes ++ c.args.bytes.now) = grind (arith, common_steps) in
    let q : c.push.new.self.items ≡ ss ++ s ∷ [] = grind (arith, common_steps) in
    rw (q, c.in_ok-extend_from_slice.ensures.items) (push_stretch bytes c.args.bytes.now 0 ss s c.self.invariant len).1

pub returns : goal.returns
returns c =
    let s : Stretch = record { start = c.args.start; end = c.args.end; upto = c.len-upto.result } in
    let bytes = c.self.inside.bytes.items in
    let ss = c.self.inside.stretches.items in
    let len : c.len-upto.result ≡ length (bytes ++ c.args.bytes.now) = grind (arith, common_steps) in
    let q : c.push.new.self.items ≡ ss ++ s ∷ [] = grind (arith, common_steps) in
    rw (q, c.in_ok-extend_from_slice.ensures.items) ((push_stretch bytes c.args.bytes.now 0 ss s c.self.invariant len).0 ∙ ap (λ es. es ++ record { start = c.args.start; end = c.args.end; bytes = c.args.bytes.now } ∷ []) c.self.view_is)
