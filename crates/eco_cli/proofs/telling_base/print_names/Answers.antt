use Rattle.std.proofs.Common.{◌≡◌, ◌≤◌, List, [], ◌∷◌, ◌++◌, length, drop, get_or, ap, arith}
use Rattle.std.specs.List.{flat_map}
use Rattle.std.proofs.lemmas.List.{take_rest}
use Rattle.std.proofs.lemmas.Result.{err_from_is_err_and}
use Rattle.eco_text.proofs.Sequence.{then, longer}
use Rattle.eco_net.specs.Netlist.{Name}
use Rattle.eco_cli.specs.Telling.{names_text}
use Rattle.eco_cli.proofs.telling_base.print_names.Goals as goal

-- the first name, and the others each behind a comma
first_and_rest : (ns : List Name) (n : Name) → 1 ≤ length ns → n ≡ get_or ns 0 n → n ++ flat_map (λ m. 44 ∷ m) (drop 1 ns) ≡ names_text ns
first_and_rest [] n some is = absurd (omega (arith, some))
first_and_rest (m ∷ ms) n some is = ap (λ k. k ++ flat_map (λ m. 44 ∷ m) ms) is

pub returns-in_err-write_piece-in-len1-up : goal.returns-in_err-write_piece-in-len1-up
returns-in_err-write_piece-in-len1-up g c =
    let p = err_from_is_err_and c.from_residual.result c.from_residual.ensures.1 in
    rw (p.1, p.2, ← first_and_rest c.args.names.now c.first-item.result c.in-len1-up.len_at_least c.first-item.is)
    (longer _ (rw c.bytes.ensures at c.in_err-write_piece-in-len1-up.ensures))

pub returns-in_ok-write_piece-in-len1-up : goal.returns-in_ok-write_piece-in-len1-up
returns-in_ok-write_piece-in-len1-up g c =
    rw (← first_and_rest c.args.names.now c.first-item.result c.in-len1-up.len_at_least c.first-item.is)
    (then (rw c.bytes.ensures at c.in_ok-write_piece-in-len1-up.ensures) (rw (take_rest c.args.names.now 1) at c.print_behind.ensures))
