use Rattle.std.proofs.Common.{◌≡◌, List, [], ℕ, Bor, map, ap, ◌∙◌}
use Rattle.std.specs.Option.{option_map}
use Rattle.std.specs.Ordering.{eq_by_cmp, nat_cmp}
use Rattle.std.specs.Cmp.Lexicographic.{slice_cmp}
use Rattle.std.specs.Str.{bytes_eq}
use Rattle.std.proofs.lemmas.Map.Text.{is_eq-slice_cmp}
use Rattle.eco_order_file.specs.Repeats.{first_twice}
use Rattle.eco_order_file.proofs.Again.{first_again-map, first_again-alike}
use Rattle.eco_order_file.proofs.keeping.twice_of.Goals as goal

pub returns : goal.returns
returns c =
    let f = λ (k : Bor (List ℕ)). k.now in
    ap (option_map f) (c.in_ok-first_twice.ensures ∙ first_again-alike _ (λ a b. bytes_eq a.now b.now) [] c.args.keys.now (λ a b. is_eq-slice_cmp a.now b.now))
    ∙ first_again-map f bytes_eq [] c.args.keys.now
