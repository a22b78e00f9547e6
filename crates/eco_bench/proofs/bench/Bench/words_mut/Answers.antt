use Rattle.std.proofs.Common.{refl, ap, arith, ℕ, List, take, drop, ◌++◌, length}
use Rattle.eco_bench.proofs.bench.Bench.words_mut.Goals as goal

abbrev after : List ℕ → ℕ → List ℕ → List ℕ
after items start w = take start items ++ (w ++ drop (length w) (drop start items))

pub returns : goal.returns
returns c =
    rw (← c.self.view_is) (
      (refl, λ w. ap (λ (n : ℕ). record { words = take n (after c.self.inside.words.items c.args.span.start w ++ drop (length (after c.self.inside.words.items c.args.span.start w)) c.self.inside.words.items); used = c.self.inside.used; standing = c.self.inside.standing.spans }) c.self.inside.words.ok.0),
      record { writes_back = tt; value = c.slice_mut.ensures.value; len = omega (arith, c.slice_mut.ensures.len) },
    )
