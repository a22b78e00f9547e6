-- A path has one route at most.
use Rattle.std.proofs.Common.{◌≡◌, ℕ, List, ◌++◌, length, drop, refl, sym, ap, ◌∙◌}
use Rattle.std.specs.Prelude.{decimal, codes}
use Rattle.std.proofs.lemmas.List.{append_cancel_right}
use Rattle.std.proofs.lemmas.Fmt.{decimal_injective}
use Rattle.eco_wire.specs.Routes.{IsPathOf, RoutesAreOne}
use Rattle.eco_wire.specs.declared.request.Span.{Span}
use Rattle.eco_wire.specs.declared.routes.Route.{Route}
use Rattle.eco_wire.specs.declared.routes.Route.TheVariants.{Front, Spares, Order, Revision, Plan, Commit, Withdraw, Hold, Release}
use Rattle.eco_wire.specs.Table.{pattern_of}
use Rattle.eco_wire.proofs.Seeking.{finds}

same_span : (a b : Span) → a.start ≡ b.start → a.len ≡ b.len → a ≡ b
same_span a b start len = λ i. record { start = start i; len = len i }

one : (path : List ℕ) (a b : Route) → pattern_of a ≡ pattern_of b → IsPathOf a path → IsPathOf b path → a ≡ b
one path Front Front e x y = refl
one path Spares Spares e x y = refl
one path (Order p) (Order q) e (name, segment, is, start, len) (other, also, was, begins, size) =
    let same : name ≡ other = ap (drop 8) (sym is ∙ was) in
    ap Order (same_span p q (start ∙ sym begins) (len ∙ (ap length same ∙ sym size)))
one path (Revision n) (Revision k) e (small, is) (little, was) =
    let same : decimal n ++ codes "/def" ≡ decimal k ++ codes "/def" = ap (drop 10) (sym is ∙ was) in
    ap Revision (decimal_injective n k small little (append_cancel_right (decimal n) (decimal k) (codes "/def") same))
one path Plan Plan e x y = refl
one path Commit Commit e x y = refl
one path Withdraw Withdraw e x y = refl
one path Hold Hold e x y = refl
one path Release Release e x y = refl
one path _ _ e x y = cc

pub routes_are_one : RoutesAreOne
routes_are_one path a b bytes x y =
    let found = finds a path bytes x.form in
    let also = finds b path bytes y.form in
    let same : pattern_of a ≡ pattern_of b = cc in
    one path a b same x.form y.form
