-- From what `matchit` finds in the table to the route of a path.
use Rattle.std.proofs.Common.{Fits, w8, arith, refl, append-nil, [], ◌∷◌, true, ◌≡◌, ℕ, ◌<◌, List, Option, Some, None, get_or, inl, inr, ◌++◌, sym, ap, ◌∙◌, subst}
use Rattle.std.specs.Prelude.{codes, option_map, IsUtf8, MatchOption}
use Rattle.matchit.specs.Rows.{RowsOf, param_token}
use Rattle.matchit.specs.Route.{scan}
use Rattle.matchit.specs.Seek.{first}
use Rattle.matchit.specs.Router.{RouteOf}
use Rattle.eco_wire.specs.Routes.{IsPathOf, HasPath}
use Rattle.eco_wire.specs.Table.{table, HasForm, pattern_of}
use Rattle.eco_wire.specs.declared.routes.Pattern.{Pattern}
use Rattle.eco_wire.specs.declared.routes.Pattern.TheVariants.{Order, Revision}
use Rattle.eco_wire.specs.declared.routes.Route.{Route}
use Rattle.eco_wire.proofs.Seeking.{found_at, finds}
use Rattle.eco_wire.proofs.Matching.{Matches, HasRow, sound, plain_match, front_match, param_match, small_bytes, small_all}

abbrev pub AreBytes : List ℕ → Type 0
AreBytes path = (i : ℕ) → Fits w8 (get_or path i 0)

below : (path : List ℕ) → AreBytes path → (i : ℕ) → get_or path i 0 < 256
below path bytes i = omega (arith, bytes i)

-- a path that isn't found is no route's
pub not_found : (rows : RowsOf (RouteOf Pattern)) (path : List ℕ) → AreBytes path → rows ≡ table
    → first rows path ≡ None → (route : Route) → ¬ (HasPath route path)
not_found rows path bytes is missing route has =
    let found = finds route path (below path bytes) has.form in
    let none : found_at path ≡ None =
    ap (option_map (λ (r : RouteOf Pattern). r.value)) (ap (λ rs. first rs path) (sym is) ∙ missing) in
    let clash : Some (pattern_of route) ≡ None = sym found ∙ none in
    cc

plain_form : (w t path : List ℕ) → small_bytes w ≡ true → t ≡ w → Matches t path → path ≡ w
plain_form w t path small is m = plain_match w path (small_all w small) (subst (λ s. Matches s path) is m)

order_form : (t path : List ℕ) → ((i : ℕ) → get_or path i 0 < 256) → t ≡ codes "/orders/" ++ param_token ∷ [] → Matches t path
    → HasForm Order path
order_form t path bytes is m =
    let (rest, cut, n) = front_match (codes "/orders/") (param_token ∷ []) path (small_all (codes "/orders/") refl) (subst (λ s. Matches s path) is m) in
    let byte : get_or rest 0 0 < 256 = subst (λ p. get_or p 8 0 < 256) cut (bytes 8) in
    let (name, behind, segment, join, end) = param_match [] rest byte n in
    let all : rest ≡ name = join ∙ (ap (λ r. name ++ r) end ∙ append-nil name) in
    (name, segment, cut ∙ ap (λ r. codes "/orders/" ++ r) all)

revision_form : (t path : List ℕ) → ((i : ℕ) → get_or path i 0 < 256)
    → t ≡ codes "/revision/" ++ param_token ∷ codes "/def" → Matches t path → HasForm Revision path
revision_form t path bytes is m =
    let (rest, cut, n) = front_match (codes "/revision/") (param_token ∷ codes "/def") path (small_all (codes "/revision/") refl) (subst (λ s. Matches s path) is m) in
    let byte : get_or rest 0 0 < 256 = subst (λ p. get_or p 10 0 < 256) cut (bytes 10) in
    let (digits, behind, segment, join, end) = param_match (codes "/def") rest byte n in
    let all : rest ≡ digits ++ codes "/def" =
    join ∙ ap (λ r. digits ++ r) (plain_match (codes "/def") behind (small_all (codes "/def") refl) end) in
    (digits, segment, cut ∙ ap (λ r. codes "/revision/" ++ r) all)

with_value : (row other : RouteOf Pattern) (path : List ℕ) → row ≡ other → HasForm other.value path → HasForm row.value path
with_value row other path same form = subst (λ r. HasForm r.value path) (sym same) form

-- a row of the table whose pattern the path has
row_form : (row : RouteOf Pattern) (t path : List ℕ) → ((i : ℕ) → get_or path i 0 < 256) → HasRow t row table → Matches t path
    → HasForm row.value path
unfolding table scan
row_form row t path bytes (inl (is, same)) m =
    with_value row _ path same (plain_form (codes "/commit") t path refl is m)
row_form row t path bytes (inr (inl (is, same))) m =
    with_value row _ path same (plain_form (codes "/front") t path refl is m)
row_form row t path bytes (inr (inr (inl (is, same)))) m =
    with_value row _ path same (plain_form (codes "/hold") t path refl is m)
row_form row t path bytes (inr (inr (inr (inl (is, same))))) m =
    with_value row _ path same (order_form t path bytes is m)
row_form row t path bytes (inr (inr (inr (inr (inl (is, same)))))) m =
    with_value row _ path same (plain_form (codes "/plan") t path refl is m)
row_form row t path bytes (inr (inr (inr (inr (inr (inl (is, same))))))) m =
    with_value row _ path same (plain_form (codes "/release") t path refl is m)
row_form row t path bytes (inr (inr (inr (inr (inr (inr (inl (is, same)))))))) m =
    with_value row _ path same (revision_form t path bytes is m)
row_form row t path bytes (inr (inr (inr (inr (inr (inr (inr (inl (is, same))))))))) m =
    with_value row _ path same (plain_form (codes "/spares") t path refl is m)
row_form row t path bytes (inr (inr (inr (inr (inr (inr (inr (inr (inl (is, same)))))))))) m =
    with_value row _ path same (plain_form (codes "/withdraw") t path refl is m)
row_form row t path bytes (inr (inr (inr (inr (inr (inr (inr (inr (inr none))))))))) m = absurd none

-- a path that is found has the form of the pattern
pub found_form : (rows : RowsOf (RouteOf Pattern)) (path : List ℕ) (row : RouteOf Pattern) → AreBytes path → rows ≡ table
    → first rows path ≡ Some row → HasForm row.value path
found_form rows path row bytes is found =
    let (t, stands, m) = sound path 0 table row (ap (λ rs. first rs path) (sym is) ∙ found) in
    row_form row t path (below path bytes) stands m

-- a path that is found is the path of the found pattern alone
pub read_found : (rows : RowsOf (RouteOf Pattern)) (path : List ℕ) (row : RouteOf Pattern) (read : Option Route)
    → AreBytes path → IsUtf8 path → rows ≡ table → first rows path ≡ Some row
    → MatchOption read ((route : Route) → pattern_of route ≡ row.value → ¬ (IsPathOf route path)) (λ route. IsPathOf route path)
    → MatchOption read ((route : Route) → ¬ (HasPath route path)) (λ route. HasPath route path)
read_found rows path row (Some route) bytes text is found reads = record { text = text; form = reads }
read_found rows path row None bytes text is found reads = λ route has.
    let value : Some row.value ≡ Some (pattern_of route) =
    sym (ap (option_map (λ (r : RouteOf Pattern). r.value)) (ap (λ rs. first rs path) (sym is) ∙ found))
    ∙ finds route path (below path bytes) has.form in
    let same : pattern_of route ≡ row.value = cc in
    reads route same has.form
