-- The table of routes as `matchit` keeps it.
use Rattle.std.specs.Prelude.{◌≡◌, ℕ, List, [], ◌++◌, codes, Result, Ok, Err}
use Rattle.matchit.specs.Rows.{RowsOf}
use Rattle.matchit.specs.Order.{placed}
use Rattle.matchit.specs.Route.{Scan, parse_route}
use Rattle.matchit.specs.Router.{RouteOf, route_from}
use Rattle.matchit.specs.declared.error.InsertError.{InsertError}
use Rattle.eco_wire.specs.Routes.{IsSegment}
use Rattle.eco_wire.specs.declared.routes.Route.{Route}
use Rattle.eco_wire.specs.declared.routes.Route.TheVariants as route
use Rattle.eco_wire.specs.declared.routes.Pattern.{Pattern}
use Rattle.eco_wire.specs.declared.routes.Pattern.TheVariants.{Front, Spares, Order, Revision, Plan, Commit, Withdraw, Hold, Release}

-- the routes with one more, where its text can be read
abbrev pub with_route : Result Scan InsertError → Pattern → RowsOf (RouteOf Pattern) → RowsOf (RouteOf Pattern)
with_route (Ok s) pattern rows = placed (s.pattern, route_from s pattern) rows
with_route (Err e) pattern rows = rows

abbrev pub with_text : List ℕ → Pattern → RowsOf (RouteOf Pattern) → RowsOf (RouteOf Pattern)
with_text text pattern rows = with_route (parse_route text) pattern rows

-- the nine routes
unfoldable pub table : RowsOf (RouteOf Pattern)
table =
    with_text (codes "/release") Release
    (with_text (codes "/hold") Hold
    (with_text (codes "/withdraw") Withdraw
    (with_text (codes "/commit") Commit
    (with_text (codes "/plan") Plan
    (with_text (codes "/revision/{n}/def") Revision
    (with_text (codes "/orders/{name}") Order
    (with_text (codes "/spares") Spares
    (with_text (codes "/front") Front []))))))))

-- what a path of a pattern looks like
abbrev pub HasForm : Pattern → List ℕ → Type 0
HasForm Front path = path ≡ codes "/front"
HasForm Spares path = path ≡ codes "/spares"
HasForm Order path = (name : List ℕ) × IsSegment name × (path ≡ codes "/orders/" ++ name)
HasForm Revision path = (digits : List ℕ) × IsSegment digits × (path ≡ codes "/revision/" ++ (digits ++ codes "/def"))
HasForm Plan path = path ≡ codes "/plan"
HasForm Commit path = path ≡ codes "/commit"
HasForm Withdraw path = path ≡ codes "/withdraw"
HasForm Hold path = path ≡ codes "/hold"
HasForm Release path = path ≡ codes "/release"

-- the pattern of each route
abbrev pub pattern_of : Route → Pattern
pattern_of route.Front = Front
pattern_of route.Spares = Spares
pattern_of (route.Order place) = Order
pattern_of (route.Revision n) = Revision
pattern_of route.Plan = Plan
pattern_of route.Commit = Commit
pattern_of route.Withdraw = Withdraw
pattern_of route.Hold = Hold
pattern_of route.Release = Release
