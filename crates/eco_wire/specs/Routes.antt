-- The table of routes. The whole request target (RFC 9112, section 3.2) is the path; no part of it is decoded.
use Rattle.std.specs.Prelude.{◌≡◌, ◌≢◌, ℕ, ◌<◌, ◌^◌, List, ◌++◌, length, All, codes, decimal, IsUtf8, slice_index, Result, Ok, Err}
use Rattle.eco_wire.specs.declared.request.Method.{Method}
use Rattle.eco_wire.specs.declared.request.Method.TheVariants.{Get, Post}
use Rattle.eco_wire.specs.declared.routes.Route.{Route}
use Rattle.eco_wire.specs.declared.routes.Route.TheVariants.{Front, Spares, Order, Revision, Plan, Commit, Withdraw, Hold, Release}
use Rattle.eco_wire.specs.declared.routes.RouteFault.{RouteFault}
use Rattle.eco_wire.specs.declared.routes.RouteFault.TheVariants.{NoPath, WrongMethod}

-- one or more bytes other than `/`
pub record IsSegment (text : List ℕ) : Type 0 where
  pub some : 0 < length text
  pub one : All (λ b. b ≢ 47) text

-- the paths of each route; a number is its decimal digits
abbrev pub IsPathOf : Route → List ℕ → Type 0
IsPathOf Front path = path ≡ codes "/front"
IsPathOf Spares path = path ≡ codes "/spares"
IsPathOf (Order place) path =
    (name : List ℕ) × IsSegment name × (path ≡ codes "/orders/" ++ name)
    × (place.start ≡ length (codes "/orders/")) × (place.len ≡ length name)
IsPathOf (Revision n) path = (n < 2 ^ 64) × (path ≡ codes "/revision/" ++ (decimal n ++ codes "/def"))
IsPathOf Plan path = path ≡ codes "/plan"
IsPathOf Commit path = path ≡ codes "/commit"
IsPathOf Withdraw path = path ≡ codes "/withdraw"
IsPathOf Hold path = path ≡ codes "/hold"
IsPathOf Release path = path ≡ codes "/release"

-- the one method of each route
abbrev pub method_for : Route → Method
method_for Front = Get
method_for Spares = Get
method_for (Order place) = Get
method_for (Revision n) = Get
method_for Plan = Post
method_for Commit = Post
method_for Withdraw = Post
method_for Hold = Post
method_for Release = Post

-- the path is a text in UTF-8, and one of the route's
pub record HasPath (route : Route) (path : List ℕ) : Type 0 where
  pub text : IsUtf8 path
  pub form : IsPathOf route path

-- the answer to a method and a path: the path's route, another method's refusal, or that no route has the path
abbrev pub Routes : Method → List ℕ → Result Route RouteFault → Type 0
Routes method path (Ok route) = HasPath route path × (method ≡ method_for route)
Routes method path (Err NoPath) = (route : Route) → ¬ (HasPath route path)
Routes method path (Err (WrongMethod allow)) =
    (route : Route) × HasPath route path × (allow ≡ method_for route) × (method ≢ allow)

-- a path of bytes has one route at most
abbrev pub RoutesAreOne : Type 0
RoutesAreOne =
    (path : List ℕ) (a b : Route) → ((i : ℕ) → slice_index path i < 256) → HasPath a path → HasPath b path → a ≡ b
