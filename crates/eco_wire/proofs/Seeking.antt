-- What `matchit` finds in the table of routes, for each path of the table.
use Rattle.std.proofs.Common.{◌≡◌, ◌≢◌, ℕ, zero, suc, ◌-◌, ◌<◌, ◌^◌, Bool, true, false, cond, ltb, ◌&&◌, List, [], ◌∷◌, ◌++◌, length, length-append, drop, get_or, Option, Some, None, refl, ap, ◌∙◌, arith, subst}
use Rattle.std.specs.Prelude.{All, codes, decimal, option_map, nat_eq}
use Rattle.std.specs.Char.{is_ascii_digit}
use Rattle.std.specs.List.{ends_with}
use Rattle.std.proofs.lemmas.List.Elements.{All-head, All-tail, All-cons, All-nil}
use Rattle.std.proofs.lemmas.Bool.{ne_eqb, lt-ltb}
use Rattle.std.specs.Cmp.Lexicographic.{pointwise}
use Rattle.std.proofs.Math.Seq.{drop-append_seam}
use Rattle.std.proofs.lemmas.Fmt.{digits_decimal, decimal_nonempty}
use Rattle.eco_wire.proofs.Digits.{AreDigits, own, both, digit_range}
use Rattle.matchit.specs.Rows.{RowsOf, param_token}
use Rattle.matchit.specs.Seek.{own as ending, step, or_else, seek, first, param_step, segment, has_slash, longest_suffix, with_suffix, better, slash}
use Rattle.matchit.specs.Router.{RouteOf}
use Rattle.matchit.proofs.OnLiterals.{matchit_on_literals}
use Rattle.matchit.specs.Route.{scan}
use Rattle.eco_wire.specs.Routes.{IsSegment, IsPathOf}
use Rattle.eco_wire.specs.declared.routes.Route.{Route}
use Rattle.eco_wire.specs.declared.routes.Route.TheVariants as route
use Rattle.eco_wire.specs.Table.{table, pattern_of}
use Rattle.eco_wire.specs.declared.routes.Pattern.{Pattern}
use Rattle.eco_wire.specs.declared.routes.Pattern.TheVariants.{Order, Revision}

abbrev pub IsPlain : List ℕ → Type 0
IsPlain text = All (λ b. b ≢ 47) text

plain_segment : (name : List ℕ) → IsPlain name → has_slash name ≡ false
plain_segment [] plain = refl
plain_segment (b ∷ bs) plain =
    ap (λ test. cond test true (has_slash bs)) (ne_eqb b 47 (All-head (λ b. b ≢ 47) b bs plain)) ∙ plain_segment bs (All-tail (λ b. b ≢ 47) b bs plain)

cut_segment : (name rest : List ℕ) → IsPlain name → segment (name ++ slash ∷ rest) ≡ name ++ slash ∷ []
cut_segment [] rest plain = refl
cut_segment (b ∷ bs) rest plain =
    ap (λ test. cond test (b ∷ []) (b ∷ segment (bs ++ slash ∷ rest))) (ne_eqb b 47 (All-head (λ b. b ≢ 47) b bs plain))
    ∙ ap (λ t. b ∷ t) (cut_segment bs rest (All-tail (λ b. b ≢ 47) b bs plain))

-- a segment with something in front of its slash is cut at the slash
slash_longest : (name : List ℕ) → 0 < length name → better (name ++ slash ∷ []) [] (slash ∷ []) ≡ slash ∷ []
slash_longest name some =
    ap (λ test. cond test (slash ∷ []) []) (ap (λ t. t && ends) (lt-ltb 1 (length seg) (omega (arith, length-append name (slash ∷ [])))) ∙ at_end)
  where
    seg : List ℕ
    seg = name ++ slash ∷ []

    ends : Bool
    ends = ends_with nat_eq seg (slash ∷ [])

    at_end : ends ≡ true
    at_end =
        ap (pointwise nat_eq (slash ∷ []))
        (ap (λ n. drop n seg) (omega (arith, length-append name (slash ∷ []))) ∙ drop-append_seam name (slash ∷ []))

last_off : (name : List ℕ) → length (name ++ slash ∷ []) - 1 ≡ length name
last_off name = omega (arith, length-append name (slash ∷ []))

suc-sub-one : (n : ℕ) → suc n - 1 ≡ n
suc-sub-one n = omega arith

module _ {K : Type 0} where
  -- the rows after these bytes
  abbrev pub steps : List ℕ → RowsOf K → RowsOf K
  steps [] rs = rs
  steps (b ∷ bs) rs = steps bs (step b rs)

  -- what the rows after some bytes find, the rows find after those bytes
  pub along : (bs : List ℕ) (rs : RowsOf K) (path : List ℕ) (k : K)
      → seek 0 (steps bs rs) path ≡ Some k → seek 0 rs (bs ++ path) ≡ Some k
  unfolding seek
  along [] rs path k found = found
  along (b ∷ bs) rs path k found = rw (along bs (step b rs) path k found) refl

  -- bytes that are skipped don't count
  skipped : (bs : List ℕ) (rs : RowsOf K) (path : List ℕ) → seek (length bs) rs (bs ++ path) ≡ seek 0 rs path
  unfolding seek
  skipped [] rs path = refl
  skipped (b ∷ bs) rs path = skipped bs rs path

  no_param : (path : List ℕ) → (param_step {K = K} [] path).1 ≡ []
  unfolding param_step
  no_param path = by_slash (has_slash path)
    where
      by_slash : (t : Bool) → (cond {A = ℕ × RowsOf K} t (0, []) (length path, [])).1 ≡ []
      by_slash true = refl
      by_slash false = refl

  neither : {x y : Option K} → x ≡ None → y ≡ None → or_else x (or_else y None) ≡ None
  neither e f = rw (e, f) refl

  second : {x y : Option K} (z : Option K) {k : K} → x ≡ None → y ≡ Some k → or_else x (or_else y z) ≡ Some k
  second z e f = rw (e, f) refl

  -- without rows nothing is found
  pub nothing : (skip : ℕ) (path : List ℕ) → seek {K = K} skip [] path ≡ None
  unfolding seek
  nothing skip [] = refl
  nothing (suc skip) (b ∷ path) = nothing skip path
  nothing zero (b ∷ path) =
      let skip = (param_step {K = K} [] (b ∷ path)).0 - 1 in
      neither (nothing zero path) (ap (λ rs. seek skip rs path) (no_param (b ∷ path)) ∙ nothing skip path)

  -- all bytes that are skipped lead to the end
  to_end : (path : List ℕ) (rs : RowsOf K) → seek (length path) rs path ≡ ending rs
  unfolding seek
  to_end [] rs = refl
  to_end (b ∷ path) rs = to_end path rs

  -- no byte is a parameter's token
  no_byte : (b : ℕ) (t : List ℕ) (k : K) → b < 256 → step b ((param_token ∷ t, k) ∷ []) ≡ []
  no_byte b t k small = ap (λ test. cond test ((t, k) ∷ []) []) (ne_eqb 256 b (λ same. absurd (omega arith)))

  to_name : (name : List ℕ) (k : K) → has_slash name ≡ false → param_step (([], k) ∷ []) name ≡ (length name, ([], k) ∷ [])
  unfolding param_step
  to_name name k plain = ap (λ test. cond test (0, []) (length name, ([], k) ∷ [])) plain

  -- a parameter at the end of the rows takes all of a segment
  pub at_name : (name : List ℕ) (k : K) → IsSegment name → get_or name 0 0 < 256
      → seek 0 ((param_token ∷ [], k) ∷ []) name ≡ Some k
  unfolding seek
  at_name [] k segment byte = absurd (omega (arith, segment.some))
  at_name (b ∷ path) k segment byte =
      second _ (ap (λ rs. seek 0 rs path) (no_byte b [] k byte) ∙ nothing 0 path)
      (ap (λ (found : ℕ × RowsOf K). seek (found.0 - 1) found.1 path) (to_name (b ∷ path) k (plain_segment (b ∷ path) segment.one))
      ∙ (ap (λ n. seek n (([], k) ∷ []) path) (suc-sub-one (length path)) ∙ to_end path (([], k) ∷ [])))

  to_front : (name rest : List ℕ) (k : K) → segment (name ++ slash ∷ rest) ≡ name ++ slash ∷ [] → 0 < length name
      → param_step ((slash ∷ rest, k) ∷ []) (name ++ slash ∷ rest) ≡ (length name, (slash ∷ rest, k) ∷ [])
  unfolding param_step
  to_front name rest k cut some =
      ap (λ seg. pick seg (longest_suffix seg rows)) cut
      ∙ (ap (pick (name ++ slash ∷ [])) (slash_longest name some)
      ∙ ap (λ n. (n, rows)) (last_off name))
    where
      rows : RowsOf K
      rows = (slash ∷ rest, k) ∷ []

      pick : List ℕ → List ℕ → ℕ × RowsOf K
      pick seg suffix =
          cond (ltb 0 (length suffix)) (length seg - length suffix, with_suffix suffix rows)
          (cond (has_slash (name ++ slash ∷ rest)) (0, []) (length (name ++ slash ∷ rest), rows))

  -- a parameter takes a segment up to what stands after it
  pub at_front : (name rest : List ℕ) (k : K) → IsSegment name → get_or name 0 0 < 256
      → seek 0 ((slash ∷ rest, k) ∷ []) (slash ∷ rest) ≡ Some k
      → seek 0 ((param_token ∷ slash ∷ rest, k) ∷ []) (name ++ slash ∷ rest) ≡ Some k
  unfolding seek
  at_front [] rest k segment byte later = absurd (omega (arith, segment.some))
  at_front (b ∷ path) rest k segment byte later =
      let behind = slash ∷ rest in
      second _ (ap (λ rs. seek 0 rs (path ++ behind)) (no_byte b behind k byte) ∙ nothing 0 (path ++ behind))
      (ap (λ (found : ℕ × RowsOf K). seek (found.0 - 1) found.1 (path ++ behind)) (to_front (b ∷ path) rest k (cut_segment (b ∷ path) rest segment.one) segment.some)
      ∙ (ap (λ n. seek n ((behind, k) ∷ []) (path ++ behind)) (suc-sub-one (length path)) ∙ (skipped path ((behind, k) ∷ []) behind ∙ later)))

-- the pattern of the route that a path has in the table
abbrev pub found_at : List ℕ → Option Pattern
found_at path = option_map (λ (route : RouteOf Pattern). route.value) (first table path)

at_order : (name : List ℕ) → IsSegment name → get_or name 0 0 < 256 → found_at (codes "/orders/" ++ name) ≡ Some Order
unfolding table scan
at_order name segment byte =
    ap (option_map (λ (route : RouteOf Pattern). route.value)) (along (codes "/orders/") table name _ (at_name name _ segment byte))

at_revision : (name : List ℕ) → IsSegment name → get_or name 0 0 < 256
    → found_at (codes "/revision/" ++ (name ++ codes "/def")) ≡ Some Revision
unfolding table scan seek
at_revision name segment byte =
    ap (option_map (λ (route : RouteOf Pattern). route.value))
    (along (codes "/revision/") table (name ++ codes "/def") _ (at_front name (codes "def") _ segment byte refl))

plain_digits : (ds : List ℕ) → AreDigits ds → IsPlain ds
plain_digits [] digits = All-nil (λ b. b ≢ 47)
plain_digits (d ∷ ds) digits =
    let parts : (is_ascii_digit d ≡ true) × AreDigits ds = both _ _ digits in
    let here : d ≢ 47 = λ same. absurd (omega (arith, (digit_range d parts.0).0)) in
    All-cons (λ b. b ≢ 47) d ds here (plain_digits ds parts.1)

first_digit : (ds : List ℕ) → AreDigits ds → get_or ds 0 0 < 256
first_digit [] digits = omega arith
first_digit (d ∷ ds) digits = omega (arith, (digit_range d (both _ _ digits).0).1)

-- the digits of a number are a segment
decimal_segment : (n : ℕ) → n < 2 ^ 64 → IsSegment (decimal n)
decimal_segment n small = record {
  some = decimal_nonempty n small;
  one = plain_digits (decimal n) (digits_decimal own n small);
}

-- what the table has at the path of a route
pub finds : (route : Route) (path : List ℕ) → ((i : ℕ) → get_or path i 0 < 256) → IsPathOf route path
    → found_at path ≡ Some (pattern_of route)
unfolding table matchit_on_literals
finds route.Front path bytes is = ap found_at is
finds route.Spares path bytes is = ap found_at is
finds (route.Order place) path bytes (name, segment, is, start, len) =
    ap found_at is ∙ at_order name segment (subst (λ p. get_or p 8 0 < 256) is (bytes 8))
finds (route.Revision n) path bytes (small, is) =
    ap found_at is
    ∙ at_revision (decimal n) (decimal_segment n small) (first_digit (decimal n) (digits_decimal own n small))
finds route.Plan path bytes is = ap found_at is
finds route.Commit path bytes is = ap found_at is
finds route.Withdraw path bytes is = ap found_at is
finds route.Hold path bytes is = ap found_at is
finds route.Release path bytes is = ap found_at is
