-- Joints by their distances, one more after the others.
use Rattle.std.proofs.Common.{ℕ, suc, ◌+◌, ◌<◌, ◌≡◌, List, [], ◌∷◌, ◌++◌, length, take, get_or, refl, sym, ap, ◌∙◌}
use Rattle.std.proofs.lemmas.List.{take_more}
use Rattle.eco_def.specs.declared.design.Joint.{Joint}
use Rattle.eco_def.specs.declared.near.NearJoint.{NearJoint}
use Rattle.eco_def.specs.Near.{joint_behind, joints_behind}

-- the end of the last one
unfoldable pub place_behind : ℕ → List NearJoint → ℕ
place_behind from [] = from
place_behind from (n ∷ ns) = place_behind (joint_behind from n).end ns

pub one_more_near : (from : ℕ) (ns : List NearJoint) (n : NearJoint) → joints_behind from (ns ++ n ∷ []) ≡ joints_behind from ns ++ joint_behind (place_behind from ns) n ∷ []
unfolding joints_behind place_behind
one_more_near from [] n = refl
one_more_near from (m ∷ ns) n = ap (λ js. joint_behind from m ∷ js) (one_more_near (joint_behind from m).end ns n)

pub one_more_place : (from : ℕ) (ns : List NearJoint) (n : NearJoint) → place_behind from (ns ++ n ∷ []) ≡ (joint_behind (place_behind from ns) n).end
unfolding place_behind
one_more_place from [] n = refl
one_more_place from (m ∷ ns) n = one_more_place (joint_behind from m).end ns n

pub as_many : (from : ℕ) (ns : List NearJoint) → length (joints_behind from ns) ≡ length ns
unfolding joints_behind
as_many from [] = refl
as_many from (n ∷ ns) = ap suc (as_many (joint_behind from n).end ns)

-- one more of some joints is kept after those before it
pub one_more_kept : (from : ℕ) (ns more : List NearJoint) (n : NearJoint) (js : List Joint) (i : ℕ) (d : Joint) (place : ℕ) →
    i < length js → more ≡ ns ++ n ∷ [] → joints_behind from ns ≡ take i js → place ≡ place_behind from ns → joint_behind place n ≡ get_or js i d →
    (joints_behind from more ≡ take (i + 1) js) × ((get_or js i d).end ≡ place_behind from more)
one_more_kept from ns more n js i d place lt e kept at is =
    let here : joint_behind (place_behind from ns) n ≡ get_or js i d = ap (λ p. joint_behind p n) (sym at) ∙ is in (
      ap (joints_behind from) e ∙ one_more_near from ns n ∙ (λ k. kept k ++ here k ∷ []) ∙ sym (take_more js i d lt),
      ap (λ j. j.end) (sym here) ∙ sym (one_more_place from ns n) ∙ sym (ap (place_behind from) e),
    )
