-- The spare's input pins on the nets of their feeds, one after another
use Rattle.std.proofs.Common.{◌≡◌, ℕ, zero, suc, ◌<◌, List, [], ◌∷◌, ◌++◌, map, length, take, get_or, min, Option, Some, sym, ap, ◌∙◌, arith, append_assoc}
use Rattle.std.specs.List.{zip, cons_option}
use Rattle.std.specs.Option.{option_map}
use Rattle.std.proofs.Math.Seq.{take-length}
use Rattle.std.proofs.lemmas.List.{map_push}
use Rattle.std.proofs.lemmas.List.Elements.{filter_map-append}
use Rattle.std.proofs.lemmas.Slice.Zip.{length-zip}
use Rattle.eco_net.specs.Netlist.{Name}
use Rattle.eco_embed.specs.declared.feed.Feed.{Feed}
use Rattle.eco_patch_laws.specs.Orders.{PatchGate}
use Rattle.eco_patch_laws.specs.Realisation.{feed_net, feed_joints, on_pin}
use Rattle.eco_overlay.specs.declared.new_joint.NewJoint as code
use Rattle.eco_overlay.specs.PinMoves.{joint_by_names}

-- ---- pairs of two lists

pub zip_more : {A B : Type 0} (ks : List A) (vs : List B) (n : ℕ) (k : A) (v : B) → n < length ks → n < length vs → ((d : A) → k ≡ get_or ks n d) → ((d : B) → v ≡ get_or vs n d)
    → take (suc n) (zip ks vs) ≡ take n (zip ks vs) ++ (k, v) ∷ []
zip_more [] vs n k v i j e f = absurd (omega (arith, i))
zip_more (x ∷ ks) [] n k v i j e f = absurd (omega (arith, j))
zip_more {A = A} {B = B} (x ∷ ks) (y ∷ vs) zero k v i j e f = λ t. let p : A × B = (sym (e k) t, sym (f v) t) in p ∷ []
zip_more (x ∷ ks) (y ∷ vs) (suc n) k v i j e f = ap (λ ps. (x, y) ∷ ps) (zip_more ks vs n k v (omega (arith, i)) (omega (arith, j)) e f)

take_all : {A : Type 0} (xs : List A) (n : ℕ) → n ≡ length xs → take n xs ≡ xs
take_all xs n e = ap (λ k. take k xs) e ∙ take-length xs

pub zip_whole : {A B : Type 0} (ks : List A) (vs : List B) (n : ℕ) → n ≡ min (length ks) (length vs) → take n (zip ks vs) ≡ zip ks vs
zip_whole ks vs n e = take_all (zip ks vs) n (e ∙ sym (length-zip ks vs))

-- ---- joints

module _ (low high : Name) (g : PatchGate) (spare : Name) where
  -- one pin more
  pub fed_more : (pairs : List (Name × Feed)) (old : List code.NewJoint) (e : Name × Feed) (now new : List code.NewJoint)
      → map joint_by_names now ≡ map joint_by_names old ++ feed_joints low high g spare pairs
      → map joint_by_names new ≡ map joint_by_names now ++ feed_joints low high g spare (e ∷ [])
      → map joint_by_names new ≡ map joint_by_names old ++ feed_joints low high g spare (pairs ++ e ∷ [])
  fed_more pairs old e now new h s =
      s
      ∙ ap (λ js. js ++ feed_joints low high g spare (e ∷ [])) h
      ∙ append_assoc (map joint_by_names old) (feed_joints low high g spare pairs) (feed_joints low high g spare (e ∷ []))
      ∙ ap (λ js. map joint_by_names old ++ js) (sym (filter_map-append (λ e. option_map (on_pin spare e.0) (feed_net low high g.inputs e.1)) pairs (e ∷ [])))

-- one joint more
pub joint_more : (old new : List code.NewJoint) (j : code.NewJoint) (comp pin net : Name) (o : Option Name)
    → new ≡ old ++ j ∷ [] → j ≡ record { comp = comp; pin = pin; net = net } → Some net ≡ o
    → map joint_by_names new ≡ map joint_by_names old ++ cons_option (option_map (on_pin comp pin) o) []
joint_more old new j comp pin net o e s f =
    ap (map joint_by_names) e
    ∙ map_push joint_by_names old j
    ∙ ap (λ k. map joint_by_names old ++ joint_by_names k ∷ []) s
    ∙ ap (λ o. map joint_by_names old ++ cons_option (option_map (on_pin comp pin) o) []) f
