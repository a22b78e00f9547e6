-- What is issued where nothing changes.
use Rattle.std.specs.List.{AllByRecursion, filter, flat_map, list_all}
use Rattle.std.specs.Str.{bytes_eq}
use Rattle.std.proofs.Common.{◌≡◌, ℕ, ◌-◌, ◌≤◌, nat_lt, Bool, true, false, not, ◌&&◌, ◌||◌, List, [], ◌∷◌, ◌++◌, length, map, slice_range, Ok, refl, ap, ap₂, sym, ◌∙◌, arith, if◌then◌else◌, codes}
use Rattle.std.proofs.lemmas.Bool.{and_parts}
use Rattle.eco_def.specs.Design.{Joint, Net, NetSection, Design}
use Rattle.eco_def.specs.Named.{NamedJoint, NamedNet, NamedDesign, joint_names, net_names, names_of}
use Rattle.eco_def.specs.Grammar.{design_of}
use Rattle.eco_common.specs.Joints.{NewJoint}
use Rattle.eco_issued_laws.specs.Changes.{Fresh, Changes, pin_precedes, precedes, in_order, is_joint_of, stays_on, stands, has_statement, pin_joint, new_pins, is_nil, once_each, stated_first, fresh_nets, changes_of}
use Rattle.eco_issued_laws.specs.Issued.{Edit, joint_words, tail_text, kept_text, stays_whole, statement_text, net_text, count_text, fresh_text, net_edit, special_edits, section_edits, nets_first, edits, edited, issued_text}
use Rattle.eco_issued_laws.specs.Printing.{spaced}
use Rattle.eco_issued_laws.specs.Withdrawals.{NothingIssued, is_only_on, stands_there, StandingIssued}
use Rattle.eco_issued_laws.proofs.QuietEdits.{IsQuiet, empty_slice, all_quiet}
use Rattle.eco_issued_laws.proofs.Sorting.{all_join}
use Rattle.eco_issued_laws.proofs.Within.{outside}

-- ---- no joints and no nets

all_true : {A : Type 0} (xs : List A) → list_all (λ x. true) xs ≡ true
all_true [] = refl
all_true (x ∷ xs) = all_true xs

none_pass : {A : Type 0} (p : A → Bool) (xs : List A) → filter (λ x. p x && false) xs ≡ []
none_pass p [] = refl
none_pass {A} p (x ∷ xs) = ap (λ b. if b then x ∷ filter (λ x. p x && false) xs else filter (λ x. p x && false) xs) (never (p x)) ∙ none_pass p xs
  where
    never : (b : Bool) → (b && false) ≡ false
    never true = refl
    never false = refl

-- nothing changes in the nets of a design
module _ (text : List ℕ) (d : NamedDesign) where
  abbrev none : Changes
  none = changes_of d [] []

  no_fresh : none.fresh ≡ []
  no_fresh = ap (λ ns. map (λ name. let f : Fresh = record { name = name; joints = new_pins d [] name } in f) (in_order precedes ns)) (none_pass (λ net. not (has_statement (d.special ++ d.nets) net)) (once_each (map (λ p. p.net) d.pins)))

  quiet_net : (special : Bool) (s : Net) → IsQuiet text (net_edit text none special s)
  quiet_net special s =
      ap (λ b. if b && is_nil (none.added special s.name.bytes) then slice_range text s.start s.end else changed) (all_true s.joints)
      ∙ go (special && has_statement d.nets s.name.bytes)
    where
      changed : List ℕ
      changed = statement_text text (none.stays s.name.bytes) (none.added special s.name.bytes) special s

      go : (b : Bool) → (if is_nil (if b then [] else new_pins d [] s.name.bytes) then slice_range text s.start s.end else changed) ≡ slice_range text s.start s.end
      go true = refl
      go false = refl

  quiet_nets : (special : Bool) (ss : List Net) → AllByRecursion (IsQuiet text) (map (net_edit text none special) ss)
  quiet_nets special [] = tt
  quiet_nets special (s ∷ ss) = (quiet_net special s, quiet_nets special ss)

  quiet_section : (s : NetSection) → AllByRecursion (IsQuiet text) (section_edits text none s)
  quiet_section s = (
    ap (count_text text none s) no_fresh,
    all_join (IsQuiet text) (map (net_edit text none false) s.nets) ((let e : Edit = record { start = s.end; end = s.end; bytes = flat_map fresh_text none.fresh } in e) ∷ []) (quiet_nets false s.nets) (ap (flat_map fresh_text) no_fresh ∙ sym (empty_slice text s.end), tt),
  )

quiet_edits : (text : List ℕ) (d : Design) → AllByRecursion (IsQuiet text) (edits text (changes_of (names_of d) [] []) d)
quiet_edits text d = go (nets_first d.special d.nets)
  where
    go : (b : Bool) → AllByRecursion (IsQuiet text) (if b then section_edits text (none text (names_of d)) d.nets ++ special_edits text (none text (names_of d)) d.special else special_edits text (none text (names_of d)) d.special ++ section_edits text (none text (names_of d)) d.nets)
    go true = all_join (IsQuiet text) (section_edits text (none text (names_of d)) d.nets) (special_edits text (none text (names_of d)) d.special) (quiet_section text (names_of d) d.nets) (quiet_nets text (names_of d) true d.special)
    go false = all_join (IsQuiet text) (special_edits text (none text (names_of d)) d.special) (section_edits text (none text (names_of d)) d.nets) (quiet_nets text (names_of d) true d.special) (quiet_section text (names_of d) d.nets)

pub nothing_issued : NothingIssued
nothing_issued text d is =
    let o = changes_of (names_of d) [] [] in
    all_quiet text 0 0 (length text) (edits text o d) (quiet_edits text d) (omega arith) (outside text d o is)

-- ---- a joint that stands already

-- a joint stays exactly where it did
stay_same : (n : NewJoint) (joints : List NewJoint) (net : List ℕ) (j : NamedJoint) → (not (is_joint_of n j) || bytes_eq n.net net) ≡ true → stays_on (n ∷ joints) net j ≡ stays_on joints net j
stay_same n joints net j e = ap (λ b. b && stays_on joints net j) e

all_same : {A : Type 0} (p q : A → Bool) (xs : List A) → AllByRecursion (λ x. p x ≡ q x) xs → list_all p xs ≡ list_all q xs
all_same p q [] all = refl
all_same p q (x ∷ xs) all = ap₂ (λ a b. a && b) all.0 (all_same p q xs all.1)

kept_same : (text : List ℕ) (p q : NamedJoint → Bool) (js : List Joint) → AllByRecursion (λ j. p (joint_names j) ≡ q (joint_names j)) js → flat_map (kept_text text p) js ≡ flat_map (kept_text text q) js
kept_same text p q [] all = refl
kept_same text p q (j ∷ js) all = ap₂ (λ xs ys. xs ++ ys) (ap (λ b. if b then 32 ∷ slice_range text j.start j.end else []) all.0) (kept_same text p q js all.1)

module _ (text : List ℕ) (d : NamedDesign) (n : NewJoint) (joints : List NewJoint) (nets : List (List ℕ)) (stand : stands (d.special ++ d.nets) n ≡ true) where
  abbrev more : Changes
  more = changes_of d (n ∷ joints) nets

  abbrev fewer : Changes
  fewer = changes_of d joints nets

  -- the pin is none that comes
  pins_same : (net : List ℕ) → new_pins d (n ∷ joints) net ≡ new_pins d joints net
  pins_same net = go (bytes_eq n.net net)
    where
      rest : List NewJoint
      rest = filter (λ m. bytes_eq m.net net && not (stands (d.special ++ d.nets) m)) joints

      go : (b : Bool) → in_order pin_precedes (map pin_joint (if b && not (stands (d.special ++ d.nets) n) then n ∷ filter (λ m. bytes_eq m.net net && not (stands (d.special ++ d.nets) m)) joints else filter (λ m. bytes_eq m.net net && not (stands (d.special ++ d.nets) m)) joints)) ≡ new_pins d joints net
      go true = ap (λ b. in_order pin_precedes (map pin_joint (if not b then n ∷ filter (λ m. bytes_eq m.net net && not (stands (d.special ++ d.nets) m)) joints else filter (λ m. bytes_eq m.net net && not (stands (d.special ++ d.nets) m)) joints))) stand
      go false = refl

  stated_same : stated_first d (n ∷ joints) ≡ stated_first d joints
  stated_same = go (once_each (map (λ p. p.net) d.pins))
    where
      go : (ns : List (List ℕ)) → filter (λ net. not (has_statement (d.special ++ d.nets) net) && not (is_nil (new_pins d (n ∷ joints) net))) ns ≡ filter (λ net. not (has_statement (d.special ++ d.nets) net) && not (is_nil (new_pins d joints net))) ns
      go [] = refl
      go (m ∷ ms) = ap₂ (λ ps zs. if not (has_statement (d.special ++ d.nets) m) && not (is_nil ps) then m ∷ zs else zs) (pins_same m) (go ms)

  fresh_same : more.fresh ≡ fewer.fresh
  fresh_same = ap (λ ns. map (λ name. let f : Fresh = record { name = name; joints = new_pins d (n ∷ joints) name } in f) (in_order precedes (nets ++ ns))) stated_same ∙ each (in_order precedes (nets ++ stated_first d joints))
    where
      each : (ns : List (List ℕ)) → map (λ name. let f : Fresh = record { name = name; joints = new_pins d (n ∷ joints) name } in f) ns ≡ map (λ name. let f : Fresh = record { name = name; joints = new_pins d joints name } in f) ns
      each [] = refl
      each (m ∷ ms) = ap₂ (λ ps zs. (let f : Fresh = record { name = m; joints = ps } in f) ∷ zs) (pins_same m) (each ms)

  added_same : (special : Bool) (net : List ℕ) → more.added special net ≡ fewer.added special net
  added_same special net = ap (λ ps. if special && has_statement d.nets net then [] else ps) (pins_same net)

  stays_same : (s : Net) (js : List Joint) → list_all (λ j. not (is_joint_of n j) || bytes_eq n.net s.name.bytes) (map joint_names js) ≡ true → AllByRecursion (λ j. more.stays s.name.bytes (joint_names j) ≡ fewer.stays s.name.bytes (joint_names j)) js
  stays_same s [] e = tt
  stays_same s (j ∷ js) e =
      let b = and_parts (not (is_joint_of n (joint_names j)) || bytes_eq n.net s.name.bytes) (list_all (λ j. not (is_joint_of n j) || bytes_eq n.net s.name.bytes) (map joint_names js)) e in
      (stay_same n joints s.name.bytes (joint_names j) b.0, stays_same s js b.1)

  net_same : (special : Bool) (s : Net) → is_only_on n (net_names s) ≡ true → net_edit text more special s ≡ net_edit text fewer special s
  net_same special s only =
      let each = stays_same s s.joints only in
      let whole : stays_whole more special s ≡ stays_whole fewer special s =
      ap₂ (λ b ps. b && is_nil ps) (all_same (λ j. more.stays s.name.bytes (joint_names j)) (λ j. fewer.stays s.name.bytes (joint_names j)) s.joints each) (added_same special s.name.bytes) in
      let kept = kept_same text (more.stays s.name.bytes) (fewer.stays s.name.bytes) s.joints each in
      ap (λ bytes. let e : Edit = record { start = s.start; end = s.end; bytes = bytes } in e)
      (ap (λ b. if b then slice_range text s.start s.end else statement_text text (more.stays s.name.bytes) (more.added special s.name.bytes) special s) whole
      ∙ ap (λ ps. if stays_whole fewer special s then slice_range text s.start s.end else statement_text text (more.stays s.name.bytes) ps special s) (added_same special s.name.bytes)
      ∙ ap (λ ks. if stays_whole fewer special s then slice_range text s.start s.end else with_kept special s ks) kept)
    where
      with_kept : Bool → Net → List ℕ → List ℕ
      with_kept special s ks = codes "-" ++ (spaced (s.name.bytes ∷ []) ++ (ks ++ (spaced (flat_map joint_words (fewer.added special s.name.bytes)) ++ tail_text text special s)))

  nets_same : (special : Bool) (ss : List Net) → list_all (is_only_on n) (map net_names ss) ≡ true → map (net_edit text more special) ss ≡ map (net_edit text fewer special) ss
  nets_same special [] only = refl
  nets_same special (s ∷ ss) only = let b = and_parts (is_only_on n (net_names s)) (list_all (is_only_on n) (map net_names ss)) only in ap₂ (λ e es. e ∷ es) (net_same special s b.0) (nets_same special ss b.1)

  section_same : (s : NetSection) → list_all (is_only_on n) (map net_names s.nets) ≡ true → section_edits text more s ≡ section_edits text fewer s
  section_same s only =
      ap (λ fs. (let e : Edit = record { start = s.count.start; end = s.count.end; bytes = count_text text more s fs } in e) ∷ (map (net_edit text more false) s.nets ++ (let e : Edit = record { start = s.end; end = s.end; bytes = flat_map fresh_text fs } in e) ∷ [])) fresh_same
      ∙ ap (λ es. (let e : Edit = record { start = s.count.start; end = s.count.end; bytes = count_text text fewer s fewer.fresh } in e) ∷ (es ++ (let e : Edit = record { start = s.end; end = s.end; bytes = flat_map fresh_text fewer.fresh } in e) ∷ [])) (nets_same false s.nets only)

all_split : {A : Type 0} (p : A → Bool) (xs ys : List A) → list_all p (xs ++ ys) ≡ true → (list_all p xs ≡ true) × (list_all p ys ≡ true)
all_split p [] ys e = (refl, e)
all_split p (x ∷ xs) ys e = let b = and_parts (p x) (list_all p (xs ++ ys)) e in let r = all_split p xs ys b.1 in (ap₂ (λ a b. a && b) b.0 r.0, r.1)

pub standing_issued : StandingIssued
standing_issued text d n joints nets e =
    let D = names_of d in
    let b = and_parts (stands (D.special ++ D.nets) n) (list_all (is_only_on n) (D.special ++ D.nets)) e in
    let only = all_split (is_only_on n) D.special D.nets b.1 in
    ap (edited text 0)
    (ap₂ (λ xs ys. if nets_first d.special d.nets then ys ++ xs else xs ++ ys) (nets_same text D n joints nets b.0 true d.special only.0) (section_same text D n joints nets b.0 d.nets only.1))
