-- Each section stands once, so that the design has all that the parts have.
use Rattle.std.specs.List.{flat_map}
use Rattle.std.proofs.Common.{◌≡◌, ℕ, ◌+◌, false, List, [], ◌∷◌, ◌++◌, length, map, Option, Some, None, is_some, Ok, refl, ap, sym, ◌∙◌, arith, length-append, append-nil}
use Rattle.eco_common.specs.Options.{first_some}
use Rattle.eco_def.specs.Design.{Comp, Net, NetSection, Part, Passed, Units, Comps, Pins, Special, Nets, Design}
use Rattle.eco_def.specs.Grammar.{Kind, CompKind, PinKind, SpecialKind, NetKind, kind_of, same_kind, have, units_of, comps_of, pins_of, special_of, nets_of, last_some, or_none, design_from, parts_design}
use Rattle.eco_def.specs.Grammar.{joint_count, statements_of}
use Rattle.eco_def.specs.Limits.{comps_in, pins_in}
use Rattle.eco_def.proofs.LimitedParts.{Fresh, all_push}
use Rattle.eco_def.proofs.Rooms.{joint_count-append}
use Rattle.eco_def.proofs.Parts.{statements_push, first_stays, first_comes, have_some, comps_kind, pins_kind, special_kind, nets_kind}

abbrev pub nets_or_none : Option NetSection → List Net
nets_or_none None = []
nets_or_none (Some s) = s.nets

abbrev pub special_first : List Part → List Net
special_first ps = or_none (first_some (map special_of ps))

abbrev pub nets_first : List Part → List Net
nets_first ps = nets_or_none (first_some (map nets_of ps))

-- what the parts have is what the first of each kind has
pub record Once (ps : List Part) : Type 0 where
  pub comps : flat_map comps_in ps ≡ or_none (first_some (map comps_of ps))
  pub pins : flat_map pins_in ps ≡ or_none (first_some (map pins_of ps))
  pub nets : length (flat_map statements_of ps) ≡ length (special_first ps) + length (nets_first ps)
  pub joints : joint_count (flat_map statements_of ps) ≡ joint_count (special_first ps) + joint_count (nets_first ps)

empty_option : {A : Type 0} (o : Option A) → is_some o ≡ false → o ≡ None
empty_option None is = refl
empty_option (Some x) is = cc

none_yet : {A : Type 0} (f : Part → Option A) (k : Kind) (ps : List Part) → ((p : Part) → is_some (f p) ≡ same_kind k (kind_of p)) → have ps k ≡ false → first_some (map f ps) ≡ None
none_yet f k ps each off = empty_option (first_some (map f ps)) (have_some f k ps each ∙ off)

stay : {A : Type 0} (g : Part → List A) (o : Part → Option (List A)) (ps : List Part) (p : Part) → flat_map g ps ≡ or_none (first_some (map o ps)) → g p ≡ [] → o p ≡ None → flat_map g (ps ++ p ∷ []) ≡ or_none (first_some (map o (ps ++ p ∷ [])))
stay g o ps p so empty none = all_push g ps p ∙ ap (λ k. flat_map g ps ++ k) empty ∙ append-nil (flat_map g ps) ∙ so ∙ ap or_none (first_stays o ps p none)

come : {A : Type 0} (g : Part → List A) (o : Part → Option (List A)) (ps : List Part) (p : Part) → flat_map g ps ≡ or_none (first_some (map o ps)) → first_some (map o ps) ≡ None → o p ≡ Some (g p) → flat_map g (ps ++ p ∷ []) ≡ or_none (first_some (map o (ps ++ p ∷ [])))
come g o ps p so none has = all_push g ps p ∙ ap (λ k. k ++ g p) (so ∙ ap or_none none) ∙ ap or_none (sym has) ∙ ap or_none (first_comes o ps p none)

-- a count of statements: how many they are, or their joints
module _ (count : List Net → ℕ) (none : count [] ≡ 0) (joined : (ms ns : List Net) → count (ms ++ ns) ≡ count ms + count ns) where
  all_counted : (ps : List Part) (p : Part) → count (flat_map statements_of (ps ++ p ∷ [])) ≡ count (flat_map statements_of ps) + count (statements_of p)
  all_counted ps p = ap count (statements_push ps p) ∙ joined (flat_map statements_of ps) (statements_of p)

  counts_stay : (ps : List Part) (p : Part) → count (flat_map statements_of ps) ≡ count (special_first ps) + count (nets_first ps) → statements_of p ≡ [] → special_of p ≡ None → nets_of p ≡ None →
      count (flat_map statements_of (ps ++ p ∷ [])) ≡ count (special_first (ps ++ p ∷ [])) + count (nets_first (ps ++ p ∷ []))
  counts_stay ps p so empty no-special no-nets =
      let all = all_counted ps p in
      let more = ap count empty in
      let special = ap (λ o. count (or_none o)) (first_stays special_of ps p no-special) in
      let nets = ap (λ o. count (nets_or_none o)) (first_stays nets_of ps p no-nets) in
      omega (arith, so, none, all, more, special, nets)

  special_counts : (ps : List Part) (ns : List Net) → count (flat_map statements_of ps) ≡ count (special_first ps) + count (nets_first ps) → first_some (map special_of ps) ≡ None →
      count (flat_map statements_of (ps ++ Special ns ∷ [])) ≡ count (special_first (ps ++ Special ns ∷ [])) + count (nets_first (ps ++ Special ns ∷ []))
  special_counts ps ns so fresh =
      let all = all_counted ps (Special ns) in
      let before = ap (λ o. count (or_none o)) fresh in
      let special = ap (λ o. count (or_none o)) (first_comes special_of ps (Special ns) fresh) in
      let nets = ap (λ o. count (nets_or_none o)) (first_stays nets_of ps (Special ns) refl) in
      omega (arith, so, none, all, before, special, nets)

  nets_count : (ps : List Part) (s : NetSection) → count (flat_map statements_of ps) ≡ count (special_first ps) + count (nets_first ps) → first_some (map nets_of ps) ≡ None →
      count (flat_map statements_of (ps ++ Nets s ∷ [])) ≡ count (special_first (ps ++ Nets s ∷ [])) + count (nets_first (ps ++ Nets s ∷ []))
  nets_count ps s so fresh =
      let all = all_counted ps (Nets s) in
      let before = ap (λ o. count (nets_or_none o)) fresh in
      let special = ap (λ o. count (or_none o)) (first_stays special_of ps (Nets s) refl) in
      let nets = ap (λ o. count (nets_or_none o)) (first_comes nets_of ps (Nets s) fresh) in
      omega (arith, so, none, all, before, special, nets)

-- one part more, which is no section that has stood
pub once_more : (ps : List Part) (p : Part) → Once ps → Fresh (have ps) p → Once (ps ++ p ∷ [])
once_more ps Passed once fresh = record {
  comps = stay comps_in comps_of ps Passed once.comps refl refl;
  pins = stay pins_in pins_of ps Passed once.pins refl refl;
  nets = counts_stay length refl length-append ps Passed once.nets refl refl refl;
  joints = counts_stay joint_count refl joint_count-append ps Passed once.joints refl refl refl;
}
once_more ps (Units n) once fresh = record {
  comps = stay comps_in comps_of ps (Units n) once.comps refl refl;
  pins = stay pins_in pins_of ps (Units n) once.pins refl refl;
  nets = counts_stay length refl length-append ps (Units n) once.nets refl refl refl;
  joints = counts_stay joint_count refl joint_count-append ps (Units n) once.joints refl refl refl;
}
once_more ps (Comps cs) once fresh = record {
  comps = come comps_in comps_of ps (Comps cs) once.comps (none_yet comps_of CompKind ps comps_kind fresh) refl;
  pins = stay pins_in pins_of ps (Comps cs) once.pins refl refl;
  nets = counts_stay length refl length-append ps (Comps cs) once.nets refl refl refl;
  joints = counts_stay joint_count refl joint_count-append ps (Comps cs) once.joints refl refl refl;
}
once_more ps (Pins pins) once fresh = record {
  comps = stay comps_in comps_of ps (Pins pins) once.comps refl refl;
  pins = come pins_in pins_of ps (Pins pins) once.pins (none_yet pins_of PinKind ps pins_kind fresh) refl;
  nets = counts_stay length refl length-append ps (Pins pins) once.nets refl refl refl;
  joints = counts_stay joint_count refl joint_count-append ps (Pins pins) once.joints refl refl refl;
}
once_more ps (Special ns) once fresh = record {
  comps = stay comps_in comps_of ps (Special ns) once.comps refl refl;
  pins = stay pins_in pins_of ps (Special ns) once.pins refl refl;
  nets = special_counts length refl length-append ps ns once.nets (none_yet special_of SpecialKind ps special_kind fresh);
  joints = special_counts joint_count refl joint_count-append ps ns once.joints (none_yet special_of SpecialKind ps special_kind fresh);
}
once_more ps (Nets s) once fresh = record {
  comps = stay comps_in comps_of ps (Nets s) once.comps refl refl;
  pins = stay pins_in pins_of ps (Nets s) once.pins refl refl;
  nets = nets_count length refl length-append ps s once.nets (none_yet nets_of NetKind ps nets_kind fresh);
  joints = nets_count joint_count refl joint_count-append ps s once.joints (none_yet nets_of NetKind ps nets_kind fresh);
}

-- what the design of parts has
pub record IsDesignOf (ps : List Part) (d : Design) : Type 0 where
  pub comps : d.comps ≡ or_none (first_some (map comps_of ps))
  pub pins : d.pins ≡ or_none (first_some (map pins_of ps))
  pub special : d.special ≡ special_first ps
  pub nets : d.nets.nets ≡ nets_first ps

pub design_has : (ps : List Part) (d : Design) → parts_design ps ≡ Ok d → IsDesignOf ps d
design_has ps d is = go (last_some (map units_of ps)) (first_some (map comps_of ps)) (first_some (map nets_of ps)) refl refl is
  where
    go : (units : Option ℕ) (comps : Option (List Comp)) (nets : Option NetSection) → first_some (map comps_of ps) ≡ comps → first_some (map nets_of ps) ≡ nets → design_from ps units comps nets ≡ Ok d → IsDesignOf ps d
    go None comps nets c n is = cc
    go (Some u) None nets c n is = cc
    go (Some u) (Some cs) None c n is = cc
    go (Some u) (Some cs) (Some s) c n is =
        let same : d ≡ (let e : Design = record { units = u; comps = cs; pins = or_none (first_some (map pins_of ps)); special = or_none (first_some (map special_of ps)); nets = s } in e) = cc in
        record {
          comps = ap (λ e. e.comps) same ∙ ap or_none (sym c);
          pins = ap (λ e. e.pins) same;
          special = ap (λ e. e.special) same;
          nets = ap (λ e. e.nets.nets) same ∙ ap nets_or_none (sym n);
        }
