-- What limits keep: a text is read within them exactly where it has a design that keeps them.
use Rattle.std.proofs.Common.{◌≡◌, inl, inr, ℕ, suc, Some, List, [], length, Result, Ok, Err, refl, ap, sym, ◌∙◌, arith, not, codes}
use Rattle.eco_text.specs.Words.{Walk, walk_of}
use Rattle.eco_def.specs.declared.fault.DefFault.{DefFault}
use Rattle.eco_def.specs.declared.fault.DefFault.TheVariants.{Limit}
use Rattle.eco_def.specs.Parsing.{◌>>=◌, then_read, give, many_until, size}
use Rattle.eco_text.specs.Tokens.{is_word}
use Rattle.eco_def.specs.Design.{Part, Design}
use Rattle.eco_def.specs.Grammar.{have, part, end_design, joint_count, whole_room, parts_within, parts, design_read, design_of, reading_of}
use Rattle.eco_def.specs.Limits.{WithinLimits, LimitsKeep, FaultsStay, PartsKeep}
use Rattle.eco_def.proofs.Limited.{Limited, Gives, gives_then, gives_give, gives_all, no_value}
use Rattle.eco_def.proofs.LimitedParts.{gives_fresh, limited_parts}
use Rattle.eco_def.proofs.SectionsOnce.{Once, once_more, IsDesignOf, design_has}

-- all parts up to END
all_once : Gives Once (many_until (is_word (codes "END")) part)
all_once u = gives_all Part (λ w. not (is_word (codes "END") w)) part Once (λ before once v p w read. once_more before p once (gives_fresh (have before) v p w read)) (suc (size u)) [] (record { comps = refl; pins = refl; nets = refl; joints = refl }) u

gives_once_all : Gives Once parts
unfolding parts_within
gives_once_all u qs v is = go (many_until (is_word (codes "END")) part u) (λ ps v read. all_once u ps v read) is
  where
    go : (r : Result (List Part × Walk) DefFault) → ((ps : List Part) (v : Walk) → r ≡ Ok (ps, v) → Once ps) → then_read r (λ ps. end_design >>= λ end. give ps) ≡ Ok (qs, v) → Once qs
    go (Ok x) once is = gives_then Once end_design _ (λ end. gives_give Once x.0 (once x.0 x.1 refl)) x.1 qs v is
    go (Err e) once is = no_value e (qs, v) is

design_keeps : (ps : List Part) (d : Design) → IsDesignOf ps d → Once ps → PartsKeep ps → WithinLimits d
design_keeps ps d is once keep =
    let comps = ap length (is.comps ∙ sym once.comps) in
    let pins = ap length (is.pins ∙ sym once.pins) in
    let special = ap length is.special in
    let nets = ap length is.nets in
    let special-joints = ap joint_count is.special in
    let joints = ap joint_count is.nets in
    record {
      comps = omega (arith, comps, keep.comps);
      pins = omega (arith, pins, keep.pins);
      nets = omega (arith, special, nets, once.nets, keep.nets.nets);
      joints = omega (arith, special-joints, joints, once.joints, keep.nets.joints);
    }

parts_keep : (ps : List Part) (d : Design) → IsDesignOf ps d → Once ps → WithinLimits d → PartsKeep ps
parts_keep ps d is once within =
    let comps = ap length (is.comps ∙ sym once.comps) in
    let pins = ap length (is.pins ∙ sym once.pins) in
    let special = ap length is.special in
    let nets = ap length is.nets in
    let special-joints = ap joint_count is.special in
    let joints = ap joint_count is.nets in
    record {
      comps = omega (arith, comps, within.comps);
      pins = omega (arith, pins, within.pins);
      nets = record { nets = omega (arith, special, nets, once.nets, within.nets); joints = omega (arith, special-joints, joints, once.joints, within.joints) };
    }

abbrev Parsed : Type 0
Parsed = Result (List Part × Walk) DefFault

no_design : {C : Type 0} (e : DefFault) (d : Design) → Err e ≡ Ok d → C
no_design e d is = cc

fault_is : (e f : DefFault) → (◌≡◌ {A = Result Design DefFault} (Err e) (Err f)) → f ≡ e
fault_is e f is = cc

kept : (r s : Parsed) (d : Design) → Limited PartsKeep r s → ((ps : List Part) (v : Walk) → s ≡ Ok (ps, v) → Once ps) → design_read r ≡ Ok d → (design_read s ≡ Ok d) × WithinLimits d
kept r s d (inl l) once is = go s (ap design_read (sym l.0) ∙ is) once l.1
  where
    go : (s : Parsed) → design_read s ≡ Ok d → ((ps : List Part) (v : Walk) → s ≡ Ok (ps, v) → Once ps) → ((ps : List Part) (v : Walk) → s ≡ Ok (ps, v) → PartsKeep ps) → (design_read s ≡ Ok d) × WithinLimits d
    go (Ok x) is once keep = (is, design_keeps x.0 d (design_has x.0 d is) (once x.0 x.1 refl) (keep x.0 x.1 refl))
    go (Err e) is once keep = no_design e d is
kept r s d (inr l) once is = no_design (Limit l.0.0) d (ap design_read (sym l.0.1) ∙ is)

read_so : (r s : Parsed) (d : Design) → Limited PartsKeep r s → ((ps : List Part) (v : Walk) → s ≡ Ok (ps, v) → Once ps) → design_read s ≡ Ok d → WithinLimits d → design_read r ≡ Ok d
read_so r s d (inl l) once is within = ap design_read l.0 ∙ is
read_so r s d (inr l) once is within = go s is once l.1
  where
    go : (s : Parsed) → design_read s ≡ Ok d → ((ps : List Part) (v : Walk) → s ≡ Ok (ps, v) → Once ps) → ((ps : List Part) (v : Walk) → s ≡ Ok (ps, v) → PartsKeep ps → ⊥) → design_read r ≡ Ok d
    go (Ok x) is once none = absurd (none x.0 x.1 refl (parts_keep x.0 d (design_has x.0 d is) (once x.0 x.1 refl) within))
    go (Err e) is once none = no_design e d is

stays : (r s : Parsed) (fault : DefFault) → Limited PartsKeep r s → design_read r ≡ Err fault → ((place : ℕ) → fault ≡ Limit place → ⊥) → design_read s ≡ Err fault
stays r s fault (inl l) is none = ap design_read (sym l.0) ∙ is
stays r s fault (inr l) is none = absurd (none l.0.0 (fault_is (Limit l.0.0) fault (ap design_read (sym l.0.1) ∙ is)))

pub limits_kept : (text : List ℕ) (d : Design) → reading_of text ≡ Ok d → (design_of text ≡ Ok d) × WithinLimits d
limits_kept text d is = kept (parts_within (Some whole_room) (walk_of text)) (parts (walk_of text)) d (limited_parts (walk_of text)) (λ ps v read. gives_once_all (walk_of text) ps v read) is

pub limits_law : LimitsKeep
limits_law text d = (limits_kept text d, λ is. read_so (parts_within (Some whole_room) (walk_of text)) (parts (walk_of text)) d (limited_parts (walk_of text)) (λ ps v read. gives_once_all (walk_of text) ps v read) is.0 is.1)

pub faults_law : FaultsStay
faults_law text fault is none = stays (parts_within (Some whole_room) (walk_of text)) (parts (walk_of text)) fault (limited_parts (walk_of text)) is none
